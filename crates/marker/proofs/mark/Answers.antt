-- `mark` meets its contract.
use mathlib.Core.Path.{refl, sym, ◌∙◌}
use native.Mathlib.Omega.{arith}
use Rattle.record.proofs.Bytes.{record-short}
use Rattle.marker.proofs.Taken.{no_record, no_room, fit, refuses, takes}
use Rattle.marker.proofs.mark.Goals as goal

pub returns-then-not-is_record : goal.returns-then-not-is_record
returns-then-not-is_record c =
    refuses c.args.bytes.now c.args.table.now 10 (no_record _ _ (sym c.is_record.ensures ∙ c.if-not-is_record.true)) (λ z. omega arith)

pub returns-then-table-bytes : goal.returns-then-table-bytes
returns-then-table-bytes c =
    refuses c.args.bytes.now c.args.table.now 1
    (no_room _ _ (sym c.is_record.ensures ∙ c.if-not-is_record.false) c.if-table-bytes.true) (λ z. omega arith)

pub run-requires : goal.run-requires
run-requires c =
    record {
      short = record-short _ (sym c.is_record.ensures ∙ c.if-not-is_record.false);
      room = c.if-table-bytes.false;
    }

pub returns : goal.returns
returns c =
    takes c.args.bytes.now c.args.table.now 0
    (fit _ _ (sym c.is_record.ensures ∙ c.if-not-is_record.false) c.if-table-bytes.false) refl _ _ c.run.ensures
