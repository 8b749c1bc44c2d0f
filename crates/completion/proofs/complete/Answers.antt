-- `complete` meets its contract.
use mathlib.Core.Path.{refl, sym}
use native.Mathlib.Omega.{arith}
use Rattle.std.proofs.lemmas.Result.{err_from_is_err_and}
use Rattle.std.proofs.lemmas.Grind.{common_steps}
use Rattle.completion.proofs.Whole.{call-refused, call-follows, never, call-answered}
use Rattle.completion.proofs.complete.Goals as goal

pub returns-in_err-refusal-clause-answer : goal.returns-in_err-refusal-clause-answer
returns-in_err-refusal-clause-answer c =
    let a = c.args in
    let p = err_from_is_err_and c.from_residual.result c.from_residual.ensures.1 in
    rw (p.1, p.2) (call-refused a.bytes.now a.out.now c.in_err-refusal.field-0.0 c.in_err-refusal.ensures).0

pub returns-in_err-refusal-clause-output : goal.returns-in_err-refusal-clause-output
returns-in_err-refusal-clause-output c =
    let a = c.args in
    (call-refused a.bytes.now a.out.now c.in_err-refusal.field-0.0 c.in_err-refusal.ensures).1

pub put_record-requires : goal.put_record-requires
put_record-requires c = let a = c.args in call-follows a.bytes.now a.out.now (sym c.in_ok-refusal.ensures)

pub returns-in_err-put_record-clause-answer : goal.returns-in_err-put_record-clause-answer
returns-in_err-put_record-clause-answer c =
    let a = c.args in
    absurd (never a.bytes.now a.out.now (sym c.in_ok-refusal.ensures) c.put_record.ensures refl refl c.in_err-put_record.was)

pub returns-in_err-put_record-clause-output : goal.returns-in_err-put_record-clause-output
returns-in_err-put_record-clause-output c =
    let a = c.args in
    absurd (never a.bytes.now a.out.now (sym c.in_ok-refusal.ensures) c.put_record.ensures refl refl c.in_err-put_record.was)

pub returns-clause-answer : goal.returns-clause-answer
returns-clause-answer c =
    let a = c.args in
    (call-answered a.bytes.now a.out.now (sym c.in_ok-refusal.ensures) c.put_record.ensures refl refl).0

pub returns-clause-output : goal.returns-clause-output
returns-clause-output c =
    let a = c.args in
    let same = sym c.put_record.ensures.same in
    let put = (call-answered a.bytes.now a.out.now (sym c.in_ok-refusal.ensures) c.put_record.ensures refl refl).1 in
    grind (arith, common_steps)
