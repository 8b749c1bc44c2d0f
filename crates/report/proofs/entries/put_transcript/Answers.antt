-- `put_transcript` meets its contract.
use mathlib.Core.Path.{sym, ◌∙◌}
use Rattle.text.proofs.Writing.{adds}
use Rattle.report.specs.Transcript.{transcript}
use Rattle.report.proofs.entries.put_transcript.Goals as goal

pub returns-then-not-is_record : goal.returns-then-not-is_record
unfolding transcript
returns-then-not-is_record c = let e = sym c.is_record.ensures ∙ c.if-not-is_record.true in rw e (rw (c.from.ensures, c.number.ensures) at (adds c.line.ensures))

pub returns : goal.returns
unfolding transcript
returns c = let e = sym c.is_record.ensures ∙ c.if-not-is_record.false in rw e c.put_record.ensures
