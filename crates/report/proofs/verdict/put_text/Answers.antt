-- `verdict::put_text` meets its contract.
use borrow.Author.Tests.{eq-eqb, ne_eqb}
use Rattle.text.proofs.Writing.{adds, behind, stops}
use Rattle.report.specs.Verdict.{text_of}
use Rattle.report.proofs.verdict.put_text.Goals as goal

pub returns-then-marked-ne0 : goal.returns-then-marked-ne0
unfolding text_of
returns-then-marked-ne0 c = rw (ne_eqb _ _ c.if-marked-ne0.true) (rw c.from.ensures at (adds c.line.ensures))

pub returns-in_err-put_verdict : goal.returns-in_err-put_verdict
unfolding text_of
returns-in_err-put_verdict c =
    rw (eq-eqb _ _ c.if-marked-ne0.false) (stops c.put_verdict.ensures c.in_err-put_verdict.was _ _)

pub returns : goal.returns
unfolding text_of
returns c = rw (eq-eqb _ _ c.if-marked-ne0.false) (behind c.put_verdict.ensures c.put_turns.ensures)
