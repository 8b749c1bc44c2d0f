-- `verdict::put_verdict` meets its contract.
use borrow.Author.Tests.{eq-eqb, ne_eqb}
use Rattle.text.proofs.Writing.{adds}
use Rattle.report.specs.Verdict.{verdict_line}
use Rattle.report.proofs.verdict.put_verdict.Goals as goal

pub returns-then-marked-eq0 : goal.returns-then-marked-eq0
unfolding verdict_line
returns-then-marked-eq0 c = rw (eq-eqb _ _ c.if-marked-eq0.true) (adds c.line.ensures)

pub returns-else-marked-eq0 : goal.returns-else-marked-eq0
unfolding verdict_line
returns-else-marked-eq0 c = rw (ne_eqb _ _ c.if-marked-eq0.false) (rw c.from.ensures at (adds c.at_line.ensures))
