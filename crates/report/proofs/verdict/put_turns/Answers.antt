-- `verdict::put_turns` meets its contract: the lines of the starts that the loop has passed are put.
use lib.Seq.{take_all}
use Rattle.text.proofs.Writing.{adds, nothing, behind, stops}
use Rattle.report.specs.Verdict.{turn_lines}
use Rattle.report.proofs.Lines.{turns_more, turns_around}
use Rattle.report.proofs.verdict.put_turns.Goals as goal

pub loop-start-init : goal.loop-start-init
unfolding turn_lines
loop-start-init c = nothing _

pub loop-start-preserved : goal.loop-start-preserved
loop-start-preserved c =
    let w = rw (c.in_ok-line.was, c.from.ensures) at c.line.ensures in
    rw (turns_more c.args.starts.now c.loop-start.start-index c.loop-start-test.true) (behind c.loop-start.invariant (adds w))

pub returns-in_err-line : goal.returns-in_err-line
returns-in_err-line c =
    rw (turns_around c.args.starts.now c.loop-start.start-index c.loop-start-test.true)
    (behind c.loop-start.invariant (stops (rw c.from.ensures at (adds c.line.ensures)) c.in_err-line.was _ _))

pub returns : goal.returns
returns c = rw (take_all c.loop-start.start-index c.args.starts.now c.loop-start-test.false) at c.loop-start.invariant
