-- `verdict::put_turns` meets its contract: the lines of the starts that the loop has passed are put.
use Rattle.std.specs.Prelude.{Ok}
use lib.ListN.{take}
use Rattle.text.specs.Puts.{Adds}
use Rattle.report.specs.Verdict.{turn_lines}
use Rattle.report.proofs.verdict.put_turns.Given as goal

abbrev pub invariant-loop-start : goal.invariant-loop-start
invariant-loop-start l = Adds l.initial.page (turn_lines (take l.start-index l.starts)) l.page (Ok (tt {0}))
