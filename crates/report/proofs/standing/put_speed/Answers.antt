-- `standing::put_speed` meets its contract.
use mathlib.Core.Path.{ap, ◌∙◌}
use lib.IntN.{nat_abs}
use mir.Syntax.{w32}
use mir.ValLaws.{to_z-of_z}
use Rattle.text.proofs.Writing.{adds}
use Rattle.report.specs.Transcript.{speed_line}
use Rattle.speed.proofs.Sizes.{backward, forward}
use Rattle.report.proofs.standing.put_speed.Goals as goal
use Rattle.report.proofs.standing.put_speed.Goals.{then-v-lt0, else-v-lt0}

pub returns : goal.returns
unfolding speed_line
returns c =
    let v = c.args.v in
    let fits = c.ranges.v in
    elim c.if-v-lt0.branch [
      | then-v-lt0 w ↦
          let e = backward v fits w.if-v-lt0.true in
          let n = c.size.ensures ∙ ap nat_abs (to_z-of_z w32 v fits ∙ e) in
          rw e (rw (w.line-is, n) at (adds c.line.ensures))
      | else-v-lt0 w ↦
          let e = forward v fits w.if-v-lt0.false in
          let n = c.size.ensures ∙ ap nat_abs (to_z-of_z w32 v fits ∙ e) in
          rw e (rw (w.line-is, n) at (adds c.line.ensures))
    ]
