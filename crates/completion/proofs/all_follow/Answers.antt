-- `all_follow` meets its contract: what is left follows exactly if all do.
use mathlib.Core.Path.{sym, ◌∙◌}
use Rattle.cursor.proofs.Places.{comes}
use Rattle.completion.proofs.Following.{all-on}
use Rattle.completion.proofs.all_follow.Goals as goal

pub loop-e-preserved : goal.loop-e-preserved
loop-e-preserved c =
    let l = c.loop-e in
    let v = rw (comes l.e-iterator c.in-Some.ensures.steps) at l.invariant.0 in
    (all-on l.time c.in-Some.e _ (sym c.follows.ensures ∙ c.if-not-follows.false) ∙ v, tt, tt)
