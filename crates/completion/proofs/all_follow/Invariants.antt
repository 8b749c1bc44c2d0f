-- `all_follow` meets its contract: what is left follows exactly if all do.
use mathlib.Core.Path.{◌≡◌}
use Rattle.record.specs.Bytes.{entries_of}
use Rattle.cursor.specs.Cursors.{entries_left}
use Rattle.completion.specs.Calls.{all_follow}
use Rattle.completion.proofs.all_follow.Given as goal

abbrev pub invariant-loop-e : goal.invariant-loop-e
invariant-loop-e l =
    (all_follow l.time (entries_left l.e-iterator) ≡ all_follow 0 (entries_of l.bytes))
    × (goal.iterator-loop-e).can_next l.e-iterator × (goal.iterator-loop-e).is_finite l.e-iterator
