-- Whether a record follows, entry by entry.
use Prim.Native.Nat.{ℕ}
use mathlib.Core.Path.{◌≡◌}
use mathlib.Core.Bool.{true}
use mathlib.Core.List.{List, ◌∷◌}
use Rattle.record.specs.declared.Entry.{Entry}
use Rattle.completion.specs.Calls.{follows, all_follow}

pub all-on : (t : ℕ) (e : Entry) (es : List Entry) → follows t e ≡ true → all_follow e.time es ≡ all_follow t (e ∷ es)
unfolding all_follow
all-on t e es p = rw p
