-- Time-out, as the code tests it.
use Prim.Native.Nat.{ℕ, ◌+◌, ◌<◌}
use mathlib.Core.Bool.{true}
use mathlib.Core.Path.{◌≡◌}
use borrow.Author.Tests.{ltb-true}
use Rattle.std.proofs.lemmas.Bool.{and_parts}
use Rattle.execute.specs.Replies.{time_out}
use Rattle.deck.specs.Line.{Deck, Answer, is_open, timed_out, voided}

-- the time-out NAK is due before it is found
pub overdue : (d : Deck) (t : ℕ) → timed_out d t ≡ true → d.last + 10000 < t
overdue d t e = ltb-true (d.last + 10000) t (and_parts (is_open d.block) _ e).1

-- what a time-out comes to
abbrev pub missed : Deck → Answer
missed d = voided d time_out (d.last + 10001)
