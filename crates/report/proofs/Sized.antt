-- The lengths of the replies to one event: 18 bytes together at most, and none is empty.
use Prim.Native.Nat.{◌+◌, ◌≤◌, ◌<◌}
use mathlib.Core.List.{List, [], ◌∷◌}
use native.Mathlib.Omega.{arith}
use lib.ListN.{length}
use Rattle.deck.specs.Line.{Event, Deck, Reply, says}
use Rattle.deck.specs.Events.{Few, none, one, late, two}
use Rattle.deck.proofs.Replies.{few-replies}

-- none, one, or two
abbrev pub Sized : List Reply → Type 0
Sized [] = Unit
Sized (r ∷ []) = (0 < length r.bytes) × (length r.bytes ≤ 18)
Sized (r ∷ s ∷ []) = (0 < length r.bytes) × (0 < length s.bytes) × (length r.bytes + length s.bytes ≤ 18)
Sized (r ∷ s ∷ q ∷ rs) = ⊥

few-sized : {d : Deck} {e : Event} {rs : List Reply} → Few d e rs → Sized rs
few-sized none = tt
few-sized (one r p h k) = (omega arith, k)
few-sized (late h) = (omega arith, omega arith)
few-sized (two h f) = (omega arith, omega arith, omega arith)

pub says-sized : (d : Deck) (e : Event) → Sized (says d e)
says-sized d e = few-sized (few-replies d e)
