-- The tests after the look, as the code makes them.
use Prim.Native.Nat.{ℕ, zero, suc, ◌≤◌, ◌<◌}
use mathlib.Core.Path.{◌≡◌, refl, ap}
use mathlib.Core.Bool.{true, false, not, ◌&&◌, and-false}
use mathlib.Core.List.{List, [], ◌∷◌}
use native.Mathlib.Omega.{arith}
use borrow.Author.Tests.{lt-ltb, le-ltb, le-leb, eq-eqb, ne_eqb}
use lib.Dec.{eqb}
use lib.ListN.{get_or}
use Rattle.packed.specs.declared.Tail.{Tail}
use Rattle.deck.specs.Line.{Deck, is_open}
use Rattle.deck.specs.Calls.{open_block}
use Rattle.record.specs.declared.Entry.{Entry}
use Rattle.record.specs.Machine.{Waiting, some, first_true}
use Rattle.marker.specs.Steps.{front, late_fault}
use Rattle.std.specs.Prelude.{Option, Some, None, cond, ltb, leb}
use Rattle.record.specs.declared.kind.Kind.{Kind}
use Rattle.record.specs.declared.kind.Kind.TheVariants.{Controller, Deck as DeckByte, Position, Cassette}
use Rattle.record.specs.Entries.{kind_of, is_controller, is_deck}
use Rattle.marker.proofs.Forms.{no-deck}

-- no byte is held
pub shut : (n first : ℕ) (t : Tail) → n ≡ 0 → is_open (open_block n first t) ≡ false
shut n first t e = ap (λ (k : ℕ). is_open (open_block k first t)) e

-- and a block is open where one is
pub none-held : (n first : ℕ) (t : Tail) → eqb n 0 ≡ not (is_open (open_block n first t))
none-held zero first t = refl
none-held (suc n) first t = ne_eqb (suc n) 0 (λ z. omega arith)

-- ---- the tests by the next awaited byte and the kind of the entry

abbrev unasked : Option Kind → ℕ
unasked (Some Controller) = 0
unasked (Some DeckByte) = 22
unasked (Some Position) = 0
unasked (Some Cassette) = 0
unasked None = 0

abbrev in-time : Option Kind → ℕ → Deck → Entry → ℕ
in-time (Some Controller) b d e = cond (leb d.free e.time) 25 0
in-time (Some DeckByte) b d e = cond (not (eqb e.content b)) 23 0
in-time (Some Position) b d e = 0
in-time (Some Cassette) b d e = 0
in-time None b d e = 0

abbrev late_as : Option ℕ → Option Kind → Deck → ℕ → Entry → ℕ
late_as None k d t e = unasked k
late_as (Some b) k d t e = cond (ltb t e.time) 24 (in-time k b d e)

pub late_by : (d : Deck) (w : Waiting) (e : Entry) → late_fault d w e ≡ late_as (front w.left) (kind_of e.kind) d w.latest e
unfolding late_fault
late_by d w e = go e.kind w.left
  where
    go : (k : ℕ) (l : List ℕ)
        → first_true (
        (24, some l && ltb w.latest e.time)
        ∷ (22, is_deck k && not (some l))
        ∷ (23, is_deck k && not (eqb e.content (get_or l 0 0)))
        ∷ (25, is_controller k && (some l && leb d.free e.time))
        ∷ []) ≡ late_as (front l) (kind_of k) d w.latest e
    go zero [] = refl
    go zero (b ∷ l) = refl
    go (suc zero) [] = refl
    go (suc zero) (b ∷ l) = refl
    go (suc (suc zero)) [] = refl
    go (suc (suc zero)) (b ∷ l) = refl
    go (suc (suc (suc zero))) [] = refl
    go (suc (suc (suc zero))) (b ∷ l) = refl
    go (suc (suc (suc (suc k)))) [] = refl
    go (suc (suc (suc (suc k)))) (b ∷ l) = refl

module _ (d : Deck) (w : Waiting) (e : Entry) where
  pub none-awaited : some w.left ≡ false → (e.kind ≡ 1 → ⊥) → late_fault d w e ≡ 0
  unfolding late_fault
  none-awaited s k = rw (s, no-deck e.kind k, and-false)

  module _ (s : some w.left ≡ true) where
    pub overdue : w.latest < e.time → late_fault d w e ≡ 24
    unfolding late_fault
    overdue l = rw (s, lt-ltb w.latest e.time l)

    pub agrees : e.time ≤ w.latest → e.kind ≡ 1 → e.content ≡ get_or w.left 0 0 → late_fault d w e ≡ 0
    unfolding late_fault
    agrees l k c = rw (s, le-ltb w.latest e.time l, k, eq-eqb e.content (get_or w.left 0 0) c)

    pub interrupts : e.time ≤ w.latest → e.kind ≡ 0 → d.free ≤ e.time → late_fault d w e ≡ 25
    unfolding late_fault
    interrupts l k f = rw (s, le-ltb w.latest e.time l, k, le-leb d.free e.time f)
