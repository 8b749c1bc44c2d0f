-- A clean byte that joins the open block: the code's tests, and that it does what `byte` does.
use Prim.Native.Nat.{ℕ, ◌+◌, ◌≤◌, ◌<◌, ◌^◌}
use mathlib.Core.Path.{◌≡◌, refl, sym, ap, ◌∙◌}
use mathlib.Core.Bool.{Bool, true, false, cond, not}
use mathlib.Core.List.{[], ◌∷◌, ◌++◌}
use native.Mathlib.Omega.{arith}
use borrow.Author.Tests.{eq-eqb, ne_eqb, eqb-true, ltb-true, ltb-false, not-true}
use lib.Dec.{eqb, ltb}
use lib.ListN.{length}
use Rattle.std.proofs.lemmas.Bool.{and_parts}
use Rattle.deck.specs.declared.Deck.{Deck as Held}
use Rattle.deck.specs.Line.{byte, silently, timed_out, looked, in_quiet, size, answers}
use Rattle.deck.specs.Calls.{refusal, view, Made}
use Rattle.deck.specs.Joins.{grows, joins, filling, grown, with_clock, Tried, joining}
use Rattle.deck.proofs.Steps.{look-nothing, answers-clean}
use Rattle.deck.proofs.Held.{few-open, stays_open}
use Rattle.deck.proofs.Made.{made_so, made_more}
use Rattle.deck.proofs.Numbers.{passed}

-- ---- what a byte that joins has

module _ (d : Held) (t b : ℕ) (g : grows (view d) t b ≡ true) where
  parts : (timed_out (view d) t ≡ false) × (in_quiet (view d) t ≡ false)
      × (ltb (length (view d).block + 1) (size ((view d).block ++ b ∷ [])) ≡ true)
  unfolding grows
  parts =
      let p = and_parts (not (timed_out (view d) t)) _ g in
      let q = and_parts (not (in_quiet (view d) t)) _ p.1 in
      (not-true (timed_out (view d) t) p.0, not-true (in_quiet (view d) t) q.0, q.1)

  pub grows-looked : looked (view d) t ≡ silently (view d)
  grows-looked = look-nothing (view d) t parts.0

  pub grows-heard : d.free ≤ t
  grows-heard = ltb-false t d.free parts.1

  short : length (view d).block + 1 < size ((view d).block ++ b ∷ [])
  short = ltb-true _ _ parts.2

  pub grows-few : d.held ≤ 16
  grows-few = few-open d t b short

  -- it does what `byte` does
  pub grows-answers : b < 256 → answers (view d) (byte t b 0) ≡ silently (view (grown d t b))
  grows-answers h =
      answers-clean (view d) t b grows-looked grows-heard
      ∙ stays_open d t b h short

-- ---- the call

-- what is not refused is in time, and does not go back
pub allowed : (room clock time flags place : ℕ) → refusal room clock time flags place ≡ 0 → (time < 2 ^ 48) × (clock ≤ time)
unfolding refusal
allowed room clock time flags place z =
    let p = passed 0 _ (ltb room 18) z in
    let q = passed 1 _ (ltb 281_474_976_710_655 time) p.1 in
    let r = passed 2 _ (ltb time clock) q.1 in
    (omega (arith, ltb-false 281_474_976_710_655 time q.0), ltb-false time clock r.0)

module _ (d : Held) (t b : ℕ) where
  -- by its number, and then by the code's test
  module _ (n : ℕ) (f : n ≡ refusal 18 d.clock t 0 0) where
    pub joins-refused : (n ≡ 0 → ⊥) → joins d t b ≡ false
    unfolding joins
    joins-refused z = rw (← f, ne_eqb n 0 z)

    pub joins-taken : n ≡ 0 → (x : Bool) → x ≡ grows (view d) t b → joins d t b ≡ x
    unfolding joins
    joins-taken z x g = rw (← f, eq-eqb n 0 z) (sym g)

  -- by its parts
  pub joining-is : (n : ℕ) (x y : Bool) → n ≡ refusal 18 d.clock t 0 0 → joins d t b ≡ x → filling 18 d t b ≡ y
      → joining d t b ≡ record { no = n; taken = x; fills = y; deck = cond x (grown (with_clock t d) t b) d }
  unfolding joining
  joining-is n x y f p q = rw (f, p, q)

  -- it says by `taken` whether it joins
  pub joining-taken : (joining d t b).taken ≡ joins d t b
  joining-taken = ap (λ (j : Tried). j.taken) (joining-is _ (joins d t b) _ refl refl refl)

  pub joining-fills : (joining d t b).fills ≡ filling 18 d t b
  joining-fills = ap (λ (j : Tried). j.fills) (joining-is _ _ (filling 18 d t b) refl refl refl)

  module _ (j : joins d t b ≡ true) where
    pub joins-grows : grows (view d) t b ≡ true
    unfolding joins
    joins-grows = (and_parts (eqb (refusal 18 d.clock t 0 0) 0) _ j).1

    pub joins-range : (t < 2 ^ 48) × (d.clock ≤ t)
    unfolding joins
    joins-range = allowed 18 d.clock t 0 0 (eqb-true _ _ (and_parts (eqb (refusal 18 d.clock t 0 0) 0) _ j).0)

    pub joins-deck : (joining d t b).deck ≡ grown (with_clock t d) t b
    joins-deck = ap (λ (k : Tried). k.deck) (joining-is _ true _ refl j refl)

    pub joins-answers : b < 256 → answers (view d) (byte t b 0) ≡ silently (view (joining d t b).deck)
    joins-answers h = rw joins-deck (grows-answers d t b joins-grows h)

  pub joining-made : b < 256 → Made d → Made (joining d t b).deck
  joining-made h m = go (joins d t b) refl
    where
      go : (x : Bool) → joins d t b ≡ x → Made (joining d t b).deck
      go true p =
          rw (joins-deck p)
          (made_more (with_clock t d) t b h (grows-few d t b (joins-grows p)) (made_so d (with_clock t d) refl refl refl m))
      go false p = rw (joining-is _ false _ refl p refl) m
