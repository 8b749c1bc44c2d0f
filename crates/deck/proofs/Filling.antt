-- A clean byte that fills the open block, and a flagged byte: the code's tests, and that they do what `byte` does.
use Prim.Native.Nat.{ℕ, ◌+◌, ◌≤◌, ◌<◌}
use mathlib.Core.Path.{◌≡◌, refl, sym, ap, ◌∙◌}
use mathlib.Core.Bool.{Bool, true, false, not, ◌&&◌, and_assoc, and-false, false≢true}
use mathlib.Core.List.{List, [], ◌∷◌, ◌++◌}
use native.Mathlib.Decide.{dec_lt}
use native.Mathlib.Omega.{arith}
use borrow.Author.Tests.{lt-ltb, le-ltb, le-leb, lt-leb, eq-eqb, ne_eqb, ltb-false, leb-true, not-true}
use lib.Dec.{eqb, leb, ltb}
use lib.ListN.{length}
use Rattle.std.proofs.lemmas.Bool.{and_parts}
use Rattle.std.proofs.Common.{Result, Ok, Err}
use Rattle.std.specs.Result.{IsErrAnd}
use Rattle.refusal.specs.declared.Refusal.{Refusal}
use Rattle.refusal.specs.Numbers.{number_of}
use Rattle.execute.specs.Execute.{execute}
use Rattle.deck.specs.declared.Answer.{Answer as Answered}
use Rattle.deck.specs.declared.Deck.{Deck as Held}
use Rattle.deck.specs.Line.{Event, byte, silently, timed_out, looked, in_quiet, size, replied, answers}
use Rattle.deck.specs.Calls.{refusal, number, view, Returned, returned, Answers}
use Rattle.deck.specs.Joins.{grows, fills, filling, striking, unanswered, OnlyIf}
use Rattle.deck.proofs.Steps.{look-nothing, answers-clean}
use Rattle.deck.proofs.Held.{not-first, gets-full}

-- ---- the tests of the code

ltb-not : (a b : ℕ) → ltb a b ≡ not (leb b a)
ltb-not a b = go (dec_lt a b)
  where
    go : Dec (a < b) → ltb a b ≡ not (leb b a)
    go (yes h) = lt-ltb a b h ∙ sym (ap not (lt-leb b a h))
    go (no h) = le-ltb a b (omega arith) ∙ sym (ap not (le-leb b a (omega arith)))

-- whether a byte is heard, and whether a clean one ends the block
module _ (d : Held) (t b : ℕ) (heard ends : Bool) (h : heard ≡ not (timed_out (view d) t) && not (in_quiet (view d) t))
    (e : ends ≡ leb (size ((view d).block ++ b ∷ [])) (length (view d).block + 1)) where
  pub fills-is : fills (view d) t b ≡ heard && ends
  unfolding fills
  fills-is = rw (h, e) (sym (and_assoc (not (timed_out (view d) t)) _ _))

  pub grows-is : grows (view d) t b ≡ heard && not ends
  unfolding grows
  grows-is = rw (h, e, ltb-not (length (view d).block + 1) (size ((view d).block ++ b ∷ []))) (sym (and_assoc (not (timed_out (view d) t)) _ _))

-- what is heard finds no time-out and is not in quiet
pub heard-parts : (d : Held) (t : ℕ) → true ≡ not (timed_out (view d) t) && not (in_quiet (view d) t)
    → (timed_out (view d) t ≡ false) × (d.free ≤ t)
heard-parts d t h =
    let p = and_parts (not (timed_out (view d) t)) _ (sym h) in
    (not-true (timed_out (view d) t) p.0, ltb-false t d.free (not-true (in_quiet (view d) t) p.1))

-- ---- what a byte that fills the block has

module _ (d : Held) (t b : ℕ) (g : fills (view d) t b ≡ true) where
  parts : (timed_out (view d) t ≡ false) × (in_quiet (view d) t ≡ false)
      × (leb (size ((view d).block ++ b ∷ [])) (length (view d).block + 1) ≡ true)
  unfolding fills
  parts =
      let p = and_parts (not (timed_out (view d) t)) _ g in
      let q = and_parts (not (in_quiet (view d) t)) _ p.1 in
      (not-true (timed_out (view d) t) p.0, not-true (in_quiet (view d) t) q.0, q.1)

  pub fills-looked : looked (view d) t ≡ silently (view d)
  fills-looked = look-nothing (view d) t parts.0

  pub fills-heard : d.free ≤ t
  fills-heard = ltb-false t d.free parts.1

  long : size ((view d).block ++ b ∷ []) ≤ length (view d).block + 1
  long = leb-true _ _ parts.2

  pub fills-open : d.held ≡ 0 → ⊥
  fills-open h = omega (arith, not-first d.held d.first b d.tail long)

  pub fills-answers : answers (view d) (byte t b 0) ≡ replied (view d) t (execute d.settings ((view d).block ++ b ∷ []))
  fills-answers =
      answers-clean (view d) t b fills-looked fills-heard
      ∙ gets-full d t b long

-- ---- the call

-- where it is not so
pub rests-only : (so : Bool) (d : Held) (e : Event) (entry : List ℕ) (n : ℕ) → so ≡ false
    → n ≡ number (length entry) d.clock e → OnlyIf so d e entry (unanswered n d) entry
rests-only so d e entry n p f =
    record { does = λ y. absurd (false≢true (sym p ∙ y)); rests = λ _. (ap (λ (k : ℕ). unanswered k d) f, refl) }

pub refused-only : (so : Bool) (d : Held) (e : Event) (entry : List ℕ) (r : Result Answered Refusal) (why : Refusal) → so ≡ false
    → IsErrAnd r (λ x. x ≡ why) → number_of why ≡ number (length entry) d.clock e → OnlyIf so d e entry (returned d r) entry
refused-only so d e entry (Ok r) why p x f = absurd x
refused-only so d e entry (Err y) why p x f = rests-only so d e entry (number_of y) p (ap number_of x ∙ f)

-- where it is
pub does-only : (so : Bool) (d : Held) (e : Event) (entry : List ℕ) (r : Returned) (exit : List ℕ) → so ≡ true
    → Answers d e entry r exit → OnlyIf so d e entry r exit
does-only so d e entry r exit p a = record { does = λ _. a; rests = λ y. absurd (false≢true (sym y ∙ p)) }

module _ (room : ℕ) (d : Held) (t b n : ℕ) (f : n ≡ refusal room d.clock t 0 0) where
  pub filling-refused : (n ≡ 0 → ⊥) → filling room d t b ≡ false
  unfolding filling
  filling-refused z = rw (← f, ne_eqb n 0 z)

  pub filling-is : n ≡ 0 → (x : Bool) → x ≡ fills (view d) t b → filling room d t b ≡ x
  unfolding filling
  filling-is z x g = rw (← f, eq-eqb n 0 z) (sym g)

module _ (room : ℕ) (d : Held) (t flags n : ℕ) (f : n ≡ refusal room d.clock t flags 0) where
  pub striking-refused : (n ≡ 0 → ⊥) → striking room d t flags ≡ false
  unfolding striking
  striking-refused z = rw (← f, ne_eqb n 0 z)

  -- by the code's tests
  pub striking-is : n ≡ 0 → (heard : Bool) → heard ≡ not (timed_out (view d) t) && not (in_quiet (view d) t)
      → striking room d t flags ≡ not (eqb flags 0) && heard
  unfolding striking
  striking-is z heard h = rw (← f, eq-eqb n 0 z, h)

  pub striking-dropped : t < d.free → striking room d t flags ≡ false
  unfolding striking
  striking-dropped h = rw (lt-ltb t d.free h, and-false, and-false, and-false)

  pub striking-heard : n ≡ 0 → (flags ≡ 0 → ⊥) → d.free ≤ t → timed_out (view d) t ≡ false → striking room d t flags ≡ true
  unfolding striking
  striking-heard z o h l = rw (← f, eq-eqb n 0 z, ne_eqb flags 0 o, le-ltb t d.free h, l)
