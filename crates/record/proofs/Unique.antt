-- Demand 3 leaves one answer: whatever meets it on a record has the same fault, place and turn starts. Only the turn rules are
-- used here, and not the automaton.
use Prim.Native.Nat.{ℕ, zero, suc, ◌≤◌, ◌<◌}
use mathlib.Core.Path.{◌≡◌, refl, sym, ◌∙◌}
use mathlib.Core.Logic.{◌⊎◌, inl, inr}
use mathlib.Core.List.{List, [], ◌∷◌, ◌++◌, append_assoc}
use native.Mathlib.Omega.{arith}
use lib.ListN.{length, take, drop, get_or, take-append-drop}
use lib.Seq.{take-suc, take-take, drop-cons}
use Rattle.std.proofs.lemmas.Bool.{cases_lt}
use Rattle.record.specs.declared.Entry.{Entry}
use Rattle.record.specs.Bytes.{no_entry}
use Rattle.record.specs.Marks.{Extends, faults, FirstOf, FaultAt, Marked, Demand3}

-- ---- the place

-- where i entries stand at the front of j that begin a sound record, they begin one too
begins-too : (es : List Entry) (i j : ℕ) → i ≤ j → Extends (take j es) → Extends (take i es)
begins-too es i j h x =
    let a = take i (take j es) in
    let b = drop i (take j es) in
    rw (← (take-take i j es h))
    (record { more = b ++ x.more; sound = rw (← (append_assoc a b x.more), take-append-drop i (take j es)) x.sound })

-- the entries before the later place would get past the earlier one
no-earlier : {es : List Entry} {f p g q : ℕ} {ss ts : List ℕ} → Demand3 es f p ss → Demand3 es g q ts → p < q → ⊥
no-earlier {es} {f} {p} {g} {q} a b h =
    let l : p < length es = omega (arith, b.within) in
    let x : Extends (take (suc p) es) = begins-too es (suc p) q h b.marked.extends in
    a.marked.stops (get_or es p no_entry) (drop (suc p) es) (drop-cons es p no_entry l) (rw (take-suc es p no_entry l) at x)

same_place : {es : List Entry} {f p g q : ℕ} {ss ts : List ℕ} → Demand3 es f p ss → Demand3 es g q ts → p ≡ q
same_place {es} {f} {p} {g} {q} a b = go (cases_lt p q) (cases_lt q p)
  where
    go : (p < q) ⊎ (q ≤ p) → (q < p) ⊎ (p ≤ q) → p ≡ q
    go (inl h) k = absurd (no-earlier a b h)
    go (inr h) (inl k) = absurd (no-earlier b a k)
    go (inr h) (inr k) = omega arith

-- ---- the fault

-- of any list of pairs
one-first : (cs : List (ℕ × Type 0)) {f g : ℕ} → FirstOf cs f → FirstOf cs g → f ≡ g
one-first [] a b = absurd a
one-first (c ∷ cs) (inl a) (inl b) = a.1 ∙ sym b.1
one-first (c ∷ cs) (inl a) (inr b) = absurd (b.0 a.0)
one-first (c ∷ cs) (inr a) (inl b) = absurd (a.0 b.0)
one-first (c ∷ cs) (inr a) (inr b) = one-first cs a.1 b.1

one_number : (before from : List Entry) {f g : ℕ} → FaultAt before from f → FaultAt before from g → f ≡ g
one_number before [] a b = a ∙ sym b
one_number before (e ∷ from) a b = one-first (faults before e) a b

module _ {before from : List Entry} {ss ts : List ℕ} where
  -- 0 exactly if the record is sound
  same-fault : (f g : ℕ) → Marked before from f ss → Marked before from g ts → f ≡ g
  same-fault zero g a b = sym (b.sound.1 (a.sound.0 refl))
  same-fault (suc f) zero a b = a.sound.1 (b.sound.0 refl)
  same-fault (suc f) (suc g) a b = one_number before from (a.number (λ z. omega arith)) (b.number (λ z. omega arith))

  -- ---- the turn starts

  -- both are those of one sound record that begins with the entries before the place
  same-starts : {f g : ℕ} → Marked before from f ss → Marked before from g ts → ss ≡ ts
  same-starts a b =
      let x = a.extends in
      a.begun x.more x.sound ∙ sym (b.begun x.more x.sound)

-- ---- the whole

pub one_answer : {es : List Entry} {f p g q : ℕ} {ss ts : List ℕ} → Demand3 es f p ss → Demand3 es g q ts
    → (f ≡ g) × (p ≡ q) × (ss ≡ ts)
one_answer {es} {f} {p} {g} a b =
    let e = same_place a b in
    let c = rw (← e) at b.marked in
    (same-fault f g a.marked c, e, same-starts a.marked c)
