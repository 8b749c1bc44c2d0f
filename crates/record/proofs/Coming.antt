-- A reply on its way: what has come of it, the latest time of its next byte, and its quiet as the deck keeps it.
use Prim.Native.Nat.{ℕ, ◌+◌, ◌≤◌, ◌<◌}
use mathlib.Core.Path.{◌≡◌, refl}
use mathlib.Core.Logic.{◌↔◌}
use mathlib.Core.Bool.{Bool, true, false, false≢true}
use mathlib.Core.List.{List, [], ◌∷◌, ◌++◌}
use native.Mathlib.Omega.{arith}
use Rattle.deck.specs.Line.{Reply, free_after}
use Rattle.deck.proofs.Cases.{expiry}
use Rattle.record.specs.declared.Entry.{Entry}
use Rattle.record.specs.Entries.{controller, from_deck, contents, All, First, Steps}
use Rattle.record.specs.Turns.{Near, OnTime, InQuiet}
use Rattle.record.specs.Marks.{latest}
use Rattle.record.proofs.Lists.{first-map}

-- `tail` is what has come of the reply r, and the controller entries in its quiet; the bytes `left` are still to come
pub record Comes (tail : List Entry) (left : List ℕ) (r : Reply) : Type 0 where
  pub on_time : OnTime r.due (from_deck tail)
  pub bytes : contents (from_deck tail) ++ left ≡ r.bytes
  pub others : All (λ e. InQuiet r e.time) (controller tail)

-- the latest time of the next byte
abbrev pub deadline : Reply → List Entry → ℕ
deadline r tail = latest (r.due + 9000) (from_deck tail)

-- deck bytes come in time, the first by `lat`
abbrev pub Timely : ℕ → List Entry → Type 0
Timely lat es = First (λ e. e.time ≤ lat) es × Steps Near es

pub timely : (due : ℕ) (es : List Entry) → OnTime due es → Timely (due + 9000) es
timely due es y =
    (first-map (λ e. (due ≤ e.time) × (e.time ≤ due + 9000)) (λ e. e.time ≤ due + 9000) es (λ e h. h.1) y.first, y.later)

-- ---- the quiet

-- from t on the quiet of r is the times below f: those at which the deck drops bytes
abbrev pub QuietFrom : Reply → (f t : ℕ) → Type 0
QuietFrom r f t = (x : ℕ) → t ≤ x → InQuiet r x ↔ (x < f)

-- the reply to a byte at t, with the deck free from f on before it
pub quiet-replied : (q : Bool) (bytes : List ℕ) (t f : ℕ) → f ≤ t
    → QuietFrom (record { bytes = bytes; due = t; quiets = q }) (free_after q t f) t
quiet-replied true bytes t f h x g = (λ i. omega arith, λ i. record { opens = refl; inside = omega arith })
quiet-replied false bytes t f h x g = (λ i. absurd (false≢true i.opens), λ i. absurd (omega arith))

-- a time-out's
pub quiet-expiry : (l t : ℕ) → QuietFrom (expiry l) (l + 10001 + 10001) t
quiet-expiry l t x g = (λ i. omega arith, λ i. record { opens = refl; inside = omega arith })

pub dropped-of-quiet : (r : Reply) (f t : ℕ) (es : List Entry) → QuietFrom r f t → All (λ e. t ≤ e.time) es
    → All (λ e. InQuiet r e.time) es → All (λ e. e.time < f) es
dropped-of-quiet r f t [] q u v = tt
dropped-of-quiet r f t (e ∷ es) q u v = ((q e.time u.0).0 v.0, dropped-of-quiet r f t es q u.1 v.1)

pub quiet-of-dropped : (r : Reply) (f t : ℕ) (es : List Entry) → QuietFrom r f t → All (λ e. t ≤ e.time) es
    → All (λ e. e.time < f) es → All (λ e. InQuiet r e.time) es
quiet-of-dropped r f t [] q u v = tt
quiet-of-dropped r f t (e ∷ es) q u v = ((q e.time u.0).1 v.0, quiet-of-dropped r f t es q u.1 v.1)
