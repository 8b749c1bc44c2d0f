-- The code's test of an exercise holds exactly for exercises.
use Prim.Native.Nat.{ℕ, ◌≤◌}
use mathlib.Core.Path.{◌≡◌, refl}
use mathlib.Core.Bool.{Bool, true, false, not}
use mathlib.Core.Logic.{◌↔◌}
use mathlib.Core.List.{List, [], ◌∷◌, cons≢nil}
use native.Mathlib.Omega.{arith}
use borrow.Author.Tests.{not-true, le-leb, leb-true}
use Rattle.std.proofs.lemmas.Bool.{and_parts}
use Rattle.record.specs.declared.Entry.{Entry}
use Rattle.record.specs.Entries.{WellFormed, formed, keep, is_deck, of_kind, from_deck, All, First}
use Rattle.record.proofs.Lists.{true_of, Ordered, ordered-of-steps, steps-of-ordered}
use Rattle.completion.specs.Completed.{Exercise}
use Rattle.completion.specs.Calls.{follows, all_follow}

-- ---- one entry

-- it may come after an entry at t
pub record Follows (t : ℕ) (e : Entry) : Type 0 where
  pub no_deck : is_deck e.kind ≡ false
  pub later : t ≤ e.time
  pub form : formed e ≡ true

pub follows_is : {t : ℕ} {e : Entry} → follows t e ≡ true → Follows t e
unfolding follows
follows_is {t} {e} p =
    let x = and_parts (not (is_deck e.kind)) _ p in
    let y = and_parts _ (formed e) x.1 in
    record { no_deck = not-true (is_deck e.kind) x.0; later = leb-true t e.time y.0; form = y.1 }

is-follows : {t : ℕ} {e : Entry} → Follows t e → follows t e ≡ true
unfolding follows
is-follows {t} {e} x = rw (x.no_deck, le-leb t e.time x.later, x.form)

-- ---- and those after it

pub all-follow-is : (t : ℕ) (e : Entry) (es : List Entry) → all_follow t (e ∷ es) ≡ true
    → Follows t e × (all_follow e.time es ≡ true)
unfolding all_follow
all-follow-is t e es p = let x = and_parts (follows t e) _ p in (follows_is x.0, x.1)

-- the three claims on an exercise, from t on
abbrev From : ℕ → List Entry → Type 0
From t es = All WellFormed es × (from_deck es ≡ []) × Ordered t es

kept-none : (b : Bool) (e : Entry) (es : List Entry) → keep b e es ≡ [] → (b ≡ false) × (es ≡ [])
kept-none true e es p = absurd (cons≢nil p)
kept-none false e es p = (refl, p)

is-from : (t : ℕ) (es : List Entry) → all_follow t es ≡ true → From t es
unfolding of_kind
is-from t [] p = (tt, refl, tt)
is-from t (e ∷ es) p =
    let (x, q) = all-follow-is t e es p in
    let (f, n, o) = is-from e.time es q in
    ((rw x.form tt, f), rw x.no_deck n, (x.later, o))

from_is : (t : ℕ) (es : List Entry) → From t es → all_follow t es ≡ true
unfolding all_follow of_kind
from_is t [] x = refl
from_is t (e ∷ es) (f, n, o) =
    let (k, m) = kept-none (is_deck e.kind) e (from_deck es) n in
    rw (is-follows (record { no_deck = k; later = o.0; form = true_of (formed e) f.0 }), from_is e.time es (f.1, m, o.1))

pub exercise-exactly : (es : List Entry) → (all_follow 0 es ≡ true) ↔ Exercise es
exercise-exactly es = (there, back)
  where
    first : (l : List Entry) → First (λ e. 0 ≤ e.time) l
    first [] = tt
    first (e ∷ l) = omega arith

    there : all_follow 0 es ≡ true → Exercise es
    there p = let (f, n, o) = is-from 0 es p in record { formed = f; no_deck = n; ordered = steps-of-ordered 0 es o }

    back : Exercise es → all_follow 0 es ≡ true
    back x = from_is 0 es (x.formed, x.no_deck, ordered-of-steps 0 es (first es) x.ordered)
