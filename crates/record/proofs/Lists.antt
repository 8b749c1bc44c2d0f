-- Lists of entries: kinds, orders, times; and lists of bytes.
use Prim.Native.Nat.{ℕ, ◌≤◌}
use mathlib.Core.Path.{◌≡◌, refl}
use mathlib.Core.List.{List, [], ◌∷◌, ◌++◌}
use mathlib.Core.Bool.{Bool, true, false, ◌&&◌}
use native.Mathlib.Omega.{arith}
use lib.Dec.{T}
use Rattle.record.specs.declared.Entry.{Entry}
use Rattle.record.specs.Entries.{All, First, Steps, keep, last_time, of_kind}

pub true_of : (b : Bool) → T b → b ≡ true
true_of true h = refl
true_of false h = absurd h

pub and_left : (a b : Bool) → T (a && b) → T a
and_left true b h = tt
and_left false b h = h

pub and_right : (a b : Bool) → T (a && b) → T b
and_right true b h = h
and_right false b h = absurd h

pub and_both : (a b : Bool) → T a → T b → T (a && b)
and_both true b h k = k
and_both false b h k = h

-- ---- of a kind

pub keep_append : {A : Type 0} (x : Bool) (a : A) (l m : List A) → keep x a (l ++ m) ≡ keep x a l ++ m
keep_append true a l m = refl
keep_append false a l m = refl

pub of_kind-append : (p : ℕ → Bool) (a b : List Entry) → of_kind p (a ++ b) ≡ of_kind p a ++ of_kind p b
unfolding of_kind
of_kind-append p [] b = refl
of_kind-append p (e ∷ a) b = rw (of_kind-append p a b, keep_append)

-- ---- First and All

pub first-left : (P : Entry → Type 0) (a b : List Entry) → First P (a ++ b) → First P a
first-left P [] b h = tt
first-left P (e ∷ a) b h = h

pub first-map : (P Q : Entry → Type 0) (a : List Entry) → ((e : Entry) → P e → Q e) → First P a → First Q a
first-map P Q [] f h = tt
first-map P Q (e ∷ a) f h = f e h

pub first-zip : (P Q R : Entry → Type 0) (a : List Entry) → ((e : Entry) → P e → Q e → R e) → First P a → First Q a → First R a
first-zip P Q R [] f h k = tt
first-zip P Q R (e ∷ a) f h k = f e h k

pub first-append : (P : Entry → Type 0) (a b : List Entry) → First P a → First P b → First P (a ++ b)
first-append P [] b h k = k
first-append P (e ∷ a) b h k = h

all_first : (P : Entry → Type 0) (a : List Entry) → All P a → First P a
all_first P [] h = tt
all_first P (e ∷ a) h = h.0

pub all_left : (P : Entry → Type 0) (a b : List Entry) → All P (a ++ b) → All P a
all_left P [] b h = tt
all_left P (e ∷ a) b h = (h.0, all_left P a b h.1)

pub all_right : (P : Entry → Type 0) (a b : List Entry) → All P (a ++ b) → All P b
all_right P [] b h = h
all_right P (e ∷ a) b h = all_right P a b h.1

-- ---- times that never fall, from t

abbrev pub Ordered : ℕ → List Entry → Type 0
Ordered t [] = Unit
Ordered t (e ∷ es) = (t ≤ e.time) × Ordered e.time es

pub ordered-from : (t u : ℕ) (es : List Entry) → t ≤ u → Ordered u es → Ordered t es
ordered-from t u [] h o = tt
ordered-from t u (e ∷ es) h o = (omega arith, o.1)

pub ordered-left : (t : ℕ) (a b : List Entry) → Ordered t (a ++ b) → Ordered t a
ordered-left t [] b o = tt
ordered-left t (e ∷ a) b o = (o.0, ordered-left e.time a b o.1)

pub ordered-right : (t : ℕ) (a b : List Entry) → Ordered t (a ++ b) → Ordered (last_time t a) b
ordered-right t [] b o = o
ordered-right t (e ∷ a) b o = ordered-right e.time a b o.1

pub ordered-last : (t : ℕ) (es : List Entry) → Ordered t es → t ≤ last_time t es
ordered-last t [] o = omega arith
ordered-last t (e ∷ es) o = omega (arith, ordered-last e.time es o.1, o.0)

pub ordered-all : (p : ℕ → Bool) (t : ℕ) (es : List Entry) → Ordered t es → All (λ e. t ≤ e.time) (of_kind p es)
unfolding of_kind
ordered-all p t [] o = tt
ordered-all p t (e ∷ es) o = kept (p e.kind) (ordered-all p t es (ordered-from t e.time es o.0 o.1))
  where
    kept : (x : Bool) → All (λ e. t ≤ e.time) (of_kind p es) → All (λ e. t ≤ e.time) (keep x e (of_kind p es))
    kept true h = (o.0, h)
    kept false h = h

pub ordered-first : (p : ℕ → Bool) (t : ℕ) (es : List Entry) → Ordered t es → First (λ e. t ≤ e.time) (of_kind p es)
ordered-first p t es o = all_first (λ e. t ≤ e.time) (of_kind p es) (ordered-all p t es o)

pub ordered-of-steps : (t : ℕ) (es : List Entry) → First (λ e. t ≤ e.time) es → Steps (λ a b. a.time ≤ b.time) es → Ordered t es
ordered-of-steps t [] f s = tt
ordered-of-steps t (e ∷ es) f s = (f, ordered-of-steps e.time es s.0 s.1)

pub steps-of-ordered : (t : ℕ) (es : List Entry) → Ordered t es → Steps (λ a b. a.time ≤ b.time) es
steps-of-ordered t [] o = tt
steps-of-ordered t (e ∷ es) o = (first es o.1, steps-of-ordered e.time es o.1)
  where
    first : (l : List Entry) → Ordered e.time l → First (λ b. e.time ≤ b.time) l
    first [] p = tt
    first (b ∷ l) p = p.0

pub last_time-append : (t : ℕ) (a b : List Entry) → last_time t (a ++ b) ≡ last_time (last_time t a) b
last_time-append t [] b = refl
last_time-append t (e ∷ a) b = last_time-append e.time a b
