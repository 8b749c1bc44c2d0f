-- The tests: an entry without a fault is one that passes, and the first true test gives the rules' fault number.
use Prim.Native.Nat.{ℕ, zero, suc, ◌≤◌, ◌<◌}
use mathlib.Core.Path.{◌≡◌, refl, sym, ap, ◌∙◌, subst}
use mathlib.Core.Logic.{◌⊎◌, inl, inr, ◌↔◌}
use mathlib.Core.Bool.{Bool, true, false, cond, not, ◌&&◌}
use mathlib.Core.List.{List, [], ◌∷◌}
use native.Mathlib.Omega.{arith}
use lib.Dec.{T, T_not, not_T, eqb, ltb, leb, eqb→eq, eqb_refl, ltb→lt, lt→ltb, leb→le, le→leb}
use lib.ListN.{get_or}
use Rattle.std.proofs.lemmas.Bool.{cases_lt}
use Rattle.deck.specs.Line.{Deck, at_power_on, looked}
use Rattle.record.specs.declared.Entry.{Entry}
use Rattle.record.specs.Entries.{formed, is_controller, is_deck, last_time}
use Rattle.record.specs.Turns.{InQuiet}
use Rattle.record.specs.Marks.{Awaited, Overdue, faults, FirstOf}
use Rattle.record.proofs.Lists.{and_left, and_right, and_both}
use Rattle.record.specs.Machine.{Waiting, waiting, some, peek, first_true, tests, fault_of}
use Rattle.record.proofs.Readings.{Pass, deck_now, waiting_now, PassesNow, ordered-of-passes}
use Rattle.record.proofs.Coming.{deadline}
use Rattle.record.proofs.Awaiting.{Agrees, awaited-agrees, awaited-now}

-- ---- a list of tests against a list of conditions

-- each test against its condition, where those before it fail
abbrev Reflects : List (ℕ × Bool) → List (ℕ × Type 0) → Type 0
Reflects [] [] = Unit
Reflects [] (p ∷ ps) = ⊥
Reflects (b ∷ bs) [] = ⊥
Reflects (b ∷ bs) (p ∷ ps) = (b.0 ≡ p.0) × (T b.1 ↔ p.1) × ((p.1 → ⊥) → Reflects bs ps)

first_of : (bs : List (ℕ × Bool)) (ps : List (ℕ × Type 0)) → Reflects bs ps → (first_true bs ≡ 0 → ⊥) → FirstOf ps (first_true bs)
first_of [] [] r n = n refl
first_of [] (p ∷ ps) r n = absurd r
first_of (b ∷ bs) [] r n = absurd r
first_of (b ∷ bs) (p ∷ ps) r n = go b.1 r.1 n (first_of bs ps)
  where
    go : (x : Bool) → T x ↔ p.1 → (cond x b.0 (first_true bs) ≡ 0 → ⊥)
        → (Reflects bs ps → (first_true bs ≡ 0 → ⊥) → FirstOf ps (first_true bs)) → FirstOf (p ∷ ps) (cond x b.0 (first_true bs))
    go true q n f = inl (q.0 tt, r.0)
    go false q n f = inr (q.1, f (r.2 q.1) n)

-- no test is true
abbrev AllFail : List (ℕ × Bool) → Type 0
AllFail [] = Unit
AllFail (b ∷ bs) = (T b.1 → ⊥) × AllFail bs

-- no number is 0
abbrev Numbered : List (ℕ × Bool) → Type 0
Numbered [] = Unit
Numbered (b ∷ bs) = (0 < b.0) × Numbered bs

all-fail : (bs : List (ℕ × Bool)) → Numbered bs → first_true bs ≡ 0 → AllFail bs
all-fail [] a z = tt
all-fail (b ∷ bs) a z = go b.1 z (all-fail bs a.1)
  where
    go : (x : Bool) → cond x b.0 (first_true bs) ≡ 0 → (first_true bs ≡ 0 → AllFail bs) → (T x → ⊥) × AllFail bs
    go true z f = absurd (omega (arith, a.0))
    go false z f = (λ h. h, f z)

none_true : (bs : List (ℕ × Bool)) → AllFail bs → first_true bs ≡ 0
none_true [] a = refl
none_true (b ∷ bs) a = go b.1 a.0 (none_true bs a.1)
  where
    go : (x : Bool) → (T x → ⊥) → first_true bs ≡ 0 → cond x b.0 (first_true bs) ≡ 0
    go true n f = absurd (n tt)
    go false n f = f

-- ---- single tests

is-deck : (k : ℕ) → T (is_deck k) ↔ (k ≡ 1)
is-deck zero = (λ n. absurd n, λ p. absurd (omega arith))
is-deck (suc zero) = (λ n. refl, λ p. tt)
is-deck (suc (suc k)) = (λ n. absurd n, λ p. absurd (omega arith))

is-controller : (k : ℕ) → T (is_controller k) ↔ (k ≡ 0)
is-controller zero = (λ n. refl, λ p. tt)
is-controller (suc k) = (λ n. absurd n, λ p. absurd (omega arith))

some_is : (l : List ℕ) → T (some l) → (x : ℕ) × (xs : List ℕ) × (l ≡ x ∷ xs)
some_is [] h = absurd h
some_is (x ∷ xs) h = (x, xs, refl)

holds-or-not : (b : Bool) → T b ⊎ (T b → ⊥)
holds-or-not true = inl tt
holds-or-not false = inr (λ h. h)

holds : (b : Bool) → (T (not b) → ⊥) → T b
holds b n = go (holds-or-not b)
  where
    go : T b ⊎ (T b → ⊥) → T b
    go (inl h) = h
    go (inr h) = absurd (n (not_T b h))

not-before : (a b : ℕ) → (T (ltb b a) → ⊥) → a ≤ b
not-before a b n = go (cases_lt b a)
  where
    go : (b < a) ⊎ (a ≤ b) → a ≤ b
    go (inr h) = h
    go (inl h) = absurd (n (lt→ltb b a h))

not-from : (a b : ℕ) → (T (leb a b) → ⊥) → b < a
not-from a b n = go (cases_lt b a)
  where
    go : (b < a) ⊎ (a ≤ b) → b < a
    go (inr h) = absurd (n (le→leb a b h))
    go (inl h) = h

-- ---- passing

pub pass_of : (t : ℕ) (d : Deck) (w : Waiting) (e : Entry) → fault_of t d w e ≡ 0 → Pass t (looked d e.time) w e
unfolding fault_of tests peek
pass_of t d w e z = go (all-fail (tests t d w e) (omega arith) z)
  where
    W : Waiting
    W = peek d w e.time

    F : ℕ
    F = (looked d e.time).deck.free

    same : Bool
    same = eqb e.content (get_or W.left 0 0)

    byte : T (some W.left) → T same → (l : List ℕ) × (W.left ≡ e.content ∷ l)
    byte h k =
        let q = some_is W.left h in
        let c : e.content ≡ q.0 = eqb→eq e.content (get_or W.left 0 0) k ∙ ap (λ (l : List ℕ). get_or l 0 0) q.2 in
        (q.1, q.2 ∙ ap (λ (y : ℕ). y ∷ q.1) (sym c))

    go : AllFail (tests t d w e) → Pass t (looked d e.time) w e
    go (a20, (a21, (a24, (a22, (a23, (a25, _)))))) =
        record {
          well_formed = holds (formed e) a20;
          ordered = not-before t e.time a21;
          in_time = λ h. not-before e.time W.latest (λ k. a24 (and_both (some W.left) (ltb W.latest e.time) h k));
          deck_byte = λ h. byte (holds (some W.left) (λ k. a22 (and_both (is_deck e.kind) (not (some W.left)) h k)))
              (holds same (λ k. a23 (and_both (is_deck e.kind) (not same) h k)));
          quiet = λ h k. not-from F e.time (λ m. a25 (and_both (is_controller e.kind) (some W.left && leb F e.time) h
              (and_both (some W.left) (leb F e.time) k m)));
        }

pub fault-of-pass : (t : ℕ) (d : Deck) (w : Waiting) (e : Entry) → Pass t (looked d e.time) w e → fault_of t d w e ≡ 0
unfolding fault_of tests peek
fault-of-pass t d w e v = none_true (tests t d w e) (n20, (n21, (n24, (n22, (n23, (n25, tt))))))
  where
    W : Waiting
    W = peek d w e.time

    F : ℕ
    F = (looked d e.time).deck.free

    any : Bool
    any = some W.left

    same : List ℕ → Bool
    same l = eqb e.content (get_or l 0 0)

    late : (a b : ℕ) → a ≤ b → T (ltb b a) → ⊥
    late a b h k = omega (arith, ltb→lt b a k)

    n20 : T (not (formed e)) → ⊥
    n20 h = T_not (formed e) h v.well_formed

    n21 : T (ltb e.time t) → ⊥
    n21 h = late t e.time v.ordered h

    n24 : T (any && ltb W.latest e.time) → ⊥
    n24 h =
        let x = ltb W.latest e.time in
        late e.time W.latest (v.in_time (and_left any x h)) (and_right any x h)

    n22 : T (is_deck e.kind && not any) → ⊥
    n22 h =
        let q = v.deck_byte (and_left (is_deck e.kind) (not any) h) in
        subst (λ (l : List ℕ). T (not (some l))) q.1 (and_right (is_deck e.kind) (not any) h)

    n23 : T (is_deck e.kind && not (same W.left)) → ⊥
    n23 h =
        let q = v.deck_byte (and_left (is_deck e.kind) (not (same W.left)) h) in
        let n = and_right (is_deck e.kind) (not (same W.left)) h in
        T_not (eqb e.content e.content) (subst (λ (l : List ℕ). T (not (same l))) q.1 n) (eqb_refl e.content)

    n25 : T (is_controller e.kind && (any && leb F e.time)) → ⊥
    n25 h =
        let x = leb F e.time in
        let k = and_right (is_controller e.kind) (any && x) h in
        let j : e.time < F = v.quiet (and_left (is_controller e.kind) (any && x) h) (and_left any x k) in
        omega (arith, leb→le F e.time (and_right any x k))

-- ---- the fault number

-- the fault of e after es
abbrev pub fault_now : List Entry → Entry → ℕ
fault_now es e = fault_of (last_time 0 es) (deck_now es) (waiting_now es) e

module _ (es : List Entry) (p : PassesNow es) (e : Entry) where
  -- what is awaited at e's time, and the first time at which a byte is heard
  W : Waiting
  W = peek (deck_now es) (waiting_now es) e.time

  F : ℕ
  F = (looked (deck_now es) e.time).deck.free

  any : Bool
  any = some W.left

  agrees : (a : Awaited es e.time) → Agrees es e.time a
  agrees a = awaited-agrees es e.time (ordered-of-passes 0 at_power_on (waiting [] 0) es p) a

  left_is : (a : Awaited es e.time) → W.left ≡ a.next ∷ a.to_come
  unfolding W
  left_is a = ap (λ (U : Waiting). U.left) (agrees a).awaits

  latest-is : (a : Awaited es e.time) → W.latest ≡ deadline a.reply a.tail
  unfolding W
  latest-is a = ap (λ (U : Waiting). U.latest) (agrees a).awaits

  -- bytes are awaited where a reply is
  any_of : Awaited es e.time → T any
  unfolding any
  any_of a = rw (left_is a) tt

  awaited : last_time 0 es ≤ e.time → T any → Awaited es e.time
  unfolding W any
  awaited h k = let q = some_is W.left k in awaited-now es e.time q.0 q.1 p h q.2

  reflects-24 : last_time 0 es ≤ e.time → T (any && ltb W.latest e.time) ↔ ((a : Awaited es e.time) × Overdue a)
  reflects-24 h = (
    λ k. let a = awaited h (and_left any x k) in
        (a, subst (λ (t : ℕ). t < e.time) (latest-is a) (ltb→lt W.latest e.time (and_right any x k))),
    λ k. and_both any x (any_of k.0) (lt→ltb W.latest e.time (rw (latest-is k.0) k.1)),
  )
    where
      x : Bool
      x = ltb W.latest e.time

  reflects-22 : last_time 0 es ≤ e.time → T (is_deck e.kind && not any) ↔ ((e.kind ≡ 1) × (Awaited es e.time → ⊥))
  reflects-22 h = (
    λ k. (
      (is-deck e.kind).0 (and_left (is_deck e.kind) (not any) k),
      λ a. T_not any (and_right (is_deck e.kind) (not any) k) (any_of a),
    ),
    λ k. and_both (is_deck e.kind) (not any) ((is-deck e.kind).1 k.0) (not_T any (λ s. k.1 (awaited h s))),
  )

  reflects-23 : last_time 0 es ≤ e.time → ((e.kind ≡ 1) × (Awaited es e.time → ⊥) → ⊥)
      → T (is_deck e.kind && not (eqb e.content (get_or W.left 0 0)))
      ↔ ((a : Awaited es e.time) × (e.kind ≡ 1) × (e.content ≡ a.next → ⊥))
  reflects-23 h n = (
    λ k. let i : e.kind ≡ 1 = (is-deck e.kind).0 (and_left (is_deck e.kind) (not (same W.left)) k) in
        let a = found i (holds-or-not any) in
        (a, i, λ c. differs a (and_right (is_deck e.kind) (not (same W.left)) k) c),
    λ k. and_both (is_deck e.kind) (not (same W.left)) ((is-deck e.kind).1 k.1)
        (rw (left_is k.0) (not_T (eqb e.content k.0.next) (λ s. k.2 (eqb→eq e.content k.0.next s)))),
  )
    where
      same : List ℕ → Bool
      same l = eqb e.content (get_or l 0 0)

      found : e.kind ≡ 1 → T any ⊎ (T any → ⊥) → Awaited es e.time
      found i (inl s) = awaited h s
      found i (inr s) = absurd (n (i, λ a. s (any_of a)))

      differs : (a : Awaited es e.time) → T (not (same W.left)) → e.content ≡ a.next → ⊥
      differs a k c =
          T_not (eqb e.content a.next) (subst (λ (l : List ℕ). T (not (same l))) (left_is a) k)
          (subst (λ (y : ℕ). T (eqb e.content y)) c (eqb_refl e.content))

  reflects-25 : last_time 0 es ≤ e.time → T (is_controller e.kind && (any && leb F e.time))
      ↔ ((a : Awaited es e.time) × (e.kind ≡ 0) × (InQuiet a.reply e.time → ⊥))
  unfolding F
  reflects-25 h = (
    λ k. let j = and_right (is_controller e.kind) (any && x) k in
        let a = awaited h (and_left any x j) in (
          a,
          (is-controller e.kind).0 (and_left (is_controller e.kind) (any && x) k),
          λ q. let u : e.time < F = ((agrees a).quiet e.time h).0 q in omega (arith, leb→le F e.time (and_right any x j)),
        ),
    λ k. and_both (is_controller e.kind) (any && x) ((is-controller e.kind).1 k.1)
        (and_both any x (any_of k.0) (le→leb F e.time (open-air k.0 k.2 (cases_lt e.time F)))),
  )
    where
      x : Bool
      x = leb F e.time

      open-air : (a : Awaited es e.time) → (InQuiet a.reply e.time → ⊥) → (e.time < F) ⊎ (F ≤ e.time) → F ≤ e.time
      open-air a n (inr g) = g
      open-air a n (inl g) = absurd (n (((agrees a).quiet e.time h).1 g))

  pub number : (fault_now es e ≡ 0 → ⊥) → FirstOf (faults es e) (fault_now es e)
  unfolding fault_of tests W F any
  number n =
      first_of (tests (last_time 0 es) (deck_now es) (waiting_now es) e) (faults es e) (
        refl,
        (λ h k. T_not (formed e) h k, λ h. not_T (formed e) h),
        λ _. (
          refl,
          (λ h. ltb→lt e.time (last_time 0 es) h, λ h. lt→ltb e.time (last_time 0 es) h),
          λ h.
              let o : last_time 0 es ≤ e.time = omega arith in
              (refl, reflects-24 o, λ _. (refl, reflects-22 o, λ m. (refl, reflects-23 o m, λ _. (refl, reflects-25 o, λ _. tt)))),
        ),
      )
      n
