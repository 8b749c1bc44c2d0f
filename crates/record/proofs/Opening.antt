-- The opening of a turn, entry by entry: what is still to come of it when some bytes are there.
use Prim.Native.Nat.{ℕ, zero, suc, ◌+◌, ◌%◌, ◌≤◌, ◌<◌}
use mathlib.Core.Path.{◌≡◌, refl, sym, ap, subst}
use mathlib.Core.Logic.{◌⊎◌, inl, inr}
use mathlib.Core.List.{List, [], ◌∷◌, ◌++◌, nil≢cons, head-eq_of_cons-eq, tail-eq_of_cons-eq}
use native.Mathlib.Omega.{arith}
use lib.ListN.{length}
use Rattle.deck.specs.Line.{size}
use Rattle.record.specs.declared.Entry.{Entry}
use Rattle.record.specs.Entries.{All, First, Steps, contents, last_time}
use Rattle.record.specs.Turns.{Clean, Flagged, Full, Near, Opening, Silent}

abbrev pub Dirty : Entry → Type 0
Dirty e = e.flags ≡ 0 → ⊥

pub clean-or-not : (e : Entry) → Clean e ⊎ Dirty e
clean-or-not e = go e.flags
  where
    go : (n : ℕ) → (n ≡ 0) ⊎ (n ≡ 0 → ⊥)
    go zero = inl refl
    go (suc n) = inr (λ p. omega arith)

-- k bytes of s are there, the last at l; `es` are the controller entries that bring the opening to its end
abbrev pub Rest : ℕ → ℕ → ℕ → List Entry → List Entry → Type 0
Rest s k l [] later = First (λ e. l + 10000 < e.time) later
Rest s k l (e ∷ es) later =
    (e.time ≤ l + 10000)
    × ((Dirty e × (es ≡ [])) ⊎ (Clean e × (((suc k ≡ s) × (es ≡ [])) ⊎ ((suc k < s) × Rest s (suc k) e.time es later))))

-- how many bytes the block has that e begins
abbrev size_from : Entry → ℕ
size_from e = e.content % 16 + 3

-- the same from the first byte
abbrev pub Started : Entry → List Entry → List Entry → Type 0
Started e es later = (Dirty e × (es ≡ [])) ⊎ (Clean e × Rest (size_from e) 1 e.time es later)

-- the three forms, with k bytes of s there, the last at l
record Filled (s k : ℕ) (es : List Entry) : Type 0 where
  clean : All Clean es
  whole : k + length es ≡ s

record Quitted (s k l : ℕ) (es later : List Entry) : Type 0 where
  clean : All Clean es
  proper : k + length es < s
  silence : First (λ e. last_time l es + 10000 < e.time) later

record Marred (s k : ℕ) (es : List Entry) : Type 0 where
  beginning : List Entry
  last : Entry
  split : es ≡ beginning ++ last ∷ []
  clean : All Clean beginning
  proper : k + length beginning < s
  flag : Dirty last

abbrev Form : ℕ → ℕ → ℕ → List Entry → List Entry → Type 0
Form s k l es later = Filled s k es ⊎ (Quitted s k l es later ⊎ Marred s k es)

-- and the gaps
abbrev Gaps : ℕ → List Entry → Type 0
Gaps l es = First (λ e. e.time ≤ l + 10000) es × Steps Near es

-- ---- from the forms

rest-of-filled : (es later : List Entry) (s k l : ℕ) → k < s → Gaps l es → Filled s k es → Rest s k l es later
rest-of-filled [] later s k l h g x = absurd (let p : k + 0 ≡ s = x.whole in omega arith)
rest-of-filled (e ∷ []) later s k l h g x = (g.0, inr (x.clean.0, inl (let p : k + 1 ≡ s = x.whole in omega arith, refl)))
rest-of-filled (e ∷ b ∷ es) later s k l h g x =
    let p : k + suc (suc (length es)) ≡ s = x.whole in
    let q : suc k < s = omega arith in
    let r = rest-of-filled (b ∷ es) later s (suc k) e.time q g.1 (record { clean = x.clean.1; whole = omega arith }) in
    (g.0, inr (x.clean.0, inr (q, r)))

rest-of-quitted : (es later : List Entry) (s k l : ℕ) → Gaps l es → Quitted s k l es later → Rest s k l es later
rest-of-quitted [] later s k l g x = x.silence
rest-of-quitted (e ∷ es) later s k l g x =
    let p : k + suc (length es) < s = x.proper in
    let y : Quitted s (suc k) e.time es later = record { clean = x.clean.1; proper = omega arith; silence = x.silence } in
    (g.0, inr (x.clean.0, inr (omega arith, rest-of-quitted es later s (suc k) e.time g.1 y)))

no_last : (b : List Entry) (x : Entry) → [] ≡ b ++ x ∷ [] → ⊥
no_last [] x p = nil≢cons p
no_last (c ∷ b) x p = nil≢cons p

rest-of-marred : (es later : List Entry) (s k l : ℕ) → Gaps l es → (b : List Entry) (x : Entry) → es ≡ b ++ x ∷ [] → All Clean b
    → k + length b < s → Dirty x → Rest s k l es later
rest-of-marred [] later s k l g b x p c h d = absurd (no_last b x p)
rest-of-marred (e ∷ es) later s k l g [] x p c h d = (g.0, inl (subst Dirty (sym (head-eq_of_cons-eq p)) d, tail-eq_of_cons-eq p))
rest-of-marred (e ∷ es) later s k l g (y ∷ b) x p c h d =
    let h' : k + suc (length b) < s = h in
    let r = rest-of-marred es later s (suc k) e.time g.1 b x (tail-eq_of_cons-eq p) c.1 (omega arith) d in
    (g.0, inr (subst Clean (sym (head-eq_of_cons-eq p)) c.0, inr (omega arith, r)))

pub started-of-opening : (e : Entry) (es later : List Entry) → Opening (e ∷ es) later → Started e es later
started-of-opening e es later o = go o.form
  where
    go : Full (e ∷ es) ⊎ (Silent (e ∷ es) later ⊎ Flagged (e ∷ es)) → Started e es later
    go (inl x) =
        let p : suc (length es) ≡ size_from e = x.whole in
        let y : Filled (size_from e) 1 es = record { clean = x.clean.1; whole = omega arith } in
        inr (x.clean.0, rest-of-filled es later (size_from e) 1 e.time (omega arith) o.gaps y)
    go (inr (inl x)) =
        let p : suc (length es) < size_from e = x.beginning.proper in
        let y : Quitted (size_from e) 1 e.time es later = record {
          clean = x.beginning.clean.1;
          proper = omega arith;
          silence = x.silence;
        } in
        inr (x.beginning.clean.0, rest-of-quitted es later (size_from e) 1 e.time o.gaps y)
    go (inr (inr x)) = marred x.beginning x.split x.begins.clean x.begins.proper
      where
        marred : (b : List Entry) → e ∷ es ≡ b ++ x.last ∷ [] → All Clean b → length b < size (contents b) → Started e es later
        marred [] p c h = inl (subst Dirty (sym (head-eq_of_cons-eq p)) x.flag, tail-eq_of_cons-eq p)
        marred (y ∷ b) p c h =
            let q : e ≡ y = head-eq_of_cons-eq p in
            let h' : suc (length b) < size_from y = h in
            let h'' : suc (length b) < size_from e = rw q h' in
            let r = tail-eq_of_cons-eq p in
            inr (
              subst Clean (sym q) c.0,
              rest-of-marred es later (size_from e) 1 e.time o.gaps b x.last r c.1 (omega arith) x.flag,
            )

-- ---- to the forms

form-cons : (e : Entry) (es later : List Entry) (s k l : ℕ) → Clean e → Form s (suc k) e.time es later → Form s k l (e ∷ es) later
form-cons e es later s k l c (inl x) =
    let p : suc k + length es ≡ s = x.whole in
    inl (record { clean = (c, x.clean); whole = omega arith })
form-cons e es later s k l c (inr (inl x)) =
    let p : suc k + length es < s = x.proper in
    inr (inl (record { clean = (c, x.clean); proper = omega arith; silence = x.silence }))
form-cons e es later s k l c (inr (inr x)) =
    let p : suc k + length x.beginning < s = x.proper in
    inr (inr (record {
      beginning = e ∷ x.beginning;
      last = x.last;
      split = ap (λ (t : List Entry). e ∷ t) x.split;
      clean = (c, x.clean);
      proper = omega arith;
      flag = x.flag;
    }))

form-of-rest : (es later : List Entry) (s k l : ℕ) → k < s → Rest s k l es later → Form s k l es later
form-of-rest [] later s k l h r = inr (inl (record { clean = tt; proper = omega arith; silence = r }))
form-of-rest (e ∷ es) later s k l h (n, inl (d, p)) =
    inr (inr (record { beginning = []; last = e; split = rw p; clean = tt; proper = omega arith; flag = d }))
form-of-rest (e ∷ es) later s k l h (n, inr (c, inl (q, p))) = inl (record { clean = rw p (c, tt); whole = rw p (omega arith) })
form-of-rest (e ∷ es) later s k l h (n, inr (c, inr (q, r))) = form-cons e es later s k l c (form-of-rest es later s (suc k) e.time q r)

gaps-of-rest : (es later : List Entry) (s k l : ℕ) → Rest s k l es later → Gaps l es
gaps-of-rest [] later s k l r = (tt, tt)
gaps-of-rest (e ∷ es) later s k l (n, inl (d, p)) = (n, rw p (tt, tt))
gaps-of-rest (e ∷ es) later s k l (n, inr (c, inl (q, p))) = (n, rw p (tt, tt))
gaps-of-rest (e ∷ es) later s k l (n, inr (c, inr (q, r))) = (n, gaps-of-rest es later s (suc k) e.time r)

pub opening-of-started : (e : Entry) (es later : List Entry) → Started e es later → Opening (e ∷ es) later
opening-of-started e es later (inl (d, p)) =
    record {
      form = inr (inr (record { beginning = []; last = e; split = rw p; begins = record { clean = tt; proper = omega arith }; flag = d }));
      gaps = rw p (tt, tt);
    }
opening-of-started e es later (inr (c, r)) =
    record {
      form = go (form-of-rest es later (size_from e) 1 e.time (omega arith) r);
      gaps = gaps-of-rest es later (size_from e) 1 e.time r;
    }
  where
    go : Form (size_from e) 1 e.time es later → Full (e ∷ es) ⊎ (Silent (e ∷ es) later ⊎ Flagged (e ∷ es))
    go (inl x) =
        let p : 1 + length es ≡ size_from e = x.whole in
        inl (record { clean = (c, x.clean); whole = omega arith })
    go (inr (inl x)) =
        let p : 1 + length es < size_from e = x.proper in
        inr (inl (record { some = omega arith; beginning = record { clean = (c, x.clean); proper = omega arith }; silence = x.silence }))
    go (inr (inr x)) =
        let p : 1 + length x.beginning < size_from e = x.proper in
        inr (inr (record {
          beginning = e ∷ x.beginning;
          last = x.last;
          split = ap (λ (t : List Entry). e ∷ t) x.split;
          begins = record { clean = (c, x.clean); proper = omega arith };
          flag = x.flag;
        }))
