-- Bytes that come one after the other.
use Prim.Native.Nat.{ℕ, zero, suc, ◌+◌, ◌-◌, ◌*◌, ◌/◌, ◌%◌, ◌^◌, ◌≤◌, ◌<◌}
use mathlib.Core.Path.{◌≡◌, refl, sym, ap, ◌∙◌, subst}
use mathlib.Core.List.{List, [], ◌∷◌, ◌++◌}
use native.Mathlib.Decide.{dec_lt}
use native.Mathlib.Nat.{zero-add}
use native.Mathlib.Omega.{arith}
use lib.Bits.{bit_or}
use lib.ListN.{length, take, get_or, length-append, get_or-append, get_or-eq_default}
use lib.Seq.{take_all, take-take, length-take-le, get_or-append-add, get_or-take, ext_get_or}
use Rattle.packed.specs.declared.Tail.{Tail}
use Rattle.packed.specs.Numbers.{low_first, low_bytes}
use Rattle.packed.specs.Tail.{recent, kept, backward, latest}
use Rattle.packed.proofs.Bytes.{Bytes, front, joined}
use Rattle.packed.proofs.Numbers.{length-low, low-are-bytes, low-at, low-cut, window, low_part}
use Rattle.packed.proofs.Units.{up}
use Rattle.packed.proofs.Packing.{part_at}

-- ---- a byte comes

-- the highest byte
top_byte : (v : ℕ) → v < 256 ^ 8 → v / 256 ^ 7 < 256
top_byte v h = omega arith

module _ (t : Tail) (b : ℕ) where
  -- the bytes that stay low
  pub push-low : t.low % 256 ^ 7 * 256 + b ≡ (kept (b ∷ recent t)).low
  unfolding low_bytes
  push-low = let e = low-cut 7 t.low in omega (arith, e)

  -- and the one that goes from low to high
  pub push-high : t.low < 256 ^ 8 → t.high % 256 ^ 7 * 256 + t.low / 256 ^ 7 ≡ (kept (b ∷ recent t)).high
  unfolding low_bytes
  push-high h = let e = low-cut 7 t.high in let f = low-at 8 t.low 7 (omega arith) in omega (arith, e, f)

  -- by shifts, as the code has it
  pub pushed : b < 256 → t.low < 256 ^ 8
      → record { low = bit_or (t.low * 256 % 256 ^ 8) b; high = bit_or (t.high * 256 % 256 ^ 8) (t.low / 256 ^ 7) }
      ≡ kept (b ∷ recent t)
  pushed h k =
      let e = up t.low b h ∙ push-low in
      let f = up t.high (t.low / 256 ^ 7) (top_byte t.low k) ∙ push-high k in
      λ i. record { low = e i; high = f i }

-- ---- the bytes that are kept

pub length-recent : (t : Tail) → length (recent t) ≡ 16
unfolding low_bytes
length-recent t = refl

pub recent-are-bytes : (t : Tail) → Bytes (recent t)
recent-are-bytes t = joined (low_bytes 8 t.low) (low_bytes 8 t.high) (low-are-bytes 8 t.low) (low-are-bytes 8 t.high)

module _ (t : Tail) where
  pub at_low : (i : ℕ) → i < 8 → get_or (recent t) i 0 ≡ get_or (low_bytes 8 t.low) i 0
  at_low i h = get_or-append (low_bytes 8 t.low) _ 0 i (rw length-low h)

  pub at_high : (i : ℕ) → get_or (recent t) (8 + i) 0 ≡ get_or (low_bytes 8 t.high) i 0
  unfolding low_bytes
  at_high i = get_or-append-add (low_bytes 8 t.low) (low_bytes 8 t.high) i 0

-- what was kept of a list, byte by byte
pub kept_at : (l : List ℕ) → Bytes l → (i : ℕ) → i < 16 → get_or (recent (kept l)) i 0 ≡ get_or l i 0
kept_at l bytes i h = by (dec_lt i 8)
  where
    by : Dec (i < 8) → get_or (recent (kept l)) i 0 ≡ get_or l i 0
    by (yes k) = at_low (kept l) i k ∙ part_at l bytes 0 i k ∙ ap (λ (n : ℕ). get_or l n 0) (zero-add i)
    by (no k) =
        let e : 8 + (i - 8) ≡ i = omega arith in
        subst (λ (n : ℕ). get_or (recent (kept l)) n 0 ≡ get_or l n 0) e
        (at_high (kept l) (i - 8) ∙ part_at l bytes 8 (i - 8) (omega arith))

same-window : (n i : ℕ) (a b : List ℕ) → ((j : ℕ) → j < i + n → get_or a j 0 ≡ get_or b j 0) → window n i a ≡ window n i b
same-window zero i a b h = refl
same-window (suc n) i a b h = rw (h i (omega arith), same-window n (suc i) a b (λ j k. h j (omega arith)))

-- lists with the same sixteen bytes have the same numbers
same_kept : (a b : List ℕ) → ((j : ℕ) → j < 16 → get_or a j 0 ≡ get_or b j 0) → kept a ≡ kept b
same_kept a b h =
    let e : (kept a).low ≡ (kept b).low =
    low_part 8 0 a ∙ ap low_first (same-window 8 0 a b (λ j k. h j (omega arith))) ∙ sym (low_part 8 0 b) in
    let f : (kept a).high ≡ (kept b).high =
    low_part 8 8 a ∙ ap low_first (same-window 8 8 a b (λ j k. h j (omega arith))) ∙ sym (low_part 8 8 b) in
    λ i. record { low = e i; high = f i }

-- a byte that comes onto what was kept of a list
pub kept_more : (l : List ℕ) (b : ℕ) → Bytes l → kept (b ∷ recent (kept l)) ≡ kept (b ∷ l)
kept_more l b bytes = same_kept (b ∷ recent (kept l)) (b ∷ l) at
  where
    at : (j : ℕ) → j < 16 → get_or (b ∷ recent (kept l)) j 0 ≡ get_or (b ∷ l) j 0
    at zero h = refl
    at (suc j) h = kept_at l bytes j (omega arith)

pub kept_full : (l : List ℕ) → Bytes l → 16 ≤ length l → recent (kept l) ≡ take 16 l
kept_full l bytes h =
    let n : length (take 16 l) ≡ 16 = length-take-le 16 l h in
    ext_get_or 0 (recent (kept l)) (take 16 l) (length-recent (kept l) ∙ sym n)
    (λ i k. kept_at l bytes i (omega (arith, rw length-recent at k)) ∙ sym (get_or-take 16 l i 0 (omega (arith, rw length-recent at k))))

-- ---- in the order in which they came

pub backward-more : (xs : List ℕ) (b : ℕ) → backward (xs ++ b ∷ []) ≡ b ∷ backward xs
backward-more [] b = refl
backward-more (x ∷ xs) b = rw (backward-more xs b)

pub length-backward : (xs : List ℕ) → length (backward xs) ≡ length xs
length-backward [] = refl
length-backward (x ∷ xs) = length-append (backward xs) (x ∷ []) ∙ omega (arith, length-backward xs)

pub backward-bytes : (xs : List ℕ) → Bytes xs → Bytes (backward xs)
backward-bytes [] h = tt
backward-bytes (x ∷ xs) h = joined (backward xs) (x ∷ []) (backward-bytes xs h.1) (h.0, tt)

module _ (n : ℕ) (t : Tail) where
  pub length-latest : n ≤ 16 → length (latest n t) ≡ n
  unfolding latest
  length-latest h = length-backward (take n (recent t)) ∙ length-take-le n (recent t) (omega (arith, length-recent t))

  -- no more than sixteen are kept
  pub latest-most : 16 ≤ n → latest n t ≡ latest 16 t
  unfolding latest
  latest-most h =
      ap backward (take_all n (recent t) (omega (arith, length-recent t)) ∙ sym (take_all 16 (recent t) (omega (arith, length-recent t))))

  pub latest-are-bytes : Bytes (latest n t)
  unfolding latest
  latest-are-bytes = backward-bytes (take n (recent t)) (front n (recent t) (recent-are-bytes t))

  -- a byte comes behind them
  pub latest-more : (b : ℕ) → b < 256 → n < 16 → latest (suc n) (kept (b ∷ recent t)) ≡ latest n t ++ b ∷ []
  unfolding latest
  latest-more b h k =
      let l = b ∷ recent t in
      let e = kept_full l (h, recent-are-bytes t) (omega (arith, length-recent t)) in
      ap (λ (x : List ℕ). backward (take (suc n) x)) e ∙ ap backward (take-take (suc n) 16 l (omega arith))

-- the byte at a place
pub ruleset places = (length-recent, at_low, at_high, get_or-eq_default)
