-- What is packed is unpacked again; and a byte more.
use Prim.Native.Nat.{ℕ, ◌+◌, ◌-◌, ◌*◌, ◌/◌, ◌%◌, ◌^◌, ◌≤◌, ◌<◌}
use mathlib.Core.Path.{◌≡◌, refl, sym, ap, ◌∙◌, subst}
use mathlib.Core.List.{List, [], ◌∷◌, ◌++◌}
use native.Mathlib.Decide.{dec_lt}
use native.Mathlib.Nat.{zero-add, mod-eq_of_lt}
use native.Mathlib.Omega.{arith}
use lib.Bits.{bit_or}
use lib.ListN.{length, take, drop, get_or, get_or-append}
use lib.Seq.{take_all, take-append-le, get_or-append-add, get_or-take, get_or-drop}
use lib.Seq.{ext_get_or, length-take-le, take-take}
use Rattle.packed.specs.declared.Packed.{Packed}
use Rattle.packed.specs.Numbers.{low_first, low_bytes}
use Rattle.packed.specs.Packed.{unpacked, packed}
use Rattle.packed.proofs.Units.{down}
use Rattle.packed.proofs.Bytes.{Bytes, front, behind, joined}
use Rattle.packed.proofs.Numbers.{length-low, low-are-bytes, low-back, byte-back, low-take, low-with}

pub length-unpacked : (p : Packed) → length (unpacked p) ≡ 24
unfolding low_bytes
length-unpacked p = refl

pub unpacked-are-bytes : (p : Packed) → Bytes (unpacked p)
unpacked-are-bytes p =
    joined (low_bytes 8 p.low) (low_bytes 8 p.mid ++ low_bytes 8 p.high) (low-are-bytes 8 p.low)
    (joined (low_bytes 8 p.mid) (low_bytes 8 p.high) (low-are-bytes 8 p.mid) (low-are-bytes 8 p.high))

-- ---- the byte at a place, by the number that has it

module _ (p : Packed) where
  pub at_low : (i : ℕ) → i < 8 → get_or (unpacked p) i 0 ≡ get_or (low_bytes 8 p.low) i 0
  at_low i h = get_or-append (low_bytes 8 p.low) _ 0 i (rw length-low h)

  pub at_mid : (i : ℕ) → i < 8 → get_or (unpacked p) (8 + i) 0 ≡ get_or (low_bytes 8 p.mid) i 0
  unfolding low_bytes
  at_mid i h =
      get_or-append-add (low_bytes 8 p.low) (low_bytes 8 p.mid ++ low_bytes 8 p.high) i 0
      ∙ get_or-append (low_bytes 8 p.mid) (low_bytes 8 p.high) 0 i (rw length-low h)

  pub at_high : (i : ℕ) → get_or (unpacked p) (8 + (8 + i)) 0 ≡ get_or (low_bytes 8 p.high) i 0
  unfolding low_bytes
  at_high i =
      get_or-append-add (low_bytes 8 p.low) (low_bytes 8 p.mid ++ low_bytes 8 p.high) (8 + i) 0
      ∙ get_or-append-add (low_bytes 8 p.mid) (low_bytes 8 p.high) i 0

-- ---- there and back

module _ (l : List ℕ) (bytes : Bytes l) where
  -- the i-th byte behind the first n
  pub part_at : (n i : ℕ) → i < 8 → get_or (low_bytes 8 (low_first (take 8 (drop n l)))) i 0 ≡ get_or l (n + i) 0
  part_at n i h =
      byte-back 8 (take 8 (drop n l)) i (front 8 (drop n l) (behind n l bytes)) h
      ∙ get_or-take 8 (drop n l) i 0 h
      ∙ get_or-drop n l i 0

  abbrev Same : ℕ → Type 0
  Same i = get_or (unpacked (packed l)) i 0 ≡ get_or l i 0

  same_at : (i : ℕ) → i < 24 → Same i
  same_at i h = by (dec_lt i 8) (dec_lt i 16)
    where
      by : Dec (i < 8) → Dec (i < 16) → Same i
      by (yes k) m = at_low (packed l) i k ∙ part_at 0 i k ∙ ap (λ (n : ℕ). get_or l n 0) (zero-add i)
      by (no k) (yes m) =
          let e : 8 + (i - 8) ≡ i = omega arith in
          let j : i - 8 < 8 = omega arith in
          subst Same e (at_mid (packed l) (i - 8) j ∙ part_at 8 (i - 8) j)
      by (no k) (no m) =
          let e : 8 + (8 + (i - 16)) ≡ i = omega arith in
          let f : 16 + (i - 16) ≡ 8 + (8 + (i - 16)) = omega arith in
          subst Same e
          (at_high (packed l) (i - 16) ∙ part_at 16 (i - 16) (omega arith) ∙ ap (λ (n : ℕ). get_or l n 0) f)

  pub packed-back : length l ≤ 24 → take (length l) (unpacked (packed l)) ≡ l
  packed-back h =
      let n = length-take-le (length l) (unpacked (packed l)) (rw (length-unpacked (packed l)) h) in
      ext_get_or 0 _ l n (λ i k. get_or-take (length l) (unpacked (packed l)) i 0 (rw n at k) ∙ same_at i (omega (arith, rw n at k)))

pub all_back : (l : List ℕ) → Bytes l → length l ≡ 24 → unpacked (packed l) ≡ l
all_back l bytes e =
    let n : length (unpacked (packed l)) ≤ length l = omega (arith, length-unpacked (packed l)) in
    sym (take_all (length l) (unpacked (packed l)) n) ∙ packed-back l bytes (omega arith)

-- ---- a byte less

front_low : (k v : ℕ) (m : List ℕ) → k ≤ 8 → take k (low_bytes 8 v ++ m) ≡ low_bytes k v
front_low k v m h = take-append-le k (low_bytes 8 v) m (rw length-low h) ∙ low-take k 8 v h

-- the highest place is free for the next number's lowest byte
lower : (v : ℕ) → v < 256 ^ 8 → v / 256 < 256 ^ 7
lower v h = omega arith

-- the seven bytes behind the lowest, and one more
rest_more : (v b : ℕ) → v < 256 ^ 8 → v / 256 + b * 256 ^ 7 ≡ low_first (low_bytes 7 (v / 256) ++ b ∷ [])
rest_more v b h = sym (low-with 7 (v / 256) b ∙ ap (λ (x : ℕ). x + b * 256 ^ 7) (mod-eq_of_lt (lower v h)))

module _ (p : Packed) where
  pub rest-is : p.low < 256 ^ 8 → p.mid < 256 ^ 8 → p.high < 256 ^ 8
      → record { low = p.low / 256 + p.mid % 256 * 256 ^ 7; mid = p.mid / 256 + p.high % 256 * 256 ^ 7; high = p.high / 256 }
      ≡ packed (drop 1 (unpacked p))
  unfolding low_bytes
  rest-is h k m =
      let e = rest_more p.low (p.mid % 256) h in
      let f = rest_more p.mid (p.high % 256) k in
      let g = sym (low-back 7 (p.high / 256) (lower p.high m)) in
      λ i. record { low = e i; mid = f i; high = g i }

  -- by shifts, as the code has it
  pub shifted : p.low < 256 ^ 8 → p.mid < 256 ^ 8 → p.high < 256 ^ 8
      → record {
        low = bit_or (p.low / 256) (p.mid * 256 ^ 7 % 256 ^ 8);
        mid = bit_or (p.mid / 256) (p.high * 256 ^ 7 % 256 ^ 8);
        high = p.high / 256;
      }
      ≡ packed (drop 1 (unpacked p))
  shifted h k m = rw (down p.low p.mid h, down p.mid p.high k) (rest-is h k m)

  -- of the first n bytes, those behind the first
  pub rest-front : (n : ℕ) → n < 24 → take n (unpacked (packed (drop 1 (unpacked p)))) ≡ take n (drop 1 (unpacked p))
  unfolding low_bytes
  rest-front n h =
      let l = drop 1 (unpacked p) in
      let m : length l ≡ 23 = refl in
      sym (take-take n (length l) (unpacked (packed l)) (omega arith))
      ∙ ap (take n) (packed-back l (behind 1 (unpacked p) (unpacked-are-bytes p)) (omega arith))

  behind-low : (n : ℕ) → n < 8 → take n (drop 1 (unpacked p)) ≡ low_bytes n (p.low / 256)
  unfolding low_bytes
  behind-low n h =
      take-append-le n (low_bytes 7 (p.low / 256)) (low_bytes 8 p.mid ++ low_bytes 8 p.high) (rw length-low (omega arith))
      ∙ low-take n 7 (p.low / 256) (omega arith)

  pub low-rest-front : (n : ℕ) → n < 8
      → take n (unpacked (record { low = p.low / 256; mid = p.mid; high = p.high })) ≡ take n (drop 1 (unpacked p))
  low-rest-front n h =
      front_low n (p.low / 256) (low_bytes 8 p.mid ++ low_bytes 8 p.high) (omega arith) ∙ sym (behind-low n h)
