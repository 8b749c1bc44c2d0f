-- The latest bytes of a tail, shifted up: the command byte highest, zeros below the data.
use Rattle.std.proofs.Common.{◌≡◌, ℕ, zero, suc, ◌+◌, ◌-◌, ◌*◌, ◌/◌, ◌%◌, ◌^◌, ◌≤◌}
use Rattle.std.proofs.Common.{List, [], ◌∷◌, ◌++◌, length, take, drop, replicate, sym, refl, ap}
use Rattle.std.proofs.Common.{◌∙◌, append_assoc, append-nil, mul_assoc, suc-add, pow-suc, zero-add, mul-one, arith, take_all, take_at}
use lib.Seq.{take-append-le}
use Rattle.std.specs.Int.{byte_at}
use Rattle.packed.specs.declared.Tail.{Tail}
use Rattle.packed.specs.Numbers.{low_first, low_bytes}
use Rattle.packed.specs.Tail.{backward, latest}
use Rattle.packed.proofs.Numbers.{length-low, low-are-bytes, bytes_back, low-at, low-take, low-cut}
use Rattle.packed.proofs.Tails.{length-latest}
use Rattle.packed.proofs.Units.{unit-is}
use Rattle.block.specs.Block.{sum, checksum}
use Rattle.block.proofs.Sums.{sum-append}
use Rattle.execute.proofs.Totals.{sum-backward}

-- so many bytes of a number are those of its remainder
low-mod : (n v : ℕ) → low_bytes n (v % 256 ^ n) ≡ low_bytes n v
low-mod n v =
    let all : take n (low_bytes n v) ≡ low_bytes n v = take_all n (low_bytes n v) (omega (arith, length-low n v)) in
    ap (low_bytes n) (sym (low-cut n v))
    ∙ ap (λ (l : List ℕ). low_bytes n (low_first l)) (sym all)
    ∙ bytes_back n (low_bytes n v) (low-are-bytes n v) (omega (arith, length-low n v))
    ∙ all

-- a number shifted up by i bytes
low-shifted : (i k v : ℕ) → low_bytes (i + k) (v * 256 ^ i) ≡ replicate i 0 ++ low_bytes k v
unfolding low_bytes
low-shifted zero k v = rw (zero-add k, mul-one v)
low-shifted (suc i) k v =
    let e : v * 256 ^ suc i ≡ v * 256 ^ i * 256 = ap (λ (u : ℕ). v * u) (pow-suc 256 i) ∙ sym (mul_assoc v (256 ^ i) 256) in
    let low : v * 256 ^ suc i % 256 ≡ 0 = omega (arith, e) in
    let rest : v * 256 ^ suc i / 256 ≡ v * 256 ^ i = omega (arith, e) in
    rw (suc-add i k, low, rest, low-shifted i k v)

backward-append : (xs ys : List ℕ) → backward (xs ++ ys) ≡ backward ys ++ backward xs
backward-append [] ys = sym (append-nil (backward ys))
backward-append (x ∷ xs) ys = rw (backward-append xs ys) (append_assoc (backward ys) (backward xs) (x ∷ []))

-- the bytes behind the highest of a number of eight, as `to_be_bytes` gives them
abbrev pub data_in : ℕ → List ℕ
data_in n = byte_at 6 n ∷ byte_at 5 n ∷ byte_at 4 n ∷ byte_at 3 n ∷ []

-- the five highest bytes
highest : (r : ℕ) → backward (drop 3 (low_bytes 8 r)) ≡ byte_at 7 r ∷ data_in r
unfolding low_bytes
highest r =
    rw (
      low-at 8 r 7 (omega arith),
      low-at 8 r 6 (omega arith),
      low-at 8 r 5 (omega arith),
      low-at 8 r 4 (omega arith),
      low-at 8 r 3 (omega arith),
    )

sum_zeros : (i : ℕ) → sum (replicate i 0) ≡ 0
unfolding sum
sum_zeros zero = refl
sum_zeros (suc i) = omega (arith, sum_zeros i)

module _ (t : Tail) (k : ℕ) (most : k ≤ 5) where
  -- the shift as the code does it
  abbrev pub body : ℕ
  body = t.low * 2 ^ ((8 - k) * 8) % 2 ^ 64

  abbrev zeros : List ℕ
  zeros = replicate (5 - k) 0

  of_low : latest k t ≡ backward (low_bytes k t.low)
  unfolding latest
  of_low =
      let few : k ≤ length (low_bytes 8 t.low) = omega (arith, length-low 8 t.low) in
      ap backward (take-append-le k (low_bytes 8 t.low) (low_bytes 8 t.high) few ∙ low-take k 8 t.low (omega arith))

  low-body : drop 3 (low_bytes 8 body) ≡ zeros ++ low_bytes k t.low
  low-body =
      let all : 8 - k + k ≡ 8 = omega arith in
      let above : 8 - k ≡ suc (suc (suc (5 - k))) = omega arith in
      ap (λ (u : ℕ). drop 3 (low_bytes 8 (t.low * u % 256 ^ 8))) (unit-is (8 - k))
      ∙ ap (drop 3) (low-mod 8 (t.low * 256 ^ (8 - k)))
      ∙ ap (λ (n : ℕ). drop 3 (low_bytes n (t.low * 256 ^ (8 - k)))) (sym all)
      ∙ ap (drop 3) (low-shifted (8 - k) k t.low)
      ∙ ap (λ (n : ℕ). drop 3 (replicate n 0 ++ low_bytes k t.low)) above

  -- the bytes that came, and zeros behind them
  with-zeros : latest k t ++ backward zeros ≡ byte_at 7 body ∷ data_in body
  with-zeros =
      ap (λ (l : List ℕ). l ++ backward zeros) of_low
      ∙ sym (backward-append zeros (low_bytes k t.low))
      ∙ ap backward (sym low-body)
      ∙ highest body

  pub body-front : 1 ≤ k → latest k t ≡ byte_at 7 body ∷ take (k - 1) (data_in body)
  body-front least =
      let e : k ≡ suc (k - 1) = omega arith in
      sym (take_at (latest k t) (backward zeros) k (length-latest k t (omega arith)))
      ∙ ap (take k) with-zeros
      ∙ ap (λ (n : ℕ). take n (byte_at 7 body ∷ data_in body)) e

  zeros-add-nothing : sum (latest k t ++ backward zeros) ≡ sum (latest k t)
  zeros-add-nothing = sum-append (latest k t) (backward zeros) ∙ omega (arith, sum-backward zeros, sum_zeros (5 - k))

  pub body-sum : checksum (latest k t) ≡ checksum (byte_at 7 body ∷ data_in body)
  body-sum = ap (λ (s : ℕ). s % 256) (sym zeros-add-nothing ∙ ap sum with-zeros)
