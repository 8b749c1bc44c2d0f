-- The sum of bytes, for any length.
use Rattle.std.proofs.Common.{◌≡◌, ℕ, ◌+◌, ◌%◌, ◌<◌, List, [], ◌∷◌, ◌++◌, arith}
use Rattle.std.specs.List.{fold}
use Rattle.block.specs.Block.{sum, checksum}

pub sum-append : (xs ys : List ℕ) → sum (xs ++ ys) ≡ sum xs + sum ys
unfolding sum
sum-append [] ys = omega arith
sum-append (b ∷ xs) ys = omega (arith, sum-append xs ys)

-- one byte more
pub checksum-more : (xs : List ℕ) (b : ℕ) → checksum (xs ++ b ∷ []) ≡ (checksum xs + b) % 256
unfolding sum
checksum-more xs b = omega (arith, sum-append xs (b ∷ []))

folded : (xs : List ℕ) (a : ℕ) → a < 256 → fold (λ t b. (t + b) % 256) a xs ≡ (a + sum xs) % 256
unfolding sum
folded [] a h = omega arith
folded (b ∷ xs) a h = omega (arith, folded xs ((a + b) % 256) (omega arith))

-- a fold that wraps
pub checksum_folds : (xs : List ℕ) → checksum xs ≡ fold (λ t b. (t + b) % 256) 0 xs
checksum_folds xs = omega (arith, folded xs 0 (omega arith))
