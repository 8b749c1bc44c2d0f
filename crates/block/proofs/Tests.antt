-- Tests in a row, each of which refuses by a number of its own.
use Rattle.std.proofs.Common.{◌≡◌, ℕ, suc, Bool, true, false, cond, refl}

-- the number 0 says that neither of two refused
pub passed : (n m : ℕ) (a b : Bool) → cond a (suc n) (cond b (suc m) 0) ≡ 0 → (a ≡ false) × (b ≡ false)
passed n m true b e = (cc, cc)
passed n m false true e = (refl, cc)
passed n m false false e = (refl, refl)
