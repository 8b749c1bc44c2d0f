-- Document 01, "Speed".
use Rattle.std.specs.Prelude.{Bool, true, false, cond, ◌≡◌, ℕ, zero, suc, ◌+◌, ◌^◌, ◌≤◌, ◌<◌, leb, ℤ, pos, neg_ℤ}

-- "N = 0 is 0 (000). For N of 1 to 255 it is the whole number v with v^32 at most 10^(N+32) and (v+1)^32 above it."
unfoldable pub IsSpeed : ℕ → ℕ → Type 0
IsSpeed zero v = v ≡ 0
IsSpeed (suc n) v = (v ^ 32 ≤ 10 ^ (suc n + 32)) × (10 ^ (suc n + 32) < (v + 1) ^ 32)

-- the largest number from v up, of at most k bits more, whose 32nd power is at most x: a bit at a time, from the highest
unfoldable pub root : ℕ → ℕ → ℕ → ℕ
root zero x v = v
root (suc k) x v = root k x (cond (leb ((v + 2 ^ k) ^ 32) x) (v + 2 ^ k) v)

-- that v: the contract says beside it that the rule holds of it
unfoldable pub speed_of : ℕ → ℕ
speed_of zero = 0
speed_of (suc n) = root 30 (10 ^ (suc n + 32)) 0

-- "in thousandths, signed, minus in reverse"
abbrev pub signed : Bool → ℕ → ℤ
signed true v = neg_ℤ (pos v)
signed false v = pos v
