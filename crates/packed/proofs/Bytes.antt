-- Lists in which every number is a byte.
use Prim.Native.Nat.{ℕ, zero, suc, ◌<◌}
use mathlib.Core.List.{List, [], ◌∷◌, ◌++◌}
use lib.ListN.{take, drop, get_or}

abbrev pub Bytes : List ℕ → Type 0
Bytes [] = Unit
Bytes (b ∷ bytes) = (b < 256) × Bytes bytes

pub by_place : (xs : List ℕ) → ((i : ℕ) → get_or xs i 0 < 256) → Bytes xs
by_place [] h = tt
by_place (x ∷ xs) h = (h 0, by_place xs (λ i. h (suc i)))

pub front : (n : ℕ) (xs : List ℕ) → Bytes xs → Bytes (take n xs)
front zero xs h = tt
front (suc n) [] h = tt
front (suc n) (x ∷ xs) h = (h.0, front n xs h.1)

pub behind : (n : ℕ) (xs : List ℕ) → Bytes xs → Bytes (drop n xs)
behind zero xs h = h
behind (suc n) [] h = tt
behind (suc n) (x ∷ xs) h = behind n xs h.1

pub joined : (xs ys : List ℕ) → Bytes xs → Bytes ys → Bytes (xs ++ ys)
joined [] ys h k = k
joined (x ∷ xs) ys h k = (h.0, joined xs ys h.1 k)
