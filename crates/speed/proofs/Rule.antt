-- The rule of the speeds, by a test that antt computes over all 256 speed bytes.
use mathlib.Core.Path.{◌≡◌, refl}
use mathlib.Core.Bool.{Bool, true, ◌&&◌}
use Prim.Native.Nat.{ℕ, zero, suc, ◌+◌, ◌^◌, ◌<◌}
use lib.Dec.{eqb, leb, ltb}
use Rattle.std.proofs.lemmas.Bool.{agree_below_at, and_parts, eqb-true, leb-true, ltb-true}
use Rattle.speed.specs.Speed.{IsSpeed, speed_of, root}

low : ℕ → ℕ → Bool
low n v = leb (v ^ 32) (10 ^ (n + 32))

high : ℕ → ℕ → Bool
high n v = ltb (10 ^ (n + 32)) ((v + 1) ^ 32)

ruled : ℕ → ℕ → Bool
ruled zero v = eqb v 0
ruled (suc n) v = low (suc n) v && high (suc n) v

is-speed : (n v : ℕ) → ruled n v ≡ true → IsSpeed n v
unfolding ruled IsSpeed low high
is-speed zero v e = eqb-true v 0 e
is-speed (suc n) v e =
    let (l, h) = and_parts (low (suc n) v) (high (suc n) v) e in
    (leb-true (v ^ 32) (10 ^ (suc n + 32)) l, ltb-true (10 ^ (suc n + 32)) ((v + 1) ^ 32) h)

-- a speed by the rule that can be negated
fit : ℕ → Bool
fit n = ruled n (speed_of n) && ltb (speed_of n) (2 ^ 31)

all_fit : (n : ℕ) → n < 256 → fit n ≡ true
unfolding fit ruled low high speed_of root
all_fit n h = agree_below_at fit (λ _. true) 256 n refl h

pub rule : (n : ℕ) → n < 256 → IsSpeed n (speed_of n)
unfolding fit
rule n h = is-speed n (speed_of n) (and_parts (ruled n (speed_of n)) (ltb (speed_of n) (2 ^ 31)) (all_fit n h)).0

pub small : (n : ℕ) → n < 256 → speed_of n < 2 ^ 31
unfolding fit
small n h = ltb-true (speed_of n) (2 ^ 31) (and_parts (ruled n (speed_of n)) (ltb (speed_of n) (2 ^ 31)) (all_fit n h)).1
