-- The mask that the code tests the flags by.
use Prim.Native.Nat.{ℕ, ◌+◌, ◌*◌, ◌/◌, ◌%◌, ◌<◌}
use mathlib.Core.Bool.{Bool, true, false, ◌&&◌}
use mathlib.Core.Path.{◌≡◌, refl, sym, ap, ◌∙◌}
use native.Mathlib.Omega.{arith}
use borrow.Author.Tests.{lt-ltb, eq-eqb, ltb-true, eqb-true, eqb-false}
use lib.Dec.{eqb}
use lib.Bits.{bit_and, and_block, and_mask}
use Rattle.deck.specs.Calls.{flags_fit}

masked : (flags : ℕ) → bit_and flags 0x8F ≡ flags / 128 % 2 * 128 + flags % 128 % 16
masked flags =
    let e : flags ≡ flags / 128 * 128 + flags % 128 = omega arith in
    ap (λ (x : ℕ). bit_and x 0x8F) e ∙ and_block 7 (flags / 128) 1 (flags % 128) 15 (omega arith) (omega arith)
    ∙ rw (and_mask (flags / 128) 1, and_mask (flags % 128) 4)

not-both : (a b : Bool) → (a ≡ true → b ≡ true → ⊥) → a && b ≡ false
not-both false b h = refl
not-both true false h = refl
not-both true true h = absurd (h refl refl)

fit : (flags : ℕ) → flags < 256 → bit_and flags 0x8F ≡ 0 → flags_fit flags ≡ true
fit flags h e =
    let m = masked flags in
    simp (eq-eqb (flags % 16) 0 (omega arith), lt-ltb flags 0x80 (omega arith))

unfit : (flags : ℕ) → flags < 256 → (bit_and flags 0x8F ≡ 0 → ⊥) → flags_fit flags ≡ false
unfit flags h n = not-both _ _ (λ p q. n (omega (arith, masked flags, eqb-true (flags % 16) 0 p, ltb-true flags 0x80 q)))

pub mask_fits : (flags : ℕ) → flags < 256 → eqb (bit_and flags 0x8F) 0 ≡ flags_fit flags
mask_fits flags h = go (eqb (bit_and flags 0x8F) 0) refl
  where
    go : (x : Bool) → eqb (bit_and flags 0x8F) 0 ≡ x → x ≡ flags_fit flags
    go true p = sym (fit flags h (eqb-true _ _ p))
    go false p = sym (unfit flags h (eqb-false _ _ p))
