-- The part of the reply that is still to come, as the code finds it.
use Prim.Native.Nat.{ℕ, suc, ◌-◌, ◌/◌, ◌≤◌, ◌<◌, min}
use mathlib.Core.Path.{◌≡◌, refl, sym, ap, ◌∙◌}
use mathlib.Core.Bool.{true, false, not, false≢true}
use mathlib.Core.List.{List, [], ◌∷◌}
use native.Mathlib.Decide.{ℕ_discrete, dec_le}
use native.Mathlib.Omega.{arith}
use borrow.Author.Tests.{eq-eqb, ne_eqb}
use lib.Dec.{eqb}
use lib.ListN.{length, take, drop, get_or, length-drop}
use lib.Seq.{take-nil, take_all, get_or-take}
use Rattle.std.specs.Prelude.{Some, None}
use Rattle.packed.specs.declared.Packed.{Packed}
use Rattle.packed.specs.Numbers.{low_bytes}
use Rattle.packed.specs.Packed.{packed, unpacked}
use Rattle.packed.proofs.Packing.{length-unpacked, rest-front, low-rest-front}
use Rattle.record.specs.Machine.{some}
use Rattle.marker.specs.declared.Waits.{Waits}
use Rattle.marker.specs.Steps.{awaited, front}

-- ---- the next of what is to come

pub front-none : (l : List ℕ) → some l ≡ false → None ≡ front l
front-none [] p = refl
front-none (b ∷ l) p = cc

pub front-some : (l : List ℕ) → some l ≡ true → Some (get_or l 0 0) ≡ front l
front-some [] p = cc
front-some (b ∷ l) p = refl

pub some-next : (l : List ℕ) (b : ℕ) → Some b ≡ front l → (some l ≡ true) × (b ≡ get_or l 0 0)
some-next [] b p = cc
some-next (c ∷ l) b p = (refl, cc)

-- ---- what the code keeps of it

-- of the first n elements, those behind the first
behind-first : (n : ℕ) (l : List ℕ) → drop 1 (take (suc n) l) ≡ take n (drop 1 l)
behind-first n [] = sym (take-nil n)
behind-first n (x ∷ l) = refl

some-front : (n : ℕ) (p : Packed) → some (take (suc n) (unpacked p)) ≡ true
unfolding low_bytes
some-front n p = refl

module _ (w : Waits) where
  abbrev reply : List ℕ
  reply = unpacked w.reply

  size : length reply ≡ 24
  size = length-unpacked w.reply

  pub none_left : w.left ≡ 0 → (awaited w).left ≡ []
  none_left e = rw e

  some_left : 0 < w.left → some (awaited w).left ≡ true
  some_left h =
      let e : w.left ≡ suc (w.left - 1) = omega arith in
      ap (λ (n : ℕ). some (take n reply)) e ∙ some-front (w.left - 1) w.reply

  pub any_left : not (eqb w.left 0) ≡ some (awaited w).left
  any_left = go (ℕ_discrete w.left 0)
    where
      go : Dec (w.left ≡ 0) → not (eqb w.left 0) ≡ some (awaited w).left
      go (yes e) = rw (eq-eqb w.left 0 e, none_left e)
      go (no e) = rw (ne_eqb w.left 0 e, some_left (omega arith))

  pub any-above : some (awaited w).left ≡ true → 0 < w.left
  any-above s = by (ℕ_discrete w.left 0)
    where
      by : Dec (w.left ≡ 0) → 0 < w.left
      by (yes e) = absurd (false≢true (sym (ap some (none_left e)) ∙ s))
      by (no e) = omega arith

  pub next-left : 0 < w.left → get_or (awaited w).left 0 0 ≡ get_or reply 0 0
  next-left h = get_or-take w.left reply 0 0 h

  still : 0 < w.left → drop 1 (awaited w).left ≡ take (w.left - 1) (drop 1 reply)
  still h =
      let e : w.left ≡ suc (w.left - 1) = omega arith in
      ap (λ (n : ℕ). drop 1 (take n reply)) e ∙ behind-first (w.left - 1) reply

  -- a byte has come: from the lowest number, from all three, or from a reply longer than any
  pub taken-low : 0 < w.left → w.left ≤ 8
      → take (w.left - 1) (unpacked (record { low = w.reply.low / 256; mid = w.reply.mid; high = w.reply.high }))
      ≡ drop 1 (awaited w).left
  taken-low h k = low-rest-front w.reply (w.left - 1) (omega arith) ∙ sym (still h)

  taken-most : 24 ≤ w.left → take 23 (unpacked (packed (drop 1 reply))) ≡ drop 1 (awaited w).left
  taken-most h =
      let n : length (drop 1 reply) ≤ 23 = omega (arith, size, length-drop 1 reply) in
      rest-front w.reply 23 (omega arith) ∙ take_all 23 (drop 1 reply) n
      ∙ sym (ap (drop 1) (take_all w.left reply (omega (arith, size))))

  pub taken-rest : 0 < w.left → take (min w.left 24 - 1) (unpacked (packed (drop 1 reply))) ≡ drop 1 (awaited w).left
  taken-rest h = by (dec_le w.left 24)
    where
      by : Dec (w.left ≤ 24) → take (min w.left 24 - 1) (unpacked (packed (drop 1 reply))) ≡ drop 1 (awaited w).left
      by (yes k) =
          let e : min w.left 24 - 1 ≡ w.left - 1 = omega arith in
          rw e (rest-front w.reply (w.left - 1) (omega arith) ∙ sym (still h))
      by (no k) =
          let e : min w.left 24 - 1 ≡ 23 = omega arith in
          rw e (taken-most (omega arith))
