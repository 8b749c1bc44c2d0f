-- The open block as the code keeps it, and a byte more in it.
use Prim.Native.Nat.{ℕ, zero, suc, ◌+◌, ◌-◌, ◌%◌, ◌≤◌, ◌<◌, min}
use mathlib.Core.Bool.{true, cond}
use mathlib.Core.Path.{◌≡◌, refl, sym, ap, ◌∙◌}
use mathlib.Core.List.{List, [], ◌∷◌, ◌++◌}
use native.Mathlib.Decide.{dec_le, dec_lt}
use native.Mathlib.Omega.{arith}
use borrow.Author.Tests.{ne_eqb, lt-ltb, le-ltb, le-leb, lt-leb}
use lib.Dec.{eqb, leb, ltb}
use lib.ListN.{length}
use Rattle.std.proofs.lemmas.List.{length_push}
use Rattle.packed.specs.declared.Tail.{Tail}
use Rattle.packed.specs.Tail.{recent, kept, latest}
use Rattle.packed.proofs.Tails.{length-latest, latest-most, latest-more}
use Rattle.execute.specs.declared.FullBlock.{FullBlock}
use Rattle.execute.specs.Execute.{block_in, execute}
use Rattle.deck.specs.declared.Deck.{Deck as Held}
use Rattle.deck.specs.Line.{deck, silently, is_open, size, replied, taken}
use Rattle.deck.specs.Calls.{open_block, view}
use Rattle.deck.specs.Joins.{grown}
use Rattle.deck.proofs.Steps.{taken-full, taken_more}

-- ---- the bytes that count

-- at most 17
pub length-open : (n first : ℕ) (t : Tail) → length (open_block n first t) ≡ min n 17
length-open zero first t = refl
length-open (suc n) first t = by (dec_le n 16)
  where
    by : Dec (n ≤ 16) → length (open_block (suc n) first t) ≡ min (suc n) 17
    by (yes h) = omega (arith, length-latest n t h)
    by (no h) = rw (latest-most n t (omega arith)) (omega (arith, length-latest 16 t (omega arith)))

-- a block is open, unless no byte is held
pub opened : (n first : ℕ) (t : Tail) → (n ≡ 0 → ⊥) → is_open (open_block n first t) ≡ true
opened zero first t h = absurd (h refl)
opened (suc n) first t h = refl

-- ---- a byte more

-- the block in parts, as it is handed over
abbrev pub handed : (n first b : ℕ) → Tail → FullBlock
handed n first b t = record { first = first % 256; tail = t; count = n - 1; last = b }

pub in_parts : (n first b : ℕ) (t : Tail) → 1 ≤ n → block_in (handed n first b t) ≡ open_block n first t ++ b ∷ []
in_parts zero first b t h = absurd (omega arith)
in_parts (suc n) first b t h = let e : suc n - 1 ≡ n = omega arith in rw e

-- the size is known from the first byte
pub sized : (n first b : ℕ) (t : Tail) → (n ≡ 0 → ⊥) → size (open_block n first t ++ b ∷ []) ≡ first % 16 + 3
sized zero first b t h = absurd (h refl)
sized (suc n) first b t h = omega arith

-- the byte that comes is the first, or the latest
pub first_block : (b : ℕ) (t : Tail) → b < 256 → open_block 1 b t ≡ b ∷ []
unfolding latest
first_block b t h = let e : b % 256 ≡ b = omega arith in rw e

pub one_more : (n first b : ℕ) (t : Tail) → b < 256 → n ≤ 16
    → open_block (n + 1) (cond (eqb n 0) b first) (cond (eqb n 0) (kept []) (kept (b ∷ recent t))) ≡ open_block n first t ++ b ∷ []
one_more zero first b t h k = first_block b (kept []) h
one_more (suc n) first b t h k =
    let e : suc n + 1 ≡ suc (suc n) = omega arith in
    rw (e, ne_eqb (suc n) 0 (λ z. omega arith), latest-more n t b h (omega arith))

-- with more bytes than the first asks for it fills the block; the first byte never does
pub ends-inside : (n first b : ℕ) (t : Tail)
    → ltb (first % 16 + 1) n ≡ leb (size (open_block n first t ++ b ∷ [])) (length (open_block n first t) + 1)
ends-inside zero first b t =
    le-ltb (first % 16 + 1) zero (omega arith) ∙ sym (lt-leb (b % 16 + 3) 1 (omega arith))
ends-inside (suc k) first b t =
    rw (length-open (suc k) first t, sized (suc k) first b t (λ z. omega arith)) (go (dec_lt (first % 16 + 1) n))
  where
    n : ℕ
    n = suc k

    x : ℕ
    x = first % 16

    go : Dec (x + 1 < n) → ltb (x + 1) n ≡ leb (x + 3) (min n 17 + 1)
    go (yes h) = lt-ltb (x + 1) n h ∙ sym (le-leb (x + 3) (min n 17 + 1) (omega arith))
    go (no h) = le-ltb (x + 1) n (omega arith) ∙ sym (lt-leb (x + 3) (min n 17 + 1) (omega arith))

pub size-most : (block : List ℕ) → size block ≤ 18
size-most [] = omega arith
size-most (b ∷ block) = omega arith

-- a byte that fills the block comes behind another
pub not-first : (n first b : ℕ) (t : Tail) → size (open_block n first t ++ b ∷ []) ≤ length (open_block n first t) + 1 → 1 ≤ n
not-first zero first b t h = absurd (omega (arith, h))
not-first (suc n) first b t h = omega arith

module _ (d : Held) (t b : ℕ) where
  pub few-open : length (view d).block + 1 < size ((view d).block ++ b ∷ []) → d.held ≤ 16
  few-open h = omega (arith, h, size-most ((view d).block ++ b ∷ []), length-open d.held d.first d.tail)

  pub view-grown : b < 256 → d.held ≤ 16 → view (grown d t b) ≡ deck ((view d).block ++ b ∷ []) t d.free d.settings
  view-grown h k =
      ap (λ (o : List ℕ). deck o t d.free d.settings) (one_more d.held d.first b d.tail h k)

  pub stays_open : b < 256 → length (view d).block + 1 < size ((view d).block ++ b ∷ [])
      → taken (view d) ((view d).block ++ b ∷ []) t ≡ silently (view (grown d t b))
  stays_open k h =
      taken_more (view d) ((view d).block ++ b ∷ []) t (rw (length_push (view d).block b) (omega (arith, h)))
      ∙ ap silently (sym (view-grown k (few-open h)))

  pub gets-full : size ((view d).block ++ b ∷ []) ≤ length (view d).block + 1
      → taken (view d) ((view d).block ++ b ∷ []) t ≡ replied (view d) t (execute d.settings ((view d).block ++ b ∷ []))
  gets-full h = taken-full (view d) ((view d).block ++ b ∷ []) t (rw (length_push (view d).block b) (omega (arith, h)))
