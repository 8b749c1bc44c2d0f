-- `FullBlock::why` meets its contract.
use Rattle.std.proofs.Common.{◌≡◌, ℕ, ◌+◌, ◌%◌, ◌≤◌, cond, eqb, min, List, ◌∷◌, length, sym, ap, ◌∙◌, arith, eq-eqb, ne_eqb}
use native.Mathlib.Decide.{dec_le}
use lib.Bits.{and_mask}
use Rattle.packed.specs.declared.Tail.{Tail}
use Rattle.packed.specs.Tail.{latest}
use Rattle.packed.proofs.Tails.{length-latest, latest-most}
use Rattle.block.specs.Block.{sum, checksum}
use Rattle.block.specs.Read.{read_no}
use Rattle.execute.specs.Replies.{undefined, bad_checksum}
use Rattle.execute.proofs.Parts.{in_parts, parts-read, parts-length, parts-sum}
use Rattle.execute.proofs.Totals.{checksum-latest}
use Rattle.execute.proofs.FullBlock.why.Goals as goal

module _ (first : ℕ) (middle : List ℕ) (last : ℕ) where
  abbrev code : ℕ
  code = cond (eqb (read_no (in_parts first middle last)) 0) undefined bad_checksum

  wrong-length : (length middle ≡ first % 16 + 1 → ⊥) → bad_checksum ≡ code
  wrong-length h = rw (ne_eqb _ _ (λ e. h (parts-length first middle last e)))

  wrong-sum : (checksum (first ∷ middle) ≡ last → ⊥) → bad_checksum ≡ code
  wrong-sum h = rw (ne_eqb _ _ (λ e. h (parts-sum first middle last e)))

  right : length middle ≡ first % 16 + 1 → checksum (first ∷ middle) ≡ last → undefined ≡ code
  right l s = rw (eq-eqb _ _ (parts-read first middle last l s))

-- at most sixteen of the bytes between the first and the last are kept
kept : (count : ℕ) (tail : Tail) → latest count tail ≡ latest (min count 16) tail
kept count tail = by (dec_le count 16)
  where
    by : Dec (count ≤ 16) → latest count tail ≡ latest (min count 16) tail
    by (yes h) = let e : min count 16 ≡ count = omega arith in rw e
    by (no h) = let e : min count 16 ≡ 16 = omega arith in rw e (latest-most count tail (omega arith))

counted : (count : ℕ) (tail : Tail) → length (latest count tail) ≡ min count 16
counted count tail = ap length (kept count tail) ∙ length-latest (min count 16) tail (omega arith)

pub returns-then-count-from : goal.returns-then-count-from
returns-then-count-from c =
    let b = c.args.self in
    wrong-length b.first (latest b.count b.tail) b.last
    (λ e. c.if-count-from.true (omega (arith, e, counted b.count b.tail, and_mask b.first 4, c.from.ensures, c.min-count.ensures)))

pub returns-then-self-total : goal.returns-then-self-total
unfolding sum
returns-then-self-total c =
    let b = c.args.self in
    let summed : (b.first + c.total.result) % 256 ≡ checksum (b.first ∷ latest b.count b.tail) =
    rw (kept b.count b.tail) (omega (arith, checksum-latest (min b.count 16) b.tail, rw c.min-count.ensures at c.total.ensures)) in
    wrong-sum b.first (latest b.count b.tail) b.last (λ e. c.if-self-total.true (summed ∙ e))

pub returns : goal.returns
unfolding sum
returns c =
    let b = c.args.self in
    let summed : (b.first + c.total.result) % 256 ≡ checksum (b.first ∷ latest b.count b.tail) =
    rw (kept b.count b.tail) (omega (arith, checksum-latest (min b.count 16) b.tail, rw c.min-count.ensures at c.total.ensures)) in
    let l : length (latest b.count b.tail) ≡ b.first % 16 + 1 =
    omega (arith, counted b.count b.tail, and_mask b.first 4, c.from.ensures, c.min-count.ensures, c.if-count-from.false) in
    right b.first (latest b.count b.tail) b.last l (sym summed ∙ c.if-self-total.false)
