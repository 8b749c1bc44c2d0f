-- What a block that is handed over in parts comes to: too long to be listed, or short.
use Rattle.std.proofs.Common.{◌≡◌, ℕ, ◌+◌, ◌-◌, ◌%◌, ◌<◌, ◌≤◌, cond, eqb, ◌⊎◌}
use Rattle.std.proofs.Common.{List, ◌∷◌, length, get_or, take, sym, ap, ◌∙◌, ⊎_elim, arith, eq-eqb, ne_eqb}
use native.Mathlib.Decide.{ℕ_discrete, dec_le}
use Rattle.packed.specs.declared.Tail.{Tail}
use Rattle.packed.specs.Tail.{latest}
use Rattle.packed.proofs.Tails.{length-latest, latest-most}
use Rattle.block.specs.Block.{sum, checksum}
use Rattle.block.specs.Read.{read_no}
use Rattle.settings.specs.declared.Settings.{Settings}
use Rattle.command.specs.Commands.{commands, lookup}
use Rattle.command.proofs.Listed.{unlisted-long}
use Rattle.execute.specs.Replies.{refused, undefined, bad_checksum}
use Rattle.execute.specs.declared.FullBlock.{FullBlock}
use Rattle.execute.specs.Execute.{carry, execute, block_in}
use Rattle.execute.proofs.Carried.{execute-read}
use Rattle.execute.proofs.Faults.{bad-checksum, not_listed}
use Rattle.execute.proofs.Listed.{listed-data}
use Rattle.execute.proofs.Parts.{in_parts, parts-read, parts-length, parts-sum, parts-data}

-- ---- too long, or not as long as its first byte says

-- bytes past the sixteenth are not kept: what then reads has fifteen data bytes
long : (count : ℕ) (t : Tail) (n : ℕ) → length (latest count t) ≡ n + 1 → (5 < count) ⊎ (count ≡ n + 1 → ⊥) → 4 < n
long count t n e k = by (dec_le count 16)
  where
    by : Dec (count ≤ 16) → 4 < n
    by (yes h) =
        let all = length-latest count t h in
        ⊎_elim (λ m. omega (arith, e, all, m)) (λ m. absurd (m (sym all ∙ e))) k
    by (no h) = omega (arith, e, ap length (latest-most count t (omega arith)), length-latest 16 t (omega arith))

pub refusal : (s : Settings) (b : FullBlock) → (5 < b.count) ⊎ (b.count ≡ b.first % 16 + 1 → ⊥)
    → execute s (block_in b) ≡ refused s (cond (eqb (read_no (block_in b)) 0) undefined bad_checksum)
refusal s b k = by (ℕ_discrete (read_no (block_in b)) 0)
  where
    by : Dec (read_no (block_in b) ≡ 0)
        → execute s (block_in b) ≡ refused s (cond (eqb (read_no (block_in b)) 0) undefined bad_checksum)
    by (yes e) =
        let block = block_in b in
        let n = long b.count b.tail (b.first % 16) (parts-length b.first (latest b.count b.tail) b.last e) k in
        rw (eq-eqb (read_no block) 0 e) (not_listed s block e (unlisted-long b.first (get_or block 1 0) n))
    by (no e) =
        let block = block_in b in
        rw (ne_eqb (read_no block) 0 e) (bad-checksum s block e)

-- ---- short

-- a byte in front of what has the same checksum
sum-behind : (b : ℕ) (xs ys : List ℕ) → checksum xs ≡ checksum ys → checksum (b ∷ xs) ≡ checksum (b ∷ ys)
unfolding sum
sum-behind b xs ys e = omega (arith, e)

read_short : (s : Settings) (first command last : ℕ) (middle bytes : List ℕ) → length bytes ≡ 4
    → middle ≡ command ∷ take (first % 16) bytes → read_no (in_parts first middle last) ≡ 0
    → execute s (in_parts first middle last) ≡ carry (lookup commands first command) s bytes
read_short s first command last middle bytes four same zero =
    let part = take (first % 16) bytes in
    let reads = rw same at zero in
    rw same
    (execute-read s (in_parts first (command ∷ part) last) reads
    ∙ ap (carry (lookup commands first command) s) (parts-data first command part last reads)
    ∙ listed-data s bytes four first command)

module _ (s : Settings) (b : FullBlock) (command : ℕ) (bytes : List ℕ) (four : length bytes ≡ 4)
    (small : b.count ≤ 5) (sized : b.count ≡ b.first % 16 + 1) (same : latest b.count b.tail ≡ command ∷ take (b.count - 1) bytes)
    (sums : checksum (latest b.count b.tail) ≡ checksum (command ∷ bytes)) where
  summed : checksum (b.first ∷ latest b.count b.tail) ≡ checksum (b.first ∷ command ∷ bytes)
  summed = sum-behind b.first (latest b.count b.tail) (command ∷ bytes) sums

  pub short-bad : (checksum (b.first ∷ command ∷ bytes) ≡ b.last → ⊥) → execute s (block_in b) ≡ refused s bad_checksum
  short-bad n = bad-checksum s (block_in b) (λ e. n (sym summed ∙ parts-sum b.first (latest b.count b.tail) b.last e))

  pub short-read : checksum (b.first ∷ command ∷ bytes) ≡ b.last → execute s (block_in b) ≡ carry (lookup commands b.first command) s bytes
  short-read e =
      let less : b.count - 1 ≡ b.first % 16 = omega (arith, sized) in
      read_short s b.first command b.last (latest b.count b.tail) bytes four
      (same ∙ ap (λ (n : ℕ). command ∷ take n bytes) less)
      (parts-read b.first (latest b.count b.tail) b.last (length-latest b.count b.tail (omega (arith, small)) ∙ sized) (summed ∙ e))
