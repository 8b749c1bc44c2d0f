-- A reply that fits into the output is written whole: its length, and what the output then holds.
use Rattle.std.proofs.Common.{Result, Ok, ◌≡◌, ℕ, ◌≤◌, List, ◌++◌, length, drop, sym, ap, ◌∙◌, arith}
use Rattle.refusal.specs.declared.Refusal.{Refusal}
use Rattle.refusal.specs.Written.{written_by}
use Rattle.refusal.proofs.Written.{taken}
use Rattle.block.specs.Block.{block_of}
use Rattle.block.specs.Write.{written, written_out, write_no}
use Rattle.block.proofs.Writing.{length-block, fits-writes, answer-written, output-written}

module _ (group command : ℕ) (bytes out : List ℕ) (g : group ≤ 15) (n : length bytes ≤ 15) (room : 18 ≤ length out) where
  fitting : write_no group bytes out ≡ 0
  fitting = fits-writes group bytes out (record { small = g; few = n; room = omega arith })

  pub reply-is : (r : Result ℕ Refusal) → written_by r ≡ written group bytes out → r ≡ Ok (length (block_of group command bytes))
  reply-is r e =
      taken r _
      (e ∙ answer-written group bytes out (length (block_of group command bytes)) (length-block group command bytes) fitting)

  pub reply-out : written_out group command bytes out
      ≡ block_of group command bytes ++ drop (length (block_of group command bytes)) out
  reply-out =
      output-written group bytes out command fitting
      ∙ ap (λ (n : ℕ). block_of group command bytes ++ drop n out) (sym (length-block group command bytes))
