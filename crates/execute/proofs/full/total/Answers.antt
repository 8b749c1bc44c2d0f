-- `full::total` meets its contract: the sum so far is that of the bytes at the places so far.
use Rattle.std.proofs.Common.{◌≡◌, ℕ, List, map, refl, ◌∙◌, arith, rules}
use Rattle.std.specs.List.{range_with_len}
use Rattle.std.proofs.iter.Yields.{nat_range_steps}
use Rattle.std.proofs.lemmas.Fn.{fold_over}
use Rattle.std.proofs.lemmas.Iterator.{YieldsList-from_range}
use Rattle.packed.specs.Tail.{recent}
use Rattle.block.specs.Block.{sum, checksum}
use Rattle.execute.proofs.Totals.{at, checksum_more, checksum-placed}
use Rattle.execute.proofs.full.total.Goals as goal

pub returns : goal.returns
unfolding sum
returns c =
    let l = recent c.args.tail in
    let n = c.args.count in
    let Sum : List ℕ → ℕ → Type 0 = λ places a. a ≡ checksum (map (at l) places) in
    let all = (YieldsList-from_range 0 n n refl (omega arith)).runs in
    fold_over nat_range_steps (λ x. x) _ Sum _ (λ places a x b f' j k. let e = checksum_more l places x in search rules)
    (record { start = 0; end = n }) (range_with_len 0 n) 0 _ all refl c.fold.ensures.ran
    ∙ checksum-placed l n
