-- `block::write` meets its contract: past the tests two bytes are set, the data is copied behind them, and the sum put behind that.
use Rattle.std.proofs.Common.{◌≡◌, ℕ, suc, ◌+◌, ◌-◌, ◌*◌, ◌%◌, ◌≤◌, List, [], ◌∷◌, ◌++◌, length, drop, set, arith}
use borrow.Rule.Slice.PartMut.{put_mid}
use lib.Bits.{bit_or, or_shifted}
use Rattle.block.specs.Block.{first_byte}
use Rattle.block.proofs.Writing.{closed, fits-writes, output-written}
use Rattle.block.proofs.write.Goals as goal

-- the two halves of the first byte
joined : (group count : ℕ) → group ≤ 15 → count ≤ 15 → bit_or (group * 16 % 256) count ≡ first_byte group count
joined group count g h =
    let e : group * 16 % 256 ≡ group * 16 = omega arith in
    rw e (or_shifted group 4 count (omega arith))

-- two bytes set at the front of `out`, and the part behind them replaced by as many bytes
behind : (first command : ℕ) (bytes out : List ℕ) → length bytes + 2 ≤ length out
    → put_mid 2 (length bytes + 2 - 2) (set (set out 0 first) 1 command) bytes
    ≡ first ∷ command ∷ (bytes ++ drop (length bytes + 2) out)
behind first command bytes [] h = absurd (omega arith)
behind first command bytes (x ∷ []) h = absurd (omega arith)
behind first command bytes (x ∷ y ∷ out) h =
    let n : suc (suc (length bytes)) - 2 ≡ length bytes = omega arith in
    let m : length bytes + 2 ≡ suc (suc (length bytes)) = omega arith in
    simp (m, n)

pub returns-clause-output : goal.returns-clause-output
returns-clause-output c =
    let a = c.args in
    let group = a.group in
    let bytes = a.«data».now in
    let out = a.out.now in
    let n = length bytes in
    let z = fits-writes group bytes out (record { small = omega arith; few = omega arith; room = omega arith }) in
    let e : n + 2 + 1 ≡ n + 3 = omega arith in
    let f = joined group n (omega arith) (omega arith) in
    let first = bit_or (group * 16 % 256) n in
    rw (output-written group bytes out a.command z, ← f, ← e)
    (closed (first ∷ a.command ∷ bytes) out _ (n + 2) _ (omega arith) (omega arith)
    (rw c.copy_from_slice.ensures.after (behind first a.command bytes out (omega arith)))
    c.sum.ensures)
