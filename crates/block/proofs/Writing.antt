-- What the writer's number says of its fields, and what it writes then.
use Rattle.std.proofs.Common.{◌≡◌, ℕ, ◌+◌, ◌<◌, ◌≤◌, ltb, List, [], ◌∷◌, ◌++◌}
use Rattle.std.proofs.Common.{length, take, drop, set, append_assoc, add-one, arith, length-append, drop-cons, take_at, ltb-false, le-ltb}
use lib.Seq.{set_at}
use Rattle.std.proofs.lemmas.Bool.{or_parts}
use Rattle.block.specs.Block.{checksum, block_of}
use Rattle.block.specs.Write.{field_wrong, room_short, write_no, written, written_out}
use Rattle.block.proofs.Tests.{passed}

-- the checksum of what stands at the front of an output, put behind it
pub closed : (front out now : List ℕ) (n last : ℕ) → length front ≡ n → n < length out
    → now ≡ front ++ drop n out → last ≡ checksum (take n now)
    → set now n last ≡ (front ++ checksum front ∷ []) ++ drop (n + 1) out
closed front out now n last l h e f = rw (f, e, take_at front, drop-cons out n 0, set_at, add-one, append_assoc)

-- a block is three bytes longer than its data
pub length-block : (group command : ℕ) (bytes : List ℕ) → length (block_of group command bytes) ≡ length bytes + 3
length-block group command bytes = simp length-append (omega arith)

-- fields that a block can hold, and an output with room for it
pub record Fits (group : ℕ) (bytes out : List ℕ) : Type 0 where
  pub small : group ≤ 15
  pub few : length bytes ≤ 15
  pub room : length bytes + 3 ≤ length out

module _ (group : ℕ) (bytes out : List ℕ) where
  -- exactly those have the number 0
  pub fits : write_no group bytes out ≡ 0 → Fits group bytes out
  unfolding write_no
  fits e =
      let p = passed 8 0 (field_wrong group bytes) (room_short bytes out) e in
      let q = or_parts (ltb 15 group) (ltb 15 (length bytes)) p.0 in
      record { small = ltb-false _ _ q.0; few = ltb-false _ _ q.1; room = ltb-false _ _ p.1 }

  pub fits-writes : Fits group bytes out → write_no group bytes out ≡ 0
  unfolding write_no
  fits-writes f = simp (le-ltb _ _ f.small, le-ltb _ _ f.few, le-ltb _ _ f.room)

  pub answer-written : (len : ℕ) → len ≡ length bytes + 3 → write_no group bytes out ≡ 0
      → written group bytes out ≡ record { no = 0; len = len }
  unfolding written
  answer-written len l e = rw (e, l)

  pub output-written : (command : ℕ) → write_no group bytes out ≡ 0
      → written_out group command bytes out ≡ block_of group command bytes ++ drop (length bytes + 3) out
  unfolding written_out
  output-written command e = rw e
