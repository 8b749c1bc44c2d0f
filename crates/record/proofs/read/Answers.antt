-- `read` meets its contract: a place below the number of entries has one, and any other has none.
use Rattle.std.proofs.Common.{[], sym, arith}
use Rattle.record.proofs.Bytes.{read_chunk, read_past}
use Rattle.record.proofs.read.Goals as goal

pub returns-in-Some : goal.returns-in-Some
returns-in-Some c =
    let (inside, there) = c.in-Some.ensures.lookup.3 in
    rw c.from_bytes.ensures
    (read_chunk c.args.bytes.now c.args.place _ [] (omega (arith, inside, c.as_chunks.ensures.front_len)) (rw c.as_chunks.ensures.front at there []))

pub returns-in-None : goal.returns-in-None
returns-in-None c =
    sym (read_past c.args.bytes.now c.args.place (omega (arith, c.in-None.ensures.lookup.3, c.as_chunks.ensures.front_len)))
