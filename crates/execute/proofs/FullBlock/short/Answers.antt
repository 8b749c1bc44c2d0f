-- `FullBlock::short` meets its contract.
use Rattle.execute.proofs.Shifted.{body-front, body-sum}
use Rattle.execute.proofs.FullBlock.short.Goals as goal

pub returns-clause-bytes : goal.returns-clause-bytes
returns-clause-bytes c =
    let b = c.args.self in
    rw c.to_be_bytes.ensures (body-front b.tail b.count c.requires.1 c.requires.0)

pub returns-clause-sum : goal.returns-clause-sum
returns-clause-sum c =
    let b = c.args.self in
    rw c.to_be_bytes.ensures (body-sum b.tail b.count c.requires.1)
