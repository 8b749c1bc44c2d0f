-- `answers::answer` meets its contract.
use Rattle.std.proofs.Common.{◌≡◌, length, refl, ◌∙◌, arith}
use Rattle.block.specs.Block.{block_of}
use Rattle.execute.proofs.Written.{reply-is, reply-out}
use Rattle.execute.proofs.answers.answer.Goals as goal

pub unwrap-requires : goal.unwrap-requires
unwrap-requires c =
    let a = c.args in
    let p = c.requires in
    rw (reply-is a.group a.command a.«data».now a.out.now p.0 p.1 (omega arith) c.write.result c.write.ensures.answer) refl

pub returns-clause-answer : goal.returns-clause-answer
returns-clause-answer c =
    let a = c.args in
    let p = c.requires in
    let e = reply-is a.group a.command a.«data».now a.out.now p.0 p.1 (omega arith) c.write.result c.write.ensures.answer in
    let n : c.unwrap.result ≡ length (block_of a.group a.command a.«data».now) = cc in
    rw n

pub returns-clause-output : goal.returns-clause-output
returns-clause-output c =
    let a = c.args in
    let p = c.requires in
    c.write.ensures.output ∙ reply-out a.group a.command a.«data».now a.out.now p.0 p.1 (omega arith)
