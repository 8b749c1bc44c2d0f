-- `answers::refuse` meets its contract.
use Rattle.std.proofs.Common.{◌≡◌, [], ◌∷◌, length, refl, ◌∙◌, arith}
use Rattle.execute.specs.Replies.{nak}
use Rattle.execute.proofs.Written.{reply-is, reply-out}
use Rattle.execute.proofs.answers.refuse.Goals as goal

pub unwrap-requires : goal.unwrap-requires
unwrap-requires c =
    let bytes = c.byte-code.result ∷ [] in
    rw (reply-is 0x1 0x12 bytes c.args.out.now (omega arith) (omega arith) (omega arith) c.nak.result c.nak.ensures.0) refl

pub returns-clause-answer : goal.returns-clause-answer
returns-clause-answer c =
    let bytes = c.byte-code.result ∷ [] in
    let e = reply-is 0x1 0x12 bytes c.args.out.now (omega arith) (omega arith) (omega arith) c.nak.result c.nak.ensures.0 in
    let n : c.unwrap.result ≡ length (nak c.byte-code.result) = cc in
    rw (n, c.opens_quiet.ensures, c.byte-code.ensures)

pub returns-clause-output : goal.returns-clause-output
returns-clause-output c =
    let bytes = c.byte-code.result ∷ [] in
    rw (← c.byte-code.ensures) (c.nak.ensures.1 ∙ reply-out 0x1 0x12 bytes c.args.out.now (omega arith) (omega arith) (omega arith))
