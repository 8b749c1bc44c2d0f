-- `Deck::nak` meets its contract: what is written, and the deck without an open block.
use mathlib.Core.Path.{◌≡◌, refl, ◌∙◌}
use native.Mathlib.Omega.{arith}
use Rattle.deck.proofs.Output.{nak-answer, nak-output}
use Rattle.deck.proofs.Seen.{same-call}
use Rattle.deck.proofs.Deck.nak.Goals as goal

pub unwrap-len-requires : goal.unwrap-len-requires
unwrap-len-requires c = rw (nak-answer c.args.why c.args.out.now (omega arith) c.nak.result c.nak.ensures.0) refl

pub returns : goal.returns
returns c =
    let a = c.args in
    let n = c.nak.ensures in
    let v = c.closed.ensures in
    let z = nak-answer a.why a.out.now (omega arith) c.nak.result n.0 in
    let len : c.unwrap-len.result ≡ 4 = cc in
    let y = nak-output a.why a.out.now (omega arith) in
    record { seen-is = same-call refl v.1 (rw (v.0, c.opens_quiet.ensures)) (rw len) refl (n.1 ∙ y); made = λ _. v.2 }
