-- `Marker::reply_byte` meets its contract.
use native.Mathlib.Omega.{arith}
use Rattle.marker.proofs.Filled.{unfilled-kind}
use Rattle.marker.proofs.Passing.{arrives}
use Rattle.marker.proofs.Marker.reply_byte.Goals as goal

pub returns-then-not-comes : goal.returns-then-not-comes
returns-then-not-comes c = unfilled-kind c.args.self c.args.e (λ z. omega (arith, c.requires.0))

pub taken-self-requires : goal.taken-self-requires
taken-self-requires c =
    (c.comes.ensures c.if-not-comes.false).range

pub returns : goal.returns
returns c =
    let a = c.args in (
      arrives a.self a.e c.requires.1 c.requires.0 (c.comes.ensures c.if-not-comes.false) c.taken-self.result c.taken-self.ensures,
      unfilled-kind a.self a.e (λ z. omega (arith, c.requires.0)),
    )
