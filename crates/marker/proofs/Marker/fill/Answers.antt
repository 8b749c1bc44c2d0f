-- `Marker::fill` meets its contract: the deck answers to the byte.
use native.Mathlib.Omega.{arith}
use Rattle.marker.proofs.Filled.{small, asked-fill, fills-so}
use Rattle.marker.proofs.Marker.fill.Goals as goal

pub overflow_cast-e : goal.overflow_cast-e
overflow_cast-e c =
    omega (arith, small c.args.self c.args.e c.requires)

pub after-requires : goal.after-requires
after-requires c = (asked-fill c.args.self c.args.e c.requires (omega arith) c.fill.ensures).prompt

pub returns : goal.returns
returns c =
    fills-so c.args.self c.args.e c.requires c.after.result
    ((asked-fill c.args.self c.args.e c.requires (omega arith) c.fill.ensures).acts
    c.after.result c.after.ensures.deck c.after.ensures.waits)
