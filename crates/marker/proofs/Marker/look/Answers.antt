-- `Marker::look` meets its contract: the deck is told the time.
use native.Mathlib.Omega.{arith}
use Rattle.marker.proofs.Answered.{asked-look}
use Rattle.marker.proofs.Marker.look.Goals as goal

pub after-requires : goal.after-requires
after-requires c = (asked-look c.args.self c.args.time c.look.ensures (omega arith) c.requires.0 c.requires.1).prompt

pub returns : goal.returns
returns c =
    (asked-look c.args.self c.args.time c.look.ensures (omega arith) c.requires.0 c.requires.1).acts
    c.after.result c.after.ensures.deck c.after.ensures.waits
