-- `Marker::moved` meets its contract: the deck is told the position.
use mathlib.Core.Path.{refl}
use native.Mathlib.Omega.{arith}
use Rattle.deck.specs.Line.{position}
use Rattle.marker.proofs.Answered.{asked-timed}
use Rattle.marker.proofs.Marker.moved.Goals as goal

pub after-requires : goal.after-requires
after-requires c =
    (asked-timed c.args.self (position c.args.time c.args.place) c.position.ensures (omega arith) c.requires.0 refl c.requires.1).prompt

pub returns : goal.returns
returns c =
    (asked-timed c.args.self (position c.args.time c.args.place) c.position.ensures (omega arith) c.requires.0 refl c.requires.1).acts
    c.after.result c.after.ensures.deck c.after.ensures.waits
