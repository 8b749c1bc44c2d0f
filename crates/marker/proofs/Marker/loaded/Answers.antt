-- `Marker::loaded` meets its contract: the deck is told the cassette.
use mathlib.Core.Path.{refl}
use native.Mathlib.Omega.{arith}
use Rattle.deck.specs.Line.{cassette}
use Rattle.marker.proofs.Answered.{asked-timed}
use Rattle.marker.proofs.Marker.loaded.Goals as goal

pub after-requires : goal.after-requires
after-requires c =
    (asked-timed c.args.self (cassette c.args.time) c.cassette.ensures (omega arith) c.requires refl (omega arith)).prompt

pub returns : goal.returns
returns c =
    (asked-timed c.args.self (cassette c.args.time) c.cassette.ensures (omega arith) c.requires refl (omega arith)).acts
    c.after.result c.after.ensures.deck c.after.ensures.waits
