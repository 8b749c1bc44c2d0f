-- `Marker::ends` meets its contract.
use Rattle.deck.proofs.Held.{opened}
use Rattle.record.specs.Machine.{resting}
use Rattle.marker.proofs.Tests.{shut}
use Rattle.marker.proofs.Marker.ends.Goals as goal
use Rattle.marker.proofs.Marker.ends.Goals.{then-self-ne0-via-then-self-ne0, then-self-ne0-via-else-self-ne0+then-any}

pub returns-then-self-ne0 : goal.returns-then-self-ne0
unfolding resting
returns-then-self-ne0 c =
    let d = c.args.self.deck in
    elim c.then-self-ne0.branch [
      | then-self-ne0-via-then-self-ne0 w ↦ rw (opened d.held d.first d.tail w.if-self-ne0.true)
      | then-self-ne0-via-else-self-ne0+then-any w ↦
          rw (shut d.held d.first d.tail w.if-self-ne0.false, ← w.any.ensures, w.if-any.true)
    ]

pub returns : goal.returns
unfolding resting
returns c =
    let d = c.args.self.deck in
    rw (shut d.held d.first d.tail c.if-self-ne0.false, ← c.any.ensures, c.if-any.false)
