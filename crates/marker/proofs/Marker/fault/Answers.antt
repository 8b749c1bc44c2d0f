-- `Marker::fault` meets its contract.
use mathlib.Core.Path.{sym, ◌∙◌}
use Rattle.deck.specs.Calls.{view}
use Rattle.marker.specs.Steps.{awaited}
use Rattle.marker.proofs.Left.{some-next}
use Rattle.marker.proofs.Tests.{overdue}
use Rattle.marker.proofs.Marker.fault.Goals as goal

pub returns-then-self-e : goal.returns-then-self-e
returns-then-self-e c =
    let m = c.args.self in
    let s = some-next (awaited m.waits).left c.in-Some.next (sym c.in-Some.is ∙ c.next.ensures) in
    sym (overdue (view m.deck) (awaited m.waits) c.args.e s.0 c.if-self-e.true)
