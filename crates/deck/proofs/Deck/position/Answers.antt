-- `Deck::position` meets its contract: a look, and the position set.
use Rattle.settings.specs.Settings.{with_position}
use Rattle.deck.specs.Line.{position, looked}
use Rattle.deck.specs.Calls.{view}
use Rattle.deck.specs.Joins.{with_clock}
use Rattle.deck.proofs.Steps.{answers-other}
use Rattle.deck.proofs.Numbers.{admitted, refuses, takes}
use Rattle.deck.proofs.Seen.{comes-resettled}
use Rattle.deck.proofs.Deck.position.Goals as goal

pub returns-in_err-check : goal.returns-in_err-check
returns-in_err-check c =
    let a = c.args in
    refuses a.self (position a.time a.place) a.out.now _ _ c.from_residual.ensures.1 c.in_err-check.ensures

pub looked-answer-requires : goal.looked-answer-requires
looked-answer-requires c = let a = c.args in admitted a.self (position a.time a.place) a.out.now c.in_ok-check.ensures

pub returns : goal.returns
returns c =
    let a = c.args in
    let l = c.looked-answer in
    takes a.self (position a.time a.place) a.out.now c.in_ok-check.ensures _ _
    (rw (answers-other (view a.self) (position a.time a.place) tt)
    (comes-resettled (with_position a.place) (with_clock a.time a.self) (looked (view a.self) a.time) a.out.now _ l.result l.ensures))
