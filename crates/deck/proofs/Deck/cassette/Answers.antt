-- `Deck::cassette` meets its contract: a look, and the cassette loaded.
use Rattle.settings.specs.Settings.{loaded}
use Rattle.deck.specs.Line.{cassette, looked}
use Rattle.deck.specs.Calls.{view}
use Rattle.deck.specs.Joins.{with_clock}
use Rattle.deck.proofs.Steps.{answers-other}
use Rattle.deck.proofs.Numbers.{admitted, refuses, takes}
use Rattle.deck.proofs.Seen.{comes-resettled}
use Rattle.deck.proofs.Deck.cassette.Goals as goal

pub returns-in_err-check : goal.returns-in_err-check
returns-in_err-check c =
    let a = c.args in
    refuses a.self (cassette a.time) a.out.now _ _ c.from_residual.ensures.1 c.in_err-check.ensures

pub looked-answer-requires : goal.looked-answer-requires
looked-answer-requires c = let a = c.args in admitted a.self (cassette a.time) a.out.now c.in_ok-check.ensures

pub returns : goal.returns
returns c =
    let a = c.args in
    let l = c.looked-answer in
    takes a.self (cassette a.time) a.out.now c.in_ok-check.ensures _ _
    (rw (answers-other (view a.self) (cassette a.time) tt, c.load-answer.ensures)
    (comes-resettled loaded (with_clock a.time a.self) (looked (view a.self) a.time) a.out.now _ l.result l.ensures))
