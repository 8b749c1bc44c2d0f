-- `Deck::look` meets its contract.
use Rattle.deck.specs.Line.{look}
use Rattle.deck.specs.Calls.{view}
use Rattle.deck.proofs.Steps.{look-alone}
use Rattle.deck.proofs.Numbers.{admitted, refuses, takes}
use Rattle.deck.proofs.Deck.look.Goals as goal

pub returns-in_err-check : goal.returns-in_err-check
returns-in_err-check c =
    let a = c.args in
    refuses a.self (look a.time) a.out.now _ _ c.from_residual.ensures.1 c.in_err-check.ensures

pub looked-requires : goal.looked-requires
looked-requires c = let a = c.args in admitted a.self (look a.time) a.out.now c.in_ok-check.ensures

pub returns : goal.returns
returns c =
    let a = c.args in
    takes a.self (look a.time) a.out.now c.in_ok-check.ensures _ _ (rw (look-alone (view a.self) a.time) c.looked.ensures)
