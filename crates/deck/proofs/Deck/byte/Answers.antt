-- `Deck::byte` meets its contract.
use mathlib.Core.Path.{sym}
use Rattle.deck.specs.Line.{byte}
use Rattle.deck.specs.Calls.{view}
use Rattle.deck.proofs.Found.{byte-in-time}
use Rattle.deck.proofs.Numbers.{admitted, refuses, takes}
use Rattle.deck.proofs.Deck.byte.Goals as goal

pub returns-in_err-check : goal.returns-in_err-check
returns-in_err-check c =
    let a = c.args in
    refuses a.self (byte a.time a.content a.flags) a.out.now _ _ c.from_residual.ensures.1 c.in_err-check.ensures

pub late-requires : goal.late-requires
late-requires c =
    let a = c.args in (
      sym c.if-timed_out.ensures,
      admitted a.self (byte a.time a.content a.flags) a.out.now c.in_ok-check.ensures,
    )

pub returns-then-timed_out : goal.returns-then-timed_out
returns-then-timed_out c =
    let a = c.args in
    takes a.self (byte a.time a.content a.flags) a.out.now c.in_ok-check.ensures _ _ c.late.ensures

pub heard-requires : goal.heard-requires
heard-requires c =
    let a = c.args in
    admitted a.self (byte a.time a.content a.flags) a.out.now c.in_ok-check.ensures

pub returns : goal.returns
returns c =
    let a = c.args in
    takes a.self (byte a.time a.content a.flags) a.out.now c.in_ok-check.ensures _ _
    (rw (byte-in-time (view a.self) a.time a.content a.flags (sym c.if-timed_out.ensures)) c.heard.ensures)
