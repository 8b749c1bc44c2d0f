-- `put_step` meets its contract: the deck refuses no entry that follows.
use native.Mathlib.Omega.{arith}
use Rattle.completion.proofs.Exercises.{follows_is}
use Rattle.completion.proofs.Caller.{seen_few, seen-deck, seen-all, never}
use Rattle.completion.proofs.Written.{taken, refused}
use Rattle.completion.proofs.put.put_step.Goals as goal

pub returns-in_err-answer-clause-puts : goal.returns-in_err-answer-clause-puts
returns-in_err-answer-clause-puts c =
    let h = rw c.in_err-answer.was at c.hand.ensures in
    absurd (never (omega arith) (follows_is c.requires) c.in_err-answer.field-0.0 h)

pub put_answer-requires : goal.put_answer-requires
put_answer-requires c =
    let h = rw c.in_ok-answer.was at c.hand.ensures in
    omega (arith, seen_few (omega arith) (follows_is c.requires) h)

pub returns-in_err-put_answer-clause-puts : goal.returns-in_err-put_answer-clause-puts
returns-in_err-put_answer-clause-puts c =
    let h = rw c.in_ok-answer.was at c.hand.ensures in
    let all = seen-all (omega arith) (follows_is c.requires) h in
    rw (← all) (refused c.in_err-put_answer.was _ c.put_answer.ensures)

pub returns-clause-puts : goal.returns-clause-puts
returns-clause-puts c =
    let h = rw c.in_ok-answer.was at c.hand.ensures in
    let all = seen-all (omega arith) (follows_is c.requires) h in
    rw (← all) (taken c.in_ok-put_answer.was c.put_answer.ensures)

pub returns-clause-deck : goal.returns-clause-deck
returns-clause-deck c =
    let h = rw c.in_ok-answer.was at c.hand.ensures in
    seen-deck (omega arith) (follows_is c.requires) h
