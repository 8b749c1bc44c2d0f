-- `put_both` meets its contract.
use native.Mathlib.Omega.{arith}
use Rattle.text.proofs.Writing.{behind, stops}
use Rattle.completion.specs.Calls.{reply}
use Rattle.completion.proofs.Written.{reply-behind, reply-before}
use Rattle.completion.proofs.put.put_both.Goals as goal

pub returns-in_err-put_entry : goal.returns-in_err-put_entry
returns-in_err-put_entry c =
    let a = c.args in
    rw (reply-behind a.e (reply a.due a.bytes.now) (omega (arith, c.if-e-due.true))) (stops c.put_entry.ensures c.in_err-put_entry.was _ _)

pub returns-then-e-due : goal.returns-then-e-due
returns-then-e-due c =
    let a = c.args in
    rw (reply-behind a.e (reply a.due a.bytes.now) (omega (arith, c.if-e-due.true))) (behind c.put_entry.ensures c.put_reply.ensures)

pub returns-in_err-put_reply : goal.returns-in_err-put_reply
returns-in_err-put_reply c =
    let a = c.args in
    rw (reply-before a.e (reply a.due a.bytes.now) (omega (arith, c.if-e-due.false)))
    (stops c.put_reply-2.ensures c.in_err-put_reply.was _ _)

pub returns : goal.returns
returns c =
    let a = c.args in
    rw (reply-before a.e (reply a.due a.bytes.now) (omega (arith, c.if-e-due.false)))
    (behind c.put_reply-2.ensures c.put_entry-2.ensures)
