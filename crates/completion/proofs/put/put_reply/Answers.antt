-- `put_reply` meets its contract: the bytes that the loop has passed are put.
use lib.Seq.{take_all}
use Rattle.record.proofs.Records.{record-none}
use Rattle.text.proofs.Writing.{nothing, behind, stops}
use Rattle.completion.proofs.Written.{sent-more, sent-around}
use Rattle.completion.proofs.put.put_reply.Goals as goal

pub loop-byte-init : goal.loop-byte-init
loop-byte-init c = rw record-none (nothing _)

pub loop-byte-preserved : goal.loop-byte-preserved
loop-byte-preserved c =
    let a = c.args in
    let l = c.loop-byte in
    let put = rw (c.from.ensures, c.in_ok-put_entry.was) at c.put_entry.ensures in
    rw (sent-more a.due l.byte-index a.bytes.now c.loop-byte-test.true) (behind l.invariant put)

pub returns-in_err-put_entry : goal.returns-in_err-put_entry
returns-in_err-put_entry c =
    let a = c.args in
    let l = c.loop-byte in
    rw (sent-around a.due l.byte-index a.bytes.now c.loop-byte-test.true)
    (behind l.invariant (stops (rw c.from.ensures at c.put_entry.ensures) c.in_err-put_entry.was _ _))

pub returns : goal.returns
returns c =
    let a = c.args in
    let l = c.loop-byte in
    rw (take_all l.byte-index a.bytes.now c.loop-byte-test.false) at l.invariant
