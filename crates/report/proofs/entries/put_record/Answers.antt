-- `put_record` meets its contract: the lines of the entries that the loop has passed are put.
use native.Mathlib.Omega.{arith}
use Rattle.std.proofs.Common.{inl}
use Rattle.deck.specs.Calls.{new_deck}
use Rattle.record.specs.Bytes.{entries_of}
use Rattle.report.specs.Answered.{standing}
use Rattle.cursor.proofs.Places.{comes, ends}
use Rattle.record.proofs.Bytes.{length-entries}
use Rattle.report.proofs.Passed.{at_first, passed, stopped, at_last}
use Rattle.report.proofs.entries.put_record.Goals as goal

pub loop-k-init : goal.loop-k-init
loop-k-init c =
    let bytes = c.args.bytes.now in
    let s = c.enumerate-k-items.ensures in
    rw (c.into_iter-k-iterator.ensures.into_iter_gives, s.source, s.count, c.at.ensures, c.power_on-deck.ensures)
    (at_first _ 0 (standing new_deck) (entries_of bytes), (tt, tt, inl (omega (arith, length-entries bytes))), tt)

pub returns-in_err-put_entry : goal.returns-in_err-put_entry
returns-in_err-put_entry c =
    let l = c.loop-k in
    let steps = c.in-Some.ensures.steps in
    let v = rw (comes l.k-iterator.iter steps.0) at l.invariant.0 in
    stopped v (rw steps.1 at c.put_entry.ensures.lines) c.in_err-put_entry.was _

pub loop-k-preserved : goal.loop-k-preserved
loop-k-preserved c =
    let l = c.loop-k in
    let steps = c.in-Some.ensures.steps in
    let goes = c.in-Some.ensures.goes in
    let e = c.put_entry.ensures in
    let v = rw (comes l.k-iterator.iter steps.0) at l.invariant.0 in
    let lines = rw (steps.1, c.in_ok-put_entry.was) at e.lines in
    (rw (steps.2, e.after) (passed v lines), goes.keeps, (goes.on l.invariant.2).1)

pub returns : goal.returns
returns c =
    let l = c.loop-k in
    at_last (rw (ends l.k-iterator.iter c.in-None.ensures.steps.0) at l.invariant.0) c.put_settings.ensures
