-- `put_record` meets its contract: the entries that the loop has passed are put, with the replies to them.
use Rattle.record.specs.Bytes.{entries_of}
use Rattle.cursor.proofs.Places.{comes, ends}
use Rattle.completion.proofs.Passed.{at_first, follows-here, passed, stopped, at_last}
use Rattle.completion.proofs.put.put_record.Goals as goal

pub loop-e-init : goal.loop-e-init
loop-e-init c =
    let a = c.args in
    let first = at_first (entries_of a.bytes.now) a.page.now c.power_on-deck.result c.power_on-deck.ensures c.requires in
    (rw (c.into_iter-e-iterator.ensures.into_iter_gives, c.at-e-items.ensures) first, tt, tt)

pub put_step-requires : goal.put_step-requires
put_step-requires c =
    let a = c.args in
    let l = c.loop-e in
    follows-here (entries_of a.bytes.now) a.page.now (rw (comes l.e-iterator c.in-Some.ensures.steps) at l.invariant.0)

pub returns-in_err-deck : goal.returns-in_err-deck
returns-in_err-deck c =
    let a = c.args in
    let l = c.loop-e in
    let v = rw (comes l.e-iterator c.in-Some.ensures.steps) at l.invariant.0 in
    stopped (entries_of a.bytes.now) a.page.now v c.put_step.ensures.puts c.in_err-deck.was _

pub loop-e-preserved : goal.loop-e-preserved
loop-e-preserved c =
    let a = c.args in
    let l = c.loop-e in
    let v = rw (comes l.e-iterator c.in-Some.ensures.steps) at l.invariant.0 in
    let d = c.in_ok-deck.ensures.deck in
    (passed (entries_of a.bytes.now) a.page.now v c.put_step.ensures.puts c.in_ok-deck.was d.0 d.1, tt, tt)

pub returns : goal.returns
returns c =
    let a = c.args in
    let l = c.loop-e in
    at_last (entries_of a.bytes.now) a.page.now (rw (ends l.e-iterator c.in-None.ensures.steps) at l.invariant.0)
