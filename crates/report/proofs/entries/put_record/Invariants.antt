-- `put_record` meets its contract: the lines of the entries that the loop has passed are put.
use Rattle.deck.specs.Calls.{new_deck}
use Rattle.record.specs.Bytes.{entries_of}
use Rattle.cursor.specs.Cursors.{entries_left}
use Rattle.report.specs.Transcript.{transcript_from}
use Rattle.report.specs.Answered.{standing}
use Rattle.report.proofs.Passed.{Inv}
use Rattle.report.proofs.entries.put_record.Given as goal

abbrev pub invariant-loop-k : goal.invariant-loop-k
invariant-loop-k l =
    let cursor = l.k-iterator in
    let text = transcript_from 0 (standing new_deck) (entries_of l.bytes) in
    Inv text l.initial.page l.page cursor.count (standing l.deck) (entries_left cursor.iter)
    × (goal.iterator-loop-k).can_next cursor × (goal.iterator-loop-k).is_finite cursor
