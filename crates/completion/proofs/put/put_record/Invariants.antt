-- `put_record` meets its contract: the entries that the loop has passed are put, with the replies to them.
use Rattle.record.specs.Bytes.{entries_of}
use Rattle.cursor.specs.Cursors.{entries_left}
use Rattle.completion.proofs.Passed.{Inv}
use Rattle.completion.proofs.put.put_record.Given as goal

abbrev pub invariant-loop-e : goal.invariant-loop-e
invariant-loop-e l =
    Inv (entries_of l.bytes) l.initial.page l.page l.deck (entries_left l.e-iterator)
    × (goal.iterator-loop-e).can_next l.e-iterator × (goal.iterator-loop-e).is_finite l.e-iterator
