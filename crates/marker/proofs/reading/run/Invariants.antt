-- `run` meets its contract.
use Prim.Native.Nat.{◌-◌, ◌/◌}
use lib.ListN.{length}
use Rattle.marker.specs.Marks.{Leads}
use Rattle.marker.proofs.reading.run.Given as goal

abbrev pub invariant-loop-taken : goal.invariant-loop-taken
invariant-loop-taken l =
    Leads l.bytes l.initial.table l.table l.reading.marker l.reading.count l.reading.place

abbrev pub decreases-loop-taken : goal.decreases-loop-taken
decreases-loop-taken l = length l.bytes / 12 - l.reading.place
