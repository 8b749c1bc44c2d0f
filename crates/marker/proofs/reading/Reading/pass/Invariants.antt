-- `Reading::pass` meets its contract.
use Prim.Native.Nat.{◌-◌, ◌/◌, ◌≤◌}
use lib.ListN.{length}
use Rattle.marker.specs.Marks.{Leads}
use Rattle.marker.proofs.reading.Reading.pass.Given as goal

abbrev pub invariant-loop-taken : goal.invariant-loop-taken
invariant-loop-taken l =
    Leads l.bytes l.initial.table l.table l.self.marker l.self.count l.self.place × (l.fn.self.count ≤ l.self.count)
    × (l.fn.self.place ≤ l.self.place)

abbrev pub decreases-loop-taken : goal.decreases-loop-taken
decreases-loop-taken l = length l.bytes / 12 - l.self.place
