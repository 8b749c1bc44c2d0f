-- `Waits::taken` meets its contract, by how many bytes are left.
use Prim.Native.Nat.{ℕ, ◌+◌}
use mathlib.Core.Path.{ap}
use mathlib.Core.List.{List}
use native.Mathlib.Omega.{arith}
use Rattle.record.specs.Machine.{Waiting, waiting}
use Rattle.marker.proofs.Left.{taken-low, taken-rest}
use Rattle.marker.proofs.Waits.taken.Goals as goal
use Rattle.marker.proofs.Waits.taken.Goals.{in-0, in-1-to-8, in_default}

-- one list for another, with the same latest time
abbrev until : ℕ → List ℕ → Waiting
until time l = waiting l (time + 10000)

pub returns : goal.returns
returns c =
    let w = c.args.self in
    let t = c.args.time in
    elim c.match-self.branch [
      | in-0 b ↦ rw (b.left-is, b.in-0.is)
      | in-1-to-8 b ↦
          rw (b.left-is, b.low_rest.ensures) (ap (until t) (taken-low w (omega arith) (omega arith)))
      | in_default b ↦
          rw (b.left-is, b.rest.ensures, b.min.ensures) (ap (until t) (taken-rest w (omega arith)))
    ]
