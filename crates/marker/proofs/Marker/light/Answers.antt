-- `Marker::light` meets its contract, by the kind of the entry.
use native.Mathlib.Omega.{arith}
use Rattle.marker.proofs.Filled.{unfilled-head}
use Rattle.marker.proofs.Marker.light.Goals as goal

pub returns-in_default : goal.returns-in_default
returns-in_default c =
    unfilled-head c.args.self c.args.e (λ z. omega arith)
