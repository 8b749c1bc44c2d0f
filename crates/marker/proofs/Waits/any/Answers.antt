-- `Waits::any` meets its contract.
use Rattle.marker.proofs.Left.{any_left}
use Rattle.marker.proofs.Waits.any.Goals as goal

pub returns : goal.returns
returns c = any_left c.args.self
