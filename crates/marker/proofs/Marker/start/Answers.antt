-- `Marker::start` meets its contract.
use Rattle.marker.proofs.Marker.start.Goals as goal

pub returns : goal.returns
returns c = rw (c.power_on.ensures, c.none.ensures)
