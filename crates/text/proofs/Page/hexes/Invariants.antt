-- `Page::hexes` meets its contract: the bytes that the loop has passed are put.
use Rattle.std.specs.Prelude.{Ok}
use lib.ListN.{take}
use Rattle.text.specs.Text.{hexes}
use Rattle.text.specs.Puts.{Adds}
use Rattle.text.proofs.Page.hexes.Given as goal

abbrev pub invariant-loop-byte : goal.invariant-loop-byte
invariant-loop-byte l = Adds l.initial.self (hexes (take l.byte-index l.bytes)) l.self (Ok (tt {0}))
