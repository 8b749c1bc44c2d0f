-- `put_reply` meets its contract: the bytes that the loop has passed are put.
use Rattle.std.specs.Prelude.{Ok}
use lib.ListN.{take}
use Rattle.text.specs.Puts.{Adds}
use Rattle.completion.proofs.Written.{sent}
use Rattle.completion.proofs.put.put_reply.Given as goal

abbrev pub invariant-loop-byte : goal.invariant-loop-byte
invariant-loop-byte l = Adds l.initial.page (sent l.due (take l.byte-index l.bytes)) l.page (Ok (tt {0}))
