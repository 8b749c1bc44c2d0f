-- `put_answer` meets its contract: the two replies, one behind the other.
use Prim.Native.Nat.{◌-◌}
use mathlib.Core.Path.{◌≡◌}
use native.Mathlib.Omega.{arith}
use lib.ListN.{length, take, drop, length-drop}
use lib.Seq.{take_all}
use Rattle.std.proofs.lemmas.Grind.{common_steps}
use Rattle.deck.specs.Calls.{len_of}
use Rattle.text.proofs.Writing.{behind}
use Rattle.report.proofs.entries.put_answer.Goals as goal

pub returns : goal.returns
returns c =
    let n = c.map_or-len.result in
    let b = c.args.bytes.now in
    let first : n ≡ len_of c.args.answer.first = grind (arith, common_steps) in
    let e : take (length b - n) (drop n b) ≡ drop n b = take_all (length b - n) (drop n b) (simp length-drop (omega arith)) in
    rw (← first) (behind c.put_sent.ensures (rw e at c.put_sent-2.ensures))
