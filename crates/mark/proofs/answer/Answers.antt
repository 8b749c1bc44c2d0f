-- `mark::answer` meets its contract: the table has a place for each turn, and an output with room is taken.
use Rattle.std.proofs.Common.{ℕ, List, ◌≡◌, ◌≤◌, refl, ap, length, take, arith, length-take, replicate}
use lib.ListN.{length-replicate}
use Rattle.marker.specs.declared.Marked.{Marked}
use Rattle.marker.specs.Marks.{Marks}
use Rattle.report.specs.Verdict.{text_of, room_for}
use Rattle.report.proofs.Room.{taken, front}
use Rattle.mark.proofs.Counts.{counted}
use Rattle.mark.proofs.answer.Goals as goal

-- the output has room for the longest text of so many turns
enough : (out : List ℕ) {bytes table : List ℕ} {m r : Marked} → m ≡ r → Marks bytes (replicate 5461 0) r table → 87440 ≤ length out
    → room_for (take m.count table) ≤ length out
enough out {bytes} {table} {m} {r} is marks room =
    let few : r.count ≤ 5461 = rw (length-replicate {A = ℕ} 5461 0) at (counted marks) in
    omega (arith, few, room, ap (λ (x : Marked). x.count) is, length-take m.count table)

pub slice_bounds-table-end : goal.slice_bounds-table-end
slice_bounds-table-end c = rw (c.mark.auto.table, c.from-marked.ensures) (counted c.mark.ensures)

pub slice_bounds-text-end : goal.slice_bounds-text-end
slice_bounds-text-end c = simp length-take (omega (arith, c.mark.auto.table, ap (λ (m : Marked). m.count) c.from-marked.ensures, counted c.mark.ensures))

pub unwrap-requires : goal.unwrap-requires
unwrap-requires c =
    let m = c.from-marked.result in
    let starts = take m.count c.mark.new.table in
    rw (taken (room_for starts) (text_of m starts) c.args.out.now (enough c.args.out.now c.from-marked.ensures c.mark.ensures c.requires) c.text.result c.text.ensures.answer) refl

pub returns : goal.returns
returns c =
    let m = c.from-marked.result in
    let t = c.text in
    let out = c.args.out.now in
    let starts = take m.count c.mark.new.table in
    let fits = enough out c.from-marked.ensures c.mark.ensures c.requires in
    let p = front (room_for starts) (text_of m starts) out fits c.unwrap.ensures t.ensures.answer t.ensures.output in
    record {
      prefix_len = p.0;
      answers = record { marked = m; table = c.mark.new.table; marks = rw c.from-marked.ensures c.mark.ensures; told = p.1 };
    }
