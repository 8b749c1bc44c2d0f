-- `read_full`: a read that gives more bytes puts them behind those that have come.
use Rattle.std.proofs.Common.{◌≡◌, ◌+◌, ◌-◌, ◌++◌, rules, length, take, sym, ap, ◌∙◌, subst, length-take-le}
use Rattle.std.proofs.lemmas.List.{take-append-le}
use Rattle.std.proofs.Math.Seq.{take-append-add}
use Rattle.std.specs.Io.KnownBytes.{Consumes}
use Rattle.std.proofs.KnownBytes.{Consumes-trans}
use borrow.Rule.Slice.PartMut.{put_mid}
use Rattle.streams.proofs.read_full.Goals as goal

pub loop-count-preserved : goal.loop-count-preserved
loop-count-preserved g c =
    let l = c.loop-count in
    let more = c.in-Ok.more in
    let front = take l.count l.space in
    let after = put_mid l.count (length l.space - l.count) l.space c.read.new.buf in
    let joined : take (l.count + more) after ≡ front ++ take more c.read.new.buf =
    ap (λ n. take (n + more) after) (sym (length-take-le l.count l.space l.invariant.1)) ∙ take-append-add front _ more
    ∙ ap (λ came. front ++ came) (take-append-le more c.read.new.buf _ c.in-Ok.ensures.bound.0) in
    (search rules, search rules, subst (Consumes _ _) (sym joined) (Consumes-trans _ _ _ _ _ l.invariant.2 c.in-Ok.ensures.bytes.0))
