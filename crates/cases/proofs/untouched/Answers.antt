-- `untouched` meets its contract: what the loop has passed.
use mathlib.Core.Path.{refl, sym, ap, ap₂, ◌∙◌}
use mathlib.Core.Bool.{Bool, ◌&&◌}
use lib.Seq.{take_all}
use Rattle.std.proofs.lemmas.List.Folds.{list_all_more}
use Rattle.cases.proofs.untouched.Goals as goal

pub loop-x-init : goal.loop-x-init
loop-x-init g c = refl

pub loop-x-preserved : goal.loop-x-preserved
loop-x-preserved g c =
    let l = c.loop-x in
    let test : g.row.T.Denot → Bool = λ x. g.T.PartialEq.eq x c.args.fill in
    ap₂ ◌&&◌ l.invariant (c.eq-all.ensures ∙ ap test c.x-item.is)
    ∙ sym (list_all_more test c.args.rest.now l.x-index c.x-item.result c.loop-x-test.true)

pub returns : goal.returns
returns g c =
    let l = c.loop-x in
    rw (take_all l.x-index c.args.rest.now c.loop-x-test.false) at l.invariant
