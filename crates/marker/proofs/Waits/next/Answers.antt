-- `Waits::next` meets its contract.
use mathlib.Core.Path.{sym, ap, ◌∙◌}
use Rattle.std.specs.Prelude.{Some}
use Rattle.marker.specs.Steps.{awaited}
use Rattle.marker.proofs.Left.{front-none, front-some, any-above, next-left}
use Rattle.marker.proofs.Waits.next.Goals as goal

pub returns-then-not-any : goal.returns-then-not-any
returns-then-not-any c = front-none (awaited c.args.self).left (sym c.any.ensures ∙ c.if-not-any.true)

pub returns : goal.returns
returns c =
    let w = c.args.self in
    let any = sym c.any.ensures ∙ c.if-not-any.false in
    ap Some (c.first.ensures ∙ sym (next-left w (any-above w any))) ∙ front-some (awaited w).left any
