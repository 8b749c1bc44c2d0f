-- `speed::forward` meets its contract: its roots pass the tests of `Roots`.
use borrow.Author.Rules.{rules}
use Rattle.speed.specs.Speed.{speed_of, root}
use Rattle.speed.proofs.Roots.{narrow, right, root-fits, product-fits, quotient_fits, quotient-bits}
use Rattle.speed.proofs.forward.Goals as goal

pub returns-then-n-eq0 : goal.returns-then-n-eq0
unfolding speed_of
returns-then-n-eq0 c = rw c.if-n-eq0.true

pub overflow_cast-root-2 : goal.overflow_cast-root-2
unfolding narrow
overflow_cast-root-2 c = search (root-fits, rules)

pub overflow_mul-result : goal.overflow_mul-result
unfolding narrow
overflow_mul-result c = search (product-fits, rules)

pub overflow_cast-result : goal.overflow_cast-result
unfolding narrow
overflow_cast-result c = search (quotient_fits, rules)

pub returns : goal.returns
unfolding right speed_of root
returns c = search (quotient-bits, rules)
