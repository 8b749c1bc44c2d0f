-- `untouched` meets its contract: what the loop has passed.
use Rattle.std.proofs.Common.{◌≡◌, take}
use Rattle.std.specs.List.{list_all}
use Rattle.cases.proofs.untouched.Given as goal

abbrev pub invariant-loop-x : goal.invariant-loop-x
invariant-loop-x g l = l.all ≡ list_all (λ x. g.T.PartialEq.eq x l.fill) (take l.x-index l.rest)
