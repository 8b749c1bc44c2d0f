-- `numbers::digit_count` meets its contract.
use mathlib.Core.Path.{ap, ◌∙◌}
use native.Mathlib.Omega.{arith}
use lib.ListN.{length}
use Rattle.text.proofs.Digits.{spells}
use Rattle.text.proofs.numbers.digit_count.Goals as goal

pub returns-clause-count : goal.returns-clause-count
returns-clause-count c = ap length (c.format.ensures.text ∙ spells c.args.n (omega arith))
