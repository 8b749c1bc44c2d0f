-- `Page::decimal` meets its contract.
use mathlib.Core.Path.{◌≡◌, ◌∙◌}
use native.Mathlib.Omega.{arith}
use Rattle.text.specs.Text.{decimal}
use Rattle.text.proofs.Digits.{spells}
use Rattle.text.proofs.Page.decimal.Goals as goal

pub returns : goal.returns
returns c =
    let n = c.args.n in
    let is : c.as_bytes.result.now ≡ decimal n = c.as_bytes.ensures.value ∙ c.format.ensures.text ∙ spells n (omega arith) in
    rw is at c.words.ensures
