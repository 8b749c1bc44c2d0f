-- `take` at the end: what is read there, and the same place.
use Rattle.std.proofs.Common.{◌≡◌, sym, ◌∙◌, rules}
use Rattle.std.specs.Prelude.{Err}
use Rattle.cursor.proofs.Places.{none_taken}
use Rattle.cursor.proofs.take.Goals as goal

pub returns-in_err-entry : goal.returns-in_err-entry
returns-in_err-entry c =
    let answer : c.from_residual.result ≡ Err c.in_err-entry.field-0.0 = search rules in
    let taken = none_taken c.at-cursor.result c.next.result c.next.ensures.steps (sym c.ok_or.ensures.value ∙ c.in_err-entry.was) in
    rw answer (rw c.at-cursor.ensures at taken)
