-- `next` moves the cursor on where it reads an entry, and leaves it at the end.
use Rattle.std.proofs.Common.{sym, ◌∙◌, arith}
use Rattle.cursor.proofs.Places.{on, at_end}
use Rattle.cursor.proofs.CursorIterator.next.Goals as goal

pub returns-in_err-entry-clause-steps : goal.returns-in_err-entry-clause-steps
returns-in_err-entry-clause-steps c =
    rw c.from_residual.ensures (at_end c.args.self.now c.read.result c.read.ensures (sym c.ok.ensures.value ∙ c.in_err-entry.was))

pub overflow_add-self : goal.overflow_add-self
overflow_add-self c =
    omega (arith, (on c.args.self.now c.read.result c.read.ensures (sym c.ok.ensures.value ∙ c.in_ok-entry.was)).0)

pub returns-clause-steps : goal.returns-clause-steps
returns-clause-steps c =
    (on c.args.self.now c.read.result c.read.ensures (sym c.ok.ensures.value ∙ c.in_ok-entry.was)).1
