-- `Deck::looked` meets its contract.
use mathlib.Core.Path.{refl, sym}
use native.Mathlib.Omega.{arith}
use Rattle.deck.specs.Calls.{view}
use Rattle.deck.proofs.Late.{overdue}
use Rattle.deck.proofs.Steps.{look-found, look-nothing}
use Rattle.deck.proofs.Seen.{silent}
use Rattle.deck.proofs.Deck.looked.Goals as goal

pub overflow_add-self : goal.overflow_add-self
overflow_add-self c =
    let late = sym c.if-timed_out.ensures in
    let a = c.args in
    omega (arith, overdue (view a.self) a.time late)

pub nak-requires : goal.nak-requires
nak-requires c =
    let late = sym c.if-timed_out.ensures in
    let a = c.args in
    (omega (arith, overdue (view a.self) a.time late), omega arith)

pub returns-then-timed_out : goal.returns-then-timed_out
returns-then-timed_out c =
    let a = c.args in
    rw (look-found (view a.self) a.time (sym c.if-timed_out.ensures)) c.nak.ensures

pub returns : goal.returns
returns c =
    let a = c.args in
    rw (look-nothing (view a.self) a.time (sym c.if-timed_out.ensures), c.silent.ensures)
    (silent a.self a.self a.out.now refl (λ m. m))
