-- `Marker::hear` meets its contract: the deck is told the byte.
use mathlib.Core.Path.{sym, ap, ◌∙◌}
use native.Mathlib.Omega.{arith}
use Rattle.std.specs.Prelude.{Ok}
use Rattle.deck.specs.declared.Joined.TheVariants.{Grown}
use Rattle.deck.specs.Joins.{tried}
use Rattle.marker.proofs.Filled.{asked-strike, joined-so, kept}
use Rattle.marker.proofs.Marker.hear.Goals as goal

pub after-requires : goal.after-requires
after-requires c =
    let a = c.args in
    (asked-strike a.self a.time a.content a.flags c.requires.timed c.requires.fit c.if-flags-ne0.true (omega arith)
    (c.strike.ensures a.content)).prompt

pub returns-then-flags-ne0 : goal.returns-then-flags-ne0
returns-then-flags-ne0 c =
    let a = c.args in
    (asked-strike a.self a.time a.content a.flags c.requires.timed c.requires.fit c.if-flags-ne0.true (omega arith)
    (c.strike.ensures a.content)).acts c.after.result c.after.ensures.deck c.after.ensures.waits

pub returns-in-Ok-Grown : goal.returns-in-Ok-Grown
returns-in-Ok-Grown c =
    let a = c.args in
    rw c.if-flags-ne0.false
    (joined-so a.self a.time a.content c.requires.timed (c.requires.unfilled c.if-flags-ne0.false) (omega arith)
    (tried a.self.deck (Ok (Grown c.in-Ok-Grown.deck))) (ap (tried a.self.deck) (sym (ap Ok c.in-Ok-Grown.field-0-is) ∙ sym c.in-Ok-Grown.is) ∙ c.join.ensures))

pub returns-in_default : goal.returns-in_default
returns-in_default c =
    let a = c.args in
    rw c.if-flags-ne0.false
    (kept a.self a.time a.content c.requires.timed (c.requires.unfilled c.if-flags-ne0.false) (omega arith)
    (tried a.self.deck c.join.result) c.join.ensures (grind arith))

pub returns-in_default-2 : goal.returns-in_default-2
returns-in_default-2 c =
    let a = c.args in
    rw c.if-flags-ne0.false
    (kept a.self a.time a.content c.requires.timed (c.requires.unfilled c.if-flags-ne0.false) (omega arith)
    (tried a.self.deck c.join.result) c.join.ensures (rw c.in_default.is))
