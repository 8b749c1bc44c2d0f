-- `Deck::heard` meets its contract: quiet, flags and clean bytes in the order of the definition.
use mathlib.Core.Path.{refl}
use Rattle.deck.specs.Calls.{view}
use Rattle.deck.proofs.Steps.{byte-clean}
use Rattle.deck.proofs.Steps.{byte-dropped, byte-flagged}
use Rattle.deck.proofs.Seen.{silent}
use Rattle.deck.proofs.Deck.heard.Goals as goal

pub returns-then-time-self : goal.returns-then-time-self
returns-then-time-self c =
    let a = c.args in
    rw (byte-dropped (view a.self) a.time a.content a.flags c.if-time-self.true, c.silent.ensures)
    (silent a.self a.self a.out.now refl (λ m. m))

pub returns-then-flags-ne0 : goal.returns-then-flags-ne0
returns-then-flags-ne0 c =
    let a = c.args in
    rw (byte-flagged (view a.self) a.time a.content a.flags c.if-time-self.false c.if-flags-ne0.true) c.nak.ensures

pub returns : goal.returns
returns c =
    let a = c.args in
    rw (byte-clean (view a.self) a.time a.content a.flags c.if-time-self.false c.if-flags-ne0.false) c.clean.ensures
