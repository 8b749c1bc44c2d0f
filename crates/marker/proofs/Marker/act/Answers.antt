-- `Marker::act` meets its contract, by the kind of the entry.
use mathlib.Core.Path.{refl, sym, ap, ◌∙◌}
use native.Mathlib.Omega.{arith}
use Rattle.std.specs.Prelude.{Some}
use Rattle.marker.proofs.Forms.{kind-controller, kind-deck, kind-position, kind-cassette, formed-controller, formed-position, formed-kind}
use Rattle.marker.proofs.Whole.{does, takes}
use Rattle.marker.proofs.Marker.act.Goals as goal

pub overflow_cast-e : goal.overflow_cast-e
overflow_cast-e c =
    let k = c.if-e.true in
    omega (arith, (formed-controller c.args.e c.requires.formed k).1)

pub hear-requires-clause-fit : goal.hear-requires-clause-fit
hear-requires-clause-fit c =
    let k = c.if-e.true in
    (formed-controller c.args.e c.requires.formed k).0

pub hear-requires-clause-unfilled : goal.hear-requires-clause-unfilled
hear-requires-clause-unfilled c =
    let k = c.if-e.true in
    c.requires.unfilled k

pub moved-requires : goal.moved-requires
moved-requires c =
    let k = kind-position c.args.e.kind (sym c.kind.ensures ∙ c.in-Some-Position.is ∙ ap Some c.in-Some-Position.field-0-is) in
    (c.requires.timed, formed-position c.args.e c.requires.formed k)

pub unreachable-requires : goal.unreachable-requires
unreachable-requires c = formed-kind c.args.e c.requires.formed (sym c.in-None.is ∙ c.kind.ensures)

pub returns-then-e : goal.returns-then-e
returns-then-e c =
    let k = c.if-e.true in
    does c.args.self c.hear.result c.args.e 0 k refl c.requires.timed.silent c.hear.ensures

pub returns-in-Some-Deck : goal.returns-in-Some-Deck
returns-in-Some-Deck c =
    let k = kind-deck c.args.e.kind (sym c.kind.ensures ∙ c.in-Some-Deck.is ∙ ap Some c.in-Some-Deck.field-0-is) in
    takes c.args.self _ c.args.e k c.requires.timed.clock refl c.taken.ensures

pub returns-in-Some-Position : goal.returns-in-Some-Position
returns-in-Some-Position c =
    let k = kind-position c.args.e.kind (sym c.kind.ensures ∙ c.in-Some-Position.is ∙ ap Some c.in-Some-Position.field-0-is) in
    does c.args.self c.moved.result c.args.e 2 k refl c.requires.timed.silent c.moved.ensures

pub returns-in-Some-Cassette : goal.returns-in-Some-Cassette
returns-in-Some-Cassette c =
    let k = kind-cassette c.args.e.kind (sym c.kind.ensures ∙ c.in-Some-Cassette.is ∙ ap Some c.in-Some-Cassette.field-0-is) in
    does c.args.self c.loaded.result c.args.e 3 k refl c.requires.timed.silent c.loaded.ensures

-- it has been heard
pub returns-in-Some-Controller : goal.returns-in-Some-Controller
returns-in-Some-Controller c =
    let k = kind-controller c.args.e.kind (sym c.kind.ensures ∙ c.in-Some-Controller.is ∙ ap Some c.in-Some-Controller.field-0-is) in
    absurd (c.if-e.false k)
