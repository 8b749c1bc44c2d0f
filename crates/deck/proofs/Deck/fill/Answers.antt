-- `Deck::fill` meets its contract.
use mathlib.Core.Path.{◌≡◌, refl, sym}
use mathlib.Core.Bool.{true, false}
use native.Mathlib.Omega.{arith}
use lib.ListN.{length}
use Rattle.refusal.specs.Numbers.{number_of}
use Rattle.refusal.proofs.Numbers.{refuses as above-zero}
use Rattle.deck.specs.Line.{byte}
use Rattle.deck.specs.Calls.{view}
use Rattle.deck.specs.Joins.{fills}
use Rattle.deck.proofs.Numbers.{admitted, takes}
use Rattle.deck.proofs.Filling.{fills-is, rests-only, refused-only, does-only, filling-refused, filling-is, fills-open, fills-answers}
use Rattle.deck.proofs.Deck.fill.Goals as goal
use Rattle.deck.proofs.Deck.fill.Goals.{then-not-hears-via-then-not-hears, then-not-hears-via-else-not-hears+then-not-next_fills}

pub returns-in_err-check : goal.returns-in_err-check
returns-in_err-check c =
    let a = c.args in
    let why = c.in_err-check.field-0.0 in
    let f = c.in_err-check.ensures in
    refused-only _ a.self (byte a.time a.content 0) a.out.now _ why
    (filling-refused (length a.out.now) a.self a.time a.content (number_of why) f (above-zero why)) c.from_residual.ensures.1 f

pub returns-then-not-hears : goal.returns-then-not-hears
returns-then-not-hears c =
    let a = c.args in
    let f = c.in_ok-check.ensures in
    let not-so : false ≡ fills (view a.self) a.time a.content = elim c.then-not-hears.branch [
      | then-not-hears-via-then-not-hears w ↦ (
          sym (fills-is a.self a.time a.content false _ w.if-not-hears.ensures refl)
          )
      | then-not-hears-via-else-not-hears+then-not-next_fills w ↦ (
          sym (fills-is a.self a.time a.content true false w.if-not-hears.ensures
          (w.if-not-next_fills.ensures a.content))
          )
    ] in
    rw c.silent.ensures
    (rests-only _ a.self (byte a.time a.content 0) a.out.now 0
    (filling-is (length a.out.now) a.self a.time a.content 0 f refl false not-so) f)

pub full-requires : goal.full-requires
full-requires c =
    let a = c.args in
    let so = fills-is a.self a.time a.content true true c.if-not-hears.ensures
    (c.if-not-next_fills.ensures a.content) in
    let o = fills-open a.self a.time a.content so in
    (omega arith, admitted a.self (byte a.time a.content 0) a.out.now c.in_ok-check.ensures)

pub returns : goal.returns
returns c =
    let a = c.args in
    let f = c.in_ok-check.ensures in
    let so = fills-is a.self a.time a.content true true c.if-not-hears.ensures
    (c.if-not-next_fills.ensures a.content) in
    does-only _ a.self (byte a.time a.content 0) a.out.now _ _
    (filling-is (length a.out.now) a.self a.time a.content 0 f refl true (sym so))
    (takes a.self (byte a.time a.content 0) a.out.now f _ _ (rw (fills-answers a.self a.time a.content so) c.full.ensures))
