-- `Deck::strike` meets its contract.
use mathlib.Core.Path.{◌≡◌, refl, ◌∙◌}
use mathlib.Core.Bool.{false, and-false}
use native.Mathlib.Omega.{arith}
use borrow.Author.Tests.{eq-eqb}
use lib.ListN.{length}
use Rattle.refusal.specs.Numbers.{number_of}
use Rattle.refusal.proofs.Numbers.{refuses as above-zero}
use Rattle.deck.specs.Line.{byte}
use Rattle.deck.specs.Calls.{view}
use Rattle.deck.specs.Joins.{striking}
use Rattle.deck.proofs.Found.{byte-in-time}
use Rattle.deck.proofs.Steps.{byte-flagged}
use Rattle.deck.proofs.Numbers.{admitted, takes}
use Rattle.deck.proofs.Filling.{rests-only, refused-only, does-only, striking-refused, striking-is, striking-heard, heard-parts}
use Rattle.deck.proofs.Deck.strike.Goals as goal
use Rattle.deck.proofs.Deck.strike.Goals.{then-flags-eq0-via-then-flags-eq0, then-flags-eq0-via-else-flags-eq0+then-not-hears}

pub returns-in_err-check : goal.returns-in_err-check
returns-in_err-check c = λ b.
    let a = c.args in
    let why = c.in_err-check.field-0.0 in
    let f = c.in_err-check.ensures in
    refused-only _ a.self (byte a.time b a.flags) a.out.now _ why
    (striking-refused (length a.out.now) a.self a.time a.flags (number_of why) f (above-zero why)) c.from_residual.ensures.1 f

pub returns-then-flags-eq0 : goal.returns-then-flags-eq0
returns-then-flags-eq0 c = λ b. let a = c.args in
    let f = c.in_ok-check.ensures in
    let not-so : striking (length a.out.now) a.self a.time a.flags ≡ false = elim c.then-flags-eq0.branch [
      | then-flags-eq0-via-then-flags-eq0 w ↦ (
          striking-is (length a.out.now) a.self a.time a.flags 0 f refl _ refl ∙ rw (eq-eqb a.flags 0 w.if-flags-eq0.true)
          )
      | then-flags-eq0-via-else-flags-eq0+then-not-hears w ↦ (
          striking-is (length a.out.now) a.self a.time a.flags 0 f refl false w.if-not-hears.ensures ∙ rw and-false
          )
    ] in
    rw c.silent.ensures (rests-only _ a.self (byte a.time b a.flags) a.out.now 0 not-so f)

pub nak-requires : goal.nak-requires
nak-requires c =
    let a = c.args in
    let p = admitted a.self (byte a.time 0 a.flags) a.out.now c.in_ok-check.ensures in
    (omega (arith, p.0), p.1)

pub returns : goal.returns
returns c = λ b. let a = c.args in
    let f = c.in_ok-check.ensures in
    let h = heard-parts a.self a.time c.if-not-hears.ensures in
    does-only _ a.self (byte a.time b a.flags) a.out.now _ _
    (striking-heard (length a.out.now) a.self a.time a.flags 0 f refl c.if-flags-eq0.false h.1 h.0)
    (takes a.self (byte a.time b a.flags) a.out.now f _ _
    (rw (byte-in-time (view a.self) a.time b a.flags h.0, byte-flagged (view a.self) a.time b a.flags h.1 c.if-flags-eq0.false)
    c.nak.ensures))
