-- `Marker::block_byte` meets its contract: what the deck takes as a byte that joins the block is no more than that.
use mathlib.Core.Path.{refl, sym, ap, ◌∙◌}
use native.Mathlib.Omega.{arith}
use Rattle.std.specs.Prelude.{Ok}
use Rattle.deck.specs.declared.Joined.TheVariants.{Grown, Fills}
use Rattle.deck.specs.Joins.{tried}
use Rattle.marker.proofs.Passing.{joins-so}
use Rattle.marker.proofs.Filled.{unfilled-content, unfilled-waits, joined-fills}
use Rattle.marker.proofs.Marker.block_byte.Goals as goal
use Rattle.marker.proofs.Marker.block_byte.Goals.{then-e-gt255-via-then-e-gt255, then-e-gt255-via-else-e-gt255+then-any}

pub returns-then-e-gt255 : goal.returns-then-e-gt255
returns-then-e-gt255 c =
    elim c.then-e-gt255.branch [
      | then-e-gt255-via-then-e-gt255 w ↦ unfilled-content c.args.self c.args.e w.if-e-gt255.true
      | then-e-gt255-via-else-e-gt255+then-any w ↦ unfilled-waits c.args.self c.args.e (sym w.any.ensures ∙ w.if-any.true)
    ]

pub returns-in-Ok-Grown : goal.returns-in-Ok-Grown
returns-in-Ok-Grown c =
    let a = c.args in
    let none = sym c.any.ensures ∙ c.if-any.false in
    let j = tried a.self.deck (Ok (Grown c.in-Ok-Grown.deck)) in
    let p = ap (tried a.self.deck) (sym (ap Ok c.in-Ok-Grown.field-0-is) ∙ sym c.in-Ok-Grown.is) ∙ c.join.ensures in (
      joins-so a.self a.e c.requires.1 c.requires.0 (omega (arith, c.if-e-gt255.false)) none j p refl,
      joined-fills a.self a.e c.requires.0 c.requires.1 (omega (arith, c.if-e-gt255.false)) none j p,
    )

pub returns-in-Ok-Fills : goal.returns-in-Ok-Fills
returns-in-Ok-Fills c =
    let a = c.args in
    joined-fills a.self a.e c.requires.0 c.requires.1 (omega (arith, c.if-e-gt255.false)) (sym c.any.ensures ∙ c.if-any.false)
    (tried a.self.deck (Ok Fills))
    (ap (tried a.self.deck) (sym (ap Ok c.in-Ok-Fills.field-0-is) ∙ sym c.in-Ok-Fills.is) ∙ c.join.ensures)

pub returns-in_default : goal.returns-in_default
returns-in_default c =
    let a = c.args in
    joined-fills a.self a.e c.requires.0 c.requires.1 (omega (arith, c.if-e-gt255.false)) (sym c.any.ensures ∙ c.if-any.false)
    (tried a.self.deck c.join.result) c.join.ensures ∙ grind arith

pub returns-in_default-2 : goal.returns-in_default-2
returns-in_default-2 c =
    let a = c.args in
    joined-fills a.self a.e c.requires.0 c.requires.1 (omega (arith, c.if-e-gt255.false)) (sym c.any.ensures ∙ c.if-any.false)
    (tried a.self.deck c.join.result) c.join.ensures ∙ rw c.in_default.is
