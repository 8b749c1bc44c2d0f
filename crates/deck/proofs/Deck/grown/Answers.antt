-- `Deck::grown` meets its contract: the byte is the first, or comes behind the others.
use Prim.Native.Nat.{ℕ}
use mathlib.Core.List.{List, []}
use mathlib.Core.Path.{refl, sym, ap, ◌∙◌}
use native.Mathlib.Omega.{arith}
use borrow.Author.Tests.{ne_eqb}
use Rattle.packed.specs.Tail.{kept}
use Rattle.deck.specs.Line.{deck}
use Rattle.deck.proofs.Held.{first_block}
use Rattle.deck.proofs.Made.{made-first, made-equal}
use Rattle.deck.proofs.Deck.grown.Goals as goal

pub returns-then-self-eq0 : goal.returns-then-self-eq0
returns-then-self-eq0 c =
    let a = c.args in
    let e = c.begin.ensures in
    let b = first_block a.content (kept []) (omega arith) in
    rw c.if-self-eq0.true
    (made-equal _ _ e.2 (made-first _ refl (omega arith) refl) e.1
    (e.0 ∙ sym (ap (λ (o : List ℕ). deck o a.time a.self.free a.self.settings) b)))

pub returns : goal.returns
returns c =
    let a = c.args in
    rw (c.push-self.ensures, ne_eqb a.self.held 0 c.if-self-eq0.false)
