-- `Deck::begin` meets its contract: the byte is the first of the block, and alone counts.
use Prim.Native.Nat.{ℕ}
use mathlib.Core.List.{List}
use mathlib.Core.Path.{refl, ap}
use native.Mathlib.Omega.{arith}
use Rattle.deck.specs.Line.{deck}
use Rattle.deck.proofs.Held.{first_block}
use Rattle.deck.proofs.Made.{made-first}
use Rattle.deck.proofs.Deck.begin.Goals as goal

pub returns : goal.returns
returns c =
    let a = c.args in (
      rw c.from.ensures (ap (λ (o : List ℕ). deck o a.time a.self.free a.self.settings) (first_block a.content c.none-self.result (omega arith))),
      refl,
      made-first _ refl (rw c.from.ensures (omega arith)) c.none-self.ensures,
    )
