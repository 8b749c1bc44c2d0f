-- `Deck::clean` meets its contract: the first byte says whether this one fills the block.
use mathlib.Core.Path.{refl, sym}
use native.Mathlib.Omega.{arith}
use borrow.Author.Tests.{leb-false, leb-true}
use Rattle.deck.proofs.Held.{not-first, few-open, stays_open, gets-full}
use Rattle.deck.proofs.Made.{made_more}
use Rattle.deck.proofs.Seen.{silent}
use Rattle.deck.proofs.Deck.clean.Goals as goal

pub full-requires : goal.full-requires
full-requires c =
    let a = c.args in
    let d = a.self in
    (not-first d.held d.first a.content d.tail (leb-true _ _ (sym (c.if-next_fills.ensures a.content))), c.requires)

pub returns-then-next_fills : goal.returns-then-next_fills
returns-then-next_fills c =
    let a = c.args in
    rw (gets-full a.self a.time a.content (leb-true _ _ (sym (c.if-next_fills.ensures a.content)))) c.full.ensures

pub grown-requires : goal.grown-requires
grown-requires c =
    let a = c.args in
    omega (arith, few-open a.self a.time a.content (leb-false _ _ (sym (c.if-next_fills.ensures a.content))))

pub returns : goal.returns
returns c =
    let a = c.args in
    let h = leb-false _ _ (sym (c.if-next_fills.ensures a.content)) in
    rw (stays_open a.self a.time a.content (omega arith) h, c.silent.ensures, c.grown.ensures)
    (silent a.self _ a.out.now refl (made_more a.self a.time a.content (omega arith) (few-open a.self a.time a.content h)))
