-- `Deck::join` meets its contract.
use mathlib.Core.Path.{refl, sym}
use mathlib.Core.Bool.{true, false}
use native.Mathlib.Omega.{arith}
use Rattle.refusal.specs.Numbers.{number_of}
use Rattle.refusal.proofs.Numbers.{refuses as above-zero}
use Rattle.std.proofs.lemmas.Result.{err_from_is_err_and}
use Rattle.deck.proofs.Filling.{fills-is, grows-is, filling-refused, filling-is}
use Rattle.deck.proofs.Joining.{grows-few, joins-refused, joins-taken, joining-is}
use Rattle.deck.proofs.Deck.join.Goals as goal

pub returns-in_err-check : goal.returns-in_err-check
returns-in_err-check c =
    let a = c.args in
    let p = err_from_is_err_and c.from_residual.result c.from_residual.ensures.1 in
    let n = number_of c.in_err-check.field-0.0 in
    let z = above-zero c.in_err-check.field-0.0 in
    let f = c.in_err-check.ensures in
    rw (p.1, p.2)
    (sym (joining-is a.self a.time a.content n false false f (joins-refused a.self a.time a.content n f z)
    (filling-refused 18 a.self a.time a.content n f z)))

pub returns-then-not-hears : goal.returns-then-not-hears
returns-then-not-hears c =
    let a = c.args in
    let f = c.in_ok-check.ensures in
    let h = c.if-not-hears.ensures in
    sym (joining-is a.self a.time a.content 0 false false f
    (joins-taken a.self a.time a.content 0 f refl false (sym (grows-is a.self a.time a.content false _ h refl)))
    (filling-is 18 a.self a.time a.content 0 f refl false (sym (fills-is a.self a.time a.content false _ h refl))))

pub returns-then-next_fills : goal.returns-then-next_fills
returns-then-next_fills c =
    let a = c.args in
    let f = c.in_ok-check.ensures in
    let h = c.if-not-hears.ensures in
    let e = c.if-next_fills.ensures a.content in
    sym (joining-is a.self a.time a.content 0 false true f
    (joins-taken a.self a.time a.content 0 f refl false (sym (grows-is a.self a.time a.content true true h e)))
    (filling-is 18 a.self a.time a.content 0 f refl true (sym (fills-is a.self a.time a.content true true h e))))

pub grown-requires : goal.grown-requires
grown-requires c =
    let a = c.args in
    let h = c.if-not-hears.ensures in
    let e = c.if-next_fills.ensures a.content in
    omega (arith, grows-few a.self a.time a.content (grows-is a.self a.time a.content true false h e))

pub returns : goal.returns
returns c =
    let a = c.args in
    let f = c.in_ok-check.ensures in
    let h = c.if-not-hears.ensures in
    let e = c.if-next_fills.ensures a.content in
    rw c.grown.ensures
    (sym (joining-is a.self a.time a.content 0 true false f
    (joins-taken a.self a.time a.content 0 f refl true (sym (grows-is a.self a.time a.content true false h e)))
    (filling-is 18 a.self a.time a.content 0 f refl false (sym (fills-is a.self a.time a.content true false h e)))))
