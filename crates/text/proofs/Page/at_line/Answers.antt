-- `Page::at_line` meets its contract: words, a number and the place, one behind the other.
use mathlib.Core.Path.{refl}
use native.Mathlib.Omega.{arith}
use Rattle.std.proofs.lemmas.Result.{err_from_is_err_and}
use Rattle.text.specs.Text.{at_line}
use Rattle.text.proofs.Lengths.{at_long}
use Rattle.text.proofs.Writing.{refused, adds, behind, stops, written}
use Rattle.text.proofs.Page.at_line.Goals as goal

pub returns-in_err-check_room : goal.returns-in_err-check_room
returns-in_err-check_room c =
    let p = err_from_is_err_and c.from_residual.result c.from_residual.ensures.1 in
    let e = c.in_err-check_room.ensures in
    rw (p.1, p.2) (refused _ (λ h. omega (arith, h, at_long c.args.words.now c.args.n c.args.place, c.digit_count.ensures.count, c.digit_count-2.ensures.count)) e.err e.fits.1)

pub returns-in_err-words : goal.returns-in_err-words
unfolding at_line
returns-in_err-words c =
    let room = c.in_ok-check_room.ensures.fits.0 refl in
    let a = c.args in
    written (stops (adds c.words.ensures) c.in_err-words.was _ _) (omega (arith, room, at_long a.words.now a.n a.place))

pub returns-in_err-decimal : goal.returns-in_err-decimal
unfolding at_line
returns-in_err-decimal c =
    let room = c.in_ok-check_room.ensures.fits.0 refl in
    let a = c.args in
    written (behind (adds c.words.ensures) (stops (adds c.decimal.ensures) c.in_err-decimal.was _ _))
    (omega (arith, room, at_long a.words.now a.n a.place))

pub returns : goal.returns
unfolding at_line
returns c =
    let room = c.in_ok-check_room.ensures.fits.0 refl in
    let a = c.args in
    written (behind (adds c.words.ensures) (behind (adds c.decimal.ensures) (adds c.line.ensures)))
    (omega (arith, room, at_long a.words.now a.n a.place))
