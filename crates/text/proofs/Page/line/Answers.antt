-- `Page::line` meets its contract: words, a number and the end, one behind the other.
use mathlib.Core.Path.{refl}
use native.Mathlib.Omega.{arith}
use Rattle.std.proofs.lemmas.Result.{err_from_is_err_and}
use Rattle.text.specs.Text.{line}
use Rattle.text.proofs.Lengths.{line-long}
use Rattle.text.proofs.Writing.{refused, adds, behind, stops, written}
use Rattle.text.proofs.Page.line.Goals as goal

pub returns-in_err-check_room : goal.returns-in_err-check_room
returns-in_err-check_room c =
    let p = err_from_is_err_and c.from_residual.result c.from_residual.ensures.1 in
    let e = c.in_err-check_room.ensures in
    rw (p.1, p.2) (refused _ (λ h. omega (arith, h, line-long c.args.words.now c.args.n, c.digit_count.ensures.count)) e.err e.fits.1)

pub returns-in_err-words : goal.returns-in_err-words
unfolding line
returns-in_err-words c =
    let room = c.in_ok-check_room.ensures.fits.0 refl in
    let a = c.args in
    written (stops (adds c.words.ensures) c.in_err-words.was _ _) (omega (arith, room, line-long a.words.now a.n))

pub returns-in_err-decimal : goal.returns-in_err-decimal
unfolding line
returns-in_err-decimal c =
    let room = c.in_ok-check_room.ensures.fits.0 refl in
    let a = c.args in
    written (behind (adds c.words.ensures) (stops (adds c.decimal.ensures) c.in_err-decimal.was _ _))
    (omega (arith, room, line-long a.words.now a.n))

pub returns : goal.returns
unfolding line
returns c =
    let room = c.in_ok-check_room.ensures.fits.0 refl in
    let a = c.args in
    written (behind (adds c.words.ensures) (behind (adds c.decimal.ensures) (adds c.words-2.ensures)))
    (omega (arith, room, line-long a.words.now a.n))
