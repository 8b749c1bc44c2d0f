-- `Page::hex_line` meets its contract: words, bytes and the end, one behind the other.
use mathlib.Core.Path.{refl}
use native.Mathlib.Omega.{arith}
use Rattle.std.proofs.lemmas.Result.{err_from_is_err_and}
use Rattle.text.specs.Text.{hex_line}
use Rattle.text.proofs.Lengths.{hex-line-long}
use Rattle.text.proofs.Writing.{refused, adds, behind, stops, written}
use Rattle.text.proofs.Page.hex_line.Goals as goal

pub returns-in_err-check_parts : goal.returns-in_err-check_parts
returns-in_err-check_parts c =
    let p = err_from_is_err_and c.from_residual.result c.from_residual.ensures.1 in
    let e = c.in_err-check_parts.ensures in
    rw (p.1, p.2) (refused _ (λ h. omega (arith, h, hex-line-long c.args.words.now c.args.bytes.now)) e.err e.fits.1)

pub returns-in_err-words : goal.returns-in_err-words
unfolding hex_line
returns-in_err-words c =
    let room = c.in_ok-check_parts.ensures.fits.0 refl in
    let a = c.args in
    written (stops (adds c.words.ensures) c.in_err-words.was _ _) (omega (arith, room, hex-line-long a.words.now a.bytes.now))

pub returns-in_err-hexes : goal.returns-in_err-hexes
unfolding hex_line
returns-in_err-hexes c =
    let room = c.in_ok-check_parts.ensures.fits.0 refl in
    let a = c.args in
    written (behind (adds c.words.ensures) (stops (adds c.hexes.ensures) c.in_err-hexes.was _ _))
    (omega (arith, room, hex-line-long a.words.now a.bytes.now))

pub returns : goal.returns
unfolding hex_line
returns c =
    let room = c.in_ok-check_parts.ensures.fits.0 refl in
    let a = c.args in
    written (behind (adds c.words.ensures) (behind (adds c.hexes.ensures) (adds c.words-2.ensures)))
    (omega (arith, room, hex-line-long a.words.now a.bytes.now))
