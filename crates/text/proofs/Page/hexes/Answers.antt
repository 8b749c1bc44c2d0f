-- `Page::hexes` meets its contract: the bytes that the loop has passed are put.
use mathlib.Core.Path.{refl}
use native.Mathlib.Omega.{arith}
use lib.ListN.{get_or}
use lib.Seq.{take_all}
use lib.Bits.{and_mask}
use Rattle.std.proofs.lemmas.Result.{err_from_is_err_and}
use Rattle.text.specs.Text.{hexes}
use Rattle.text.proofs.Hexadecimal.{hexes-more, hexes-around, hexes-long}
use Rattle.text.proofs.Writing.{refused, adds, nothing, behind, stops, written}
use Rattle.text.proofs.Page.hexes.Goals as goal

pub returns-in_err-check_parts : goal.returns-in_err-check_parts
returns-in_err-check_parts c =
    let p = err_from_is_err_and c.from_residual.result c.from_residual.ensures.1 in
    let e = c.in_err-check_parts.ensures in
    rw (p.1, p.2) (refused _ (λ h. omega (arith, h, hexes-long c.args.bytes.now)) e.err e.fits.1)

pub loop-byte-init : goal.loop-byte-init
unfolding hexes
loop-byte-init c = nothing _

pub loop-byte-preserved : goal.loop-byte-preserved
loop-byte-preserved c =
    let bytes = c.args.bytes.now in
    let i = c.loop-byte.byte-index in
    let b = get_or bytes i 0 in
    let high = c.hex_digit.ensures in
    let low = c.hex_digit-in-loop-byte.ensures in
    let w = rw (c.in_ok-words.was, high, low) at c.words.ensures in
    rw (hexes-more bytes i c.loop-byte-test.true, ← and_mask b 4) (behind c.loop-byte.invariant (adds w))

pub returns-in_err-words : goal.returns-in_err-words
returns-in_err-words c =
    let bytes = c.args.bytes.now in
    let i = c.loop-byte.byte-index in
    let b = get_or bytes i 0 in
    let room = c.in_ok-check_parts.ensures.fits.0 refl in
    let w = rw (c.hex_digit.ensures, c.hex_digit-in-loop-byte.ensures, and_mask b 4) at c.words.ensures in
    written (rw (hexes-around bytes i c.loop-byte-test.true) (behind c.loop-byte.invariant (stops (adds w) c.in_err-words.was _ _)))
    (omega (arith, room, hexes-long bytes))

pub returns : goal.returns
returns c =
    let bytes = c.args.bytes.now in
    let room = c.in_ok-check_parts.ensures.fits.0 refl in
    written (rw (take_all c.loop-byte.byte-index bytes c.loop-byte-test.false) at c.loop-byte.invariant)
    (omega (arith, room, hexes-long bytes))
