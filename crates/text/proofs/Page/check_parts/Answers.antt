-- `Page::check_parts` meets its contract: a count that saturates is more than any output has room for.
use Prim.Native.Nat.{ℕ, ◌+◌, ◌*◌}
use native.Mathlib.Omega.{arith}
use Rattle.std.proofs.Math.Nat.{min-le_left}
use Rattle.text.proofs.Hexadecimal.{below-most}
use Rattle.text.proofs.Page.check_parts.Goals as goal

pub returns-clause-fits : goal.returns-clause-fits
returns-clause-fits c =
    let most : ℕ = 18446744073709551615 in
    let room = c.check_room.ensures.fits in
    let each = c.saturating_mul.ensures in
    let all = c.saturating_add.ensures in
    let n = c.args.each * c.args.parts in
    let m = c.saturating_mul.result + c.args.fixed in (
      λ ok.
          let r = room.0 ok in
          let whole = below-most m most (omega (arith, all, r)) in
          let parts = below-most n most (omega (arith, each, all, whole, r)) in
          omega (arith, each, all, whole, parts, r),
      λ h. room.1 (omega (arith, h, each, all, min-le_left n most, min-le_left m most)),
    )
