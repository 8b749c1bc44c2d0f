-- `Waits::after` meets its contract: what was packed is unpacked again.
use Prim.Native.Nat.{ℕ}
use mathlib.Core.Path.{◌≡◌}
use borrow.Author.Rules.{rules}
use mir.Syntax.{w8}
use mir.Val.{Fits}
use lib.ListN.{length, get_or}
use Rattle.packed.specs.Packed.{packed, unpacked}
use Rattle.packed.proofs.Bytes.{by_place}
use Rattle.packed.proofs.Packing.{all_back}
use Rattle.marker.proofs.Waits.after.Goals as goal

pub returns-in-Some : goal.returns-in-Some
returns-in-Some c =
    let fits : (i : ℕ) → Fits w8 (get_or c.args.out i 0) =
    λ i. search rules in
    let long : length c.args.out ≡ 24 =
    search rules in
    let out = c.args.out in
    let back : unpacked (packed out) ≡ out = all_back out (by_place out (λ i. (fits i).fits)) long in
    rw (c.in-Some.is, c.pack.ensures, back)
