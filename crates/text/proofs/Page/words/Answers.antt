-- `Page::words` meets its contract.
use Prim.Native.Nat.{◌+◌, ◌-◌}
use mathlib.Core.Path.{refl, ap, ◌∙◌}
use mathlib.Core.List.{◌++◌}
use native.Mathlib.Omega.{arith}
use lib.ListN.{length, take}
use Rattle.std.proofs.lemmas.Result.{err_from_is_err_and}
use Rattle.std.proofs.lemmas.Slice.{take-put_mid, drop-put_mid}
use Rattle.text.proofs.Writing.{refused, written}
use Rattle.text.proofs.Page.words.Goals as goal

pub returns-in_err-check_room : goal.returns-in_err-check_room
returns-in_err-check_room c =
    let p = err_from_is_err_and c.from_residual.result c.from_residual.ensures.1 in
    let e = c.in_err-check_room.ensures in
    rw (p.1, p.2) (refused _ (λ h. h) e.err e.fits.1)

pub returns : goal.returns
returns c =
    let room = c.in_ok-check_room.ensures.fits.0 refl in
    let a = c.args in
    let out = a.self.now.out.now in
    let at = a.self.now.end in
    let k = at + length a.text.now - at in
    let put = c.copy_from_slice.new.self in
    let is = c.copy_from_slice.ensures.after in
    let n = ap (λ xs. length xs) is in
    written (record {
      fits = λ _. (
        refl,
        record {
          ends = refl;
          front = take-put_mid at k out put (at + length a.text.now) (omega (arith, n)) (omega (arith, room)) ∙ ap (λ xs. take at out ++ xs) is;
          back = drop-put_mid at k out put (at + length a.text.now) (omega arith) (omega (arith, room)) (omega (arith, n));
        },
      );
      same = refl;
    }) room
