-- `report::text` meets its contract.
use Prim.Native.Nat.{◌≤◌}
use mathlib.Core.Path.{◌≡◌, refl, sym, ap}
use mathlib.Core.Bool.{true, false}
use lib.ListN.{length}
use native.Mathlib.Omega.{arith}
use Rattle.std.specs.Prelude.{is_ok}
use Rattle.std.proofs.lemmas.Result.{err_from_is_err_and}
use Rattle.std.proofs.lemmas.Grind.{common_steps}
use Rattle.report.specs.Verdict.{text_of, room_for}
use Rattle.report.proofs.Lengths.{text-short}
use Rattle.report.proofs.Room.{refusal, unchanged, succeeds, answers, outputs}
use Rattle.report.proofs.text.Goals as goal

pub returns-in_err-check_parts : goal.returns-in_err-check_parts
returns-in_err-check_parts c =
    let p = err_from_is_err_and c.from_residual.result c.from_residual.ensures.1 in
    let e = c.in_err-check_parts.ensures in
    let a = c.args in
    let room = room_for a.starts.now in
    let text = text_of a.marked a.starts.now in
    let small : room ≤ length a.out.now → false ≡ true = λ h. e.fits.1 (omega (arith, h)) in
    record { answer = rw (p.1, p.2) (refusal room text a.out.now small e.err); output = unchanged room text a.out.now small }

pub returns-in_err-put_text : goal.returns-in_err-put_text
returns-in_err-put_text c =
    let room : room_for c.args.starts.now ≤ length c.args.out.now = omega (arith, c.in_ok-check_parts.ensures.fits.0 refl) in
    let short = text-short c.args.marked c.args.starts.now (λ i. omega (arith, c.type_inv.starts i)) in
    let ok = succeeds c.put_text.ensures (room_for c.args.starts.now) refl room short in
    let err = ap is_ok c.in_err-put_text.was in
    absurd (cc)

pub returns : goal.returns
returns c =
    let room : room_for c.args.starts.now ≤ length c.args.out.now = omega (arith, c.in_ok-check_parts.ensures.fits.0 refl) in
    let short = text-short c.args.marked c.args.starts.now (λ i. omega (arith, c.type_inv.starts i)) in
    let same = sym c.put_text.ensures.same in
    let out = outputs c.put_text.ensures (room_for c.args.starts.now) refl room short in
    record { answer = answers c.put_text.ensures (room_for c.args.starts.now) refl room short; output = grind (arith, common_steps) }
