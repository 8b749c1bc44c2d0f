-- `report::transcript` meets its contract.
use Prim.Native.Nat.{◌≤◌}
use mathlib.Core.Path.{◌≡◌, refl, sym, ap}
use mathlib.Core.Bool.{true, false}
use lib.ListN.{length}
use native.Mathlib.Omega.{arith}
use Rattle.std.specs.Prelude.{is_ok}
use Rattle.std.proofs.lemmas.Result.{err_from_is_err_and}
use Rattle.std.proofs.lemmas.Grind.{common_steps}
use Rattle.report.specs.Transcript.{transcript, room_for}
use Rattle.report.proofs.Lengths.{transcript-short}
use Rattle.report.proofs.Room.{refusal, unchanged, succeeds, answers, outputs}
use Rattle.report.proofs.transcript.Goals as goal

pub returns-in_err-check_parts : goal.returns-in_err-check_parts
returns-in_err-check_parts c =
    let p = err_from_is_err_and c.from_residual.result c.from_residual.ensures.1 in
    let e = c.in_err-check_parts.ensures in
    let a = c.args in
    let room = room_for a.bytes.now in
    let text = transcript a.bytes.now in
    let small : room ≤ length a.out.now → false ≡ true = λ h. e.fits.1 (omega (arith, h)) in
    record { answer = rw (p.1, p.2) (refusal room text a.out.now small e.err); output = unchanged room text a.out.now small }

pub returns-in_err-put_transcript : goal.returns-in_err-put_transcript
returns-in_err-put_transcript c =
    let room : room_for c.args.bytes.now ≤ length c.args.out.now = omega (arith, c.in_ok-check_parts.ensures.fits.0 refl) in
    let short = transcript-short c.args.bytes.now in
    let ok = succeeds c.put_transcript.ensures (room_for c.args.bytes.now) refl room short in
    let err = ap is_ok c.in_err-put_transcript.was in
    absurd (cc)

pub returns : goal.returns
returns c =
    let room : room_for c.args.bytes.now ≤ length c.args.out.now = omega (arith, c.in_ok-check_parts.ensures.fits.0 refl) in
    let short = transcript-short c.args.bytes.now in
    let same = sym c.put_transcript.ensures.same in
    let out = outputs c.put_transcript.ensures (room_for c.args.bytes.now) refl room short in
    record { answer = answers c.put_transcript.ensures (room_for c.args.bytes.now) refl room short; output = grind (arith, common_steps) }
