-- `answer::answer` meets its contract: an output with room is taken.
use mathlib.Core.Path.{refl}
use Rattle.report.specs.Transcript.{transcript, room_for}
use Rattle.report.proofs.Room.{taken, front}
use Rattle.answer.proofs.answer.Goals as goal

pub unwrap-requires : goal.unwrap-requires
unwrap-requires c =
    let t = c.transcript in
    let bytes = c.args.bytes.now in
    rw (taken (room_for bytes) (transcript bytes) c.args.out.now c.requires t.result t.ensures.answer) refl

pub returns : goal.returns
returns c =
    let t = c.transcript in
    let bytes = c.args.bytes.now in
    let p = front (room_for bytes) (transcript bytes) c.args.out.now c.requires c.unwrap.ensures t.ensures.answer t.ensures.output in
    record { prefix_len = p.0; out_after = p.1 }
