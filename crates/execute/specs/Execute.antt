-- Document 01: "A full block: checksum, then command with its exact count, then data; the first failure gives the NAK."
use Rattle.std.specs.Prelude.{ℕ, Bool, false, cond, Option, Some, None, Result, Ok, Err, ◌&&◌, List, [], ◌∷◌, ◌++◌, length, take, drop, ◌==◌, nat_le, nat_lt, slice_index}
use Rattle.packed.specs.Tail.{latest}
use Rattle.block.specs.Read.{read_no, read_data}
use Rattle.timecode.specs.Time.{write_time}
use Rattle.refusal.specs.declared.Refusal.{Refusal}
use Rattle.refusal.specs.Numbers.{number_of}
use Rattle.execute.specs.declared.Executed.{Executed}
use Rattle.execute.specs.declared.FullBlock.{FullBlock}
use Rattle.execute.specs.declared.Why.{Why}
use Rattle.execute.specs.declared.Why.TheVariants.{Undefined, Checksum}
use Rattle.command.specs.declared.ReplyKind.{ReplyKind}
use Rattle.command.specs.declared.ReplyKind.TheVariants.{Ack, Device, PointTime, TapeTime, Status}
use Rattle.settings.specs.declared.Settings.{Settings}
use Rattle.settings.specs.declared.Which.{Which}
use Rattle.settings.specs.declared.Which.TheVariants.{In, Out}
use Rattle.command.specs.Commands.{commands, lookup}
use Rattle.effects.specs.Effects.{perform, fits}
use Rattle.execute.specs.Replies.{Outcome, answered, acknowledged, refused, undefined, bad_checksum}
use Rattle.settings.specs.Settings.{point_of}
use Rattle.settings.specs.Status.{status_bytes}

-- the command byte of a reply with In or Out
abbrev pub point_code : Which → ℕ
point_code In = 0x10
point_code Out = 0x11

-- "with 01, 03 or 04 replies 74.04 ..; with 02, 74.06"
abbrev pub time_code : ℕ → ℕ
time_code n = cond (n == 2) 0x06 0x04

-- the byte that says why
abbrev pub why_of : Why → ℕ
why_of Undefined = undefined
why_of Checksum = bad_checksum

-- from a number to another, both included
abbrev pub within : ℕ → ℕ → ℕ → Bool
within low high n = nat_le low n && nat_le n high

-- a command of the list with its data; "Every other code or count is undefined."
unfoldable pub carry : Option ReplyKind → Settings → List ℕ → Outcome
carry None s bytes = refused s undefined
carry (Some (Ack e)) s bytes = cond (fits e bytes) (acknowledged (perform e s bytes)) (refused s undefined)
-- "00.11 replies 12.11 with 00 02."
carry (Some Device) s bytes = answered s 0x1 0x11 (0x00 ∷ 0x02 ∷ [])
-- "60.10 replies 74.10 with In; 60.11 replies 74.11 with Out."
carry (Some (PointTime w)) s bytes = answered s 0x7 (point_code w) (write_time (point_of w s).at).bytes
-- "61.0C with 01, 03 or 04 replies 74.04 with the position; with 02, 74.06. Other bytes are undefined."
carry (Some TapeTime) s bytes =
    cond (within 0x01 0x04 (slice_index bytes 0))
    (answered s 0x7 (time_code (slice_index bytes 0)) (write_time s.position).bytes)
    (refused s undefined)
-- "61.20 with 01 to 0D replies that many status bytes under 7x.20, x the count. Other bytes are undefined."
carry (Some Status) s bytes =
    cond (within 0x01 0x0D (slice_index bytes 0))
    (answered s 0x7 0x20 (take (slice_index bytes 0) (status_bytes s)))
    (refused s undefined)

-- a full block; one that does not read is of the right length and has a wrong checksum
unfoldable pub execute : Settings → List ℕ → Outcome
execute s block =
    cond (read_no block == 0)
    (carry (lookup commands (slice_index block 0) (slice_index block 1)) s (read_data block))
    (refused s bad_checksum)

-- ---- the call, for any settings, block and output

-- the block that is handed over in parts
abbrev pub block_in : FullBlock → List ℕ
block_in b = b.first ∷ latest b.count b.tail ++ b.last ∷ []

-- what an outcome hands back, and what the output then holds: the reply at its front, the rest of it untouched
abbrev pub shown : Outcome → Executed
shown o = record { settings = o.settings; len = length o.bytes; quiets = o.quiets }

abbrev pub shown_out : Outcome → List ℕ → List ℕ
shown_out o out = o.bytes ++ drop (length o.bytes) out

-- the number of the call, the settings, the length of the reply, and whether it opens a quiet
pub record Done : Type 0 where
  pub no : ℕ
  pub settings : Settings
  pub len : ℕ
  pub quiets : Bool

-- 0 where the call is taken; a refused one has its number, the settings given and no reply
abbrev pub done_by : Settings → Result Executed Refusal → Done
done_by s (Ok e) = record { no = 0; settings = e.settings; len = e.len; quiets = e.quiets }
done_by s (Err e) = record { no = number_of e; settings = s; len = 0; quiets = false }

-- 1 ROOM: "under 18 bytes for the deck"
unfoldable pub executed : Settings → List ℕ → List ℕ → Done
executed s block out =
    cond (nat_lt (length out) 18)
    (record { no = 1; settings = s; len = 0; quiets = false })
    (done_by s (Ok (shown (execute s block))))

unfoldable pub executed_out : Settings → List ℕ → List ℕ → List ℕ
executed_out s block out = cond (nat_lt (length out) 18) out (shown_out (execute s block) out)
