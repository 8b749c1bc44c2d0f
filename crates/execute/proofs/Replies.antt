-- Every reply is a block: 3 to 18 bytes, each a byte, and it reads.
use Rattle.std.proofs.Common.{Option, Some, None, ◌≡◌, ℕ, ◌<◌, ◌≤◌, Bool, true, false, cond, eqb}
use Rattle.std.proofs.Common.{List, [], ◌∷◌, length, get_or, take, sym, refl, ap, ◌∙◌, subst, arith, length-take}
use Rattle.packed.proofs.Bytes.{Bytes, by_place, front, joined}
use Rattle.block.specs.Block.{first_byte, checksum, body, block_of}
use Rattle.block.specs.Read.{read_no, read_data}
use Rattle.block.proofs.RoundTrip.{block-number}
use Rattle.block.proofs.Writing.{length-block}
use Rattle.timecode.specs.Time.{write_time}
use Rattle.timecode.proofs.Times.{bytes_lt, bytes-four}
use Rattle.settings.specs.declared.Settings.{Settings}
use Rattle.settings.specs.declared.Which.{Which}
use Rattle.settings.specs.declared.Which.TheVariants.{In, Out}
use Rattle.settings.specs.Settings.{point_of}
use Rattle.settings.specs.Status.{status_bytes}
use Rattle.settings.proofs.StatusBytes.{status-length, status-lt}
use Rattle.command.specs.declared.ReplyKind.{ReplyKind}
use Rattle.command.specs.declared.ReplyKind.TheVariants.{Ack, Device, PointTime, TapeTime, Status}
use Rattle.command.specs.Commands.{commands, lookup}
use Rattle.effects.specs.Effects.{perform, fits}
use Rattle.execute.specs.Replies.{Outcome, answered, acknowledged, refused, undefined, bad_checksum}
use Rattle.execute.specs.Execute.{point_code, time_code, within, carry, execute}

-- the bytes of a block of a group, a command and data that fit
pub record IsReply (bytes : List ℕ) : Type 0 where
  pub group : ℕ
  pub command : ℕ
  pub content : List ℕ
  pub is : bytes ≡ block_of group command content
  pub small : group ≤ 15
  pub code : command < 256
  pub few : length content ≤ 15
  pub each : Bytes content

module _ (bytes : List ℕ) (r : IsReply bytes) where
  pub is-long : 3 ≤ length bytes
  is-long = subst (λ (x : List ℕ). 3 ≤ length x) (sym r.is) (omega (arith, length-block r.group r.command r.content))

  pub is-short : length bytes ≤ 18
  is-short =
      subst (λ (x : List ℕ). length x ≤ 18) (sym r.is) (omega (arith, length-block r.group r.command r.content, r.few))

  pub is_read : read_no bytes ≡ 0
  is_read = ap read_no r.is ∙ block-number r.group r.command r.content r.few

  pub are-bytes : Bytes bytes
  are-bytes =
      let first : first_byte r.group (length r.content) < 256 = let s = r.small in let f = r.few in omega arith in
      subst Bytes (sym r.is)
      (joined (body r.group r.command r.content) (checksum (body r.group r.command r.content) ∷ [])
      (first, (r.code, r.each)) (omega arith, tt))

either : (t : Bool) (o p : Outcome) → (t ≡ true → IsReply o.bytes) → IsReply p.bytes → IsReply (cond t o p).bytes
either true o p f g = f refl
either false o p f g = g

a-nak : (s : Settings) (why : ℕ) → why < 256 → IsReply (refused s why).bytes
a-nak s why h =
    record {
      group = 1;
      command = 0x12;
      content = why ∷ [];
      is = refl;
      small = omega arith;
      code = omega arith;
      few = omega arith;
      each = (h, tt);
    }

an-ack : (s : Settings) → IsReply (acknowledged s).bytes
an-ack s = record { group = 1; command = 1; content = []; is = refl; small = omega arith; code = omega arith; few = omega arith; each = tt }

-- a reply with a time
a-time : (s : Settings) (code p : ℕ) → code < 256 → IsReply (answered s 0x7 code (write_time p).bytes).bytes
a-time s code p h =
    record {
      group = 7;
      command = code;
      content = (write_time p).bytes;
      is = refl;
      small = omega arith;
      code = h;
      few = omega (arith, bytes-four p);
      each = by_place (write_time p).bytes (bytes_lt p);
    }

point-code : (w : Which) → point_code w < 256
point-code In = omega arith
point-code Out = omega arith

time-code : (t : Bool) → cond t 0x06 0x04 < 256
time-code true = omega arith
time-code false = omega arith

pub carry-replies : (k : Option ReplyKind) (s : Settings) (bytes : List ℕ) → IsReply (carry k s bytes).bytes
unfolding carry
carry-replies None s bytes = a-nak s undefined (omega arith)
carry-replies (Some (Ack e)) s bytes =
    either (fits e bytes) (acknowledged (perform e s bytes)) (refused s undefined)
    (λ _. an-ack (perform e s bytes)) (a-nak s undefined (omega arith))
carry-replies (Some Device) s bytes =
    record {
      group = 1;
      command = 0x11;
      content = 0 ∷ 2 ∷ [];
      is = refl;
      small = omega arith;
      code = omega arith;
      few = omega arith;
      each = (omega arith, (omega arith, tt));
    }
carry-replies (Some (PointTime w)) s bytes = a-time s (point_code w) (point_of w s).at (point-code w)
carry-replies (Some TapeTime) s bytes =
    let n = get_or bytes 0 0 in
    either (within 1 4 n) (answered s 0x7 (time_code n) (write_time s.position).bytes) (refused s undefined)
    (λ _. a-time s (time_code n) s.position (time-code (eqb n 2))) (a-nak s undefined (omega arith))
carry-replies (Some Status) s bytes =
    let n = get_or bytes 0 0 in
    either (within 1 13 n) (answered s 0x7 0x20 (take n (status_bytes s))) (refused s undefined)
    (λ h. record {
      group = 7;
      command = 0x20;
      content = take n (status_bytes s);
      is = refl;
      small = omega arith;
      code = omega arith;
      few = simp length-take (omega (arith, status-length s));
      each = front n (status_bytes s) (by_place (status_bytes s) (status-lt s));
    })
    (a-nak s undefined (omega arith))

pub execute-replies : (s : Settings) (block : List ℕ) → IsReply (execute s block).bytes
unfolding execute
execute-replies s block =
    let k = lookup commands (get_or block 0 0) (get_or block 1 0) in
    either (eqb (read_no block) 0) (carry k s (read_data block)) (refused s bad_checksum)
    (λ _. carry-replies k s (read_data block)) (a-nak s bad_checksum (omega arith))

-- the reply to a full block, whatever the settings
module _ (s : Settings) (block : List ℕ) where
  pub reply-long : 3 ≤ length (execute s block).bytes
  reply-long = is-long (execute s block).bytes (execute-replies s block)

  pub reply-short : length (execute s block).bytes ≤ 18
  reply-short = is-short (execute s block).bytes (execute-replies s block)

  pub reply-reads : read_no (execute s block).bytes ≡ 0
  reply-reads = is_read (execute s block).bytes (execute-replies s block)

  pub reply-bytes : Bytes (execute s block).bytes
  reply-bytes = are-bytes (execute s block).bytes (execute-replies s block)
