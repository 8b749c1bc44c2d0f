-- Document 01, "Line examples": the cases marked P, as one table.
use mathlib.Core.List.{List, [], ◌∷◌, map}
use mathlib.Core.Path.{◌≡◌, refl}
use Prim.Native.Nat.{ℕ, ◌+◌}
use Rattle.block.specs.Block.{sum}
use Rattle.block.specs.Read.{read_no, read_data}
use Rattle.command.specs.Commands.{commands, lookup}
use Rattle.effects.specs.Effects.{perform, transport}
use Rattle.execute.specs.Execute.{carry, execute}
use Rattle.execute.specs.Replies.{opens_quiet}
use Rattle.settings.specs.Status.{status_bytes}
use Rattle.timecode.specs.Time.{read_time, write_time}
use Rattle.deck.specs.Line.{Event, byte, position, Reply, at_power_on, looked, taken, received, acted, answers, run, said}

-- a reply: its due time and its bytes
pub record Due : Type 0 where
  pub due : ℕ
  pub bytes : List ℕ

-- what comes of a case: the replies with their due times, and the bytes of the block that is left open
pub record Ends : Type 0 where
  pub replies : List Due
  pub left : List ℕ

-- the tape position at the start, the bytes that are sent with their times, and what comes of them
pub record Case : Type 0 where
  pub place : ℕ
  pub sends : List Event
  pub ends : Ends

abbrev pub case : ℕ → List Event → List Due → List ℕ → Case
case place sends replies left = record { place = place; sends = sends; ends = record { replies = replies; left = left } }

abbrev pub at : ℕ → List ℕ → Due
at due bytes = record { due = due; bytes = bytes }

-- bytes without flags, 300 apart
abbrev pub spaced : ℕ → List ℕ → List Event
spaced t [] = []
spaced t (b ∷ bytes) = byte t b 0 ∷ spaced (t + 300) bytes

abbrev pub cases : List Case
cases =
    -- "20 01 21: 10 01 11. P 20 01 22: 11 12 04 27. P 20 7F 9F: 11 12 01 24."
    case 0 (spaced 0 (0x20 ∷ 0x01 ∷ 0x21 ∷ [])) (at 600 (0x10 ∷ 0x01 ∷ 0x11 ∷ []) ∷ []) []
    ∷ case 0 (spaced 0 (0x20 ∷ 0x01 ∷ 0x22 ∷ [])) (at 600 (0x11 ∷ 0x12 ∷ 0x04 ∷ 0x27 ∷ []) ∷ []) []
    ∷ case 0 (spaced 0 (0x20 ∷ 0x7F ∷ 0x9F ∷ [])) (at 600 (0x11 ∷ 0x12 ∷ 0x01 ∷ 0x24 ∷ []) ∷ []) []
    -- "00 11 11: 12 11 00 02 25. P 61 20 03 84 at power-on: 73 20 01 20 00 B4."
    ∷ case 0 (spaced 0 (0x00 ∷ 0x11 ∷ 0x11 ∷ [])) (at 600 (0x12 ∷ 0x11 ∷ 0x00 ∷ 0x02 ∷ 0x25 ∷ []) ∷ []) []
    ∷ case 0 (spaced 0 (0x61 ∷ 0x20 ∷ 0x03 ∷ 0x84 ∷ [])) (at 900 (0x73 ∷ 0x20 ∷ 0x01 ∷ 0x20 ∷ 0x00 ∷ 0xB4 ∷ []) ∷ []) []
    -- "61 0C 03 70 at 0: 74 04 00 00 00 00 78; P at 2,159,999: 74 04 24 59 59 23 71."
    ∷ case 0 (spaced 0 (0x61 ∷ 0x0C ∷ 0x03 ∷ 0x70 ∷ []))
    (at 900 (0x74 ∷ 0x04 ∷ 0x00 ∷ 0x00 ∷ 0x00 ∷ 0x00 ∷ 0x78 ∷ []) ∷ []) []
    ∷ case 2_159_999 (spaced 0 (0x61 ∷ 0x0C ∷ 0x03 ∷ 0x70 ∷ []))
    (at 900 (0x74 ∷ 0x04 ∷ 0x24 ∷ 0x59 ∷ 0x59 ∷ 0x23 ∷ 0x71 ∷ []) ∷ []) []
    -- "24 31 24 00 00 00 79 acknowledged; P with 25 and 7A: 11 12 01 24."
    ∷ case 0 (spaced 0 (0x24 ∷ 0x31 ∷ 0x24 ∷ 0x00 ∷ 0x00 ∷ 0x00 ∷ 0x79 ∷ [])) (at 1800 (0x10 ∷ 0x01 ∷ 0x11 ∷ []) ∷ []) []
    ∷ case 0 (spaced 0 (0x24 ∷ 0x31 ∷ 0x25 ∷ 0x00 ∷ 0x00 ∷ 0x00 ∷ 0x7A ∷ []))
    (at 1800 (0x11 ∷ 0x12 ∷ 0x01 ∷ 0x24 ∷ []) ∷ []) []
    -- "bytes at 0 and 10,000: still open. P 0 and 10,001: 11 12 80 A3, second byte dropped."
    ∷ case 0 (byte 0 0x20 0 ∷ byte 10_000 0x01 0 ∷ []) [] (0x20 ∷ 0x01 ∷ [])
    ∷ case 0 (byte 0 0x20 0 ∷ byte 10_001 0x01 0 ∷ []) (at 10_001 (0x11 ∷ 0x12 ∷ 0x80 ∷ 0xA3 ∷ []) ∷ []) []
    -- "after that, 20,001 dropped, 20,002 begins a block."
    ∷ case 0 (byte 0 0x20 0 ∷ byte 10_001 0x01 0 ∷ byte 20_001 0x21 0 ∷ [])
    (at 10_001 (0x11 ∷ 0x12 ∷ 0x80 ∷ 0xA3 ∷ []) ∷ []) []
    ∷ case 0 (byte 0 0x20 0 ∷ byte 10_001 0x01 0 ∷ byte 20_001 0x21 0 ∷ byte 20_002 0x20 0 ∷ [])
    (at 10_001 (0x11 ∷ 0x12 ∷ 0x80 ∷ 0xA3 ∷ []) ∷ []) (0x20 ∷ [])
    ∷ []

-- a deck at power-on is handed the position and then the bytes
abbrev pub shown : Case → Ends
shown c =
    let es = position 0 c.place ∷ c.sends in
    record { replies = map (λ (r : Reply). at r.due r.bytes) (said at_power_on es); left = (run at_power_on es).block }

pub examples : map shown cases ≡ map (λ (c : Case). c.ends) cases
unfolding looked taken received acted answers run said execute opens_quiet read_no read_data sum commands lookup carry
    perform transport read_time write_time status_bytes
examples = refl
