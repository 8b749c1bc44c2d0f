-- What the program `answer` prints: what the deck says to a record's entries, and how it stands after them.
use Rattle.std.specs.Prelude.{ℕ, suc, ◌+◌, ◌*◌, ◌/◌, cond, ◌&&◌, List, [], ◌∷◌, ◌++◌, eqb, ℤ, pos, negsuc, length}
use Rattle.settings.specs.declared.Settings.{Settings}
use Rattle.settings.specs.Status.{status_bytes}
use Rattle.timecode.specs.Time.{write_time}
use Rattle.deck.specs.Line.{Deck, at_power_on, Reply, time_of, after, says}
use Rattle.deck.specs.Calls.{number}
use Rattle.record.specs.declared.Entry.{Entry}
use Rattle.record.specs.Entries.{handed, meant}
use Rattle.record.specs.Bytes.{entries_of, is_record}
use Rattle.text.specs.Text.{decimal, line, hex_line, at_line}
use Rattle.report.specs.Text.{refused, refused_line}

-- ---- an entry

-- `reply 600 10 01 11`: the due time and the bytes
abbrev pub reply_line : Reply → List ℕ
reply_line r = (114 ∷ 101 ∷ 112 ∷ 108 ∷ 121 ∷ 32 ∷ []) ++ hex_line (decimal r.due) r.bytes

unfoldable pub reply_lines : List Reply → List ℕ
reply_lines [] = []
reply_lines (r ∷ rs) = reply_line r ++ reply_lines rs

-- `malformed at 3`
abbrev pub malformed_line : ℕ → List ℕ
malformed_line k =
    line (109 ∷ 97 ∷ 108 ∷ 102 ∷ 111 ∷ 114 ∷ 109 ∷ 101 ∷ 100 ∷ 32 ∷ 97 ∷ 116 ∷ 32 ∷ []) k

-- the deck between two entries, and the latest time that it has taken
pub record Standing : Type 0 where
  pub clock : ℕ
  pub deck : Deck

-- the number of the deck's call; it is lent enough
abbrev pub number_for : Standing → Entry → ℕ
number_for s e = number 18 s.clock (handed e)

-- `refused 3 at 7`: the number, and the entry's
unfoldable pub entry_lines : ℕ → Standing → Entry → List ℕ
entry_lines k s e =
    cond (meant e.kind e)
    (cond (eqb (number_for s e) 0) (reply_lines (says s.deck (handed e))) (at_line refused (number_for s e) k))
    (malformed_line k)

-- a malformed entry and one that is refused are passed over
unfoldable pub stands : Standing → Entry → Standing
stands s e =
    cond (meant e.kind e && eqb (number_for s e) 0)
    (record { clock = time_of (handed e); deck = after s.deck (handed e) })
    s

-- ---- the end

-- `speed -1000`: the number of thousandths with its sign
unfoldable pub speed_line : ℤ → List ℕ
speed_line (pos n) = line (115 ∷ 112 ∷ 101 ∷ 101 ∷ 100 ∷ 32 ∷ []) n
speed_line (negsuc n) = line (115 ∷ 112 ∷ 101 ∷ 101 ∷ 100 ∷ 32 ∷ 45 ∷ []) (suc n)

-- `time 00 00 00 00`: the four BCD bytes of a position, frames first
abbrev pub time_line : List ℕ → ℕ → List ℕ
time_line words position = hex_line words (write_time position).bytes

-- `time`, `in` and `out`
unfoldable pub time_lines : Settings → List ℕ
time_lines s =
    time_line (116 ∷ 105 ∷ 109 ∷ 101 ∷ []) s.position
    ++ (time_line (105 ∷ 110 ∷ []) s.inat ++ time_line (111 ∷ 117 ∷ 116 ∷ []) s.outat)

-- five lines: `status` and the 13 status bytes, the three times, and the speed
unfoldable pub settings_lines : Settings → List ℕ
settings_lines s =
    hex_line (115 ∷ 116 ∷ 97 ∷ 116 ∷ 117 ∷ 115 ∷ []) (status_bytes s) ++ (time_lines s ++ speed_line s.speed)

-- ---- the whole

-- from the entry with number k on
unfoldable pub transcript_from : ℕ → Standing → List Entry → List ℕ
transcript_from k s [] = settings_lines s.deck.settings
transcript_from k s (e ∷ es) = entry_lines k s e ++ transcript_from (suc k) (stands s e) es

-- the entries are handed to a deck at power-on; what is no record gets "refused 10" alone
unfoldable pub transcript : List ℕ → List ℕ
transcript bytes =
    cond (is_record (length bytes))
    (transcript_from 0 (record { clock = 0; deck = at_power_on }) (entries_of bytes))
    (refused_line 10)

-- every transcript fits into so many bytes: those of two replies to each entry, and the five lines
abbrev pub room_for : List ℕ → ℕ
room_for bytes = 128 + 108 * (length bytes / 12)
