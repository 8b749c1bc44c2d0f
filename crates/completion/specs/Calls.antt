-- The call that completes a record: its numbers, what it returns, and what the output holds afterwards.
use Rattle.std.specs.Prelude.{ℕ, ◌*◌, Option, Some, None, Bool, true, false, cond, not, ◌&&◌, List, [], ◌∷◌, ◌++◌, eqb, ltb, leb, length, take, drop}
use Rattle.refusal.specs.Written.{Written}
use Rattle.deck.specs.declared.Sent.{Sent}
use Rattle.deck.specs.Line.{Reply}
use Rattle.record.specs.declared.Entry.{Entry}
use Rattle.record.specs.Entries.{formed, is_deck}
use Rattle.record.specs.Bytes.{entries_of, record_of, is_record}
use Rattle.completion.specs.Completed.{on_line, with_reply, completed}

-- a well-formed controller, tape or cassette entry that is not before t
unfoldable pub follows : ℕ → Entry → Bool
follows t e = not (is_deck e.kind) && (leb t e.time && formed e)

unfoldable pub all_follow : ℕ → List Entry → Bool
all_follow t [] = true
all_follow t (e ∷ es) = follows t e && all_follow e.time es

-- the bytes of an exercise; where this fails, 10 RECORD: "record not a multiple of 12 bytes, or over 65,532", or an entry that is
-- malformed, from the deck or earlier than the one before
unfoldable pub is_exercise : List ℕ → Bool
is_exercise bytes = is_record (length bytes) && all_follow 0 (entries_of bytes)

-- every completed record fits into so many bytes: the replies have, all in all, at most 6 bytes for each controller byte
abbrev pub room_for : List ℕ → ℕ
room_for bytes = 7 * length bytes

-- 10 RECORD comes first, then 1 ROOM: "lent output too short"
unfoldable pub refusal : List ℕ → (room : ℕ) → ℕ
refusal bytes room = cond (is_exercise bytes) (cond (ltb room (room_for bytes)) 1 0) 10

-- the bytes of the completed record
abbrev pub completion : List ℕ → List ℕ
completion bytes = record_of (completed (entries_of bytes))

-- the number, and how many bytes were written, 0 for a refusal
unfoldable pub written : (bytes out : List ℕ) → Written
written bytes out =
    cond (eqb (refusal bytes (length out)) 0)
    (record { no = 0; len = length (completion bytes) })
    (record { no = refusal bytes (length out); len = 0 })

-- the completed record stands at the front of the output, the rest untouched; a refusal changes nothing
unfoldable pub written_out : (bytes out : List ℕ) → List ℕ
written_out bytes out =
    cond (eqb (refusal bytes (length out)) 0) (completion bytes ++ drop (length (completion bytes)) out) out

-- ---- for private functions

-- a reply as the deck's caller has it; whether it opens a quiet is not told
abbrev pub reply : (due : ℕ) (bytes : List ℕ) → Reply
reply due bytes = record { bytes = bytes; due = due; quiets = false }

-- an entry and the replies to it, as the deck's caller has them: their bytes stand at the front of these, one behind the other
abbrev pub with_answer : Entry → (first second : Option Sent) → List ℕ → List Entry
with_answer e None second bytes = e ∷ []
with_answer e (Some s) None bytes = with_reply (e ∷ []) (reply s.due (take s.len bytes))
with_answer e (Some s) (Some q) bytes =
    with_reply (e ∷ []) (reply s.due (take s.len bytes)) ++ on_line (reply q.due (take q.len (drop s.len bytes)))
