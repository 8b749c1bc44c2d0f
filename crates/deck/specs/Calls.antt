-- Document 01, "Numbers that calls return": the deck's calls, for any deck, event and output.
use Rattle.std.specs.Prelude.{Bool, cond, not, ◌&&◌, List, [], ◌∷◌, ◌++◌, ◌≡◌, ℕ, zero, suc, ◌%◌, ◌≤◌, ◌<◌, ◌^◌, eqb, leb, ltb, length, get_or, drop}
use Rattle.std.specs.Prelude.{Option, Some, None, Result, Ok, Err}
use Rattle.refusal.specs.declared.Refusal.{Refusal}
use Rattle.refusal.specs.Numbers.{number_of}
use Rattle.packed.specs.declared.Tail.{Tail}
use Rattle.packed.specs.Tail.{kept, backward, latest}
use Rattle.settings.specs.Settings.{power_on}
use Rattle.timecode.specs.Time.{day}
use Rattle.deck.specs.declared.Deck.{Deck as Held}
use Rattle.deck.specs.declared.Sent.{Sent}
use Rattle.deck.specs.declared.Answer.{Answer as Answered}
use Rattle.deck.specs.Line.{Event, byte, look, position, cassette, time_of, Deck, deck, Reply, Answer, answers}

-- the flags of a byte and the place of a position; 0 for the other events
abbrev pub flags_of : Event → ℕ
flags_of (byte t b flags) = flags
flags_of (look t) = 0
flags_of (position t p) = 0
flags_of (cassette t) = 0

abbrev pub place_of : Event → ℕ
place_of (byte t b flags) = 0
place_of (look t) = 0
place_of (position t p) = p
place_of (cassette t) = 0

-- no bit outside 70
abbrev pub flags_fit : ℕ → Bool
flags_fit flags = eqb (flags % 16) 0 && ltb flags 0x80

-- "Tests run in the order deck: 1, 2, 3, 4, 5": ROOM, LATE, BACK, FLAGS, PLACE; `clock` is the latest time taken
unfoldable pub refusal : (room clock time flags place : ℕ) → ℕ
refusal room clock time flags place =
    cond (ltb room 18) 1
    (cond (ltb 281_474_976_710_655 time) 2
    (cond (ltb time clock) 3
    (cond (not (flags_fit flags)) 4
    (cond (leb day place) 5
    0))))

abbrev pub number : ℕ → ℕ → Event → ℕ
number room clock e = refusal room clock (time_of e) (flags_of e) (place_of e)

-- ---- what a caller sees

-- the length and due time of the first of these replies, if there is one
abbrev pub told : List Reply → Option Sent
told [] = None
told (r ∷ rs) = Some (record { len = length r.bytes; due = r.due })

-- how many bytes of the output it takes
abbrev pub len_of : Option Sent → ℕ
len_of None = 0
len_of (Some s) = s.len

abbrev pub reply_bytes : List Reply → List ℕ
reply_bytes [] = []
reply_bytes (r ∷ rs) = r.bytes ++ reply_bytes rs

-- the number, the clock and the deck, the two replies, and what the output holds afterwards
pub record Call : Type 0 where
  pub no : ℕ
  pub clock : ℕ
  pub deck : Deck
  pub first : Option Sent
  pub second : Option Sent
  pub out : List ℕ

-- "Reply bytes stand at the front of the lent output, the rest of it untouched"
abbrev pub taken_call : ℕ → Answer → List ℕ → Call
taken_call clock a out =
    record {
      no = 0;
      clock = clock;
      deck = a.deck;
      first = told a.replies;
      second = told (drop 1 a.replies);
      out = reply_bytes a.replies ++ drop (length (reply_bytes a.replies)) out;
    }

-- "All of these but 0 return no other content (zeros ..) and change nothing."
abbrev pub refused_call : ℕ → ℕ → Deck → List ℕ → Call
refused_call n clock d out =
    record { no = n; clock = clock; deck = d; first = told []; second = told []; out = out }

unfoldable pub call : ℕ → Deck → Event → List ℕ → Call
call clock d e out =
    cond (eqb (number (length out) clock e) 0)
    (taken_call (time_of e) (answers d e) out)
    (refused_call (number (length out) clock e) clock d out)

-- ---- the code's deck and answer

-- The code keeps the first byte of the open block, and those behind it in a tail, with the count of all. A deck that no event
-- could have made is a value too: at most 17 bytes count as an open block.
abbrev pub open_block : (held first : ℕ) → Tail → List ℕ
open_block zero first t = []
open_block (suc n) first t = first % 256 ∷ latest n t

abbrev pub view : Held → Deck
view d = deck (open_block d.held d.first d.tail) d.last d.free d.settings

-- the deck at power-on; "The clock starts at 0."
abbrev pub new_deck : Held
new_deck = record { clock = 0; last = 0; free = 0; held = 0; first = 0; tail = kept []; settings = power_on }

-- a deck as events make it: at most 17 bytes are held, and the numbers have these and nothing else
pub record Made (d : Held) : Type 0 where
  pub few : d.held ≤ 17
  pub head : d.first ≡ get_or (view d).block 0 0
  pub rest : d.tail ≡ kept (backward (drop 1 (view d).block))

-- an answer, with the number of the call
pub record Returned : Type 0 where
  pub no : ℕ
  pub deck : Held
  pub first : Option Sent
  pub second : Option Sent

-- 0 where the call is taken; a refused call has its number, no reply, and the deck is the caller's own
abbrev pub given : Answered → Returned
given a = record { no = 0; deck = a.deck; first = a.first; second = a.second }

abbrev pub returned : Held → Result Answered Refusal → Returned
returned d (Ok a) = given a
returned d (Err e) = record { no = number_of e; deck = d; first = told []; second = told [] }

-- what a caller sees of an answer and the output
abbrev pub seen : Returned → List ℕ → Call
seen r out =
    record {
      no = r.no;
      clock = r.deck.clock;
      deck = view r.deck;
      first = r.first;
      second = r.second;
      out = out;
    }

-- the contract of the four events: what is seen is the call; a refused call hands back the deck itself; and of a deck that
-- events made comes another, so that nothing of it is left free
pub record Answers (d : Held) (e : Event) (entry : List ℕ) (r : Returned) (exit : List ℕ) : Type 0 where
  pub seen-is : seen r exit ≡ call d.clock (view d) e entry
  pub same : (r.no ≡ 0 → ⊥) → r.deck ≡ d
  pub made : Made d → Made r.deck

-- ---- for private functions

-- a call that no test has refused: its time is in range, and the output has room for all replies
abbrev pub Admitted : ℕ → List ℕ → Type 0
Admitted time out = (time < 2 ^ 48) × (18 ≤ length out)

-- at the deck's clock the code's answer and the output are what the deck of the definitions comes to
pub record Comes (d : Held) (a : Answer) (entry : List ℕ) (r : Answered) (exit : List ℕ) : Type 0 where
  pub seen-is : seen (given r) exit ≡ taken_call d.clock a entry
  pub made : Made d → Made r.deck
