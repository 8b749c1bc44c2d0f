-- Document 01, "Times, time-out, quiet": the deck between its events, and what each event does.
use Rattle.std.specs.Prelude.{Bool, true, false, cond, ◌&&◌, List, [], ◌∷◌, ◌++◌, ℕ, ◌+◌, ◌%◌, eqb, leb, ltb, length}
use Rattle.settings.specs.declared.Settings.{Settings}
use Rattle.settings.specs.Settings.{power_on, loaded, with_position}
use Rattle.execute.specs.Replies.{Outcome, nak, time_out, opens_quiet}
use Rattle.execute.specs.Execute.{execute}

-- "The deck takes four events, each with a time: a byte with flags, a look, a tape position, a cassette loaded."
-- (a look is document 01's term: an event that only tells the deck the time)
pub data Event : Type 0 where
  byte : (time content flags : ℕ) → Event
  look : (time : ℕ) → Event
  position : (time place : ℕ) → Event
  cassette : (time : ℕ) → Event

abbrev pub time_of : Event → ℕ
time_of (byte t b f) = t
time_of (look t) = t
time_of (position t p) = t
time_of (cassette t) = t

-- the bytes of the open block, none if no block is open; the time of its last byte; the first time at which a byte is
-- heard again after a quiet; the settings
pub record Deck : Type 0 where
  pub block : List ℕ
  pub last : ℕ
  pub free : ℕ
  pub settings : Settings

abbrev pub deck : List ℕ → ℕ → ℕ → Settings → Deck
deck b l f s = record { block = b; last = l; free = f; settings = s }

abbrev pub at_power_on : Deck
at_power_on = deck [] 0 0 power_on

-- a reply: its bytes, the time at which it is due, and whether it opens a quiet
pub record Reply : Type 0 where
  pub bytes : List ℕ
  pub due : ℕ
  pub quiets : Bool

pub record Answer : Type 0 where
  pub deck : Deck
  pub replies : List Reply

abbrev pub silently : Deck → Answer
silently d = record { deck = d; replies = [] }

-- "a quiet of 10,000 from its due time, both ends included": the first time after it
abbrev pub free_after : Bool → ℕ → ℕ → ℕ
free_after quiets due free = cond quiets (due + 10001) free

-- a NAK: the block is void
abbrev pub voided : Deck → ℕ → ℕ → Answer
voided d why due =
    record {
      deck = deck [] d.last (free_after (opens_quiet why) due d.free) d.settings;
      replies = record { bytes = nak why; due = due; quiets = opens_quiet why } ∷ [];
    }

-- "A block is open after its first byte."
abbrev pub is_open : List ℕ → Bool
is_open [] = false
is_open (b ∷ bytes) = true

-- "If an event's time exceeds the last byte's by more than 10,000, the block is void and a time-out NAK is due at
-- last + 10,001, even if found later."
abbrev pub timed_out : Deck → ℕ → Bool
timed_out d t = is_open d.block && ltb (d.last + 10000) t

unfoldable pub looked : Deck → ℕ → Answer
looked d t = cond (timed_out d t) (voided d time_out (d.last + 10001)) (silently d)

-- how many bytes the block has that begins so; no block is full before its first byte
abbrev pub size : List ℕ → ℕ
size [] = 3
size (first ∷ bytes) = first % 16 + 3

-- a full block: "A reply to a byte, NAK or other, is due at that byte's time."
abbrev pub replied : Deck → ℕ → Outcome → Answer
replied d t o =
    record {
      deck = deck [] t (free_after o.quiets t d.free) o.settings;
      replies = record { bytes = o.bytes; due = t; quiets = o.quiets } ∷ [];
    }

-- the open block with a clean byte more
unfoldable pub taken : Deck → List ℕ → ℕ → Answer
taken d block t =
    cond (leb (size block) (length block))
    (replied d t (execute d.settings block))
    (silently (deck block t d.free d.settings))

-- "Bytes in quiet are dropped, flags or not."
abbrev pub in_quiet : Deck → ℕ → Bool
in_quiet d t = ltb t d.free

-- a byte, after the time-out; "A flagged byte outside quiet voids the block, whether or not one is open; the NAK carries
-- its flags."
unfoldable pub received : Deck → ℕ → ℕ → ℕ → Answer
received d t b flags =
    cond (in_quiet d t) (silently d)
    (cond (eqb flags 0) (taken d (d.block ++ b ∷ []) t) (voided d flags t))

abbrev pub with_settings : Deck → Settings → Deck
with_settings d s = deck d.block d.last d.free s

-- an event, after the time-out
unfoldable pub acted : Deck → Event → Answer
acted d (byte t b flags) = received d t b flags
acted d (look t) = silently d
acted d (position t p) = silently (with_settings d (with_position p d.settings))
acted d (cassette t) = silently (with_settings d (loaded d.settings))

-- "Time-out comes first, then quiet, then the byte. One event may thus give two NAKs, in that order."
abbrev pub both_of : Answer → Answer → Answer
both_of first second = record { deck = second.deck; replies = first.replies ++ second.replies }

unfoldable pub answers : Deck → Event → Answer
answers d e = both_of (looked d (time_of e)) (acted (looked d (time_of e)).deck e)

abbrev pub after : Deck → Event → Deck
after d e = (answers d e).deck

abbrev pub says : Deck → Event → List Reply
says d e = (answers d e).replies

-- the deck after a list of events, and all that it says to them
unfoldable pub run : Deck → List Event → Deck
run d [] = d
run d (e ∷ es) = run (after d e) es

unfoldable pub said : Deck → List Event → List Reply
said d [] = []
said d (e ∷ es) = says d e ++ said (after d e) es
