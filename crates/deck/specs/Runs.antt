-- Document 01, "Times, time-out, quiet": runs of the code's own calls, of which the laws of quiet and of looks speak.
use Rattle.std.specs.Prelude.{List, [], ◌∷◌, ◌++◌, ◌≡◌, ℕ, take, drop, Option, Some, None}
use Rattle.deck.specs.declared.Deck.{Deck as Held}
use Rattle.deck.specs.declared.Sent.{Sent}
use Rattle.deck.specs.Line.{Event, Reply}
use Rattle.deck.specs.Calls.{len_of, Returned, Answers}

-- a reply as a caller has it: its bytes and its due time
pub record Obtained : Type 0 where
  pub bytes : List ℕ
  pub due : ℕ

-- those that the deck of the definitions says; whether one opens a quiet is not told
abbrev pub known : List Reply → List Obtained
known [] = []
known (r ∷ rs) = record { bytes = r.bytes; due = r.due } ∷ known rs

-- from the front of the output, if there is one
abbrev pub obtained_at : Option Sent → List ℕ → List Obtained
obtained_at None out = []
obtained_at (Some s) out = record { bytes = take s.len out; due = s.due } ∷ []

-- "Reply bytes stand at the front of the lent output", those of the second behind the first
abbrev pub obtained : Returned → List ℕ → List Obtained
obtained r out = obtained_at r.first out ++ obtained_at r.second (drop (len_of r.first) out)

-- calls one after the other, "no call refused": from a deck, with these events, whatever was lent, to these replies and the deck
-- that the last call hands back
pub data Called : Held → List Event → List Obtained → Held → Type 0 where
  none : {d : Held} → Called d [] [] d
  more : {d end : Held} {e : Event} {es : List Event} {replies : List Obtained} (entry exit : List ℕ) (r : Returned)
      → Answers d e entry r exit → r.no ≡ 0 → Called r.deck es replies end
      → Called d (e ∷ es) (obtained r exit ++ replies) end
