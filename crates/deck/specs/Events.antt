-- Document 01, "Times, time-out, quiet": words about lists of events, in which the laws of the deck are stated.
use Rattle.std.specs.Prelude.{true, List, [], ◌∷◌, ◌++◌, ◌≡◌, ℕ, ◌+◌, ◌≤◌, ◌<◌, length}
use Rattle.settings.specs.declared.Settings.{Settings}
use Rattle.settings.specs.Settings.{loaded, with_position}
use Rattle.execute.specs.Replies.{nak, time_out, opens_quiet}
use Rattle.deck.specs.Line.{Event, byte, look, position, cassette, time_of}
use Rattle.deck.specs.Line.{Deck, Reply, timed_out, looked, size, in_quiet, after, run, said}

-- to these events the deck says these replies, and after them it is the deck `end`
abbrev pub Gives : Deck → List Event → List Reply → Deck → Type 0
Gives d es replies end = (said d es ≡ replies) × (run d es ≡ end)

-- the NAK with this byte, due at this time
abbrev pub nak_at : ℕ → ℕ → Reply
nak_at why due = record { bytes = nak why; due = due; quiets = opens_quiet why }

-- the settings after an event on the tape: a position is set, a cassette is loaded; bytes and looks change nothing
abbrev pub tape : Settings → Event → Settings
tape s (byte t b flags) = s
tape s (look t) = s
tape s (position t p) = with_position p s
tape s (cassette t) = loaded s

-- the settings after the positions and cassettes among the events
abbrev pub tapes : Settings → List Event → Settings
tapes s [] = s
tapes s (e ∷ es) = tapes (tape s e) es

-- ---- blocks on the line

-- a look, a position or a cassette
abbrev pub NoByte : Event → Type 0
NoByte (byte t b flags) = ⊥
NoByte (look t) = Unit
NoByte (position t p) = Unit
NoByte (cassette t) = Unit

-- looks, positions and cassettes alone, each at most 10,000 after a byte at `last`
abbrev pub Others : ℕ → List Event → Type 0
Others last [] = Unit
Others last (e ∷ es) = NoByte e × (time_of e ≤ last + 10000) × Others last es

-- after a byte at `last` the events bring these bytes, in order and without flags, each not before the byte before it and at
-- most 10,000 after, with looks, positions and cassettes between; they end with the last of the bytes, at `end`
pub data Sending : ℕ → List ℕ → List Event → ℕ → Type 0 where
  sent : {last : ℕ} → Sending last [] [] last
  next : {last t b end : ℕ} {bytes : List ℕ} {es : List Event} (others : List Event) → Others last others → last ≤ t
      → t ≤ last + 10000 → Sending t bytes es end → Sending last (b ∷ bytes) (others ++ byte t b 0 ∷ es) end

-- "a proper beginning": to a deck with no block open and not in quiet the events bring these bytes of a block, perhaps none
-- and not all, the last at `last`; looks, positions and cassettes may follow, each at most 10,000 after it
pub data Begun : Deck → List ℕ → List Event → ℕ → Type 0 where
  unbegun : {d : Deck} → d.block ≡ [] → Begun d [] [] d.last
  begun : {d : Deck} {t b last : ℕ} {bytes : List ℕ} {es : List Event} (others : List Event) → d.block ≡ [] → d.free ≤ t
      → Sending t bytes es last → length (b ∷ bytes) < size (b ∷ bytes) → Others last others
      → Begun d (b ∷ bytes) (byte t b 0 ∷ es ++ others) last

-- ---- bytes in quiet

-- "Two runs that differ only in the content of bytes that fall in quiet": a byte's content and flags may differ where the
-- deck, as the events before have made it, is in quiet after the time-out; or a look stands in its place: "Bytes in quiet act
-- only as looks at the clock."
pub data Alike : Deck → List Event → List Event → Type 0 where
  ended : {d : Deck} → Alike d [] []
  same : {d : Deck} {e : Event} {es fs : List Event} → Alike (after d e) es fs → Alike d (e ∷ es) (e ∷ fs)
  dropped : {d : Deck} {t b c flags marks : ℕ} {es fs : List Event} → in_quiet (looked d t).deck t ≡ true
      → Alike (after d (byte t b flags)) es fs → Alike d (byte t b flags ∷ es) (byte t c marks ∷ fs)
  unheard : {d : Deck} {t b flags : ℕ} {es fs : List Event} → in_quiet (looked d t).deck t ≡ true
      → Alike (after d (byte t b flags)) es fs → Alike d (byte t b flags ∷ es) (look t ∷ fs)

-- ---- looks

-- "times that never fall", from t on
abbrev pub Ordered : ℕ → List Event → Type 0
Ordered t [] = Unit
Ordered t (e ∷ es) = (t ≤ time_of e) × Ordered (time_of e) es

-- "the same other events"
abbrev pub without_looks : List Event → List Event
without_looks [] = []
without_looks (byte t b flags ∷ es) = byte t b flags ∷ without_looks es
without_looks (look t ∷ es) = without_looks es
without_looks (position t p ∷ es) = position t p ∷ without_looks es
without_looks (cassette t ∷ es) = cassette t ∷ without_looks es

-- ---- the replies to one event

-- nothing; one reply, due at the event's time and as long as a block; or the time-out's NAK, due at last + 10,001, and then
-- that for a flagged byte, or none
pub data Few (d : Deck) : Event → List Reply → Type 0 where
  none : {e : Event} → Few d e []
  one : {e : Event} (r : Reply) → r.due ≡ time_of e → 3 ≤ length r.bytes → length r.bytes ≤ 18 → Few d e (r ∷ [])
  late : {e : Event} → timed_out d (time_of e) ≡ true → Few d e (nak_at time_out (d.last + 10001) ∷ [])
  two : {t b flags : ℕ} → timed_out d t ≡ true → (flags ≡ 0 → ⊥)
      → Few d (byte t b flags) (nak_at time_out (d.last + 10001) ∷ nak_at flags t ∷ [])
