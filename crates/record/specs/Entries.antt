-- Document 01, "Line record and turns": entries, and how the deck is handed them.
use Rattle.std.specs.Prelude.{Bool, true, false, ◌&&◌, List, [], ◌∷◌, ◌++◌, map, ◌≡◌, ℕ, zero, suc, ◌^◌, Option, Some, None, Result, ok_or, T, eqb, ltb}
use Rattle.timecode.specs.Time.{day}
use Rattle.deck.specs.declared.Deck.{Deck as Held}
use Rattle.deck.specs.Line.{Event, byte, look, position, cassette, Deck, Reply, after, says}
use Rattle.deck.specs.Calls.{flags_fit, told, Returned, Answers}
use Rattle.refusal.specs.declared.Refusal.{Refusal}
use Rattle.refusal.specs.declared.Refusal.TheVariants.{Field}
use Rattle.record.specs.declared.Entry.{Entry}
use Rattle.record.specs.declared.kind.Kind.{Kind}
use Rattle.record.specs.declared.kind.Kind.TheVariants.{Controller, Deck as DeckByte, Position, Cassette}

-- "kind (0 controller byte, 1 deck byte, 2 position, 3 cassette loaded)"
abbrev pub kind_of : ℕ → Option Kind
kind_of zero = Some Controller
kind_of (suc zero) = Some DeckByte
kind_of (suc (suc zero)) = Some Position
kind_of (suc (suc (suc zero))) = Some Cassette
kind_of (suc (suc (suc (suc k)))) = None

-- a byte that is no kind is a field out of its range: 9 FIELD
abbrev pub kind_or_field : ℕ → Result Kind Refusal
kind_or_field k = ok_or (kind_of k) Field

abbrev pub entry : (kind flags content time : ℕ) → Entry
entry k f c t = record { kind = k; flags = f; content = c; time = t }

-- ---- well formed

-- "kind (0 controller byte, 1 deck byte, 2 position, 3 cassette loaded) .. Kinds 0 and 1 have content under 256, kind 2 a
-- legal position, kind 3 content 0; flags lie within 70, and are 0 outside kind 0."
unfoldable pub fits : ℕ → Entry → Bool
fits zero e = flags_fit e.flags && ltb e.content 256
fits (suc zero) e = eqb e.flags 0 && ltb e.content 256
fits (suc (suc zero)) e = eqb e.flags 0 && ltb e.content day
fits (suc (suc (suc zero))) e = eqb e.flags 0 && eqb e.content 0
fits (suc (suc (suc (suc k)))) e = false

-- "time in six" bytes
abbrev pub formed : Entry → Bool
formed e = fits e.kind e && ltb e.time (2 ^ 48)

abbrev pub WellFormed : Entry → Type 0
WellFormed e = T (formed e)

-- ---- "It is handed the entries in order, at their times: kind 0 as a byte with its flags, kind 1 as a look, kind 2 as a
-- position, kind 3 as a cassette loaded."

-- a position or a cassette loaded
abbrev pub tape_event : ℕ → Entry → Event
tape_event zero e = position e.time e.content
tape_event (suc k) e = cassette e.time

abbrev pub handed_as : ℕ → Entry → Event
handed_as zero e = byte e.time e.content e.flags
handed_as (suc zero) e = look e.time
handed_as (suc (suc k)) e = tape_event k e

abbrev pub handed : Entry → Event
handed e = handed_as e.kind e

-- Kind 0 with content under 256 is a byte with its flags as they stand, kind 1 (content under 256, flags 0) a look, kind 2
-- (flags 0) a position as it stands, kind 3 (flags and content 0) a cassette; any other entry is not meant for the deck. The
-- deck itself refuses flags and positions that are none.
unfoldable pub meant : ℕ → Entry → Bool
meant zero e = ltb e.content 256
meant (suc zero) e = eqb e.flags 0 && ltb e.content 256
meant (suc (suc zero)) e = eqb e.flags 0
meant (suc (suc (suc zero))) e = eqb e.flags 0 && eqb e.content 0
meant (suc (suc (suc (suc k)))) e = false

-- the code's deck, handed any entry: it answers one that is meant, and any other has a field out of its range, so 9 FIELD. "All
-- of these but 0 return no other content (zeros ..) and change nothing."
pub record Hands (d : Held) (e : Entry) (entry : List ℕ) (r : Returned) (exit : List ℕ) : Type 0 where
  pub answers : meant e.kind e ≡ true → Answers d (handed e) entry r exit
  pub refused : meant e.kind e ≡ false → (r ≡ record { no = 9; deck = d; first = told []; second = told [] }) × (exit ≡ entry)

-- the deck after an entry, and what it says to it
unfoldable pub after_entry : Deck → Entry → Deck
after_entry d e = after d (handed e)

unfoldable pub says_to : Deck → Entry → List Reply
says_to d e = says d (handed e)

-- the same for a list of entries
unfoldable pub run : Deck → List Entry → Deck
run d [] = d
run d (e ∷ es) = run (after_entry d e) es

unfoldable pub said : Deck → List Entry → List Reply
said d [] = []
said d (e ∷ es) = says_to d e ++ said (after_entry d e) es

-- ---- lists of entries

-- those entries whose kind passes
abbrev pub keep : {A : Type 0} → Bool → A → List A → List A
keep true a l = a ∷ l
keep false a l = l

abbrev pub is_controller : ℕ → Bool
is_controller zero = true
is_controller (suc k) = false

abbrev pub is_deck : ℕ → Bool
is_deck zero = false
is_deck (suc zero) = true
is_deck (suc (suc k)) = false

unfoldable pub of_kind : (ℕ → Bool) → List Entry → List Entry
of_kind p [] = []
of_kind p (e ∷ es) = keep (p e.kind) e (of_kind p es)

-- the controller entries, the deck entries, and contents
abbrev pub controller : List Entry → List Entry
controller = of_kind is_controller

abbrev pub from_deck : List Entry → List Entry
from_deck = of_kind is_deck

abbrev pub contents : List Entry → List ℕ
contents = map (λ e. e.content)

-- the last entry's time; t where there is none
abbrev pub last_time : ℕ → List Entry → ℕ
last_time t [] = t
last_time t (e ∷ es) = last_time e.time es

-- every entry
abbrev pub All : (Entry → Type 0) → List Entry → Type 0
All P [] = Unit
All P (e ∷ es) = P e × All P es

-- the first entry, if there is one
abbrev pub First : (Entry → Type 0) → List Entry → Type 0
First P [] = Unit
First P (e ∷ es) = P e

-- each entry but the first stands to the one before it as R says
abbrev pub Steps : (Entry → Entry → Type 0) → List Entry → Type 0
Steps R [] = Unit
Steps R (e ∷ es) = First (R e) es × Steps R es
