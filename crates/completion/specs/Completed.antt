-- M-113, "Our own deck must get full marks": the record with the deck's replies put in, and the claim.
use Rattle.std.specs.Prelude.{ℕ, ◌≤◌, ◌≡◌, cond, List, [], ◌∷◌, ◌++◌, map, leb, length}
use Rattle.deck.specs.declared.Deck.{Deck as Held}
use Rattle.deck.specs.Line.{Deck, at_power_on, Reply}
use Rattle.deck.specs.Calls.{new_deck}
use Rattle.deck.specs.Runs.{Obtained, Called}
use Rattle.record.specs.declared.Entry.{Entry}
use Rattle.record.specs.Entries.{entry, WellFormed, handed, after_entry, says_to, run, said, from_deck, All, Steps}
use Rattle.record.specs.Turns.{starts, Sound}
use Rattle.record.specs.Bytes.{record_of}
use Rattle.marker.specs.declared.Marked.{Marked}
use Rattle.marker.specs.Marks.{Marks}

-- ---- the record

-- "any well-formed controller, tape and cassette entries with times that never fall"
pub record Exercise (es : List Entry) : Type 0 where
  pub formed : All WellFormed es
  pub no_deck : from_deck es ≡ []
  pub ordered : Steps (λ a b. a.time ≤ b.time) es

-- a reply on the line, "complete": its bytes, all at its due time
abbrev pub on_line : Reply → List Entry
on_line r = map (λ b. entry 1 0 b r.due) r.bytes

-- a reply is put in "after every entry taken so far that is not later and before all others"
unfoldable pub with_reply : List Entry → Reply → List Entry
with_reply [] r = on_line r
with_reply (e ∷ es) r = cond (leb e.time r.due) (e ∷ with_reply es r) (on_line r ++ e ∷ es)

-- those to one entry, in order
unfoldable pub with_replies : List Entry → List Reply → List Entry
with_replies es [] = es
with_replies es (r ∷ rs) = with_replies (with_reply es r) rs

-- the deck d is handed the entries in order; `taken` is the record so far
unfoldable pub completed_from : (taken : List Entry) → Deck → List Entry → List Entry
completed_from taken d [] = taken
completed_from taken d (e ∷ es) = completed_from (with_replies (taken ++ e ∷ []) (says_to d e)) (after_entry d e) es

-- "take a deck from power-on"
unfoldable pub completed : List Entry → List Entry
completed es = completed_from [] at_power_on es

-- ---- the claim

-- "and let the record stop with no block open"
abbrev pub EndsShut : List Entry → Type 0
EndsShut es = (run at_power_on es).block ≡ []

-- what an exercise gets that stops so
pub record FullMarks (es : List Entry) : Type 0 where
  -- by the turn rules the record is sound, with as many turns as the deck says replies
  pub sound : Sound (completed es)
  pub turns : length (starts sound.cutting) ≡ length (said at_power_on es)
  -- "the number of replies that the deck gave": the code's own deck, no call refused
  pub gave : {gs : List Obtained} {end : Held} → Called new_deck (map handed es) gs end → length gs ≡ length (said at_power_on es)
  -- "If neither the deck nor the marker refuses, then the marker says sound": `mark`, lent a table, which keeps its length
  pub marked : (before after : List ℕ) (r : Marked) → length after ≡ length before → Marks (record_of (completed es)) before r after
      → r.no ≡ 0 → (r.fault ≡ 0) × (r.place ≡ length (completed es)) × (r.count ≡ length (said at_power_on es))

-- the whole claim
abbrev pub OurDeck : Type 0
OurDeck = (es : List Entry) → Exercise es → EndsShut es → FullMarks es
