-- M-113, "Our own deck must get full marks".
use Prim.Native.Nat.{ℕ}
use mathlib.Core.Path.{◌≡◌, refl, sym, ap, ◌∙◌}
use mathlib.Core.Bool.{true}
use mathlib.Core.List.{List, [], ◌∷◌, ◌++◌, map}
use lib.ListN.{length, take}
use Rattle.std.proofs.lemmas.Bool.{and_parts}
use Rattle.deck.specs.declared.Deck.{Deck as Held}
use Rattle.deck.specs.Line.{Deck, at_power_on, Reply, said as events_said}
use Rattle.deck.specs.Calls.{new_deck}
use Rattle.deck.specs.Runs.{Obtained, known, Called}
use Rattle.deck.proofs.Runs.{called-said}
use Rattle.record.specs.declared.Entry.{Entry}
use Rattle.record.specs.Entries.{handed, after_entry, says_to, run, said, last_time}
use Rattle.record.specs.Turns.{Sound}
use Rattle.record.specs.Bytes.{entries_of, record_of, is_record}
use Rattle.record.proofs.Records.{record-back}
use Rattle.record.proofs.Fitting.{all-in-bytes}
use Rattle.record.proofs.Sounds.{accepted-sound}
use Rattle.record.proofs.Counts.{sound-count, sound-answer}
use Rattle.marker.specs.declared.Marked.{Marked}
use Rattle.marker.specs.Marks.{Marks}
use Rattle.marker.proofs.Unique.{starts_fit}
use Rattle.completion.specs.Completed.{Exercise, completed, EndsShut, FullMarks, OurDeck}
use Rattle.completion.specs.Calls.{is_exercise}
use Rattle.completion.proofs.Exercises.{exercise-exactly}
use Rattle.completion.proofs.Looks.{knows-power-on}
use Rattle.completion.proofs.Through.{Through, through-none, through-all}

-- ---- the code's deck

-- what the deck says to entries is what it says to the events that it is handed
said-handed : (es : List Entry) (d : Deck) → said d es ≡ events_said d (map handed es)
unfolding said events_said says_to after_entry
said-handed [] d = refl
said-handed (e ∷ es) d = ap (λ (l : List Reply). says_to d e ++ l) (said-handed es (after_entry d e))

length-known : (rs : List Reply) → length (known rs) ≡ length rs
length-known [] = refl
length-known (r ∷ rs) = rw (length-known rs)

called-count : (es : List Entry) {gs : List Obtained} {end : Held} → Called new_deck (map handed es) gs end
    → length gs ≡ length (said at_power_on es)
called-count es c = ap length (called-said c) ∙ rw (said-handed es at_power_on) (length-known (events_said at_power_on (map handed es)))

-- ---- the completed record

module _ (es : List Entry) (g : Exercise es) where
  through : Through (completed es) (last_time 0 es) (run at_power_on es) [] (said at_power_on es)
  unfolding completed
  through = through-all es [] 0 at_power_on [] ((exercise-exactly es).1 g) tt knows-power-on through-none

  -- the replies that are put in change neither what the deck says nor the deck
  pub same-said : said at_power_on (completed es) ≡ said at_power_on es
  same-said = through.says

  pub same-deck : run at_power_on (completed es) ≡ run at_power_on es
  same-deck = through.deck

  -- its bytes are a record of these entries
  reads-back : (s : Sound (completed es)) → entries_of (record_of (completed es)) ≡ completed es
  reads-back s = record-back (completed es) (all-in-bytes (completed es) s.formed)

  gets-marks : EndsShut es → FullMarks es
  gets-marks shut =
      record { sound = sound; turns = sound-count (completed es) sound ∙ ap length same-said; gave = called-count es; marked = marked }
    where
      sound : Sound (completed es)
      sound = accepted-sound (completed es) through.passes (record { shut = rw same-deck shut; left = through.left })

      marked : (before after : List ℕ) (r : Marked) → length after ≡ length before → Marks (record_of (completed es)) before r after
          → r.no ≡ 0 → (r.fault ≡ 0) × (r.place ≡ length (completed es)) × (r.count ≡ length (said at_power_on es))
      marked before after r l m z =
          let demand = rw (reads-back sound) at (m.demand z) in
          let (fault, place, count) = sound-answer (completed es) r.fault r.place (take r.count after) sound demand in
          (fault, place, sym (starts_fit l m z) ∙ count ∙ ap length same-said)

pub full-marks : OurDeck
full-marks = gets-marks

-- so for what `complete` writes
pub completion-marked : (bytes : List ℕ) → is_exercise bytes ≡ true → EndsShut (entries_of bytes) → FullMarks (entries_of bytes)
unfolding is_exercise
completion-marked bytes p =
    full-marks (entries_of bytes) ((exercise-exactly (entries_of bytes)).0 (and_parts (is_record (length bytes)) _ p).1)
