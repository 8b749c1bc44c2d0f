-- The code's marker, and what a step has to come to: a step of the automaton of `record`.
use Rattle.std.specs.Prelude.{ℕ, suc, ◌+◌, ◌≤◌, ◌<◌, ◌^◌, ◌≡◌, Bool, true, false, cond, not, ◌&&◌, List, [], ◌∷◌, ◌++◌, eqb, ltb, leb, take, get_or}
use Rattle.std.specs.Prelude.{Option, Some, None, Result, Ok, Err, IfSome}
use Rattle.packed.specs.Packed.{packed, unpacked}
use Rattle.deck.specs.declared.Sent.{Sent}
use Rattle.deck.specs.Line.{Deck, Answer, is_open, silently, looked, acted}
use Rattle.deck.specs.Calls.{view, new_deck, Returned, Made}
use Rattle.deck.specs.Joins.{filling}
use Rattle.record.specs.declared.Entry.{Entry}
use Rattle.record.specs.Entries.{handed, keep, is_controller, is_deck}
use Rattle.record.specs.Machine.{Waiting, waiting, some, await, took, first_true, State, Outcome, goes, stops, step}
use Rattle.marker.specs.declared.Waits.{Waits}
use Rattle.marker.specs.declared.Marker.{Marker}
use Rattle.marker.specs.declared.Stepped.{Stepped as Taken}
use Rattle.marker.specs.declared.faults.Fault.{Fault}
use Rattle.marker.specs.declared.light.Weighed.{Weighed}
use Rattle.marker.specs.declared.light.Weighed.TheVariants.{Light, Fills, Heavy}
use Rattle.marker.specs.Faults.{fault_number}

-- ---- the code's marker

abbrev pub awaited : Waits → Waiting
awaited w = waiting (take w.left (unpacked w.reply)) w.latest

-- as a state of the automaton, which counts the entries taken and keeps the starts
abbrev pub state : ℕ → List ℕ → Marker → State
state taken starts m =
    record { deck = view m.deck; waits = awaited m.waits; taken = taken; time = m.deck.clock; starts = starts }

-- before the first entry
abbrev pub new_marker : Marker
new_marker = record { deck = new_deck; waits = record { reply = packed []; left = 0; latest = 0 } }

-- ---- the parts of a step

-- the next byte of what is to come, if there is one
abbrev pub front : List ℕ → Option ℕ
front [] = None
front (b ∷ left) = Some b

-- what is awaited after the reply that stands at the front of the output, if there is one
abbrev pub heard : Option Sent → List ℕ → Waiting → Waiting
heard None out w = w
heard (Some sent) out w = waiting (take sent.len out) (sent.due + 9000)

-- a call that the deck takes, and its reply, if there is one, is due in range
pub record Prompt (r : Returned) : Type 0 where
  pub taken : r.no ≡ 0
  pub due : IfSome r.first (λ s. s.due < 2 ^ 48)

-- the deck has been told the time t, and finds no time-out at it
pub record Timed (m : Marker) (t : ℕ) : Type 0 where
  pub clock : m.deck.clock ≡ t
  pub range : t < 2 ^ 48
  pub silent : looked (view m.deck) t ≡ silently (view m.deck)

-- after the deck's answer at t
pub record Acts (m : Marker) (t : ℕ) (a : Answer) (r : Marker) : Type 0 where
  pub deck : view r.deck ≡ a.deck
  pub waits : awaited r.waits ≡ await a.replies (awaited m.waits)
  pub clock : r.deck.clock ≡ t
  pub made : Made m.deck → Made r.deck

-- after the entry e, where the deck has been told its time
pub record Does (m : Marker) (e : Entry) (r : Marker) : Type 0 where
  pub deck : view r.deck ≡ (acted (view m.deck) (handed e)).deck
  pub waits : awaited r.waits ≡ await (acted (view m.deck) (handed e)).replies (took e.kind e.time (awaited m.waits))
  pub clock : r.deck.clock ≡ e.time
  pub made : Made m.deck → Made r.deck

-- the tests of the automaton from the third on, where the deck has been told the entry's time
unfoldable pub late_fault : Deck → Waiting → Entry → ℕ
late_fault d w e =
    first_true (
    (24, some w.left && ltb w.latest e.time)
    ∷ (22, is_deck e.kind && not (some w.left))
    ∷ (23, is_deck e.kind && not (eqb e.content (get_or w.left 0 0)))
    ∷ (25, is_controller e.kind && (some w.left && leb d.free e.time))
    ∷ [])

-- ---- a step

-- an entry's fault, 0 if it has none; whether it begins a turn; and the marker after it, the same where there is a fault
pub record Stepped : Type 0 where
  pub fault : ℕ
  pub begins : Bool
  pub marker : Marker

-- one that is taken has no fault
abbrev pub stepped : Taken → Stepped
stepped s = record { fault = 0; begins = s.begins; marker = s.marker }

abbrev pub stepped_by : Marker → Result Taken Fault → Stepped
stepped_by m (Ok s) = stepped s
stepped_by m (Err f) = record { fault = fault_number f; begins = false; marker = m }

abbrev pub outcome : ℕ → List ℕ → Stepped → Outcome
outcome taken starts r =
    cond (eqb r.fault 0)
    (goes (state (suc taken) (starts ++ keep r.begins taken []) r.marker))
    (stops r.fault)

-- the automaton's, however many entries were taken and whatever starts were found; with a fault nothing begins and the marker
-- is the same; and a deck that events made stays one. Left free is what `reply` holds behind the bytes still to come.
pub record Steps (m : Marker) (e : Entry) (r : Stepped) : Type 0 where
  pub steps : (taken : ℕ) (starts : List ℕ) → outcome taken starts r ≡ step (state taken starts m) e
  pub same : (r.fault ≡ 0 → ⊥) → (r.begins ≡ false) × (r.marker ≡ m)
  pub made : Made m.deck → Made r.marker.deck

-- ---- a light entry

-- the entry's content is the next byte of the awaited reply, in time, and no block is open
pub record Expected (m : Marker) (e : Entry) : Type 0 where
  pub range : e.time < 2 ^ 48
  pub order : m.deck.clock ≤ e.time
  pub shut : is_open (view m.deck).block ≡ false
  pub awaits : some (awaited m.waits).left ≡ true
  pub soon : e.time ≤ m.waits.latest
  pub next : e.content ≡ get_or (awaited m.waits).left 0 0
  pub small : e.content < 256

-- ---- an entry that fills the block

-- a clean controller byte that fills it, where no reply is awaited
unfoldable pub fills_block : Marker → Entry → Bool
fills_block m e =
    is_controller e.kind && (eqb e.flags 0 && (ltb e.content 256
    && (not (some (awaited m.waits).left) && filling 18 m.deck e.time e.content)))

-- what is said of an entry that is weighed: a light one is taken and does not fill the block; of another, whether it fills it
abbrev pub Weighs : Marker → Entry → Weighed → Type 0
Weighs m e (Light s) = Steps m e (stepped s) × (fills_block m e ≡ false)
Weighs m e Fills = fills_block m e ≡ true
Weighs m e Heavy = fills_block m e ≡ false
