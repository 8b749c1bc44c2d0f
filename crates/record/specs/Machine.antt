-- The marker as an automaton: what it awaits, its tests, the turn starts, and its verdict on a record. Definitions only; the
-- marker's code is held to them, and the other modules hold them to the turn rules.
use Rattle.std.specs.Prelude.{ℕ, zero, suc, ◌+◌, Bool, true, false, cond, not, ◌&&◌, List, [], ◌∷◌, ◌++◌, eqb, ltb, leb, drop, get_or}
use Rattle.deck.specs.Line.{Deck, Reply, Answer, at_power_on, is_open, looked, acted}
use Rattle.record.specs.declared.Entry.{Entry}
use Rattle.record.specs.Entries.{formed, handed, after_entry, keep, is_controller, is_deck}

-- ---- what is awaited

-- the bytes of a reply that are still to come, none if no reply is awaited, and the latest time of the next
pub record Waiting : Type 0 where
  pub left : List ℕ
  pub latest : ℕ

abbrev pub waiting : List ℕ → ℕ → Waiting
waiting l t = record { left = l; latest = t }

-- whether there are any
abbrev pub some : List ℕ → Bool
some [] = false
some (b ∷ left) = true

-- a reply is awaited from when the deck gives it, its first byte at most 9,000 after the due time; no replies change nothing
abbrev pub await : List Reply → Waiting → Waiting
await [] w = w
await (r ∷ rs) w = waiting r.bytes (r.due + 9000)

-- an entry of a kind at t: a deck byte is taken off, and the next may come 10,000 later
abbrev pub took : (kind t : ℕ) → Waiting → Waiting
took zero t w = w
took (suc zero) t w = waiting (drop 1 w.left) (t + 10000)
took (suc (suc k)) t w = w

-- what is awaited at t, before the entry at that time: the deck may find a time-out
unfoldable pub peek : Deck → Waiting → ℕ → Waiting
peek d w t = await (looked d t).replies w

-- what is awaited after the entry e; L and E are the deck's answers to its time and then to the entry itself
abbrev pub awaited_after : Waiting → Entry → (L E : Answer) → Waiting
awaited_after w e L E = await E.replies (took e.kind e.time (await L.replies w))

unfoldable pub advance : Deck → Waiting → Entry → Waiting
advance d w e = awaited_after w e (looked d e.time) (acted (looked d e.time).deck (handed e))

-- ---- turn starts

-- a controller entry that the deck hears while no block is open begins a turn; L is the deck's answer to its time
abbrev pub begins_at : Answer → Entry → Bool
begins_at L e = is_controller e.kind && (not (is_open L.deck.block) && leb L.deck.free e.time)

unfoldable pub begins : Deck → Entry → Bool
begins d e = begins_at (looked d e.time) e

-- ---- faults

-- of a list of tests the number of the first that is true, or 0
abbrev pub first_true : List (ℕ × Bool) → ℕ
first_true [] = 0
first_true (c ∷ cs) = cond c.1 c.0 (first_true cs)

-- document 01's order; t is the time of the entry before
unfoldable pub tests : ℕ → Deck → Waiting → Entry → List (ℕ × Bool)
tests t d w e =
    -- malformed
    (20, not (formed e))
    -- its time falls
    ∷ (21, ltb e.time t)
    -- an awaited deck byte is overdue
    ∷ (24, some (peek d w e.time).left && ltb (peek d w e.time).latest e.time)
    -- a deck byte, and none is awaited
    ∷ (22, is_deck e.kind && not (some (peek d w e.time).left))
    -- a deck byte, and another is awaited
    ∷ (23, is_deck e.kind && not (eqb e.content (get_or (peek d w e.time).left 0 0)))
    -- a controller entry outside quiet, and a reply is awaited
    ∷ (25, is_controller e.kind && (some (peek d w e.time).left && leb (looked d e.time).deck.free e.time))
    ∷ []

-- the entry's fault, 0 if it has none
unfoldable pub fault_of : ℕ → Deck → Waiting → Entry → ℕ
fault_of t d w e = first_true (tests t d w e)

-- no block open and nothing awaited: the record may end here
unfoldable pub resting : Deck → Waiting → Bool
resting d w = not (is_open d.block) && not (some w.left)

-- ---- the steps

-- after entries without a fault: how many were `taken`, the `time` of the last, and the turn `starts` among them
pub record State : Type 0 where
  pub deck : Deck
  pub waits : Waiting
  pub taken : ℕ
  pub time : ℕ
  pub starts : List ℕ

-- before the first entry
abbrev pub begin : State
begin = record { deck = at_power_on; waits = waiting [] 0; taken = 0; time = 0; starts = [] }

-- after an entry without a fault
abbrev pub onward : State → Entry → State
onward s e =
    record {
      deck = after_entry s.deck e;
      waits = advance s.deck s.waits e;
      taken = suc s.taken;
      time = e.time;
      starts = s.starts ++ keep (begins s.deck e) s.taken [];
    }

-- an entry is taken, or stops the automaton with its fault
pub data Outcome : Type 0 where
  goes : State → Outcome
  stops : ℕ → Outcome

-- by its fault
abbrev pub outcome : ℕ → State → Entry → Outcome
outcome zero s e = goes (onward s e)
outcome (suc f) s e = stops (suc f)

unfoldable pub step : State → Entry → Outcome
step s e = outcome (fault_of s.time s.deck s.waits e) s e

-- ---- the verdict

-- the fault, 0 if sound; its place; and the turn starts before it
pub record Verdict : Type 0 where
  pub fault : ℕ
  pub place : ℕ
  pub starts : List ℕ

abbrev pub verdict : ℕ → State → Verdict
verdict f s = record { fault = f; place = s.taken; starts = s.starts }

-- from the state s on, by the outcome at the next entry
abbrev pub follow : Outcome → State → (State → Verdict) → Verdict
follow (goes s') s k = k s'
follow (stops f) s k = verdict f s

-- on the entries that are left
unfoldable pub judge_from : List Entry → State → Verdict
judge_from [] s = verdict (cond (resting s.deck s.waits) 0 26) s
judge_from (e ∷ es) s = follow (step s e) s (judge_from es)

-- on a record
unfoldable pub judge : List Entry → Verdict
judge es = judge_from es begin
