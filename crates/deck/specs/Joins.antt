-- Bytes by what they do: a clean one that goes into the open block and does nothing else, one that fills it, a flagged one.
use Rattle.std.specs.Prelude.{Bool, true, false, cond, not, ◌&&◌, List, [], ◌∷◌, ◌++◌, ◌≡◌, ℕ, ◌+◌, eqb, leb, ltb, length}
use Rattle.std.specs.Prelude.{Result, Ok, Err}
use Rattle.refusal.specs.declared.Refusal.{Refusal}
use Rattle.refusal.specs.Numbers.{number_of}
use Rattle.packed.specs.Tail.{recent, kept}
use Rattle.deck.specs.declared.Deck.{Deck as Held}
use Rattle.deck.specs.declared.Joined.{Joined}
use Rattle.deck.specs.declared.Joined.TheVariants.{Grown, Fills, Other}
use Rattle.deck.specs.Line.{Event, Deck, timed_out, in_quiet, size}
use Rattle.deck.specs.Calls.{refusal, number, told, view, Returned, Answers}

-- a clean byte finds no time-out, is not in quiet and does not fill the block
unfoldable pub grows : Deck → ℕ → ℕ → Bool
grows d t b =
    not (timed_out d t) && (not (in_quiet d t) && ltb (length d.block + 1) (size (d.block ++ b ∷ [])))

-- .. or does fill it
unfoldable pub fills : Deck → ℕ → ℕ → Bool
fills d t b =
    not (timed_out d t) && (not (in_quiet d t) && leb (size (d.block ++ b ∷ [])) (length d.block + 1))

-- and the call that brings it, with room for a reply, is taken
unfoldable pub joins : Held → ℕ → ℕ → Bool
joins d t b = eqb (refusal 18 d.clock t 0 0) 0 && grows (view d) t b

-- the same of a byte that fills the block, with so much room
unfoldable pub filling : ℕ → Held → ℕ → ℕ → Bool
filling room d t b = eqb (refusal room d.clock t 0 0) 0 && fills (view d) t b

-- and of a flagged one
unfoldable pub striking : ℕ → Held → ℕ → ℕ → Bool
striking room d t flags =
    eqb (refusal room d.clock t flags 0) 0 && (not (eqb flags 0) && (not (timed_out (view d) t) && not (in_quiet (view d) t)))

-- the byte behind those that the deck holds, at this time
abbrev pub grown : Held → ℕ → ℕ → Held
grown d t b =
    record {
      clock = d.clock;
      last = t;
      free = d.free;
      held = d.held + 1;
      first = cond (eqb d.held 0) b d.first;
      tail = cond (eqb d.held 0) (kept []) (kept (b ∷ recent d.tail));
      settings = d.settings;
    }

abbrev pub with_clock : ℕ → Held → Held
with_clock t d =
    record {
      clock = t;
      last = d.last;
      free = d.free;
      held = d.held;
      first = d.first;
      tail = d.tail;
      settings = d.settings;
    }

-- what `join` did: the number of the call, whether the byte was taken, whether it is one for `fill`, and the deck
pub record Tried : Type 0 where
  pub no : ℕ
  pub taken : Bool
  pub fills : Bool
  pub deck : Held

-- 0 where the call is taken; a deck that takes nothing is the caller's own
abbrev pub tried : Held → Result Joined Refusal → Tried
tried d (Ok (Grown e)) = record { no = 0; taken = true; fills = false; deck = e }
tried d (Ok Fills) = record { no = 0; taken = false; fills = true; deck = d }
tried d (Ok Other) = record { no = 0; taken = false; fills = false; deck = d }
tried d (Err e) = record { no = number_of e; taken = false; fills = false; deck = d }

-- the contract of `join`: the number of the call, whether the byte is taken, and whether it fills the block; a deck that takes
-- nothing is as it was
unfoldable pub joining : Held → ℕ → ℕ → Tried
joining d t b =
    record {
      no = refusal 18 d.clock t 0 0;
      taken = joins d t b;
      fills = filling 18 d t b;
      deck = cond (joins d t b) (grown (with_clock t d) t b) d;
    }

-- a call that changes nothing, with this number
abbrev pub unanswered : ℕ → Held → Returned
unanswered n d = record { no = n; deck = d; first = told []; second = told [] }

-- the contract of `fill` and `strike`: where it is so, all that the event does; else its number, and nothing changes
pub record OnlyIf (so : Bool) (d : Held) (e : Event) (entry : List ℕ) (r : Returned) (exit : List ℕ) : Type 0 where
  pub does : so ≡ true → Answers d e entry r exit
  pub rests : so ≡ false → (r ≡ unanswered (number (length entry) d.clock e) d) × (exit ≡ entry)
