-- Demand 3: what is said of a record, in the terms of the turn rules.
use Rattle.std.specs.Prelude.{ℕ, ◌+◌, ◌≤◌, ◌<◌, ◌≡◌, ◌⊎◌, ◌↔◌, List, [], ◌∷◌, ◌++◌, ltb, length, take, drop}
use Rattle.deck.specs.Line.{Reply}
use Rattle.record.specs.declared.Entry.{Entry}
use Rattle.record.specs.Entries.{WellFormed, entry, said, from_deck, contents, last_time, keep}
use Rattle.record.specs.Turns.{InQuiet, Begun, Cut, starts, deck_after, Sound}

-- some sound record, however long, begins with these entries
pub record Extends (es : List Entry) : Type 0 where
  pub more : List Entry
  pub sound : Sound (es ++ more)

-- ---- faults

-- a look at a time, as an entry
abbrev pub look_at : ℕ → Entry
look_at t = entry 1 0 0 t

-- "A reply is awaited from the end of the turn's opening controller entries, for a time-out from its due time, until its last
-- byte has come": after the entries, at time t, `next` and then `to_come` are still to come. The look at t stands for what
-- comes next, so that a silence is there as soon as it is long enough.
pub record Awaited (es : List Entry) (t : ℕ) : Type 0 where
  pub head : List Entry
  pub tail : List Entry
  pub before : Cut es (head ++ tail)
  pub reply : Reply
  pub begun : Begun head tail (look_at t ∷ []) reply
  pub one : said (deck_after before) ((head ++ tail) ++ look_at t ∷ []) ≡ reply ∷ []
  pub next : ℕ
  pub to_come : List ℕ
  pub left : contents (from_deck tail) ++ next ∷ to_come ≡ reply.bytes

-- the latest time of the next byte of a reply, after those that have come; t for the first
abbrev pub latest : ℕ → List Entry → ℕ
latest t [] = t
latest t (e ∷ es) = latest (e.time + 10000) es

-- "A deck byte is overdue at a time past the latest that these rules allow it."
abbrev pub Overdue : {es : List Entry} {t : ℕ} → Awaited es t → Type 0
Overdue {es} {t} a = latest (a.reply.due + 9000) (from_deck a.tail) < t

-- "At the place of a fault, the first that applies": the number and when it applies, at the entry e after es
abbrev pub faults : List Entry → Entry → List (ℕ × Type 0)
faults es e =
    -- "20 entry malformed"
    (20, (WellFormed e → ⊥))
    -- "21 time falls"
    ∷ (21, (e.time < last_time 0 es))
    -- "24 an awaited deck byte is overdue at this entry's time"
    ∷ (24, (a : Awaited es e.time) × Overdue a)
    -- "22 deck byte with no reply awaited"
    ∷ (22, (e.kind ≡ 1) × (Awaited es e.time → ⊥))
    -- "23 deck byte differs from the reply"
    ∷ (23, (a : Awaited es e.time) × (e.kind ≡ 1) × (e.content ≡ a.next → ⊥))
    -- "25 controller entry while a reply is awaited and not in quiet"
    ∷ (25, (a : Awaited es e.time) × (e.kind ≡ 0) × (InQuiet a.reply e.time → ⊥))
    ∷ []

-- the first pair whose condition holds gives the number
abbrev pub FirstOf : List (ℕ × Type 0) → ℕ → Type 0
FirstOf [] n = ⊥
FirstOf (c ∷ cs) n = (c.1 × (n ≡ c.0)) ⊎ ((c.1 → ⊥) × FirstOf cs n)

-- a fault at an entry; "26: record stops inside a turn, place = number of entries."
abbrev pub FaultAt : List Entry → List Entry → ℕ → Type 0
FaultAt es [] n = n ≡ 26
FaultAt es (e ∷ after) n = FirstOf (faults es e) n

-- ---- the claim

-- those below p
unfoldable pub below : ℕ → List ℕ → List ℕ
below p [] = []
below p (s ∷ ss) = keep (ltb s p) s (below p ss)

-- fault 0 says sound; `before` are the entries before the place, `from` the others
pub record Marked (before from : List Entry) (fault : ℕ) (turn_starts : List ℕ) : Type 0 where
  -- "`sound` exactly when the whole record can be cut into turns by the turn rules of document 01"
  pub sound : (fault ≡ 0) ↔ Sound (before ++ from)
  -- "a sound record's place is its number of entries"
  pub whole : fault ≡ 0 → from ≡ []
  -- otherwise the first place that no sound record can get past (or the end)
  pub extends : Extends before
  pub stops : (e : Entry) (es : List Entry) → from ≡ e ∷ es → Extends (before ++ e ∷ []) → ⊥
  -- its fault number
  pub number : (fault ≡ 0 → ⊥) → FaultAt before from fault
  -- exactly the turn starts begun before it: "A turn is begun before the place if its first entry is among the entries before
  -- the place, in the cutting of any sound record that begins with these"
  pub begun : (more : List Entry) (s : Sound (before ++ more)) → turn_starts ≡ below (length before) (starts s.cutting)

-- what the marker hands out on the record `es`
pub record Demand3 (es : List Entry) (fault place : ℕ) (turn_starts : List ℕ) : Type 0 where
  pub within : place ≤ length es
  pub marked : Marked (take place es) (drop place es) fault turn_starts
  -- never a second cutting
  pub once : (s : Sound es) (c : Cut es []) → starts c ≡ starts s.cutting
