-- The turn rules of document 01, written without the marker. A turn and a cutting are document 01's terms.
use Rattle.std.specs.Prelude.{ℕ, ◌+◌, ◌≤◌, ◌<◌, ◌≡◌, true, ◌⊎◌, List, [], ◌∷◌, ◌++◌, length}
use Rattle.deck.specs.Line.{Deck, at_power_on, Reply, size}
use Rattle.record.specs.declared.Entry.{Entry}
use Rattle.record.specs.Entries.{WellFormed, run, said, controller, from_deck, contents, last_time, All, First, Steps}

-- ---- "A turn starts with controller entries"

abbrev pub Clean : Entry → Type 0
Clean e = e.flags ≡ 0

-- "a proper beginning of one", of a full clean block; perhaps empty
pub record Beginning (es : List Entry) : Type 0 where
  pub clean : All Clean es
  pub proper : length es < size (contents es)

-- "A full clean block has as many bytes as its first byte says, none flagged, whatever they are."
pub record Full (es : List Entry) : Type 0 where
  pub clean : All Clean es
  pub whole : length es ≡ size (contents es)

-- "a proper beginning of one, not empty, with more than 10,000 of controller silence after it": "The silence is there if the
-- next controller entry, if any, is more than 10,000 later." (`later`: the controller entries after these)
pub record Silent (es later : List Entry) : Type 0 where
  pub some : 0 < length es
  pub beginning : Beginning es
  pub silence : First (λ e. last_time 0 es + 10000 < e.time) later

-- "a proper beginning, perhaps empty, and one flagged byte"
pub record Flagged (es : List Entry) : Type 0 where
  pub beginning : List Entry
  pub last : Entry
  pub split : es ≡ beginning ++ last ∷ []
  pub begins : Beginning beginning
  pub flag : last.flags ≡ 0 → ⊥

-- "Gaps inside are at most 10,000."
abbrev pub Near : Entry → Entry → Type 0
Near a b = b.time ≤ a.time + 10000

pub record Opening (es later : List Entry) : Type 0 where
  pub form : Full es ⊎ (Silent es later ⊎ Flagged es)
  pub gaps : Steps Near es

-- ---- "Then come the bytes of the deck's one reply, each once, in order."

-- "The first is not before the due time and at most 9,000 after it; each later one at most 10,000 after the one before."
pub record OnTime (due : ℕ) (es : List Entry) : Type 0 where
  pub first : First (λ e. (due ≤ e.time) × (e.time ≤ due + 9000)) es
  pub later : Steps Near es

-- a time up to the end of the quiet that the reply opens
pub record InQuiet (r : Reply) (t : ℕ) : Type 0 where
  pub opens : r.quiets ≡ true
  pub inside : t ≤ r.due + 10000

-- a turn as far as it has come: its opening stands in `head`, what has come of its reply in `tail`; "Kinds 2 and 3 may stand
-- anywhere" (`later`: the controller entries after these)
pub record Begun (head tail later : List Entry) (r : Reply) : Type 0 where
  pub starts : (e : Entry) × (es : List Entry) × (head ≡ e ∷ es) × (e.kind ≡ 0)
  pub silent : from_deck head ≡ []
  pub opening : Opening (controller head) (controller tail ++ later)
  pub on_time : OnTime r.due (from_deck tail)
  -- "every controller entry up to the end of its quiet belongs to the turn. No other controller entry stands there."
  pub others : All (λ e. InQuiet r e.time) (controller tail)

-- a whole turn of the deck d, with the entries `rest` after it
pub record Turn (d : Deck) (span rest : List Entry) : Type 0 where
  pub head : List Entry
  pub tail : List Entry
  pub split : span ≡ head ++ tail
  pub reply : Reply
  pub begun : Begun head tail (controller rest) reply
  pub one : said d span ≡ reply ∷ []
  pub bytes : contents (from_deck tail) ≡ reply.bytes
  -- "The next turn begins with the first controller entry after" the quiet
  pub next : First (λ e. InQuiet reply e.time → ⊥) (controller rest)

-- ---- cuttings

abbrev pub concat : List (List Entry) → List Entry
concat [] = []
concat (s ∷ ss) = s ++ concat ss

-- turns one after the other from the deck d on, with `rest` after the last
abbrev pub Turns : Deck → List (List Entry) → List Entry → Type 0
Turns d [] rest = Unit
Turns d (s ∷ ss) rest = Turn d s (concat ss ++ rest) × Turns (run d s) ss rest

-- `es` is positions and cassettes, whole turns, and `rest`; "The deck in these rules is the one that the sections above
-- describe, at power-on."
pub record Cut (es rest : List Entry) : Type 0 where
  pub lead : List Entry
  pub spans : List (List Entry)
  pub split : es ≡ lead ++ (concat spans ++ rest)
  pub tape : All (λ e. 2 ≤ e.kind) lead
  pub turns : Turns (run at_power_on lead) spans rest

-- the places of the turns' first entries, the first turn at i
unfoldable pub starts_from : ℕ → List (List Entry) → List ℕ
starts_from i [] = []
starts_from i (s ∷ ss) = i ∷ starts_from (i + length s) ss

-- "A cutting is its list of turn starts."
abbrev pub starts : {es rest : List Entry} → Cut es rest → List ℕ
starts c = starts_from (length c.lead) c.spans

-- the deck after the whole turns
abbrev pub deck_after : {es rest : List Entry} → Cut es rest → Deck
deck_after c = run (run at_power_on c.lead) (concat c.spans)

-- "A record is sound if its entries are well formed, its times never fall, and it has a cutting in which each entry of kind 0
-- or 1 lies in exactly one turn."
pub record Sound (es : List Entry) : Type 0 where
  pub formed : All WellFormed es
  pub ordered : Steps (λ a b. a.time ≤ b.time) es
  pub cutting : Cut es []
