-- Runs of the code's calls: they are runs of the deck of the definitions, so the laws of lists of events hold for the code's own
-- decks and replies, those of quiet and of looks in every field.
use Prim.Native.Nat.{ℕ, ◌≤◌}
use mathlib.Core.Bool.{Bool, true, false}
use mathlib.Core.List.{List, [], ◌∷◌, ◌++◌, append-nil}
use mathlib.Core.Path.{◌≡◌, refl, sym, ap, ap₂, ◌∙◌, subst}
use borrow.Author.Tests.{eqb-true, eq-eqb}
use lib.Dec.{eqb}
use lib.ListN.{length, drop}
use lib.Seq.{take-append_seam}
use Rattle.deck.specs.declared.Deck.{Deck as Held}
use Rattle.deck.specs.Line.{Event, look, time_of, Deck, Reply, after, says, answers, run, said}
use Rattle.deck.specs.Events.{Gives, Alike, ended, same, dropped, unheard, Ordered, without_looks, Few}
use Rattle.deck.specs.Events.{none as no-reply, one as one-reply, late as late-reply, two as two-replies}
use Rattle.deck.specs.Calls.{Call, Returned, number, view, Made, seen, taken_call, reply_bytes, told, len_of, Answers}
use Rattle.deck.specs.Runs.{Obtained, known, obtained_at, obtained, Called, none, more}
use Rattle.deck.proofs.Joining.{allowed}
use Rattle.deck.proofs.Looks.{looks-alike}
use Rattle.deck.proofs.Made.{made-equal}
use Rattle.deck.proofs.Numbers.{call-is}
use Rattle.deck.proofs.Quiet.{quiet-alike}
use Rattle.deck.proofs.Replies.{few-replies}

-- ---- replies

known-append : (rs qs : List Reply) → known (rs ++ qs) ≡ known rs ++ known qs
known-append [] qs = refl
known-append (r ∷ rs) qs = ap (λ (l : List Obtained). record { bytes = r.bytes; due = r.due } ∷ l) (known-append rs qs)

-- a reply that has bytes is found at the front of the output
found : (r : Reply) (rest : List ℕ) → 3 ≤ length r.bytes
    → obtained_at (told (r ∷ [])) (r.bytes ++ rest) ≡ known (r ∷ [])
found r rest h = rw (take-append_seam r.bytes rest)

-- all of them, from what the call returns and the output
handed_out : (d : Deck) (e : Event) (rs : List Reply) (rest : List ℕ) → Few d e rs
    → obtained_at (told rs) (reply_bytes rs ++ rest) ++ obtained_at (told (drop 1 rs)) (drop (len_of (told rs)) (reply_bytes rs ++ rest))
    ≡ known rs
handed_out d e rs rest no-reply = refl
handed_out d e rs rest (one-reply r p h k) = rw (append-nil r.bytes) (ap (λ (l : List Obtained). l ++ []) (found r rest h))
handed_out d e rs rest (late-reply h) = refl
handed_out d e rs rest (two-replies h f) = refl

-- ---- a call that is taken

module _ {d : Held} {e : Event} {entry exit : List ℕ} {r : Returned} (a : Answers d e entry r exit) (z : r.no ≡ 0) where
  zero_is : number (length entry) d.clock e ≡ 0
  zero_is = go (eqb (number (length entry) d.clock e) 0) refl
    where
      go : (b : Bool) → eqb (number (length entry) d.clock e) 0 ≡ b → number (length entry) d.clock e ≡ 0
      go true p = eqb-true _ _ p
      go false p = sym (ap (λ (k : Call). k.no) (a.seen-is ∙ call-is d.clock (view d) e entry false p)) ∙ z

  taken_is : seen r exit ≡ taken_call (time_of e) (answers (view d) e) entry
  taken_is = a.seen-is ∙ call-is d.clock (view d) e entry true (eq-eqb _ _ zero_is)

  -- what it hands out is what the deck says
  obtains : obtained r exit ≡ known (says (view d) e)
  obtains =
      ap (λ (k : Call). obtained_at k.first k.out ++ obtained_at k.second (drop (len_of k.first) k.out)) taken_is
      ∙ handed_out (view d) e (says (view d) e) _ (few-replies (view d) e)

-- ---- runs

-- what is obtained is what the deck of the definitions says, and the deck is the one after the events
pub called-said : {d end : Held} {es : List Event} {gs : List Obtained} → Called d es gs end → gs ≡ known (said (view d) es)
unfolding said
called-said none = refl
called-said (more {d} {e = e} {es = es} entry exit r a z c) =
    let t : view r.deck ≡ after (view d) e = ap (λ (k : Call). k.deck) (taken_is a z) in
    ap₂ (λ (x y : List Obtained). x ++ y) (obtains a z) (called-said c ∙ ap (λ (m : Deck). known (said m es)) t)
    ∙ sym (known-append (says (view d) e) (said (after (view d) e) es))

pub called-run : {d end : Held} {es : List Event} {gs : List Obtained} → Called d es gs end → view end ≡ run (view d) es
unfolding run
called-run none = refl
called-run (more {es = es} entry exit r a z c) = called-run c ∙ ap (λ (m : Deck). run m es) (ap (λ (k : Call). k.deck) (taken_is a z))

-- so each law that says what events give says what calls give: the replies, with their due times, and the deck
pub called-gives : {d end : Held} {es : List Event} {gs : List Obtained} {replies : List Reply} {last : Deck} → Called d es gs end
    → Gives (view d) es replies last → (gs ≡ known replies) × (view end ≡ last)
called-gives c g = (called-said c ∙ ap known g.0, called-run c ∙ g.1)

-- a deck that events made, after calls, is one
pub called-made : {d end : Held} {es : List Event} {gs : List Obtained} → Called d es gs end → Made d → Made end
called-made none m = m
called-made (more entry exit r a z c) m = called-made c (a.made m)

-- its clock is the time of the last of them
abbrev last_time : ℕ → List Event → ℕ
last_time t [] = t
last_time t (e ∷ es) = last_time (time_of e) es

called-clock : {d end : Held} {es : List Event} {gs : List Obtained} → Called d es gs end → end.clock ≡ last_time d.clock es
called-clock none = refl
called-clock (more {es = es} entry exit r a z c) =
    called-clock c ∙ ap (λ (t : ℕ). last_time t es) (ap (λ (k : Call). k.clock) (taken_is a z))

-- their times never fall
called-ordered : {d end : Held} {es : List Event} {gs : List Obtained} → Called d es gs end → Ordered d.clock es
called-ordered none = tt
called-ordered (more {d} {e = e} {es = es} entry exit r a z c) = (
  (allowed (length entry) d.clock _ _ _ (zero_is a z)).1,
  subst (λ (t : ℕ). Ordered t es) (ap (λ (k : Call). k.clock) (taken_is a z)) (called-ordered c),
)

-- ---- two runs

-- that say the same and come to the same deck of the definitions at the same time
agree : {d x y : Held} {es fs : List Event} {gs hs : List Obtained} → Made d → Called d es gs x → Called d fs hs y
    → (said (view d) es ≡ said (view d) fs) × (run (view d) es ≡ run (view d) fs) → last_time d.clock es ≡ last_time d.clock fs
    → (gs ≡ hs) × (x ≡ y)
agree {x = x} {y = y} m c k p t = (
  called-said c ∙ ap known p.0 ∙ sym (called-said k),
  made-equal x y (called-made c m) (called-made k m) (called-clock c ∙ t ∙ sym (called-clock k))
      (called-run c ∙ p.1 ∙ sym (called-run k)),
)

alike-times : {d : Deck} {es fs : List Event} (t : ℕ) → Alike d es fs → last_time t es ≡ last_time t fs
alike-times t ended = refl
alike-times t (same {e = e} x) = alike-times (time_of e) x
alike-times t (dropped {t = u} q x) = alike-times u x
alike-times t (unheard {t = u} q x) = alike-times u x

-- "Two runs that differ only in the content of bytes that fall in quiet give equal replies and equal decks." So do two that differ
-- in looks that stand in the place of such bytes.
pub quiet-equal : {d x y : Held} {es fs : List Event} {gs hs : List Obtained} → Made d → Called d es gs x → Called d fs hs y
    → Alike (view d) es fs → (gs ≡ hs) × (x ≡ y)
quiet-equal {d} m c k a = agree m c k (quiet-alike a) (alike-times d.clock a)

closed-time : (t u : ℕ) (es : List Event) → last_time t (es ++ look u ∷ []) ≡ u
closed-time t u [] = refl
closed-time t u (e ∷ es) = closed-time (time_of e) u es

-- "with times that never fall, no call refused, the same other events and a look at one same time at the end, replies, due
-- times and deck are equal however many looks stand between": that times do not fall is in the calls, since none is refused
pub looks-equal : {d x y : Held} (u : ℕ) (es fs : List Event) {gs hs : List Obtained} → Made d
    → Called d (es ++ look u ∷ []) gs x → Called d (fs ++ look u ∷ []) hs y → without_looks es ≡ without_looks fs
    → (gs ≡ hs) × (x ≡ y)
looks-equal {d} u es fs m c k w =
    agree m c k (looks-alike u (view d) d.clock d.clock es fs w (called-ordered c) (called-ordered k))
    (closed-time d.clock u es ∙ sym (closed-time d.clock u fs))
