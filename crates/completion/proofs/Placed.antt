-- Where the replies stand in a completed record: behind all that was taken before, beside the entry that they answer.
use Prim.Native.Nat.{ℕ, ◌≤◌, ◌<◌}
use mathlib.Core.Path.{◌≡◌, refl, ap}
use mathlib.Core.Bool.{Bool, true, false, cond}
use mathlib.Core.List.{List, [], ◌∷◌, ◌++◌, append-nil, map}
use native.Mathlib.Omega.{arith}
use borrow.Author.Tests.{le-leb, lt-leb}
use lib.Dec.{leb}
use Rattle.deck.specs.Line.{Event, time_of, Deck, Reply}
use Rattle.deck.specs.Events.{Few, none, one, late, two}
use Rattle.deck.proofs.Late.{overdue}
use Rattle.deck.proofs.Replies.{few-replies}
use Rattle.record.specs.declared.Entry.{Entry}
use Rattle.record.specs.Entries.{entry, handed, after_entry, says_to, All}
use Rattle.record.proofs.Handed.{handed-time}
use Rattle.completion.specs.Completed.{on_line, with_reply, with_replies, completed_from}
use Rattle.completion.proofs.Looks.{Knows, knows-due}

-- ---- times

-- none later than t
abbrev pub By : ℕ → List Entry → Type 0
By t es = All (λ e. e.time ≤ t) es

by_append : (t : ℕ) (a b : List Entry) → By t a → By t b → By t (a ++ b)
by_append t [] b h k = k
by_append t (e ∷ a) b h k = (h.0, by_append t a b h.1 k)

by-later : (t u : ℕ) (a : List Entry) → t ≤ u → By t a → By u a
by-later t u [] h k = tt
by-later t u (e ∷ a) h k = (omega arith, by-later t u a h k.1)

-- every reply is due from t to u
abbrev pub Dues : ℕ → ℕ → List Reply → Type 0
Dues t u [] = Unit
Dues t u (r ∷ rs) = (t ≤ r.due) × (r.due ≤ u) × Dues t u rs

-- those to an entry: not before the time that the deck was told last, not after the entry
pub says-due : (d : Deck) (t : ℕ) (e : Entry) → Knows d t → t ≤ e.time → Dues t e.time (says_to d e)
unfolding says_to
says-due d t e p h = go (handed-time e.kind e) (few-replies d (handed e))
  where
    go : {v : Event} {rs : List Reply} → time_of v ≡ e.time → Few d v rs → Dues t e.time rs
    go q none = tt
    go q (one r u m n) = (omega arith, omega arith, tt)
    go {v} q (late x) = (omega (arith, knows-due d t (time_of v) p x), omega (arith, overdue d (time_of v) x), tt)
    go {v} q (two x f) =
        (omega (arith, knows-due d t (time_of v) p x), omega (arith, overdue d (time_of v) x), (omega arith, omega arith, tt))

-- ---- replies put in

-- one, behind entries that are not later and before one that is
with-one : (a b : List Entry) (r : Reply) → By r.due a → with_reply (a ++ b) r ≡ a ++ with_reply b r
unfolding with_reply
with-one [] b r h = refl
with-one (e ∷ a) b r h = rw (le-leb e.time r.due h.0, with-one a b r h.1)

pub with-last : (a : List Entry) (r : Reply) → By r.due a → with_reply a r ≡ a ++ on_line r
unfolding with_reply
with-last a r h = rw append-nil at (with-one a [] r h)

pub with-before : (e : Entry) (r : Reply) → r.due < e.time → with_reply (e ∷ []) r ≡ on_line r ++ e ∷ []
unfolding with_reply
with-before e r h = rw (lt-leb e.time r.due h)

-- all of them, behind entries that are not later
pub with-past : (rs : List Reply) (t u : ℕ) (a b : List Entry) → By t a → Dues t u rs
    → with_replies (a ++ b) rs ≡ a ++ with_replies b rs
unfolding with_replies
with-past [] t u a b h x = refl
with-past (r ∷ rs) t u a b h x =
    rw (with-one a b r (by-later t r.due a x.0 h)) (with-past rs t u a (with_reply b r) h x.2)

-- ---- none is put in later than u

pub by-line : (t u : ℕ) (bytes : List ℕ) → t ≤ u → By u (map (λ b. entry 1 0 b t) bytes)
by-line t u [] h = tt
by-line t u (b ∷ bytes) h = (h, by-line t u bytes h)

by-either : (c : Bool) (u : ℕ) (a b : List Entry) → By u a → By u b → By u (cond c a b)
by-either true u a b h k = h
by-either false u a b h k = k

pub by_one : (u : ℕ) (es : List Entry) (r : Reply) → By u es → r.due ≤ u → By u (with_reply es r)
unfolding with_reply
by_one u [] r h k = by-line r.due u r.bytes k
by_one u (e ∷ es) r h k =
    by-either (leb e.time r.due) u _ _ (h.0, by_one u es r h.1 k)
    (by_append u (on_line r) (e ∷ es) (by-line r.due u r.bytes k) h)

by-with : (rs : List Reply) (t u : ℕ) (es : List Entry) → By u es → Dues t u rs → By u (with_replies es rs)
unfolding with_replies
by-with [] t u es h x = h
by-with (r ∷ rs) t u es h x = by-with rs t u (with_reply es r) (by_one u es r h x.1) x.2

-- ---- one entry more

module _ (taken : List Entry) (d : Deck) (t : ℕ) (e : Entry) (h : By t taken) (k : Knows d t) (o : t ≤ e.time) where
  -- it is put behind what was taken, with the replies to it
  pub completed-next : (es : List Entry)
      → completed_from taken d (e ∷ es) ≡ completed_from (taken ++ with_replies (e ∷ []) (says_to d e)) (after_entry d e) es
  unfolding completed_from
  completed-next es =
      ap (λ (l : List Entry). completed_from l (after_entry d e) es)
      (with-past (says_to d e) t e.time taken (e ∷ []) h (says-due d t e k o))

  pub by_next : By e.time (taken ++ with_replies (e ∷ []) (says_to d e))
  by_next =
      by_append e.time taken _ (by-later t e.time taken o h)
      (by-with (says_to d e) t e.time (e ∷ []) (omega arith, tt) (says-due d t e k o))
