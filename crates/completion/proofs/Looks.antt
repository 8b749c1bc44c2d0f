-- The laws of the deck that full marks lean on: that it has been told a time, what a look finds, and what an entry gets then.
use Prim.Native.Nat.{ℕ, ◌+◌, ◌≤◌, ◌<◌}
use mathlib.Core.Path.{◌≡◌, refl, sym, ap, ◌∙◌, subst}
use mathlib.Core.Bool.{true}
use mathlib.Core.Logic.{◌⊎◌, inl, inr, ⊎_elim}
use mathlib.Core.List.{List, [], ◌∷◌, ◌++◌, tail-eq_of_cons-eq}
use native.Mathlib.Omega.{arith}
use borrow.Author.Tests.{lt-ltb}
use Rattle.std.proofs.lemmas.Bool.{cases_lt, and_parts}
use Rattle.deck.specs.Line.{Event, byte, look, position, cassette, time_of, Deck, at_power_on, Reply, Answer, silently, is_open, timed_out}
use Rattle.deck.specs.Line.{looked, taken, acted, both_of}
use Rattle.deck.specs.Events.{Few, none as no-reply, one as one-reply, late, two}
use Rattle.deck.proofs.Steps.{look-shut, look-early, look-cases, look-in-time, byte-cases, taken-cases, acted-byte, acted-other}
use Rattle.deck.proofs.Steps.{look_twice, acted-unheard, answers-soon}
use Rattle.deck.proofs.Cases.{expiry, expired, looked-late, looked-again}
use Rattle.deck.proofs.Replies.{few-replies, late-looked}
use Rattle.record.specs.declared.Entry.{Entry}
use Rattle.record.specs.Entries.{handed, after_entry}
use Rattle.record.proofs.Handed.{handed-time, after_is}

-- the deck has been told the time t: a look then finds nothing more
abbrev pub Knows : Deck → ℕ → Type 0
Knows d t = looked d t ≡ silently d

pub knows-power-on : Knows at_power_on 0
knows-power-on = look-shut at_power_on 0 refl

-- a block that is open has not timed out
in-time : (d : Deck) (t : ℕ) → Knows d t → is_open d.block ≡ true → t ≤ d.last + 10000
in-time d t p o =
    ⊎_elim (λ h. absurd (late-looked d t (rw (o, lt-ltb (d.last + 10000) t h)) p)) (λ h. h) (cases_lt (d.last + 10000) t)

-- so a time-out that is found at any time is due after t
pub knows-due : (d : Deck) (t u : ℕ) → Knows d t → timed_out d u ≡ true → t ≤ d.last + 10000
knows-due d t u p h = in-time d t p (and_parts (is_open d.block) _ h).0

-- ---- what a look finds

-- a look at its due time finds the reply, of at least one byte, and its quiet holds then
pub record Finds (d : Deck) (r : Reply) : Type 0 where
  pub due : (looked d r.due).replies ≡ r ∷ []
  pub quiet : r.due < (looked d r.due).deck.free
  pub first : ℕ
  pub more : List ℕ
  pub bytes : r.bytes ≡ first ∷ more
  pub small : first < 256

-- nothing, or one reply
pub look-finds : (d : Deck) (t : ℕ) → ((looked d t).replies ≡ []) ⊎ ((r : Reply) × ((looked d t).replies ≡ r ∷ []) × Finds d r)
look-finds d t = ⊎_elim (λ p. inl (ap (λ (a : Answer). a.replies) p)) (λ p. inr (found p.0 p.1)) (look-cases d t)
  where
    found : is_open d.block ≡ true → d.last + 10000 < t → (r : Reply) × ((looked d t).replies ≡ r ∷ []) × Finds d r
    found o h =
        let at : (u : ℕ) → d.last + 10000 < u → looked d u ≡ expired d.last d.settings =
        λ u g. looked-late d u (rw o tt) g in
        let p = at (d.last + 10001) (omega arith) in (
          expiry d.last,
          ap (λ (a : Answer). a.replies) (at t h),
          record {
            due = ap (λ (a : Answer). a.replies) p;
            quiet = rw p (omega arith);
            first = _;
            more = _;
            bytes = refl;
            small = omega arith;
          },
        )

-- a reply that was found earlier is not found again; the deck comes out the same
pub found_before : (d : Deck) (u t : ℕ) (r : Reply) → u ≤ t → (looked d u).replies ≡ r ∷ [] → (looked d t).replies ≡ r ∷ []
    → looked (looked d u).deck t ≡ silently (looked d t).deck
found_before d u t r h p q =
    let twice : both_of (looked d u) (looked (looked d u).deck t) ≡ looked d t = look_twice d u t h in
    let none : (looked (looked d u).deck t).replies ≡ [] =
    tail-eq_of_cons-eq (ap (λ (l : List Reply). l ++ (looked (looked d u).deck t).replies) (sym p)
    ∙ ap (λ (a : Answer). a.replies) twice ∙ q) in
    λ i. record { deck = (twice i).deck; replies = none i }

-- ---- what an event gets from a deck that has been told its time

-- nothing, or one reply, due then
pub data Once (t : ℕ) : List Reply → Type 0 where
  none : Once t []
  one : (r : Reply) → r.due ≡ t → Once t (r ∷ [])

event-once : (d : Deck) (e : Event) → Knows d (time_of e) → Once (time_of e) (acted d e).replies
event-once d e p = go (subst (λ (a : Answer). Few d e a.replies) (answers-soon d e p refl) (few-replies d e)) p
  where
    go : {v : Event} {rs : List Reply} → Few d v rs → Knows d (time_of v) → Once (time_of v) rs
    go no-reply k = none
    go (one-reply r q m n) k = one r q
    go {v} (late h) k = absurd (late-looked d (time_of v) h k)
    go (two {t} h f) k = absurd (late-looked d t h k)

-- it stays told: by the block and its last byte alone
knows-like : (d D : Deck) (t : ℕ) → D.block ≡ d.block → D.last ≡ d.last → Knows d t → Knows D t
knows-like d D t b l p = look-in-time D t (λ o. rw l (in-time d t p (rw b at o)))

knows-taken : (d : Deck) (block : List ℕ) (t : ℕ) → Knows (taken d block t).deck t
knows-taken d block t =
    ⊎_elim (λ p. rw p (look-shut _ t refl)) (λ p. rw p (look-early _ t (omega arith))) (taken-cases d block t)

event-knows : (d : Deck) (e : Event) → Knows d (time_of e) → Knows (acted d e).deck (time_of e)
event-knows d (byte t b flags) p =
    rw (acted-byte d t b flags)
    (⊎_elim
    (λ q. rw q p)
    (⊎_elim (λ q. rw q (knows-taken d (d.block ++ b ∷ []) t)) (λ q. rw q.1 (look-shut _ t refl)))
    (byte-cases d t b flags))
event-knows d (look t) p = rw (acted-other d (look t) tt) (knows-like d _ t refl refl p)
event-knows d (position t x) p = rw (acted-other d (position t x) tt) (knows-like d _ t refl refl p)
event-knows d (cassette t) p = rw (acted-other d (cassette t) tt) (knows-like d _ t refl refl p)

-- ---- the same for an entry

module _ (d : Deck) (e : Entry) where
  at : time_of (handed e) ≡ e.time
  at = handed-time e.kind e

  pub acted-once : Knows d e.time → Once e.time (acted d (handed e)).replies
  acted-once = subst (λ (t : ℕ). Knows d t → Once t (acted d (handed e)).replies) at (event-once d (handed e))

  pub acted-knows : Knows d e.time → Knows (acted d (handed e)).deck e.time
  acted-knows = subst (λ (t : ℕ). Knows d t → Knows (acted d (handed e)).deck t) at (event-knows d (handed e))

  -- in quiet it gets nothing
  pub acted-quiet : e.time < d.free → (acted d (handed e)).replies ≡ []
  acted-quiet h = ap (λ (a : Answer). a.replies) (acted-unheard d (handed e) (inr (rw at h)))

-- a deck byte only tells the time
pub acted-look : (d : Deck) (t : ℕ) → acted d (look t) ≡ silently d
acted-look d t = acted-other d (look t) tt

-- every entry tells the deck its time
pub knows-entry : (d : Deck) (e : Entry) → Knows (after_entry d e) e.time
knows-entry d e =
    let L = looked d e.time in
    rw (after_is d e L (acted L.deck (handed e)) refl refl) (acted-knows L.deck e (looked-again d e.time))
