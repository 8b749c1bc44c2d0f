-- What the deck does with one event, case by case, and with events in a row.
use mathlib.Core.Bool.{Bool, true, false, and-false}
use mathlib.Core.List.{List, [], ◌∷◌, ◌++◌, append_assoc, append-nil}
use mathlib.Core.Logic.{◌⊎◌, inl, inr, ⊎_elim}
use mathlib.Core.Path.{◌≡◌, refl, sym, ap, ◌∙◌}
use Prim.Native.Nat.{ℕ, zero, suc, ◌+◌, ◌≤◌, ◌<◌}
use native.Mathlib.Nat.{le_refl}
use native.Mathlib.Omega.{arith}
use borrow.Author.Tests.{eq-eqb, le-leb, le-ltb, leb-false, leb-true, lt-leb, lt-ltb, ltb-false, ltb-true, ne_eqb}
use lib.Dec.{leb, ltb}
use lib.ListN.{length}
use Rattle.settings.specs.declared.Settings.{Settings}
use Rattle.execute.specs.Execute.{execute}
use Rattle.execute.specs.Replies.{time_out, opens_quiet}
use Rattle.deck.specs.Line.{Event, byte, look, position, cassette, time_of, Deck, deck, Reply, Answer, silently, free_after}
use Rattle.deck.specs.Line.{voided, is_open, timed_out, looked, size, replied, taken, in_quiet, received, with_settings, acted}
use Rattle.deck.specs.Line.{both_of, answers, after, says, run, said}
use Rattle.deck.specs.Events.{Gives, nak_at, tape, NoByte}

pub time-out-quiets : opens_quiet time_out ≡ true
unfolding opens_quiet
time-out-quiets = refl

-- ---- the time-out

-- by its test
pub look-found : (d : Deck) (t : ℕ) → timed_out d t ≡ true → looked d t ≡ voided d time_out (d.last + 10001)
unfolding looked
look-found d t e = rw e

pub look-nothing : (d : Deck) (t : ℕ) → timed_out d t ≡ false → looked d t ≡ silently d
unfolding looked
look-nothing d t e = rw e

pub look-shut : (d : Deck) (t : ℕ) → d.block ≡ [] → looked d t ≡ silently d
look-shut d t e = look-nothing d t (rw e)

pub look-early : (d : Deck) (t : ℕ) → t ≤ d.last + 10000 → looked d t ≡ silently d
look-early d t h = look-nothing d t (rw (le-ltb (d.last + 10000) t h, and-false))

pub look-late : (d : Deck) (t : ℕ) → is_open d.block ≡ true → d.last + 10000 < t
    → looked d t ≡ voided d time_out (d.last + 10001)
look-late d t o h = look-found d t (rw (o, lt-ltb (d.last + 10000) t h))

pub look-cases : (d : Deck) (t : ℕ) → (looked d t ≡ silently d) ⊎ ((is_open d.block ≡ true) × (d.last + 10000 < t))
look-cases d t = go d.block refl (ltb (d.last + 10000) t) refl
  where
    go : (o : List ℕ) → d.block ≡ o → (x : Bool) → ltb (d.last + 10000) t ≡ x
        → (looked d t ≡ silently d) ⊎ ((is_open d.block ≡ true) × (d.last + 10000 < t))
    go [] e x p = inl (look-shut d t e)
    go (b ∷ o) e true p = inr (rw e, ltb-true (d.last + 10000) t p)
    go (b ∷ o) e false p = inl (look-early d t (ltb-false (d.last + 10000) t p))

pub look-in-time : (d : Deck) (t : ℕ) → (is_open d.block ≡ true → t ≤ d.last + 10000) → looked d t ≡ silently d
look-in-time d t h = ⊎_elim (λ p. p) (λ p. absurd (omega (arith, h p.0, p.1))) (look-cases d t)

-- found at one time or at a later one, a time-out is the same
pub look_twice : (d : Deck) (u t : ℕ) → u ≤ t → both_of (looked d u) (looked (looked d u).deck t) ≡ looked d t
look_twice d u t h =
    ⊎_elim
    (λ p. both p)
    (λ p. both (look-late d u p.0 p.1)
    ∙ ap (both_of (voided d time_out (d.last + 10001))) (look-shut _ t refl)
    ∙ sym (look-late d t p.0 (omega arith)))
    (look-cases d u)
  where
    both : {a : Answer} → looked d u ≡ a → both_of (looked d u) (looked (looked d u).deck t) ≡ both_of a (looked a.deck t)
    both p = ap (λ (a : Answer). both_of a (looked a.deck t)) p

-- ---- a byte, after the time-out

pub byte-dropped : (d : Deck) (t b flags : ℕ) → t < d.free → received d t b flags ≡ silently d
unfolding received
byte-dropped d t b flags h = rw (lt-ltb t d.free h)

pub byte-flagged : (d : Deck) (t b flags : ℕ) → d.free ≤ t → (flags ≡ 0 → ⊥) → received d t b flags ≡ voided d flags t
unfolding received
byte-flagged d t b flags h f = rw (le-ltb t d.free h, ne_eqb flags 0 f)

pub byte-clean : (d : Deck) (t b flags : ℕ) → d.free ≤ t → flags ≡ 0 → received d t b flags ≡ taken d (d.block ++ b ∷ []) t
unfolding received
byte-clean d t b flags h f = rw (le-ltb t d.free h, eq-eqb flags 0 f)

pub byte-cases : (d : Deck) (t b flags : ℕ)
    → (received d t b flags ≡ silently d)
    ⊎ (received d t b flags ≡ taken d (d.block ++ b ∷ []) t)
    ⊎ ((flags ≡ 0 → ⊥) × (received d t b flags ≡ voided d flags t))
byte-cases d t b flags = go flags (in_quiet d t) refl
  where
    go : (f : ℕ) (x : Bool) → in_quiet d t ≡ x
        → (received d t b f ≡ silently d)
        ⊎ (received d t b f ≡ taken d (d.block ++ b ∷ []) t)
        ⊎ ((f ≡ 0 → ⊥) × (received d t b f ≡ voided d f t))
    go f true q = inl (byte-dropped d t b f (ltb-true t d.free q))
    go zero false q = inr (inl (byte-clean d t b 0 (ltb-false t d.free q) refl))
    go (suc n) false q =
        let f : suc n ≡ 0 → ⊥ = λ e. omega arith in
        inr (inr (f, byte-flagged d t b (suc n) (ltb-false t d.free q) f))

pub taken-full : (d : Deck) (block : List ℕ) (t : ℕ) → size block ≤ length block
    → taken d block t ≡ replied d t (execute d.settings block)
unfolding taken
taken-full d block t h = rw (le-leb (size block) (length block) h)

pub taken_more : (d : Deck) (block : List ℕ) (t : ℕ) → length block < size block
    → taken d block t ≡ silently (deck block t d.free d.settings)
unfolding taken
taken_more d block t h = rw (lt-leb (size block) (length block) h)

pub taken-cases : (d : Deck) (block : List ℕ) (t : ℕ)
    → (taken d block t ≡ replied d t (execute d.settings block))
    ⊎ (taken d block t ≡ silently (deck block t d.free d.settings))
taken-cases d block t = go (leb (size block) (length block)) refl
  where
    go : (x : Bool) → leb (size block) (length block) ≡ x
        → (taken d block t ≡ replied d t (execute d.settings block))
        ⊎ (taken d block t ≡ silently (deck block t d.free d.settings))
    go true p = inl (taken-full d block t (leb-true (size block) (length block) p))
    go false p = inr (taken_more d block t (leb-false (size block) (length block) p))

-- of the deck, only its quiet and its settings count
pub taken-from : (o p : List ℕ) (l m f : ℕ) (s : Settings) (block : List ℕ) (t : ℕ)
    → taken (deck o l f s) block t ≡ taken (deck p m f s) block t
unfolding taken
taken-from o p l m f s block t = refl

-- ---- an event, after the time-out

pub acted-byte : (d : Deck) (t b flags : ℕ) → acted d (byte t b flags) ≡ received d t b flags
unfolding acted
acted-byte d t b flags = refl

pub acted-other : (d : Deck) (e : Event) → NoByte e → acted d e ≡ silently (with_settings d (tape d.settings e))
unfolding acted
acted-other d (byte t b flags) n = absurd n
acted-other d (look t) n = refl
acted-other d (position t p) n = refl
acted-other d (cassette t) n = refl

-- no byte, or a byte in quiet
pub acted-unheard : (d : Deck) (e : Event) → NoByte e ⊎ (time_of e < d.free)
    → acted d e ≡ silently (with_settings d (tape d.settings e))
acted-unheard d e (inl n) = acted-other d e n
acted-unheard d (byte t b flags) (inr h) = acted-byte d t b flags ∙ byte-dropped d t b flags h
acted-unheard d (look t) (inr h) = acted-other d (look t) tt
acted-unheard d (position t p) (inr h) = acted-other d (position t p) tt
acted-unheard d (cassette t) (inr h) = acted-other d (cassette t) tt

-- ---- an event

-- by its two halves: the time-out, then the event
pub answers-is : (d : Deck) (e : Event) {first second : Answer} → looked d (time_of e) ≡ first → acted first.deck e ≡ second
    → answers d e ≡ both_of first second
unfolding answers
answers-is d e {first} p q = ap (λ (a : Answer). both_of a (acted a.deck e)) p ∙ ap (both_of first) q

-- with no time-out
pub answers-soon : (d : Deck) (e : Event) {a : Answer} → looked d (time_of e) ≡ silently d → acted d e ≡ a → answers d e ≡ a
answers-soon d e p q = answers-is d e p q

pub answers-unheard : (d : Deck) (e : Event) → looked d (time_of e) ≡ silently d → NoByte e ⊎ (time_of e < d.free)
    → answers d e ≡ silently (with_settings d (tape d.settings e))
answers-unheard d e p h = answers-soon d e p (acted-unheard d e h)

pub answers-clean : (d : Deck) (t b : ℕ) → looked d t ≡ silently d → d.free ≤ t
    → answers d (byte t b 0) ≡ taken d (d.block ++ b ∷ []) t
answers-clean d t b p h = answers-soon d (byte t b 0) p (acted-byte d t b 0 ∙ byte-clean d t b 0 h refl)

pub answers-flagged : (d : Deck) (t b flags : ℕ) → looked d t ≡ silently d → d.free ≤ t → (flags ≡ 0 → ⊥)
    → answers d (byte t b flags) ≡ voided d flags t
answers-flagged d t b flags p h f =
    answers-soon d (byte t b flags) p (acted-byte d t b flags ∙ byte-flagged d t b flags h f)

-- no byte: it acts on the deck that the time-out leaves
pub answers-other : (d : Deck) (e : Event) → NoByte e
    → let a = looked d (time_of e) in
    answers d e ≡ record { deck = with_settings a.deck (tape a.deck.settings e); replies = a.replies }
answers-other d e n =
    let a = looked d (time_of e) in
    answers-is d e {first = a} refl (acted-other a.deck e n)
    ∙ ap (λ (r : List Reply). record { deck = with_settings a.deck (tape a.deck.settings e); replies = r }) (append-nil a.replies)

pub look-alone : (d : Deck) (t : ℕ) → answers d (look t) ≡ looked d t
look-alone d t = answers-other d (look t) tt

-- with a look before it
pub look-first : (d : Deck) (u : ℕ) (e : Event) → u ≤ time_of e
    → both_of (looked d u) (answers (looked d u).deck e) ≡ answers d e
unfolding answers
look-first d u e h =
    let a = looked d u in
    let b = looked a.deck (time_of e) in
    let c = acted b.deck e in
    sym (ap (λ (r : List Reply). record { deck = c.deck; replies = r }) (append_assoc a.replies b.replies c.replies))
    ∙ ap (λ (x : Answer). both_of x (acted x.deck e)) (look_twice d u (time_of e) h)

-- with a time-out: its NAK, and then what the event gets from the deck without the block, in quiet until last + 20,001
pub answers-late : (d : Deck) (e : Event) → is_open d.block ≡ true → d.last + 10000 < time_of e
    → let m = deck [] d.last (d.last + 20002) d.settings in
    answers d e ≡ record { deck = after m e; replies = nak_at time_out (d.last + 10001) ∷ says m e }
answers-late d e o h =
    sym (look-first d (time_of e) e (le_refl (time_of e)))
    ∙ ap (λ (a : Answer). both_of a (answers a.deck e)) (look-late d (time_of e) o h)
    ∙ ap (λ (f : ℕ). both_of (voided d time_out (d.last + 10001)) (answers (deck [] d.last f d.settings) e)) free
  where
    free : free_after (opens_quiet time_out) (d.last + 10001) d.free ≡ d.last + 20002
    free = rw time-out-quiets (omega arith)

-- ---- events in a row

pub gives_none : (d : Deck) → Gives d [] [] d
unfolding run said
gives_none d = (refl, refl)

pub gives_cons : (d : Deck) (e : Event) (es : List Event) {a : Answer} {replies : List Reply} {end : Deck} → answers d e ≡ a
    → Gives a.deck es replies end → Gives d (e ∷ es) (a.replies ++ replies) end
unfolding run said
gives_cons d e es {a} p g = (
  ap (λ (x : Answer). x.replies ++ said x.deck es) p ∙ ap (λ (r : List Reply). a.replies ++ r) g.0,
  ap (λ (x : Answer). run x.deck es) p ∙ g.1,
)

-- the same after two events that get the same
pub gives-alike : (d : Deck) (e f : Event) (es fs : List Event) → answers d e ≡ answers d f
    → Gives (after d f) es (said (after d f) fs) (run (after d f) fs) → Gives d (e ∷ es) (said d (f ∷ fs)) (run d (f ∷ fs))
unfolding run said
gives-alike d e f es fs p g = gives_cons d e es p g

pub gives_one : (d : Deck) (e : Event) {a : Answer} → answers d e ≡ a → Gives d (e ∷ []) a.replies a.deck
unfolding run said
gives_one d e p = (append-nil (says d e) ∙ ap (λ (x : Answer). x.replies) p, ap (λ (x : Answer). x.deck) p)

pub run-append : (d : Deck) (es fs : List Event) → run d (es ++ fs) ≡ run (run d es) fs
unfolding run
run-append d [] fs = refl
run-append d (e ∷ es) fs = run-append (after d e) es fs

pub said-append : (d : Deck) (es fs : List Event) → said d (es ++ fs) ≡ said d es ++ said (run d es) fs
unfolding run said
said-append d [] fs = refl
said-append d (e ∷ es) fs = rw (said-append (after d e) es fs, append_assoc)

pub gives-append : (d : Deck) (es fs : List Event) {replies more : List Reply} {mid end : Deck} → Gives d es replies mid
    → Gives mid fs more end → Gives d (es ++ fs) (replies ++ more) end
gives-append d es fs g h = (said-append d es fs ∙ rw (g.0, g.1, h.0), run-append d es fs ∙ rw (g.1, h.1))
