-- The automaton's parts as separate readings of entries: what is awaited, the turn starts, and the entries that pass its tests.
-- The first two go on whether the tests pass or not.
use Prim.Native.Nat.{ℕ, suc, ◌+◌, ◌≤◌, ◌<◌}
use mathlib.Core.Path.{◌≡◌, refl, sym, ap, ◌∙◌, subst₂}
use mathlib.Core.Logic.{◌↔◌}
use mathlib.Core.List.{List, [], ◌∷◌, ◌++◌}
use native.Mathlib.Nat.{add-zero, add-suc, suc-add}
use native.Mathlib.Omega.{arith}
use lib.Dec.{T}
use lib.ListN.{length}
use Rattle.deck.specs.Line.{Deck, Reply, Answer, at_power_on, silently, looked, acted}
use Rattle.record.specs.declared.Entry.{Entry}
use Rattle.record.specs.Entries.{WellFormed, handed, after_entry, run, keep, is_controller, is_deck, last_time, All}
use Rattle.record.proofs.Handed.{after_is}
use Rattle.record.proofs.Lists.{keep_append, Ordered}
use Rattle.record.specs.Machine.{Waiting, waiting, some, await, peek, awaited_after, advance, begins_at, begins}

-- what is awaited after the entries
unfoldable pub waits : Deck → Waiting → List Entry → Waiting
waits d w [] = w
waits d w (e ∷ es) = waits (after_entry d e) (advance d w e) es

-- the turn starts among them, the first entry at i
unfoldable pub marks : ℕ → Deck → List Entry → List ℕ
marks i d [] = []
marks i d (e ∷ es) = keep (begins d e) i (marks (suc i) (after_entry d e) es)

-- an entry passes the tests; L is the deck's answer to its time, t the time of the entry before
pub record Pass (t : ℕ) (L : Answer) (w : Waiting) (e : Entry) : Type 0 where
  pub well_formed : WellFormed e
  pub ordered : t ≤ e.time
  pub in_time : T (some (await L.replies w).left) → e.time ≤ (await L.replies w).latest
  pub deck_byte : T (is_deck e.kind) → (l : List ℕ) × ((await L.replies w).left ≡ e.content ∷ l)
  pub quiet : T (is_controller e.kind) → T (some (await L.replies w).left) → e.time < L.deck.free

-- all of them pass
unfoldable pub Passes : ℕ → Deck → Waiting → List Entry → Type 0
Passes t d w [] = Unit
Passes t d w (e ∷ es) = Pass t (looked d e.time) w e × Passes e.time (after_entry d e) (advance d w e) es

-- ---- a record's entries, from power-on

abbrev pub deck_now : List Entry → Deck
deck_now es = run at_power_on es

abbrev pub waiting_now : List Entry → Waiting
waiting_now es = waits at_power_on (waiting [] 0) es

abbrev pub PassesNow : List Entry → Type 0
PassesNow es = Passes 0 at_power_on (waiting [] 0) es

-- ---- an entry by its two halves

advance-is : (d : Deck) (w : Waiting) (e : Entry) (L E : Answer) → looked d e.time ≡ L → acted L.deck (handed e) ≡ E
    → advance d w e ≡ awaited_after w e L E
unfolding advance
advance-is d w e L E p q =
    ap (λ (A : Answer). awaited_after w e A (acted A.deck (handed e))) p ∙ ap (λ (A : Answer). awaited_after w e L A) q

pub begins-is : (d : Deck) (e : Entry) (L : Answer) → looked d e.time ≡ L → begins d e ≡ begins_at L e
unfolding begins
begins-is d e L p = ap (λ (A : Answer). begins_at A e) p

-- .. and what is awaited at a time, by the deck's answer to it
pub peek_is : (d : Deck) (w : Waiting) (t : ℕ) (L : Answer) → looked d t ≡ L → peek d w t ≡ await L.replies w
unfolding peek
peek_is d w t L p = ap (λ (A : Answer). await A.replies w) p

-- what holds after the halves holds after the entry, and the other way round
pub of-halves : (P : Deck → Waiting → Type 0) (d : Deck) (w : Waiting) (e : Entry) (L E : Answer)
    → looked d e.time ≡ L → acted L.deck (handed e) ≡ E → P E.deck (awaited_after w e L E) → P (after_entry d e) (advance d w e)
of-halves P d w e L E p q h = subst₂ P (sym (after_is d e L E p q)) (sym (advance-is d w e L E p q)) h

pub to-halves : (P : Deck → Waiting → Type 0) (d : Deck) (w : Waiting) (e : Entry) (L E : Answer)
    → looked d e.time ≡ L → acted L.deck (handed e) ≡ E → P (after_entry d e) (advance d w e) → P E.deck (awaited_after w e L E)
to-halves P d w e L E p q h = subst₂ P (after_is d e L E p q) (advance-is d w e L E p q) h

-- ---- the deck as a look finds it goes on as the deck itself

pub advance-look : (d D : Deck) (w : Waiting) (e : Entry) (R : List Reply) → looked d e.time ≡ record { deck = D; replies = R }
    → looked D e.time ≡ silently D → advance d w e ≡ advance D (await R w) e
advance-look d D w e R p q =
    advance-is d w e (record { deck = D; replies = R }) (acted D (handed e)) p refl
    ∙ sym (advance-is D (await R w) e (silently D) (acted D (handed e)) q refl)

pub pass-look : (t : ℕ) (D : Deck) (w : Waiting) (e : Entry) (R : List Reply)
    → Pass t (record { deck = D; replies = R }) w e ↔ Pass t (silently D) (await R w) e
pass-look t D w e R = (
  λ v. record { well_formed = v.well_formed; ordered = v.ordered; in_time = v.in_time; deck_byte = v.deck_byte; quiet = v.quiet },
  λ v. record { well_formed = v.well_formed; ordered = v.ordered; in_time = v.in_time; deck_byte = v.deck_byte; quiet = v.quiet },
)

-- ---- a controller entry that is heard and passes finds nothing awaited

pub heard-alone : (t : ℕ) (d : Deck) (now : List ℕ) (lat : ℕ) (e : Entry) → T (is_controller e.kind) → d.free ≤ e.time
    → Pass t (silently d) (waiting now lat) e → now ≡ []
heard-alone t d [] lat e k h p = refl
heard-alone t d (x ∷ now) lat e k h p = absurd (omega (arith, p.quiet k tt))

-- ---- entries one after the other

pub waits-append : (d : Deck) (w : Waiting) (a b : List Entry) → waits d w (a ++ b) ≡ waits (run d a) (waits d w a) b
unfolding waits run
waits-append d w [] b = refl
waits-append d w (e ∷ a) b = waits-append (after_entry d e) (advance d w e) a b

pub marks-append : (i : ℕ) (d : Deck) (a b : List Entry) → marks i d (a ++ b) ≡ marks i d a ++ marks (i + length a) (run d a) b
unfolding marks run
marks-append i d [] b = rw add-zero
marks-append i d (e ∷ a) b = rw (marks-append (suc i) (after_entry d e) a b, suc-add, add-suc, keep_append)

pub passes_append : (t : ℕ) (d : Deck) (w : Waiting) (a b : List Entry) → Passes t d w a
    → Passes (last_time t a) (run d a) (waits d w a) b → Passes t d w (a ++ b)
unfolding Passes run waits
passes_append t d w [] b p q = q
passes_append t d w (e ∷ a) b p q = (p.0, passes_append e.time (after_entry d e) (advance d w e) a b p.1 q)

pub passes-right : (t : ℕ) (d : Deck) (w : Waiting) (a b : List Entry) → Passes t d w (a ++ b)
    → Passes (last_time t a) (run d a) (waits d w a) b
unfolding Passes run waits
passes-right t d w [] b p = p
passes-right t d w (e ∷ a) b p = passes-right e.time (after_entry d e) (advance d w e) a b p.1

pub formed-of-passes : (t : ℕ) (d : Deck) (w : Waiting) (es : List Entry) → Passes t d w es → All WellFormed es
unfolding Passes
formed-of-passes t d w [] p = tt
formed-of-passes t d w (e ∷ es) p = (p.0.well_formed, formed-of-passes e.time (after_entry d e) (advance d w e) es p.1)

pub ordered-of-passes : (t : ℕ) (d : Deck) (w : Waiting) (es : List Entry) → Passes t d w es → Ordered t es
unfolding Passes
ordered-of-passes t d w [] p = tt
ordered-of-passes t d w (e ∷ es) p = (p.0.ordered, ordered-of-passes e.time (after_entry d e) (advance d w e) es p.1)
