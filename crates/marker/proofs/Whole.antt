-- A step from its parts: the tests, the look, and the entry itself.
use Prim.Native.Nat.{ℕ, zero, suc, ◌+◌, ◌≤◌, ◌<◌}
use mathlib.Core.Path.{◌≡◌, refl, sym, ap, ap₂, ◌∙◌}
use mathlib.Core.Bool.{Bool, true, false, not, ◌&&◌}
use mathlib.Core.List.{List, [], ◌++◌}
use borrow.Author.Tests.{lt-ltb, le-ltb, ne_eqb}
use lib.Dec.{leb}
use lib.ListN.{drop}
use Rattle.deck.specs.declared.Deck.{Deck as Held}
use Rattle.deck.specs.Line.{look, time_of, Deck, Answer, silently, is_open, looked, acted, answers}
use Rattle.deck.specs.Calls.{view}
use Rattle.deck.proofs.Steps.{acted-other, answers-soon}
use Rattle.deck.proofs.Cases.{looked-again}
use Rattle.record.specs.declared.Entry.{Entry}
use Rattle.record.specs.Entries.{formed, handed_as, handed, after_entry, keep, is_controller}
use Rattle.record.specs.Machine.{Waiting, waiting, await, took, peek, advance, begins, tests, fault_of, State, goes, stops, onward, step}
use Rattle.record.specs.Machine.{outcome as outcome_of}
use Rattle.record.proofs.Handed.{after_is}
use Rattle.marker.specs.declared.Marker.{Marker}
use Rattle.std.specs.Prelude.{Result, Ok, Err}
use Rattle.std.specs.Result.{IsErrAnd}
use Rattle.marker.specs.declared.Stepped.{Stepped as Taken}
use Rattle.marker.specs.declared.faults.Fault.{Fault}
use Rattle.marker.specs.Faults.{fault_number}
use Rattle.marker.specs.Steps.{awaited, state, Acts, Does, late_fault, stepped_by, Steps}
use Rattle.marker.proofs.Numbers.{above}

-- ---- the entry itself

module _ (m r : Marker) (e : Entry) where
  -- of a kind that takes nothing off what is awaited
  pub does : (k : ℕ) → e.kind ≡ k → took k e.time (awaited m.waits) ≡ awaited m.waits
      → looked (view m.deck) (time_of (handed_as k e)) ≡ silently (view m.deck)
      → Acts m e.time (answers (view m.deck) (handed_as k e)) r → Does m e r
  does k p q l a =
      let D = view m.deck in
      let s : answers D (handed_as k e) ≡ acted D (handed e) =
      answers-soon D (handed_as k e) l (ap (λ (x : ℕ). acted D (handed_as x e)) (sym p)) in
      record {
        deck = a.deck ∙ ap (λ (x : Answer). x.deck) s;
        waits =
            a.waits ∙ ap (λ (x : Answer). await x.replies (awaited m.waits)) s
            ∙ ap (await (acted D (handed e)).replies) (sym q ∙ ap (λ (x : ℕ). took x e.time (awaited m.waits)) (sym p));
        clock = a.clock;
        made = a.made;
      }

  -- a deck byte
  pub takes : e.kind ≡ 1 → m.deck.clock ≡ e.time → r.deck ≡ m.deck
      → awaited r.waits ≡ waiting (drop 1 (awaited m.waits).left) (e.time + 10000) → Does m e r
  takes k t p q =
      let s : acted (view m.deck) (handed e) ≡ silently (view m.deck) =
      ap (λ (x : ℕ). acted (view m.deck) (handed_as x e)) k ∙ acted-other (view m.deck) (look e.time) tt in
      record {
        deck = ap view p ∙ sym (ap (λ (x : Answer). x.deck) s);
        waits = q ∙ ap (λ (x : ℕ). took x e.time (awaited m.waits)) (sym k)
            ∙ ap (λ (x : Answer). await x.replies (took e.kind e.time (awaited m.waits))) (sym s);
        clock = ap (λ (x : Held). x.clock) p ∙ t;
        made = λ k. rw p k;
      }

-- ---- the whole

module _ (m : Marker) (e : Entry) where
  abbrev d : Deck
  d = view m.deck

  abbrev w : Waiting
  w = awaited m.waits

  abbrev fault : ℕ
  fault = fault_of m.deck.clock d w e

  pub malformed : formed e ≡ false → fault ≡ 20
  unfolding fault_of tests
  malformed f = rw f

  pub falls : formed e ≡ true → e.time < m.deck.clock → fault ≡ 21
  unfolding fault_of tests
  falls f t = rw (f, lt-ltb e.time m.deck.clock t)

  later : formed e ≡ true → m.deck.clock ≤ e.time
      → fault ≡ late_fault (looked d e.time).deck (peek d w e.time) e
  unfolding fault_of tests late_fault
  later f t = rw (f, le-ltb e.time m.deck.clock t)

  stops-at : (n : ℕ) (s : State) → (n ≡ 0 → ⊥) → outcome_of n s e ≡ stops n
  stops-at zero s z = absurd (z refl)
  stops-at (suc n) s z = refl

  pub stopped : (f : Fault) → fault ≡ fault_number f → Steps m e (stepped_by m (Err f))
  unfolding step
  stopped f p =
      record {
        steps = λ taken starts.
            rw (ne_eqb (fault_number f) 0 (above f))
            (sym (ap (λ (x : ℕ). outcome_of x (state taken starts m) e) p ∙ stops-at (fault_number f) (state taken starts m) (above f)));
        same = λ _. (refl, refl);
        made = λ k. k;
      }

  -- handed on by `?`
  pub faulted : (f : Fault) → fault ≡ fault_number f → (r : Result Taken Fault) → IsErrAnd r (λ g. g ≡ f) → Steps m e (stepped_by m r)
  faulted f p (Ok t) q = absurd q
  faulted f p (Err g) q = stopped g (p ∙ ap fault_number (sym q))

  -- after the look
  module _ (n : Marker) (l : Acts m e.time (looked d e.time) n) where
    -- a second look finds nothing
    pub again : looked (view n.deck) e.time ≡ silently (view n.deck)
    again = rw l.deck (looked-again d e.time)

    -- the tests are those of the automaton
    pub late : formed e ≡ true → m.deck.clock ≤ e.time → fault ≡ late_fault (view n.deck) (awaited n.waits) e
    unfolding peek
    late f t = later f t ∙ sym (ap₂ (λ (x : Deck) (y : Waiting). late_fault x y e) l.deck l.waits)

  -- after the look and the entry itself
  module _ (n q : Marker) (l : Acts m e.time (looked d e.time) n) (o : Does n e q) where
    abbrev after : Answer
    after = acted (looked d e.time).deck (handed e)

    acts-is : acted (view n.deck) (handed e) ≡ after
    acts-is = ap (λ (x : Deck). acted x (handed e)) l.deck

    deck-is : view q.deck ≡ after_entry d e
    deck-is =
        o.deck ∙ ap (λ (x : Answer). x.deck) acts-is ∙ sym (after_is d e (looked d e.time) after refl refl)

    waits-is : awaited q.waits ≡ advance d w e
    unfolding advance
    waits-is =
        o.waits ∙ ap (λ (x : Answer). await x.replies (took e.kind e.time (awaited n.waits))) acts-is
        ∙ ap (λ (x : Waiting). await after.replies (took e.kind e.time x)) l.waits

    begins-is : is_controller e.kind && (not (is_open (view n.deck).block) && leb n.deck.free e.time) ≡ begins d e
    unfolding begins
    begins-is =
        ap (λ (x : Deck). is_controller e.kind && (not (is_open x.block) && leb x.free e.time)) l.deck

    pub gone : formed e ≡ true → m.deck.clock ≤ e.time → late_fault (view n.deck) (awaited n.waits) e ≡ 0
        → (b : Bool) → b ≡ is_controller e.kind && (not (is_open (view n.deck).block) && leb n.deck.free e.time)
        → Steps m e (record { fault = 0; begins = b; marker = q })
    unfolding step
    gone f t z b s =
        record {
          steps = λ taken starts.
              same-state taken starts
              ∙ sym (ap (λ (x : ℕ). outcome_of x (state taken starts m) e) (late n l f t ∙ z));
          same = λ n. absurd (n refl);
          made = λ k. o.made (l.made k);
        }
      where
        same-state : (taken : ℕ) (starts : List ℕ)
            → goes (state (suc taken) (starts ++ keep b taken []) q) ≡ goes (onward (state taken starts m) e)
        same-state taken starts =
            λ i. goes (record {
              deck = deck-is i;
              waits = waits-is i;
              taken = suc taken;
              time = o.clock i;
              starts = starts ++ keep ((s ∙ begins-is) i) taken [];
            })
