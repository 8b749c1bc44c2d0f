-- What the automaton does on a record: it takes the entries that pass and stops at the first that does not, or at the end; and its
-- turn starts are those before that place.
use Prim.Native.Nat.{ℕ, zero, suc, ◌+◌, ◌≤◌, ◌<◌}
use mathlib.Core.Path.{◌≡◌, refl, sym, ap, ◌∙◌}
use mathlib.Core.Bool.{Bool, true, false, cond, not, ◌&&◌, false≢true}
use mathlib.Core.List.{List, [], ◌∷◌, ◌++◌, append_assoc, append-nil}
use native.Mathlib.Omega.{arith}
use lib.ListN.{length}
use borrow.Author.Tests.{lt-ltb, le-ltb}
use Rattle.deck.specs.Line.{Deck, is_open}
use Rattle.record.specs.declared.Entry.{Entry}
use Rattle.record.specs.Entries.{after_entry, run, keep, last_time}
use Rattle.record.specs.Marks.{below}
use Rattle.record.proofs.Lists.{keep_append}
use Rattle.record.specs.Machine.{Waiting, some, begins, fault_of, resting, State, onward, outcome, step, Verdict, follow, judge_from}
use Rattle.record.proofs.Readings.{waits, marks, Passes}
use Rattle.record.proofs.Turned.{Rests}
use Rattle.record.proofs.Faults.{pass_of}

-- ---- the walk

-- where it stops: at the end, or at an entry with a fault
abbrev pub Stop : ℕ → Deck → Waiting → List Entry → ℕ → Type 0
Stop t d w [] f = f ≡ cond (resting d w) 0 26
Stop t d w (e ∷ es) f = (f ≡ fault_of t d w e) × (f ≡ 0 → ⊥)

-- from the state s over es to the verdict v: the entries `before` pass, and it stops at the others, `from`
pub record Walked (es : List Entry) (s : State) (v : Verdict) : Type 0 where
  pub before : List Entry
  pub from : List Entry
  pub split : es ≡ before ++ from
  pub place : v.place ≡ s.taken + length before
  pub passes : Passes s.time s.deck s.waits before
  pub starts : v.starts ≡ s.starts ++ marks s.taken s.deck before
  pub stop : Stop (last_time s.time before) (run s.deck before) (waits s.deck s.waits before) from v.fault

kept-later : (b : Bool) (i : ℕ) (a m : List ℕ) → (a ++ keep b i []) ++ m ≡ a ++ keep b i m
kept-later b i a m = append_assoc a (keep b i []) m ∙ ap (λ (l : List ℕ). a ++ l) (sym (keep_append b i [] m))

pub walked : (es : List Entry) (s : State) → Walked es s (judge_from es s)
unfolding judge_from step Passes marks run waits
walked [] s =
    record { before = []; from = []; split = refl; place = omega arith; passes = tt; starts = sym (append-nil s.starts); stop = refl }
walked (e ∷ es) s = go (fault_of s.time s.deck s.waits e) refl (walked es)
  where
    taken : fault_of s.time s.deck s.waits e ≡ 0 → Walked es (onward s e) (judge_from es (onward s e))
        → Walked (e ∷ es) s (judge_from es (onward s e))
    taken p u =
        record {
          before = e ∷ u.before;
          from = u.from;
          split = ap (λ (l : List Entry). e ∷ l) u.split;
          place = u.place ∙ omega arith;
          passes = (pass_of s.time s.deck s.waits e p, u.passes);
          starts = u.starts ∙ kept-later (begins s.deck e) s.taken s.starts
              (marks (suc s.taken) (after_entry s.deck e) u.before);
          stop = u.stop;
        }

    go : (f : ℕ) → fault_of s.time s.deck s.waits e ≡ f → ((s : State) → Walked es s (judge_from es s))
        → Walked (e ∷ es) s (follow (outcome f s e) s (judge_from es))
    go zero p ih = taken p (ih (onward s e))
    go (suc f) p ih =
        record {
          before = [];
          from = e ∷ es;
          split = refl;
          place = omega arith;
          passes = tt;
          starts = sym (append-nil s.starts);
          stop = (sym p, λ z. omega arith);
        }

-- ---- at rest

pub rests-of : (d : Deck) (w : Waiting) → resting d w ≡ true → Rests d w
unfolding resting
rests-of d w p = record { shut = (go d.block w.left p).0; left = (go d.block w.left p).1 }
  where
    go : (a b : List ℕ) → (not (is_open a) && not (some b)) ≡ true → (a ≡ []) × (b ≡ [])
    go [] [] p = (refl, refl)
    go [] (y ∷ b) p = absurd (false≢true p)
    go (x ∷ a) b p = absurd (false≢true p)

pub resting-of : (d : Deck) (w : Waiting) → Rests d w → resting d w ≡ true
unfolding resting
resting-of d w z = rw (z.shut, z.left)

-- ---- turn starts below a place

pub below-append : (p : ℕ) (a b : List ℕ) → below p (a ++ b) ≡ below p a ++ below p b
unfolding below
below-append p [] b = refl
below-append p (x ∷ a) b = rw (below-append p a b, keep_append)

-- those of entries before it
pub below-marks : (es : List Entry) (i p : ℕ) (d : Deck) → i + length es ≤ p → below p (marks i d es) ≡ marks i d es
unfolding below marks
below-marks [] i p d h = refl
below-marks (e ∷ es) i p d h = go (begins d e) (below-marks es (suc i) p (after_entry d e) (omega arith))
  where
    h' : i < p
    h' = let k : i + suc (length es) ≤ p = h in omega arith

    go : (b : Bool) → below p (marks (suc i) (after_entry d e) es) ≡ marks (suc i) (after_entry d e) es
        → below p (keep b i (marks (suc i) (after_entry d e) es)) ≡ keep b i (marks (suc i) (after_entry d e) es)
    go true q = rw (lt-ltb i p h', q)
    go false q = q

-- and of those from it on
pub above-marks : (es : List Entry) (i p : ℕ) (d : Deck) → p ≤ i → below p (marks i d es) ≡ []
unfolding below marks
above-marks [] i p d h = refl
above-marks (e ∷ es) i p d h = go (begins d e) (above-marks es (suc i) p (after_entry d e) (omega arith))
  where
    go : (b : Bool) → below p (marks (suc i) (after_entry d e) es) ≡ [] → below p (keep b i (marks (suc i) (after_entry d e) es)) ≡ []
    go true q = rw (le-ltb i p h) q
    go false q = q
