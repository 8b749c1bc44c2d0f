-- Demand 3: the automaton's verdict on a record is the one that the turn rules give, and a sound record has one cutting.
use Prim.Native.Nat.{ℕ, ◌+◌}
use mathlib.Core.Path.{◌≡◌, refl, sym, ap, ◌∙◌, subst, subst₂}
use mathlib.Core.Bool.{Bool, true, false, cond, false≢true}
use mathlib.Core.List.{List, [], ◌∷◌, ◌++◌, append_assoc, append-nil, nil≢cons, head-eq_of_cons-eq}
use native.Mathlib.Omega.{arith}
use native.Mathlib.Nat.{zero-add}
use lib.ListN.{length, length-append, take, drop, take-append-drop}
use lib.Seq.{take_at, drop_at}
use Rattle.deck.specs.Line.{at_power_on}
use Rattle.record.specs.declared.Entry.{Entry}
use Rattle.record.specs.Entries.{last_time}
use Rattle.record.specs.Turns.{Cut, starts, Sound}
use Rattle.record.specs.Marks.{Extends, below, Marked, Demand3}
use Rattle.record.specs.Machine.{waiting, resting, begin, Verdict, judge_from, judge}
use Rattle.record.proofs.Readings.{marks, Passes, deck_now, waiting_now, PassesNow, marks-append, passes-right}
use Rattle.record.proofs.Turned.{sound-accepted}
use Rattle.record.proofs.Sounds.{accepted-sound}
use Rattle.record.proofs.Extends.{passes-extends}
use Rattle.record.proofs.Faults.{fault_now, fault-of-pass, number}
use Rattle.record.proofs.Walk.{Stop, Walked, walked, rests-of, resting-of, below-append, below-marks, above-marks}

-- ---- the claim, for entries that pass, and what stands after them

module _ (before : List Entry) (p : PassesNow before) where
  -- with an entry that has a fault they begin no sound record
  no-further : (e : Entry) (more : List Entry) → (fault_now before e ≡ 0 → ⊥) → Sound (before ++ e ∷ more) → ⊥
  unfolding Passes
  no-further e more n s =
      n (fault-of-pass (last_time 0 before) (deck_now before) (waiting_now before) e
      (passes-right 0 at_power_on (waiting [] 0) before (e ∷ more) (sound-accepted (before ++ e ∷ more) s).passes).0)

  -- the turn starts among them are those of every sound record that begins so
  begun-before : (more : List Entry) (s : Sound (before ++ more)) → marks 0 at_power_on before ≡ below (length before) (starts s.cutting)
  begun-before more s =
      rw (
        ← (sound-accepted (before ++ more) s).marked,
        marks-append 0 at_power_on before more,
        below-append,
        below-marks before 0 (length before) at_power_on (omega arith),
        above-marks more (0 + length before) (length before) (deck_now before) (omega arith),
        append-nil,
      )

  marked : Extends before → (from : List Entry) (f : ℕ) → Stop (last_time 0 before) (deck_now before) (waiting_now before) from f
      → Marked before from f (marks 0 at_power_on before)
  marked x [] f s = at-end (resting (deck_now before) (waiting_now before)) refl s
    where
      at-end : (b : Bool) → resting (deck_now before) (waiting_now before) ≡ b → f ≡ cond b 0 26
          → Marked before [] f (marks 0 at_power_on before)
      at-end true r z =
          record {
            sound = (λ _. rw append-nil (accepted-sound before p (rests-of (deck_now before) (waiting_now before) r)), λ _. z);
            whole = λ _. refl;
            extends = x;
            stops = λ e es q. absurd (nil≢cons q);
            number = λ n. absurd (n z);
            begun = begun-before;
          }
      at-end false r z =
          record {
            sound = (λ q. absurd (omega arith), λ s. absurd (false≢true (sym r ∙ rested (rw append-nil at s))));
            whole = λ _. refl;
            extends = x;
            stops = λ e es q. absurd (nil≢cons q);
            number = λ n. z;
            begun = begun-before;
          }
        where
          rested : Sound before → resting (deck_now before) (waiting_now before) ≡ true
          rested s = resting-of (deck_now before) (waiting_now before) (sound-accepted before s).rests
  marked x (e ∷ es) f (q, n) =
      record {
        sound = (λ z. absurd (n z), λ s. absurd (no-further e es m s));
        whole = λ z. absurd (n z);
        extends = x;
        stops = λ e' es' r y.
            no-further e y.more m (rw (head-eq_of_cons-eq r, ← (append_assoc before (e' ∷ []) y.more)) y.sound);
        number = λ _. rw q (number before p e m);
        begun = begun-before;
      }
    where
      m : fault_now before e ≡ 0 → ⊥
      m z = n (q ∙ z)

-- ---- there is never a second way to cut a record

pub one-cutting : (es : List Entry) (s : Sound es) (c : Cut es []) → starts c ≡ starts s.cutting
one-cutting es s c =
    sym (sound-accepted es (record { formed = s.formed; ordered = s.ordered; cutting = c })).marked ∙ (sound-accepted es s).marked

-- ---- demand 3

pub judged : (es : List Entry) → Demand3 es (judge es).fault (judge es).place (judge es).starts
unfolding judge
judged es =
    record {
      within = omega (arith, at, ap length u.split ∙ length-append u.before u.from);
      marked =
          subst (λ (l : List ℕ). Marked (take v.place es) (drop v.place es) v.fault l) (sym u.starts)
          (subst₂ (λ (a b : List Entry). Marked a b v.fault (marks 0 at_power_on u.before))
          (sym (ap (take v.place) u.split ∙ take_at u.before u.from v.place at))
          (sym (ap (drop v.place) u.split ∙ drop_at u.before u.from v.place at))
          (marked u.before u.passes (passes-extends u.before u.passes) u.from v.fault u.stop));
      once = one-cutting es;
    }
  where
    v : Verdict
    v = judge_from es begin

    u : Walked es begin v
    u = walked es begin

    at : length u.before ≡ v.place
    at = sym (u.place ∙ zero-add (length u.before))

-- ---- a record without a fault is sound, and the starts are those of its cutting

abbrev pub Cutting : List Entry → List ℕ → Type 0
Cutting es places = (s : Sound es) × (starts s.cutting ≡ places)

whole-cutting : (before from : List Entry) (f : ℕ) (places : List ℕ) → Marked before from f places → f ≡ 0
    → Cutting (before ++ from) places
whole-cutting before from f places m z =
    let es = before ++ from in
    let s = m.sound.0 z in
    let n : length es ≡ length before = length-append before from ∙ rw (m.whole z) (omega arith) in
    let e : below (length es) (starts s.cutting) ≡ starts s.cutting =
    rw (← (sound-accepted es s).marked) (below-marks es 0 (length es) at_power_on (omega arith)) in
    (s, sym (m.begun from s ∙ rw (← n) e))

pub sound-judged : (es : List Entry) → (judge es).fault ≡ 0 → Cutting es (judge es).starts
sound-judged es z =
    let v = judge es in
    subst (λ (l : List Entry). Cutting l v.starts) (take-append-drop v.place es)
    (whole-cutting (take v.place es) (drop v.place es) v.fault v.starts (judged es).marked z)
