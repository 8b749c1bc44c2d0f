-- The loop over the entries: what is left of the record leads to the verdict on the whole.
use Prim.Native.Nat.{ℕ, suc, ◌+◌, ◌-◌, ◌/◌, ◌≤◌, ◌<◌, ◌^◌}
use mathlib.Core.Path.{◌≡◌, refl, sym, ap, ◌∙◌}
use mathlib.Core.Bool.{Bool, true, false, cond}
use mathlib.Core.List.{List, [], ◌++◌, append-nil}
use native.Mathlib.Omega.{arith}
use native.Mathlib.Numerals.{add-one}
use borrow.Author.Tests.{ne_eqb}
use lib.ListN.{length, take, drop, get_or, set, length-set, drop_of_length-le}
use lib.Seq.{take-suc-set, drop-set-lt, drop-drop}
use Rattle.deck.specs.Calls.{view}
use Rattle.record.specs.declared.Entry.{Entry}
use Rattle.record.specs.Entries.{keep}
use Rattle.record.specs.Bytes.{entries_of, no_entry}
use Rattle.record.specs.Machine.{State, Outcome, goes, stops, begin, resting, verdict, follow, judge_from, judge}
use Rattle.record.proofs.Bytes.{length-entries, entries_from}
use Rattle.marker.specs.declared.Marker.{Marker}
use Rattle.marker.specs.declared.Stepped.{Stepped as Taken}
use Rattle.std.specs.Prelude.{Result, Ok, Err}
use Rattle.std.specs.Result.{result_err}
use Rattle.marker.specs.declared.faults.Fault.{Fault}
use Rattle.marker.specs.Faults.{fault_number, fault_or_0, fault_in}
use Rattle.marker.specs.Steps.{awaited, state, new_marker, Stepped, stepped, stepped_by, outcome, Steps}
use Rattle.marker.proofs.Numbers.{above}
use Rattle.marker.specs.Marks.{Roomy, Leads}

-- the marker before the first entry is the automaton's first state
pub new-begins : state 0 [] new_marker ≡ begin
new-begins = refl

pub begins-so : (bytes before : List ℕ) (m : Marker) → m ≡ new_marker → Leads bytes before before m 0 0
unfolding judge
begins-so bytes before m p =
    record {
      within = omega arith;
      few = omega arith;
      size = refl;
      leads = ap (judge_from (entries_of bytes)) (ap (state 0 []) p ∙ new-begins);
      rest = refl;
    }

-- from one table on, and then from the next
pub across : {bytes before table after : List ℕ} {m n : Marker} {count more i j : ℕ} → Leads bytes before table m count i
    → Leads bytes table after n more j → count ≤ more → Leads bytes before after n more j
across {before = before} {table} {count = count} {more} v u h =
    let e : count + (more - count) ≡ more = omega arith in
    let rest : drop (count + (more - count)) table ≡ drop (count + (more - count)) before =
    sym (drop-drop (more - count) count table) ∙ ap (drop (more - count)) v.rest ∙ drop-drop (more - count) count before in
    record {
      within = u.within;
      few = u.few;
      size = u.size ∙ v.size;
      leads = u.leads;
      rest = u.rest ∙ rw e at rest;
    }

module _ (bytes before table : List ℕ) (m : Marker) (count i : ℕ) (v : Leads bytes before table m count i) where
  abbrev es : List Entry
  es = entries_of bytes

  abbrev s : State
  s = state i (take count table) m

  -- at the end
  pub ended : length bytes / 12 ≤ i → (f : ℕ) → f ≡ cond (resting (view m.deck) (awaited m.waits)) 0 26
      → verdict f s ≡ judge es
  unfolding judge_from
  ended h f p =
      let none : drop i es ≡ [] = drop_of_length-le es {i = i} (omega (arith, length-entries bytes)) in
      ap (λ (x : ℕ). verdict x s) p
      ∙ sym (ap (λ (l : List Entry). judge_from l s) none)
      ∙ v.leads

  module _ (h : i < length bytes / 12) where
    -- by the outcome of the next entry
    walk : (r : Stepped) → Steps m (get_or es i no_entry) r → (o : Outcome) → outcome i (take count table) r ≡ o
        → follow o s (judge_from (drop (i + 1) es)) ≡ judge es
    unfolding judge_from
    walk r x o p =
        ap (λ (y : Outcome). follow y s (judge_from (drop (i + 1) es))) (sym p ∙ x.steps i (take count table))
        ∙ sym (ap (λ (l : List Entry). judge_from l s) (entries_from bytes i h))
        ∙ v.leads

    pub faulty : (f : Fault) → Steps m (get_or es i no_entry) (stepped_by m (Err f)) → verdict (fault_number f) s ≡ judge es
    faulty f x = walk (stepped_by m (Err f)) x (stops (fault_number f)) (rw (ne_eqb (fault_number f) 0 (above f)))

    module _ (t : Taken) (x : Steps m (get_or es i no_entry) (stepped t)) where
      onward : (starts : List ℕ) → take count table ++ keep t.begins i [] ≡ starts
          → judge_from (drop (i + 1) es) (state (i + 1) starts t.marker) ≡ judge es
      onward starts p =
          ap (λ (l : List ℕ). judge_from (drop (i + 1) es) (state (i + 1) l t.marker)) (sym p)
          ∙ ap (λ (k : ℕ). judge_from (drop (i + 1) es) (state k (take count table ++ keep t.begins i []) t.marker)) (add-one i)
          ∙ walk (stepped t) x (goes (state (suc i) (take count table ++ keep t.begins i []) t.marker)) refl

      -- an entry without a fault
      pub on : count < length table
          → Leads bytes before (cond t.begins (set table count i) table) t.marker (cond t.begins (count + 1) count) (i + 1)
      on c = by t.begins refl
        where
          by : (b : Bool) → t.begins ≡ b
              → Leads bytes before (cond b (set table count i) table) t.marker (cond b (count + 1) count) (i + 1)
          by true p =
              record {
                within = omega arith;
                few = omega (arith, v.few);
                size = simp length-set v.size;
                leads = onward (take (count + 1) (set table count i)) (rw (p, add-one count, take-suc-set));
                rest =
                    rw (drop-set-lt (count + 1) table count i (omega arith))
                    (sym (drop-drop 1 count table) ∙ ap (drop 1) v.rest ∙ drop-drop 1 count before);
              }
          by false p =
              record {
                within = omega arith;
                few = omega (arith, v.few);
                size = v.size;
                leads = onward (take count table) (rw (p, append-nil));
                rest = v.rest;
              }

-- no start goes
pub counts : (b : Bool) (n : ℕ) → n ≤ cond b (n + 1) n
counts true n = omega arith
counts false n = omega arith

-- the fault that an end has
pub err-number : {A : Type 0} (r : Result A Fault) → fault_or_0 (result_err r) ≡ fault_in r
err-number (Ok a) = refl
err-number (Err f) = refl

-- there is a place for one start more
pub has-room : {bytes before after : List ℕ} {m : Marker} {count place : ℕ} → Leads bytes before after m count place
    → place < length bytes / 12 → length bytes ≤ 65532 → length bytes / 12 ≤ length before
    → (place ≤ 65532) × (count < length after) × (count < 65532)
has-room v h most room =
    (omega (arith, v.within), omega (arith, v.few, v.size), omega (arith, v.few, v.within))

-- what a start that is written there asks for
pub has-place : {bytes before after : List ℕ} {m : Marker} {count place : ℕ} → Leads bytes before after m count place
    → place < length bytes / 12 → Roomy bytes before → (place < 2 ^ 32) × (count < length after)
has-place v h r =
    let (few, free, least) = has-room v h r.short r.room in
    (omega (arith, few), free)
