-- The contract of `mark` leaves one answer: what it returns, and what the table holds then.
--
-- That a lent slice keeps its length is proved of each function beside its contract, and is a premise here. The claims alone do
-- not say it: of one entry that begins no turn, with one place, they would also let the count be 1 and the table end up empty.
use Prim.Native.Nat.{ℕ, zero, suc}
use mathlib.Core.Path.{◌≡◌, refl, sym, ap, ap₂, ◌∙◌}
use mathlib.Core.List.{List, ◌++◌}
use native.Mathlib.Omega.{arith}
use lib.ListN.{length, take, drop, take-append-drop}
use lib.Seq.{length-take-le}
use Rattle.record.proofs.Bytes.{length-entries}
use Rattle.record.proofs.Unique.{one_answer as one-demand}
use Rattle.std.specs.Prelude.{Option, Some, None, Result, Ok, Err}
use Rattle.refusal.specs.declared.Refusal.{Refusal}
use Rattle.refusal.proofs.Numbers.{refuses, apart as refusal-numbers}
use Rattle.marker.specs.declared.faults.Fault.{Fault}
use Rattle.marker.specs.declared.Findings.{Findings}
use Rattle.marker.specs.declared.Marked.{Marked}
use Rattle.marker.specs.Faults.{fault_or_0}
use Rattle.marker.specs.Marks.{nothing, marked_by, Marks}
use Rattle.marker.proofs.Numbers.{above, apart as fault-numbers}
use Rattle.marker.proofs.Taken.{fitting}

-- the table has a place for each start that is counted
pub starts_fit : {bytes before after : List ℕ} {r : Marked} → length after ≡ length before → Marks bytes before r after → r.no ≡ 0
    → length (take r.count after) ≡ r.count
starts_fit {bytes} {before} {after} {r} l a z =
    length-take-le r.count after
    (omega (arith, a.few z, length-entries bytes, (fitting (length bytes) (length before) (sym a.number ∙ z)).1))

pub one_answer : {bytes before after other : List ℕ} {r s : Marked} → length after ≡ length before → length other ≡ length before
    → Marks bytes before r after → Marks bytes before s other → (r ≡ s) × (after ≡ other)
one_answer {bytes} {before} {after} {other} {r} {s} l m a b = by_number r.no refl
  where
    number : r.no ≡ s.no
    number = a.number ∙ sym b.number

    refused : (r.no ≡ 0 → ⊥) → (r ≡ s) × (after ≡ other)
    refused n =
        let x = a.refused n in
        let y = b.refused (λ z. n (number ∙ z)) in
        (x.0 ∙ ap nothing number ∙ sym y.0, x.1 ∙ sym y.1)

    taken : r.no ≡ 0 → (r ≡ s) × (after ≡ other)
    taken z =
        let y : s.no ≡ 0 = sym number ∙ z in
        let (fault, place, starts) = one-demand (a.demand z) (b.demand y) in
        let count : r.count ≡ s.count = sym (starts_fit l a z) ∙ ap length starts ∙ starts_fit m b y in
        let same : r ≡ s = λ i. record { no = number i; fault = fault i; place = place i; count = count i } in
        let rest = a.rest z ∙ ap (λ (k : ℕ). drop k before) count ∙ sym (b.rest y) in
        (same, sym (take-append-drop r.count after) ∙ ap₂ ◌++◌ starts rest ∙ take-append-drop s.count other)

    by_number : (n : ℕ) → r.no ≡ n → (r ≡ s) × (after ≡ other)
    by_number zero z = taken z
    by_number (suc n) z = refused (λ y. omega arith)

-- ---- and so of what it returns: no two results are one in those numbers

fault_apart : (f g : Option Fault) → fault_or_0 f ≡ fault_or_0 g → f ≡ g
fault_apart None None e = refl
fault_apart None (Some g) e = absurd (above g (sym e))
fault_apart (Some f) None e = absurd (above f e)
fault_apart (Some f) (Some g) e = ap Some (fault-numbers f g e)

result_apart : (r s : Result Findings Refusal) → marked_by r ≡ marked_by s → r ≡ s
result_apart (Err c) (Err d) e = ap Err (refusal-numbers c d (ap (λ (m : Marked). m.no) e))
result_apart (Ok f) (Ok g) e =
    let fault : f.fault ≡ g.fault = fault_apart f.fault g.fault (ap (λ (m : Marked). m.fault) e) in
    let place : f.place ≡ g.place = ap (λ (m : Marked). m.place) e in
    let count : f.count ≡ g.count = ap (λ (m : Marked). m.count) e in
    λ i. Ok (record { fault = fault i; place = place i; count = count i })
result_apart (Ok f) (Err d) e = absurd (refuses d (sym (ap (λ (m : Marked). m.no) e)))
result_apart (Err c) (Ok g) e = absurd (refuses c (ap (λ (m : Marked). m.no) e))

pub one_result : {bytes before after other : List ℕ} {r s : Result Findings Refusal} → length after ≡ length before
    → length other ≡ length before → Marks bytes before (marked_by r) after → Marks bytes before (marked_by s) other
    → (r ≡ s) × (after ≡ other)
one_result {r = r} {s} l m a b = let (same, table) = one_answer l m a b in (result_apart r s same, table)
