-- A record that is taken, and one that is refused.
use Prim.Native.Nat.{ℕ, suc, ◌/◌, ◌≤◌, ◌<◌}
use mathlib.Core.Path.{◌≡◌, refl, sym, ◌∙◌, subst}
use mathlib.Core.Bool.{Bool, true, false, cond}
use mathlib.Core.List.{List}
use borrow.Author.Tests.{lt-ltb, le-ltb, ltb-false}
use lib.Dec.{ltb}
use lib.ListN.{length}
use Rattle.record.specs.Bytes.{entries_of, is_record}
use Rattle.record.specs.Marks.{Demand3}
use Rattle.record.specs.Machine.{Verdict}
use Rattle.record.proofs.Bytes.{record-short}
use Rattle.record.proofs.Theorem.{judged}
use Rattle.marker.specs.declared.Marked.{Marked}
use Rattle.marker.specs.Marks.{refusal, nothing, Runs, Marks}

passed : (n m : ℕ) (a : Bool) → cond a m (suc n) ≡ 0 → (a ≡ true) × (m ≡ 0)
passed n m true e = (refl, e)
passed n m false e = (cc, cc)

enough : (a : Bool) → cond {A = ℕ} a 1 0 ≡ 0 → a ≡ false
enough true e = cc
enough false e = refl

module _ (size room : ℕ) where
  pub no_record : is_record size ≡ false → 10 ≡ refusal size room
  unfolding refusal
  no_record p = rw p

  module _ (p : is_record size ≡ true) where
    pub no_room : room < size / 12 → 1 ≡ refusal size room
    unfolding refusal
    no_room h = rw (p, lt-ltb room (size / 12) h)

    pub fit : size / 12 ≤ room → 0 ≡ refusal size room
    unfolding refusal
    fit h = rw (p, le-ltb room (size / 12) h)

pub fitting : (size room : ℕ) → refusal size room ≡ 0 → (size ≤ 65532) × (size / 12 ≤ room)
unfolding refusal
fitting size room e =
    let p = passed 9 _ (is_record size) e in
    (record-short size p.0, ltb-false room (size / 12) (enough (ltb room (size / 12)) p.1))

module _ (bytes before : List ℕ) (n : ℕ) (p : n ≡ refusal (length bytes) (length before)) where
  pub refuses : (n ≡ 0 → ⊥) → Marks bytes before (nothing n) before
  refuses o =
      record {
        number = p;
        refused = λ _. (refl, refl);
        demand = λ z. absurd (o z);
        few = λ z. absurd (o z);
        rest = λ z. absurd (o z);
      }

  pub takes : n ≡ 0 → (r : Marked) (after : List ℕ) → Runs bytes before r after → Marks bytes before r after
  takes z r after x =
      record {
        number = x.no ∙ sym z ∙ p;
        refused = λ o. absurd (o x.no);
        demand = λ _. subst (λ (v : Verdict). Demand3 (entries_of bytes) v.fault v.place v.starts) (sym x.verdict)
            (judged (entries_of bytes));
        few = λ _. x.few;
        rest = λ _. x.rest;
      }
