-- How many turns there are.
use Rattle.std.proofs.Common.{ℕ, ◌≡◌, ◌≤◌, List, inl, inr, sym, ap, ◌∙◌, length, arith}
use Rattle.std.proofs.lemmas.Bool.{cases_lt}
use Rattle.record.proofs.Bytes.{length-entries}
use Rattle.marker.specs.declared.Marked.{Marked}
use Rattle.marker.specs.Marks.{Marks}
use Rattle.marker.proofs.Taken.{fitting}

-- the marker finds no more turns than the table has places
pub counted : {bytes before after : List ℕ} {r : Marked} → Marks bytes before r after → r.count ≤ length before
counted {bytes} {before} {after} {r} m =
    elim (cases_lt 0 r.no) [
      | inl h ↦ let e : r.count ≡ 0 = ap (λ (x : Marked). x.count) (m.refused (λ z. omega (arith, h, z))).0 in omega (arith, e)
      | inr h ↦
          let z : r.no ≡ 0 = omega (arith, h) in
          omega (arith, m.few z, length-entries bytes, (fitting _ _ (sym m.number ∙ z)).1)
    ]
