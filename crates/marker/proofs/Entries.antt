-- What the cursor takes: an entry of the record, and the place after it, or none past the last.
use Prim.Native.Nat.{ℕ, ◌+◌, ◌/◌, ◌≤◌, ◌<◌}
use mathlib.Core.Path.{◌≡◌, ap, ◌∙◌}
use mathlib.Core.List.{List}
use native.Mathlib.Decide.{dec_le}
use native.Mathlib.Omega.{arith}
use lib.ListN.{length, get_or}
use Rattle.std.specs.Prelude.{Ok, Err}
use Rattle.refusal.specs.declared.Refusal.{Refusal}
use Rattle.refusal.proofs.Numbers.{refuses}
use Rattle.record.specs.Bytes.{entries_of, no_entry}
use Rattle.cursor.specs.declared.Taken.{Taken as Got}
use Rattle.cursor.specs.Cursors.{Taken, taken_by, taken_at}
use Rattle.cursor.proofs.Places.{taken_in, taken-past}

module _ (bytes : List ℕ) (i : ℕ) where
  -- an entry of the record, and the place after it is one on
  pub here : (t : Got) → taken_by i (Ok t) ≡ taken_at bytes i
      → (i < length bytes / 12) × (t.entry ≡ get_or (entries_of bytes) i no_entry) × (t.place ≡ i + 1)
  here t p = by (dec_le (length bytes / 12) i)
    where
      by : Dec (length bytes / 12 ≤ i) → (i < length bytes / 12) × (t.entry ≡ get_or (entries_of bytes) i no_entry) × (t.place ≡ i + 1)
      by (yes h) = absurd (omega (arith, ap (λ (x : Taken). x.no) (p ∙ taken-past bytes i h)))
      by (no h) =
          let k : i < length bytes / 12 = omega arith in
          let q = p ∙ taken_in bytes i k in
          (k, ap (λ (x : Taken). x.entry) q, ap (λ (x : Taken). x.place) q)

  -- none, at the end
  pub past : (e : Refusal) → taken_by i (Err e) ≡ taken_at bytes i → length bytes / 12 ≤ i
  past e p = by (dec_le (length bytes / 12) i)
    where
      by : Dec (length bytes / 12 ≤ i) → length bytes / 12 ≤ i
      by (yes h) = h
      by (no h) =
          let k : i < length bytes / 12 = omega arith in
          absurd (refuses e (ap (λ (x : Taken). x.no) (p ∙ taken_in bytes i k)))
