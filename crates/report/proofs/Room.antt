-- What an output with room holds after a text is written.
use Rattle.std.specs.Prelude.{Result, Ok, Err, IsOk}
use Prim.Native.Nat.{ℕ, ◌≤◌}
use mathlib.Core.Path.{◌≡◌, sym, ap, ◌∙◌}
use mathlib.Core.Bool.{true, false}
use mathlib.Core.List.{List}
use native.Mathlib.Omega.{arith}
use borrow.Author.Tests.{le-ltb, lt-ltb}
use lib.Dec.{ltb}
use Rattle.std.proofs.Common.{inl, inr}
use Rattle.std.proofs.lemmas.Bool.{cases_lt}
use lib.ListN.{length, take, drop, length-take}
use lib.Seq.{take-append_seam}
use Rattle.io.specs.Counts.{IsPrefixLen}
use Rattle.refusal.specs.declared.Refusal.{Refusal}
use Rattle.refusal.specs.declared.Refusal.TheVariants.{Room}
use Rattle.refusal.specs.Written.{Written, written_by}
use Rattle.refusal.proofs.Written.{taken as wrote}
use Rattle.text.specs.declared.Page.{Page}
use Rattle.text.specs.Puts.{Adds}
use Rattle.text.proofs.Putting.{whole}
use Rattle.report.specs.Text.{written_in, written_out}

-- so many bytes are the text at the front
pub counts : (n : ℕ) (out text : List ℕ) → n ≡ length text → take n out ≡ text → IsPrefixLen n out
counts n out text l e =
    let k : n ≡ length (take n out) = l ∙ sym (ap (λ (xs : List ℕ). length xs) e) in
    (omega (arith, k, length-take n out), k)

-- ---- an output with room

module _ (room : ℕ) (text out : List ℕ) (enough : room ≤ length out) where
  long : (written_in room text out).len ≡ length text
  unfolding written_in
  long = rw (le-ltb _ _ enough)

  told : take (written_in room text out).len (written_out room text out) ≡ text
  unfolding written_in written_out
  told = rw (le-ltb _ _ enough) (take-append_seam text (drop (length text) out))

  -- a call that writes is taken
  pub taken : (r : Result ℕ Refusal) → written_by r ≡ written_in room text out → r ≡ Ok (length text)
  unfolding written_in
  taken r e = wrote r (length text) (e ∙ rw (le-ltb _ _ enough))

  -- and as many bytes as it says are the text
  pub front : {r : Result ℕ Refusal} {n : ℕ} {after : List ℕ} → r ≡ Ok n → written_by r ≡ written_in room text out
      → after ≡ written_out room text out → IsPrefixLen n after × (take n after ≡ text)
  front {r} {n} {after} is answer output =
      let len : n ≡ (written_in room text out).len = ap (λ (w : Written). w.len) (ap written_by (sym is) ∙ answer) in
      let e : take n after ≡ text = rw (len, output) told in
      (counts n after text (len ∙ long) e, e)

-- and without, one that is refused
module _ (room : ℕ) (text out : List ℕ) (short : room ≤ length out → false ≡ true) where
  small : ltb (length out) room ≡ true
  small = elim (cases_lt (length out) room) [ inl h ↦ lt-ltb _ _ h | inr h ↦ let e = short h in cc ]

  pub refusal : {e : Refusal} → e ≡ Room → written_by (Err e) ≡ written_in room text out
  unfolding written_in
  refusal is = rw (is, small)

  pub unchanged : out ≡ written_out room text out
  unfolding written_out
  unchanged = rw small

-- ---- a page with room

module _ {A : Type 0} {a b : Page} {text : List ℕ} {r : Result A Refusal} (w : Adds a text b r) (room : ℕ) (start : a.end ≡ 0)
    (enough : room ≤ length a.out.now) (short : length text ≤ room) where
  pub succeeds : IsOk r
  succeeds = (w.fits (omega arith)).0

  pub answers : record { no = 0; len = b.end } ≡ written_in room text a.out.now
  unfolding written_in
  answers =
      let p = (w.fits (omega arith)).1 in
      let n : b.end ≡ length text = omega (arith, p.ends, start) in
      rw (le-ltb _ _ enough, n)

  pub outputs : b.out.now ≡ written_out room text a.out.now
  unfolding written_out
  outputs = rw (le-ltb _ _ enough) (whole (rw start at (w.fits (omega arith)).1))
