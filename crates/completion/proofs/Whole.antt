-- The whole call, from its tests and the record that was put.
use Rattle.std.proofs.lemmas.Bool.{and_parts}
use Rattle.std.specs.Prelude.{Result, Ok, Err, is_ok}
use Prim.Native.Nat.{ℕ, ◌≤◌}
use mathlib.Core.Path.{◌≡◌, refl, sym, ap, ◌∙◌}
use mathlib.Core.Bool.{Bool, true, false, cond, false≢true}
use mathlib.Core.List.{List}
use native.Mathlib.Omega.{arith}
use borrow.Author.Tests.{ltb-false, ne_eqb}
use lib.Dec.{ltb}
use lib.ListN.{length}
use Rattle.refusal.specs.declared.Refusal.{Refusal}
use Rattle.refusal.specs.Numbers.{number_of}
use Rattle.refusal.specs.Written.{written_by}
use Rattle.refusal.proofs.Numbers.{refuses}
use Rattle.record.specs.Bytes.{entries_of, is_record}
use Rattle.text.specs.declared.Page.{Page}
use Rattle.text.specs.Puts.{Puts, Adds}
use Rattle.text.proofs.Putting.{whole}
use Rattle.completion.specs.Calls.{all_follow, is_exercise, room_for, refusal, completion, written, written_out}
use Rattle.completion.proofs.Costs.{completion-fits}

neither : (a b : Bool) → cond {A = ℕ} a (cond b 1 0) 10 ≡ 0 → (a ≡ true) × (b ≡ false)
neither true false p = (refl, refl)
neither true true p = absurd (omega arith)
neither false b p = absurd (omega arith)

module _ (bytes : List ℕ) where
  taken : (room : ℕ) → refusal bytes room ≡ 0 → (room_for bytes ≤ room) × (all_follow 0 (entries_of bytes) ≡ true)
  unfolding refusal is_exercise
  taken room p =
      let q = neither _ (ltb room (room_for bytes)) p in
      (ltb-false room (room_for bytes) q.1, (and_parts (is_record (length bytes)) _ q.0).1)

  module _ (out : List ℕ) where
    pub call-refused : (e : Refusal) → number_of e ≡ refusal bytes (length out)
        → (written_by (Err e) ≡ written bytes out) × (out ≡ written_out bytes out)
    unfolding written written_out
    call-refused e is = let n = ne_eqb (number_of e) 0 (refuses e) in (rw (← is, n), rw (← is, n))

    module _ (none : refusal bytes (length out) ≡ 0) where
      pub call-follows : all_follow 0 (entries_of bytes) ≡ true
      call-follows = (taken (length out) none).1

      -- the record is put
      module _ {a b : Page} {r : Result (Unit {0}) Refusal} (w : Adds a (completion bytes) b r) (at : a.end ≡ 0) (lent : a.out.now ≡ out) where
        put : (is_ok r ≡ true) × Puts out 0 (completion bytes) b.out.now b.end
        put =
            let room = (taken (length out) none).0 in
            let e = ap length lent in
            rw (at, lent) at (w.fits (omega (arith, room, e, completion-fits bytes)))

        pub never : {e : Refusal} → r ≡ Err e → ⊥
        never is = false≢true (sym (ap is_ok is) ∙ put.0)

        pub call-answered : (written_by (Ok b.end) ≡ written bytes out) × (b.out.now ≡ written_out bytes out)
        unfolding written written_out
        call-answered =
            let e : b.end ≡ length (completion bytes) = omega (arith, put.1.ends) in
            (rw (none, e), rw none (whole put.1))
