-- What is written, where the output has room.
use Prim.Native.Nat.{ℕ, ◌≤◌}
use mathlib.Core.Path.{◌≡◌, refl}
use mathlib.Core.Bool.{Bool, true, false, cond}
use mathlib.Core.List.{List, ◌++◌}
use native.Mathlib.Omega.{arith}
use borrow.Author.Tests.{le-ltb}
use lib.Dec.{eqb}
use lib.ListN.{length, take, drop}
use lib.Seq.{take-append_seam}
use Rattle.refusal.specs.Written.{Written}
use Rattle.completion.specs.Calls.{is_exercise, room_for, refusal, completion, written, written_out}
use Rattle.report.specs.Text.{refused_line}
use Rattle.complete.specs.Printed.{printed}

module _ (bytes out : List ℕ) (room : room_for bytes ≤ length out) where
  refusal_is : refusal bytes (length out) ≡ cond (is_exercise bytes) 0 10
  unfolding refusal
  refusal_is = rw (le-ltb (length out) (room_for bytes) room)

  abbrev r : Written
  r = written bytes out

  -- the number is 0, and the record is written; or it is 10, and that is printed
  pub prints : ((r.no ≡ 0) → (r.len ≡ length (printed bytes)) × (take r.len (written_out bytes out) ≡ printed bytes))
      × ((r.no ≡ 0 → ⊥) → printed bytes ≡ refused_line r.no)
  unfolding written written_out printed
  prints = rw refusal_is (go (is_exercise bytes))
    where
      text : List ℕ
      text = completion bytes

      w : ℕ → Written
      w n = cond (eqb n 0) (record { no = 0; len = length text }) (record { no = n; len = 0 })

      go : (b : Bool)
          → (((w (cond b 0 10)).no ≡ 0) → ((w (cond b 0 10)).len ≡ length (cond b text (refused_line 10)))
          × (take (w (cond b 0 10)).len (cond (eqb (cond b 0 10) 0) (text ++ drop (length text) out) out)
          ≡ cond b text (refused_line 10)))
          × (((w (cond b 0 10)).no ≡ 0 → ⊥) → cond b text (refused_line 10) ≡ refused_line (w (cond b 0 10)).no)
      go true = (λ z. (refl, take-append_seam text (drop (length text) out)), λ n. absurd (n refl))
      go false = (λ z. absurd (omega arith), λ n. refl)
