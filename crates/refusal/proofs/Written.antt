-- A call that writes, where its number says that it was taken.
use Rattle.std.specs.Prelude.{ℕ, Result, Ok, Err, ◌≡◌}
use Rattle.std.proofs.Common.{ap}
use Rattle.refusal.specs.declared.Refusal.{Refusal}
use Rattle.refusal.specs.Written.{Written, written_by}
use Rattle.refusal.proofs.Numbers.{refuses}

pub taken : (r : Result ℕ Refusal) (len : ℕ) → written_by r ≡ record { no = 0; len = len } → r ≡ Ok len
taken (Ok n) len e = ap (λ (w : Written). Ok w.len) e
taken (Err x) len e = absurd (refuses x (ap (λ (w : Written). w.no) e))
