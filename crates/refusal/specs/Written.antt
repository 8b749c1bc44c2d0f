-- What a call returns that writes into a lent output.
use Rattle.std.specs.Prelude.{ℕ, Result, Ok, Err}
use Rattle.refusal.specs.declared.Refusal.{Refusal}
use Rattle.refusal.specs.Numbers.{number_of}

-- 0 and how many bytes were written, or the number that refuses the call
pub record Written : Type 0 where
  pub no : ℕ
  pub len : ℕ

-- an answer, as number and length: 0 where it refuses
abbrev pub written_by : Result ℕ Refusal → Written
written_by (Ok n) = record { no = 0; len = n }
written_by (Err e) = record { no = number_of e; len = 0 }
