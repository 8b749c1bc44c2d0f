-- `refusal` meets its contract: seven times the length of a record fits.
use mathlib.Core.Path.{sym, ◌∙◌}
use native.Mathlib.Omega.{arith}
use Rattle.record.proofs.Bytes.{record-short}
use Rattle.completion.proofs.refusal.Goals as goal

pub overflow_mul-bytes : goal.overflow_mul-bytes
overflow_mul-bytes c =
    omega (arith, record-short _ (sym c.is_record.ensures ∙ c.if-not-is_record.false))
