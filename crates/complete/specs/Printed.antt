-- What the program `complete` writes.
use Rattle.std.specs.Prelude.{ℕ, cond, List}
use Rattle.completion.specs.Calls.{is_exercise, completion}
use Rattle.report.specs.Text.{refused_line}

-- the completed record; for bytes that are no exercise, `refused 10` alone
unfoldable pub printed : List ℕ → List ℕ
printed bytes = cond (is_exercise bytes) (completion bytes) (refused_line 10)
