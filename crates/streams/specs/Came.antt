-- How much came.
use Rattle.std.specs.Prelude.{ℕ, Result, Ok, Err}
use Rattle.streams.specs.declared.Cut.{Cut}

-- the bytes that came, whether a read failed or not
abbrev pub came : Result ℕ Cut → ℕ
came (Ok count) = count
came (Err cut) = cut.count
