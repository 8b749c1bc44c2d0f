-- A number out of lent bytes.
use Rattle.std.specs.Prelude.{ℕ, ◌+◌, ◌*◌, List, slice_index}

-- the first four bytes, the lowest first; a byte that is missing counts as 0
abbrev pub first_four : List ℕ → ℕ
first_four args = slice_index args 0 + 256 * (slice_index args 1 + 256 * (slice_index args 2 + 256 * slice_index args 3))
