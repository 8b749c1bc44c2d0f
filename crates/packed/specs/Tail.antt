-- Bytes that came one after the other, in two numbers.
use Rattle.std.specs.Prelude.{ℕ, List, [], ◌∷◌, ◌++◌, take, drop}
use Rattle.packed.specs.declared.Tail.{Tail}
use Rattle.packed.specs.Numbers.{low_first, low_bytes}

-- the latest sixteen, the latest first
abbrev pub recent : Tail → List ℕ
recent t = low_bytes 8 t.low ++ low_bytes 8 t.high

-- the numbers of the first sixteen bytes; zeros stand for what a shorter list lacks
abbrev pub kept : List ℕ → Tail
kept l = record { low = low_first (take 8 l); high = low_first (take 8 (drop 8 l)) }

-- a list from its end
abbrev pub backward : List ℕ → List ℕ
backward [] = []
backward (b ∷ bytes) = backward bytes ++ b ∷ []

-- the latest so many, at most sixteen, in the order in which they came
unfoldable pub latest : ℕ → Tail → List ℕ
latest n t = backward (take n (recent t))
