-- 24 bytes in three numbers.
use Rattle.std.specs.Prelude.{List, ◌++◌, ℕ, take, drop}
use Rattle.packed.specs.declared.Packed.{Packed}
use Rattle.packed.specs.Numbers.{low_first, low_bytes}

abbrev pub unpacked : Packed → List ℕ
unpacked p = low_bytes 8 p.low ++ (low_bytes 8 p.mid ++ low_bytes 8 p.high)

-- the numbers of the first 24 bytes; zeros stand for what a shorter list lacks
abbrev pub packed : List ℕ → Packed
packed l =
    record {
      low = low_first (take 8 l);
      mid = low_first (take 8 (drop 8 l));
      high = low_first (take 8 (drop 16 l));
    }
