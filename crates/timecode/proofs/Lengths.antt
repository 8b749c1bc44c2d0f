-- BCD bytes and their values, of any number of pairs of digits: each list gives the other back.
use mathlib.Core.List.{List, [], ◌∷◌, map}
use mathlib.Core.Path.{◌≡◌, refl, sym, ap₂}
use Prim.Native.Nat.{ℕ}
use Rattle.timecode.specs.Bcd.{bcd, bcd_value, AllBcd}
use Rattle.timecode.proofs.Bcd.{bcd-value, value-bcd}

pub bcd-values : (ns : List ℕ) → map bcd_value (map bcd ns) ≡ ns
bcd-values [] = refl
bcd-values (n ∷ ns) = ap₂ ◌∷◌ (bcd-value n) (bcd-values ns)

pub values-bcd : (bytes : List ℕ) → AllBcd bytes → map bcd (map bcd_value bytes) ≡ bytes
values-bcd [] h = refl
values-bcd (byte ∷ bytes) h = ap₂ ◌∷◌ (sym (value-bcd byte h.0)) (values-bcd bytes h.1)
