-- Texts by computation, in one table.
use Prim.Native.Nat.{ℕ}
use mathlib.Core.List.{List, [], ◌∷◌, map}
use mathlib.Core.Path.{◌≡◌, refl}
use Rattle.text.specs.Text.{digits_of, decimal, hexes, line, at_line, hex_line}
use Rattle.text.specs.Writes.{put_in, put_out}

-- a text and its bytes
pub record Case : Type 0 where
  pub text : List ℕ
  pub bytes : List ℕ

abbrev pub cases : List Case
cases =
    -- "0"
    record { text = decimal 0; bytes = 48 ∷ [] } ∷
    -- "2159999"
    record { text = decimal 2159999; bytes = 50 ∷ 49 ∷ 53 ∷ 57 ∷ 57 ∷ 57 ∷ 57 ∷ [] } ∷
    -- "18446744073709551615"
    record {
      text = decimal 18446744073709551615;
      bytes = 49 ∷ 56 ∷ 52 ∷ 52 ∷ 54 ∷ 55 ∷ 52 ∷ 52 ∷ 48 ∷ 55 ∷ 51 ∷ 55 ∷ 48 ∷ 57 ∷ 53 ∷ 53 ∷ 49 ∷ 54 ∷ 49 ∷ 53 ∷ [];
    } ∷
    -- " 00 A9 9F FF"
    record { text = hexes (0x0 ∷ 0xA9 ∷ 0x9F ∷ 0xFF ∷ []); bytes = 32 ∷ 48 ∷ 48 ∷ 32 ∷ 65 ∷ 57 ∷ 32 ∷ 57 ∷ 70 ∷ 32 ∷ 70 ∷ 70 ∷ [] } ∷
    -- "turn 10"
    record { text = line (116 ∷ 117 ∷ 114 ∷ 110 ∷ 32 ∷ []) 10; bytes = 116 ∷ 117 ∷ 114 ∷ 110 ∷ 32 ∷ 49 ∷ 48 ∷ 10 ∷ [] } ∷
    -- "fault 24 at 3"
    record {
      text = at_line (102 ∷ 97 ∷ 117 ∷ 108 ∷ 116 ∷ 32 ∷ []) 24 3;
      bytes = 102 ∷ 97 ∷ 117 ∷ 108 ∷ 116 ∷ 32 ∷ 50 ∷ 52 ∷ 32 ∷ 97 ∷ 116 ∷ 32 ∷ 51 ∷ 10 ∷ [];
    } ∷
    -- "time 10 01 11"
    record {
      text = hex_line (116 ∷ 105 ∷ 109 ∷ 101 ∷ []) (0x10 ∷ 0x1 ∷ 0x11 ∷ []);
      bytes = 116 ∷ 105 ∷ 109 ∷ 101 ∷ 32 ∷ 49 ∷ 48 ∷ 32 ∷ 48 ∷ 49 ∷ 32 ∷ 49 ∷ 49 ∷ 10 ∷ [];
    } ∷
    -- ""
    record { text = hex_line [] []; bytes = 10 ∷ [] } ∷
    []

pub examples : map (λ (c : Case). c.text) cases ≡ map (λ (c : Case). c.bytes) cases
unfolding digits_of hexes line at_line hex_line
examples = refl

-- into an output of three: two bytes fit at 1, and at 2 they do not
pub rooms : (put_in (7 ∷ 8 ∷ 9 ∷ []) 1 (97 ∷ 98 ∷ []) ∷ put_in (7 ∷ 8 ∷ 9 ∷ []) 2 (97 ∷ 98 ∷ []) ∷ [])
    ≡ record { no = 0; end = 3 } ∷ record { no = 1; end = 0 } ∷ []
unfolding put_in
rooms = refl

-- at 2 nothing is written
pub outputs : (put_out (7 ∷ 8 ∷ 9 ∷ []) 1 (97 ∷ []) ∷ put_out (7 ∷ 8 ∷ 9 ∷ []) 2 (97 ∷ 98 ∷ []) ∷ [])
    ≡ (7 ∷ 97 ∷ 9 ∷ []) ∷ (7 ∷ 8 ∷ 9 ∷ []) ∷ []
unfolding put_out
outputs = refl
