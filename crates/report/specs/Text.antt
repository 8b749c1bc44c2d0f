-- What the programs print in common: a refusal, and a text in an output.
use Rattle.std.specs.Prelude.{ℕ, cond, List, [], ◌∷◌, ◌++◌, ltb, length, drop}
use Rattle.refusal.specs.Written.{Written}
use Rattle.text.specs.Text.{line}

-- "refused 10"
abbrev pub refused : List ℕ
refused = 114 ∷ 101 ∷ 102 ∷ 117 ∷ 115 ∷ 101 ∷ 100 ∷ 32 ∷ []

abbrev pub refused_line : ℕ → List ℕ
refused_line number = line refused number

-- 1 ROOM for an output with less than so much room, with nothing written; else the length of the text
unfoldable pub written_in : ℕ → (text out : List ℕ) → Written
written_in room text out =
    cond (ltb (length out) room) (record { no = 1; len = 0 }) (record { no = 0; len = length text })

-- the text at the front of the output, the rest untouched
unfoldable pub written_out : ℕ → (text out : List ℕ) → List ℕ
written_out room text out = cond (ltb (length out) room) out (text ++ drop (length text) out)
