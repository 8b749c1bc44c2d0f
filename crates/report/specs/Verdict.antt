-- Document 01, "Line examples": what the program `mark` prints.
use Rattle.std.specs.Prelude.{ℕ, ◌+◌, ◌*◌, cond, List, [], ◌∷◌, ◌++◌, eqb, length}
use Rattle.marker.specs.declared.Marked.{Marked}
use Rattle.text.specs.Text.{line, at_line}
use Rattle.report.specs.Text.{refused_line}

-- "sound 1"
abbrev pub sound_line : ℕ → List ℕ
sound_line turns = line (115 ∷ 111 ∷ 117 ∷ 110 ∷ 100 ∷ 32 ∷ []) turns

-- "fault 24 at 3"
abbrev pub fault_line : (fault place : ℕ) → List ℕ
fault_line fault place = at_line (102 ∷ 97 ∷ 117 ∷ 108 ∷ 116 ∷ 32 ∷ []) fault place

-- "turn 0"
abbrev pub turn_line : ℕ → List ℕ
turn_line start = line (116 ∷ 117 ∷ 114 ∷ 110 ∷ 32 ∷ []) start

-- a line for each turn start, in order
unfoldable pub turn_lines : List ℕ → List ℕ
turn_lines [] = []
turn_lines (start ∷ starts) = turn_line start ++ turn_lines starts

-- the first line of a record that is not refused
unfoldable pub verdict_line : Marked → List ℕ
verdict_line m = cond (eqb m.fault 0) (sound_line m.count) (fault_line m.fault m.place)

-- "turn lines follow sound and fault alike. A refusal prints `refused 10` alone"
unfoldable pub text_of : Marked → List ℕ → List ℕ
text_of m starts = cond (eqb m.no 0) (verdict_line m ++ turn_lines starts) (refused_line m.no)

-- every text fits into so many bytes
abbrev pub room_for : List ℕ → ℕ
room_for starts = 64 + 16 * length starts
