-- Lines one behind the other.
use Prim.Native.Nat.{ℕ, ◌+◌, ◌<◌}
use mathlib.Core.Path.{◌≡◌, refl, sym, ap, ◌∙◌}
use mathlib.Core.List.{List, [], ◌∷◌, ◌++◌, append-nil, append_assoc}
use lib.ListN.{length, take, drop, get_or, take-append-drop}
use Rattle.std.proofs.lemmas.List.{take_more}
use Rattle.text.specs.Text.{hex_line}
use Rattle.settings.specs.declared.Settings.{Settings}
use Rattle.settings.specs.Status.{status_bytes}
use Rattle.report.specs.Transcript.{speed_line, time_line, time_lines, settings_lines}
use Rattle.report.specs.Verdict.{turn_line, turn_lines}

turns-joined : (xs ys : List ℕ) → turn_lines (xs ++ ys) ≡ turn_lines xs ++ turn_lines ys
unfolding turn_lines
turns-joined [] ys = refl
turns-joined (x ∷ xs) ys = rw (turns-joined xs ys, append_assoc)

turns-one : (x : ℕ) → turn_lines (x ∷ []) ≡ turn_line x
unfolding turn_lines
turns-one x = append-nil (turn_line x)

pub turns_more : (starts : List ℕ) (i : ℕ) → i < length starts
    → turn_lines (take (i + 1) starts) ≡ turn_lines (take i starts) ++ turn_line (get_or starts i 0)
turns_more starts i h = rw (take_more starts i 0 h, turns-joined, turns-one)

-- round one of them
pub turns_around : (starts : List ℕ) (i : ℕ) → i < length starts
    → turn_lines starts ≡ turn_lines (take i starts) ++ (turn_line (get_or starts i 0) ++ turn_lines (drop (i + 1) starts))
turns_around starts i h =
    ap turn_lines (sym (take-append-drop (i + 1) starts)) ∙ turns-joined (take (i + 1) starts) (drop (i + 1) starts)
    ∙ rw (turns_more starts i h) (append_assoc (turn_lines (take i starts)) _ _)

-- the last five lines, one behind the other
pub settings-joined : (s : Settings) → settings_lines s ≡ hex_line (115 ∷ 116 ∷ 97 ∷ 116 ∷ 117 ∷ 115 ∷ []) (status_bytes s)
    ++ (time_line (116 ∷ 105 ∷ 109 ∷ 101 ∷ []) s.position
    ++ (time_line (105 ∷ 110 ∷ []) s.inat ++ (time_line (111 ∷ 117 ∷ 116 ∷ []) s.outat ++ speed_line s.speed)))
unfolding settings_lines time_lines
settings-joined s = simp append_assoc
