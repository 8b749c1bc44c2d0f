-- `standing::put_time` meets its contract.
use Prim.Native.Nat.{ℕ}
use mathlib.Core.Path.{◌≡◌, refl, ap, ◌∙◌}
use mathlib.Core.List.{List, [], ◌∷◌}
use Rattle.std.specs.Prelude.{Result, Ok, Err}
use Rattle.std.specs.Result.{result_unwrap_or}
use Rattle.refusal.specs.declared.Refusal.{Refusal}
use Rattle.timecode.specs.Time.{Timed, timed_by}
use Rattle.text.proofs.Writing.{adds}
use Rattle.report.proofs.standing.put_time.Goals as goal

bytes : (r : Result (List ℕ) Refusal) → result_unwrap_or r (0 ∷ 0 ∷ 0 ∷ 0 ∷ []) ≡ (timed_by r).bytes
bytes (Ok b) = refl
bytes (Err e) = refl

pub returns : goal.returns
returns c =
    let is = c.unwrap_or.ensures ∙ bytes c.time.result ∙ ap (λ (t : Timed). t.bytes) c.time.ensures in
    rw is at (adds c.hex_line.ensures)
