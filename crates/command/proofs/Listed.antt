-- The listed commands: each counts in its first byte the data bytes that it looks at, at most four.
use mathlib.Core.Path.{◌≡◌, refl, ap, ◌∙◌}
use mathlib.Core.Bool.{Bool, true, false, cond, ◌&&◌}
use mathlib.Core.List.{List, [], ◌∷◌}
use Prim.Native.Nat.{ℕ, ◌%◌, ◌≤◌, ◌<◌}
use native.Mathlib.Omega.{arith}
use borrow.Author.Tests.{eqb-true}
use lib.Dec.{eqb}
use Rattle.std.proofs.lemmas.Bool.{and_parts}
use Rattle.std.specs.Prelude.{Option, Some, None}
use Rattle.command.specs.declared.Command.{Command}
use Rattle.command.specs.declared.Effect.{Effect}
use Rattle.command.specs.declared.Effect.TheVariants.{Local, Standby, Transport, Take, Preset, Shift, Flag}
use Rattle.command.specs.declared.Motion.TheVariants.{Run, Vary, Step, Cue, Eject}
use Rattle.command.specs.declared.ReplyKind.{ReplyKind}
use Rattle.command.specs.declared.ReplyKind.TheVariants.{Ack, Device, PointTime, TapeTime, Status}
use Rattle.command.specs.Commands.{commands, lookup}

-- the number of data bytes that a command looks at
abbrev pub wants_of : Effect → ℕ
wants_of (Local b) = 0
wants_of (Standby b) = 0
wants_of (Transport (Run m v)) = 0
wants_of (Transport (Vary m way)) = 1
wants_of (Transport (Step way)) = 0
wants_of (Transport Cue) = 4
wants_of (Transport Eject) = 0
wants_of (Take w) = 0
wants_of (Preset w) = 4
wants_of (Shift w way) = 0
wants_of (Flag w b) = 0

abbrev pub wants : ReplyKind → ℕ
wants (Ack e) = wants_of e
wants Device = 0
wants (PointTime w) = 0
wants TapeTime = 1
wants Status = 1

-- the test of the whole list
counted : List Command → Bool
counted [] = true
counted (r ∷ rs) = eqb (wants r.kind) (r.first % 16) && counted rs

-- what a list that passes it finds
abbrev pub Found : Option ReplyKind → ℕ → Type 0
Found None first = Unit {0}
Found (Some kind) first = wants kind ≡ first % 16

either : (t : Bool) (kind other : Option ReplyKind) (first : ℕ) → (t ≡ true → Found kind first) → Found other first
    → Found (cond t kind other) first
either true kind other first h k = h refl
either false kind other first h k = k

finds : (rs : List Command) (first command : ℕ) → counted rs ≡ true → Found (lookup rs first command) first
unfolding counted lookup
finds [] first command e = tt
finds (r ∷ rs) first command e =
    let p = and_parts (eqb (wants r.kind) (r.first % 16)) (counted rs) e in
    either (eqb r.first first && eqb r.command command) (Some r.kind) (lookup rs first command) first
    (λ h. let same = eqb-true r.first first (and_parts (eqb r.first first) (eqb r.command command) h).0 in
    eqb-true (wants r.kind) (r.first % 16) p.0 ∙ ap (λ (n : ℕ). n % 16) same)
    (finds rs first command p.1)

pub listed : (first command : ℕ) → Found (lookup commands first command) first
unfolding commands counted
listed first command = finds commands first command refl

-- ---- none is longer than five bytes with its command byte

wants-of-most : (e : Effect) → wants_of e ≤ 4
wants-of-most (Local b) = omega arith
wants-of-most (Standby b) = omega arith
wants-of-most (Transport (Run m v)) = omega arith
wants-of-most (Transport (Vary m way)) = omega arith
wants-of-most (Transport (Step way)) = omega arith
wants-of-most (Transport Cue) = omega arith
wants-of-most (Transport Eject) = omega arith
wants-of-most (Take w) = omega arith
wants-of-most (Preset w) = omega arith
wants-of-most (Shift w way) = omega arith
wants-of-most (Flag w b) = omega arith

wants-most : (kind : ReplyKind) → wants kind ≤ 4
wants-most (Ack e) = wants-of-most e
wants-most Device = omega arith
wants-most (PointTime w) = omega arith
wants-most TapeTime = omega arith
wants-most Status = omega arith

unlisted : (found : Option ReplyKind) (first : ℕ) → 4 < first % 16 → Found found first → found ≡ None
unlisted None first h f = refl
unlisted (Some kind) first h f = absurd (omega (arith, f, h, wants-most kind))

pub unlisted-long : (first command : ℕ) → 4 < first % 16 → lookup commands first command ≡ None
unlisted-long first command h = unlisted (lookup commands first command) first h (listed first command)
