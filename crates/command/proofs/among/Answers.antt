-- `command::among` meets its contract: what is left of the list from a row on gives the same answer as from its own first row.
use Rattle.std.proofs.Common.{◌≡◌, ℕ, zero, suc, ◌+◌, ◌*◌, ◌<◌, Bool, true, false, cond, ◌&&◌, eqb, ltb}
use Rattle.std.proofs.Common.{List, [], ◌∷◌, length, get_or, drop, Option, Some, refl, sym, ◌∙◌, add-one, arith, eq-eqb, ltb-true, ne_eqb, drop-cons}
use native.Mathlib.Decide.{ℕ_discrete}
use Rattle.std.proofs.lemmas.Bool.{and_parts}
use Rattle.command.specs.declared.Command.{Command}
use Rattle.command.specs.declared.ReplyKind.{ReplyKind}
use Rattle.command.specs.declared.ReplyKind.TheVariants.{Ack}
use Rattle.command.specs.declared.Effect.TheVariants.{Local}
use Rattle.command.specs.Commands.{row, commands, lookup}
use Rattle.command.proofs.among.Goals as goal

-- what stands past the end of the list
abbrev blank : Command
blank = row 0 0 (Ack (Local false))

abbrev code : ℕ → ℕ → ℕ
code f c = f * 256 + c

-- the rows hold bytes, by a test of the whole list
bytes : List Command → Bool
bytes [] = true
bytes (r ∷ rs) = ltb r.command 256 && bytes rs

byte_at : (rs : List Command) (i : ℕ) → bytes rs ≡ true → (get_or rs i blank).command < 256
unfolding bytes
byte_at [] i e = omega arith
byte_at (r ∷ rs) zero e = ltb-true r.command 256 (and_parts (ltb r.command 256) (bytes rs) e).0
byte_at (r ∷ rs) (suc i) e = byte_at rs i (and_parts (ltb r.command 256) (bytes rs) e).1

row-byte : (i : ℕ) → (get_or commands i blank).command < 256
unfolding commands bytes
row-byte i = byte_at commands i refl

-- The step of the loop: the row at `i` is the one looked for, or the rest of the list behind it answers.
module _ (table : List Command) (i from f c : ℕ) (all : table ≡ commands) (here : i < length commands)
    (left : lookup (drop i commands) f c ≡ lookup (drop from commands) f c) where
  abbrev r : Command
  r = get_or table i blank

  abbrev rest : ℕ → Option ReplyKind
  rest k = lookup (drop k commands) f c

  from-row : rest i ≡ cond (eqb r.first f && eqb r.command c) (Some r.kind) (rest (i + 1))
  unfolding lookup
  from-row = rw (all, add-one, drop-cons commands i blank)

  found : c < 256 → code r.first r.command ≡ code f c → rest from ≡ Some r.kind
  found h e =
      let small : r.command < 256 = rw all (row-byte i) in
      let p : r.first ≡ f = omega (arith, e, h, small) in
      let q : r.command ≡ c = omega (arith, e, h, small) in
      sym left ∙ from-row ∙ rw (eq-eqb _ _ p, eq-eqb _ _ q)

  passed : (code r.first r.command ≡ code f c → ⊥) → rest (i + 1) ≡ rest from
  passed n = by (ℕ_discrete r.first f) (ℕ_discrete r.command c)
    where
      by : Dec (r.first ≡ f) → Dec (r.command ≡ c) → rest (i + 1) ≡ rest from
      by (yes p) (yes q) = absurd (n (omega (arith, p, q)))
      by (yes p) (no q) = sym (from-row ∙ rw (eq-eqb _ _ p, ne_eqb _ _ q)) ∙ left
      by (no p) q = sym (from-row ∙ rw (ne_eqb _ _ p)) ∙ left

pub returns-then-code-wanted : goal.returns-then-code-wanted
unfolding commands
returns-then-code-wanted c =
    let l = c.loop-i in
    found c.args.table.now l.i c.args.from c.args.first c.args.command c.requires.0 (omega (arith, c.requires.1)) l.invariant (omega arith)
    (omega (arith, c.if-code-wanted.true, c.code.ensures, c.code-wanted.ensures))

pub loop-i-preserved : goal.loop-i-preserved
unfolding commands
loop-i-preserved c =
    let l = c.loop-i in
    passed c.args.table.now l.i c.args.from c.args.first c.args.command c.requires.0 (omega (arith, c.requires.1)) l.invariant
    (λ e. c.if-code-wanted.false (omega (arith, e, c.code.ensures, c.code-wanted.ensures)))

pub returns : goal.returns
returns c =
    let e : c.loop-i.i ≡ c.args.to = omega (arith, c.requires) in
    sym (rw e at c.loop-i.invariant)
