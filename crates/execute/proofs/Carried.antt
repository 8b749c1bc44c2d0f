-- What a command comes to, case by case.
use Rattle.std.proofs.Common.{Option, Some, None, ◌≡◌, ℕ, false, List, get_or, sym, refl, ap, ◌∙◌, eq-eqb, ne_eqb}
use Rattle.block.specs.Read.{read_no, read_data}
use Rattle.settings.specs.declared.Settings.{Settings}
use Rattle.command.specs.declared.Effect.{Effect}
use Rattle.command.specs.declared.ReplyKind.{ReplyKind}
use Rattle.command.specs.declared.ReplyKind.TheVariants.{Ack}
use Rattle.command.specs.Commands.{commands, lookup}
use Rattle.effects.specs.Effects.{fits}
use Rattle.execute.specs.declared.Executed.{Executed}
use Rattle.execute.specs.Replies.{Outcome, refused, undefined, bad_checksum}
use Rattle.execute.specs.Execute.{carry, execute, shown, shown_out}

-- an answer, and an output, that shows one outcome shows any that equals it
pub as-answer : {o p : Outcome} {r : Executed} → o ≡ p → r ≡ shown p → r ≡ shown o
as-answer e h = h ∙ ap shown (sym e)

pub as-output : (entry : List ℕ) {o p : Outcome} {exit : List ℕ} → o ≡ p → exit ≡ shown_out p entry
    → exit ≡ shown_out o entry
as-output entry e h = h ∙ ap (λ (q : Outcome). shown_out q entry) (sym e)

module _ (s : Settings) (bytes : List ℕ) where
  pub carry-undefined : carry None s bytes ≡ refused s undefined
  unfolding carry
  carry-undefined = refl

  pub carry-unfit : (e : Effect) → fits e bytes ≡ false → carry (Some (Ack e)) s bytes ≡ refused s undefined
  unfolding carry
  carry-unfit e h = rw h

  pub carry-kind : (k l : Option ReplyKind) → k ≡ l → carry k s bytes ≡ carry l s bytes
  carry-kind k l e = ap (λ (x : Option ReplyKind). carry x s bytes) e

-- a full block
module _ (s : Settings) (block : List ℕ) where
  pub execute-read : read_no block ≡ 0
      → execute s block ≡ carry (lookup commands (get_or block 0 0) (get_or block 1 0)) s (read_data block)
  unfolding execute
  execute-read e = rw (eq-eqb (read_no block) 0 e)

  pub execute-bad : (read_no block ≡ 0 → ⊥) → execute s block ≡ refused s bad_checksum
  unfolding execute
  execute-bad e = rw (ne_eqb (read_no block) 0 e)
