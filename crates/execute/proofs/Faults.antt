-- A full block that breaks a rule gets the one NAK that names its fault, and the settings stay.
use Rattle.std.proofs.Common.{Some, None, ◌≡◌, ℕ, false, List, get_or, ◌∙◌}
use Rattle.block.specs.Read.{read_no, read_data}
use Rattle.settings.specs.declared.Settings.{Settings}
use Rattle.command.specs.declared.Effect.{Effect}
use Rattle.command.specs.declared.ReplyKind.TheVariants.{Ack, TapeTime, Status}
use Rattle.command.specs.Commands.{commands, lookup}
use Rattle.effects.specs.Effects.{fits}
use Rattle.execute.specs.Replies.{refused, undefined, bad_checksum}
use Rattle.execute.specs.Execute.{within, carry, execute}
use Rattle.execute.proofs.Carried.{carry-undefined, carry-unfit, carry-kind, execute-read, execute-bad}

module _ (s : Settings) (block : List ℕ) where
  -- checksum first
  pub bad-checksum : (read_no block ≡ 0 → ⊥) → execute s block ≡ refused s bad_checksum
  bad-checksum = execute-bad s block

  module _ (reads : read_no block ≡ 0) where
    -- then the command with its exact count
    pub not_listed : lookup commands (get_or block 0 0) (get_or block 1 0) ≡ None → execute s block ≡ refused s undefined
    not_listed e = execute-read s block reads ∙ (carry-kind s (read_data block) _ _ e ∙ carry-undefined s (read_data block))

    -- then the data: a time that is none, or a byte that is not among those listed
    pub no-time : (e : Effect) → lookup commands (get_or block 0 0) (get_or block 1 0) ≡ Some (Ack e) → fits e (read_data block) ≡ false
        → execute s block ≡ refused s undefined
    no-time e k h = execute-read s block reads ∙ (carry-kind s (read_data block) _ _ k ∙ carry-unfit s (read_data block) e h)

    pub no-time-sense : lookup commands (get_or block 0 0) (get_or block 1 0) ≡ Some TapeTime
        → within 0x01 0x04 (get_or (read_data block) 0 0) ≡ false → execute s block ≡ refused s undefined
    unfolding carry
    no-time-sense k h = execute-read s block reads ∙ (carry-kind s (read_data block) _ _ k ∙ rw h)

    pub no-status : lookup commands (get_or block 0 0) (get_or block 1 0) ≡ Some Status
        → within 0x01 0x0D (get_or (read_data block) 0 0) ≡ false → execute s block ≡ refused s undefined
    unfolding carry
    no-status k h = execute-read s block reads ∙ (carry-kind s (read_data block) _ _ k ∙ rw h)
