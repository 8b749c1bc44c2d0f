-- `command::find` meets its contract: where a part of the list says nothing, the next one answers.
use Rattle.std.proofs.Common.{rules, ◌≡◌, ℕ, Option, Some, None, drop, sym, refl, ap, ◌∙◌}
use Rattle.std.specs.Option.{option_or}
use Rattle.command.specs.declared.ReplyKind.{ReplyKind}
use Rattle.command.specs.Commands.{commands, lookup}
use Rattle.command.proofs.find.Goals as goal

-- what `or_else` hands back, and past the last row
or_next : (r w next last : Option ReplyKind) → (r ≡ None → next ≡ option_or w last) → ((x : ReplyKind) → r ≡ Some x → w ≡ Some x)
    → option_or r next ≡ option_or w last
or_next None w next last n s = n refl
or_next (Some x) w next last n s = rw (s x refl) refl

or_none : (w : Option ReplyKind) → option_or w None ≡ w
or_none None = refl
or_none (Some x) = refl

past_last : (first command : ℕ) → lookup (drop 36 commands) first command ≡ None
unfolding commands lookup
past_last first command = refl

pub returns : goal.returns
returns c =
    let rest : ℕ → Option ReplyKind = λ k. lookup (drop k commands) c.args.first c.args.command in
    let second = or_next c.among.result c.or_else.result (rest 12) (rest 24)
    (λ e. let h = rw e at c.or_else.ensures in search rules) (λ x e. rw e at c.or_else.ensures) in
    let third = or_next c.or_else.result c.or_else-2.result (rest 24) (rest 36)
    (λ e. let h = rw e at c.or_else-2.ensures in search rules) (λ x e. rw e at c.or_else-2.ensures) in
    let last = ap (option_or c.or_else-2.result) (past_last c.args.first c.args.command) ∙ or_none c.or_else-2.result in
    sym (c.among.ensures ∙ second ∙ third ∙ last)
