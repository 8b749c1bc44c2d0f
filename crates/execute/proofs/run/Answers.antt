-- `execute::run` meets its contract.
use Rattle.std.proofs.Common.{◌≡◌, ℕ, ◌+◌, ◌%◌, ◌<◌, ◌⊎◌, sym, ap, ◌∙◌, inl, inr, arith, rules}
use lib.Bits.{bit_and, and_mask}
use Rattle.execute.specs.Replies.{refused}
use Rattle.execute.proofs.Carried.{as-answer, as-output, carry-kind}
use Rattle.execute.proofs.Handed.{refusal, short-bad, short-read}
use Rattle.execute.proofs.run.Goals as goal
use Rattle.execute.proofs.run.Goals.{then-block-gt-LISTED-via-then-block-gt-LISTED, then-block-gt-LISTED-via-else-block-gt-LISTED+then-block-from}

-- the length by the first byte, as the code takes it
low-four : (first n : ℕ) → n ≡ bit_and first 15 → n + 1 ≡ first % 16 + 1
low-four first n e = omega (arith, and_mask first 4, e)

pub returns-then-block-gt-LISTED : goal.returns-then-block-gt-LISTED
returns-then-block-gt-LISTED c =
    let b = c.args.block in
    let tested : (5 < b.count) ⊎ (b.count ≡ b.first % 16 + 1 → ⊥) = elim c.then-block-gt-LISTED.branch [
      | then-block-gt-LISTED-via-then-block-gt-LISTED w ↦ inl w.if-block-gt-LISTED.true
      | then-block-gt-LISTED-via-else-block-gt-LISTED+then-block-from w ↦
          inr (λ e. w.if-block-from.true (e ∙ sym (low-four b.first _ w.from.ensures)))
    ] in
    let s = c.args.settings in
    let same = refusal s b tested ∙ ap (refused s) (sym c.why.ensures) in
    record { answer = as-answer same c.refuse.ensures.answer; output = as-output c.args.out.now same c.refuse.ensures.output }

pub short-short-requires : goal.short-short-requires
short-short-requires c =
    (omega (arith, c.if-block-from.false ∙ low-four c.args.block.first _ c.from.ensures), c.if-block-gt-LISTED.false)

pub returns-then-sum-block : goal.returns-then-sum-block
returns-then-sum-block c =
    let b = c.args.block in
    let s = c.args.settings in
    let short = c.short-short in
    let sized = c.if-block-from.false ∙ low-four b.first _ c.from.ensures in
    let same =
    short-bad s b short.result.command short.result.«data» (search rules) c.if-block-gt-LISTED.false sized
    short.ensures.bytes short.ensures.sum (λ e. c.if-sum-block.true (c.sum.ensures ∙ e)) in
    let refuse = c.refuse-then-sum-block.ensures in
    record { answer = as-answer same refuse.answer; output = as-output c.args.out.now same refuse.output }

pub returns : goal.returns
returns c =
    let b = c.args.block in
    let s = c.args.settings in
    let short = c.short-short in
    let sized = c.if-block-from.false ∙ low-four b.first _ c.from.ensures in
    let read =
    short-read s b short.result.command short.result.«data» (search rules) c.if-block-gt-LISTED.false sized
    short.ensures.bytes short.ensures.sum (sym c.sum.ensures ∙ c.if-sum-block.false) in
    let same = read ∙ carry-kind s short.result.«data» _ _ (sym c.find-kind.ensures) in
    record { answer = as-answer same c.carry.ensures.answer; output = as-output c.args.out.now same c.carry.ensures.output }
