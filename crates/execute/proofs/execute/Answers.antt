-- `execute::execute` meets its contract: the reply, which is no longer than 18 bytes, stands at the front of the output.
use Rattle.std.proofs.Common.{◌≡◌, ℕ, ◌≤◌, true, false, ltb, refl, List, ◌++◌, length, take, drop, sym, ap, ◌∙◌, append_assoc, arith, le-ltb, lt-ltb, length-take}
use Rattle.std.proofs.lemmas.List.{drop-append-le, take-append-drop}
use Rattle.execute.specs.Replies.{Outcome}
use Rattle.execute.specs.Execute.{execute, block_in, shown_out, executed, executed_out}
use Rattle.execute.proofs.Replies.{reply-short}
use Rattle.execute.proofs.execute.Goals as goal

-- what a reply leaves of an output, by its first eighteen bytes and the rest
whole : (o : Outcome) (out : List ℕ) → length o.bytes ≤ 18 → 18 ≤ length out
    → shown_out o (take 18 out) ++ drop 18 out ≡ shown_out o out
whole o out h k =
    let n = length o.bytes in
    let long : n ≤ length (take 18 out) = simp length-take (omega arith) in
    append_assoc o.bytes (drop n (take 18 out)) (drop 18 out)
    ∙ ap (λ (l : List ℕ). o.bytes ++ l) (sym (drop-append-le n (take 18 out) (drop 18 out) long) ∙ ap (drop n) (take-append-drop 18 out))

pub returns-in-Some-clause-answer : goal.returns-in-Some-clause-answer
unfolding executed
returns-in-Some-clause-answer c =
    let room : ltb (length c.args.out.now) 18 ≡ false = le-ltb _ 18 c.in-Some.ensures.cases.enough in
    rw (room, c.run.ensures.answer) refl

pub returns-in-Some-clause-output : goal.returns-in-Some-clause-output
unfolding executed_out
returns-in-Some-clause-output c =
    let out = c.args.out.now in
    let front = c.in-Some.ensures.cases in
    let room : ltb (length out) 18 ≡ false = le-ltb _ 18 front.enough in
    let o = execute c.args.settings (block_in c.args.block) in
    let short : length o.bytes ≤ 18 = reply-short c.args.settings (block_in c.args.block) in
    rw room
    (ap (λ (l : List ℕ). l ++ drop 18 out) (c.run.ensures.output ∙ ap (shown_out o) front.same) ∙ whole o out short front.enough)

pub returns-in-None-clause-answer : goal.returns-in-None-clause-answer
unfolding executed
returns-in-None-clause-answer c =
    let room : ltb (length c.args.out.now) 18 ≡ true = lt-ltb _ 18 c.in-None.ensures.cases in
    rw room

pub returns-in-None-clause-output : goal.returns-in-None-clause-output
unfolding executed_out
returns-in-None-clause-output c =
    let room : ltb (length c.args.out.now) 18 ≡ true = lt-ltb _ 18 c.in-None.ensures.cases in
    rw room
