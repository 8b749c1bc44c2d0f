-- `put_entry` meets its contract.
use mathlib.Core.Path.{refl, sym, ◌∙◌}
use native.Mathlib.Omega.{arith}
use borrow.Author.Tests.{ne_eqb}
use Rattle.refusal.specs.Numbers.{number_of}
use Rattle.refusal.proofs.Numbers.{refuses}
use Rattle.text.proofs.Writing.{adds}
use Rattle.report.specs.Answered.{standing, call_lines}
use Rattle.report.proofs.Answering.{entry-lines, entry-stands, entry-small, malformed-lines, malformed-stands}
use Rattle.report.proofs.entries.put_entry.Goals as goal

pub returns-then-not-meant : goal.returns-then-not-meant
returns-then-not-meant c =
    let a = c.args in
    let s = standing a.deck.now in
    let m = sym c.meant.ensures ∙ c.if-not-meant.true in
    record { lines = rw (malformed-lines s a.e m a.k) (adds c.line.ensures); after = sym (malformed-stands s a.e m) }

pub put_answer-requires : goal.put_answer-requires
put_answer-requires c =
    let a = c.args in
    let m = sym c.meant.ensures ∙ c.if-not-meant.false in
    omega (arith, entry-small a.deck.now a.e _ _ _ refl m c.in-Ok.ensures, c.hand.auto.out)

pub returns-in-Ok : goal.returns-in-Ok
unfolding call_lines
returns-in-Ok c =
    let a = c.args in
    let m = sym c.meant.ensures ∙ c.if-not-meant.false in
    record {
      lines = rw (← entry-lines a.deck.now a.e _ _ _ refl m c.in-Ok.ensures a.k) c.put_answer.ensures;
      after = entry-stands a.deck.now a.e _ _ _ refl m c.in-Ok.ensures;
    }

pub returns-in-Err : goal.returns-in-Err
unfolding call_lines
returns-in-Err c =
    let a = c.args in
    let m = sym c.meant.ensures ∙ c.if-not-meant.false in
    let why = c.in-Err.why in
    let line = rw (c.from.ensures, c.number.ensures) at (adds c.at_line.ensures) in
    record {
      lines = rw (← entry-lines a.deck.now a.e _ _ _ refl m c.in-Err.ensures a.k, ne_eqb (number_of why) 0 (refuses why)) line;
      after = entry-stands a.deck.now a.e _ _ _ refl m c.in-Err.ensures;
    }
