-- `complete::answer` meets its contract.
use Rattle.std.proofs.Common.{◌≡◌, sym, ap, ◌∙◌, length, take, arith}
use Rattle.std.proofs.lemmas.Grind.{common_steps}
use Rattle.refusal.specs.Written.{Written}
use Rattle.refusal.proofs.Numbers.{refuses}
use Rattle.report.specs.Text.{refused, refused_line}
use Rattle.report.proofs.Room.{counts}
use Rattle.text.proofs.Lengths.{line-few}
use Rattle.text.proofs.Writing.{adds}
use Rattle.complete.specs.Printed.{printed}
use Rattle.complete.proofs.Prints.{prints}
use Rattle.complete.proofs.answer.Goals as goal

pub returns-in-Ok : goal.returns-in-Ok
returns-in-Ok c =
    let a = c.args in
    let answer = c.in-Ok.ensures.answer in
    let s = (prints a.bytes.now a.out.now (omega (arith, c.requires))).0 (sym (ap (λ (r : Written). r.no) answer)) in
    let len = ap (λ (r : Written). r.len) answer in
    let e : take c.in-Ok.len c.complete.new.out ≡ printed a.bytes.now = rw (len, c.in-Ok.ensures.output) s.1 in
    record { prefix_len = counts _ _ _ (len ∙ s.0) e; out_after = e }

pub unwrap-requires : goal.unwrap-requires
unwrap-requires c = ((adds c.line.ensures).fits (omega (arith, line-few refused c.from.result, c.requires, c.complete.auto.out))).0

pub returns-in-Err : goal.returns-in-Err
returns-in-Err c =
    let a = c.args in
    let page = c.line.new.self in
    let no = ap (λ (r : Written). r.no) c.in-Err.ensures.answer in
    let s = (prints a.bytes.now a.out.now (omega (arith, c.requires))).1 (λ z. refuses _ (no ∙ z)) in
    let p = ((adds c.line.ensures).fits (omega (arith, line-few refused c.from.result, c.requires, c.complete.auto.out))).1 in
    let is : refused_line c.from.result ≡ printed a.bytes.now = rw (c.from.ensures, c.number.ensures, no) (sym s) in
    let e : take page.end page.out.now ≡ printed a.bytes.now = p.front ∙ is in
    let n : page.end ≡ length (printed a.bytes.now) = rw (← is) (omega (arith, p.ends)) in
    let same = sym c.line.ensures.same in
    let k = counts _ _ _ n e in
    record { prefix_len = grind (arith, common_steps); out_after = grind (arith, common_steps) }
