-- `run` meets its contract.
use mathlib.Core.Path.{refl, ap, ◌∙◌, subst}
use native.Mathlib.Omega.{arith}
use Rattle.record.specs.declared.Entry.{Entry}
use Rattle.record.proofs.Bytes.{length-entries}
use Rattle.std.specs.Prelude.{Err}
use Rattle.marker.specs.Faults.{fault_or_0}
use Rattle.marker.specs.Steps.{stepped, stepped_by, Steps}
use Rattle.marker.proofs.Entries.{here}
use Rattle.marker.proofs.Judged.{begins-so, across, ended, faulty, on, err-number, has-place}
use Rattle.marker.proofs.reading.run.Goals as goal

pub loop-taken-init : goal.loop-taken-init
loop-taken-init c = rw c.start-reading.ensures (begins-so c.args.bytes.now c.args.table.now _ refl)

pub on-reading-requires : goal.on-reading-requires
on-reading-requires c =
    let s = rw c.in-Fills.is at c.pass-ahead.ensures.ahead in
    has-place (across c.loop-taken.invariant c.pass-ahead.ensures.leads c.pass-ahead.ensures.more) (here _ _ _ s.0).0 c.requires

pub loop-taken-smaller-in-Fills : goal.loop-taken-smaller-in-Fills
loop-taken-smaller-in-Fills c =
    let s = rw c.in-Fills.is at c.pass-ahead.ensures.ahead in
    rw c.on-reading.ensures.reading (omega (arith, c.pass-ahead.ensures.onward, here _ _ _ s.0))

pub loop-taken-preserved-in-Fills : goal.loop-taken-preserved-in-Fills
loop-taken-preserved-in-Fills c =
    let a = c.args in
    let r = c.pass-ahead.result.0 in
    let v = across c.loop-taken.invariant c.pass-ahead.ensures.leads c.pass-ahead.ensures.more in
    let s = rw c.in-Fills.is at c.pass-ahead.ensures.ahead in
    let h = here _ _ _ s.0 in
    let t = c.fill.result in
    let x = subst (λ (e : Entry). Steps r.marker e (stepped t)) h.1 c.fill.ensures in
    rw (c.on-reading.ensures.reading, c.on-reading.ensures.table, h.2)
    (on a.bytes.now a.table.now c.pass-ahead.new.table r.marker r.count r.place v h.0 t x (has-place v h.0 c.requires).1)

pub on-reading-requires-in-Ok : goal.on-reading-requires-in-Ok
on-reading-requires-in-Ok c =
    let s = rw c.in-Heavy.is at c.pass-ahead.ensures.ahead in
    has-place (across c.loop-taken.invariant c.pass-ahead.ensures.leads c.pass-ahead.ensures.more) (here _ _ _ s.0).0 c.requires

pub loop-taken-smaller : goal.loop-taken-smaller
loop-taken-smaller c =
    let s = rw c.in-Heavy.is at c.pass-ahead.ensures.ahead in
    rw c.on-reading-in-Ok.ensures.reading (omega (arith, c.pass-ahead.ensures.onward, here _ _ _ s.0))

pub loop-taken-preserved : goal.loop-taken-preserved
loop-taken-preserved c =
    let a = c.args in
    let r = c.pass-ahead.result.0 in
    let v = across c.loop-taken.invariant c.pass-ahead.ensures.leads c.pass-ahead.ensures.more in
    let s = rw c.in-Heavy.is at c.pass-ahead.ensures.ahead in
    let h = here _ _ _ s.0 in
    let t = c.in-Ok.stepped in
    let x = subst (λ (e : Entry). Steps r.marker e (stepped t)) h.1 c.in-Ok.ensures in
    rw (c.on-reading-in-Ok.ensures.reading, c.on-reading-in-Ok.ensures.table, h.2)
    (on a.bytes.now a.table.now c.pass-ahead.new.table r.marker r.count r.place v h.0 t x (has-place v h.0 c.requires).1)

pub returns-in-Err : goal.returns-in-Err
returns-in-Err c =
    let a = c.args in
    let r = c.pass-ahead.result.0 in
    let v = across c.loop-taken.invariant c.pass-ahead.ensures.leads c.pass-ahead.ensures.more in
    let s = rw c.in-Heavy.is at c.pass-ahead.ensures.ahead in
    let h = here _ _ _ s.0 in
    let f = c.in-Err.fault in
    let x = subst (λ (e : Entry). Steps r.marker e (stepped_by r.marker (Err f))) h.1 c.in-Err.ensures in
    rw c.found.ensures
    (record {
      no = refl;
      verdict = faulty a.bytes.now a.table.now c.pass-ahead.new.table r.marker r.count r.place v h.0 f x;
      few = omega (arith, v.few, v.within, length-entries a.bytes.now);
      rest = v.rest;
    })

pub returns-in-End : goal.returns-in-End
returns-in-End c =
    let a = c.args in
    let r = c.pass-ahead.result.0 in
    let v = across c.loop-taken.invariant c.pass-ahead.ensures.leads c.pass-ahead.ensures.more in
    rw c.found-in-End.ensures
    (record {
      no = refl;
      verdict = ended a.bytes.now a.table.now c.pass-ahead.new.table r.marker r.count r.place v
          (rw c.in-End.is at c.pass-ahead.ensures.ahead) _
          (ap fault_or_0 c.err.ensures.value ∙ err-number c.ends.result ∙ c.ends.ensures);
      few = omega (arith, v.few, v.within, length-entries a.bytes.now);
      rest = v.rest;
    })
