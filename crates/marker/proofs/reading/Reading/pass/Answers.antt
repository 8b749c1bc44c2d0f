-- `Reading::pass` meets its contract.
use mathlib.Core.Path.{subst}
use native.Mathlib.Omega.{arith}
use Rattle.record.specs.declared.Entry.{Entry}
use Rattle.marker.specs.Steps.{stepped, Steps}
use Rattle.marker.proofs.Entries.{here, past}
use Rattle.marker.proofs.Judged.{on, counts, has-place}
use Rattle.marker.proofs.reading.Reading.pass.Goals as goal

pub on-self-requires : goal.on-self-requires
on-self-requires c = has-place c.loop-taken.invariant.0 (here _ _ _ c.in-Ok.ensures).0 c.requires.0

pub loop-taken-smaller : goal.loop-taken-smaller
loop-taken-smaller c = rw c.on-self.ensures.reading (omega (arith, here _ _ _ c.in-Ok.ensures))

pub loop-taken-preserved : goal.loop-taken-preserved
loop-taken-preserved c =
    let l = c.loop-taken in
    let h = here _ _ _ c.in-Ok.ensures in
    let t = c.in-Light.stepped in
    let x = subst (λ (e : Entry). Steps l.self.marker e (stepped t)) h.1 c.in-Light.ensures.0 in
    rw (c.on-self.ensures.reading, c.on-self.ensures.table, h.2) (
      on c.args.bytes.now c.args.table.now l.table l.self.marker l.self.count l.self.place l.invariant.0 h.0 t x
          (has-place l.invariant.0 h.0 c.requires.0).1,
      omega (arith, l.invariant.1, counts t.begins l.self.count),
      omega (arith, l.invariant.2),
    )

pub returns : goal.returns
returns c =
    let v = c.loop-taken.invariant in
    record {
      leads = v.0;
      more = v.1;
      onward = v.2;
      ahead = past _ _ _ c.in_default.ensures;
    }
