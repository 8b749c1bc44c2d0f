-- `Marker::other` meets its contract: a step of the automaton.
use mathlib.Core.Path.{sym, ◌∙◌}
use Rattle.marker.specs.declared.faults.Fault.TheVariants.{Malformed, Falls}
use Rattle.marker.proofs.Forms.{formed-time}
use Rattle.marker.proofs.Filled.{unfilled}
use Rattle.marker.proofs.Whole.{malformed, falls, late, stopped, faulted, gone, again}
use Rattle.marker.proofs.Marker.other.Goals as goal

pub returns-then-not-formed : goal.returns-then-not-formed
returns-then-not-formed c =
    stopped c.args.self c.args.e Malformed (malformed c.args.self c.args.e (sym c.formed.ensures ∙ c.if-not-formed.true))

pub returns-then-e-self : goal.returns-then-e-self
returns-then-e-self c =
    stopped c.args.self c.args.e Falls (falls c.args.self c.args.e (sym c.formed.ensures ∙ c.if-not-formed.false) c.if-e-self.true)

pub look-now-requires : goal.look-now-requires
look-now-requires c = (c.if-e-self.false, formed-time c.args.e (sym c.formed.ensures ∙ c.if-not-formed.false))

pub returns-in_err-fault : goal.returns-in_err-fault
returns-in_err-fault c =
    let well = sym c.formed.ensures ∙ c.if-not-formed.false in
    let a = c.args in
    faulted a.self a.e c.in_err-fault.field-0.0 (late a.self a.e c.look-now.result c.look-now.ensures well c.if-e-self.false ∙ sym c.in_err-fault.ensures)
    c.from_residual.result c.from_residual.ensures.1

pub act-requires : goal.act-requires
act-requires c =
    let well = sym c.formed.ensures ∙ c.if-not-formed.false in
    let a = c.args in
    record {
      formed = well;
      timed =
          record {
            clock = c.look-now.ensures.clock;
            range = formed-time a.e well;
            silent = again a.self a.e c.look-now.result c.look-now.ensures;
          };
      unfilled = unfilled a.self c.look-now.result a.e c.requires well c.if-e-self.false c.look-now.ensures
          (sym c.in_ok-fault.ensures);
    }

pub returns : goal.returns
returns c =
    let well = sym c.formed.ensures ∙ c.if-not-formed.false in
    let a = c.args in
    gone a.self a.e c.look-now.result c.act.result c.look-now.ensures c.act.ensures well c.if-e-self.false
    (sym c.in_ok-fault.ensures) c.begins.result c.begins.ensures
