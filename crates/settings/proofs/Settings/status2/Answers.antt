-- `Settings::status2` meets its contract: flag by flag, since all six at once are more cases than the search splits.
use Rattle.std.proofs.Common.{rules, ◌≡◌}
use Rattle.settings.specs.Status.{bit, is_mode, still, below_zero}
use Rattle.settings.specs.declared.Mode.TheVariants.{Jog, Variable, Shuttle}
use Rattle.settings.proofs.StatusBytes.{byte2}
use Rattle.settings.proofs.Settings.status2.Goals as goal

pub returns : goal.returns
returns c =
    let s = c.args.self in
    let cued : c.from.result ≡ bit s.cued = search rules in
    let held : c.from-2.result ≡ bit (still s) = search rules in
    let reverse : c.from-3.result ≡ bit (below_zero s.speed) = search rules in
    let variable : c.from-4.result ≡ bit (is_mode s.mode Variable) = search rules in
    let jog : c.from-5.result ≡ bit (is_mode s.mode Jog) = search rules in
    let shuttle : c.from-6.result ≡ bit (is_mode s.mode Shuttle) = search rules in
    rw (cued, held, reverse, variable, jog, shuttle) (byte2 s).is
