-- `standing::put_settings` meets its contract: five lines, one behind the other.
use mir.Syntax.{w32}
use mir.Val.{SFits}
use mir.ValLaws.{to_z-of_z}
use borrow.Author.Rules.{rules}
use Rattle.text.proofs.Writing.{adds, behind, stops}
use Rattle.report.proofs.Lines.{settings-joined}
use Rattle.report.proofs.standing.put_settings.Goals as goal

pub returns-in_err-hex_line : goal.returns-in_err-hex_line
returns-in_err-hex_line c =
    rw (settings-joined c.args.settings) (stops (rw c.status.ensures at (adds c.hex_line.ensures)) c.in_err-hex_line.was _ _)

pub returns-in_err-put_time : goal.returns-in_err-put_time
returns-in_err-put_time c =
    rw (settings-joined c.args.settings)
    (behind (rw c.status.ensures at (adds c.hex_line.ensures)) (stops c.put_time.ensures c.in_err-put_time.was _ _))

pub returns-in_err-put_time-2 : goal.returns-in_err-put_time-2
returns-in_err-put_time-2 c =
    rw (settings-joined c.args.settings)
    (behind (rw c.status.ensures at (adds c.hex_line.ensures))
    (behind c.put_time.ensures (stops c.put_time-2.ensures c.in_err-put_time-2.was _ _)))

pub returns-in_err-put_time-3 : goal.returns-in_err-put_time-3
returns-in_err-put_time-3 c =
    rw (settings-joined c.args.settings)
    (behind (rw c.status.ensures at (adds c.hex_line.ensures))
    (behind c.put_time.ensures (behind c.put_time-2.ensures (stops c.put_time-3.ensures c.in_err-put_time-3.was _ _))))

pub returns : goal.returns
returns c =
    let s = c.args.settings in
    let fits : SFits w32 s.speed = search rules in
    let speed = rw (to_z-of_z w32 s.speed fits) at c.put_speed.ensures in
    rw (settings-joined s)
    (behind (rw c.status.ensures at (adds c.hex_line.ensures))
    (behind c.put_time.ensures (behind c.put_time-2.ensures (behind c.put_time-3.ensures speed))))
