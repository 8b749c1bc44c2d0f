-- Document 01, "Commands": the settings, and power-on.
use Rattle.std.specs.Prelude.{Bool, true, false, cond, ℕ, ℤ, pos}
use Rattle.settings.specs.declared.Mode.{Mode}
use Rattle.settings.specs.declared.Mode.TheVariants.{Stop}
use Rattle.settings.specs.declared.Which.{Which}
use Rattle.settings.specs.declared.Which.TheVariants.{In, Out}
use Rattle.settings.specs.declared.Point.{Point}
use Rattle.settings.specs.declared.Settings.{Settings}

-- an entry point (In or Out): its position and its flag
abbrev pub point : ℕ → Bool → Point
point p flag = record { at = p; on = flag }

-- cassette in, mode, speed; local on, standby on, cue-done; position, In, Out
abbrev pub settings : Bool → Mode → ℤ → Bool → Bool → Bool → ℕ → Point → Point → Settings
settings c m v l s q p i o =
    record {
      cassette = c;
      mode = m;
      local = l;
      speed = v;
      standby = s;
      cued = q;
      position = p;
      inon = i.on;
      outon = o.on;
      inat = i.at;
      outat = o.at;
    }

-- "Power-on: cassette in, stop, speed 0, local on, all flags off, position, In and Out 0."
abbrev pub power_on : Settings
power_on = settings true Stop (pos 0) true false false 0 (point 0 false) (point 0 false)

abbrev pub point_of : Which → Settings → Point
point_of In s = point s.inat s.inon
point_of Out s = point s.outat s.outon

-- ---- one setting or group of settings changed, all others kept

abbrev pub with_local : Bool → Settings → Settings
with_local b s =
    settings s.cassette s.mode s.speed b s.standby s.cued s.position (point_of In s) (point_of Out s)

abbrev pub with_standby : Bool → Settings → Settings
with_standby b s =
    settings s.cassette s.mode s.speed s.local b s.cued s.position (point_of In s) (point_of Out s)

abbrev pub with_cued : Bool → Settings → Settings
with_cued b s =
    settings s.cassette s.mode s.speed s.local s.standby b s.position (point_of In s) (point_of Out s)

abbrev pub with_position : ℕ → Settings → Settings
with_position p s =
    settings s.cassette s.mode s.speed s.local s.standby s.cued p (point_of In s) (point_of Out s)

abbrev pub with_motion : Mode → ℤ → Settings → Settings
with_motion m v s =
    settings s.cassette m v s.local s.standby s.cued s.position (point_of In s) (point_of Out s)

abbrev pub with_cassette : Bool → Settings → Settings
with_cassette b s =
    settings b s.mode s.speed s.local s.standby s.cued s.position (point_of In s) (point_of Out s)

abbrev pub with_point : Which → Point → Settings → Settings
with_point In p s =
    settings s.cassette s.mode s.speed s.local s.standby s.cued s.position p (point_of Out s)
with_point Out p s =
    settings s.cassette s.mode s.speed s.local s.standby s.cued s.position (point_of In s) p

-- "Loading a cassette that was out gives stop, speed 0; one that is in, no change."
unfoldable pub loaded : Settings → Settings
loaded s = cond s.cassette s (with_cassette true (with_motion Stop (pos 0) s))
