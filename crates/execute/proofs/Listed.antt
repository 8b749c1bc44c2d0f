-- Data bytes that a listed command does not count do not matter to it.
use Rattle.std.proofs.Common.{Option, Some, None, ◌≡◌, ℕ, ◌%◌, List, length, get_or, take, refl, arith, take_all, get_or-take}
use Rattle.settings.specs.declared.Settings.{Settings}
use Rattle.command.specs.declared.Effect.{Effect}
use Rattle.command.specs.declared.Effect.TheVariants.{Local, Standby, Transport, Take, Preset, Shift, Flag}
use Rattle.command.specs.declared.Motion.TheVariants.{Run, Vary, Step, Cue, Eject}
use Rattle.command.specs.declared.ReplyKind.{ReplyKind}
use Rattle.command.specs.declared.ReplyKind.TheVariants.{Ack, Device, PointTime, TapeTime, Status}
use Rattle.command.specs.Commands.{commands, lookup}
use Rattle.command.proofs.Listed.{wants_of, wants, Found, listed}
use Rattle.effects.specs.Effects.{transport, perform}
use Rattle.execute.specs.Execute.{carry}

module _ (s : Settings) (bytes : List ℕ) (four : length bytes ≡ 4) where
  all : take 4 bytes ≡ bytes
  all = take_all 4 bytes (omega (arith, four))

  one : get_or (take 1 bytes) 0 0 ≡ get_or bytes 0 0
  one = get_or-take 1 bytes 0 0 (omega arith)

  wanted-of : (e : Effect) → carry (Some (Ack e)) s (take (wants_of e) bytes) ≡ carry (Some (Ack e)) s bytes
  unfolding carry perform transport
  wanted-of (Local b) = refl
  wanted-of (Standby b) = refl
  wanted-of (Transport (Run m v)) = refl
  wanted-of (Transport (Vary m way)) = rw one
  wanted-of (Transport (Step way)) = refl
  wanted-of (Transport Cue) = rw all
  wanted-of (Transport Eject) = refl
  wanted-of (Take w) = refl
  wanted-of (Preset w) = rw all
  wanted-of (Shift w way) = refl
  wanted-of (Flag w b) = refl

  wanted : (kind : ReplyKind) → carry (Some kind) s (take (wants kind) bytes) ≡ carry (Some kind) s bytes
  unfolding carry
  wanted (Ack e) = wanted-of e
  wanted Device = refl
  wanted (PointTime w) = refl
  wanted TapeTime = rw one
  wanted Status = rw one

  found : (kind : Option ReplyKind) (first : ℕ) → Found kind first → carry kind s (take (first % 16) bytes) ≡ carry kind s bytes
  unfolding carry
  found None first e = refl
  found (Some kind) first e = rw (← e) (wanted kind)

  pub listed-data : (first command : ℕ)
      → carry (lookup commands first command) s (take (first % 16) bytes) ≡ carry (lookup commands first command) s bytes
  listed-data first command = found (lookup commands first command) first (listed first command)
