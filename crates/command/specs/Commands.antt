-- Document 01, "Commands": the list. Codes as first byte and command byte.
use Rattle.std.specs.Prelude.{true, false, cond, ◌&&◌, List, [], ◌∷◌, Option, Some, None, ℕ, eqb, pos, negsuc}
use Rattle.command.specs.declared.Command.{Command}
use Rattle.command.specs.declared.ReplyKind.{ReplyKind}
use Rattle.command.specs.declared.ReplyKind.TheVariants.{Ack, Device, PointTime, TapeTime, Status}
use Rattle.command.specs.declared.Direction.TheVariants.{Forward, Reverse}
use Rattle.command.specs.declared.Effect.TheVariants.{Local, Standby, Transport, Take, Preset, Shift, Flag}
use Rattle.command.specs.declared.Motion.TheVariants.{Run, Vary, Step, Cue, Eject}
use Rattle.settings.specs.declared.Mode.TheVariants.{Stop, Play, Record, FastForward, Rewind, Jog, Variable, Shuttle}
use Rattle.settings.specs.declared.Which.TheVariants.{In, Out}

abbrev pub row : ℕ → ℕ → ReplyKind → Command
row f c k = record { first = f; command = c; kind = k }

-- the first byte has the exact data count in its low four bits
unfoldable pub commands : List Command
commands =
    -- "00.0C local off; 00.1D local on; 00.11 replies 12.11 with 00 02."
    row 0x00 0x0C (Ack (Local false))
    ∷ row 0x00 0x1D (Ack (Local true))
    ∷ row 0x00 0x11 Device
    -- "20.00 stop; 20.01 play, +1000; 20.02 record, +1000; 20.10 fast forward, +32000; 20.20 rewind, −32000"
    ∷ row 0x20 0x00 (Ack (Transport (Run Stop (pos 0))))
    ∷ row 0x20 0x01 (Ack (Transport (Run Play (pos 1000))))
    ∷ row 0x20 0x02 (Ack (Transport (Run Record (pos 1000))))
    ∷ row 0x20 0x10 (Ack (Transport (Run FastForward (pos 32000))))
    ∷ row 0x20 0x20 (Ack (Transport (Run Rewind (negsuc 31999))))
    -- "20.04 standby off; 20.05 standby on; 20.0F eject"
    ∷ row 0x20 0x04 (Ack (Standby false))
    ∷ row 0x20 0x05 (Ack (Standby true))
    ∷ row 0x20 0x0F (Ack (Transport Eject))
    -- "21.11, 21.12, 21.13 jog, variable, shuttle forward; 21.21, 21.22, 21.23 the same in reverse, with speed byte N."
    ∷ row 0x21 0x11 (Ack (Transport (Vary Jog Forward)))
    ∷ row 0x21 0x12 (Ack (Transport (Vary Variable Forward)))
    ∷ row 0x21 0x13 (Ack (Transport (Vary Shuttle Forward)))
    ∷ row 0x21 0x21 (Ack (Transport (Vary Jog Reverse)))
    ∷ row 0x21 0x22 (Ack (Transport (Vary Variable Reverse)))
    ∷ row 0x21 0x23 (Ack (Transport (Vary Shuttle Reverse)))
    -- "20.14, 20.24 one frame on, one back"
    ∷ row 0x20 0x14 (Ack (Transport (Step Forward)))
    ∷ row 0x20 0x24 (Ack (Transport (Step Reverse)))
    -- "24.31 cue"
    ∷ row 0x24 0x31 (Ack (Transport Cue))
    -- "40.10, 40.11 In, Out become the position and their flag goes on; 44.14, 44.15 the same from a time given."
    ∷ row 0x40 0x10 (Ack (Take In))
    ∷ row 0x40 0x11 (Ack (Take Out))
    ∷ row 0x44 0x14 (Ack (Preset In))
    ∷ row 0x44 0x15 (Ack (Preset Out))
    -- "40.18, 40.19 In one frame on, back; 40.1A, 40.1B Out."
    ∷ row 0x40 0x18 (Ack (Shift In Forward))
    ∷ row 0x40 0x19 (Ack (Shift In Reverse))
    ∷ row 0x40 0x1A (Ack (Shift Out Forward))
    ∷ row 0x40 0x1B (Ack (Shift Out Reverse))
    -- "40.20, 40.21 In, Out flag off; 40.24, 40.25 on."
    ∷ row 0x40 0x20 (Ack (Flag In false))
    ∷ row 0x40 0x21 (Ack (Flag Out false))
    ∷ row 0x40 0x24 (Ack (Flag In true))
    ∷ row 0x40 0x25 (Ack (Flag Out true))
    -- "60.10 replies 74.10 with In; 60.11 replies 74.11 with Out."
    ∷ row 0x60 0x10 (PointTime In)
    ∷ row 0x60 0x11 (PointTime Out)
    -- "61.0C with 01, 03 or 04 replies 74.04 with the position"; "61.20 with 01 to 0D replies that many status bytes"
    ∷ row 0x61 0x0C TapeTime
    ∷ row 0x61 0x20 Status
    ∷ []

-- "Every other code or count is undefined."
unfoldable pub lookup : List Command → ℕ → ℕ → Option ReplyKind
lookup [] first command = None
lookup (c ∷ cs) first command = cond (eqb c.first first && eqb c.command command) (Some c.kind) (lookup cs first command)
