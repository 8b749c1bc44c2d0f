-- The flags of each status byte, and the laws of all thirteen bytes.
use mathlib.Core.Path.{◌≡◌, refl}
use mathlib.Core.Bool.{not}
use mathlib.Core.List.{[], ◌∷◌}
use Prim.Native.Nat.{ℕ, zero, suc, ◌<◌}
use native.Mathlib.Omega.{arith}
use lib.ListN.{length, get_or, replicate}
use Rattle.settings.specs.declared.Settings.{Settings}
use Rattle.settings.specs.declared.Mode.TheVariants.{Stop, Play, Record, FastForward, Rewind, Jog, Variable, Shuttle}
use Rattle.settings.specs.Status.{is_mode, still, below_zero, status0, status1, status2, status3, status_bytes}
use Rattle.settings.proofs.Flags.{IsByte, flags}

-- ---- the first four: the flag at bit 0, then those above it

pub byte0 : (s : Settings) → IsByte s.local ((5, not s.cassette) ∷ []) (status0 s)
byte0 s = flags _ _ refl

pub byte1 : (s : Settings) → IsByte (is_mode s.mode Play)
    ((1, is_mode s.mode Record)
    ∷ (2, is_mode s.mode FastForward)
    ∷ (3, is_mode s.mode Rewind)
    ∷ (4, not s.cassette)
    ∷ (5, is_mode s.mode Stop)
    ∷ (7, s.standby)
    ∷ [])
    (status1 s)
byte1 s = flags _ _ refl

pub byte2 : (s : Settings) → IsByte s.cued
    ((1, still s)
    ∷ (2, below_zero s.speed)
    ∷ (3, is_mode s.mode Variable)
    ∷ (4, is_mode s.mode Jog)
    ∷ (5, is_mode s.mode Shuttle)
    ∷ [])
    (status2 s)
byte2 s = flags _ _ refl

pub byte3 : (s : Settings) → IsByte s.inon ((1, s.outon) ∷ []) (status3 s)
byte3 s = flags _ _ refl

-- ---- all thirteen

zeros : (n i : ℕ) → get_or (replicate n 0) i 0 < 256
zeros zero i = omega arith
zeros (suc n) zero = omega arith
zeros (suc n) (suc i) = zeros n i

pub status-length : (s : Settings) → length (status_bytes s) ≡ 13
unfolding status_bytes
status-length s = refl

pub status-lt : (s : Settings) (i : ℕ) → get_or (status_bytes s) i 0 < 256
unfolding status_bytes
status-lt s zero = (byte0 s).small
status-lt s (suc zero) = (byte1 s).small
status-lt s (suc (suc zero)) = (byte2 s).small
status-lt s (suc (suc (suc zero))) = (byte3 s).small
status-lt s (suc (suc (suc (suc i)))) = zeros 9 i
