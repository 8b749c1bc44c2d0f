-- Document 01: the replies, as blocks, and which of them open a quiet.
use Rattle.std.specs.Prelude.{ℕ, Bool, true, false, List, [], ◌∷◌}
use Rattle.block.specs.Block.{block_of}
use Rattle.settings.specs.declared.Settings.{Settings}

-- "NAK is 11.12 with one byte": the byte says why
abbrev pub nak : ℕ → List ℕ
nak why = block_of 0x1 0x12 (why ∷ [])

-- "80 time-out, .. 04 checksum, 01 undefined"; the line's flags are 40 framing, 20 overrun, 10 parity
abbrev pub time_out : ℕ
time_out = 0x80

abbrev pub bad_checksum : ℕ
bad_checksum = 0x04

abbrev pub undefined : ℕ
undefined = 0x01

-- whether the NAK with this byte opens a quiet (document 01's term: a time in which bytes are dropped);
-- "Each NAK opens a quiet"; no other reply does
unfoldable pub opens_quiet : ℕ → Bool
opens_quiet why = true

-- what a full block comes to: the settings after it, the reply, and whether that opens a quiet
pub record Outcome : Type 0 where
  pub settings : Settings
  pub bytes : List ℕ
  pub quiets : Bool

-- a reply that is no NAK
abbrev pub answered : Settings → ℕ → ℕ → List ℕ → Outcome
answered s group command bytes = record { settings = s; bytes = block_of group command bytes; quiets = false }

-- "Reply 10.01 unless shown."
abbrev pub acknowledged : Settings → Outcome
acknowledged s = answered s 0x1 0x01 []

-- a NAK: the settings stay
abbrev pub refused : Settings → ℕ → Outcome
refused s why = record { settings = s; bytes = nak why; quiets = opens_quiet why }
