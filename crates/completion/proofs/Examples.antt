-- Small exercises and their completed records, as one table.
use Prim.Native.Nat.{ℕ}
use mathlib.Core.Path.{◌≡◌, refl}
use mathlib.Core.List.{List, [], ◌∷◌, ◌++◌, map}
use Rattle.block.specs.Block.{sum}
use Rattle.block.specs.Read.{read_no, read_data}
use Rattle.command.specs.Commands.{commands, lookup}
use Rattle.effects.specs.Effects.{perform, transport}
use Rattle.execute.specs.Execute.{carry, execute}
use Rattle.execute.specs.Replies.{opens_quiet}
use Rattle.deck.specs.Line.{looked, taken, received, acted, answers}
use Rattle.record.specs.declared.Entry.{Entry}
use Rattle.record.specs.Entries.{entry, after_entry, says_to}
use Rattle.record.proofs.Examples.{control, reply, position, spaced, opening, ack, expiry}
use Rattle.completion.specs.Completed.{with_reply, with_replies, completed_from, completed}

pub record Case : Type 0 where
  pub exercise : List Entry
  pub whole : List Entry

abbrev pub case : (exercise whole : List Entry) → Case
case e w = record { exercise = e; whole = w }

-- the time-out's NAK, complete at its due time
abbrev pub late : List Entry
late = spaced reply 10_001 0 expiry

abbrev pub flagged : ℕ → Entry
flagged t = entry 0 0x10 0x20 t

abbrev pub cases : List Case
cases =
    -- a time-out that is found at its due time, and one later: by a position, and by a byte
    case (control 0 0x20 ∷ position 10_001 5 ∷ []) (control 0 0x20 ∷ position 10_001 5 ∷ late)
    ∷ case (control 0 0x20 ∷ position 10_002 5 ∷ []) (control 0 0x20 ∷ late ++ position 10_002 5 ∷ [])
    ∷ case (control 0 0x20 ∷ control 10_001 0x20 ∷ []) (control 0 0x20 ∷ control 10_001 0x20 ∷ late)
    -- a flagged byte in its quiet; and after it: two NAKs to one byte
    ∷ case (control 0 0x20 ∷ flagged 20_001 ∷ []) (control 0 0x20 ∷ late ++ flagged 20_001 ∷ [])
    ∷ case (control 0 0x20 ∷ flagged 20_002 ∷ [])
    (control 0 0x20 ∷ late ++ flagged 20_002 ∷ spaced reply 20_002 0 (0x11 ∷ 0x12 ∷ 0x10 ∷ 0x33 ∷ []))
    -- a reply stands before later entries of the same time
    ∷ case (spaced control 0 0 (0x20 ∷ 0x01 ∷ 0x21 ∷ []) ++ position 0 5 ∷ [])
    (spaced control 0 0 (0x20 ∷ 0x01 ∷ 0x21 ∷ []) ++ spaced reply 0 0 ack ++ position 0 5 ∷ [])
    -- a block that is open at the end
    ∷ case (control 0 0x20 ∷ []) (control 0 0x20 ∷ [])
    ∷ case (opening 0 ++ control 900 0x20 ∷ []) (opening 0 ++ spaced reply 600 0 ack ++ control 900 0x20 ∷ [])
    ∷ case [] []
    ∷ []

pub completions : map (λ (c : Case). completed c.exercise) cases ≡ map (λ (c : Case). c.whole) cases
unfolding completed completed_from with_replies with_reply says_to after_entry looked taken received acted answers
    execute opens_quiet read_no read_data sum commands lookup carry perform transport
completions = refl
