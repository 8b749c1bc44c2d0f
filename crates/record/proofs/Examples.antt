-- Small records and their verdicts, as one table; the sound ones with their cuttings.
use Prim.Native.Nat.{ℕ, ◌+◌, ◌^◌}
use mathlib.Core.Path.{◌≡◌, refl, ap, ◌∙◌}
use mathlib.Core.List.{List, [], ◌∷◌, ◌++◌, map, head-eq_of_cons-eq, tail-eq_of_cons-eq}
use Rattle.block.specs.Block.{sum}
use Rattle.block.specs.Read.{read_no, read_data}
use Rattle.timecode.specs.Time.{day, read_time, write_time}
use Rattle.settings.specs.Status.{status_bytes}
use Rattle.command.specs.Commands.{commands, lookup}
use Rattle.effects.specs.Effects.{perform, transport}
use Rattle.execute.specs.Execute.{carry, execute}
use Rattle.execute.specs.Replies.{opens_quiet}
use Rattle.deck.specs.Line.{looked, taken, received, acted, answers}
use Rattle.record.specs.declared.Entry.{Entry}
use Rattle.record.specs.Entries.{entry, fits, after_entry}
use Rattle.record.specs.Machine.{peek, advance, begins, tests, fault_of, resting, step, Verdict, judge_from, judge}
use Rattle.record.proofs.Theorem.{Cutting, sound-judged}

-- a record, and what is said of it
pub record Case : Type 0 where
  pub entries : List Entry
  pub says : Verdict

abbrev pub case : List Entry → (fault place : ℕ) → List ℕ → Case
case es f p starts = record { entries = es; says = record { fault = f; place = p; starts = starts } }

-- ---- entries

abbrev pub control : (time content : ℕ) → Entry
control t b = entry 0 0 b t

abbrev pub reply : (time content : ℕ) → Entry
reply t b = entry 1 0 b t

abbrev pub position : (time place : ℕ) → Entry
position t p = entry 2 0 p t

abbrev pub cassette : ℕ → Entry
cassette t = entry 3 0 0 t

-- bytes from a time on, so far apart
abbrev pub spaced : (ℕ → ℕ → Entry) → (time gap : ℕ) → List ℕ → List Entry
spaced of t gap [] = []
spaced of t gap (b ∷ bytes) = of t b ∷ spaced of (t + gap) gap bytes

-- 20 01 21 from a time on, 300 apart: its reply is due 600 later
abbrev pub opening : ℕ → List Entry
opening t = spaced control t 300 (0x20 ∷ 0x01 ∷ 0x21 ∷ [])

abbrev pub ack : List ℕ
ack = 0x10 ∷ 0x01 ∷ 0x11 ∷ []

-- the NAK of a block that began at 0 and timed out, due at 10,001, in quiet up to 20,001
abbrev pub expiry : List ℕ
expiry = 0x11 ∷ 0x12 ∷ 0x80 ∷ 0xA3 ∷ []

abbrev pub cases : List Case
cases =
    -- "An empty record"
    case [] 0 0 []
    -- "20, 01, 21 of kind 0 at 0, 300, 600 and 10, 01, 11 of kind 1 at 1000, 1300, 1600"
    ∷ case (opening 0 ++ spaced reply 1_000 300 ack) 0 6 (0 ∷ [])
    -- "With all three reply bytes at 9,600 the record is sound; with all at 9,601 it is fault 24 at 3."
    ∷ case (opening 0 ++ spaced reply 9_600 0 ack) 0 6 (0 ∷ [])
    ∷ case (opening 0 ++ spaced reply 9_601 0 ack) 24 3 (0 ∷ [])
    -- a later byte 10,000 after the one before, and 10,001
    ∷ case (opening 0 ++ spaced reply 600 10_000 ack) 0 6 (0 ∷ [])
    ∷ case (opening 0 ++ spaced reply 600 10_001 ack) 24 4 (0 ∷ [])
    -- overdue at an entry of any kind, before all that else could be said of it
    ∷ case (opening 0 ++ position 9_601 0 ∷ []) 24 3 (0 ∷ [])
    ∷ case (opening 0 ++ control 9_601 0x20 ∷ []) 24 3 (0 ∷ [])
    ∷ case (opening 0 ++ reply 9_601 0x11 ∷ []) 24 3 (0 ∷ [])
    -- a time-out and its NAK, from the due time on; one byte early by 1
    ∷ case (control 0 0x20 ∷ spaced reply 10_001 300 expiry) 0 5 (0 ∷ [])
    ∷ case (control 0 0x20 ∷ spaced reply 10_000 300 expiry) 22 1 (0 ∷ [])
    -- two bytes 10,001 apart: the second is dropped; and 10,000 apart: the block goes on
    ∷ case (control 0 0x20 ∷ control 10_001 0x01 ∷ spaced reply 10_400 300 expiry) 0 6 (0 ∷ [])
    ∷ case (control 0 0x20 ∷ control 10_000 0x01 ∷ spaced reply 10_400 300 expiry) 22 2 (0 ∷ [])
    -- bytes at both ends of the quiet are dropped, and the next begins a turn
    ∷ case (control 0 0x20 ∷ control 10_001 0x01 ∷ spaced reply 10_400 300 expiry ++ control 20_001 0x20 ∷ []) 0 7 (0 ∷ [])
    ∷ case (control 0 0x20 ∷ control 10_001 0x01 ∷ spaced reply 10_400 300 expiry ++ opening 20_002 ++ spaced reply 20_602 0 ack) 0 12
    (0 ∷ 6 ∷ [])
    -- a flagged first byte; a bad checksum; an undefined command
    ∷ case (entry 0 0x10 0x20 0 ∷ spaced reply 0 300 (0x11 ∷ 0x12 ∷ 0x10 ∷ 0x33 ∷ [])) 0 5 (0 ∷ [])
    ∷ case (spaced control 0 300 (0x20 ∷ 0x01 ∷ 0x22 ∷ []) ++ spaced reply 1_000 300 (0x11 ∷ 0x12 ∷ 0x04 ∷ 0x27 ∷ [])) 0 7 (0 ∷ [])
    ∷ case (spaced control 0 300 (0x20 ∷ 0x7F ∷ 0x9F ∷ []) ++ spaced reply 1_000 300 (0x11 ∷ 0x12 ∷ 0x01 ∷ 0x24 ∷ [])) 0 7 (0 ∷ [])
    -- a deck byte with no reply awaited; a wrong reply byte; a controller byte before the reply ends; a torn end
    ∷ case (reply 0 0x10 ∷ []) 22 0 []
    ∷ case (opening 0 ++ spaced reply 1_000 300 (0x10 ∷ 0x02 ∷ [])) 23 4 (0 ∷ [])
    ∷ case (opening 0 ++ reply 1_000 0x10 ∷ opening 1_300) 25 4 (0 ∷ [])
    ∷ case (opening 0 ++ spaced reply 1_000 300 (0x10 ∷ 0x01 ∷ [])) 26 5 (0 ∷ [])
    ∷ case (control 0 0x20 ∷ []) 26 1 (0 ∷ [])
    -- malformed entries, and a time that falls
    ∷ case (entry 4 0 0 0 ∷ []) 20 0 []
    ∷ case (control 0 256 ∷ []) 20 0 []
    ∷ case (entry 0 0x80 0 0 ∷ []) 20 0 []
    ∷ case (entry 1 0x10 0x10 0 ∷ []) 20 0 []
    ∷ case (position 0 day ∷ []) 20 0 []
    ∷ case (entry 3 0 1 0 ∷ []) 20 0 []
    ∷ case (cassette (2 ^ 48) ∷ []) 20 0 []
    ∷ case (control 100 0x20 ∷ control 99 0x01 ∷ []) 21 1 (0 ∷ [])
    -- positions and cassettes before a turn and inside it: the reply tells the place that was set in it
    ∷ case (
    cassette 0
    ∷ control 300 0x61
    ∷ position 400 2_159_999
    ∷ spaced control 600 300 (0x0C ∷ 0x03 ∷ 0x70 ∷ [])
    ++ reply 1_300 0x74
    ∷ cassette 1_400
    ∷ spaced reply 1_600 300 (0x04 ∷ 0x24 ∷ 0x59 ∷ 0x59 ∷ 0x23 ∷ 0x71 ∷ [])
    ++ position 3_500 0
    ∷ []
    ) 0 15 (1 ∷ [])
    ∷ []

pub verdicts : map (λ (c : Case). judge c.entries) cases ≡ map (λ (c : Case). c.says) cases
unfolding judge judge_from step fault_of tests peek advance begins resting fits after_entry looked taken received acted answers
    execute opens_quiet read_no read_data sum commands lookup carry perform transport read_time write_time status_bytes
verdicts = refl

-- ---- the sound ones

abbrev pub AllCases : (Case → Type 0) → List Case → Type 0
AllCases P [] = Unit
AllCases P (c ∷ cs) = P c × AllCases P cs

-- each is sound, with a cutting that has these starts
abbrev pub IsCut : Case → Type 0
IsCut c = c.says.fault ≡ 0 → Cutting c.entries c.says.starts

cut_by : (c : Case) → judge c.entries ≡ c.says → IsCut c
cut_by c e z =
    let p = sound-judged c.entries (ap (λ (v : Verdict). v.fault) e ∙ z) in
    (p.0, p.1 ∙ ap (λ (v : Verdict). v.starts) e)

cut_all : (cs : List Case) → map (λ (c : Case). judge c.entries) cs ≡ map (λ (c : Case). c.says) cs → AllCases IsCut cs
cut_all [] e = tt
cut_all (c ∷ cs) e = (cut_by c (head-eq_of_cons-eq e), cut_all cs (tail-eq_of_cons-eq e))

pub cuttings : AllCases IsCut cases
cuttings = cut_all cases verdicts
