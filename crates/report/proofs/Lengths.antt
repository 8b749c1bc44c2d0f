-- How long the texts are at most: they fit into the room that is asked for.
use Prim.Native.Nat.{ℕ, suc, ◌+◌, ◌*◌, ◌/◌, ◌^◌, ◌≤◌, ◌<◌}
use mathlib.Core.Path.{◌≡◌}
use mathlib.Core.Bool.{Bool, true, false, cond}
use mathlib.Core.List.{List, [], ◌∷◌, ◌++◌}
use native.Mathlib.Omega.{arith}
use lib.Dec.{eqb}
use lib.IntN.{ℤ, pos, negsuc}
use lib.ListN.{length, get_or, length-append}
use Rattle.settings.specs.declared.Settings.{Settings}
use Rattle.settings.proofs.StatusBytes.{status-length}
use Rattle.timecode.specs.Time.{write_time}
use Rattle.timecode.proofs.Times.{bytes-four}
use Rattle.deck.specs.Line.{Reply, says, at_power_on}
use Rattle.record.specs.declared.Entry.{Entry}
use Rattle.record.specs.Entries.{handed, meant}
use Rattle.record.specs.Bytes.{entries_of, is_record}
use Rattle.record.proofs.Bytes.{length-entries}
use Rattle.marker.specs.declared.Marked.{Marked}
use Rattle.text.specs.Text.{line, at_line, decimal}
use Rattle.text.proofs.Digits.{few}
use Rattle.text.proofs.Lengths.{decimal-few, line-few, at-few, hex-line-long}
use Rattle.report.specs.Text.{refused, refused_line}
use Rattle.report.specs.Verdict.{sound_line, fault_line, turn_line, turn_lines, verdict_line, text_of}
use Rattle.report.specs.Transcript.{reply_line, reply_lines, malformed_line, Standing, number_for, entry_lines, stands, speed_line, time_line, settings_lines, transcript_from, transcript}
use Rattle.report.proofs.Lines.{settings-joined}
use Rattle.report.proofs.Sized.{Sized, says-sized}

-- ---- a verdict

-- "turn ", ten digits at most, and the end
turn-short : (start : ℕ) → start < 2 ^ 32 → length (turn_line start) ≤ 16
unfolding line
turn-short start h = simp length-append (omega (arith, few 10 start (omega arith) (omega arith) (omega arith)))

turns-short : (starts : List ℕ) → ((i : ℕ) → get_or starts i 0 < 2 ^ 32) → length (turn_lines starts) ≤ 16 * length starts
unfolding turn_lines
turns-short [] h = omega arith
turns-short (s ∷ starts) h =
    omega (arith, length-append (turn_line s) (turn_lines starts), turn-short s (h 0), turns-short starts (λ i. h (suc i)))

verdict-short : (m : Marked) → length (verdict_line m) ≤ 51
unfolding verdict_line
verdict-short m = go (eqb m.fault 0)
  where
    go : (b : Bool) → length (cond b (sound_line m.count) (fault_line m.fault m.place)) ≤ 51
    go true = omega (arith, line-few (115 ∷ 111 ∷ 117 ∷ 110 ∷ 100 ∷ 32 ∷ []) m.count)
    go false = omega (arith, at-few (102 ∷ 97 ∷ 117 ∷ 108 ∷ 116 ∷ 32 ∷ []) m.fault m.place)

pub text-short : (m : Marked) (starts : List ℕ) → ((i : ℕ) → get_or starts i 0 < 2 ^ 32)
    → length (text_of m starts) ≤ 64 + 16 * length starts
unfolding text_of
text-short m starts h = go (eqb m.no 0)
  where
    go : (b : Bool) → length (cond b (verdict_line m ++ turn_lines starts) (refused_line m.no)) ≤ 64 + 16 * length starts
    go true = omega (arith, length-append (verdict_line m) (turn_lines starts), verdict-short m, turns-short starts h)
    go false = omega (arith, line-few refused m.no)

-- ---- a transcript

reply-short : (r : Reply) → length (reply_line r) ≤ 27 + 3 * length r.bytes
reply-short r = omega (arith, hex-line-long (decimal r.due) r.bytes, decimal-few r.due)

replies-short : (rs : List Reply) → Sized rs → length (reply_lines rs) ≤ 108
unfolding reply_lines
replies-short [] z = omega arith
replies-short (r ∷ []) z = simp length-append (omega (arith, reply-short r, z))
replies-short (r ∷ s ∷ []) z = simp length-append (omega (arith, reply-short r, reply-short s, z))
replies-short (r ∷ s ∷ q ∷ rs) z = absurd z

-- of two replies with 18 bytes together
entry-short : (k : ℕ) (s : Standing) (e : Entry) → length (entry_lines k s e) ≤ 108
unfolding entry_lines
entry-short k s e = go (meant e.kind e) (eqb (number_for s e) 0)
  where
    go : (m t : Bool)
        → length (cond m (cond t (reply_lines (says s.deck (handed e))) (at_line refused (number_for s e) k)) (malformed_line k)) ≤ 108
    go true true = replies-short (says s.deck (handed e)) (says-sized s.deck (handed e))
    go true false = omega (arith, at-few refused (number_for s e) k)
    go false t = omega (arith, line-few (109 ∷ 97 ∷ 108 ∷ 102 ∷ 111 ∷ 114 ∷ 109 ∷ 101 ∷ 100 ∷ 32 ∷ 97 ∷ 116 ∷ 32 ∷ []) k)

speed-short : (v : ℤ) → length (speed_line v) ≤ 28
unfolding speed_line
speed-short (pos n) = omega (arith, line-few (115 ∷ 112 ∷ 101 ∷ 101 ∷ 100 ∷ 32 ∷ []) n)
speed-short (negsuc n) = omega (arith, line-few (115 ∷ 112 ∷ 101 ∷ 101 ∷ 100 ∷ 32 ∷ 45 ∷ []) (suc n))

time-long : (words : List ℕ) (position : ℕ) → length (time_line words position) ≡ length words + 13
time-long words position = omega (arith, hex-line-long words (write_time position).bytes, bytes-four position)

settings-short : (s : Settings) → length (settings_lines s) ≤ 128
settings-short s =
    rw (settings-joined s) (simp length-append (omega (
      arith,
      hex-line-long (115 ∷ 116 ∷ 97 ∷ 116 ∷ 117 ∷ 115 ∷ []) (Rattle.settings.specs.Status.status_bytes s),
      status-length s,
      time-long (116 ∷ 105 ∷ 109 ∷ 101 ∷ []) s.position,
      time-long (105 ∷ 110 ∷ []) s.inat,
      time-long (111 ∷ 117 ∷ 116 ∷ []) s.outat,
      speed-short s.speed,
    )))

from-short : (k : ℕ) (s : Standing) (es : List Entry) → length (transcript_from k s es) ≤ 128 + 108 * length es
unfolding transcript_from
from-short k s [] = omega (arith, settings-short s.deck.settings)
from-short k s (e ∷ es) =
    omega (arith, length-append (entry_lines k s e) (transcript_from (suc k) (stands s e) es), entry-short k s e, from-short (suc k) (stands s e) es)

pub transcript-short : (bytes : List ℕ) → length (transcript bytes) ≤ 128 + 108 * (length bytes / 12)
unfolding transcript
transcript-short bytes = go (is_record (length bytes))
  where
    first : Standing
    first = record { clock = 0; deck = at_power_on }

    go : (b : Bool) → length (cond b (transcript_from 0 first (entries_of bytes)) (refused_line 10)) ≤ 128 + 108 * (length bytes / 12)
    go true = omega (arith, from-short 0 first (entries_of bytes), length-entries bytes)
    go false = omega (arith, line-few refused 10)
