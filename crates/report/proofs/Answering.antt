-- From what a call's caller sees, the lines that the deck's replies make, and how the deck stands after it.
use Prim.Native.Nat.{ℕ, ◌+◌, ◌≤◌}
use mathlib.Core.Path.{◌≡◌, refl, ap, ◌∙◌}
use mathlib.Core.Bool.{Bool, true, false, cond}
use mathlib.Core.List.{List, [], ◌∷◌, ◌++◌, append-nil, append_assoc}
use native.Mathlib.Omega.{arith}
use lib.Dec.{eqb}
use lib.ListN.{length, drop}
use lib.Seq.{take-append_seam, drop-append_seam}
use Rattle.deck.specs.declared.Deck.{Deck as Held}
use Rattle.deck.specs.Line.{Event, time_of, Deck, Reply, answers, after, says}
use Rattle.deck.specs.Calls.{number, told, len_of, Returned, reply_bytes, Call, taken_call, refused_call, call, view, seen, Answers}
use Rattle.deck.proofs.Numbers.{call-is}
use Rattle.record.specs.declared.Entry.{Entry}
use Rattle.record.specs.Entries.{handed, meant, Hands}
use Rattle.text.specs.Text.{at_line}
use Rattle.report.specs.Text.{refused}
use Rattle.report.specs.Transcript.{reply_line, reply_lines, malformed_line, Standing, entry_lines, stands}
use Rattle.report.specs.Answered.{standing, sent_line, sent_lines, call_lines}
use Rattle.report.proofs.Sized.{Sized, says-sized}

-- ---- the replies in an output

-- a reply at the front
sent : (r : Reply) (rs : List Reply) (out : List ℕ) → sent_line (told (r ∷ rs)) (r.bytes ++ out) ≡ reply_line r
unfolding sent_line
sent r rs out = rw take-append_seam

unsent : (out : List ℕ) → sent_line (told []) out ≡ []
unfolding sent_line
unsent out = refl

-- all of them, one behind the other
told-lines : (rs : List Reply) (out : List ℕ) → Sized rs
    → sent_lines (told rs) (told (drop 1 rs)) (reply_bytes rs ++ out) ≡ reply_lines rs
unfolding reply_lines
told-lines [] out z = rw unsent
told-lines (r ∷ []) out z = rw (append-nil r.bytes, sent r [] out, unsent)
told-lines (r ∷ s ∷ []) out z =
    rw (
      append-nil s.bytes,
      append_assoc r.bytes,
      sent r (s ∷ []) (s.bytes ++ out),
      drop-append_seam,
      sent s [] out,
      append-nil,
    )
told-lines (r ∷ s ∷ q ∷ rs) out z = absurd z

told-small : (rs : List Reply) → Sized rs → len_of (told rs) + len_of (told (drop 1 rs)) ≤ 18
told-small [] z = omega arith
told-small (r ∷ []) z = omega (arith, z.1)
told-small (r ∷ s ∷ []) z = z.2
told-small (r ∷ s ∷ q ∷ rs) z = absurd z

-- ---- a call

module _ (clock : ℕ) (d : Deck) (e : Event) (out : List ℕ) (room : length out ≡ 18) where
  pub call-lines : (k : ℕ) → call_lines k (call clock d e out)
      ≡ cond (eqb (number 18 clock e) 0) (reply_lines (says d e)) (at_line refused (number 18 clock e) k)
  unfolding call_lines
  call-lines k = rw (call-is clock d e out (eqb (number (length out) clock e) 0) refl, room) (go (eqb (number 18 clock e) 0) refl)
    where
      go : (b : Bool) → eqb (number 18 clock e) 0 ≡ b
          → call_lines k (cond b (taken_call (time_of e) (answers d e) out) (refused_call (number 18 clock e) clock d out))
          ≡ cond b (reply_lines (says d e)) (at_line refused (number 18 clock e) k)
      go true p = told-lines (says d e) (drop (length (reply_bytes (says d e))) out) (says-sized d e)
      go false p = rw p

  pub call-stands : ◌≡◌ {A = Standing} (record { clock = (call clock d e out).clock; deck = (call clock d e out).deck })
      (cond (eqb (number 18 clock e) 0) (record { clock = time_of e; deck = after d e }) (record { clock = clock; deck = d }))
  call-stands = rw (call-is clock d e out (eqb (number (length out) clock e) 0) refl, room) (go (eqb (number 18 clock e) 0))
    where
      at : Call → Standing
      at c = record { clock = c.clock; deck = c.deck }

      go : (b : Bool) → at (cond b (taken_call (time_of e) (answers d e) out) (refused_call (number 18 clock e) clock d out))
          ≡ cond b (record { clock = time_of e; deck = after d e }) (record { clock = clock; deck = d })
      go true = refl
      go false = refl

  pub call-small : len_of (call clock d e out).first + len_of (call clock d e out).second ≤ 18
  call-small = rw (call-is clock d e out (eqb (number (length out) clock e) 0) refl, room) (go (eqb (number 18 clock e) 0))
    where
      go : (b : Bool) → let c = cond b (taken_call (time_of e) (answers d e) out) (refused_call (number 18 clock e) clock d out) in
          len_of c.first + len_of c.second ≤ 18
      go true = told-small (says d e) (says-sized d e)
      go false = omega arith

-- ---- an entry that is handed to the deck

module _ (d : Held) (e : Entry) (out exit : List ℕ) (q : Returned) (room : length out ≡ 18) (m : meant e.kind e ≡ true)
    (h : Hands d e out q exit) where
  abbrev x : Answers d (handed e) out q exit
  x = h.answers m

  pub entry-lines : (k : ℕ) → call_lines k (seen q exit) ≡ entry_lines k (standing d) e
  unfolding entry_lines
  entry-lines k = ap (call_lines k) x.seen-is ∙ call-lines d.clock (view d) (handed e) out room k ∙ rw m

  pub entry-stands : standing q.deck ≡ stands (standing d) e
  unfolding stands
  entry-stands =
      ap (λ (c : Call). record { clock = c.clock; deck = c.deck }) x.seen-is
      ∙ call-stands d.clock (view d) (handed e) out room ∙ rw m

  pub entry-small : len_of q.first + len_of q.second ≤ 18
  entry-small =
      rw (ap (λ (c : Call). len_of c.first + len_of c.second) x.seen-is)
      (call-small d.clock (view d) (handed e) out room)

-- ---- one that is malformed

module _ (s : Standing) (e : Entry) (m : meant e.kind e ≡ false) where
  pub malformed-lines : (k : ℕ) → entry_lines k s e ≡ malformed_line k
  unfolding entry_lines
  malformed-lines k = rw m

  pub malformed-stands : stands s e ≡ s
  unfolding stands
  malformed-stands = rw m
