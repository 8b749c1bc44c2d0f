-- The room that a completed record takes: the replies have at most 6 bytes for each controller byte. Each byte pays for 6, and
-- those of an open block are still to spend.
use Prim.Native.Nat.{ℕ, ◌+◌, ◌*◌, ◌≤◌, ◌<◌}
use mathlib.Core.Path.{◌≡◌, refl}
use mathlib.Core.Bool.{Bool, true, false, cond, false≢true}
use mathlib.Core.Logic.{⊎_elim}
use mathlib.Core.List.{List, [], ◌∷◌, ◌++◌, append-nil}
use native.Mathlib.Omega.{arith}
use lib.Dec.{leb}
use lib.ListN.{length, length-append, length-map}
use Rattle.std.proofs.lemmas.Bool.{cases_lt}
use Rattle.std.proofs.lemmas.List.{length_push}
use Rattle.execute.specs.Execute.{execute}
use Rattle.execute.proofs.Replies.{reply-short}
use Rattle.deck.specs.Line.{Event, byte, look, position, cassette, time_of, Deck, deck, at_power_on, Reply, Answer, is_open, size, taken, acted, answers}
use Rattle.deck.specs.Calls.{reply_bytes}
use Rattle.deck.proofs.Steps.{look-shut, look-cases, byte-cases, taken-full, taken_more, acted-byte, acted-other, answers-soon, answers-late}
use Rattle.record.specs.declared.Entry.{Entry}
use Rattle.record.specs.Entries.{entry, handed, after_entry, says_to}
use Rattle.record.specs.Bytes.{entries_of}
use Rattle.record.proofs.Bytes.{length-entries}
use Rattle.record.proofs.Records.{length-record}
use Rattle.completion.specs.Completed.{with_reply, with_replies, completed_from, completed}
use Rattle.completion.specs.Calls.{room_for, completion}

-- ---- an event

-- the replies and what is open after them cost at most n
abbrev Costs : Answer → ℕ → Type 0
Costs a n = length (reply_bytes a.replies) + 6 * length a.deck.block ≤ n

-- no block is full before its third byte
size-least : (block : List ℕ) → 3 ≤ size block
size-least [] = omega arith
size-least (b ∷ block) = omega arith

module _ (d : Deck) where
  taken-costs : (o : List ℕ) (b t : ℕ) → Costs (taken d (o ++ b ∷ []) t) (6 * length o + 6)
  taken-costs o b t = ⊎_elim more full (cases_lt (length block) (size block))
    where
      block : List ℕ
      block = o ++ b ∷ []

      full : size block ≤ length block → Costs (taken d block t) (6 * length o + 6)
      full h =
          rw (taken-full d block t h, append-nil (execute d.settings block).bytes)
          (omega (arith, length_push o b, size-least block, reply-short d.settings block))

      more : length block < size block → Costs (taken d block t) (6 * length o + 6)
      more h = rw (taken_more d block t h) (omega (arith, length_push o b))

  acted-costs : (e : Event) → Costs (acted d e) (6 * length d.block + 6)
  acted-costs (byte t b flags) =
      rw (acted-byte d t b flags)
      (⊎_elim
      (λ p. rw p (omega arith))
      (⊎_elim (λ p. rw p (taken-costs d.block b t)) (λ p. rw p.1 (omega arith)))
      (byte-cases d t b flags))
  acted-costs (look t) = rw (acted-other d (look t) tt) (omega arith)
  acted-costs (position t p) = rw (acted-other d (position t p) tt) (omega arith)
  acted-costs (cassette t) = rw (acted-other d (cassette t) tt) (omega arith)

open-some : (o : List ℕ) → is_open o ≡ true → 0 < length o
open-some [] p = absurd (false≢true p)
open-some (b ∷ o) p = omega arith

answers-cost : (d : Deck) (e : Event) → Costs (answers d e) (6 * length d.block + 6)
answers-cost d e =
    ⊎_elim
    (λ p. rw (answers-soon d e p refl) (acted-costs d e))
    (λ p.
    let void = deck [] d.last (d.last + 20002) d.settings in
    let k : Costs (answers void e) 6 = rw (answers-soon void e (look-shut void (time_of e) refl) refl) (acted-costs void e) in
    rw (answers-late d e p.0 p.1) (omega (arith, k, open-some d.block p.0)))
    (look-cases d (time_of e))

-- an entry
entry-costs : (d : Deck) (e : Entry)
    → length (reply_bytes (says_to d e)) + 6 * length (after_entry d e).block ≤ 6 * length d.block + 6
unfolding says_to after_entry
entry-costs d e = answers-cost d (handed e)

-- ---- the bytes that are put for it

length-either : (b : Bool) {n : ℕ} (es fs : List Entry) → length es ≡ n → length fs ≡ n → length (cond b es fs) ≡ n
length-either true es fs p q = p
length-either false es fs p q = q

length-with : (es : List Entry) (r : Reply) → length (with_reply es r) ≡ length es + length r.bytes
unfolding with_reply
length-with [] r = omega (arith, length-map r.bytes (λ b. entry 1 0 b r.due))
length-with (e ∷ es) r =
    length-either (leb e.time r.due) _ _
    (omega (arith, length-with es r))
    (rw (length-append, length-map) (omega arith))

length-all : (rs : List Reply) (es : List Entry) → length (with_replies es rs) ≡ length es + length (reply_bytes rs)
unfolding with_replies
length-all [] es = omega arith
length-all (r ∷ rs) es = omega (arith, length-all rs (with_reply es r), length-with es r, length-append r.bytes (reply_bytes rs))

-- ---- the whole record

-- what is taken is not lost
pub taken-stays : (es taken : List Entry) (d : Deck) → length taken ≤ length (completed_from taken d es)
unfolding completed_from
taken-stays [] taken d = omega arith
taken-stays (e ∷ es) taken d =
    omega (
      arith,
      taken-stays es (with_replies (taken ++ e ∷ []) (says_to d e)) (after_entry d e),
      length-all (says_to d e) (taken ++ e ∷ []),
      length-append taken (e ∷ []),
    )

completed-few : (es taken : List Entry) (d : Deck) → length (completed_from taken d es) ≤ length taken + 6 * length d.block + 7 * length es
unfolding completed_from
completed-few [] taken d = omega arith
completed-few (e ∷ es) taken d =
    omega (
      arith,
      completed-few es (with_replies (taken ++ e ∷ []) (says_to d e)) (after_entry d e),
      length-all (says_to d e) (taken ++ e ∷ []),
      length-append taken (e ∷ []),
      entry-costs d e,
    )

-- so much room is enough for any
pub completion-fits : (bytes : List ℕ) → length (completion bytes) ≤ room_for bytes
unfolding completed
completion-fits bytes =
    omega (arith, length-record (completed (entries_of bytes)), completed-few (entries_of bytes) [] at_power_on, length-entries bytes)
