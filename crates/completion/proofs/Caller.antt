-- A call of the deck for an entry that follows: it is never refused, and what its caller sees is enough to place the replies.
use Prim.Native.Nat.{ℕ, zero, suc, ◌+◌, ◌≤◌, ◌<◌}
use mathlib.Core.Path.{◌≡◌, refl, sym, ap, ◌∙◌}
use mathlib.Core.Bool.{true, false≢true}
use mathlib.Core.List.{List, [], ◌∷◌, ◌++◌, append-nil, append_assoc}
use native.Mathlib.Omega.{arith}
use borrow.Author.Tests.{ltb-true}
use lib.Dec.{eqb}
use lib.ListN.{length, drop}
use lib.Seq.{take-append_seam, drop-append_seam}
use Rattle.std.proofs.lemmas.Bool.{and_parts}
use Rattle.std.specs.Prelude.{Err}
use Rattle.refusal.specs.declared.Refusal.{Refusal}
use Rattle.refusal.proofs.Numbers.{refuses}
use Rattle.timecode.specs.Time.{day}
use Rattle.deck.specs.declared.Deck.{Deck as Held}
use Rattle.deck.specs.declared.Answer.{Answer}
use Rattle.deck.specs.Line.{Event, time_of, Deck, Reply, answers, says}
use Rattle.deck.specs.Calls.{flags_of, place_of, flags_fit, number, told, len_of, reply_bytes, Call, taken_call, view, Returned, given, returned, seen}
use Rattle.deck.specs.Events.{Few, none, one, late, two}
use Rattle.deck.proofs.Late.{overdue}
use Rattle.deck.proofs.Numbers.{unrefused, call-is}
use Rattle.deck.proofs.Replies.{few-replies}
use Rattle.record.specs.declared.Entry.{Entry}
use Rattle.record.specs.Entries.{fits, meant, handed_as, handed, after_entry, says_to, Hands}
use Rattle.record.proofs.Handed.{handed-time}
use Rattle.marker.proofs.Forms.{formed-time}
use Rattle.completion.specs.Completed.{with_reply, with_replies}
use Rattle.completion.specs.Calls.{with_answer}
use Rattle.completion.proofs.Exercises.{Follows}
use Rattle.completion.proofs.Placed.{by_one, with-last}

-- ---- no call is refused

-- an entry that fits is meant for the deck, with flags and a place that it takes
takes : (k : ℕ) (e : Entry) → fits k e ≡ true
    → (meant k e ≡ true) × (flags_fit (flags_of (handed_as k e)) ≡ true) × (place_of (handed_as k e) < day)
unfolding fits meant
takes zero e p = let x = and_parts (flags_fit e.flags) _ p in (x.1, x.0, omega arith)
takes (suc zero) e p = (p, refl, omega arith)
takes (suc (suc zero)) e p = let x = and_parts (eqb e.flags 0) _ p in (x.0, refl, ltb-true e.content day x.1)
takes (suc (suc (suc zero))) e p = (p, refl, omega arith)
takes (suc (suc (suc (suc k)))) e p = absurd (false≢true p)

pub never-refused : {t : ℕ} {e : Entry} (room : ℕ) → 18 ≤ room → Follows t e
    → (meant e.kind e ≡ true) × (number room t (handed e) ≡ 0)
never-refused {t} {e} room r f =
    let (meant, flags, place) = takes e.kind e (and_parts (fits e.kind e) _ f.form).0 in
    let u = handed-time e.kind e in (
      meant,
      unrefused room t (time_of (handed e)) (flags_of (handed e)) (place_of (handed e)) r (rw u f.later) (rw u (formed-time e f.form)) flags place,
    )

-- ---- what the caller sees

pub record Sees (d : Held) (e : Entry) (r : Returned) (exit : List ℕ) : Type 0 where
  pub no : r.no ≡ 0
  pub deck : view r.deck ≡ after_entry (view d) e
  pub clock : r.deck.clock ≡ e.time
  pub first : r.first ≡ told (says_to (view d) e)
  pub second : r.second ≡ told (drop 1 (says_to (view d) e))
  pub more : List ℕ
  pub out : exit ≡ reply_bytes (says_to (view d) e) ++ more

sees : (d : Held) (e : Entry) {entry exit : List ℕ} {r : Returned} → 18 ≤ length entry → Follows d.clock e
    → Hands d e entry r exit → Sees d e r exit
unfolding after_entry says_to
sees d e {entry} {exit} {r} room f x =
    let (meant, taken) = never-refused (length entry) room f in
    let p : seen r exit ≡ taken_call (time_of (handed e)) (answers (view d) (handed e)) entry =
    (x.answers meant).seen-is ∙ call-is d.clock (view d) (handed e) entry true (rw taken) in
    record {
      no = ap (λ (c : Call). c.no) p;
      deck = ap (λ (c : Call). c.deck) p;
      clock = ap (λ (c : Call). c.clock) p ∙ handed-time e.kind e;
      first = ap (λ (c : Call). c.first) p;
      second = ap (λ (c : Call). c.second) p;
      more = drop (length (reply_bytes (says (view d) (handed e)))) entry;
      out = ap (λ (c : Call). c.out) p;
    }

-- ---- where the replies stand

-- of the replies to an entry at its time: their lengths, and their places
record Placing (e : Entry) (rs : List Reply) : Type 0 where
  few : len_of (told rs) + len_of (told (drop 1 rs)) ≤ 18
  places : (more : List ℕ) → with_answer e (told rs) (told (drop 1 rs)) (reply_bytes rs ++ more) ≡ with_replies (e ∷ []) rs

module _ (d : Deck) (e : Entry) where
  placing-none : Placing e []
  unfolding with_replies
  placing-none = record { few = omega arith; places = λ more. refl }

  placing-one : (r : Reply) → length r.bytes ≤ 18 → Placing e (r ∷ [])
  unfolding with_reply with_replies
  placing-one r h = record { few = omega arith; places = λ more. rw (append-nil r.bytes, take-append_seam) }

  placing-two : (r q : Reply) → length r.bytes + length q.bytes ≤ 18 → r.due ≤ e.time → q.due ≡ e.time
      → Placing e (r ∷ q ∷ [])
  unfolding with_reply with_replies
  placing-two r q h k u =
      record {
        few = h;
        places = λ more.
            rw (append-nil q.bytes, append_assoc r.bytes q.bytes more, take-append_seam, drop-append_seam, take-append_seam)
            (sym (with-last (with_reply (e ∷ []) r) q (by_one q.due (e ∷ []) r (omega arith, tt) (omega arith))));
      }

  placing : {v : Event} {rs : List Reply} → time_of v ≡ e.time → Few d v rs → Placing e rs
  placing u none = placing-none
  placing u (one r p h k) = placing-one r k
  placing {v} u (late x) = placing-one _ (omega arith)
  placing {v} u (two x f) = placing-two _ _ (omega arith) (omega (arith, overdue d (time_of v) x)) u

  says-placing : Placing e (says_to d e)
  unfolding says_to
  says-placing = placing (handed-time e.kind e) (few-replies d (handed e))

-- ---- in the words of the call

module _ {d : Held} {e : Entry} {entry exit : List ℕ} (room : 18 ≤ length entry) (f : Follows d.clock e) where
  module _ {a : Answer} (x : Hands d e entry (given a) exit) where
    s : Sees d e (given a) exit
    s = sees d e room f x

    pub seen_few : len_of a.first + len_of a.second ≤ 18
    seen_few = rw (s.first, s.second) (says-placing (view d) e).few

    pub seen-deck : (view a.deck ≡ after_entry (view d) e) × (a.deck.clock ≡ e.time)
    seen-deck = (s.deck, s.clock)

    -- the entry and the replies that are told are the entry and all that the deck says to it
    pub seen-all : with_answer e a.first a.second exit ≡ with_replies (e ∷ []) (says_to (view d) e)
    seen-all = rw (s.first, s.second, s.out) ((says-placing (view d) e).places s.more)

  pub never : (x : Refusal) → Hands d e entry (returned d (Err x)) exit → ⊥
  never x h = refuses x (sees d e room f h).no
