-- The replies to one event: how many, due when, how long.
use mathlib.Core.Bool.{true}
use mathlib.Core.List.{List, [], ◌∷◌, ◌++◌, nil≢cons}
use mathlib.Core.Logic.{⊎_elim}
use mathlib.Core.Path.{◌≡◌, refl, sym, ap, ◌∙◌}
use Prim.Native.Nat.{ℕ, ◌+◌, ◌<◌}
use native.Mathlib.Omega.{arith}
use borrow.Author.Tests.{lt-ltb}
use Rattle.execute.specs.Replies.{time_out}
use Rattle.execute.proofs.Replies.{reply-long, reply-short}
use Rattle.deck.specs.Line.{Event, byte, look, position, cassette, time_of, Deck, deck, Answer, silently, is_open, timed_out}
use Rattle.deck.specs.Line.{looked, taken, acted, says}
use Rattle.deck.specs.Events.{nak_at, Few, none, one, late, two}
use Rattle.deck.proofs.Steps.{look-found, look-shut, look-cases, byte-cases, taken_more, taken-cases, acted-byte, acted-other}
use Rattle.deck.proofs.Steps.{answers-soon, answers-late}

module _ (d : Deck) where
  taken-few : (b flags t : ℕ) (block : List ℕ) → Few d (byte t b flags) (taken d block t).replies
  taken-few b flags t block =
      ⊎_elim
      (λ p. rw p (one _ refl (reply-long d.settings block) (reply-short d.settings block)))
      (λ p. rw p none)
      (taken-cases d block t)

  -- with no time-out before it
  soon : (e : Event) → Few d e (acted d e).replies
  soon (byte t b flags) =
      rw (acted-byte d t b flags)
      (⊎_elim
      (λ p. rw p none)
      (⊎_elim
      (λ p. rw p (taken-few b flags t (d.block ++ b ∷ [])))
      (λ p. rw p.1 (one (nak_at flags t) refl (omega arith) (omega arith))))
      (byte-cases d t b flags))
  soon (look t) = rw (acted-other d (look t) tt) none
  soon (position t p) = rw (acted-other d (position t p) tt) none
  soon (cassette t) = rw (acted-other d (cassette t) tt) none

  -- after a time-out no block is open, and one byte is no full block
  abbrev void : Deck
  void = deck [] d.last (d.last + 20002) d.settings

  found : (e : Event) → timed_out d (time_of e) ≡ true → Few d e (nak_at time_out (d.last + 10001) ∷ (acted void e).replies)
  found (byte t b flags) h =
      rw (acted-byte void t b flags)
      (⊎_elim
      (λ p. rw p (late h))
      (⊎_elim (λ p. rw (p, taken_more void (b ∷ []) t (omega arith)) (late h)) (λ p. rw p.1 (two h p.0)))
      (byte-cases void t b flags))
  found (look t) h = rw (acted-other void (look t) tt) (late h)
  found (position t p) h = rw (acted-other void (position t p) tt) (late h)
  found (cassette t) h = rw (acted-other void (cassette t) tt) (late h)

  out-of-time : (t : ℕ) → is_open d.block ≡ true → d.last + 10000 < t → timed_out d t ≡ true
  out-of-time t o h = rw (o, lt-ltb (d.last + 10000) t h)

  pub few-replies : (e : Event) → Few d e (says d e)
  few-replies e =
      ⊎_elim
      (λ p. rw (answers-soon d e p refl, says) (soon e))
      (λ p. rw (answers-late d e p.0 p.1, answers-soon void e (look-shut void (time_of e) refl) refl, says)
      (found e (out-of-time (time_of e) p.0 p.1)))
      (look-cases d (time_of e))

-- a time-out is found by a look at its time
pub late-looked : (d : Deck) (t : ℕ) → timed_out d t ≡ true → looked d t ≡ silently d → ⊥
late-looked d t h p = nil≢cons (ap (λ (a : Answer). a.replies) (sym p ∙ look-found d t h))
