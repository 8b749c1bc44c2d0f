-- The deck's calls as the marker makes them: none is refused, and each brings one reply at most.
use Prim.Native.Nat.{ℕ, ◌≤◌, ◌<◌, ◌^◌}
use mathlib.Core.Path.{◌≡◌, refl, sym, ap, ◌∙◌, subst}
use mathlib.Core.Bool.{true}
use mathlib.Core.List.{List, [], ◌∷◌, ◌++◌, append-nil}
use native.Mathlib.Omega.{arith}
use borrow.Author.Tests.{eq-eqb}
use lib.ListN.{length, drop}
use lib.Seq.{take-append_seam}
use Rattle.std.specs.Prelude.{Option, IfSome}
use Rattle.timecode.specs.Time.{day}
use Rattle.deck.specs.declared.Sent.{Sent}
use Rattle.deck.specs.Line.{Event, look, time_of, Deck, Reply, Answer, silently, looked, answers}
use Rattle.deck.specs.Events.{Few, none, one, late, two}
use Rattle.deck.specs.Calls.{flags_of, place_of, flags_fit, number, told, reply_bytes, Call, taken_call, view, Returned, seen, Answers}
use Rattle.deck.proofs.Late.{overdue}
use Rattle.deck.proofs.Replies.{few-replies, late-looked}
use Rattle.deck.proofs.Numbers.{unrefused, call-is}
use Rattle.deck.proofs.Steps.{look-alone}
use Rattle.record.specs.Machine.{Waiting, await}
use Rattle.marker.specs.declared.Marker.{Marker}
use Rattle.marker.specs.Steps.{awaited, heard, Prompt, Timed, Acts}

-- ---- no more than one reply

-- none, or one with bytes, due at t at the latest
abbrev pub Brief : ℕ → List Reply → Type 0
Brief t [] = Unit
Brief t (r ∷ []) = (0 < length r.bytes) × (r.due ≤ t)
Brief t (r ∷ s ∷ rs) = ⊥

-- a look finds a time-out at most
brief-look : (d : Deck) (t : ℕ) → Brief t (answers d (look t)).replies
brief-look d t = go (few-replies d (look t))
  where
    go : {rs : List Reply} → Few d (look t) rs → Brief t rs
    go none = tt
    go (one r p h k) = (omega arith, omega (arith, p))
    go (late h) = (omega arith, omega (arith, overdue d t h))

-- after a look at its time an event finds none
pub brief-soon : (d : Deck) (e : Event) → looked d (time_of e) ≡ silently d → Brief (time_of e) (answers d e).replies
brief-soon d e p = go e p (few-replies d e)
  where
    go : (e : Event) → looked d (time_of e) ≡ silently d → {rs : List Reply} → Few d e rs → Brief (time_of e) rs
    go e p none = tt
    go e p (one r q h k) = (omega arith, omega (arith, q))
    go e p (late h) = absurd (late-looked d (time_of e) h p)
    go e p (two {t} h f) = absurd (late-looked d t h p)

told-due : (t : ℕ) (rs : List Reply) → Brief t rs → t < 2 ^ 48 → IfSome (told rs) (λ s. s.due < 2 ^ 48)
told-due t [] b h = tt
told-due t (r ∷ []) b h = omega (arith, b.1)
told-due t (r ∷ s ∷ rs) b h = absurd b

-- from what a caller sees, such replies are awaited as the automaton does
hears : (t : ℕ) (rs : List Reply) (w : Waiting) (out : List ℕ) → Brief t rs
    → heard (told rs) (reply_bytes rs ++ drop (length (reply_bytes rs)) out) w ≡ await rs w
hears t [] w out b = refl
hears t (r ∷ []) w out b = rw (append-nil, take-append_seam)
hears t (r ∷ s ∷ rs) w out b = absurd b

-- ---- a call that is not refused

-- it is prompt, and the marker goes on from what it hands out
pub record Asked (m : Marker) (t : ℕ) (a : Answer) (q : Returned) (exit : List ℕ) : Type 0 where
  pub prompt : Prompt q
  pub acts : (r : Marker) → r.deck ≡ q.deck → awaited r.waits ≡ heard q.first exit (awaited m.waits) → Acts m t a r

pub asked : (m : Marker) (e : Event) {out exit : List ℕ} {q : Returned} → Answers m.deck e out q exit
    → number (length out) m.deck.clock e ≡ 0 → time_of e < 2 ^ 48 → Brief (time_of e) (answers (view m.deck) e).replies
    → Asked m (time_of e) (answers (view m.deck) e) q exit
asked m e {out} {exit} {q} x z h b =
    let s : seen q exit ≡ taken_call (time_of e) (answers (view m.deck) e) out =
    x.seen-is ∙ call-is m.deck.clock (view m.deck) e out true (eq-eqb _ _ z) in
    record {
      prompt =
          record {
            taken = ap (λ (k : Call). k.no) s;
            due = subst (λ (o : Option Sent). IfSome o (λ s. s.due < 2 ^ 48)) (sym (ap (λ (k : Call). k.first) s))
                (told-due (time_of e) (answers (view m.deck) e).replies b h);
          };
      acts = λ r d w.
          record {
            deck = ap view d ∙ ap (λ (k : Call). k.deck) s;
            waits =
                w ∙ ap (λ (k : Call). heard k.first k.out (awaited m.waits)) s
                ∙ hears (time_of e) (answers (view m.deck) e).replies (awaited m.waits) out b;
            clock = rw d (ap (λ (k : Call). k.clock) s);
            made = λ k. rw d (x.made k);
          };
    }

-- the deck is told the time
pub asked-look : (m : Marker) (t : ℕ) {out exit : List ℕ} {q : Returned} → Answers m.deck (look t) out q exit → 18 ≤ length out
    → m.deck.clock ≤ t → t < 2 ^ 48 → Asked m t (looked (view m.deck) t) q exit
asked-look m t {out} {exit} {q} x room c h =
    subst (λ (a : Answer). Asked m t a q exit) (look-alone (view m.deck) t)
    (asked m (look t) x (unrefused (length out) m.deck.clock t 0 0 room c h refl (omega arith)) h (brief-look (view m.deck) t))

-- and then of something at that time
pub asked-timed : (m : Marker) (e : Event) {out exit : List ℕ} {q : Returned} → Answers m.deck e out q exit → 18 ≤ length out
    → Timed m (time_of e) → flags_fit (flags_of e) ≡ true → place_of e < day
    → Asked m (time_of e) (answers (view m.deck) e) q exit
asked-timed m e {out} x room t f p =
    asked m e x (unrefused (length out) m.deck.clock (time_of e) (flags_of e) (place_of e) room (omega (arith, t.clock)) t.range f p) t.range
    (brief-soon (view m.deck) e t.silent)
