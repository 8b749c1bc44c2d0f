-- A light entry: its step, with no answer of the deck.
use Prim.Native.Nat.{ℕ, ◌+◌, ◌≤◌, ◌<◌, ◌^◌}
use mathlib.Core.Path.{◌≡◌, refl, sym, ap, ◌∙◌}
use mathlib.Core.Bool.{Bool, true, false, not, ◌&&◌, and-true}
use native.Mathlib.Omega.{arith}
use borrow.Author.Tests.{lt-ltb, le-leb, eq-eqb}
use lib.Dec.{eqb, leb}
use lib.ListN.{drop}
use Rattle.deck.specs.declared.Deck.{Deck as Held}
use Rattle.deck.specs.Line.{byte, Answer, silently, is_open, looked, answers}
use Rattle.deck.specs.Calls.{view}
use Rattle.deck.specs.Joins.{joins, with_clock, Tried, joining}
use Rattle.deck.proofs.Made.{made_so}
use Rattle.deck.proofs.Steps.{look-nothing}
use Rattle.deck.proofs.Joining.{grows-looked, grows-heard, joining-taken, joins-grows, joins-range, joins-deck, joins-answers, joining-made}
use Rattle.record.specs.declared.Entry.{Entry}
use Rattle.record.specs.Entries.{formed, is_controller}
use Rattle.record.specs.Machine.{waiting, some, await}
use Rattle.marker.specs.declared.Waits.{Waits}
use Rattle.marker.specs.declared.Marker.{Marker}
use Rattle.marker.specs.Steps.{awaited, Acts, Does, late_fault, Steps, Expected}
use Rattle.record.proofs.Forms.{fits-controller, fits-deck}
use Rattle.marker.proofs.Tests.{none-held, none-awaited, agrees}
use Rattle.marker.proofs.Whole.{does, takes, gone}

-- told the time, where no time-out is due
abbrev pub timed : ℕ → Marker → Marker
timed t m = record { deck = with_clock t m.deck; waits = m.waits }

module _ (m q : Marker) (e : Entry) (f : formed e ≡ true) (t : m.deck.clock ≤ e.time)
    (s : looked (view m.deck) e.time ≡ silently (view m.deck)) where
  looks : Acts m e.time (looked (view m.deck) e.time) (timed e.time m)
  looks =
      record {
        deck = sym (ap (λ (x : Answer). x.deck) s);
        waits = sym (ap (λ (x : Answer). await x.replies (awaited m.waits)) s);
        clock = refl;
        made = made_so m.deck (timed e.time m).deck refl refl refl;
      }

  pub passes : late_fault (view m.deck) (awaited m.waits) e ≡ 0 → Does (timed e.time m) e q
      → (b : Bool) → b ≡ is_controller e.kind && (not (is_open (view m.deck).block) && leb m.deck.free e.time)
      → Steps m e (record { fault = 0; begins = b; marker = q })
  passes z o b p = gone m e (timed e.time m) q looks o f t z b p

module _ (m : Marker) (e : Entry) (c : e.flags ≡ 0) where
  formed-reply : e.kind ≡ 1 → e.content < 256 → e.time < 2 ^ 48 → formed e ≡ true
  formed-reply k s h = rw (fits-deck e k, eq-eqb e.flags 0 c, lt-ltb e.content 256 s, lt-ltb e.time (2 ^ 48) h)

  -- the awaited byte
  pub arrives : e.kind ≡ 1 → Expected m e → (w : Waits)
      → awaited w ≡ waiting (drop 1 (awaited m.waits).left) (e.time + 10000)
      → Steps m e (record { fault = 0; begins = false; marker = record { deck = (timed e.time m).deck; waits = w } })
  arrives k x w p =
      let q : Marker = record { deck = (timed e.time m).deck; waits = w } in
      passes m q e (formed-reply k x.small x.range) x.order (look-nothing (view m.deck) e.time (rw x.shut))
      (agrees (view m.deck) (awaited m.waits) e x.awaits x.soon k x.next)
      (takes (timed e.time m) q e k refl refl p) false (rw k)

  pub formed-byte : e.kind ≡ 0 → e.content < 256 → e.time < 2 ^ 48 → formed e ≡ true
  formed-byte k s h = rw (fits-controller e k, c, lt-ltb e.content 256 s, lt-ltb e.time (2 ^ 48) h)

  -- a byte that joins the block
  pub joins-so : e.kind ≡ 0 → e.content < 256 → some (awaited m.waits).left ≡ false
      → (j : Tried) → j ≡ joining m.deck e.time e.content → j.taken ≡ true
      → Steps m e (record { fault = 0; begins = eqb m.deck.held 0; marker = record { deck = j.deck; waits = m.waits } })
  joins-so k s n j p y =
      let d = m.deck in
      let x : joins d e.time e.content ≡ true =
      sym (joining-taken d e.time e.content) ∙ ap (λ (z : Tried). z.taken) (sym p) ∙ y in
      let g = joins-grows d e.time e.content x in
      let r = joins-range d e.time e.content x in
      let l = grows-looked d e.time e.content g in
      let q : Marker = record { deck = j.deck; waits = m.waits } in
      let a : answers (view d) (byte e.time e.content e.flags) ≡ silently (view j.deck) =
      ap (λ (f : ℕ). answers (view d) (byte e.time e.content f)) c ∙ joins-answers d e.time e.content x s
      ∙ ap (λ (z : Tried). silently (view z.deck)) (sym p) in
      let acts : Acts (timed e.time m) e.time (answers (view d) (byte e.time e.content e.flags)) q =
      record {
        deck = sym (ap (λ (z : Answer). z.deck) a);
        waits = sym (ap (λ (z : Answer). await z.replies (awaited m.waits)) a);
        clock = ap (λ (z : Tried). z.deck.clock) p ∙ ap (λ (z : Held). z.clock) (joins-deck d e.time e.content x);
        made = λ z. rw p (joining-made d e.time e.content s (made_so (timed e.time m).deck d refl refl refl z));
      } in
      passes m q e (formed-byte k s r.0) r.1 l (none-awaited (view d) (awaited m.waits) e n (λ z. omega arith))
      (does (timed e.time m) q e 0 k refl l acts)
      (eqb d.held 0)
      (rw (k, le-leb d.free e.time (grows-heard d e.time e.content g), and-true)
      (none-held d.held d.first d.tail))
