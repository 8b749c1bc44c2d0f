-- An entry that fills the block: its step. And where none does: what is left for the deck to be told.
use Prim.Native.Nat.{ℕ, zero, suc, ◌+◌, ◌*◌, ◌%◌, ◌≤◌, ◌<◌, ◌^◌}
use mathlib.Core.Path.{◌≡◌, refl, sym, ap, ◌∙◌, subst}
use mathlib.Core.Bool.{Bool, true, false, not, and-false, false≢true}
use mathlib.Core.List.{List, [], ◌∷◌, ◌++◌}
use native.Mathlib.Decide.{ℕ_discrete, dec_le}
use native.Mathlib.Omega.{arith}
use borrow.Author.Tests.{lt-ltb, le-ltb, lt-leb, ne_eqb, not-true, eqb-true, ltb-true, ltb-false, leb-false}
use lib.Dec.{eqb, ltb}
use lib.ListN.{length}
use Rattle.std.proofs.lemmas.Bool.{and_parts}
use Rattle.deck.specs.declared.Deck.{Deck as Held}
use Rattle.std.specs.Prelude.{IfSome}
use Rattle.deck.specs.Line.{byte, Deck, Answer, silently, timed_out, size, looked, answers}
use Rattle.deck.specs.Calls.{refusal, number, flags_fit, view, Returned}
use Rattle.deck.specs.Joins.{grows, fills, joins, Tried, joining, filling, striking, OnlyIf}
use Rattle.deck.proofs.Made.{made_so}
use Rattle.deck.proofs.Held.{opened}
use Rattle.deck.proofs.Steps.{look-found, look-nothing, byte-dropped}
use Rattle.deck.proofs.Found.{byte-in-time}
use Rattle.deck.proofs.Replies.{late-looked}
use Rattle.deck.proofs.Numbers.{unrefused}
use Rattle.deck.proofs.Joining.{allowed, joins-taken, joining-is, joining-fills, joins-deck, joins-answers, joining-made}
use Rattle.deck.proofs.Filling.{fills-looked, fills-open, filling-is, striking-dropped, striking-heard}
use Rattle.record.specs.declared.Entry.{Entry}
use Rattle.record.specs.Entries.{formed, is_controller}
use Rattle.record.specs.Machine.{Waiting, some, await}
use Rattle.marker.specs.declared.Marker.{Marker}
use Rattle.marker.specs.Steps.{awaited, heard, Timed, Acts, late_fault, Steps, fills_block}
use Rattle.marker.proofs.Forms.{no-controller, formed-time, formed-controller}
use Rattle.marker.proofs.Tests.{none-awaited, overdue, interrupts}
use Rattle.marker.proofs.Answered.{brief-soon, Asked, asked}
use Rattle.marker.proofs.Whole.{does}
use Rattle.marker.proofs.Passing.{timed, passes, formed-byte}

-- ---- an entry that fills the block

controls : (k : ℕ) → is_controller k ≡ true → k ≡ 0
controls zero p = refl
controls (suc k) p = absurd (false≢true p)

module _ (m : Marker) (e : Entry) (y : fills_block m e ≡ true) where
  abbrev d : Held
  d = m.deck

  tests : (is_controller e.kind ≡ true) × (eqb e.flags 0 ≡ true) × (ltb e.content 256 ≡ true)
      × (not (some (awaited m.waits).left) ≡ true) × (eqb (refusal 18 d.clock e.time 0 0) 0 ≡ true)
      × (fills (view d) e.time e.content ≡ true)
  unfolding fills_block filling
  tests =
      let p = and_parts (is_controller e.kind) _ y in
      let q = and_parts (eqb e.flags 0) _ p.1 in
      let r = and_parts (ltb e.content 256) _ q.1 in
      let s = and_parts (not (some (awaited m.waits).left)) _ r.1 in
      let t = and_parts (eqb (refusal 18 d.clock e.time 0 0) 0) _ s.1 in
      (p.0, q.0, r.0, s.0, t.0, t.1)

  kind : e.kind ≡ 0
  kind = controls e.kind tests.0

  clean : e.flags ≡ 0
  clean = eqb-true e.flags 0 tests.1

  pub small : e.content < 256
  small = ltb-true e.content 256 tests.2

  in-time : (e.time < 2 ^ 48) × (d.clock ≤ e.time)
  in-time = allowed 18 d.clock e.time 0 0 (eqb-true _ _ tests.4)

  silent : looked (view d) e.time ≡ silently (view d)
  silent = fills-looked d e.time e.content tests.5

  -- the deck takes it
  pub asked-fill : {out exit : List ℕ} {q : Returned} → 18 ≤ length out
      → OnlyIf (filling (length out) d e.time e.content) d (byte e.time e.content 0) out q exit
      → Asked m e.time (answers (view d) (byte e.time e.content 0)) q exit
  asked-fill {out} room x =
      let z = unrefused (length out) d.clock e.time 0 0 room in-time.1 in-time.0 refl (omega arith) in
      asked m (byte e.time e.content 0) (x.does (filling-is (length out) d e.time e.content 0 (sym z) refl true (sym tests.5))) z in-time.0
      (brief-soon (view d) (byte e.time e.content 0) silent)

  pub fills-so : (q : Marker) → Acts m e.time (answers (view d) (byte e.time e.content 0)) q
      → Steps m e (record { fault = 0; begins = false; marker = q })
  fills-so q a =
      let p : Acts (timed e.time m) e.time (answers (view d) (byte e.time e.content e.flags)) q =
      rw clean
      (record {
        deck = a.deck;
        waits = a.waits;
        clock = a.clock;
        made = λ k. a.made (made_so (timed e.time m).deck d refl refl refl k);
      }) in
      passes m q e (formed-byte m e clean kind small in-time.0) in-time.1 silent
      (none-awaited (view d) (awaited m.waits) e (not-true _ tests.3) (λ z. omega (arith, kind)))
      (does (timed e.time m) q e 0 kind refl silent p)
      false
      (rw (kind, opened d.held d.first d.tail (fills-open d e.time e.content tests.5)))

-- ---- an entry that does not

module _ (m : Marker) (e : Entry) where
  pub unfilled-kind : (e.kind ≡ 0 → ⊥) → fills_block m e ≡ false
  unfolding fills_block
  unfilled-kind k = rw (no-controller e.kind k)

  pub unfilled-head : (e.kind + 256 * e.flags ≡ 0 → ⊥) → fills_block m e ≡ false
  unfolding fills_block
  unfilled-head h = by (ℕ_discrete e.kind 0)
    where
      by : Dec (e.kind ≡ 0) → fills_block m e ≡ false
      by (yes k) = rw (ne_eqb e.flags 0 (λ c. h (omega (arith, k, c))), and-false)
      by (no k) = unfilled-kind k

  pub unfilled-content : 255 < e.content → fills_block m e ≡ false
  unfolding fills_block
  unfilled-content h = rw (le-ltb e.content 256 (omega arith), and-false, and-false)

  pub unfilled-waits : some (awaited m.waits).left ≡ true → fills_block m e ≡ false
  unfolding fills_block
  unfilled-waits s = rw (s, and-false, and-false, and-false)

  -- where the other tests hold, the deck decides
  pub deck-fills : e.kind ≡ 0 → e.flags ≡ 0 → e.content < 256 → some (awaited m.waits).left ≡ false
      → fills_block m e ≡ filling 18 m.deck e.time e.content
  unfolding fills_block
  deck-fills k c h s = rw (k, c, lt-ltb e.content 256 h, s)

  -- as `join` says
  pub joined-fills : e.kind ≡ 0 → e.flags ≡ 0 → e.content < 256 → some (awaited m.waits).left ≡ false
      → (j : Tried) → j ≡ joining m.deck e.time e.content → fills_block m e ≡ j.fills
  joined-fills k c h s j p =
      deck-fills k c h s ∙ sym (joining-fills m.deck e.time e.content) ∙ sym (ap (λ (z : Tried). z.fills) p)

-- nothing fills a block that is not open, or in quiet
fills-none : (x : Deck) (t b : ℕ) → x.block ≡ [] → fills x t b ≡ false
unfolding fills
fills-none x t b p = rw (p, lt-leb (b % 16 + 3) 1 (omega arith), and-false)

fills-quiet : (x : Deck) (t b : ℕ) → t < x.free → fills x t b ≡ false
unfolding fills
fills-quiet x t b h = rw (lt-ltb t x.free h, and-false)

-- after the look, if the entry has no fault, the deck's block is not filled either
module _ (m n : Marker) (e : Entry) (y : fills_block m e ≡ false) (f : formed e ≡ true) (t : m.deck.clock ≤ e.time)
    (l : Acts m e.time (looked (view m.deck) e.time) n)
    (z : late_fault (view n.deck) (awaited n.waits) e ≡ 0) (k : e.kind ≡ 0) (c : e.flags ≡ 0) where
  abbrev Unfilled : Type 0
  Unfilled = fills (view n.deck) e.time e.content ≡ false

  unfilled-late : timed_out (view m.deck) e.time ≡ true → Unfilled
  unfilled-late p =
      rw l.deck
      (fills-none (looked (view m.deck) e.time).deck e.time e.content
      (ap (λ (a : Answer). a.deck.block) (look-found (view m.deck) e.time p)))

  unfilled-awaited : some (awaited n.waits).left ≡ true → Unfilled
  unfilled-awaited s = by (dec_le n.deck.free e.time) (dec_le e.time n.waits.latest)
    where
      by : Dec (n.deck.free ≤ e.time) → Dec (e.time ≤ n.waits.latest) → Unfilled
      by (yes h) (yes i) = absurd (omega (arith, z, interrupts (view n.deck) (awaited n.waits) e s i k h))
      by (yes h) (no i) = absurd (omega (arith, z, overdue (view n.deck) (awaited n.waits) e s (omega arith)))
      by (no h) i = fills-quiet (view n.deck) e.time e.content (omega arith)

  same-fills : some (awaited m.waits).left ≡ false → fills (view m.deck) e.time e.content ≡ false
  same-fills s =
      let d = m.deck in
      let r = unrefused 18 d.clock e.time 0 0 (omega arith) t (formed-time e f) refl (omega arith) in
      sym (filling-is 18 d e.time e.content 0 (sym r) refl _ refl) ∙ sym (deck-fills m e k c (formed-controller e f k).1 s) ∙ y

  unfilled-soon : timed_out (view m.deck) e.time ≡ false → Unfilled
  unfilled-soon p =
      let s = look-nothing (view m.deck) e.time p in
      let v : view n.deck ≡ view m.deck = l.deck ∙ ap (λ (a : Answer). a.deck) s in
      let w : awaited n.waits ≡ awaited m.waits = l.waits ∙ ap (λ (a : Answer). await a.replies (awaited m.waits)) s in
      by v w (some (awaited m.waits).left) refl
    where
      by : view n.deck ≡ view m.deck → awaited n.waits ≡ awaited m.waits → (x : Bool) → some (awaited m.waits).left ≡ x
          → Unfilled
      by v w true q = unfilled-awaited (ap (λ (x : Waiting). some x.left) w ∙ q)
      by v w false q = ap (λ (x : Deck). fills x e.time e.content) v ∙ same-fills q

  pub unfilled : Unfilled
  unfilled = by (timed_out (view m.deck) e.time) refl
    where
      by : (x : Bool) → timed_out (view m.deck) e.time ≡ x → Unfilled
      by true p = unfilled-late p
      by false p = unfilled-soon p

-- ---- a byte that does not fill the block, after the look

module _ (m : Marker) (t b flags : ℕ) (k : Timed m t) (fit : flags_fit flags ≡ true) where
  abbrev Told : Marker → Type 0
  Told q = Acts m t (answers (view m.deck) (byte t b flags)) q

  soon : timed_out (view m.deck) t ≡ false
  soon = by (timed_out (view m.deck) t) refl
    where
      by : (x : Bool) → timed_out (view m.deck) t ≡ x → timed_out (view m.deck) t ≡ false
      by true p = absurd (late-looked (view m.deck) t p k.silent)
      by false p = p

  unrefused-at : (room : ℕ) → 18 ≤ room → refusal room m.deck.clock t flags 0 ≡ 0
  unrefused-at room h = unrefused room m.deck.clock t flags 0 h (omega (arith, k.clock)) k.range fit (omega arith)

  -- in quiet the deck and what is awaited stay
  in-quiet : t < m.deck.free → (q : Marker) → q.deck ≡ m.deck → awaited q.waits ≡ awaited m.waits → Told q
  in-quiet h q p w =
      let a = byte-in-time (view m.deck) t b flags soon ∙ byte-dropped (view m.deck) t b flags h in
      record {
        deck = ap view p ∙ sym (ap (λ (x : Answer). x.deck) a);
        waits = w ∙ sym (ap (λ (x : Answer). await x.replies (awaited m.waits)) a);
        clock = ap (λ (x : Held). x.clock) p ∙ k.clock;
        made = λ k. rw p k;
      }

  -- the deck is told a flagged one
  pub asked-strike : {out exit : List ℕ} {q : Returned} → (flags ≡ 0 → ⊥) → 18 ≤ length out
      → OnlyIf (striking (length out) m.deck t flags) m.deck (byte t b flags) out q exit
      → Asked m t (answers (view m.deck) (byte t b flags)) q exit
  asked-strike {out} {exit} {q} o room x = by (dec_le m.deck.free t)
    where
      zero_number : number (length out) m.deck.clock (byte t b flags) ≡ 0
      zero_number = unrefused-at (length out) room

      by : Dec (m.deck.free ≤ t) → Asked m t (answers (view m.deck) (byte t b flags)) q exit
      by (yes h) =
          asked m (byte t b flags) (x.does (striking-heard (length out) m.deck t flags 0 (sym zero_number) refl o h soon)) zero_number k.range
          (brief-soon (view m.deck) (byte t b flags) k.silent)
      by (no h) =
          let e = (x.rests (striking-dropped (length out) m.deck t flags 0 (sym zero_number) (omega arith))).0 in
          record {
            prompt =
                record {
                  taken = ap (λ (y : Returned). y.no) e ∙ zero_number;
                  due = subst (λ (y : Returned). IfSome y.first (λ s. s.due < 2 ^ 48)) (sym e) tt;
                };
            acts = λ r d w.
                in-quiet (omega arith) r (d ∙ ap (λ (y : Returned). y.deck) e)
                (w ∙ ap (λ (y : Returned). heard y.first exit (awaited m.waits)) e);
          }

-- a clean byte that neither joins the block nor fills it is in quiet
neither : (x : Deck) (t b : ℕ) → timed_out x t ≡ false → grows x t b ≡ false → fills x t b ≡ false → t < x.free
unfolding grows fills
neither x t b p g f = by (dec_le x.free t)
  where
    by : Dec (x.free ≤ t) → t < x.free
    by (no h) = omega arith
    by (yes h) =
        let u = ltb-false (length x.block + 1) (size (x.block ++ b ∷ [])) (rw (p, le-ltb t x.free h) at g) in
        let v = leb-false (size (x.block ++ b ∷ [])) (length x.block + 1) (rw (p, le-ltb t x.free h) at f) in
        absurd (omega (arith, u, v))

module _ (m : Marker) (t b : ℕ) (k : Timed m t) (u : fills (view m.deck) t b ≡ false) (h : b < 256) where
  joined-acts : (x : Bool) → joins m.deck t b ≡ x → (j : Tried) → j ≡ joining m.deck t b
      → Acts m t (answers (view m.deck) (byte t b 0)) (record { deck = j.deck; waits = m.waits })
  joined-acts true y j p =
      let a = joins-answers m.deck t b y h in
      record {
        deck = ap (λ (z : Tried). view z.deck) p ∙ sym (ap (λ (x : Answer). x.deck) a);
        waits = sym (ap (λ (x : Answer). await x.replies (awaited m.waits)) a);
        clock = ap (λ (z : Tried). z.deck.clock) p ∙ ap (λ (x : Held). x.clock) (joins-deck m.deck t b y);
        made = λ k. rw p (joining-made m.deck t b h k);
      }
  joined-acts false y j p =
      let r = unrefused-at m t b 0 k refl 18 (omega arith) in
      let g = sym (joins-taken m.deck t b 0 (sym r) refl _ refl) ∙ y in
      in-quiet m t b 0 k refl (neither (view m.deck) t b (soon m t b 0 k refl) g u)
      (record { deck = j.deck; waits = m.waits }) (ap (λ (z : Tried). z.deck) (p ∙ joining-is m.deck t b _ false _ refl y refl)) refl

  pub joined-so : (j : Tried) → j ≡ joining m.deck t b
      → Acts m t (answers (view m.deck) (byte t b 0)) (record { deck = j.deck; waits = m.waits })
  joined-so = joined-acts (joins m.deck t b) refl

  -- the deck is the same where the byte does not join
  pub kept : (j : Tried) → j ≡ joining m.deck t b → j.deck ≡ m.deck → Acts m t (answers (view m.deck) (byte t b 0)) m
  kept j p e =
      subst (λ (x : Held). Acts m t (answers (view m.deck) (byte t b 0)) (record { deck = x; waits = m.waits })) e (joined-so j p)
