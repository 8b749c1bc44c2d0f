-- The automaton over a completed record: every entry passes its tests, and the replies that are put in change neither the deck
-- nor what it says.
use Prim.Native.Nat.{ℕ, zero, suc, ◌^◌, ◌≤◌, ◌<◌}
use mathlib.Core.Path.{◌≡◌, refl, sym, ap, ◌∙◌, subst}
use mathlib.Core.Bool.{true, false}
use mathlib.Core.Logic.{⊎_elim}
use mathlib.Core.List.{List, [], ◌∷◌, ◌++◌, map, append-nil, append_assoc}
use native.Mathlib.Omega.{arith}
use lib.Dec.{T, ltb, lt→ltb}
use Rattle.std.proofs.lemmas.Bool.{cases_lt}
use Rattle.deck.specs.Line.{Deck, at_power_on, Reply, Answer, silently, looked, acted}
use Rattle.deck.proofs.Cases.{looked-again}
use Rattle.record.specs.declared.Entry.{Entry}
use Rattle.record.specs.Entries.{entry, fits, handed, after_entry, says_to, run, said, is_deck, last_time}
use Rattle.record.specs.Machine.{Waiting, waiting, some, await, took, awaited_after}
use Rattle.record.proofs.Handed.{after_is, says_is, run-append, said-append}
use Rattle.record.proofs.Lists.{and_both, last_time-append}
use Rattle.record.proofs.Readings.{waits, Pass, Passes, deck_now, waiting_now, PassesNow, of-halves, waits-append, passes_append}
use Rattle.record.proofs.Sane.{Sane, sane-now}
use Rattle.marker.proofs.Forms.{formed-time}
use Rattle.completion.specs.Completed.{on_line, with_replies, completed_from}
use Rattle.completion.specs.Calls.{all_follow}
use Rattle.completion.proofs.Exercises.{Follows, all-follow-is}
use Rattle.completion.proofs.Looks.{Knows, Finds, look-finds, found_before, Once, none, one, acted-once, acted-knows}
use Rattle.completion.proofs.Looks.{acted-quiet, acted-look, knows-entry}
use Rattle.completion.proofs.Placed.{By, by-line, Dues, says-due, with-last, with-before, with-past, completed-next, by_next}

-- entries that pass the tests, from power-on, the last at t: the deck after them, the bytes that are still to come, and what the
-- deck has said
pub record Through (es : List Entry) (t : ℕ) (d : Deck) (now : List ℕ) (rs : List Reply) : Type 0 where
  pub passes : PassesNow es
  pub time : last_time 0 es ≡ t
  pub deck : deck_now es ≡ d
  pub left : (waiting_now es).left ≡ now
  pub says : said at_power_on es ≡ rs

pub through-none : Through [] 0 at_power_on [] []
unfolding Passes run waits said
through-none = record { passes = tt; time = refl; deck = refl; left = refl; says = refl }

-- ---- one entry more

module _ {es : List Entry} {t : ℕ} {d : Deck} {now : List ℕ} {rs : List Reply} (x : Through es t d now rs) where
  abbrev w : Waiting
  w = waiting_now es

  through-more : (e : Entry) (L E : Answer) → looked d e.time ≡ L → acted L.deck (handed e) ≡ E → Pass t L w e
      → Through (es ++ e ∷ []) e.time E.deck (awaited_after w e L E).left (rs ++ (L.replies ++ E.replies))
  unfolding Passes run waits said
  through-more e L E p q v =
      let h = of-halves (λ D W. (D ≡ E.deck) × (W.left ≡ (awaited_after w e L E).left)) d w e L E p q (refl, refl) in
      record {
        passes = passes_append 0 at_power_on (waiting [] 0) es (e ∷ []) x.passes
            (rw (x.time, x.deck) (subst (λ (A : Answer). Pass t A w e) (sym p) v, tt));
        time = last_time-append 0 es (e ∷ []);
        deck = run-append at_power_on es (e ∷ []) ∙ rw x.deck h.0;
        left = ap (λ (W : Waiting). W.left) (waits-append at_power_on (waiting [] 0) es (e ∷ [])) ∙ rw x.deck h.1;
        says = said-append at_power_on es (e ∷ []) ∙ rw (x.says, x.deck, append-nil, says_is d e L E p q);
      }

  -- what is still to come are bytes, not overdue at t
  sane : Sane t d (waiting now w.latest)
  sane = rw (← x.time, ← x.deck, ← x.left) (sane-now es x.passes)

  -- a deck byte that is the first of what is awaited at its time
  through-byte : (b u : ℕ) (more : List ℕ) (L : Answer) → looked d u ≡ L → t ≤ u → u < 2 ^ 48 → b < 256
      → (await L.replies w).left ≡ b ∷ more → u ≤ (await L.replies w).latest
      → Through (es ++ entry 1 0 b u ∷ []) u L.deck more (rs ++ L.replies)
  unfolding fits
  through-byte b u more L p o h g z i =
      let v : Pass t L w (entry 1 0 b u) =
      record {
        well_formed = and_both (ltb b 256) (ltb u (2 ^ 48)) (lt→ltb b 256 g) (lt→ltb u (2 ^ 48) h);
        ordered = o;
        in_time = λ _. i;
        deck_byte = λ _. (more, z);
        quiet = λ n. absurd n;
      } in
      rw (append-nil, z) at (through-more (entry 1 0 b u) L (silently L.deck) p (acted-look L.deck u) v)

-- ---- replies

-- bytes on the line, all at t
abbrev at_once : ℕ → List ℕ → List Entry
at_once t bytes = map (λ b. entry 1 0 b t) bytes

-- all that is awaited comes at once
through-line : (now : List ℕ) {es : List Entry} {t : ℕ} {d : Deck} {rs : List Reply} → Through es t d now rs → Knows d t
    → Through (es ++ at_once t now) t d [] rs
through-line [] x k = rw append-nil x
through-line (b ∷ now) {t = t} {d = d} x k =
    let s = sane x in
    let y = through-byte x b t now (silently d) k (omega arith) s.small s.bytes.0 x.left (s.in_time tt) in
    rw append_assoc at (through-line now (rw append-nil at y) k)

-- a reply that a look finds comes at its due time
through-found : {es : List Entry} {t : ℕ} {d : Deck} {rs : List Reply} → Through es t d [] rs → (r : Reply) → Finds d r
    → t ≤ r.due → r.due < 2 ^ 48 → Through (es ++ on_line r) r.due (looked d r.due).deck [] (rs ++ r ∷ [])
through-found {es} {d = d} {rs = rs} x r f o h =
    let D : Deck = (looked d r.due).deck in
    let p : looked d r.due ≡ record { deck = D; replies = r ∷ [] } = λ i. record { deck = D; replies = f.due i } in
    let y = through-byte x f.first r.due f.more _ p o h f.small f.bytes (omega arith) in
    subst (λ (l : List ℕ). Through (es ++ at_once r.due l) r.due D [] (rs ++ r ∷ [])) (sym f.bytes)
    (rw append_assoc at (through-line f.more y (looked-again d r.due)))

-- ---- an entry of an exercise, with the replies to it

took-none : (k t : ℕ) (w : Waiting) → is_deck k ≡ false → took k t w ≡ w
took-none zero t w n = refl
took-none (suc zero) t w n = cc
took-none (suc (suc k)) t w n = refl

-- where a reply to it comes at once, if there is one
with-once : (e : Entry) (w : Waiting) {rs : List Reply} → w.left ≡ [] → Once e.time rs
    → with_replies (e ∷ []) rs ≡ e ∷ at_once e.time (await rs w).left
unfolding with_replies
with-once e w z none = rw z
with-once e w z (one r u) = with-last (e ∷ []) r (omega arith, tt) ∙ rw u

-- where one that was due before stands in front of it
with-late : (e : Entry) (r : Reply) {rs : List Reply} → r.due < e.time → Once e.time rs
    → with_replies (e ∷ []) (r ∷ rs) ≡ on_line r ++ with_replies (e ∷ []) rs
unfolding with_replies
with-late e r {rs} h o =
    let b = by-line r.due r.due r.bytes (omega arith) in
    rw (with-before e r h) (with-past rs r.due e.time (on_line r) (e ∷ []) b (dues o))
  where
    dues : {rs : List Reply} → Once e.time rs → Dues r.due e.time rs
    dues none = tt
    dues (one q u) = (omega arith, omega arith, tt)

-- the deck's answer to it, once it has been told the time
abbrev gets : Deck → Entry → Answer
gets d e = acted d (handed e)

module _ {es : List Entry} {t : ℕ} {d : Deck} {rs : List Reply} (x : Through es t d [] rs) (e : Entry) (M : Deck) (f : Follows t e)
    (m : Knows M e.time) where
  -- R is what a look at its time finds; what is awaited then comes at once
  through-entry : (R : List Reply) → looked d e.time ≡ record { deck = M; replies = R }
      → (T (some (await R (waiting_now es)).left) → (e.time ≤ (await R (waiting_now es)).latest) × (e.time < M.free))
      → Through (es ++ e ∷ at_once e.time (await (gets M e).replies (await R (waiting_now es))).left) e.time (gets M e).deck []
      (rs ++ (R ++ (gets M e).replies))
  through-entry R p q =
      let L : Answer = record { deck = M; replies = R } in
      let v : Pass t L (waiting_now es) e =
      record {
        well_formed = rw f.form tt;
        ordered = f.later;
        in_time = λ n. (q n).0;
        deck_byte = λ n. absurd (rw f.no_deck at n);
        quiet = λ _ n. (q n).1;
      } in
      let y = through-more x e L (gets M e) p refl v in
      rw append_assoc
      at (through-line _ (rw (took-none e.kind e.time (await R (waiting_now es)) f.no_deck) at y) (acted-knows M e m))

  -- nothing was found
  through-heard : looked d e.time ≡ silently M
      → Through (es ++ with_replies (e ∷ []) (gets M e).replies) e.time (gets M e).deck [] (rs ++ (gets M e).replies)
  through-heard p =
      rw (with-once e (waiting_now es) x.left (acted-once M e m)) (through-entry [] p (λ n. absurd (rw x.left at n)))

  -- a reply that is due now: it falls in its quiet
  through-unheard : (r : Reply) → looked d e.time ≡ record { deck = M; replies = r ∷ [] } → r.due ≡ e.time → e.time < M.free
      → Through (es ++ with_replies (e ∷ []) (r ∷ (gets M e).replies)) e.time (gets M e).deck [] (rs ++ r ∷ (gets M e).replies)
  through-unheard r p u h =
      let z = acted-quiet M e h in
      let y = through-entry (r ∷ []) p (λ _. (omega arith, h)) in
      rw (z, with-once e (waiting_now es) x.left (one r u)) (rw z at y)

-- with what a look at its time finds: nothing, or a reply that is due before it or with it
module _ {es : List Entry} {t : ℕ} {d : Deck} {rs : List Reply} (x : Through es t d [] rs) (e : Entry) (f : Follows t e)
    (k : Knows d t) where
  abbrev M : Deck
  M = (looked d e.time).deck

  abbrev E : Answer
  E = gets M e

  m : Knows M e.time
  m = looked-again d e.time

  abbrev Goes : List Reply → Deck → Type 0
  Goes qs D = Through (es ++ with_replies (e ∷ []) qs) e.time D [] (rs ++ qs)

  found : {R : List Reply} → (looked d e.time).replies ≡ R → looked d e.time ≡ record { deck = M; replies = R }
  found z = λ i. record { deck = M; replies = z i }

  halves : {R : List Reply} → (looked d e.time).replies ≡ R → Goes (R ++ E.replies) E.deck
      → Goes (says_to d e) (after_entry d e)
  halves z y = rw (says_is d e _ E (found z) refl, after_is d e _ E (found z) refl) y

  alone : (looked d e.time).replies ≡ [] → Goes (says_to d e) (after_entry d e)
  alone z = halves z (through-heard x e M f m (found z))

  beside : (r : Reply) → (looked d e.time).replies ≡ r ∷ [] → Finds d r → Goes (says_to d e) (after_entry d e)
  beside r z y = halves z (⊎_elim earlier there (cases_lt r.due e.time))
    where
      due : Dues t e.time (r ∷ E.replies)
      due = rw (says_is d e _ E (found z) refl) at (says-due d t e k f.later)

      there : e.time ≤ r.due → Goes (r ∷ E.replies) E.deck
      there h =
          let u : r.due ≡ e.time = omega (arith, due.1) in
          through-unheard x e M f m r (found z) u (rw u at y.quiet)

      earlier : r.due < e.time → Goes (r ∷ E.replies) E.deck
      earlier h =
          let a = through-found x r y due.0 (omega (arith, formed-time e f.form)) in
          let g : Follows r.due e = record { no_deck = f.no_deck; later = due.1; form = f.form } in
          let b = through-heard a e M g m (found_before d r.due e.time r due.1 y.due z) in
          rw (with-late e r h (acted-once M e m)) (rw (append_assoc es, append_assoc rs) at b)

  through-next : Goes (says_to d e) (after_entry d e)
  through-next = ⊎_elim alone (λ y. beside y.0 y.1 y.2) (look-finds d e.time)

-- ---- a whole exercise

pub through-all : (es taken : List Entry) (t : ℕ) (d : Deck) (rs : List Reply) → all_follow t es ≡ true → By t taken → Knows d t
    → Through taken t d [] rs → Through (completed_from taken d es) (last_time t es) (run d es) [] (rs ++ said d es)
unfolding completed_from run said
through-all [] taken t d rs a h k x = rw append-nil x
through-all (e ∷ es) taken t d rs a h k x =
    let (f, b) = all-follow-is t e es a in
    rw (completed-next taken d t e h k f.later es, ← (append_assoc rs (says_to d e) (said (after_entry d e) es)))
    (through-all es _ e.time (after_entry d e) (rs ++ says_to d e) b (by_next taken d t e h k f.later) (knows-entry d e)
    (through-next x e f k))
