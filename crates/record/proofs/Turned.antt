-- Every cutting is accepted: what the automaton does with turns, begun or whole, and with a sound record.
use Prim.Native.Nat.{ℕ, zero, suc, ◌+◌, ◌≤◌, ◌<◌}
use mathlib.Core.Path.{◌≡◌, refl, sym, ap, ◌∙◌, subst, subst₂}
use mathlib.Core.Logic.{inl, inr}
use mathlib.Core.Bool.{Bool, true, false, false≢true}
use mathlib.Core.List.{List, [], ◌∷◌, ◌++◌, append_assoc, append-nil}
use native.Mathlib.Omega.{arith}
use native.Mathlib.Nat.{zero-add}
use lib.ListN.{length}
use borrow.Author.Tests.{le-leb}
use Rattle.settings.specs.declared.Settings.{Settings}
use Rattle.settings.specs.Settings.{power_on}
use Rattle.execute.specs.Replies.{nak, opens_quiet}
use Rattle.deck.specs.Line.{look, Deck, deck, at_power_on, Reply, Answer, silently, free_after, looked, acted}
use Rattle.deck.specs.Events.{nak_at}
use Rattle.deck.proofs.Steps.{look-shut, look-early, acted-other}
use Rattle.deck.proofs.Cases.{acted-flagged, acted-first}
use Rattle.record.specs.declared.Entry.{Entry}
use Rattle.record.specs.Entries.{entry, WellFormed, handed, run, said, is_controller, is_deck, of_kind, controller, from_deck}
use Rattle.record.specs.Entries.{contents, last_time, All, First}
use Rattle.record.specs.Turns.{InQuiet, Begun, Turn, concat, Turns, Cut, starts_from, starts, Sound}
use Rattle.record.specs.Marks.{look_at}
use Rattle.record.proofs.Handed.{said-silent, run-append, said-append}
use Rattle.record.proofs.Lists.{of_kind-append, first-map, first-zip, first-left, all_left, all_right}
use Rattle.record.proofs.Lists.{Ordered, ordered-left, ordered-right, ordered-first, ordered-of-steps}
use Rattle.record.specs.Machine.{Waiting, waiting, peek, awaited_after, begins_at}
use Rattle.record.proofs.Readings.{waits, marks, Pass, Passes, deck_now, waiting_now, PassesNow, begins-is, peek_is, of-halves}
use Rattle.record.proofs.Readings.{waits-append, marks-append, passes_append}
use Rattle.record.proofs.Opening.{Started, started-of-opening}
use Rattle.record.proofs.Coming.{Comes, deadline, QuietFrom, quiet-replied}
use Rattle.record.proofs.Ran.{Ran, shut-run}
use Rattle.record.proofs.Accepts.{answered, open-run}

-- ---- a turn as far as it has come

-- as `Ran`, with a turn that begins at the first entry
pub record Turned (d : Deck) (w : Waiting) (es : List Entry) (t₀ t : ℕ) (left : List ℕ) (lat : ℕ) (r : Reply) : Type 0 where
  pub shut : (looked (run d es) t).deck.block ≡ []
  pub awaits : peek (run d es) (waits d w es) t ≡ waiting left lat
  pub quiet : QuietFrom r (looked (run d es) t).deck.free (last_time t₀ es)
  pub marked : (i : ℕ) → marks i d es ≡ i ∷ []
  pub passes : left ≡ [] → All WellFormed es → Passes t₀ d w es

turned-cons : {d : Deck} {w : Waiting} {e : Entry} {es : List Entry} {t₀ t : ℕ} {left : List ℕ} {lat : ℕ} {r : Reply} {L E : Answer}
    → looked d e.time ≡ L → acted L.deck (handed e) ≡ E → begins_at L e ≡ true → (WellFormed e → Pass t₀ L w e)
    → Ran E.deck (awaited_after w e L E) es e.time t left lat r → Turned d w (e ∷ es) t₀ t left lat r
unfolding run waits marks Passes
turned-cons {d} {w} {e} {es} {t₀} {t} {left} {lat} {r} {L} {E} p q b c h =
    let h' = of-halves (λ D W. Ran D W es e.time t left lat r) d w e L E p q h in
    record {
      shut = h'.shut;
      awaits = h'.awaits;
      quiet = h'.quiet;
      marked = λ i. rw (begins-is d e L p, b) (ap (λ (l : List ℕ). i ∷ l) (h'.unmarked (suc i)));
      passes = λ z f. (subst (λ (A : Answer). Pass t₀ A w e) (sym p) (c f.0), h'.passes z f.1);
    }

turn-start : (fl c tm : ℕ) (h tail more : List Entry) (l f : ℕ) (s : Settings) (lat t₀ t : ℕ) (left : List ℕ) (r : Reply)
    → f ≤ tm → Ordered t₀ (entry 0 fl c tm ∷ (h ++ tail)) → from_deck h ≡ []
    → Started (entry 0 fl c tm) (controller h) (controller tail ++ more)
    → said (deck [] l f s) (entry 0 fl c tm ∷ ((h ++ tail) ++ look_at t ∷ [])) ≡ r ∷ [] → Comes tail left r
    → Turned (deck [] l f s) (waiting [] lat) (entry 0 fl c tm ∷ (h ++ tail)) t₀ t left (deadline r tail) r
turn-start fl c tm h tail more l f s lat t₀ t left r g or n i z y = go i
  where
    e : Entry
    e = entry 0 fl c tm

    d : Deck
    d = deck [] l f s

    v : looked d tm ≡ silently d
    v = look-shut (deck [] l f s) tm refl

    bg : begins_at (silently d) e ≡ true
    bg = rw (le-leb f tm g)

    pass : WellFormed e → Pass t₀ (silently d) (waiting [] lat) e
    pass v = record { well_formed = v; ordered = or.0; in_time = λ n. absurd n; deck_byte = λ n. absurd n; quiet = λ _ n. absurd n }

    go : Started e (controller h) (controller tail ++ more) → Turned d (waiting [] lat) (e ∷ (h ++ tail)) t₀ t left (deadline r tail) r
    go (inl (u, m)) =
        let w = acted-flagged d tm c fl g u in
        turned-cons v w bg pass
        (answered h tail d e l (free_after (opens_quiet fl) tm f) s t left (nak_at fl tm) r v w
        (quiet-replied (opens_quiet fl) (nak fl) tm f g) n m or.1 z y)
    go (inr (u, m)) =
        let D : Deck = deck (c ∷ []) tm f s in
        let w : acted d (handed e) ≡ silently D = acted-first l f s tm c fl g u in
        turned-cons v w bg pass
        (open-run h tail more (c ∷ []) tm f s lat tm t left r tt g (omega arith) or.1 n m
        (sym (said-silent ((h ++ tail) ++ look_at t ∷ []) d D e v w) ∙ z) y)

-- a begun turn, from a deck with no block open, where nothing is awaited; `left` of its reply is still to come
abbrev BegunRun : List Entry → Type 0
BegunRun head =
    (tail more : List Entry) (l f : ℕ) (s : Settings) (lat t₀ t : ℕ) (left : List ℕ) (r : Reply)
    → Begun head tail more r → Ordered t₀ (head ++ tail) → First (λ e. f ≤ e.time) (controller (head ++ tail))
    → said (deck [] l f s) ((head ++ tail) ++ look_at t ∷ []) ≡ r ∷ [] → contents (from_deck tail) ++ left ≡ r.bytes
    → Turned (deck [] l f s) (waiting [] lat) (head ++ tail) t₀ t left (deadline r tail) r

begun-literal : (fl c tm : ℕ) (h : List Entry) → BegunRun (entry 0 fl c tm ∷ h)
unfolding of_kind
begun-literal fl c tm h tail more l f s lat t₀ t left r b o g z p =
    turn-start fl c tm h tail more l f s lat t₀ t left r g o b.silent
    (started-of-opening (entry 0 fl c tm) (controller h) (controller tail ++ more) b.opening) z
    (record { on_time = b.on_time; bytes = p; others = b.others })

begun-run : (head : List Entry) → BegunRun head
begun-run head tail more l f s lat t₀ t left r b =
    let e : Entry = b.starts.0 in
    subst BegunRun (sym (b.starts.2 ∙ ap (λ (k : ℕ). entry k e.flags e.content e.time ∷ b.starts.1) b.starts.3))
    (begun-literal e.flags e.content e.time b.starts.1) tail more l f s lat t₀ t left r b

-- at rest: nothing open, nothing awaited
pub record Rests (d : Deck) (w : Waiting) : Type 0 where
  pub shut : d.block ≡ []
  pub left : w.left ≡ []

-- what holds of every deck and awaited at rest that are written out
at_rest : (P : Deck → Waiting → Type 0) (d : Deck) (w : Waiting) → Rests d w
    → P (deck [] d.last d.free d.settings) (waiting [] w.latest) → P d w
at_rest P d w z =
    subst₂ P (ap (λ (o : List ℕ). deck o d.last d.free d.settings) (sym z.shut))
    (ap (λ (l : List ℕ). waiting l w.latest) (sym z.left))

-- the same from any state at rest
pub begun-at : (d : Deck) (w : Waiting) → Rests d w → (head tail more : List Entry) (t₀ t : ℕ) (left : List ℕ) (r : Reply)
    → Begun head tail more r → Ordered t₀ (head ++ tail) → First (λ e. d.free ≤ e.time) (controller (head ++ tail))
    → said d ((head ++ tail) ++ look_at t ∷ []) ≡ r ∷ [] → contents (from_deck tail) ++ left ≡ r.bytes
    → Turned d w (head ++ tail) t₀ t left (deadline r tail) r
begun-at d w z head tail more t₀ t left r =
    at_rest
    (λ d w. Begun head tail more r → Ordered t₀ (head ++ tail) → First (λ e. d.free ≤ e.time) (controller (head ++ tail))
    → said d ((head ++ tail) ++ look_at t ∷ []) ≡ r ∷ [] → contents (from_deck tail) ++ left ≡ r.bytes
    → Turned d w (head ++ tail) t₀ t left (deadline r tail) r)
    d w z (begun-run head tail more d.last d.free d.settings w.latest t₀ t left r)

-- ---- whole turns

-- over es, from rest to rest, with the turn starts m i if the first entry is at i; no entry of `rest` is in quiet
pub record Whole (d : Deck) (w : Waiting) (es rest : List Entry) (t₀ : ℕ) (m : ℕ → List ℕ) : Type 0 where
  pub rests : Rests (run d es) (waits d w es)
  pub first : First (λ e. (run d es).free ≤ e.time) (controller rest)
  pub marked : (i : ℕ) → marks i d es ≡ m i
  pub passes : All WellFormed es → Passes t₀ d w es

-- a look at 0 changes nothing
look-zero : (d : Deck) → looked d 0 ≡ silently d
look-zero d = look-early d 0 (omega arith)

said-zero : (d : Deck) → said d (look_at 0 ∷ []) ≡ []
unfolding said
said-zero d = said-silent [] d d (look_at 0) (look-zero d) (acted-other d (look 0) tt)

rests-zero : (d : Deck) (w : Waiting) (lat : ℕ) → (looked d 0).deck.block ≡ [] → peek d w 0 ≡ waiting [] lat → Rests d w
rests-zero d w lat s a =
    record { shut = rw (look-zero d) at s; left = ap (λ (W : Waiting). W.left) (sym (peek_is d w 0 _ (look-zero d)) ∙ a) }

turn-run : (d : Deck) (w : Waiting) (span rest : List Entry) (t₀ : ℕ) → Rests d w → Turn d span rest → Ordered t₀ (span ++ rest)
    → First (λ e. d.free ≤ e.time) (controller (span ++ rest)) → Whole d w span rest t₀ (λ i. i ∷ [])
turn-run d w span rest t₀ z T o g =
    record {
      rests = rests-zero (run d span) (waits d w span) (deadline T.reply T.tail) u.shut u.awaits;
      first = first-zip (λ e. InQuiet T.reply e.time → ⊥) (λ e. last_time t₀ span ≤ e.time) (λ e. (run d span).free ≤ e.time)
          (controller rest) (λ e m n. free e.time m n) T.next
          (ordered-first is_controller (last_time t₀ span) rest (ordered-right t₀ span rest o));
      marked = u.marked;
      passes = u.passes refl;
    }
  where
    one : said d ((T.head ++ T.tail) ++ look_at 0 ∷ []) ≡ T.reply ∷ []
    one =
        rw (said-append d (T.head ++ T.tail) (look_at 0 ∷ []), said-zero (run d (T.head ++ T.tail)), append-nil)
        (rw T.split at T.one)

    u : Turned d w span t₀ 0 [] (deadline T.reply T.tail) T.reply
    u =
        rw T.split (begun-at d w z T.head T.tail (controller rest) t₀ 0 [] T.reply T.begun
        (rw T.split at (ordered-left t₀ span rest o))
        (rw T.split at (first-left (λ e. d.free ≤ e.time) (controller span) (controller rest)
        (rw (of_kind-append is_controller span rest) at g)))
        one (rw append-nil T.bytes))

    free : (x : ℕ) → (InQuiet T.reply x → ⊥) → last_time t₀ span ≤ x → (run d span).free ≤ x
    free x m n =
        let q : (x < (run d span).free) → ⊥ = λ j. m ((u.quiet x n).1 (rw (look-zero (run d span)) j)) in
        omega arith

whole_append : {d : Deck} {w : Waiting} {a b rest : List Entry} {t₀ : ℕ} {m n : ℕ → List ℕ}
    → Whole d w a (b ++ rest) t₀ m → Whole (run d a) (waits d w a) b rest (last_time t₀ a) n
    → Whole d w (a ++ b) rest t₀ (λ i. m i ++ n (i + length a))
whole_append {d} {w} {a} {b} {rest} {t₀} {m} {n} p q =
    record {
      rests = rw (run-append d a b, waits-append d w a b) q.rests;
      first = rw (run-append d a b) q.first;
      marked = λ i. rw (marks-append i d a b, p.marked i, q.marked (i + length a));
      passes = λ f. passes_append t₀ d w a b (p.passes (all_left WellFormed a b f)) (q.passes (all_right WellFormed a b f));
    }

turns-run : (spans : List (List Entry)) (d : Deck) (w : Waiting) (rest : List Entry) (t₀ : ℕ) → Rests d w → Turns d spans rest
    → Ordered t₀ (concat spans ++ rest) → First (λ e. d.free ≤ e.time) (controller (concat spans ++ rest))
    → Whole d w (concat spans) rest t₀ (λ i. starts_from i spans)
unfolding run waits marks Passes starts_from
turns-run [] d w rest t₀ z T o g = record { rests = z; first = g; marked = λ i. refl; passes = λ f. tt }
turns-run (s ∷ ss) d w rest t₀ z T o g =
    let o' : Ordered t₀ (s ++ (concat ss ++ rest)) = rw append_assoc at o in
    let u = turn-run d w s (concat ss ++ rest) t₀ z T.0 o' (rw append_assoc at g) in
    whole_append u
    (turns-run ss (run d s) (waits d w s) rest (last_time t₀ s) u.rests T.1 (ordered-right t₀ s (concat ss ++ rest) o') u.first)

-- ---- a record

tape-only : (p : ℕ → Bool) → ((k : ℕ) → p (suc (suc k)) ≡ false) → (es : List Entry) → All (λ e. 2 ≤ e.kind) es → of_kind p es ≡ []
unfolding of_kind
tape-only p n [] a = refl
tape-only p n (e ∷ es) a = rw (test e.kind a.0) (tape-only p n es a.1)
  where
    test : (k : ℕ) → 2 ≤ k → p k ≡ false
    test zero h = absurd (omega arith)
    test (suc zero) h = absurd (omega arith)
    test (suc (suc k)) h = n k

-- the tape entries before the first turn
lead-run : (lead rest : List Entry) → All (λ e. 2 ≤ e.kind) lead → Ordered 0 (lead ++ rest)
    → Whole at_power_on (waiting [] 0) lead rest 0 (λ i. [])
lead-run lead rest a o =
    record {
      rests = rests-zero d (waiting_now lead) 0 u.shut u.awaits;
      first = first-map (λ e. last_time 0 lead ≤ e.time) (λ e. d.free ≤ e.time) (controller rest) (λ e n. free e.time n)
          (ordered-first is_controller (last_time 0 lead) rest (ordered-right 0 lead rest o));
      marked = u.unmarked;
      passes = u.passes refl;
    }
  where
    d : Deck
    d = deck_now lead

    none : Reply
    none = record { bytes = []; due = 0; quiets = false }

    i : from_deck lead ≡ []
    i = tape-only is_deck (λ k. refl) lead a

    u : Ran at_power_on (waiting [] 0) lead 0 0 [] 0 none
    u =
        rw i at (shut-run lead 0 0 power_on [] 0 0 0 [] none (ordered-left 0 lead rest o) (rw i (tt, tt)) (rw i)
        (rw (tape-only is_controller (λ k. refl) lead a) tt)
        (λ x n. (λ q. absurd (false≢true q.opens), λ q. absurd (omega arith))))

    free : (x : ℕ) → last_time 0 lead ≤ x → d.free ≤ x
    free x n =
        let q : (x < d.free) → ⊥ = λ j. false≢true ((u.quiet x n).1 (rw (look-zero d) j)).opens in
        omega arith

pub cut-run : (es rest : List Entry) (c : Cut es rest) → Ordered 0 es
    → Whole at_power_on (waiting [] 0) (c.lead ++ concat c.spans) rest 0 (λ i. starts_from (i + length c.lead) c.spans)
cut-run es rest c o =
    let o' : Ordered 0 (c.lead ++ (concat c.spans ++ rest)) = rw c.split at o in
    let u = lead-run c.lead (concat c.spans ++ rest) c.tape o' in
    whole_append u
    (turns-run c.spans (deck_now c.lead) (waiting_now c.lead) rest (last_time 0 c.lead) u.rests c.turns
    (ordered-right 0 c.lead (concat c.spans ++ rest) o') u.first)

ordered-of-sound : (es : List Entry) → Sound es → Ordered 0 es
ordered-of-sound [] s = tt
ordered-of-sound (e ∷ es) s = ordered-of-steps 0 (e ∷ es) (omega arith) s.ordered

-- a sound record passes all tests, ends at rest, and its turn starts are those of its cutting
pub record Accepted (es : List Entry) (places : List ℕ) : Type 0 where
  pub rests : Rests (deck_now es) (waiting_now es)
  pub marked : marks 0 at_power_on es ≡ places
  pub passes : PassesNow es

pub sound-accepted : (es : List Entry) (s : Sound es) → Accepted es (starts s.cutting)
sound-accepted es s =
    let c : Cut es [] = s.cutting in
    let e : es ≡ c.lead ++ concat c.spans = c.split ∙ rw append-nil in
    let u = cut-run es [] c (ordered-of-sound es s) in
    record { rests = rw e u.rests; marked = rw (e, u.marked 0, zero-add); passes = rw e (u.passes (rw e at s.formed)) }
