-- What the automaton does with the rest of a turn that is under way: a block is open, and ends by a time-out, a flagged byte or its
-- last byte; then the reply comes.
use Prim.Native.Nat.{ℕ, zero, suc, ◌+◌, ◌≤◌, ◌<◌}
use mathlib.Core.Path.{◌≡◌, refl, sym, ap, ◌∙◌, subst}
use mathlib.Core.Logic.{◌⊎◌, inl, inr}
use mathlib.Core.Bool.{Bool, false}
use mathlib.Core.List.{List, [], ◌∷◌, ◌++◌, append-nil, nil≢cons, cons≢nil, head-eq_of_cons-eq}
use native.Mathlib.Numerals.{add-one}
use native.Mathlib.Omega.{arith}
use lib.Dec.{T}
use lib.ListN.{length}
use Rattle.std.proofs.lemmas.Bool.{cases_lt}
use Rattle.std.proofs.lemmas.List.{length_push}
use Rattle.settings.specs.declared.Settings.{Settings}
use Rattle.execute.specs.Replies.{nak, opens_quiet}
use Rattle.execute.specs.Execute.{execute}
use Rattle.deck.specs.Line.{look, Deck, deck, Reply, Answer, silently, free_after, is_open, size, looked, acted}
use Rattle.deck.specs.Events.{nak_at}
use Rattle.deck.proofs.Steps.{look-shut, look-early, acted-other}
use Rattle.deck.proofs.Cases.{expiry, expired, looked-late, open_more, size-more, acted-flagged, acted-more, acted-last}
use Rattle.record.specs.declared.Entry.{Entry}
use Rattle.record.specs.Entries.{entry, WellFormed, handed, run, said, is_controller, is_deck, of_kind, controller, from_deck, First}
use Rattle.record.specs.Turns.{Clean}
use Rattle.record.specs.Marks.{look_at}
use Rattle.record.proofs.Handed.{taped, acted-tape, said-is, said-silent}
use Rattle.record.proofs.Lists.{true_of, of_kind-append, first-left, Ordered, ordered-all, ordered-first}
use Rattle.record.specs.Machine.{waiting, begins_at}
use Rattle.record.proofs.Readings.{waits, marks, Pass, Passes, peek_is}
use Rattle.record.proofs.Opening.{Dirty, Rest}
use Rattle.record.proofs.Coming.{Comes, deadline, timely, QuietFrom, quiet-replied, quiet-expiry, dropped-of-quiet}
use Rattle.record.proofs.Ran.{Ran, ran-cons, ran-look, shut-run}

-- ---- a block open and no byte of it to come: the time-out

-- the block o has been open since l, and the reply to come is its time-out's
abbrev SilentRun : List Entry → Type 0
SilentRun es =
    (o : List ℕ) (l f : ℕ) (s : Settings) (lat t₀ t : ℕ) (left : List ℕ)
    → T (is_open o) → Ordered t₀ es → First (λ e. l + 10000 < e.time) (controller es) → Comes es left (expiry l)
    → (said (deck o l f s) (es ++ look_at t ∷ []) ≡ [] → ⊥)
    → Ran (deck o l f s) (waiting [] lat) es t₀ t left (deadline (expiry l) es) (expiry l)

-- it is found at e
silent-late : (e : Entry) (es : List Entry) (o : List ℕ) (l f : ℕ) (s : Settings) (lat t₀ t : ℕ) (left : List ℕ)
    → T (is_open o) → Ordered t₀ (e ∷ es) → Comes (e ∷ es) left (expiry l) → l + 10000 < e.time
    → Ran (deck o l f s) (waiting [] lat) (e ∷ es) t₀ t left (deadline (expiry l) (e ∷ es)) (expiry l)
silent-late e es o l f s lat t₀ t left b or y h =
    ran-look (looked-late (deck o l f s) e.time b h) (look-shut (deck [] l (l + 10001 + 10001) s) e.time refl)
    (shut-run (e ∷ es) l (l + 10001 + 10001) s (expiry l).bytes (l + 10001 + 9000) t₀ t left (expiry l) or
    (timely (l + 10001) (from_deck (e ∷ es)) y.on_time)
    y.bytes
    (dropped-of-quiet (expiry l) (l + 10001 + 10001) t₀ (controller (e ∷ es)) (quiet-expiry l t₀)
    (ordered-all is_controller t₀ (e ∷ es) or) y.others)
    (quiet-expiry l t₀))

silent-step : (k fl c tm : ℕ) (es : List Entry) → SilentRun es → SilentRun (entry k fl c tm ∷ es)
unfolding of_kind said
silent-step k fl c tm es ih o l f s lat t₀ t left b or i y n = go (cases_lt (l + 10000) tm)
  where
    d : Deck
    d = deck o l f s

    early : (k : ℕ) → tm ≤ l + 10000 → First (λ e. l + 10000 < e.time) (controller (entry k fl c tm ∷ es))
        → Comes (entry k fl c tm ∷ es) left (expiry l) → (said d (entry k fl c tm ∷ (es ++ look_at t ∷ [])) ≡ [] → ⊥)
        → Ran d (waiting [] lat) (entry k fl c tm ∷ es) t₀ t left (deadline (expiry l) (entry k fl c tm ∷ es)) (expiry l)
    early zero h i y n = absurd (omega arith)
    early (suc zero) h i y n = absurd (let g : l + 10001 ≤ tm = y.on_time.first.0 in omega arith)
    early (suc (suc k)) h i y n =
        let e : Entry = entry (suc (suc k)) fl c tm in
        let q : looked d tm ≡ silently d = look-early d tm h in
        let w = acted-tape k d e in
        ran-cons q w refl
        (λ z v. record { well_formed = v; ordered = or.0; in_time = λ n. absurd n; deck_byte = λ n. absurd n; quiet = λ n. absurd n })
        (ih o l f (taped k e s) lat tm t left b or.1 i (record { on_time = y.on_time; bytes = y.bytes; others = y.others })
        (λ m. n (said-silent (es ++ look_at t ∷ []) d (deck o l f (taped k e s)) e q w ∙ m)))

    go : (l + 10000 < tm) ⊎ (tm ≤ l + 10000)
        → Ran d (waiting [] lat) (entry k fl c tm ∷ es) t₀ t left (deadline (expiry l) (entry k fl c tm ∷ es)) (expiry l)
    go (inr h) = early k h i y n
    go (inl h) = silent-late (entry k fl c tm) es o l f s lat t₀ t left b or y h

-- or at the end
silent-end : (o : List ℕ) (l f : ℕ) (s : Settings) (lat t₀ t : ℕ) (left : List ℕ) → T (is_open o) → left ≡ (expiry l).bytes
    → (said (deck o l f s) (look_at t ∷ []) ≡ [] → ⊥) → Ran (deck o l f s) (waiting [] lat) [] t₀ t left (l + 10001 + 9000) (expiry l)
unfolding run waits marks Passes said
silent-end o l f s lat t₀ t left b p n = go (cases_lt (l + 10000) t)
  where
    d : Deck
    d = deck o l f s

    go : (l + 10000 < t) ⊎ (t ≤ l + 10000) → Ran d (waiting [] lat) [] t₀ t left (l + 10001 + 9000) (expiry l)
    go (inr h) = absurd (n (said-silent [] d d (look_at t) (look-early d t h) (acted-other d (look t) tt)))
    go (inl h) =
        let q : looked d t ≡ expired l s = looked-late d t b h in
        record {
          shut = rw q;
          awaits = peek_is d (waiting [] lat) t _ q ∙ ap (λ (n : List ℕ). waiting n (l + 10001 + 9000)) (sym p);
          quiet = λ x g. rw q (quiet-expiry l t₀ x g);
          unmarked = λ i. refl;
          passes = λ z v. tt;
        }

silent-run : (es : List Entry) → SilentRun es
unfolding of_kind
silent-run [] = λ o l f s lat t₀ t left b or i y n. silent-end o l f s lat t₀ t left b y.bytes n
silent-run (e ∷ es) = silent-step e.kind e.flags e.content e.time es (silent-run es)

-- the deck says the time-out first
abbrev SilentReply : List Entry → Type 0
SilentReply es =
    (o : List ℕ) (l f : ℕ) (s : Settings) (r : Reply) (rs : List Reply) → T (is_open o) → First (λ e. l + 10000 < e.time) (controller es)
    → said (deck o l f s) es ≡ r ∷ rs → r ≡ expiry l

silent-reply-step : (k fl c tm : ℕ) (es : List Entry) → SilentReply es → SilentReply (entry k fl c tm ∷ es)
unfolding of_kind said
silent-reply-step k fl c tm es ih o l f s r rs b i p = go (cases_lt (l + 10000) tm)
  where
    d : Deck
    d = deck o l f s

    early : (k : ℕ) → tm ≤ l + 10000 → First (λ e. l + 10000 < e.time) (controller (entry k fl c tm ∷ es))
        → said d (entry k fl c tm ∷ es) ≡ r ∷ rs → r ≡ expiry l
    early zero h i p = absurd (omega arith)
    early (suc zero) h i p =
        ih o l f s r rs b i (sym (said-silent es d d (entry 1 fl c tm) (look-early d tm h) (acted-other d (look tm) tt)) ∙ p)
    early (suc (suc k)) h i p =
        let e : Entry = entry (suc (suc k)) fl c tm in
        let D : Deck = deck o l f (taped k e s) in
        ih o l f (taped k e s) r rs b i (sym (said-silent es d D e (look-early d tm h) (acted-tape k d e)) ∙ p)

    go : (l + 10000 < tm) ⊎ (tm ≤ l + 10000) → r ≡ expiry l
    go (inr h) = early k h i p
    go (inl h) =
        let e : Entry = entry k fl c tm in
        let L : Answer = expired l s in
        head-eq_of_cons-eq (sym p ∙ said-is es d e L (acted L.deck (handed e)) (looked-late d tm b h) refl)

silent-reply : (es : List Entry) → SilentReply es
unfolding said
silent-reply [] = λ o l f s r rs b i p. absurd (nil≢cons p)
silent-reply (e ∷ es) = silent-reply-step e.kind e.flags e.content e.time es (silent-reply es)

-- ---- what is left of the turn's head holds only tape entries

kind-skips : (p : ℕ → Bool) (h tail : List Entry) → of_kind p h ≡ [] → of_kind p (h ++ tail) ≡ of_kind p tail
kind-skips p h tail n = of_kind-append p h tail ∙ ap (λ (x : List Entry). x ++ of_kind p tail) n

-- no block open, the reply r said, entries h of neither line, and the turn's tail
shut-rest : (h tail : List Entry) (l f : ℕ) (s : Settings) (t₀ t : ℕ) (left : List ℕ) (r : Reply)
    → from_deck h ≡ [] → controller h ≡ [] → Ordered t₀ (h ++ tail) → QuietFrom r f t₀ → Comes tail left r
    → Ran (deck [] l f s) (waiting r.bytes (r.due + 9000)) (h ++ tail) t₀ t left (deadline r tail) r
shut-rest h tail l f s t₀ t left r n m o q y =
    let i : from_deck (h ++ tail) ≡ from_deck tail = kind-skips is_deck h tail n in
    let j : controller (h ++ tail) ≡ controller tail = kind-skips is_controller h tail m in
    rw i at (shut-run (h ++ tail) l f s r.bytes (r.due + 9000) t₀ t left r o
    (rw i (timely r.due (from_deck tail) y.on_time))
    (rw i y.bytes)
    (rw j (dropped-of-quiet r f t₀ (controller tail) q (rw j at (ordered-all is_controller t₀ (h ++ tail) o)) y.others))
    q)

-- the entry e brings the reply r₀, which is then the turn's
pub answered : (h tail : List Entry) (d : Deck) (e : Entry) (l' f' : ℕ) (s' : Settings) (t : ℕ) (left : List ℕ) (r₀ r : Reply)
    → looked d e.time ≡ silently d → acted d (handed e) ≡ record { deck = deck [] l' f' s'; replies = r₀ ∷ [] }
    → QuietFrom r₀ f' e.time → from_deck h ≡ [] → controller h ≡ [] → Ordered e.time (h ++ tail)
    → said d (e ∷ ((h ++ tail) ++ look_at t ∷ [])) ≡ r ∷ [] → Comes tail left r
    → Ran (deck [] l' f' s') (waiting r₀.bytes (r₀.due + 9000)) (h ++ tail) e.time t left (deadline r tail) r
unfolding said
answered h tail d e l' f' s' t left r₀ r p q u n m o z =
    let E : Answer = record { deck = deck [] l' f' s'; replies = r₀ ∷ [] } in
    subst
    (λ (r : Reply). Comes tail left r
    → Ran (deck [] l' f' s') (waiting r₀.bytes (r₀.due + 9000)) (h ++ tail) e.time t left (deadline r tail) r)
    (head-eq_of_cons-eq (sym (said-is ((h ++ tail) ++ look_at t ∷ []) d e (silently d) E p q) ∙ z))
    (shut-rest h tail l' f' s' e.time t left r₀ n m o u)

-- a block open, entries h of neither line, and the turn's tail
silent-rest : (h tail more : List Entry) (o : List ℕ) (l f : ℕ) (s : Settings) (lat t₀ t : ℕ) (left : List ℕ) (r : Reply)
    → T (is_open o) → Ordered t₀ (h ++ tail) → from_deck h ≡ [] → controller h ≡ []
    → First (λ e. l + 10000 < e.time) (controller tail ++ more) → said (deck o l f s) ((h ++ tail) ++ look_at t ∷ []) ≡ r ∷ []
    → Comes tail left r → Ran (deck o l f s) (waiting [] lat) (h ++ tail) t₀ t left (deadline r tail) r
unfolding of_kind
silent-rest h tail more o l f s lat t₀ t left r b or n m i z =
    subst (λ (r : Reply). Comes tail left r → Ran (deck o l f s) (waiting [] lat) (h ++ tail) t₀ t left (deadline r tail) r) (sym q)
    (λ y. rw u at (silent-run (h ++ tail) o l f s lat t₀ t left b or (rw v i')
    (record { on_time = rw u y.on_time; bytes = rw u y.bytes; others = rw v y.others }) (λ w. nil≢cons (sym w ∙ z))))
  where
    u : from_deck (h ++ tail) ≡ from_deck tail
    u = kind-skips is_deck h tail n

    v : controller (h ++ tail) ≡ controller tail
    v = kind-skips is_controller h tail m

    i' : First (λ e. l + 10000 < e.time) (controller tail)
    i' = first-left (λ e. l + 10000 < e.time) (controller tail) more i

    q : r ≡ expiry l
    q =
        silent-reply ((h ++ tail) ++ look_at t ∷ []) o l f s r [] b
        (rw (of_kind-append is_controller (h ++ tail) (look_at t ∷ []), append-nil, v) i') z

-- ---- a block open, and some of the turn's head to come

abbrev OpenRun : List Entry → Type 0
OpenRun h =
    (tail more : List Entry) (o : List ℕ) (l f : ℕ) (s : Settings) (lat t₀ t : ℕ) (left : List ℕ) (r : Reply)
    → T (is_open o) → f ≤ l → l ≤ t₀ → Ordered t₀ (h ++ tail) → from_deck h ≡ []
    → Rest (size o) (length o) l (controller h) (controller tail ++ more)
    → said (deck o l f s) ((h ++ tail) ++ look_at t ∷ []) ≡ r ∷ [] → Comes tail left r
    → Ran (deck o l f s) (waiting [] lat) (h ++ tail) t₀ t left (deadline r tail) r

-- controller entries are still to come, so an entry at t before them is not late; or none is
early-or-done : (cs later : List Entry) (s k l t : ℕ) → Rest s k l cs later → First (λ e. t ≤ e.time) cs → (t ≤ l + 10000) ⊎ (cs ≡ [])
early-or-done [] later s k l t r f = inr refl
early-or-done (e ∷ cs) later s k l t r f = inl (omega (arith, r.0))

open_step : (k fl c tm : ℕ) (h : List Entry) → OpenRun h → OpenRun (entry k fl c tm ∷ h)
unfolding of_kind
open_step zero fl c tm h ih tail more o l f s lat t₀ t left r b f≤ l≤ or n i z y = go i.1
  where
    e : Entry
    e = entry 0 fl c tm

    d : Deck
    d = deck o l f s

    q : looked d tm ≡ silently d
    q = look-early d tm i.0

    g : f ≤ tm
    g = omega (arith, or.0)

    bg : begins_at (silently d) e ≡ false
    bg = rw (true_of (is_open o) b)

    pass : left ≡ [] → WellFormed e → Pass t₀ (silently d) (waiting [] lat) e
    pass x v = record { well_formed = v; ordered = or.0; in_time = λ n. absurd n; deck_byte = λ n. absurd n; quiet = λ _ n. absurd n }

    -- e ends the block, with the reply r₀
    ends : (l' f' : ℕ) (s' : Settings) (r₀ : Reply) → acted d (handed e) ≡ record { deck = deck [] l' f' s'; replies = r₀ ∷ [] }
        → QuietFrom r₀ f' tm → controller h ≡ [] → Ran d (waiting [] lat) (e ∷ (h ++ tail)) t₀ t left (deadline r tail) r
    ends l' f' s' r₀ w u m = ran-cons q w bg pass (answered h tail d e l' f' s' t left r₀ r q w u n m or.1 z y)

    go : (Dirty e × (controller h ≡ [])) ⊎ (Clean e × (((suc (length o) ≡ size o) × (controller h ≡ []))
        ⊎ ((suc (length o) < size o) × Rest (size o) (suc (length o)) tm (controller h) (controller tail ++ more))))
        → Ran d (waiting [] lat) (e ∷ (h ++ tail)) t₀ t left (deadline r tail) r
    go (inl (u, m)) =
        ends l (free_after (opens_quiet fl) tm f) s (nak_at fl tm) (acted-flagged d tm c fl g u)
        (quiet-replied (opens_quiet fl) (nak fl) tm f g) m
    go (inr (u, inl (v, m))) =
        let x = execute s (o ++ c ∷ []) in
        ends tm (free_after x.quiets tm f) x.settings (record { bytes = x.bytes; due = tm; quiets = x.quiets })
        (acted-last d tm c fl b g u (omega arith)) (quiet-replied x.quiets x.bytes tm f g) m
    go (inr (u, inr (v, m))) =
        let D : Deck = deck (o ++ c ∷ []) tm f s in
        let w : acted d (handed e) ≡ silently D = acted-more d tm c fl b g u v in
        ran-cons q w bg pass
        (ih tail more (o ++ c ∷ []) tm f s lat tm t left r (open_more o c) g (omega arith) or.1 n
        (rw (length_push o c, add-one (length o), size-more o c b) m) (sym (said-silent ((h ++ tail) ++ look_at t ∷ []) d D e q w) ∙ z) y)
open_step (suc zero) fl c tm h ih tail more o l f s lat t₀ t left r b f≤ l≤ or n i z y = absurd (cons≢nil n)
open_step (suc (suc k)) fl c tm h ih tail more o l f s lat t₀ t left r b f≤ l≤ or n i z y =
    go (early-or-done (controller h) (controller tail ++ more) (size o) (length o) l tm i
    (first-left (λ x. tm ≤ x.time) (controller h) (controller tail)
    (rw (of_kind-append is_controller h tail) at (ordered-first is_controller tm (h ++ tail) or.1))))
  where
    e : Entry
    e = entry (suc (suc k)) fl c tm

    d : Deck
    d = deck o l f s

    go : (tm ≤ l + 10000) ⊎ (controller h ≡ []) → Ran d (waiting [] lat) (e ∷ (h ++ tail)) t₀ t left (deadline r tail) r
    go (inl g) =
        let q : looked d tm ≡ silently d = look-early d tm g in
        let w = acted-tape k d e in
        ran-cons q w refl
        (λ x v. record { well_formed = v; ordered = or.0; in_time = λ n. absurd n; deck_byte = λ n. absurd n; quiet = λ n. absurd n })
        (ih tail more o l f (taped k e s) lat tm t left r b f≤ (omega (arith, or.0)) or.1 n i
        (sym (said-silent ((h ++ tail) ++ look_at t ∷ []) d (deck o l f (taped k e s)) e q w) ∙ z) y)
    go (inr m) =
        silent-rest (e ∷ h) tail more o l f s lat t₀ t left r b or n m
        (subst (λ (cs : List Entry). Rest (size o) (length o) l cs (controller tail ++ more)) m i) z y

pub open-run : (h : List Entry) → OpenRun h
unfolding of_kind
open-run [] = λ tail more o l f s lat t₀ t left r b f≤ l≤ or n i z y.
    silent-rest [] tail more o l f s lat t₀ t left r b or refl refl i z y
open-run (e ∷ h) = open_step e.kind e.flags e.content e.time h (open-run h)
