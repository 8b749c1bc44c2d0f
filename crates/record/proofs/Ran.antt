-- What the automaton does over entries in which no turn begins, and first with no block open: the rest of a reply and its quiet.
use Prim.Native.Nat.{ℕ, zero, suc, ◌+◌, ◌≤◌, ◌<◌}
use mathlib.Core.Path.{◌≡◌, refl, sym, ap, ◌∙◌, subst, subst₂}
use mathlib.Core.Bool.{false}
use mathlib.Core.List.{List, [], ◌∷◌, ◌++◌}
use native.Mathlib.Omega.{arith}
use lib.Dec.{T}
use lib.ListN.{drop}
use borrow.Author.Tests.{lt-leb}
use Rattle.settings.specs.declared.Settings.{Settings}
use Rattle.deck.specs.Line.{look, Deck, deck, Reply, Answer, silently, looked, acted}
use Rattle.deck.proofs.Steps.{look-shut, acted-other}
use Rattle.deck.proofs.Cases.{acted-dropped}
use Rattle.record.specs.declared.Entry.{Entry}
use Rattle.record.specs.Entries.{entry, WellFormed, handed, after_entry, run, is_deck, of_kind, controller, from_deck}
use Rattle.record.specs.Entries.{contents, last_time, All, First}
use Rattle.record.specs.Marks.{latest}
use Rattle.record.proofs.Handed.{taped, acted-tape, after_look}
use Rattle.record.proofs.Lists.{Ordered, ordered-first}
use Rattle.record.specs.Machine.{Waiting, waiting, some, await, peek, awaited_after, advance, begins_at, begins}
use Rattle.record.proofs.Readings.{waits, marks, Pass, Passes, begins-is, peek_is, of-halves, advance-look, pass-look}
use Rattle.record.proofs.Coming.{Timely, QuietFrom}

-- from d and w, over es and then a look at t: no block is open, `left` is awaited by `lat`, the quiet is that of r, no turn begins,
-- and the tests pass if nothing is left; t₀ is the time before es
pub record Ran (d : Deck) (w : Waiting) (es : List Entry) (t₀ t : ℕ) (left : List ℕ) (lat : ℕ) (r : Reply) : Type 0 where
  pub shut : (looked (run d es) t).deck.block ≡ []
  pub awaits : peek (run d es) (waits d w es) t ≡ waiting left lat
  pub quiet : QuietFrom r (looked (run d es) t).deck.free (last_time t₀ es)
  pub unmarked : (i : ℕ) → marks i d es ≡ []
  pub passes : left ≡ [] → All WellFormed es → Passes t₀ d w es

-- an entry more, by its halves
pub ran-cons : {d : Deck} {w : Waiting} {e : Entry} {es : List Entry} {t₀ t : ℕ} {left : List ℕ} {lat : ℕ} {r : Reply} {L E : Answer}
    → looked d e.time ≡ L → acted L.deck (handed e) ≡ E → begins_at L e ≡ false → (left ≡ [] → WellFormed e → Pass t₀ L w e)
    → Ran E.deck (awaited_after w e L E) es e.time t left lat r → Ran d w (e ∷ es) t₀ t left lat r
unfolding run waits marks Passes
ran-cons {d} {w} {e} {es} {t₀} {t} {left} {lat} {r} {L} {E} p q b c h =
    let h' = of-halves (λ D W. Ran D W es e.time t left lat r) d w e L E p q h in
    record {
      shut = h'.shut;
      awaits = h'.awaits;
      quiet = h'.quiet;
      unmarked = λ i. rw (begins-is d e L p, b) (h'.unmarked (suc i));
      passes = λ z f. (subst (λ (A : Answer). Pass t₀ A w e) (sym p) (c z f.0), h'.passes z f.1);
    }

-- the deck as the look finds it goes on as the deck itself
pub ran-look : {d D : Deck} {w : Waiting} {e : Entry} {es : List Entry} {t₀ t : ℕ} {left : List ℕ} {lat : ℕ} {r : Reply} {R : List Reply}
    → looked d e.time ≡ record { deck = D; replies = R } → looked D e.time ≡ silently D
    → Ran D (await R w) (e ∷ es) t₀ t left lat r → Ran d w (e ∷ es) t₀ t left lat r
unfolding run waits marks Passes
ran-look {d} {D} {w} {e} {es} {t₀} {t} {left} {lat} {r} {R} p q h =
    let a : after_entry D e ≡ after_entry d e = sym (after_look d D e R p q) in
    let b : advance D (await R w) e ≡ advance d w e = sym (advance-look d D w e R p q) in
    let c : begins d e ≡ begins D e = begins-is d e (record { deck = D; replies = R }) p ∙ sym (begins-is D e (silently D) q) in
    record {
      shut = rw a at h.shut;
      awaits = subst₂ (λ (D : Deck) (W : Waiting). peek (run D es) (waits D W es) t ≡ waiting left lat) a b h.awaits;
      quiet = subst (λ (D : Deck). QuietFrom r (looked (run D es) t).deck.free (last_time e.time es)) a h.quiet;
      unmarked = λ i. rw (c, ← a) (h.unmarked i);
      passes = λ z v. (
        passes-look (h.passes z v).0,
        subst₂ (λ (D : Deck) (W : Waiting). Passes e.time D W es) a b (h.passes z v).1,
      );
    }
  where
    passes-look : Pass t₀ (looked D e.time) (await R w) e → Pass t₀ (looked d e.time) w e
    passes-look v =
        subst (λ (A : Answer). Pass t₀ A w e) (sym p) ((pass-look t₀ D w e R).1 (subst (λ (A : Answer). Pass t₀ A (await R w) e) q v))

-- ---- no block open

-- where nothing will be left of what is awaited, a byte is still to come, and no entry before it is late
in-time : (t lat : ℕ) (ds : List Entry) (now left : List ℕ) → contents ds ++ left ≡ now → left ≡ [] → First (λ e. t ≤ e.time) ds
    → First (λ e. e.time ≤ lat) ds → T (some now) → t ≤ lat
in-time t lat [] now left p z a b n = absurd (subst (λ (l : List ℕ). T (some l)) (sym p ∙ z) n)
in-time t lat (e ∷ ds) now left p z a b n = omega arith

-- `now` is awaited by `lat`, and bytes below f are dropped
abbrev ShutRun : List Entry → Type 0
ShutRun es =
    (l f : ℕ) (s : Settings) (now : List ℕ) (lat t₀ t : ℕ) (left : List ℕ) (r : Reply)
    → Ordered t₀ es → Timely lat (from_deck es) → contents (from_deck es) ++ left ≡ now → All (λ e. e.time < f) (controller es)
    → QuietFrom r f t₀ → Ran (deck [] l f s) (waiting now lat) es t₀ t left (latest lat (from_deck es)) r

shut-step : (k fl c tm : ℕ) (es : List Entry) → ShutRun es → ShutRun (entry k fl c tm ∷ es)
unfolding of_kind
shut-step zero fl c tm es ih l f s now lat t₀ t left r o y p a q =
    ran-cons (look-shut (deck [] l f s) tm refl) (acted-dropped (deck [] l f s) tm c fl a.0) (lt-leb f tm a.0)
    (λ z v. record {
      well_formed = v;
      ordered = o.0;
      in_time = in-time tm lat (from_deck es) now left p z (ordered-first is_deck tm es o.1) y.0;
      deck_byte = λ n. absurd n;
      quiet = λ _ _. a.0;
    })
    (ih l f s now lat tm t left r o.1 y p a.1 (λ x h. q x (omega arith)))
shut-step (suc zero) fl c tm es ih l f s now lat t₀ t left r o y p a q =
    ran-cons (look-shut (deck [] l f s) tm refl) (acted-other (deck [] l f s) (look tm) tt) refl
    (λ z v. record {
      well_formed = v;
      ordered = o.0;
      in_time = λ _. y.0;
      deck_byte = λ _. (contents (from_deck es) ++ left, sym p);
      quiet = λ n. absurd n;
    })
    (ih l f s (drop 1 now) (tm + 10000) tm t left r o.1 y.1 (ap (drop 1) p) a (λ x h. q x (omega arith)))
shut-step (suc (suc k)) fl c tm es ih l f s now lat t₀ t left r o y p a q =
    let e : Entry = entry (suc (suc k)) fl c tm in
    ran-cons (look-shut (deck [] l f s) tm refl) (acted-tape k (deck [] l f s) e) refl
    (λ z v. record {
      well_formed = v;
      ordered = o.0;
      in_time = in-time tm lat (from_deck es) now left p z (ordered-first is_deck tm es o.1) y.0;
      deck_byte = λ n. absurd n;
      quiet = λ n. absurd n;
    })
    (ih l f (taped k e s) now lat tm t left r o.1 y p a (λ x h. q x (omega arith)))

pub shut-run : (es : List Entry) → ShutRun es
unfolding run waits marks Passes of_kind
shut-run [] = λ l f s now lat t₀ t left r o y p a q.
    let u = look-shut (deck [] l f s) t refl in
    record {
      shut = rw u;
      awaits = peek_is (deck [] l f s) (waiting now lat) t _ u ∙ ap (λ (n : List ℕ). waiting n lat) (sym p);
      quiet = λ x h. rw u (q x h);
      unmarked = λ i. refl;
      passes = λ z v. tt;
    }
shut-run (e ∷ es) = shut-step e.kind e.flags e.content e.time es (shut-run es)
