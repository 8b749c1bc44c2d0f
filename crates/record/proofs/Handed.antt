-- What the deck does with an entry that it is handed: the time-out, then the event; and with entries one after the other.
use Prim.Native.Nat.{ℕ, zero, suc}
use mathlib.Core.Path.{◌≡◌, refl, sym, ap, ◌∙◌}
use mathlib.Core.List.{List, [], ◌∷◌, ◌++◌, append_assoc}
use Rattle.settings.specs.declared.Settings.{Settings}
use Rattle.settings.specs.Settings.{loaded, with_position}
use Rattle.deck.specs.Line.{position, cassette, time_of, Deck, Reply, Answer, silently, looked, with_settings, acted, both_of, answers}
use Rattle.deck.proofs.Steps.{acted-other, answers-is}
use Rattle.record.specs.declared.Entry.{Entry}
use Rattle.record.specs.Entries.{tape_event, handed_as, handed, after_entry, says_to, run, said}

-- what a position or a cassette does to the settings
abbrev pub taped : ℕ → Entry → Settings → Settings
taped zero e s = with_position e.content s
taped (suc k) e s = loaded s

pub acted-tape : (k : ℕ) (d : Deck) (e : Entry) → acted d (tape_event k e) ≡ silently (with_settings d (taped k e d.settings))
acted-tape zero d e = acted-other d (position e.time e.content) tt
acted-tape (suc k) d e = acted-other d (cassette e.time) tt

-- the deck is handed an entry at its time
pub handed-time : (k : ℕ) (e : Entry) → time_of (handed_as k e) ≡ e.time
handed-time zero e = refl
handed-time (suc zero) e = refl
handed-time (suc (suc zero)) e = refl
handed-time (suc (suc (suc k))) e = refl

-- ---- an entry by its two halves

answered-is : (d : Deck) (e : Entry) (L E : Answer) → looked d e.time ≡ L → acted L.deck (handed e) ≡ E
    → answers d (handed e) ≡ both_of L E
answered-is d e L E p q = answers-is d (handed e) (ap (looked d) (handed-time e.kind e) ∙ p) q

pub after_is : (d : Deck) (e : Entry) (L E : Answer) → looked d e.time ≡ L → acted L.deck (handed e) ≡ E → after_entry d e ≡ E.deck
unfolding after_entry
after_is d e L E p q = ap (λ (A : Answer). A.deck) (answered-is d e L E p q)

pub says_is : (d : Deck) (e : Entry) (L E : Answer) → looked d e.time ≡ L → acted L.deck (handed e) ≡ E
    → says_to d e ≡ L.replies ++ E.replies
unfolding says_to
says_is d e L E p q = ap (λ (A : Answer). A.replies) (answered-is d e L E p q)

pub run_is : (es : List Entry) (d : Deck) (e : Entry) (L E : Answer) → looked d e.time ≡ L → acted L.deck (handed e) ≡ E
    → run d (e ∷ es) ≡ run E.deck es
unfolding run
run_is es d e L E p q = rw (after_is d e L E p q)

pub said-is : (es : List Entry) (d : Deck) (e : Entry) (L E : Answer) → looked d e.time ≡ L → acted L.deck (handed e) ≡ E
    → said d (e ∷ es) ≡ L.replies ++ E.replies ++ said E.deck es
unfolding said
said-is es d e L E p q = rw (says_is d e L E p q, after_is d e L E p q)

-- where the deck says nothing to it
pub said-silent : (es : List Entry) (d D : Deck) (e : Entry) → looked d e.time ≡ silently d → acted d (handed e) ≡ silently D
    → said d (e ∷ es) ≡ said D es
said-silent es d D e p q = said-is es d e (silently d) (silently D) p q

pub run-silent : (es : List Entry) (d D : Deck) (e : Entry) → looked d e.time ≡ silently d → acted d (handed e) ≡ silently D
    → run d (e ∷ es) ≡ run D es
run-silent es d D e p q = run_is es d e (silently d) (silently D) p q

-- ---- the deck as a look finds it goes on as the deck itself, after what the look says

pub after_look : (d D : Deck) (e : Entry) (R : List Reply) → looked d e.time ≡ record { deck = D; replies = R }
    → looked D e.time ≡ silently D → after_entry d e ≡ after_entry D e
after_look d D e R p q =
    after_is d e (record { deck = D; replies = R }) (acted D (handed e)) p refl
    ∙ sym (after_is D e (silently D) (acted D (handed e)) q refl)

pub said-look : (es : List Entry) (d D : Deck) (e : Entry) (R : List Reply) → looked d e.time ≡ record { deck = D; replies = R }
    → looked D e.time ≡ silently D → said d (e ∷ es) ≡ R ++ said D (e ∷ es)
said-look es d D e R p q =
    said-is es d e (record { deck = D; replies = R }) (acted D (handed e)) p refl
    ∙ (append_assoc R (acted D (handed e)).replies (said (acted D (handed e)).deck es)
    ∙ ap (λ (x : List Reply). R ++ x) (sym (said-is es D e (silently D) (acted D (handed e)) q refl)))

-- ---- entries one after the other

pub run-append : (d : Deck) (a b : List Entry) → run d (a ++ b) ≡ run (run d a) b
unfolding run
run-append d [] b = refl
run-append d (e ∷ a) b = run-append (after_entry d e) a b

pub said-append : (d : Deck) (a b : List Entry) → said d (a ++ b) ≡ said d a ++ said (run d a) b
unfolding run said
said-append d [] b = refl
said-append d (e ∷ a) b = rw (said-append (after_entry d e) a b, append_assoc)
