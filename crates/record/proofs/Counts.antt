-- A sound record has as many turns as the deck says replies to its entries, and demand 3 says so of it.
use Prim.Native.Nat.{ℕ, zero, suc, ◌+◌, ◌≤◌}
use mathlib.Core.Path.{◌≡◌, sym, ap, ◌∙◌, refl}
use mathlib.Core.List.{List, [], ◌∷◌, append-nil}
use native.Mathlib.Omega.{arith}
use lib.ListN.{length, take-append-drop, length-drop}
use Rattle.deck.specs.Line.{Deck, at_power_on, looked}
use Rattle.deck.proofs.Steps.{look-shut}
use Rattle.record.specs.declared.Entry.{Entry}
use Rattle.record.specs.Entries.{entry, run, said, All}
use Rattle.record.specs.Turns.{concat, Turns, starts_from, starts, Sound}
use Rattle.record.specs.Marks.{Demand3}
use Rattle.record.specs.Machine.{judge}
use Rattle.record.proofs.Handed.{acted-tape, said-is, said-append}
use Rattle.record.proofs.Theorem.{judged, sound-judged}
use Rattle.record.proofs.Unique.{one_answer}

-- ---- from the turn rules alone

-- with no block open a look finds nothing, and opens none
shut-look : (d : Deck) (t : ℕ) → d.block ≡ [] → ((looked d t).replies ≡ []) × ((looked d t).deck.block ≡ [])
shut-look d t p = rw (look-shut d t p) (refl, p)

-- so the deck says nothing to positions and cassettes
abbrev TapeSilent : List Entry → Type 0
TapeSilent es = (d : Deck) → d.block ≡ [] → All (λ e. 2 ≤ e.kind) es → said d es ≡ []

tape-step : (k fl c tm : ℕ) (es : List Entry) → TapeSilent es → TapeSilent (entry k fl c tm ∷ es)
tape-step zero fl c tm es ih d p h = absurd (omega (arith, h.0))
tape-step (suc zero) fl c tm es ih d p h = absurd (omega (arith, h.0))
tape-step (suc (suc k)) fl c tm es ih d p h =
    let e : Entry = entry (suc (suc k)) fl c tm in
    let (none, shut) = shut-look d tm p in
    said-is es d e (looked d tm) _ refl (acted-tape k (looked d tm).deck e) ∙ rw none (ih _ shut h.1)

tape-silent : (es : List Entry) → TapeSilent es
unfolding said
tape-silent [] = λ d p h. refl
tape-silent (e ∷ es) = tape-step e.kind e.flags e.content e.time es (tape-silent es)

-- each turn has one reply
turns-said : (ss : List (List Entry)) (d : Deck) (rest : List Entry) → Turns d ss rest → length (said d (concat ss)) ≡ length ss
unfolding said
turns-said [] d rest t = refl
turns-said (s ∷ ss) d rest t = rw (said-append d s (concat ss), t.0.one) (ap suc (turns-said ss (run d s) rest t.1))

-- and one start
length-starts : (i : ℕ) (ss : List (List Entry)) → length (starts_from i ss) ≡ length ss
unfolding starts_from
length-starts i [] = refl
length-starts i (s ∷ ss) = ap suc (length-starts (i + length s) ss)

pub sound-count : (es : List Entry) (s : Sound es) → length (starts s.cutting) ≡ length (said at_power_on es)
sound-count es s =
    let c = s.cutting in
    let ss = c.spans in
    let silent = tape-silent c.lead at_power_on refl c.tape in
    length-starts (length c.lead) ss
    ∙ sym (rw (c.split, append-nil, said-append at_power_on c.lead (concat ss), silent)
    (turns-said ss (run at_power_on c.lead) [] c.turns))

-- ---- demand 3 on a sound record: fault 0, at its end, and a turn start for each reply

pub sound-answer : (es : List Entry) (fault place : ℕ) (turn_starts : List ℕ) → Sound es → Demand3 es fault place turn_starts
    → (fault ≡ 0) × (place ≡ length es) × (length turn_starts ≡ length (said at_power_on es))
sound-answer es fault place turn_starts s x = (none, end, ap length one.2 ∙ count)
  where
    none : fault ≡ 0
    none = x.marked.sound.1 (rw (take-append-drop place es) s)

    end : place ≡ length es
    end = omega (arith, x.within, sym (length-drop place es) ∙ ap length (x.marked.whole none))

    one : (fault ≡ (judge es).fault) × (place ≡ (judge es).place) × (turn_starts ≡ (judge es).starts)
    one = one_answer x (judged es)

    count : length (judge es).starts ≡ length (said at_power_on es)
    count = let (c, p) = sound-judged es (sym one.0 ∙ none) in ap length (sym p) ∙ sound-count es c
