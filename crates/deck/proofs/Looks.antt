-- Looks alter nothing, where times never fall.
use mathlib.Core.List.{List, [], ◌∷◌, ◌++◌, append_assoc}
use mathlib.Core.Path.{◌≡◌, refl, sym, ap, ◌∙◌}
use Prim.Native.Nat.{ℕ, ◌≤◌}
use native.Mathlib.Omega.{arith}
use Rattle.deck.specs.Line.{Event, byte, look, position, cassette, time_of, Deck, Answer, looked, after, says, run, said}
use Rattle.deck.specs.Events.{Gives, Ordered, without_looks}
use Rattle.deck.proofs.Steps.{look-alone, look-first, gives_cons, gives-alike}

-- a look before an event
pub look-idle : (d : Deck) (u : ℕ) (e : Event) (es : List Event) → u ≤ time_of e
    → Gives d (look u ∷ e ∷ es) (said d (e ∷ es)) (run d (e ∷ es))
look-idle d u e es h =
    let a = looked d u in
    let p = look-first d u e h in
    let g = gives_cons d (look u) (e ∷ es) (look-alone d u) (gives_cons a.deck e es refl (refl, refl)) in
    let k = gives_cons d e es refl (refl, refl) in (
      g.0
          ∙ sym (append_assoc a.replies (says a.deck e) (said (after a.deck e) es))
          ∙ ap (λ (x : Answer). x.replies ++ said x.deck es) p
          ∙ sym k.0,
      g.1 ∙ ap (λ (x : Answer). run x.deck es) p ∙ sym k.1,
    )

ordered-from : (t v : ℕ) (es : List Event) → t ≤ v → Ordered v es → Ordered t es
ordered-from t v [] h o = tt
ordered-from t v (e ∷ es) h o = (omega arith, o.1)

-- events with a look at u at the end
module _ (u : ℕ) where
  abbrev closed : List Event → List Event
  closed es = es ++ look u ∷ []

  ordered-without : (t : ℕ) (es : List Event) → Ordered t (closed es) → Ordered t (closed (without_looks es))
  ordered-without t [] o = o
  ordered-without t (byte v b flags ∷ es) o = (o.0, ordered-without v es o.1)
  ordered-without t (look v ∷ es) o = ordered-from t v (closed (without_looks es)) o.0 (ordered-without v es o.1)
  ordered-without t (position v p ∷ es) o = (o.0, ordered-without v es o.1)
  ordered-without t (cassette v ∷ es) o = (o.0, ordered-without v es o.1)

  closed-idle : (d : Deck) (v : ℕ) (es : List Event) → Ordered v (closed es)
      → Gives d (look v ∷ closed es) (said d (closed es)) (run d (closed es))
  closed-idle d v [] o = look-idle d v (look u) [] o.0
  closed-idle d v (e ∷ es) o = look-idle d v e (closed es) o.0

  -- without the looks among es the deck gives the same
  abbrev Idle : Deck → List Event → List Event → Type 0
  Idle d es fs = Gives d (closed es) (said d (closed fs)) (run d (closed fs))

  next-idle : (d : Deck) (e : Event) (es : List Event) → Idle (after d e) es (without_looks es) → Idle d (e ∷ es) (e ∷ without_looks es)
  next-idle d e es g = gives-alike d e e (closed es) (closed (without_looks es)) refl g

  -- the looks before it may be left out
  pub looks-idle : (d : Deck) (t : ℕ) (es : List Event) → Ordered t (es ++ look u ∷ [])
      → (said d (es ++ look u ∷ []) ≡ said d (without_looks es ++ look u ∷ []))
      × (run d (es ++ look u ∷ []) ≡ run d (without_looks es ++ look u ∷ []))
  looks-idle d t [] o = (refl, refl)
  looks-idle d t (byte v b flags ∷ es) o = next-idle d (byte v b flags) es (looks-idle (after d (byte v b flags)) v es o.1)
  looks-idle d t (look v ∷ es) o =
      let g = next-idle d (look v) es (looks-idle (after d (look v)) v es o.1) in
      let h = closed-idle d v (without_looks es) (ordered-without v es o.1) in
      (g.0 ∙ h.0, g.1 ∙ h.1)
  looks-idle d t (position v p ∷ es) o = next-idle d (position v p) es (looks-idle (after d (position v p)) v es o.1)
  looks-idle d t (cassette v ∷ es) o = next-idle d (cassette v) es (looks-idle (after d (cassette v)) v es o.1)

  -- "replies, due times and deck are equal however many looks stand between"
  pub looks-alike : (d : Deck) (s t : ℕ) (es fs : List Event) → without_looks es ≡ without_looks fs
      → Ordered s (es ++ look u ∷ []) → Ordered t (fs ++ look u ∷ [])
      → (said d (es ++ look u ∷ []) ≡ said d (fs ++ look u ∷ [])) × (run d (es ++ look u ∷ []) ≡ run d (fs ++ look u ∷ []))
  looks-alike d s t es fs p o q =
      let g = looks-idle d s es o in
      let h = looks-idle d t fs q in
      (g.0 ∙ rw p (sym h.0), g.1 ∙ rw p (sym h.1))
