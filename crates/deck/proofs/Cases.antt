-- The deck's steps as the turn theorem goes through them: a time-out with its NAK, and a byte by its place in the block.
use mathlib.Core.Bool.{true}
use mathlib.Core.List.{List, [], ◌∷◌, ◌++◌}
use mathlib.Core.Logic.{⊎_elim}
use mathlib.Core.Path.{◌≡◌, refl, ◌∙◌}
use Prim.Native.Nat.{ℕ, suc, ◌+◌, ◌≤◌, ◌<◌}
use native.Mathlib.Omega.{arith}
use lib.Dec.{T}
use lib.ListN.{length}
use Rattle.std.proofs.lemmas.List.{length_push}
use Rattle.settings.specs.declared.Settings.{Settings}
use Rattle.execute.specs.Replies.{nak, time_out}
use Rattle.execute.specs.Execute.{execute}
use Rattle.deck.specs.Line.{Event, byte, time_of, Deck, deck, Reply, Answer, silently, voided, is_open, looked, size}
use Rattle.deck.specs.Line.{replied, taken, acted, answers}
use Rattle.deck.proofs.Steps.{time-out-quiets, look-shut, look-late, look-cases, byte-dropped, byte-flagged, byte-clean}
use Rattle.deck.proofs.Steps.{taken-full, taken_more, acted-byte, answers-soon}

-- ---- the time-out

-- the NAK of a block whose last byte came at l
abbrev pub expiry : ℕ → Reply
expiry l = record { bytes = nak time_out; due = l + 10001; quiets = true }

-- the time-out of that block
abbrev pub expired : ℕ → Settings → Answer
expired l s = record { deck = deck [] l (l + 10001 + 10001) s; replies = expiry l ∷ [] }

is-open : (o : List ℕ) → T (is_open o) → is_open o ≡ true
is-open [] h = absurd h
is-open (b ∷ o) h = refl

pub looked-late : (d : Deck) (t : ℕ) → T (is_open d.block) → d.last + 10000 < t → looked d t ≡ expired d.last d.settings
looked-late d t b h = look-late d t (is-open d.block b) h ∙ rw time-out-quiets

-- a second look at the same time finds nothing
pub looked-again : (d : Deck) (t : ℕ) → looked (looked d t).deck t ≡ silently (looked d t).deck
looked-again d t = ⊎_elim (λ p. found p p) (λ p. found (look-late d t p.0 p.1) (look-shut _ t refl)) (look-cases d t)
  where
    found : {a : Answer} → looked d t ≡ a → looked a.deck t ≡ silently a.deck
        → looked (looked d t).deck t ≡ silently (looked d t).deck
    found p q = rw p q

-- so a look first, and then the event itself, are the two halves one after the other
pub answers-looked : (d : Deck) (e : Event) → answers (looked d (time_of e)).deck e ≡ acted (looked d (time_of e)).deck e
answers-looked d e = answers-soon (looked d (time_of e)).deck e (looked-again d (time_of e)) refl

-- ---- an open block and a byte more

pub open_more : (o : List ℕ) (b : ℕ) → T (is_open (o ++ b ∷ []))
open_more [] b = tt
open_more (x ∷ o) b = tt

pub size-more : (o : List ℕ) (b : ℕ) → T (is_open o) → size (o ++ b ∷ []) ≡ size o
size-more [] b h = absurd h
size-more (x ∷ o) b h = refl

-- ---- a byte

module _ (d : Deck) (t b f : ℕ) where
  -- in quiet
  pub acted-dropped : t < d.free → acted d (byte t b f) ≡ silently d
  acted-dropped h = acted-byte d t b f ∙ byte-dropped d t b f h

  pub acted-flagged : d.free ≤ t → (f ≡ 0 → ⊥) → acted d (byte t b f) ≡ voided d f t
  acted-flagged h n = acted-byte d t b f ∙ byte-flagged d t b f h n

  acted-clean : d.free ≤ t → f ≡ 0 → acted d (byte t b f) ≡ taken d (d.block ++ b ∷ []) t
  acted-clean h c = acted-byte d t b f ∙ byte-clean d t b f h c

  -- one of an open block, with others to come
  pub acted-more : T (is_open d.block) → d.free ≤ t → f ≡ 0 → suc (length d.block) < size d.block
      → acted d (byte t b f) ≡ silently (deck (d.block ++ b ∷ []) t d.free d.settings)
  acted-more o h c q =
      acted-clean h c ∙ taken_more d (d.block ++ b ∷ []) t (rw (length_push d.block b, size-more d.block b o) (omega (arith, q)))

  -- the last of an open block
  pub acted-last : T (is_open d.block) → d.free ≤ t → f ≡ 0 → size d.block ≤ suc (length d.block)
      → acted d (byte t b f) ≡ replied d t (execute d.settings (d.block ++ b ∷ []))
  acted-last o h c q =
      acted-clean h c ∙ taken-full d (d.block ++ b ∷ []) t (rw (length_push d.block b, size-more d.block b o) (omega (arith, q)))

-- the first of a block
pub acted-first : (l f₀ : ℕ) (s : Settings) (t b f : ℕ) → f₀ ≤ t → f ≡ 0
    → acted (deck [] l f₀ s) (byte t b f) ≡ silently (deck (b ∷ []) t f₀ s)
acted-first l f₀ s t b f h c =
    let d : Deck = deck [] l f₀ s in acted-clean d t b f h c ∙ taken_more d (b ∷ []) t (omega arith)
