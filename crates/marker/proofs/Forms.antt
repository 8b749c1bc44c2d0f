-- The kinds of entries, as the code tests them.
use Prim.Native.Nat.{ℕ, zero, suc, ◌<◌, ◌^◌}
use mathlib.Core.Path.{◌≡◌, refl, sym, ◌∙◌}
use mathlib.Core.Bool.{true, false, false≢true}
use borrow.Author.Tests.{ltb-true}
use lib.Dec.{eqb, ltb}
use Rattle.std.proofs.lemmas.Bool.{and_parts}
use Rattle.timecode.specs.Time.{day}
use Rattle.deck.specs.Calls.{flags_fit}
use Rattle.record.specs.declared.Entry.{Entry}
use Rattle.std.specs.Prelude.{Some, None}
use Rattle.record.specs.declared.kind.Kind.TheVariants.{Controller, Deck as DeckByte, Position, Cassette}
use Rattle.record.specs.Entries.{kind_of, fits, formed, is_controller, is_deck}
use Rattle.record.proofs.Forms.{fits-controller, fits-position}

pub no-controller : (k : ℕ) → (k ≡ 0 → ⊥) → is_controller k ≡ false
no-controller zero n = absurd (n refl)
no-controller (suc k) n = refl

pub no-deck : (k : ℕ) → (k ≡ 1 → ⊥) → is_deck k ≡ false
no-deck zero n = refl
no-deck (suc zero) n = absurd (n refl)
no-deck (suc (suc k)) n = refl

-- the number of a kind
pub kind-controller : (k : ℕ) → kind_of k ≡ Some Controller → k ≡ 0
kind-controller zero p = refl
kind-controller (suc zero) p = cc
kind-controller (suc (suc zero)) p = cc
kind-controller (suc (suc (suc zero))) p = cc
kind-controller (suc (suc (suc (suc k)))) p = cc

pub kind-deck : (k : ℕ) → kind_of k ≡ Some DeckByte → k ≡ 1
kind-deck zero p = cc
kind-deck (suc zero) p = refl
kind-deck (suc (suc zero)) p = cc
kind-deck (suc (suc (suc zero))) p = cc
kind-deck (suc (suc (suc (suc k)))) p = cc

pub kind-position : (k : ℕ) → kind_of k ≡ Some Position → k ≡ 2
kind-position zero p = cc
kind-position (suc zero) p = cc
kind-position (suc (suc zero)) p = refl
kind-position (suc (suc (suc zero))) p = cc
kind-position (suc (suc (suc (suc k)))) p = cc

pub kind-cassette : (k : ℕ) → kind_of k ≡ Some Cassette → k ≡ 3
kind-cassette zero p = cc
kind-cassette (suc zero) p = cc
kind-cassette (suc (suc zero)) p = cc
kind-cassette (suc (suc (suc zero))) p = refl
kind-cassette (suc (suc (suc (suc k)))) p = cc

-- ---- what a well-formed entry has

module _ (e : Entry) (f : formed e ≡ true) where
  fits-true : fits e.kind e ≡ true
  fits-true = (and_parts _ _ f).0

  pub formed-time : e.time < 2 ^ 48
  formed-time = ltb-true e.time (2 ^ 48) (and_parts (fits e.kind e) _ f).1

  pub formed-controller : e.kind ≡ 0 → (flags_fit e.flags ≡ true) × (e.content < 256)
  formed-controller p =
      let b = and_parts (flags_fit e.flags) (ltb e.content 256) (sym (fits-controller e p) ∙ fits-true) in
      (b.0, ltb-true e.content 256 b.1)

  pub formed-position : e.kind ≡ 2 → e.content < day
  formed-position p =
      ltb-true e.content day (and_parts (eqb e.flags 0) (ltb e.content day) (sym (fits-position e p) ∙ fits-true)).1

  -- it has a kind
  pub formed-kind : None ≡ kind_of e.kind → ⊥
  unfolding fits
  formed-kind n = go e.kind n fits-true
    where
      go : (k : ℕ) → None ≡ kind_of k → fits k e ≡ true → ⊥
      go zero n f = cc
      go (suc zero) n f = cc
      go (suc (suc zero)) n f = cc
      go (suc (suc (suc zero))) n f = cc
      go (suc (suc (suc (suc k)))) n f = false≢true f
