-- What is well formed, as the code tests it.
use Prim.Native.Nat.{ℕ, zero, suc}
use mathlib.Core.Path.{◌≡◌, refl, ap, ◌∙◌}
use Rattle.std.specs.Prelude.{Option, Some, None}
use mathlib.Core.Bool.{Bool, false, ◌&&◌}
use lib.Dec.{eqb, ltb}
use Rattle.timecode.specs.Time.{day}
use Rattle.deck.specs.Calls.{flags_fit}
use Rattle.record.specs.declared.Entry.{Entry}
use Rattle.record.specs.declared.kind.Kind.{Kind}
use Rattle.record.specs.declared.kind.Kind.TheVariants.{Controller, Deck, Position, Cassette}
use Rattle.record.specs.Entries.{kind_of, fits}

abbrev fits_as : Option Kind → Entry → Bool
fits_as (Some Controller) e = flags_fit e.flags && ltb e.content 256
fits_as (Some Deck) e = eqb e.flags 0 && ltb e.content 256
fits_as (Some Position) e = eqb e.flags 0 && ltb e.content day
fits_as (Some Cassette) e = eqb e.flags 0 && eqb e.content 0
fits_as None e = false

pub fits_by : (k : ℕ) (e : Entry) → fits k e ≡ fits_as (kind_of k) e
unfolding fits
fits_by zero e = refl
fits_by (suc zero) e = refl
fits_by (suc (suc zero)) e = refl
fits_by (suc (suc (suc zero))) e = refl
fits_by (suc (suc (suc (suc k)))) e = refl

module _ (e : Entry) where
  pub fits-controller : e.kind ≡ 0 → fits e.kind e ≡ flags_fit e.flags && ltb e.content 256
  fits-controller p = fits_by e.kind e ∙ ap (λ (k : ℕ). fits_as (kind_of k) e) p

  pub fits-deck : e.kind ≡ 1 → fits e.kind e ≡ eqb e.flags 0 && ltb e.content 256
  fits-deck p = fits_by e.kind e ∙ ap (λ (k : ℕ). fits_as (kind_of k) e) p

  pub fits-position : e.kind ≡ 2 → fits e.kind e ≡ eqb e.flags 0 && ltb e.content day
  fits-position p = fits_by e.kind e ∙ ap (λ (k : ℕ). fits_as (kind_of k) e) p
