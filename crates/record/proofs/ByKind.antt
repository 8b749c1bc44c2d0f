-- The kinds of entries: which are meant, and what the deck is handed.
use Rattle.std.specs.Prelude.{Option, Some, None, Ok, Err, ◌&&◌}
use Prim.Native.Nat.{ℕ, zero, suc, ◌<◌}
use mathlib.Core.Path.{◌≡◌, refl}
use mathlib.Core.Bool.{Bool, true, false}
use borrow.Author.Tests.{ltb-true}
use lib.Dec.{eqb, ltb}
use Rattle.refusal.specs.declared.Refusal.{Refusal}
use Rattle.record.specs.declared.Entry.{Entry}
use Rattle.record.specs.declared.kind.Kind.{Kind}
use Rattle.record.specs.declared.kind.Kind.TheVariants.{Controller, Deck, Position, Cassette}
use Rattle.record.specs.Entries.{kind_of, kind_or_field, meant}

abbrev pub meant_as : Option Kind → Entry → Bool
meant_as (Some Controller) e = ltb e.content 256
meant_as (Some Deck) e = eqb e.flags 0 && ltb e.content 256
meant_as (Some Position) e = eqb e.flags 0
meant_as (Some Cassette) e = eqb e.flags 0 && eqb e.content 0
meant_as None e = false

pub meant_by : (k : ℕ) (e : Entry) → meant k e ≡ meant_as (kind_of k) e
unfolding meant
meant_by zero e = refl
meant_by (suc zero) e = refl
meant_by (suc (suc zero)) e = refl
meant_by (suc (suc (suc zero))) e = refl
meant_by (suc (suc (suc (suc k)))) e = refl

-- what is handed as a byte is one
pub byte_small : (n : ℕ) (e : Entry) → meant n e ≡ true → Ok Controller ≡ kind_or_field n → e.content < 256
unfolding meant
byte_small zero e m p = ltb-true e.content 256 m
byte_small (suc zero) e m p = absurd (cc)
byte_small (suc (suc zero)) e m p = absurd (cc)
byte_small (suc (suc (suc zero))) e m p = absurd (cc)
byte_small (suc (suc (suc (suc k)))) e m p = absurd (cc)

-- what is meant is of a kind
pub of_kind : (n : ℕ) (e : Entry) (why : Refusal) → meant n e ≡ true → Err why ≡ kind_or_field n → ⊥
unfolding meant
of_kind zero e why m p = cc
of_kind (suc zero) e why m p = cc
of_kind (suc (suc zero)) e why m p = cc
of_kind (suc (suc (suc zero))) e why m p = cc
of_kind (suc (suc (suc (suc k)))) e why m p = cc
