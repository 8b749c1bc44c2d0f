-- Which entries are deck bytes, as the code tests it.
use Rattle.std.specs.Prelude.{ℕ, zero, suc, ◌≡◌, Bool, true, false, Option, Some, None}
use Rattle.std.proofs.Common.{refl}
use Rattle.record.specs.declared.kind.Kind.{Kind}
use Rattle.record.specs.declared.kind.Kind.TheVariants.{Controller, Deck, Position, Cassette}
use Rattle.record.specs.Entries.{kind_of, is_deck}

abbrev pub deck_byte : Option Kind → Bool
deck_byte (Some Controller) = false
deck_byte (Some Deck) = true
deck_byte (Some Position) = false
deck_byte (Some Cassette) = false
deck_byte None = false

pub is_deck_by : (k : ℕ) → is_deck k ≡ deck_byte (kind_of k)
is_deck_by zero = refl
is_deck_by (suc zero) = refl
is_deck_by (suc (suc zero)) = refl
is_deck_by (suc (suc (suc zero))) = refl
is_deck_by (suc (suc (suc (suc k)))) = refl
