-- What a call finds: the events as the code takes them apart, by the time-out test.
use Prim.Native.Nat.{ℕ, ◌≤◌, ◌<◌}
use mathlib.Core.Bool.{true, false}
use mathlib.Core.Path.{◌≡◌, ◌∙◌}
use mathlib.Core.List.{[], ◌∷◌}
use native.Mathlib.Omega.{arith}
use Rattle.deck.specs.Line.{Deck, deck, Answer, silently, both_of, byte}
use Rattle.deck.specs.Line.{timed_out, voided, received, answers}
use Rattle.deck.proofs.Late.{missed}
use Rattle.deck.proofs.Steps.{look-found, look-nothing, byte-dropped, byte-flagged, byte-clean, taken_more}
use Rattle.deck.proofs.Steps.{acted-byte, answers-is, answers-soon}

module _ (d : Deck) (t b flags : ℕ) where
  pub byte-in-time : timed_out d t ≡ false → answers d (byte t b flags) ≡ received d t b flags
  byte-in-time e = answers-soon d (byte t b flags) (look-nothing d t e) (acted-byte d t b flags)

  -- a byte that finds the time-out: in the quiet of the NAK, with a NAK of its own, or as the first of a block
  module _ (late : timed_out d t ≡ true) where
    byte-late : {a : Answer} → received (missed d).deck t b flags ≡ a → answers d (byte t b flags) ≡ both_of (missed d) a
    byte-late e = answers-is d (byte t b flags) (look-found d t late) (acted-byte (missed d).deck t b flags ∙ e)

    pub late-in-quiet : t < (missed d).deck.free → answers d (byte t b flags) ≡ missed d
    late-in-quiet h = byte-late (byte-dropped (missed d).deck t b flags h)

    pub late-flagged : (missed d).deck.free ≤ t → (flags ≡ 0 → ⊥)
        → answers d (byte t b flags) ≡ both_of (missed d) (voided (missed d).deck flags t)
    late-flagged h n = byte-late (byte-flagged (missed d).deck t b flags h n)

    pub late-clean : (missed d).deck.free ≤ t → flags ≡ 0
        → answers d (byte t b flags)
        ≡ both_of (missed d) (silently (deck (b ∷ []) t (missed d).deck.free (missed d).deck.settings))
    late-clean h e =
        byte-late (byte-clean (missed d).deck t b flags h e ∙ taken_more (missed d).deck (b ∷ []) t (omega arith))
