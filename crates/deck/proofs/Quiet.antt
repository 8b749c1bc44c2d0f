-- A byte in quiet acts as a look at its time, whatever it holds.
use mathlib.Core.Bool.{true}
use mathlib.Core.List.{List, [], ◌∷◌}
use mathlib.Core.Logic.{◌⊎◌}
use mathlib.Core.Path.{◌≡◌, refl, sym, ◌∙◌, subst}
use Prim.Native.Nat.{ℕ, ◌<◌}
use borrow.Author.Tests.{ltb-true}
use Rattle.deck.specs.Line.{Event, byte, look, time_of, Deck, Answer, silently, looked, in_quiet, with_settings}
use Rattle.deck.specs.Line.{answers, after, run, said}
use Rattle.deck.specs.Events.{Gives, tape, NoByte, Alike, ended, same, dropped, unheard}
use Rattle.deck.proofs.Steps.{look-shut, byte-dropped, acted-byte, acted-other, answers-is, answers-unheard, gives-alike}

module _ (d : Deck) (t b flags : ℕ) (q : in_quiet (looked d t).deck t ≡ true) where
  -- "Bytes in quiet act only as looks at the clock."
  pub quiet-look : answers d (byte t b flags) ≡ answers d (look t)
  quiet-look =
      let m = (looked d t).deck in
      answers-is d (byte t b flags) refl (acted-byte m t b flags ∙ byte-dropped m t b flags (ltb-true t m.free q))
      ∙ sym (answers-is d (look t) refl (acted-other m (look t) tt))

-- with no block open, an event that is no byte, or a byte in quiet, gets no reply
pub idle-silent : (d : Deck) (e : Event) → d.block ≡ [] → NoByte e ⊎ (time_of e < d.free)
    → answers d e ≡ silently (with_settings d (tape d.settings e))
idle-silent d e p h = answers-unheard d e (look-shut d (time_of e) p) h

-- an event and another that gets the same, and then runs that are alike
alike-after : (d : Deck) (e f : Event) (es fs : List Event) → answers d e ≡ answers d f
    → Gives (after d e) es (said (after d e) fs) (run (after d e) fs) → Gives d (e ∷ es) (said d (f ∷ fs)) (run d (f ∷ fs))
alike-after d e f es fs p g =
    gives-alike d e f es fs p (subst (λ (a : Answer). Gives a.deck es (said a.deck fs) (run a.deck fs)) p g)

pub quiet-alike : {d : Deck} {es fs : List Event} → Alike d es fs → (said d es ≡ said d fs) × (run d es ≡ run d fs)
quiet-alike ended = (refl, refl)
quiet-alike (same {d} {e} {es} {fs} x) = alike-after d e e es fs refl (quiet-alike x)
quiet-alike (dropped {d} {t} {b} {c} {flags} {marks} {es} {fs} q x) =
    alike-after d (byte t b flags) (byte t c marks) es fs (quiet-look d t b flags q ∙ sym (quiet-look d t c marks q)) (quiet-alike x)
quiet-alike (unheard {d} {t} {b} {flags} {es} {fs} q x) =
    alike-after d (byte t b flags) (look t) es fs (quiet-look d t b flags q) (quiet-alike x)
