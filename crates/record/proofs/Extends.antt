-- Whatever has passed the tests can be brought to rest by further entries, all at the last time: it begins a sound record.
use Prim.Native.Nat.{ℕ, zero, suc, ◌+◌, ◌-◌, ◌^◌, ◌≤◌, ◌<◌}
use mathlib.Core.Path.{◌≡◌, refl, sym, subst}
use mathlib.Core.List.{List, [], ◌∷◌, ◌++◌}
use native.Mathlib.Omega.{arith}
use lib.Dec.{T, ltb, lt→ltb}
use lib.ListN.{length}
use Rattle.std.proofs.lemmas.List.{length_push}
use Rattle.settings.specs.declared.Settings.{Settings}
use Rattle.execute.specs.Execute.{execute}
use Rattle.packed.proofs.Bytes.{Bytes}
use Rattle.execute.proofs.Replies.{reply-bytes}
use Rattle.deck.specs.Line.{look, Deck, deck, at_power_on, Answer, silently, replied, free_after, is_open, size, looked, acted}
use Rattle.deck.proofs.Steps.{look-shut, look-early, acted-other}
use Rattle.deck.proofs.Cases.{open_more, size-more, acted-more, acted-last}
use Rattle.record.specs.declared.Entry.{Entry}
use Rattle.record.specs.Entries.{entry, fits, WellFormed, handed, run, last_time}
use Rattle.record.specs.Marks.{Extends}
use Rattle.record.proofs.Handed.{run-append}
use Rattle.record.proofs.Lists.{and_both}
use Rattle.record.specs.Machine.{Waiting, waiting, some, awaited_after}
use Rattle.record.proofs.Readings.{waits, Pass, Passes, deck_now, waiting_now, PassesNow, of-halves, waits-append, passes_append}
use Rattle.record.proofs.Turned.{Rests}
use Rattle.record.proofs.Sounds.{accepted-sound}
use Rattle.record.proofs.Sane.{Opened, Sane, sane-now}

-- more entries, all at t, that pass and end at rest
record Finish (t : ℕ) (d : Deck) (w : Waiting) : Type 0 where
  more : List Entry
  passes : Passes t d w more
  rests : Rests (run d more) (waits d w more)

finish-cons : (t : ℕ) (d : Deck) (w : Waiting) (e : Entry) (L E : Answer) → looked d e.time ≡ L → acted L.deck (handed e) ≡ E
    → Pass t L w e → Finish e.time E.deck (awaited_after w e L E) → Finish t d w
unfolding Passes run waits
finish-cons t d w e L E p q v h =
    let h' = of-halves (Finish e.time) d w e L E p q h in
    record { more = e ∷ h'.more; passes = (subst (λ (A : Answer). Pass t A w e) (sym p) v, h'.passes); rests = h'.rests }

-- ---- the reply's bytes

byte-formed : (b t : ℕ) → b < 256 → t < 2 ^ 48 → WellFormed (entry 1 0 b t)
unfolding fits
byte-formed b t g h = and_both (ltb b 256) (ltb t (2 ^ 48)) (lt→ltb b 256 g) (lt→ltb t (2 ^ 48) h)

finish-reply : (now : List ℕ) (l f : ℕ) (s : Settings) (lat t : ℕ) → t < 2 ^ 48 → Bytes now → (T (some now) → t ≤ lat)
    → Finish t (deck [] l f s) (waiting now lat)
unfolding Passes run waits
finish-reply [] l f s lat t h a i = record { more = []; passes = tt; rests = record { shut = refl; left = refl } }
finish-reply (b ∷ now) l f s lat t h a i =
    let D : Deck = deck [] l f s in
    finish-cons t D (waiting (b ∷ now) lat) (entry 1 0 b t) (silently D) (silently D) (look-shut D t refl)
    (acted-other D (look t) tt)
    (record {
      well_formed = byte-formed b t a.0 h;
      ordered = omega arith;
      in_time = i;
      deck_byte = λ _. (now, refl);
      quiet = λ n. absurd n;
    })
    (finish-reply now l f s (t + 10000) t h a.1 (λ _. omega arith))

-- ---- an open block: zeros, and then its reply

zero-formed : (t : ℕ) → t < 2 ^ 48 → WellFormed (entry 0 0 0 t)
unfolding fits
zero-formed t h = lt→ltb t (2 ^ 48) h

zero-passes : (d : Deck) (lat t : ℕ) → t < 2 ^ 48 → Pass t (silently d) (waiting [] lat) (entry 0 0 0 t)
zero-passes d lat t h =
    record {
      well_formed = zero-formed t h;
      ordered = omega arith;
      in_time = λ n. absurd n;
      deck_byte = λ n. absurd n;
      quiet = λ _ n. absurd n;
    }

-- n zeros after the first
finish-block : (n : ℕ) (o : List ℕ) (l f : ℕ) (s : Settings) (lat t : ℕ) → T (is_open o) → suc (length o + n) ≡ size o
    → t < 2 ^ 48 → t ≤ l + 10000 → f ≤ t → Finish t (deck o l f s) (waiting [] lat)
finish-block zero o l f s lat t b p h i j =
    let D : Deck = deck o l f s in
    let x = execute s (o ++ 0 ∷ []) in
    finish-cons t D (waiting [] lat) (entry 0 0 0 t) (silently D) (replied D t x) (look-early D t i)
    (acted-last D t 0 0 b j refl (omega arith)) (zero-passes D lat t h)
    (finish-reply x.bytes t (free_after x.quiets t f) x.settings (t + 9000) t h (reply-bytes s (o ++ 0 ∷ [])) (λ _. omega arith))
finish-block (suc n) o l f s lat t b p h i j =
    let D : Deck = deck o l f s in
    let D' : Deck = deck (o ++ 0 ∷ []) t f s in
    finish-cons t D (waiting [] lat) (entry 0 0 0 t) (silently D) (silently D') (look-early D t i)
    (acted-more D t 0 0 b j refl (omega arith)) (zero-passes D lat t h)
    (finish-block n (o ++ 0 ∷ []) t f s lat t (open_more o 0) (rw (length_push o 0, size-more o 0 b) (omega arith)) h
    (omega arith) j)

-- ---- both

finish : (t : ℕ) (d : Deck) (w : Waiting) → Sane t d w → Finish t d w
finish t d w z = go d.block z
  where
    with : List ℕ → Deck
    with o = deck o d.last d.free d.settings

    go : (o : List ℕ) → Sane t (with o) w → Finish t (with o) w
    go [] z = finish-reply w.left d.last d.free d.settings w.latest t z.small z.bytes z.in_time
    go (b ∷ o) z =
        let y : Opened t (with (b ∷ o)) w = z.opened tt in
        let p : suc (suc (length o)) ≤ size (b ∷ o) = y.proper in
        let n : ℕ = size (b ∷ o) - suc (suc (length o)) in
        let q : suc (suc (length o) + n) ≡ size (b ∷ o) = omega arith in
        let h : d.free ≤ t = omega (arith, y.heard, y.before) in
        subst (λ (l : List ℕ). Finish t (with (b ∷ o)) (waiting l w.latest)) (sym y.none)
        (finish-block n (b ∷ o) d.last d.free d.settings w.latest t tt q z.small y.near h)

-- what has passed the tests is the beginning of a sound record
pub passes-extends : (es : List Entry) → PassesNow es → Extends es
passes-extends es p =
    record {
      more = u.more;
      sound = accepted-sound (es ++ u.more) (passes_append 0 at_power_on (waiting [] 0) es u.more p u.passes)
          (rw (run-append at_power_on es u.more, waits-append at_power_on (waiting [] 0) es u.more) u.rests);
    }
  where
    u : Finish (last_time 0 es) (deck_now es) (waiting_now es)
    u = finish (last_time 0 es) (deck_now es) (waiting_now es) (sane-now es p)
