-- Blocks on the line: a full one is answered, a beginning is not, a broken one gets its NAK.
use mathlib.Core.Bool.{true}
use mathlib.Core.List.{List, [], ◌∷◌, ◌++◌, append_assoc}
use mathlib.Core.Logic.{◌⊎◌, inl, inr, ⊎_elim}
use mathlib.Core.Path.{◌≡◌, refl, ap, ◌∙◌}
use Prim.Native.Nat.{ℕ, ◌+◌, ◌≤◌, ◌<◌}
use native.Mathlib.Omega.{arith}
use lib.ListN.{length, length-append}
use Rattle.execute.specs.Execute.{execute}
use Rattle.execute.specs.Replies.{time_out, opens_quiet}
use Rattle.settings.specs.declared.Settings.{Settings}
use Rattle.deck.specs.Line.{Event, byte, time_of, Deck, deck, Answer, silently, free_after, is_open, looked, size, taken}
use Rattle.deck.specs.Line.{with_settings, after, says}
use Rattle.deck.specs.Events.{Gives, nak_at, tape, tapes, NoByte, Others, Sending, sent, next, Begun, unbegun, begun}
use Rattle.deck.proofs.Steps.{look-shut, look-early, look-in-time, taken-full, taken_more, taken-from}
use Rattle.deck.proofs.Steps.{answers-unheard, answers-clean, answers-flagged, answers-late}
use Rattle.deck.proofs.Steps.{gives_none, gives_cons, gives_one, gives-append}

pub tapes-append : (s : Settings) (es fs : List Event) → tapes s (es ++ fs) ≡ tapes (tapes s es) fs
tapes-append s [] fs = refl
tapes-append s (e ∷ es) fs = tapes-append (tape s e) es fs

-- ---- what stands between bytes

pub others-silent : (d : Deck) (es : List Event) → Others d.last es
    → Gives d es [] (with_settings d (tapes d.settings es))
others-silent d [] o = gives_none d
others-silent d (e ∷ es) o =
    gives_cons d e es (answers-unheard d e (look-early d (time_of e) o.1) (inl o.0))
    (others-silent (with_settings d (tape d.settings e)) es o.2)

-- ---- a clean byte and those sent after it: all comes to what the last of them comes to

-- how many bytes a block has is said by its first
size-more : (block : List ℕ) (b : ℕ) (bytes : List ℕ) → size (block ++ b ∷ bytes) ≡ size (block ++ b ∷ [])
size-more [] b bytes = refl
size-more (c ∷ block) b bytes = refl

carried : {t end : ℕ} {bytes : List ℕ} {es : List Event} → Sending t bytes es end → (d : Deck) (b : ℕ)
    → looked d t ≡ silently d → d.free ≤ t → length (d.block ++ b ∷ bytes) ≤ size (d.block ++ b ∷ bytes)
    → let a = taken (with_settings d (tapes d.settings es)) (d.block ++ b ∷ bytes) end in
    Gives d (byte t b 0 ∷ es) a.replies a.deck
carried {t} sent d b l h n = gives_one d (byte t b 0) (answers-clean d t b l h)
carried {t} (next {t = u} {b = c} {bytes = bytes} {es = es} others o f k x) d b l h n =
    let m = deck (d.block ++ b ∷ []) t d.free d.settings in
    let s = size-more d.block b (c ∷ bytes) in
    let p : length m.block < size m.block =
    omega (arith, length-append d.block (b ∷ []), length-append d.block (b ∷ c ∷ bytes), s) in
    rw (
      tapes-append d.settings others (byte u c 0 ∷ es),
      ← append_assoc d.block (b ∷ []) (c ∷ bytes),
      taken-from d.block m.block d.last t,
    )
    (gives_cons d (byte t b 0) (others ++ byte u c 0 ∷ es) (answers-clean d t b l h ∙ taken_more d m.block t p)
    (gives-append m others (byte u c 0 ∷ es) (others-silent m others o)
    (carried x (with_settings m (tapes d.settings others)) c (look-early _ u k) (omega arith) (rw append_assoc n))))

-- the same to a deck with no block open
sent-whole : (d : Deck) (b : ℕ) {t end : ℕ} {bytes : List ℕ} {es : List Event} {a : Answer} → d.block ≡ [] → d.free ≤ t
    → Sending t bytes es end → length (b ∷ bytes) ≤ size (b ∷ bytes)
    → taken (with_settings d (tapes d.settings es)) (b ∷ bytes) end ≡ a → Gives d (byte t b 0 ∷ es) a.replies a.deck
sent-whole d b {t} {end} {bytes} {es} e h x n p =
    let g = carried x d b (look-shut d t e) h (rw e n) in
    let q = ap (λ (o : List ℕ). taken (with_settings d (tapes d.settings es)) (o ++ b ∷ bytes) end) e ∙ p in
    (g.0 ∙ ap (λ (a : Answer). a.replies) q, g.1 ∙ ap (λ (a : Answer). a.deck) q)

-- ---- full blocks and beginnings

-- a full clean block gets one reply, what `execute` makes of its bytes with the settings as the tape has left them, due at
-- its last byte
pub block-answered : (d : Deck) (b : ℕ) {t end : ℕ} {bytes : List ℕ} {es : List Event} → d.block ≡ [] → d.free ≤ t
    → Sending t bytes es end → length (b ∷ bytes) ≡ size (b ∷ bytes)
    → let o = execute (tapes d.settings es) (b ∷ bytes) in
    Gives d (byte t b 0 ∷ es) (record { bytes = o.bytes; due = end; quiets = o.quiets } ∷ [])
    (deck [] end (free_after o.quiets end d.free) o.settings)
block-answered d b {end = end} {bytes = bytes} e h x n =
    sent-whole d b e h x (omega arith) (taken-full _ (b ∷ bytes) end (omega arith))

-- a proper beginning gets none
pub beginning-silent : {d : Deck} {last : ℕ} {bytes : List ℕ} {es : List Event} → Begun d bytes es last
    → Gives d es [] (deck bytes last d.free (tapes d.settings es))
beginning-silent (unbegun {d} e) =
    let g = gives_none d in (g.0, g.1 ∙ ap (λ (o : List ℕ). deck o d.last d.free d.settings) e)
beginning-silent (begun {d} {t} {b} {last} {bytes} {es} others e h x n o) =
    rw (tapes-append d.settings es others)
    (gives-append d (byte t b 0 ∷ es) others
    (sent-whole d b e h x (omega arith) (taken_more _ (b ∷ bytes) last n))
    (others-silent (deck (b ∷ bytes) last d.free (tapes d.settings es)) others o))

-- ---- broken blocks

-- a flagged byte in time after a beginning, or with no block begun: its NAK, due at its time
pub flagged : {d : Deck} {last : ℕ} {bytes : List ℕ} {es : List Event} → Begun d bytes es last → (t b flags : ℕ)
    → d.free ≤ t → (is_open bytes ≡ true → t ≤ last + 10000) → (flags ≡ 0 → ⊥)
    → Gives d (es ++ byte t b flags ∷ []) (nak_at flags t ∷ [])
    (deck [] last (free_after (opens_quiet flags) t d.free) (tapes d.settings es))
flagged {d} {last} {bytes} {es} x t b flags h k f =
    let m = deck bytes last d.free (tapes d.settings es) in
    gives-append d es (byte t b flags ∷ []) (beginning-silent x)
    (gives_one m (byte t b flags) (answers-flagged m t b flags (look-in-time m t k) h f))

-- an event too late after a beginning: the time-out's NAK, due at last + 10,001 whatever the event's time, and then what the
-- event gets from the deck without the block, in quiet until last + 20,001
pub late : {d : Deck} {b last : ℕ} {bytes : List ℕ} {es : List Event} → Begun d (b ∷ bytes) es last → (e : Event)
    → last + 10000 < time_of e
    → let m = deck [] last (last + 20002) (tapes d.settings es) in
    Gives d (es ++ e ∷ []) (nak_at time_out (last + 10001) ∷ says m e) (after m e)
late {d} {b} {last} {bytes} {es} x e h =
    let m = deck (b ∷ bytes) last d.free (tapes d.settings es) in
    gives-append d es (e ∷ []) (beginning-silent x) (gives_one m e (answers-late m e refl h))

-- which is nothing, where the event is no byte or falls in that quiet
pub late-alone : {d : Deck} {b last : ℕ} {bytes : List ℕ} {es : List Event} → Begun d (b ∷ bytes) es last → (e : Event)
    → last + 10000 < time_of e → NoByte e ⊎ (time_of e ≤ last + 20001)
    → Gives d (es ++ e ∷ []) (nak_at time_out (last + 10001) ∷ [])
    (deck [] last (last + 20002) (tapes d.settings (es ++ e ∷ [])))
late-alone {d} {last = last} {es = es} x e h k =
    let m = deck [] last (last + 20002) (tapes d.settings es) in
    let p = answers-unheard m e (look-shut m (time_of e) refl) (⊎_elim inl (λ q. inr (omega arith)) k) in
    rw (tapes-append d.settings es (e ∷ [])) (rw (p, says, after) at (late x e h))
