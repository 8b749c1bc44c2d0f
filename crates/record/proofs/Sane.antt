-- What holds of the deck and of what is awaited after entries that pass the tests.
use Prim.Native.Nat.{ℕ, zero, suc, ◌+◌, ◌%◌, ◌^◌, ◌≤◌, ◌<◌}
use mathlib.Core.Path.{◌≡◌, refl, sym, subst}
use mathlib.Core.Logic.{◌⊎◌, inl, inr}
use mathlib.Core.List.{List, [], ◌∷◌, ◌++◌, nil≢cons}
use native.Mathlib.Omega.{arith}
use lib.Dec.{T, eqb, ltb, ltb→lt, lit<}
use lib.ListN.{length}
use Rattle.std.proofs.lemmas.Bool.{cases_lt}
use Rattle.std.proofs.lemmas.List.{length_push}
use Rattle.settings.specs.declared.Settings.{Settings}
use Rattle.execute.specs.Replies.{nak, time_out}
use Rattle.execute.specs.Execute.{execute}
use Rattle.packed.proofs.Bytes.{Bytes, behind}
use Rattle.execute.proofs.Replies.{reply-bytes}
use Rattle.deck.specs.Line.{look, Deck, deck, at_power_on, Answer, silently, voided, replied, is_open, size, looked, acted}
use Rattle.deck.proofs.Steps.{look-shut, look-early, acted-other}
use Rattle.deck.proofs.Cases.{expired, looked-late, size-more, acted-dropped, acted-flagged, acted-first, acted-more, acted-last}
use Rattle.record.specs.declared.Entry.{Entry}
use Rattle.deck.specs.Calls.{flags_fit}
use Rattle.record.specs.Entries.{entry, fits, WellFormed, handed, after_entry, run, last_time}
use Rattle.record.specs.Turns.{Clean}
use Rattle.record.proofs.Handed.{taped, acted-tape}
use Rattle.record.proofs.Lists.{and_left, and_right}
use Rattle.record.specs.Machine.{Waiting, waiting, some, awaited_after, advance}
use Rattle.record.proofs.Readings.{waits, Pass, Passes, deck_now, waiting_now, PassesNow, of-halves, pass-look, heard-alone}
use Rattle.record.proofs.Opening.{Dirty, clean-or-not}

-- ---- bytes

nak-bytes : (why : ℕ) → why < 256 → Bytes (nak why)
nak-bytes why h = (omega arith, (omega arith, (h, (omega arith, tt))))

-- ---- well-formed entries

time-small : (e : Entry) → WellFormed e → e.time < 2 ^ 48
time-small e h = ltb→lt e.time (2 ^ 48) (and_right (fits e.kind e) (ltb e.time (2 ^ 48)) h)

flags-small : (fl c tm : ℕ) → WellFormed (entry 0 fl c tm) → fl < 256
unfolding fits
flags-small fl c tm h =
    let f = and_left (flags_fit fl) (ltb c 256) (and_left (fits 0 (entry 0 fl c tm)) (ltb tm (2 ^ 48)) h) in
    omega (arith, ltb→lt fl 128 (and_right (eqb (fl % 16) 0) (ltb fl 128) f))

-- ---- what holds

-- a block is open, nothing is awaited
pub record Opened (t : ℕ) (d : Deck) (w : Waiting) : Type 0 where
  pub none : w.left ≡ []
  pub proper : length d.block < size d.block
  pub near : t ≤ d.last + 10000
  pub heard : d.free ≤ d.last
  pub before : d.last ≤ t

-- after entries that pass, the last at t
pub record Sane (t : ℕ) (d : Deck) (w : Waiting) : Type 0 where
  pub small : t < 2 ^ 48
  pub in_time : T (some w.left) → t ≤ w.latest
  pub bytes : Bytes w.left
  pub opened : T (is_open d.block) → Opened t d w

-- ---- an entry more

-- what e does to the deck d, after the time-out, and that it keeps what holds
abbrev Keeps : Deck → Waiting → Entry → Type 0
Keeps d w e = (E : Answer) × (acted d (handed e) ≡ E) × Sane e.time E.deck (awaited_after w e (silently d) E)

-- with no block open
keeps-shut : (k fl c tm : ℕ) (l f : ℕ) (s : Settings) (now : List ℕ) (lat t : ℕ) → Bytes now
    → Pass t (silently (deck [] l f s)) (waiting now lat) (entry k fl c tm) → Keeps (deck [] l f s) (waiting now lat) (entry k fl c tm)
keeps-shut zero fl c tm l f s now lat t a v = go (cases_lt tm f) (clean-or-not e)
  where
    e : Entry
    e = entry 0 fl c tm

    d : Deck
    d = deck [] l f s

    go : (tm < f) ⊎ (f ≤ tm) → Clean e ⊎ Dirty e → Keeps d (waiting now lat) e
    go (inl h) n = (
      silently d,
      acted-dropped d tm c fl h,
      record { small = time-small e v.well_formed; in_time = v.in_time; bytes = a; opened = λ n. absurd n },
    )
    go (inr h) (inr n) = (
      voided d fl tm,
      acted-flagged d tm c fl h n,
      record {
        small = time-small e v.well_formed;
        in_time = λ _. omega arith;
        bytes = nak-bytes fl (flags-small fl c tm v.well_formed);
        opened = λ n. absurd n;
      },
    )
    go (inr h) (inl n) = (
      silently (deck (c ∷ []) tm f s),
      acted-first l f s tm c fl h n,
      record {
        small = time-small e v.well_formed;
        in_time = v.in_time;
        bytes = a;
        opened = λ _. record {
          none = heard-alone t d now lat e tt h v;
          proper = omega arith;
          near = omega arith;
          heard = h;
          before = omega arith;
        };
      },
    )
keeps-shut (suc zero) fl c tm l f s now lat t a v = (
  silently (deck [] l f s),
  acted-other (deck [] l f s) (look tm) tt,
  record {
    small = time-small (entry 1 fl c tm) v.well_formed;
    in_time = λ _. omega arith;
    bytes = behind 1 now a;
    opened = λ n. absurd n;
  },
)
keeps-shut (suc (suc k)) fl c tm l f s now lat t a v =
    let e : Entry = entry (suc (suc k)) fl c tm in (
      silently (deck [] l f (taped k e s)),
      acted-tape k (deck [] l f s) e,
      record { small = time-small e v.well_formed; in_time = v.in_time; bytes = a; opened = λ n. absurd n },
    )

-- with a block open, not timed out
keeps-open : (k fl c tm : ℕ) (o : List ℕ) (l f : ℕ) (s : Settings) (lat t : ℕ) → T (is_open o) → Opened t (deck o l f s) (waiting [] lat)
    → tm ≤ l + 10000 → Pass t (silently (deck o l f s)) (waiting [] lat) (entry k fl c tm)
    → Keeps (deck o l f s) (waiting [] lat) (entry k fl c tm)
keeps-open zero fl c tm o l f s lat t b z h v = go (clean-or-not e) (cases_lt (suc (length o)) (size o))
  where
    e : Entry
    e = entry 0 fl c tm

    d : Deck
    d = deck o l f s

    j : f ≤ tm
    j = omega (arith, z, v.ordered)

    go : Clean e ⊎ Dirty e → (suc (length o) < size o) ⊎ (size o ≤ suc (length o)) → Keeps d (waiting [] lat) e
    go (inr n) y = (
      voided d fl tm,
      acted-flagged d tm c fl j n,
      record {
        small = time-small e v.well_formed;
        in_time = λ _. omega arith;
        bytes = nak-bytes fl (flags-small fl c tm v.well_formed);
        opened = λ n. absurd n;
      },
    )
    go (inl n) (inr y) = (
      replied d tm (execute s (o ++ c ∷ [])),
      acted-last d tm c fl b j n y,
      record { small = time-small e v.well_formed; in_time = λ _. omega arith; bytes = reply-bytes s (o ++ c ∷ []); opened = λ n. absurd n },
    )
    go (inl n) (inl y) = (
      silently (deck (o ++ c ∷ []) tm f s),
      acted-more d tm c fl b j n y,
      record {
        small = time-small e v.well_formed;
        in_time = λ n. absurd n;
        bytes = tt;
        opened = λ _. record {
          none = refl;
          proper = rw (length_push o c, size-more o c b) (omega (arith, y));
          near = omega arith;
          heard = j;
          before = omega arith;
        };
      },
    )
keeps-open (suc zero) fl c tm o l f s lat t b z h v = absurd (nil≢cons (v.deck_byte tt).1)
keeps-open (suc (suc k)) fl c tm o l f s lat t b z h v =
    let e : Entry = entry (suc (suc k)) fl c tm in (
      silently (deck o l f (taped k e s)),
      acted-tape k (deck o l f s) e,
      record {
        small = time-small e v.well_formed;
        in_time = v.in_time;
        bytes = tt;
        opened = λ _. record {
          none = refl;
          proper = z.proper;
          near = h;
          heard = z.heard;
          before = omega (arith, z.before, v.ordered);
        };
      },
    )

-- the state after e, from the deck and the awaited before it
abbrev SaneAfter : Deck → Waiting → Entry → Type 0
SaneAfter d w e = Sane e.time (after_entry d e) (advance d w e)

sane-shut : (t l f : ℕ) (s : Settings) (w : Waiting) (e : Entry) → Bytes w.left
    → Pass t (looked (deck [] l f s) e.time) w e → SaneAfter (deck [] l f s) w e
sane-shut t l f s w e a v =
    let D : Deck = deck [] l f s in
    let p : looked D e.time ≡ silently D = look-shut (deck [] l f s) e.time refl in
    let v' : Pass t (silently D) w e = subst (λ (A : Answer). Pass t A w e) p v in
    let u = keeps-shut e.kind e.flags e.content e.time l f s w.left w.latest t a v' in
    of-halves (Sane e.time) D w e (silently D) u.0 p u.1 u.2

sane-open : (t : ℕ) (o : List ℕ) (l f : ℕ) (s : Settings) (lat : ℕ) (e : Entry) → T (is_open o) → Opened t (deck o l f s) (waiting [] lat)
    → Pass t (looked (deck o l f s) e.time) (waiting [] lat) e → SaneAfter (deck o l f s) (waiting [] lat) e
sane-open t o l f s lat e b y v = go (cases_lt (l + 10000) e.time)
  where
    D : Deck
    D = deck o l f s

    w : Waiting
    w = waiting [] lat

    go : (l + 10000 < e.time) ⊎ (e.time ≤ l + 10000) → SaneAfter D w e
    go (inr h) =
        let p : looked D e.time ≡ silently D = look-early D e.time h in
        let v' : Pass t (silently D) w e = subst (λ (A : Answer). Pass t A w e) p v in
        let u = keeps-open e.kind e.flags e.content e.time o l f s lat t b y h v' in
        of-halves (Sane e.time) D w e (silently D) u.0 p u.1 u.2
    go (inl h) =
        let L : Answer = expired l s in
        let p : looked D e.time ≡ L = looked-late D e.time b h in
        let v' = (pass-look t L.deck w e L.replies).0 (subst (λ (A : Answer). Pass t A w e) p v) in
        let a : Bytes (nak time_out) = nak-bytes time_out (omega arith) in
        let u = keeps-shut e.kind e.flags e.content e.time l (l + 10001 + 10001) s (nak time_out) (l + 10001 + 9000) t a v' in
        of-halves (Sane e.time) D w e L u.0 p u.1 u.2

sane-step : (t : ℕ) (d : Deck) (w : Waiting) (e : Entry) → Sane t d w → Pass t (looked d e.time) w e → SaneAfter d w e
sane-step t d w e z v = go d.block z v
  where
    with : List ℕ → Deck
    with o = deck o d.last d.free d.settings

    go : (o : List ℕ) → Sane t (with o) w → Pass t (looked (with o) e.time) w e → SaneAfter (with o) w e
    go [] z v = sane-shut t d.last d.free d.settings w e z.bytes v
    go (x ∷ o) z v =
        subst
        (λ (l : List ℕ). Opened t (with (x ∷ o)) (waiting l w.latest)
        → Pass t (looked (with (x ∷ o)) e.time) (waiting l w.latest) e → SaneAfter (with (x ∷ o)) (waiting l w.latest) e)
        (sym (z.opened tt).none) (sane-open t (x ∷ o) d.last d.free d.settings w.latest e tt) (z.opened tt) v

-- ---- all entries

sane-run : (es : List Entry) (t : ℕ) (d : Deck) (w : Waiting) → Sane t d w → Passes t d w es
    → Sane (last_time t es) (run d es) (waits d w es)
unfolding Passes run waits
sane-run [] t d w z p = z
sane-run (e ∷ es) t d w z p = sane-run es e.time (after_entry d e) (advance d w e) (sane-step t d w e z p.0) p.1

pub sane-now : (es : List Entry) → PassesNow es → Sane (last_time 0 es) (deck_now es) (waiting_now es)
sane-now es p =
    sane-run es 0 at_power_on (waiting [] 0) (record { small = lit< tt; in_time = λ n. absurd n; bytes = tt; opened = λ n. absurd n }) p
