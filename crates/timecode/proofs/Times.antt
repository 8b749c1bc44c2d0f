-- Times and positions: each gives the other back, and exactly the legal time bytes are accepted.
use mathlib.Core.Bool.{Bool, true, false, cond}
use mathlib.Core.List.{List, [], ◌∷◌}
use mathlib.Core.Logic.{◌↔◌}
use mathlib.Core.Path.{◌≡◌, refl, sym, ap, ◌∙◌}
use Prim.Native.Nat.{ℕ, zero, suc, ◌+◌, ◌-◌, ◌*◌, ◌/◌, ◌%◌, ◌≤◌, ◌<◌}
use native.Mathlib.Nat.{add_assoc, add-mod_right, div-add-mod', div-lt_iff_lt-mul, le_trans, mod-add-mod, mod-eq_of_lt, mod-lt}
use native.Mathlib.Omega.{arith}
use borrow.Author.Tests.{eqb-true, lt-ltb, ltb-true}
use lib.Arith.{digits_div, digits_lt, digits_mod}
use lib.Dec.{ltb}
use lib.ListN.{length, get_or}
use Rattle.std.proofs.lemmas.Bool.{and_parts, cond_both}
use Rattle.timecode.specs.Bcd.{bcd, bcd_value}
use Rattle.timecode.specs.Time.{frames, day, Placed, Timed, Legal, position_of, time_of, is_time, placed, read_time, write_time, frame_on, frame_back}
use Rattle.timecode.proofs.Bcd.{bcd-lt, bcd-value, below, below-byte, below-value}

-- ---- a number of frames and its digits, at any number of frames in a second

abbrev number : ℕ → ℕ → ℕ → ℕ → ℕ → ℕ
number rate f s m h = ((h * 60 + m) * 60 + s) * rate + f

module _ (rate p : ℕ) where
  number-of-digits : number rate (p % rate) (p / rate % 60) (p / rate / 60 % 60) (p / rate / 60 / 60) ≡ p
  number-of-digits = rw (div-add-mod' (p / rate / 60) 60, div-add-mod' (p / rate) 60) (div-add-mod' p rate)

  hour-lt : 0 < rate → p < 24 * 60 * 60 * rate → p / rate / 60 / 60 < 24
  hour-lt some h = let e : p / rate < 86400 = (div-lt_iff_lt-mul some).1 h in omega arith

module _ {rate f s m h : ℕ} (hf : f < rate) (hs : s < 60) (hm : m < 60) (hh : h < 24) where
  number_lt : number rate f s m h < 24 * 60 * 60 * rate
  number_lt = digits_lt (digits_lt (digits_lt hh hm) hs) hf

  abbrev N : ℕ
  N = number rate f s m h

  digits-of-number : bcd (N % rate) ∷ bcd (N / rate % 60) ∷ bcd (N / rate / 60 % 60) ∷ bcd (N / rate / 60 / 60) ∷ []
      ≡ bcd f ∷ bcd s ∷ bcd m ∷ bcd h ∷ []
  digits-of-number =
      rw (digits_mod _ hf, digits_div _ hf, digits_mod _ hs, digits_div _ hs, digits_mod _ hm, digits_div _ hm)

-- ---- reading and writing times

-- what the laws use of the number of frames in a second: there are some, and two digits hold the number of each
frames-some : 0 < frames
frames-some = omega arith

frames-few : frames ≤ 100
frames-few = omega arith

pub read-bcd : {f s m h : ℕ} → f < frames → s < 60 → m < 60 → h < 24
    → read_time (bcd f ∷ bcd s ∷ bcd m ∷ bcd h ∷ []) ≡ placed 0 (position_of f s m h)
unfolding read_time
read-bcd {f} {s} {m} {h} hf hs hm hh =
    rw (
      below frames f frames-few hf,
      below 60 s (omega arith) hs,
      below 60 m (omega arith) hm,
      below 24 h (omega arith) hh,
      bcd-value f,
      bcd-value s,
      bcd-value m,
      bcd-value h,
    )

pub written : (p : ℕ) → p < day → write_time p ≡ record { no = 0; bytes = time_of p }
unfolding write_time
written p h = rw (lt-ltb p day h)

pub read-time-of : (p : ℕ) → p < day → read_time (time_of p) ≡ placed 0 p
read-time-of p h =
    read-bcd
    (mod-lt p frames-some)
    (mod-lt (p / frames) (omega arith))
    (mod-lt (p / frames / 60) (omega arith))
    (hour-lt frames p frames-some h)
    ∙ ap (placed 0) (number-of-digits frames p)

pub read-written : (p : ℕ) → p < day → read_time (write_time p).bytes ≡ placed 0 p
read-written p h = rw (written p h) (read-time-of p h)

-- a list of four
four : (l : List ℕ) → length l ≡ 4 → l ≡ get_or l 0 0 ∷ get_or l 1 0 ∷ get_or l 2 0 ∷ get_or l 3 0 ∷ []
four (a ∷ b ∷ c ∷ d ∷ []) e = refl
four [] e = absurd (omega arith)
four (a ∷ []) e = absurd (omega arith)
four (a ∷ b ∷ []) e = absurd (omega arith)
four (a ∷ b ∷ c ∷ []) e = absurd (omega arith)
four (a ∷ b ∷ c ∷ d ∷ x ∷ l) e = absurd (omega arith)

passed : (t : Bool) (p : Placed) → (cond t p (placed 9 0)).no ≡ 0 → t ≡ true
passed true p e = refl
passed false p e = absurd (omega arith)

accepted-is : (bytes : List ℕ) → (read_time bytes).no ≡ 0 → is_time bytes ≡ true
unfolding read_time
accepted-is bytes e = passed (is_time bytes) _ e

accepted-legal : (bytes : List ℕ) → (read_time bytes).no ≡ 0 → Legal bytes
accepted-legal bytes e =
    let h = and_parts _ _ (accepted-is bytes e) in
    let m = and_parts _ _ h.0 in
    let s = and_parts _ _ m.0 in
    let f = and_parts _ _ s.0 in
    record {
      f = bcd_value (get_or bytes 0 0);
      s = bcd_value (get_or bytes 1 0);
      m = bcd_value (get_or bytes 2 0);
      h = bcd_value (get_or bytes 3 0);
      frame = below-value frames (get_or bytes 0 0) f.1;
      second = below-value 60 (get_or bytes 1 0) s.1;
      minute = below-value 60 (get_or bytes 2 0) m.1;
      hour = below-value 24 (get_or bytes 3 0) h.1;
      are =
          rw (
            ← below-byte frames (get_or bytes 0 0) f.1,
            ← below-byte 60 (get_or bytes 1 0) s.1,
            ← below-byte 60 (get_or bytes 2 0) m.1,
            ← below-byte 24 (get_or bytes 3 0) h.1,
          )
          (four bytes (eqb-true _ _ f.0));
    }

read-legal : {bytes : List ℕ} (l : Legal bytes) → read_time bytes ≡ placed 0 (position_of l.f l.s l.m l.h)
read-legal l = ap read_time l.are ∙ read-bcd l.frame l.second l.minute l.hour

pub legal : (bytes : List ℕ) → ((read_time bytes).no ≡ 0) ↔ Legal bytes
legal bytes = (accepted-legal bytes, λ l. ap (λ (r : Placed). r.no) (read-legal l))

pub read-lt : (bytes : List ℕ) → (read_time bytes).no ≡ 0 → (read_time bytes).position < day
read-lt bytes e =
    let l = accepted-legal bytes e in
    rw (read-legal l) (number_lt l.frame l.second l.minute l.hour)

pub written_read : (bytes : List ℕ) → (read_time bytes).no ≡ 0
    → write_time (read_time bytes).position ≡ record { no = 0; bytes = bytes }
written_read bytes e =
    let l = accepted-legal bytes e in
    written _ (read-lt bytes e)
    ∙ ap (λ (b : List ℕ). record { no = 0; bytes = b })
    (rw (read-legal l) (digits-of-number l.frame l.second l.minute l.hour) ∙ sym l.are)

-- ---- what is written is four bytes, refused or not

four-lt : {a b c d : ℕ} → a < 256 → b < 256 → c < 256 → d < 256 → (i : ℕ) → get_or (a ∷ b ∷ c ∷ d ∷ []) i 0 < 256
four-lt ha hb hc hd zero = ha
four-lt ha hb hc hd (suc zero) = hb
four-lt ha hb hc hd (suc (suc zero)) = hc
four-lt ha hb hc hd (suc (suc (suc zero))) = hd
four-lt ha hb hc hd (suc (suc (suc (suc i)))) = omega arith

pub bytes_lt : (p i : ℕ) → get_or (write_time p).bytes i 0 < 256
unfolding write_time
bytes_lt p i =
    cond_both
    (ltb p day)
    _
    _
    (λ (r : Timed). get_or r.bytes i 0 < 256)
    (λ e. four-lt
    (bcd-lt (p % frames) (le_trans (mod-lt p frames-some) frames-few))
    (bcd-lt (p / frames % 60) (omega arith))
    (bcd-lt (p / frames / 60 % 60) (omega arith))
    (bcd-lt (p / frames / 60 / 60) (omega (arith, hour-lt frames p frames-some (ltb-true p day e))))
    i)
    (λ _. four-lt (omega arith) (omega arith) (omega arith) (omega arith) i)

pub bytes-four : (p : ℕ) → length (write_time p).bytes ≡ 4
unfolding write_time
bytes-four p = cond_both (ltb p day) _ _ (λ (r : Timed). length r.bytes ≡ 4) (λ _. refl) (λ _. refl)

-- ---- one frame on and one back

-- two steps that make a whole round
round : (n a b p : ℕ) → a + b ≡ n → p < n → ((p + a) % n + b) % n ≡ p
round n a b p e h = mod-add-mod (p + a) n b ∙ rw (add_assoc p a b, e, add-mod_right p n) (mod-eq_of_lt h)

day-some : 0 < day
day-some = omega arith

pub on-is : (p : ℕ) → p < day → frame_on p ≡ placed 0 ((p + 1) % day)
unfolding frame_on
on-is p h = rw (lt-ltb p day h)

pub back_is : (p : ℕ) → p < day → frame_back p ≡ placed 0 ((p + (day - 1)) % day)
unfolding frame_back
back_is p h = rw (lt-ltb p day h)

pub on-legal : (p : ℕ) → p < day → ((frame_on p).no ≡ 0) × ((frame_on p).position < day)
on-legal p h = rw (on-is p h) (refl, mod-lt (p + 1) day-some)

pub back-legal : (p : ℕ) → p < day → ((frame_back p).no ≡ 0) × ((frame_back p).position < day)
back-legal p h = rw (back_is p h) (refl, mod-lt (p + (day - 1)) day-some)

pub back_on : (p : ℕ) → p < day → frame_back (frame_on p).position ≡ placed 0 p
back_on p h =
    back_is _ (on-legal p h).1 ∙ rw (on-is p h) (ap (placed 0) (round day 1 (day - 1) p (omega arith) h))

pub on-back : (p : ℕ) → p < day → frame_on (frame_back p).position ≡ placed 0 p
on-back p h =
    on-is _ (back-legal p h).1 ∙ rw (back_is p h) (ap (placed 0) (round day (day - 1) 1 p (omega arith) h))
