-- Records as lists of entries: of two pieces, and read and written as a whole.
use Prim.Native.Nat.{ℕ, zero, suc, ◌*◌, ◌/◌, ◌≤◌}
use mathlib.Core.Path.{◌≡◌, refl, sym, ap, ◌∙◌}
use mathlib.Core.List.{List, [], ◌∷◌, ◌++◌, append-nil, append_assoc}
use native.Mathlib.Omega.{arith}
use lib.ListN.{length, take, drop, length-append, length-drop, take-append-drop}
use lib.Seq.{take_at, drop_at, take-append-le, drop-append-le, length-take-le}
use Rattle.packed.specs.Numbers.{low_bytes}
use Rattle.packed.proofs.Bytes.{Bytes, front, behind, joined}
use Rattle.packed.proofs.Numbers.{length-low, low-are-bytes}
use Rattle.record.specs.declared.Entry.{Entry}
use Rattle.record.specs.Entries.{All}
use Rattle.record.specs.Bytes.{entry_of, bytes_of, InBytes, first_entries, entries_of, record_of}
use Rattle.record.proofs.Bytes.{entry-back, twelve-back, length-entries}

-- ---- the first entry

-- it is read from its 12 bytes
pub entry-front : (a b : List ℕ) → 12 ≤ length a → entry_of (a ++ b) ≡ entry_of a
unfolding entry_of
entry-front [] b h = absurd (omega arith)
entry-front (x ∷ []) b h = absurd (omega arith)
entry-front (x ∷ y ∷ a) b h =
    let m : 4 ≤ length a = omega arith in
    rw (take-append-le 4 a b m, drop-append-le 4 a b m, take-append-le 6 (drop 4 a) b (omega (arith, length-drop 4 a)))

pub entries-first : (a : List ℕ) → 12 ≤ length a → entries_of a ≡ entry_of a ∷ entries_of (drop 12 a)
unfolding entries_of first_entries
entries-first a h =
    let n : length a / 12 ≡ suc (length (drop 12 a) / 12) = rw (length-drop 12 a) (omega arith) in
    rw n

entries_none : (a : List ℕ) → length a ≡ 0 → entries_of a ≡ []
unfolding entries_of first_entries
entries_none [] h = refl
entries_none (x ∷ a) h = absurd (omega arith)

-- ---- two pieces

-- whole entries, and others behind them
pub entries-append : (n : ℕ) (a b : List ℕ) → length a ≡ 12 * n → entries_of (a ++ b) ≡ entries_of a ++ entries_of b
entries-append zero [] b h = rw (entries_none [] refl)
entries-append zero (x ∷ a) b h = absurd (omega arith)
entries-append (suc n) a b h =
    let k : 12 ≤ length a = omega arith in
    let m : length (drop 12 a) ≡ 12 * n = omega (arith, length-drop 12 a) in
    rw (
      entries-first (a ++ b) (omega (arith, length-append a b)),
      entries-first a k,
      entry-front a b k,
      drop-append-le 12 a b k,
      entries-append n (drop 12 a) b m,
    )

-- the first of them
pub entries-take : (k : ℕ) (a : List ℕ) → 12 * k ≤ length a → entries_of (take (12 * k) a) ≡ take k (entries_of a)
entries-take k a h =
    let p = take (12 * k) a in
    let q = drop (12 * k) a in
    let n : length p ≡ 12 * k = length-take-le (12 * k) a h in
    let e : entries_of a ≡ entries_of p ++ entries_of q = ap entries_of (sym (take-append-drop (12 * k) a)) ∙ entries-append k p q n in
    rw (e, take_at (entries_of p) (entries_of q) k (omega (arith, length-entries p)))

-- ---- read and written

pub length-bytes : (e : Entry) → length (bytes_of e) ≡ 12
unfolding bytes_of
length-bytes e =
    omega (arith, length-append (low_bytes 4 e.content) (low_bytes 6 e.time), length-low 4 e.content, length-low 6 e.time)

pub length-record : (es : List Entry) → length (record_of es) ≡ 12 * length es
unfolding record_of
length-record [] = refl
length-record (e ∷ es) = rw (length-append, length-bytes e, length-record es) (omega arith)

pub record-none : record_of [] ≡ []
unfolding record_of
record-none = refl

pub record-one : (e : Entry) → record_of (e ∷ []) ≡ bytes_of e
unfolding record_of
record-one e = append-nil (bytes_of e)

pub record-append : (a b : List Entry) → record_of (a ++ b) ≡ record_of a ++ record_of b
unfolding record_of
record-append [] b = refl
record-append (e ∷ a) b = rw (record-append a b, append_assoc)

-- an entry written before others
entry_more : (e : Entry) (b : List ℕ) → InBytes e → entries_of (bytes_of e ++ b) ≡ e ∷ entries_of b
entry_more e b h =
    let n = length-bytes e in
    rw (
      entries-first (bytes_of e ++ b) (omega (arith, length-append (bytes_of e) b)),
      entry-front (bytes_of e) b (omega arith),
      entry-back e h.content h.time,
      drop_at (bytes_of e) b 12 n,
    )

-- a record written from entries reads back
pub record-back : (es : List Entry) → All InBytes es → entries_of (record_of es) ≡ es
unfolding record_of
record-back [] h = entries_none [] refl
record-back (e ∷ es) h = entry_more e (record_of es) h.0 ∙ ap (λ (l : List Entry). e ∷ l) (record-back es h.1)

-- and is made of bytes
pub record-bytes : (es : List Entry) → All InBytes es → Bytes (record_of es)
unfolding record_of bytes_of
record-bytes [] h = tt
record-bytes (e ∷ es) h =
    joined (bytes_of e) (record_of es)
    (h.0.kind, (h.0.flags, joined (low_bytes 4 e.content) (low_bytes 6 e.time) (low-are-bytes 4 e.content) (low-are-bytes 6 e.time)))
    (record-bytes es h.1)

-- the bytes of a record of whole entries are those of its entries
pub entries-back : (n : ℕ) (a : List ℕ) → Bytes a → length a ≡ 12 * n → record_of (entries_of a) ≡ a
unfolding record_of
entries-back zero a h l = rw (entries_none a l) (sym (nothing a l))
  where
    nothing : (a : List ℕ) → length a ≡ 0 → a ≡ []
    nothing [] h = refl
    nothing (x ∷ a) h = absurd (omega arith)
entries-back (suc n) a h l =
    let p = take 12 a in
    let q = drop 12 a in
    let m : length p ≡ 12 = length-take-le 12 a (omega arith) in
    let e : entry_of a ≡ entry_of p = ap entry_of (sym (take-append-drop 12 a)) ∙ entry-front p q (omega arith) in
    rw (
      entries-first a (omega arith),
      e,
      twelve-back p (front 12 a h) m,
      entries-back n q (behind 12 a h) (omega (arith, length-drop 12 a)),
      take-append-drop 12 a,
    )
