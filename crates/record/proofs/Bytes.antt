-- Entries as bytes: reading and writing undo each other, and the places of a record's bytes walk its list of entries.
use Prim.Native.Nat.{ℕ, zero, suc, ◌+◌, ◌*◌, ◌/◌, ◌%◌, ◌^◌, ◌≤◌, ◌<◌}
use mathlib.Core.Path.{◌≡◌, refl, sym, ap, ap₂, ◌∙◌}
use mathlib.Core.Bool.{true}
use mathlib.Core.List.{List, [], ◌∷◌, ◌++◌}
use native.Mathlib.Numerals.{add-one}
use native.Mathlib.Nat.{pow-suc, div-div-eq-div-mul}
use native.Mathlib.Omega.{arith}
use Rattle.std.specs.Prelude.{Ok}
use Rattle.std.specs.Simd.{first_chunks}
use Rattle.std.proofs.lemmas.List.{take-take, drop-take}
use Rattle.std.specs.Int.{w32, w64, bytes_low_first, to_le_bytes, from_le_bytes}
use borrow.Author.Tests.{lt-ltb, le-ltb, leb-true}
use lib.Dec.{eqb, leb}
use lib.ListN.{length, get_or, take, drop, length-drop, take-append-drop, get_or-eq_default}
use lib.Seq.{take_all, take_at, drop_at, drop-cons, drop-drop}
use Rattle.packed.specs.Numbers.{low_first, low_bytes}
use Rattle.packed.proofs.Bytes.{Bytes, behind}
use Rattle.packed.proofs.Numbers.{length-low, low-back, low-take, low_part, bytes_back}
use Rattle.record.specs.declared.Entry.{Entry}
use Rattle.record.proofs.Lists.{true_of, and_right}
use Rattle.record.specs.Entries.{entry}
use Rattle.record.specs.Bytes.{entry_of, bytes_of, first_entries, entries_of, is_record, no_entry, fetched_by, read_at}

-- ---- an entry and its bytes

-- an entry whose fields fit is read as it was written
pub entry-back : (e : Entry) → e.content < 2 ^ 32 → e.time < 2 ^ 48 → entry_of (bytes_of e) ≡ e
unfolding entry_of bytes_of
entry-back e h k =
    let c = low_bytes 4 e.content in
    let t = low_bytes 6 e.time in
    let n = length-low 4 e.content in
    let m = length-low 6 e.time in
    rw (take_at c t 4 n, drop_at c t 4 n, take_all 6 t (omega arith), low-back 4 e.content h, low-back 6 e.time k)

-- twelve bytes are written as they were read
pub twelve-back : (b : List ℕ) → Bytes b → length b ≡ 12 → bytes_of (entry_of b) ≡ b
unfolding entry_of bytes_of
twelve-back [] h l = absurd (omega arith)
twelve-back (k ∷ []) h l = absurd (omega arith)
twelve-back (k ∷ f ∷ b) h l =
    let n : length (drop 4 b) ≡ 6 = rw (length-drop 4 b) (omega arith) in
    rw (
      bytes_back 4 b h.1.1 (omega arith),
      bytes_back 6 (drop 4 b) (behind 4 b h.1.1) (omega arith),
      take_all 6 (drop 4 b) (omega arith),
      take-append-drop 4 b,
    )

-- ---- a record and its entries

length-first : (n : ℕ) (b : List ℕ) → length (first_entries n b) ≡ n
unfolding first_entries
length-first zero b = refl
length-first (suc n) b = ap suc (length-first n (drop 12 b))

first-at : (n i : ℕ) (b : List ℕ) → i < n → get_or (first_entries n b) i no_entry ≡ entry_of (drop (i * 12) b)
unfolding first_entries
first-at zero i b h = absurd (omega arith)
first-at (suc n) zero b h = refl
first-at (suc n) (suc i) b h =
    let e : suc i * 12 ≡ 12 + i * 12 = omega arith in
    rw (e, ← drop-drop (i * 12) 12 b) (first-at n i (drop 12 b) (omega arith))

-- an entry lies in its twelve bytes, which std cuts off
chunk_entry : (b : List ℕ) → entry_of (take 12 b) ≡ entry_of b
unfolding entry_of
chunk_entry [] = refl
chunk_entry (k ∷ []) = refl
chunk_entry (k ∷ f ∷ b) =
    rw (take-take 4 10 b (omega arith), drop-take 4 6 b, take-take 6 6 (drop 4 b) (omega arith))

chunk-at : (n i : ℕ) (b d : List ℕ) → i < n → entry_of (get_or (first_chunks 12 n b) i d) ≡ get_or (first_entries n b) i no_entry
unfolding first_entries
chunk-at zero i b d h = absurd (omega arith)
chunk-at (suc n) zero b d h = chunk_entry b
chunk-at (suc n) (suc i) b d h = chunk-at n i (drop 12 b) d (omega arith)

module _ (b : List ℕ) where
  pub length-entries : length (entries_of b) ≡ length b / 12
  unfolding entries_of
  length-entries = length-first (length b / 12) b

  module _ (i : ℕ) where
    pub entry_at : i < length b / 12 → get_or (entries_of b) i no_entry ≡ entry_of (drop (i * 12) b)
    unfolding entries_of
    entry_at h = first-at (length b / 12) i b h

    pub no-entry-at : length b / 12 ≤ i → get_or (entries_of b) i no_entry ≡ no_entry
    no-entry-at h = get_or-eq_default (entries_of b) no_entry (omega (arith, length-entries))

    -- what `read` gives at i
    pub read-in : i < length b / 12 → read_at b i ≡ record { no = 0; entry = get_or (entries_of b) i no_entry }
    read-in h = rw (length-entries, lt-ltb i (length b / 12) h)

    pub read_chunk : (x d : List ℕ) → i < length b / 12 → x ≡ get_or (first_chunks 12 (length b / 12) b) i d
        → fetched_by (Ok (entry_of x)) ≡ read_at b i
    unfolding entries_of
    read_chunk x d h e = sym (read-in h ∙ ap (λ (e : Entry). record { no = 0; entry = e }) (sym (ap entry_of e ∙ chunk-at (length b / 12) i b d h)))

    pub read_past : length b / 12 ≤ i → read_at b i ≡ record { no = 10; entry = no_entry }
    read_past h = rw (length-entries, le-ltb i (length b / 12) h, no-entry-at h)

    -- the entry that `read` gives at i is the first of those from i on
    pub entries_from : i < length b / 12 → drop i (entries_of b) ≡ get_or (entries_of b) i no_entry ∷ drop (i + 1) (entries_of b)
    entries_from h = rw add-one (drop-cons (entries_of b) i no_entry (omega (arith, length-entries)))

-- ---- bytes of numbers, as std has them

low_from : (i k n : ℕ) → bytes_low_first i k n ≡ low_bytes k (n / 256 ^ i)
unfolding low_bytes
low_from i zero n = refl
low_from zero (suc k) n = let e : n / 256 ^ 0 ≡ n = omega arith in rw e (ap (λ (l : List ℕ). n % 256 ∷ l) (low_from 1 k n))
low_from (suc i) (suc k) n =
    let e : n / 256 ^ suc i / 256 ≡ n / 256 ^ suc (suc i) = div-div-eq-div-mul n (256 ^ suc i) 256 ∙ rw (pow-suc 256 (suc i)) in
    rw e (ap (λ (l : List ℕ). n / 256 ^ suc i % 256 ∷ l) (low_from (suc (suc i)) k n))

four_bytes : (n : ℕ) → to_le_bytes w32 n ≡ low_bytes 4 n
four_bytes n = low_from 0 4 n ∙ ap (low_bytes 4) (omega arith)

eight_bytes : (n : ℕ) → to_le_bytes w64 n ≡ low_bytes 8 n
eight_bytes n = low_from 0 8 n ∙ ap (low_bytes 8) (omega arith)

-- the content's four bytes and the lowest six of the time's
pub put_bytes : (e : Entry) → e.kind ∷ e.flags ∷ to_le_bytes w32 e.content ++ take 6 (to_le_bytes w64 e.time) ≡ bytes_of e
unfolding bytes_of
put_bytes e =
    ap₂ (λ (c t : List ℕ). e.kind ∷ e.flags ∷ c ++ t) (four_bytes e.content)
    (ap (take 6) (eight_bytes e.time) ∙ low-take 6 8 e.time (omega arith))

four_back : (a b c d : ℕ) → from_le_bytes w32 (a ∷ b ∷ c ∷ d ∷ []) ≡ low_first (a ∷ b ∷ c ∷ d ∷ [])
four_back a b c d = omega arith

six_back : (a b c d e f : ℕ)
    → from_le_bytes w64 (a ∷ b ∷ c ∷ d ∷ e ∷ f ∷ 0 ∷ 0 ∷ []) ≡ low_first (a ∷ b ∷ c ∷ d ∷ e ∷ f ∷ [])
six_back a b c d e f = omega arith

-- an entry's numbers, each from its bytes one by one
pub by_byte : (b : List ℕ) → (let at : ℕ → ℕ = λ i. get_or b i 0 in
    entry_of b ≡ entry (at 0) (at 1) (from_le_bytes w32 (at 2 ∷ at 3 ∷ at 4 ∷ at 5 ∷ []))
    (from_le_bytes w64 (at 6 ∷ at 7 ∷ at 8 ∷ at 9 ∷ at 10 ∷ at 11 ∷ 0 ∷ 0 ∷ [])))
unfolding entry_of
by_byte b =
    ap₂ (entry (get_or b 0 0) (get_or b 1 0))
    (low_part 4 2 b ∙ sym (four_back _ _ _ _))
    (low_part 6 6 b ∙ sym (six_back _ _ _ _ _ _))

-- ---- the length of a record

pub record-short : (size : ℕ) → is_record size ≡ true → size ≤ 65532
unfolding is_record
record-short size e = leb-true size 65532 (true_of _ (and_right (eqb (size % 12) 0) (leb size 65532) (rw e tt)))
