-- The place after a place, and what is taken there.
use Prim.Native.Nat.{ℕ, ◌+◌, ◌/◌, ◌≤◌, ◌<◌}
use mathlib.Core.Path.{◌≡◌, refl, sym, ap, ap₂, ◌∙◌}
use mathlib.Core.Bool.{Bool, true, false, false≢true}
use mathlib.Core.List.{List, [], ◌∷◌}
use borrow.Author.Tests.{lt-ltb, le-ltb, ltb-true, ltb-false}
use native.Mathlib.Omega.{arith}
use lib.ListN.{length, get_or, drop_of_length-le}
use Rattle.std.specs.Prelude.{Option, Some, None, Result, Ok, Err, cond, unwrap_or, is_some, ok_or, is_ok}
use Rattle.std.specs.Result.{result_ok}
use Rattle.refusal.specs.declared.Refusal.{Refusal}
use Rattle.refusal.specs.declared.Refusal.TheVariants.{Record}
use Rattle.refusal.specs.Numbers.{number_of}
use Rattle.refusal.proofs.Numbers.{refuses}
use Rattle.record.specs.declared.Entry.{Entry}
use Rattle.record.specs.Bytes.{Fetched, entries_of, no_entry, fetched_by, read_at}
use Rattle.record.proofs.Bytes.{length-entries, read-in, read_past, entries_from}
use Rattle.cursor.specs.declared.Cursor.{Cursor}
use Rattle.cursor.specs.Cursors.{Taken, next_place, standing, entries_left, Moves, taken_by, taken_at}

-- what is read, and a place
abbrev placed : Fetched → ℕ → Taken
placed r place = record { no = r.no; entry = r.entry; place = place }

-- by the number that is read
found : (x : Bool) → ◌≡◌ {A = ℕ} 0 (cond x 0 10) → x ≡ true
found true p = refl
found false p = absurd (omega arith)

not_found : (e : Refusal) (x : Bool) → number_of e ≡ cond x 0 10 → x ≡ false
not_found e true p = absurd (refuses e p)
not_found e false p = refl

module _ (bytes : List ℕ) (i : ℕ) where
  pub moves : i < length bytes / 12 → next_place bytes i ≡ i + 1
  unfolding next_place
  moves h = rw (length-entries, lt-ltb _ _ h)

  pub stays : length bytes / 12 ≤ i → next_place bytes i ≡ i
  unfolding next_place
  stays h = rw (length-entries, le-ltb _ _ h)

  pub taken_in : i < length bytes / 12
      → taken_at bytes i ≡ record { no = 0; entry = get_or (entries_of bytes) i no_entry; place = i + 1 }
  taken_in h = ap₂ placed (read-in bytes i h) (moves h)

  pub taken-past : length bytes / 12 ≤ i → taken_at bytes i ≡ record { no = 10; entry = no_entry; place = i }
  taken-past h = ap₂ placed (read_past bytes i h) (stays h)

  -- an entry is read below the number of entries, and nowhere else
  pub inside : (e : Entry) → fetched_by (Ok e) ≡ read_at bytes i → i < length bytes / 12
  inside e r =
      let h = ltb-true i (length (entries_of bytes)) (found _ (ap (λ (f : Fetched). f.no) r)) in
      rw (length-entries bytes) at h

  pub outside : (e : Refusal) → fetched_by (Err e) ≡ read_at bytes i → length bytes / 12 ≤ i
  outside e r =
      let h = ltb-false i (length (entries_of bytes)) (not_found e _ (ap (λ (f : Fetched). f.no) r)) in
      rw (length-entries bytes) at h

abbrev refusal_in : Result Entry Refusal → Refusal
refusal_in (Ok x) = Record
refusal_in (Err e) = e

none-some : {e : Entry} → None ≡ Some e → ⊥
none-some {e} p = false≢true (ap is_some p)

-- ---- what `next` gives

module _ (c : Cursor) where
  -- the entry that is read comes, and the cursor moves on
  pub on : (r : Result Entry Refusal) {e : Entry} → fetched_by r ≡ read_at c.bytes.now c.place → result_ok r ≡ Some e
      → (c.place < length c.bytes.now / 12) × Moves c (Some e) (standing c.bytes (c.place + 1))
  on (Ok x) {e} f p =
      let k : x ≡ e = ap (λ (o : Option Entry). unwrap_or o e) p in
      let f' : fetched_by (Ok e) ≡ read_at c.bytes.now c.place = rw k at f in
      let h = inside c.bytes.now c.place e f' in
      (h, record { gives = f'; moves = rw (moves c.bytes.now c.place h) })
  on (Err x) f p = absurd (none-some p)

  -- none comes, and the cursor stays
  pub at_end : (r : Result Entry Refusal) → fetched_by r ≡ read_at c.bytes.now c.place → result_ok r ≡ None → Moves c None c
  at_end (Ok x) f p = absurd (none-some (sym p))
  at_end (Err x) f p =
      let h = outside c.bytes.now c.place x f in
      record { gives = sym (read_past _ _ h); moves = rw (stays c.bytes.now c.place h) }

  module _ {d : Cursor} where
    -- the entry that comes is the first of those that are left
    pub comes : {e : Entry} → Moves c (Some e) d → entries_left c ≡ e ∷ entries_left d
    comes {e} m =
        let h = inside c.bytes.now c.place e m.gives in
        let k : e ≡ get_or (entries_of c.bytes.now) c.place no_entry =
        ap (λ (f : Fetched). f.entry) (m.gives ∙ read-in _ _ h) in
        rw (m.moves, moves c.bytes.now c.place h, k) (entries_from c.bytes.now c.place h)

    pub ends : Moves c None d → entries_left c ≡ []
    ends m =
        let h = outside c.bytes.now c.place Record m.gives in
        drop_of_length-le (entries_of c.bytes.now) (omega (arith, length-entries c.bytes.now))

    -- where none comes, none is taken
    pub none_taken : (r : Option Entry) {e : Refusal} → Moves c r d → ok_or r Record ≡ Err e → taken_by c.place (Err e) ≡ taken_at c.bytes.now c.place
    none_taken (Some x) m p = absurd (false≢true (sym (ap is_ok p)))
    none_taken None {e} m p =
        let k : Record ≡ e = ap refusal_in p in
        let h = outside c.bytes.now c.place Record m.gives in
        rw (← k) (sym (taken-past c.bytes.now c.place h))
