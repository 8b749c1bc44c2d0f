-- A call that writes, and the text that it puts.
use Rattle.std.specs.Prelude.{Result, Ok, Err, IsOk, is_ok}
use Prim.Native.Nat.{ℕ, ◌+◌, ◌≤◌}
use mathlib.Core.Path.{◌≡◌, refl, sym, ap, ◌∙◌}
use mathlib.Core.Bool.{true, false}
use mathlib.Core.List.{List, [], ◌++◌, append_assoc}
use native.Mathlib.Omega.{arith}
use borrow.Author.Tests.{le-ltb, lt-ltb}
use lib.Dec.{ltb}
use lib.ListN.{length, take, drop, length-append, length-drop, length-take, take-append-drop}
use lib.Seq.{length-take-le, take_at, drop_at}
use Rattle.std.proofs.Common.{inl, inr}
use Rattle.std.proofs.lemmas.Bool.{cases_lt}
use Rattle.refusal.specs.declared.Refusal.{Refusal}
use Rattle.refusal.specs.declared.Refusal.TheVariants.{Room}
use Rattle.refusal.proofs.Numbers.{refuses}
use Rattle.text.specs.declared.Page.{Page}
use Rattle.text.specs.Puts.{Puts, Adds}
use Rattle.text.specs.Writes.{Writes, Put, put_in, put_out, put_by}
use Rattle.text.proofs.Putting.{none, joined}

abbrev pub Fits : Page → List ℕ → Type 0
Fits p text = p.end + length text ≤ length p.out.now

-- ---- the definitions, where the text fits and where it does not

module _ (out : List ℕ) (at : ℕ) (text : List ℕ) where
  put-fits : at + length text ≤ length out → put_in out at text ≡ record { no = 0; end = at + length text }
  unfolding put_in
  put-fits h = rw (le-ltb _ _ h)

  output-fits : at + length text ≤ length out → put_out out at text ≡ (take at out ++ text) ++ drop (at + length text) out
  unfolding put_out
  output-fits h = rw (le-ltb _ _ h, append_assoc)

-- a call that was taken
taken : (r : Result Unit Refusal) (end n : ℕ) → put_by r end ≡ record { no = 0; end = n } → IsOk r × (end ≡ n)
taken (Ok tt) end n e = (refl, ap (λ (p : Put). p.end) e)
taken (Err x) end n e = absurd (refuses x (ap (λ (p : Put). p.no) e))

pub adds : {a : Page} {text : List ℕ} {b : Page} {r : Result Unit Refusal} → Writes a text b r → Adds a text b r
adds {a} {text} {b} {r} w =
    record {
      fits = λ h.
          let out = a.out.now in
          let e = taken r b.end _ (w.answer ∙ put-fits out a.end text h) in
          let n : length (take a.end out ++ text) ≡ a.end + length text =
          rw (length-append, length-take-le a.end out (omega arith)) in (
            e.0,
            rw (w.output, output-fits out a.end text h, e.1)
                (record { ends = refl; front = take_at (take a.end out ++ text) _ _ n; back = drop_at (take a.end out ++ text) _ _ n }),
          );
      same = w.same;
    }

-- ---- what the test of the room tells

module _ {a : Page} {text : List ℕ} (len : ℕ) where
  pub refused : {e : Refusal} → (Fits a text → a.end + len ≤ length a.out.now) → e ≡ Room
      → (a.end + len ≤ length a.out.now → false ≡ true) → Writes a text a (Err e)
  unfolding put_in put_out
  refused {e} f is never =
      let short : ltb (length a.out.now) (a.end + length text) ≡ true =
      elim (cases_lt (length a.out.now) (a.end + length text)) [ inl h ↦ lt-ltb _ _ h | inr h ↦ let e = never (f h) in cc ] in
      record { answer = rw (is, short); output = rw short; place = λ _. refl; same = refl }

-- ---- one text behind another

pub nothing : (a : Page) → Adds a [] a (Ok (tt {0}))
nothing a = record { fits = λ _. (refl, none a.out.now a.end); same = refl }

long : {before : List ℕ} {at : ℕ} {text after : List ℕ} {end : ℕ} → Puts before at text after end → end ≤ length before
    → length after ≡ length before
long {before} {at} {text} {after} {end} p room =
    omega (arith, ap length p.front, ap length p.back, length-append (take at before) text, length-take at before, length-take end after, length-drop end after, length-drop end before, p.ends)

module _ {A : Type 0} {a b : Page} {xs : List ℕ} {r : Result A Refusal} (w : Adds a xs b r) where
  -- a page that has room for both has it for the first
  first : (ys : List ℕ) → Fits a (xs ++ ys) → Fits a xs
  first ys h = omega (arith, length-append xs ys)

  pub behind : {B : Type 0} {ys : List ℕ} {c : Page} {s : Result B Refusal} → Adds b ys c s → Adds a (xs ++ ys) c s
  behind {B} {ys} {c} {s} v =
      record {
        fits = λ h.
            let p = (w.fits (first ys h)).1 in
            let q = v.fits (omega (arith, p.ends, length-append xs ys, long p (omega (arith, p.ends, first ys h)))) in
            (q.0, joined p q.1);
        same = v.same ∙ w.same;
      }

  -- where the first was refused, no room was there for both
  pub stops : {B : Type 0} {e : Refusal} → r ≡ Err e → (ys : List ℕ) (s : Result B Refusal) → Adds a (xs ++ ys) b s
  stops is ys s = record { fits = λ h. let ok = (w.fits (first ys h)).0 in let err = ap is_ok is in absurd (cc); same = w.same }

module _ {a b : Page} {xs : List ℕ} where
  pub written : {r : Result (Unit {0}) Refusal} → Adds a xs b r → Fits a xs → Writes a xs b r
  unfolding put_in put_out
  written {r = Ok tt} w h =
      let p = w.fits h in
      let q = p.1 in
      record {
        answer = rw (put-fits a.out.now a.end xs h, q.ends);
        output = sym (take-append-drop b.end b.out.now) ∙ rw (q.front, q.back, q.ends, output-fits a.out.now a.end xs h);
        place = λ err. absurd (cc);
        same = w.same;
      }
  written {r = Err e} w h = let ok = (w.fits h).0 in absurd (cc)
