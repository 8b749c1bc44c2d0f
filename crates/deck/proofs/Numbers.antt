-- Refused calls and taken ones.
use Prim.Native.Nat.{ℕ, suc, ◌≤◌, ◌<◌, ◌^◌}
use mathlib.Core.Bool.{Bool, true, false, cond}
use mathlib.Core.Path.{◌≡◌, refl, sym, ap, ◌∙◌}
use Rattle.std.proofs.Common.{Result, Ok, Err}
use Rattle.std.specs.Result.{IsErrAnd}
use mathlib.Core.List.{List}
use native.Mathlib.Omega.{arith}
use borrow.Author.Tests.{le-ltb, lt-leb, ne_eqb, ltb-false}
use lib.Dec.{eqb}
use lib.ListN.{length}
use Rattle.timecode.specs.Time.{day}
use Rattle.refusal.specs.declared.Refusal.{Refusal}
use Rattle.refusal.specs.Numbers.{number_of}
use Rattle.refusal.proofs.Numbers.{refuses as above-zero}
use Rattle.deck.specs.declared.Answer.{Answer as Answered}
use Rattle.deck.specs.declared.Deck.{Deck as Held}
use Rattle.deck.specs.Line.{Event, Deck, time_of, answers}
use Rattle.deck.specs.Calls.{Answers, flags_fit, refusal, number, view, given, returned, taken_call, refused_call, call, Admitted, Comes}
use Rattle.deck.specs.Joins.{with_clock}
use Rattle.deck.proofs.Made.{made_so}

pub passed : (n m : ℕ) (a : Bool) → cond a (suc n) m ≡ 0 → (a ≡ false) × (m ≡ 0)
passed n m true e = (cc, cc)
passed n m false e = (refl, e)

module _ (d : Held) (e : Event) (entry : List ℕ) where
  -- a call that is refused
  pub refuses : (r : Result Answered Refusal) (why : Refusal) → IsErrAnd r (λ x. x ≡ why)
      → number_of why ≡ number (length entry) d.clock e → Answers d e entry (returned d r) entry
  unfolding call
  refuses (Ok r) why p f = absurd p
  refuses (Err x) why p f =
      let z : number_of x ≡ number (length entry) d.clock e = ap number_of p ∙ f in
      record { seen-is = rw (← z, ne_eqb (number_of x) 0 (above-zero x)) refl; same = λ _. refl; made = λ m. m }

  -- one that is taken
  module _ (z : 0 ≡ number (length entry) d.clock e) where
    -- has a time in range, and room
    pub admitted : Admitted (time_of e) entry
    unfolding refusal
    admitted =
        let p = passed 0 _ _ (sym z) in
        let q = passed 1 _ _ p.1 in
        (omega (arith, ltb-false 281_474_976_710_655 (time_of e) q.0), ltb-false (length entry) 18 p.0)

    pub takes : (r : Answered) (exit : List ℕ) → Comes (with_clock (time_of e) d) (answers (view d) e) entry r exit
        → Answers d e entry (given r) exit
    unfolding call
    takes r exit c =
        record {
          seen-is = rw (← z) c.seen-is;
          same = λ o. absurd (o refl);
          made = λ m. c.made (made_so d (with_clock (time_of e) d) refl refl refl m);
        }

-- ---- for those who call

-- no test refuses what is within every limit
pub unrefused : (room clock time flags place : ℕ) → 18 ≤ room → clock ≤ time → time < 2 ^ 48 → flags_fit flags ≡ true → place < day
    → refusal room clock time flags place ≡ 0
unfolding refusal
unrefused room clock time flags place r c t f p =
    simp (le-ltb room 18 r, le-ltb 281_474_976_710_655 time (omega arith), le-ltb time clock c, f, lt-leb day place p)

-- a call, by whether its number is 0
pub call-is : (clock : ℕ) (d : Deck) (e : Event) (out : List ℕ) (b : Bool) → eqb (number (length out) clock e) 0 ≡ b
    → call clock d e out
    ≡ cond b (taken_call (time_of e) (answers d e) out) (refused_call (number (length out) clock e) clock d out)
unfolding call
call-is clock d e out b p = rw p
