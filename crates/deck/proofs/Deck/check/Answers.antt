-- `Deck::check` meets its contract: the tests of the code are those of the definition, in its order.
use mathlib.Core.Bool.{cond, not}
use Prim.Native.Nat.{ℕ, ◌≤◌}
use mathlib.Core.Path.{◌≡◌, sym, ◌∙◌}
use borrow.Author.Tests.{lt-ltb, le-ltb, le-leb, lt-leb}
use lib.Dec.{leb}
use Rattle.deck.specs.Calls.{flags_fit, refusal}
use Rattle.timecode.specs.Time.{day}
use Rattle.deck.proofs.Deck.check.Goals as goal

-- past the tests of room and time
past : (room clock time flags place : ℕ) → 18 ≤ room → time ≤ 281_474_976_710_655 → clock ≤ time
    → refusal room clock time flags place ≡ cond (not (flags_fit flags)) 4 (cond (leb day place) 5 0)
unfolding refusal
past room clock time flags place r l b = simp (le-ltb _ _ r, le-ltb _ _ l, le-ltb _ _ b)

pub returns-then-room-lt18 : goal.returns-then-room-lt18
unfolding refusal
returns-then-room-lt18 c = simp (lt-ltb _ _ c.if-room-lt18.true)

pub returns-then-time-gt-LAST_TIME : goal.returns-then-time-gt-LAST_TIME
unfolding refusal
returns-then-time-gt-LAST_TIME c = simp (le-ltb _ _ c.if-room-lt18.false, lt-ltb _ _ c.if-time-gt-LAST_TIME.true)

pub returns-then-time-self : goal.returns-then-time-self
unfolding refusal
returns-then-time-self c =
    simp (le-ltb _ _ c.if-room-lt18.false, le-ltb _ _ c.if-time-gt-LAST_TIME.false, lt-ltb _ _ c.if-time-self.true)

pub returns-then-not-flags_fit : goal.returns-then-not-flags_fit
returns-then-not-flags_fit c =
    let left = past c.args.room c.args.self.clock c.args.time c.args.flags c.args.place c.if-room-lt18.false c.if-time-gt-LAST_TIME.false c.if-time-self.false in
    rw (left, ← c.flags_fit.ensures, c.if-not-flags_fit.true)

pub returns-then-place-ge-DAY : goal.returns-then-place-ge-DAY
returns-then-place-ge-DAY c =
    let left = past c.args.room c.args.self.clock c.args.time c.args.flags c.args.place c.if-room-lt18.false c.if-time-gt-LAST_TIME.false c.if-time-self.false in
    let fits = sym c.flags_fit.ensures ∙ c.if-not-flags_fit.false in
    rw (left, fits, le-leb day _ c.if-place-ge-DAY.true)

pub returns : goal.returns
returns c =
    let left = past c.args.room c.args.self.clock c.args.time c.args.flags c.args.place c.if-room-lt18.false c.if-time-gt-LAST_TIME.false c.if-time-self.false in
    let fits = sym c.flags_fit.ensures ∙ c.if-not-flags_fit.false in
    rw (left, fits, lt-leb day _ c.if-place-ge-DAY.false)
