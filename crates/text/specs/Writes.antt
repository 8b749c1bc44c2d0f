-- What a call returns and writes that puts a text on a page, for any output and any place in it.
use Rattle.std.specs.Prelude.{ℕ, ◌+◌, ◌≡◌, Bool, cond, List, ◌++◌, ltb, length, take, drop, Result, Ok, Err, IsErr}
use Rattle.refusal.specs.declared.Refusal.{Refusal}
use Rattle.refusal.specs.Numbers.{number_of}
use Rattle.text.specs.declared.Page.{Page}

-- 0 and where the text ends, or the number that refuses the output
pub record Put : Type 0 where
  pub no : ℕ
  pub end : ℕ

-- 1 ROOM: "lent output too short", for this text from `at` on
abbrev pub too_short : (out : List ℕ) (at : ℕ) (text : List ℕ) → Bool
too_short out at text = ltb (length out) (at + length text)

-- the number, and where the text ends, 0 for a refusal
unfoldable pub put_in : (out : List ℕ) (at : ℕ) (text : List ℕ) → Put
put_in out at text =
    cond (too_short out at text) (record { no = 1; end = 0 }) (record { no = 0; end = at + length text })

-- the text stands from `at` on, and all else is as it was; a refused call is to "change nothing"
unfoldable pub put_out : (out : List ℕ) (at : ℕ) (text : List ℕ) → List ℕ
put_out out at text = cond (too_short out at text) out (take at out ++ (text ++ drop (at + length text) out))

-- an answer, and the place that the page then has, as number and end
abbrev pub put_by : Result Unit Refusal → ℕ → Put
put_by (Ok _) end = record { no = 0; end = end }
put_by (Err e) end = record { no = number_of e; end = 0 }

-- the whole call: the page before it, the text, the page after it and the answer. The page keeps its output, and where it is
-- refused its place.
pub record Writes (before : Page) (text : List ℕ) (after : Page) (r : Result Unit Refusal) : Type 0 where
  pub answer : put_by r after.end ≡ put_in before.out.now before.end text
  pub output : after.out.now ≡ put_out before.out.now before.end text
  pub place : IsErr r → after.end ≡ before.end
  pub same : after.out.ghost_name ≡ before.out.ghost_name
