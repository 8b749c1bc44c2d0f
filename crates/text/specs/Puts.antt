-- A text put into an output, and onto a page.
use Rattle.std.specs.Prelude.{ℕ, ◌+◌, ◌≤◌, ◌≡◌, List, ◌++◌, length, take, drop, Result, IsOk}
use Rattle.refusal.specs.declared.Refusal.{Refusal}
use Rattle.text.specs.declared.Page.{Page}

-- the text stands in the output from `at` to `end`, and nothing else there has changed
pub record Puts (before : List ℕ) (at : ℕ) (text after : List ℕ) (end : ℕ) : Type 0 where
  pub ends : end ≡ at + length text
  pub front : take end after ≡ take at before ++ text
  pub back : drop end after ≡ drop end before

-- a page that has room for the text gets it behind what it holds, and the call is taken
pub record Adds {A : Type 0} (before : Page) (text : List ℕ) (after : Page) (r : Result A Refusal) : Type 0 where
  pub fits : before.end + length text ≤ length before.out.now
      → IsOk r × Puts before.out.now before.end text after.out.now after.end
  pub same : after.out.ghost_name ≡ before.out.ghost_name
