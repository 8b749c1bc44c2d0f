-- `Deck::full` meets its contract: the outcome of the block, in the deck and in the output.
use Prim.Native.Nat.{ℕ, ◌≤◌}
use mathlib.Core.Path.{◌≡◌, refl, ◌∙◌}
use mathlib.Core.List.{List, [], ◌∷◌, ◌++◌, append-nil}
use lib.ListN.{length}
use Rattle.std.proofs.Common.{Result, Ok}
use Rattle.refusal.specs.declared.Refusal.{Refusal}
use Rattle.execute.specs.declared.Executed.{Executed}
use Rattle.execute.specs.Execute.{block_in, execute, done_by, executed, executed_out, shown, shown_out}
use Rattle.execute.specs.Replies.{Outcome}
use Rattle.deck.specs.declared.Deck.{Deck as Held}
use Rattle.deck.specs.Calls.{view}
use Rattle.deck.proofs.Held.{handed, in_parts}
use Rattle.deck.proofs.Output.{executed-shown, executed-output}
use Rattle.deck.proofs.Seen.{same-call}
use Rattle.deck.proofs.Deck.full.Goals as goal

-- what the block that the byte fills comes to
module _ (d : Held) (content : ℕ) (out : List ℕ) (held : 1 ≤ d.held) (room : 18 ≤ length out) where
  abbrev outcome : Outcome
  outcome = execute d.settings ((view d).block ++ content ∷ [])

  abbrev block : List ℕ
  block = block_in (handed d.held d.first content d.tail)

  done : (r : Result Executed Refusal) → done_by d.settings r ≡ executed d.settings block out → r ≡ Ok (shown outcome)
  done r e = executed-shown d.settings ((view d).block ++ content ∷ []) out room r (rw (in_parts d.held d.first content d.tail held) at e)

  put : (exit : List ℕ) → exit ≡ executed_out d.settings block out → exit ≡ shown_out outcome out
  put exit e = rw (in_parts d.held d.first content d.tail held) at e ∙ executed-output d.settings ((view d).block ++ content ∷ []) out room

pub unwrap-done-requires : goal.unwrap-done-requires
unwrap-done-requires c =
    let a = c.args in
    rw (done a.self a.content a.out.now c.requires.0 c.requires.1.1 c.execute.result c.execute.ensures.answer) refl

pub returns : goal.returns
returns c =
    let a = c.args in
    let e = c.execute.ensures in
    let v = c.closed.ensures in
    let k = done a.self a.content a.out.now c.requires.0 c.requires.1.1 c.execute.result e.answer in
    let s : c.unwrap-done.result ≡ shown (outcome a.self a.content a.out.now c.requires.0 c.requires.1.1) = cc in
    let o = put a.self a.content a.out.now c.requires.0 c.requires.1.1 _ e.output in
    record { seen-is = same-call refl v.1 (rw (v.0, s)) (rw s) refl (rw append-nil o); made = λ _. v.2 }
