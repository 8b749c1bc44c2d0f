-- What the replies leave in an output with room for them, and a reply behind another.
use Prim.Native.Nat.{ℕ, ◌+◌, ◌-◌, ◌≤◌}
use mathlib.Core.Path.{◌≡◌, refl, ap, ◌∙◌}
use Rattle.std.proofs.Common.{Result, Ok, Err}
use mathlib.Core.List.{List, [], ◌++◌, append-nil, ◌∷◌}
use native.Mathlib.Omega.{arith}
use borrow.Author.Tests.{le-ltb}
use borrow.Rule.Slice.PartMut.{mid_of, put_mid}
use lib.ListN.{length, take, drop, length-drop, drop_of_length-le}
use lib.Seq.{take_all, take_at, drop_at, drop-drop}
use Rattle.refusal.specs.declared.Refusal.{Refusal}
use Rattle.refusal.specs.Written.{written_by}
use Rattle.refusal.proofs.Numbers.{refuses}
use Rattle.refusal.proofs.Written.{taken}
use Rattle.block.proofs.Writing.{fits-writes, answer-written, output-written}
use Rattle.block.specs.Write.{write_no, written, written_out}
use Rattle.settings.specs.declared.Settings.{Settings}
use Rattle.execute.specs.declared.Executed.{Executed}
use Rattle.execute.specs.Execute.{execute, Done, done_by, executed, executed_out, shown, shown_out}
use Rattle.execute.specs.Replies.{nak}

-- a NAK
module _ (why : ℕ) (out : List ℕ) (room : 4 ≤ length out) where
  fits : write_no 0x1 (why ∷ []) out ≡ 0
  fits = fits-writes 0x1 (why ∷ []) out (record { small = omega arith; few = omega arith; room = omega arith })

  pub nak-answer : (r : Result ℕ Refusal) → written_by r ≡ written 0x1 (why ∷ []) out → r ≡ Ok 4
  nak-answer r e = taken r 4 (e ∙ answer-written 0x1 (why ∷ []) out 4 refl fits)

  pub nak-output : written_out 0x1 0x12 (why ∷ []) out ≡ nak why ++ drop 4 out
  nak-output = output-written 0x1 (why ∷ []) out 0x12 fits

-- the reply to a full block
module _ (s : Settings) (block out : List ℕ) (room : 18 ≤ length out) where
  pub executed-shown : (r : Result Executed Refusal) → done_by s r ≡ executed s block out → r ≡ Ok (shown (execute s block))
  unfolding executed
  executed-shown (Ok d) e = ap (λ (d : Done). Ok (record { settings = d.settings; len = d.len; quiets = d.quiets })) (rw (le-ltb (length out) 18 room) at e)
  executed-shown (Err x) e = absurd (refuses x (ap (λ (d : Done). d.no) (rw (le-ltb (length out) 18 room) at e)))

  pub executed-output : executed_out s block out ≡ shown_out (execute s block) out
  unfolding executed_out
  executed-output = rw (le-ltb (length out) 18 room)

-- `p` is at the front of `xs`, the part behind it is handed out, and comes back with `q` at its own front
pub behind : (p q out xs ys : List ℕ) (a b : ℕ) → length p ≡ a → xs ≡ p ++ drop a out
    → ys ≡ q ++ drop b (mid_of a (length xs - a) xs)
    → put_mid a (length xs - a) xs ys ≡ p ++ (q ++ drop (a + b) out)
behind p q out xs ys a b hp hx hy =
    let t : take a xs ≡ p = rw hx (take_at p (drop a out) a hp) in
    let d : drop a xs ≡ drop a out = rw hx (drop_at p (drop a out) a hp) in
    let n : drop (length xs - a) (drop a xs) ≡ [] =
    drop_of_length-le (drop a xs) {i = length xs - a} (omega (arith, length-drop a xs)) in
    let w : take (length xs - a) (drop a xs) ≡ drop a xs =
    take_all (length xs - a) (drop a xs) (omega (arith, length-drop a xs)) in
    rw (n, t, hy, append-nil, w, d, drop-drop)
