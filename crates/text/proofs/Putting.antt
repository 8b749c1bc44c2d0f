-- Texts put into an output, one behind the other.
use Prim.Native.Nat.{ℕ}
use mathlib.Core.Path.{◌≡◌, refl, sym, ap, ◌∙◌}
use mathlib.Core.List.{List, [], ◌++◌, append-nil, append_assoc}
use native.Mathlib.Omega.{arith}
use lib.ListN.{length, take, drop, length-append, take-append-drop}
use lib.Seq.{drop-drop}
use Rattle.text.specs.Puts.{Puts}

pub none : (out : List ℕ) (at : ℕ) → Puts out at [] out at
none out at = record { ends = omega arith; front = sym (append-nil (take at out)); back = refl }

-- a text, and another behind it
pub joined : {a b c xs ys : List ℕ} {i j k : ℕ} → Puts a i xs b j → Puts b j ys c k → Puts a i (xs ++ ys) c k
joined {a} {b} {c} {xs} {ys} {i} {j} {k} p q =
    let n = length ys in
    record {
      ends = omega (arith, p.ends, q.ends, length-append xs ys);
      front = q.front ∙ ap (λ (front : List ℕ). front ++ ys) p.front ∙ append_assoc (take i a) xs ys;
      back = q.back ∙ rw q.ends (sym (drop-drop n j b) ∙ ap (drop n) p.back ∙ drop-drop n j a);
    }

-- a text at the front is all of it, and the rest as it was
pub whole : {a b xs : List ℕ} {k : ℕ} → Puts a 0 xs b k → b ≡ xs ++ drop (length xs) a
whole {a} {b} {xs} {k} p =
    let e : k ≡ length xs = omega (arith, p.ends) in
    sym (take-append-drop k b) ∙ rw (p.front, p.back, e)
