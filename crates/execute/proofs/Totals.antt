-- The sum of the latest bytes, one by one and in either order.
use Rattle.std.proofs.Common.{◌≡◌, ℕ, zero, suc, ◌+◌, ◌%◌, List, [], ◌∷◌, ◌++◌, map, get_or, take, refl, sym, ap, ◌∙◌, add-one, zero-add, arith}
use Rattle.std.specs.List.{range_with_len}
use Rattle.std.proofs.lemmas.List.{map_push}
use Rattle.std.proofs.lemmas.List.FromFn.{map-range_with_len_more}
use Rattle.packed.specs.declared.Tail.{Tail}
use Rattle.packed.specs.Tail.{recent, backward, latest}
use Rattle.block.specs.Block.{sum, checksum}
use Rattle.block.proofs.Sums.{sum-append}

-- a byte more; past the end there is none, and it counts 0
sum-next : (l : List ℕ) (i : ℕ) → sum (take (suc i) l) ≡ sum (take i l) + get_or l i 0
unfolding sum
sum-next [] zero = refl
sum-next [] (suc i) = refl
sum-next (b ∷ l) zero = omega arith
sum-next (b ∷ l) (suc i) = omega (arith, sum-next l i)

-- the byte at a place, and the bytes at places that are added up one after the other
abbrev pub at : List ℕ → ℕ → ℕ
at l i = get_or l i 0

pub checksum_more : (l places : List ℕ) (i : ℕ)
    → checksum (map (at l) (places ++ i ∷ [])) ≡ (checksum (map (at l) places) + get_or l i 0) % 256
unfolding sum
checksum_more l places i = rw map_push (omega (arith, sum-append (map (at l) places) (at l i ∷ [])))

placed : (l : List ℕ) (n : ℕ) → sum (map (at l) (range_with_len 0 n)) ≡ sum (take n l)
unfolding sum
placed l zero = refl
placed l (suc n) =
    let before = map (at l) (range_with_len 0 n) in
    let e : map (at l) (range_with_len 0 (suc n)) ≡ before ++ at l n ∷ [] =
    ap (λ (k : ℕ). map (at l) (range_with_len 0 k)) (sym (add-one n)) ∙ map-range_with_len_more (at l) 0 n n (zero-add n) in
    omega (arith, ap sum e, sum-append before (at l n ∷ []), placed l n, sum-next l n)

pub checksum-placed : (l : List ℕ) (n : ℕ) → checksum (map (at l) (range_with_len 0 n)) ≡ checksum (take n l)
checksum-placed l n = ap (λ (s : ℕ). s % 256) (placed l n)

-- a list and its backward have one sum
pub sum-backward : (l : List ℕ) → sum (backward l) ≡ sum l
unfolding sum
sum-backward [] = refl
sum-backward (b ∷ l) = omega (arith, sum-append (backward l) (b ∷ []), sum-backward l)

pub checksum-latest : (n : ℕ) (t : Tail) → checksum (latest n t) ≡ checksum (take n (recent t))
unfolding latest
checksum-latest n t = ap (λ (s : ℕ). s % 256) (sum-backward (take n (recent t)))
