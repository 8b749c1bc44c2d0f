-- No two refusals have one number, and none has the number of a call that is taken.
use Rattle.std.specs.Prelude.{ℕ, [], ◌∷◌, ◌≡◌, get_or}
use Rattle.std.proofs.Common.{refl, sym, ap, ◌∙◌}
use Rattle.std.proofs.Math.Nat.{suc-ne-zero}
use Rattle.refusal.specs.declared.Refusal.{Refusal}
use Rattle.refusal.specs.declared.Refusal.TheVariants.{Room, Late, Back, Flags, Place, Word, Length, Sum, Field, Record}
use Rattle.refusal.specs.Numbers.{number_of}

-- the refusal with a number
abbrev refusal_of : ℕ → Refusal
refusal_of n =
    get_or (Record ∷ Room ∷ Late ∷ Back ∷ Flags ∷ Place ∷ Word ∷ Length ∷ Sum ∷ Field ∷ Record ∷ []) n Record

known : (e : Refusal) → refusal_of (number_of e) ≡ e
known Room = refl
known Late = refl
known Back = refl
known Flags = refl
known Place = refl
known Word = refl
known Length = refl
known Sum = refl
known Field = refl
known Record = refl

pub apart : (a b : Refusal) → number_of a ≡ number_of b → a ≡ b
apart a b e = sym (known a) ∙ ap refusal_of e ∙ known b

pub refuses : (e : Refusal) → number_of e ≡ 0 → ⊥
refuses Room p = suc-ne-zero _ p
refuses Late p = suc-ne-zero _ p
refuses Back p = suc-ne-zero _ p
refuses Flags p = suc-ne-zero _ p
refuses Place p = suc-ne-zero _ p
refuses Word p = suc-ne-zero _ p
refuses Length p = suc-ne-zero _ p
refuses Sum p = suc-ne-zero _ p
refuses Field p = suc-ne-zero _ p
refuses Record p = suc-ne-zero _ p
