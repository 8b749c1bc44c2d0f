-- Decks as events make them: their laws, and how the code keeps them so.
use Prim.Native.Nat.{ℕ, zero, suc, ◌+◌, ◌*◌, ◌%◌, ◌≤◌, ◌<◌}
use mathlib.Core.Bool.{cond}
use mathlib.Core.Path.{◌≡◌, refl, sym, ap, ◌∙◌}
use mathlib.Core.List.{List, [], ◌∷◌, ◌++◌}
use native.Mathlib.Omega.{arith}
use borrow.Author.Tests.{ne_eqb}
use lib.Dec.{eqb}
use lib.ListN.{length, get_or, drop}
use Rattle.packed.specs.declared.Tail.{Tail}
use Rattle.packed.specs.Tail.{recent, kept, backward, latest}
use Rattle.packed.proofs.Tails.{kept_more, backward-more, backward-bytes, latest-are-bytes}
use Rattle.deck.specs.declared.Deck.{Deck as Held}
use Rattle.deck.specs.Line.{Deck}
use Rattle.deck.specs.Calls.{open_block, view, new_deck, Made}
use Rattle.deck.specs.Joins.{grown}
use Rattle.deck.proofs.Held.{length-open, one_more}

-- power-on makes one
pub made-new : Made new_deck
made-new = record { few = omega arith; head = refl; rest = refl }

-- the times and the settings are nothing to it
pub made_so : (d e : Held) → e.held ≡ d.held → e.first ≡ d.first → e.tail ≡ d.tail → Made d → Made e
made_so d e h f t m = record { few = rw h m.few; head = rw (h, f, t) m.head; rest = rw (h, f, t) m.rest }

-- with the first byte of a block
pub made-first : (d : Held) → d.held ≡ 1 → d.first < 256 → d.tail ≡ kept [] → Made d
unfolding latest
made-first d h f t = record { few = omega arith; head = rw h (omega arith); rest = rw h t }

-- with a byte more
head_more : (n first b : ℕ) (t : Tail) → first ≡ get_or (open_block n first t) 0 0
    → cond (eqb n 0) b first ≡ get_or (open_block n first t ++ b ∷ []) 0 0
head_more zero first b t e = refl
head_more (suc n) first b t e = rw (ne_eqb (suc n) 0 (λ z. omega arith)) e

rest_more : (n first b : ℕ) (t : Tail) → t ≡ kept (backward (drop 1 (open_block n first t)))
    → cond (eqb n 0) (kept []) (kept (b ∷ recent t)) ≡ kept (backward (drop 1 (open_block n first t ++ b ∷ [])))
rest_more zero first b t e = refl
rest_more (suc n) first b t e =
    let l = latest n t in
    rw (ne_eqb (suc n) 0 (λ z. omega arith), backward-more l b)
    (ap (λ (x : Tail). kept (b ∷ recent x)) e ∙ kept_more (backward l) b (backward-bytes l (latest-are-bytes n t)))

pub made_more : (d : Held) (t b : ℕ) → b < 256 → d.held ≤ 16 → Made d → Made (grown d t b)
made_more d t b h k m =
    let e = sym (one_more d.held d.first b d.tail h k) in
    record {
      few = omega arith;
      head = head_more d.held d.first b d.tail m.head ∙ ap (λ (o : List ℕ). get_or o 0 0) e;
      rest = rest_more d.held d.first b d.tail m.rest ∙ ap (λ (o : List ℕ). kept (backward (drop 1 o))) e;
    }

-- why it must be said: what is kept above the first byte is not seen
pub unseen : (n first more : ℕ) (t : Tail) → open_block n (first % 256 + 256 * more) t ≡ open_block n first t
unseen zero first more t = refl
unseen (suc n) first more t = let e : (first % 256 + 256 * more) % 256 ≡ first % 256 = omega arith in rw e

-- as many bytes are held as count
held-is : (d : Held) → Made d → length (view d).block ≡ d.held
held-is d m = omega (arith, length-open d.held d.first d.tail, m.few)

-- equal in the definitions, and so equal in every field
pub made-equal : (d e : Held) → Made d → Made e → d.clock ≡ e.clock → view d ≡ view e → d ≡ e
made-equal d e m n c v =
    let b : (view d).block ≡ (view e).block = ap (λ (x : Deck). x.block) v in
    let h : d.held ≡ e.held = sym (held-is d m) ∙ ap length b ∙ held-is e n in
    let f : d.first ≡ e.first = m.head ∙ ap (λ (o : List ℕ). get_or o 0 0) b ∙ sym n.head in
    let t : d.tail ≡ e.tail = m.rest ∙ ap (λ (o : List ℕ). kept (backward (drop 1 o))) b ∙ sym n.rest in
    λ i. record {
      clock = c i;
      last = (v i).last;
      free = (v i).free;
      held = h i;
      first = f i;
      tail = t i;
      settings = (v i).settings;
    }
