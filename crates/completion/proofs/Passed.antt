-- What the loop over the entries has put so far.
use Rattle.std.proofs.lemmas.Bool.{and_parts}
use Rattle.std.specs.Prelude.{Result, Ok, Err, IsOk, is_ok}
use Prim.Native.Nat.{ℕ, ◌+◌, ◌*◌, ◌≤◌}
use mathlib.Core.Path.{◌≡◌, refl, sym, ap, ◌∙◌}
use mathlib.Core.Bool.{true}
use mathlib.Core.List.{List, [], ◌∷◌, ◌++◌}
use native.Mathlib.Omega.{arith}
use lib.ListN.{length}
use Rattle.refusal.specs.declared.Refusal.{Refusal}
use Rattle.deck.specs.declared.Deck.{Deck as Held}
use Rattle.deck.specs.Calls.{view, new_deck}
use Rattle.deck.proofs.Steps.{look-shut}
use Rattle.record.specs.declared.Entry.{Entry}
use Rattle.record.specs.Entries.{after_entry, says_to}
use Rattle.record.specs.Bytes.{record_of}
use Rattle.record.proofs.Records.{length-record, record-none, record-append}
use Rattle.text.specs.declared.Page.{Page}
use Rattle.text.specs.Puts.{Adds}
use Rattle.text.proofs.Writing.{nothing, behind}
use Rattle.completion.specs.Completed.{with_replies, completed_from, completed}
use Rattle.completion.specs.Calls.{follows, all_follow}
use Rattle.completion.proofs.Exercises.{Follows, all-follow-is}
use Rattle.completion.proofs.Looks.{Knows, knows-entry}
use Rattle.completion.proofs.Placed.{By, completed-next, by_next}
use Rattle.completion.proofs.Costs.{taken-stays}
use Rattle.completion.proofs.Written.{taken}

-- with these entries left of all, the record so far is on the page, and they go on from it to the whole
pub record Inv (es : List Entry) (a b : Page) (d : Held) (left : List Entry) : Type 0 where
  pub past : List Entry
  pub puts : Adds a (record_of past) b (Ok (tt {0}))
  pub by : By d.clock past
  pub knows : Knows (view d) d.clock
  pub whole : completed_from past (view d) left ≡ completed es
  pub follow : all_follow d.clock left ≡ true

module _ (es : List Entry) (a : Page) where
  pub at_first : (d : Held) → d ≡ new_deck → all_follow 0 es ≡ true → Inv es a a d es
  unfolding completed
  at_first d p f =
      record {
        past = [];
        puts = rw record-none (nothing a);
        by = tt;
        knows = rw p (look-shut (view new_deck) 0 refl);
        whole = rw p;
        follow = rw p f;
      }

  module _ {b : Page} {d : Held} {e : Entry} {left : List Entry} (v : Inv es a b d (e ∷ left)) where
    next : Follows d.clock e × (all_follow e.time left ≡ true)
    next = all-follow-is d.clock e left v.follow

    pub follows-here : follows d.clock e ≡ true
    unfolding all_follow
    follows-here = (and_parts (follows d.clock e) _ v.follow).0

    -- with the entry and the replies to it
    abbrev more : List Entry
    more = v.past ++ with_replies (e ∷ []) (says_to (view d) e)

    whole-more : completed_from more (after_entry (view d) e) left ≡ completed es
    whole-more = sym (completed-next v.past (view d) d.clock e v.by v.knows next.0.later left) ∙ v.whole

    module _ {c : Page} {r : Result Held Refusal} (p : Adds b (record_of (with_replies (e ∷ []) (says_to (view d) e))) c r) where
      pub passed : {d' : Held} → r ≡ Ok d' → view d' ≡ after_entry (view d) e → d'.clock ≡ e.time → Inv es a c d' left
      passed is s k =
          record {
            past = more;
            puts = rw record-append (behind v.puts (taken is p));
            by = rw k (by_next v.past (view d) d.clock e v.by v.knows next.0.later);
            knows = rw (s, k) (knows-entry (view d) e);
            whole = rw s whole-more;
            follow = rw k next.1;
          }

      -- where there was no room for the entry, there was none for the whole
      pub stopped : {x : Refusal} → r ≡ Err x → {B : Type 0} (s : Result B Refusal) → Adds a (record_of (completed es)) c s
      stopped is s =
          record {
            fits = λ h.
                let text : List ℕ = record_of v.past ++ record_of (with_replies (e ∷ []) (says_to (view d) e)) in
                let all : length text ≡ 12 * length more = ap length (sym (record-append v.past _)) ∙ length-record more in
                let few : length more ≤ length (completed es) = let n = taken-stays left more (after_entry (view d) e) in rw whole-more at n in
                let room : a.end + length text ≤ length a.out.now = omega (arith, h, all, few, length-record (completed es)) in
                let ok : IsOk r = ((behind v.puts p).fits room).0 in
                let err = ap is_ok is in
                absurd (cc);
            same = p.same ∙ v.puts.same;
          }

  pub at_last : {b : Page} {d : Held} → Inv es a b d [] → Adds a (record_of (completed es)) b (Ok (tt {0}))
  unfolding completed_from
  at_last v = rw (← v.whole) v.puts
