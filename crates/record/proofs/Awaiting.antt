-- The automaton awaits what the rules say is awaited, and any two readings of the rules agree with it.
use Prim.Native.Nat.{ℕ, ◌+◌, ◌≤◌, ◌<◌}
use mathlib.Core.Path.{◌≡◌, refl, sym, ap, ◌∙◌, subst₂}
use mathlib.Core.Logic.{◌⊎◌, inl, inr}
use mathlib.Core.List.{List, [], ◌∷◌, ◌++◌, append_assoc}
use lib.Dec.{T}
use lib.ListN.{length}
use Rattle.std.proofs.lemmas.Bool.{cases_lt}
use Rattle.deck.specs.Line.{Deck, deck, at_power_on, looked}
use Rattle.deck.proofs.Steps.{look-shut, look-early}
use Rattle.deck.proofs.Cases.{looked-late}
use Rattle.record.specs.declared.Entry.{Entry}
use Rattle.record.specs.Entries.{run, last_time}
use Rattle.record.specs.Turns.{concat, starts_from}
use Rattle.record.specs.Marks.{look_at, Awaited}
use Rattle.record.proofs.Handed.{run-append}
use Rattle.record.proofs.Lists.{Ordered, ordered-right, last_time-append}
use Rattle.record.specs.Machine.{Waiting, waiting, some, await, peek}
use Rattle.record.proofs.Readings.{waits, deck_now, waiting_now, PassesNow, waits-append}
use Rattle.record.proofs.Coming.{deadline, QuietFrom}
use Rattle.record.proofs.Turned.{Turned, Whole, begun-at, cut-run}
use Rattle.record.proofs.Sounds.{awaited-is}
use Rattle.record.proofs.Sane.{Sane, sane-now}

-- ---- a reading of the rules agrees with the automaton

pub record Agrees (es : List Entry) (t : ℕ) (a : Awaited es t) : Type 0 where
  pub awaits : peek (deck_now es) (waiting_now es) t ≡ waiting (a.next ∷ a.to_come) (deadline a.reply a.tail)
  pub quiet : QuietFrom a.reply (looked (deck_now es) t).deck.free (last_time 0 es)

pub awaited-agrees : (es : List Entry) (t : ℕ) → Ordered 0 es → (a : Awaited es t) → Agrees es t a
awaited-agrees es t o a =
    record {
      awaits = subst₂ (λ (D : Deck) (W : Waiting). peek D W t ≡ waiting (a.next ∷ a.to_come) (deadline a.reply a.tail))
          i j u.awaits;
      quiet = λ x h. rw (← i) (u.quiet x (rw (← (last_time-append 0 whole cur), p) h));
    }
  where
    -- the whole turns, and the begun one
    whole : List Entry
    whole = a.before.lead ++ concat a.before.spans

    cur : List Entry
    cur = a.head ++ a.tail

    p : whole ++ cur ≡ es
    p = append_assoc a.before.lead (concat a.before.spans) cur ∙ sym a.before.split

    v : Whole at_power_on (waiting [] 0) whole cur 0 (λ i. starts_from (i + length a.before.lead) a.before.spans)
    v = cut-run es cur a.before o

    d : Deck
    d = deck_now whole

    w : Waiting
    w = waiting_now whole

    u : Turned d w cur (last_time 0 whole) t (a.next ∷ a.to_come) (deadline a.reply a.tail) a.reply
    u =
        begun-at d w v.rests a.head a.tail (look_at t ∷ []) (last_time 0 whole) t (a.next ∷ a.to_come) a.reply a.begun
        (ordered-right 0 whole cur (rw p o)) v.first
        (rw (run-append at_power_on a.before.lead (concat a.before.spans)) a.one) a.left

    i : run d cur ≡ deck_now es
    i = sym (run-append at_power_on whole cur) ∙ ap deck_now p

    j : waits d w cur ≡ waiting_now es
    j = sym (waits-append at_power_on (waiting [] 0) whole cur) ∙ ap waiting_now p

-- ---- what the automaton awaits is awaited

-- where bytes are awaited, no block is open
shut-while-awaited : (d : Deck) (w : Waiting) (t u : ℕ) → Sane u d w → T (some (peek d w t).left) → (looked d t).deck.block ≡ []
unfolding peek
shut-while-awaited d w t u z h = go d.block z h
  where
    with : List ℕ → Deck
    with o = deck o d.last d.free d.settings

    go : (o : List ℕ) → Sane u (with o) w → T (some (await (looked (with o) t).replies w).left) → (looked (with o) t).deck.block ≡ []
    go [] z h = rw (look-shut (with []) t refl)
    go (x ∷ o) z h = late (cases_lt (d.last + 10000) t)
      where
        late : (d.last + 10000 < t) ⊎ (t ≤ d.last + 10000) → (looked (with (x ∷ o)) t).deck.block ≡ []
        late (inr i) = absurd (rw (look-early (with (x ∷ o)) t i, (z.opened tt).none) at h)
        late (inl i) = rw (looked-late (with (x ∷ o)) t tt i)

pub awaited-now : (es : List Entry) (t next : ℕ) (to_come : List ℕ) → PassesNow es → last_time 0 es ≤ t
    → (peek (deck_now es) (waiting_now es) t).left ≡ next ∷ to_come → Awaited es t
awaited-now es t next to_come p h q =
    awaited-is es t next to_come
    (record {
      passes = p;
      shut = shut-while-awaited (deck_now es) (waiting_now es) t (last_time 0 es) (sane-now es p) (rw q tt);
      leaves = q;
      late = h;
    })
