-- From the automaton to the rules: a record that it accepts is sound, and what it awaits is awaited.
use Prim.Native.Nat.{ℕ, zero, suc, ◌+◌, ◌≤◌, ◌<◌}
use mathlib.Core.Path.{◌≡◌, refl, sym, ap, ◌∙◌, subst}
use mathlib.Core.Logic.{◌⊎◌, inl, inr}
use mathlib.Core.List.{List, [], ◌∷◌, ◌++◌, append_assoc, append-nil, cons≢nil}
use native.Mathlib.Omega.{arith}
use Rattle.settings.specs.Settings.{power_on}
use Rattle.deck.specs.Line.{look, Deck, at_power_on, Reply, silently, looked}
use Rattle.deck.proofs.Steps.{look-shut, acted-other}
use Rattle.record.specs.declared.Entry.{Entry}
use Rattle.record.specs.Entries.{run, said, keep, is_controller, is_deck, of_kind, controller, from_deck, contents, last_time, All}
use Rattle.record.specs.Turns.{Full, Silent, Flagged, Opening, Begun, Turn, concat, Turns, Sound}
use Rattle.record.specs.Marks.{look_at, Awaited}
use Rattle.record.proofs.Handed.{said-silent, run-append, said-append}
use Rattle.record.proofs.Lists.{first-left, steps-of-ordered}
use Rattle.record.specs.Machine.{waiting}
use Rattle.record.proofs.Readings.{deck_now, waiting_now, PassesNow, peek_is, formed-of-passes, ordered-of-passes}
use Rattle.record.proofs.Turned.{Rests}
use Rattle.record.proofs.Pieces.{left_of, Piece, Pieces, Going, ShutParts}
use Rattle.record.proofs.Cuts.{cuts}

-- ---- a piece with nothing left is a turn

-- fewer controller entries after it
opening-less : (es a b : List Entry) → Opening es (a ++ b) → Opening es a
opening-less es a b o = record { form = go o.form; gaps = o.gaps }
  where
    go : Full es ⊎ (Silent es (a ++ b) ⊎ Flagged es) → Full es ⊎ (Silent es a ⊎ Flagged es)
    go (inl x) = inl x
    go (inr (inl x)) =
        inr (inl (record {
          some = x.some;
          beginning = x.beginning;
          silence = first-left (λ e. last_time 0 es + 10000 < e.time) a b x.silence;
        }))
    go (inr (inr x)) = inr (inr x)

begun-less : (head tail a b : List Entry) (r : Reply) → Begun head tail (a ++ b) r → Begun head tail a r
begun-less head tail a b r x =
    record {
      starts = x.starts;
      silent = x.silent;
      opening = opening-less (controller head) (controller tail ++ a) b (rw append_assoc x.opening);
      on_time = x.on_time;
      others = x.others;
    }

-- if the deck says nothing to what stands at the end
turn-of-piece : (d : Deck) (span rest end : List Entry) → Piece d span rest end [] → said (run d span) end ≡ [] → Turn d span rest
turn-of-piece d span rest end p z =
    record {
      head = p.head;
      tail = p.tail;
      split = p.split;
      reply = p.reply;
      begun = begun-less p.head p.tail (controller rest) end p.reply p.begun;
      one = rw (said-append d span end, z, append-nil) at p.one;
      bytes = rw append-nil at p.bytes;
      next = p.next;
    }

-- a deck with no block open
said-rest : (d : Deck) (t : ℕ) → d.block ≡ [] → said d (look_at t ∷ []) ≡ []
unfolding said
said-rest d t p = said-silent [] d d (look_at t) (look-shut d t p) (acted-other d (look t) tt)

turns-of-pieces : (ss : List (List Entry)) (d : Deck) (t : ℕ) → Pieces d ss t [] → (run d (concat ss)).block ≡ [] → Turns d ss []
unfolding said
turns-of-pieces [] d t p z = tt
turns-of-pieces (s ∷ []) d t p z =
    (turn-of-piece d s [] (look_at t ∷ []) p.0 (said-rest (run d s) t (rw append-nil at z)), tt)
turns-of-pieces (s ∷ s' ∷ ss) d t p z = (
  rw append-nil (turn-of-piece d s (concat (s' ∷ ss)) [] p.0 refl),
  turns-of-pieces (s' ∷ ss) (run d s) t p.1 (rw (run-append d s (concat (s' ∷ ss))) at z),
)

-- ---- the parts of a record: what stands before the first piece is tape entries

contents-none : (es : List Entry) → contents es ≡ [] → es ≡ []
contents-none [] p = refl
contents-none (e ∷ es) p = absurd (cons≢nil p)

append-none : (a b : List ℕ) → a ++ b ≡ [] → a ≡ []
append-none [] b p = refl
append-none (x ∷ a) b p = absurd (cons≢nil p)

none-below-zero : (es : List Entry) → All (λ e. e.time < 0) es → es ≡ []
none-below-zero [] a = refl
none-below-zero (e ∷ es) a = absurd (omega (arith, a.0))

-- entries of neither line
tape-kinds : (es : List Entry) → from_deck es ≡ [] → controller es ≡ [] → All (λ e. 2 ≤ e.kind) es
unfolding of_kind
tape-kinds [] p q = tt
tape-kinds (e ∷ es) p q = go e.kind p q (tape-kinds es)
  where
    go : (k : ℕ) → keep (is_deck k) e (from_deck es) ≡ [] → keep (is_controller k) e (controller es) ≡ []
        → (from_deck es ≡ [] → controller es ≡ [] → All (λ e. 2 ≤ e.kind) es) → (2 ≤ k) × All (λ e. 2 ≤ e.kind) es
    go zero p q f = absurd (cons≢nil q)
    go (suc zero) p q f = absurd (cons≢nil p)
    go (suc (suc k)) p q f = (omega arith, f p q)

parts : (es : List Entry) (t : ℕ) (left : List ℕ) → Going 0 at_power_on (waiting [] 0) es t left → ShutParts at_power_on 0 [] 0 es t left
parts es t left g = (cuts es).0 0 0 power_on [] 0 0 t left g

parts-tape : (es : List Entry) (t : ℕ) (left : List ℕ) (p : ShutParts at_power_on 0 [] 0 es t left) → All (λ e. 2 ≤ e.kind) p.own
parts-tape es t left p =
    tape-kinds p.own
    (contents-none (from_deck p.own) (append-none (contents (from_deck p.own)) (left_of p.pieces left) p.bytes))
    (none-below-zero (controller p.own) p.others)

-- ---- what passes all tests and ends at rest is sound

pub accepted-sound : (es : List Entry) → PassesNow es → Rests (deck_now es) (waiting_now es) → Sound es
accepted-sound es p z =
    record {
      formed = formed-of-passes 0 at_power_on (waiting [] 0) es p;
      ordered = steps-of-ordered 0 es (ordered-of-passes 0 at_power_on (waiting [] 0) es p);
      cutting = record {
        lead = u.own;
        spans = u.pieces;
        split = u.split ∙ rw append-nil;
        tape = parts-tape es t [] u;
        turns = turns-of-pieces u.pieces (deck_now u.own) t u.more
            (rw (u.split, run-append at_power_on u.own (concat u.pieces)) at z.shut);
      };
    }
  where
    t : ℕ
    t = last_time 0 es

    q : looked (deck_now es) t ≡ silently (deck_now es)
    q = look-shut (deck_now es) t z.shut

    u : ShutParts at_power_on 0 [] 0 es t []
    u = parts es t [] (record { passes = p; shut = rw q z.shut; leaves = rw (peek_is (deck_now es) (waiting_now es) t _ q) z.left; late = omega arith })

-- ---- what is awaited

-- whole turns, and the piece `cur` with `left` still to come
record Last (d : Deck) (es : List Entry) (t : ℕ) (left : List ℕ) : Type 0 where
  spans : List (List Entry)
  cur : List Entry
  split : es ≡ concat spans ++ cur
  turns : Turns d spans cur
  piece : Piece (run d (concat spans)) cur [] (look_at t ∷ []) left

last-of-pieces : (s : List Entry) (ss : List (List Entry)) (d : Deck) (t : ℕ) (left : List ℕ) → Pieces d (s ∷ ss) t left
    → Last d (concat (s ∷ ss)) t left
unfolding run said
last-of-pieces s [] d t left p = record { spans = []; cur = s; split = append-nil s; turns = tt; piece = p.0 }
last-of-pieces s (s' ∷ ss) d t left p = go (last-of-pieces s' ss (run d s) t left p.1)
  where
    go : Last (run d s) (concat (s' ∷ ss)) t left → Last d (concat (s ∷ s' ∷ ss)) t left
    go u =
        record {
          spans = s ∷ u.spans;
          cur = u.cur;
          split = ap (λ (x : List Entry). s ++ x) u.split ∙ sym (append_assoc s (concat u.spans) u.cur);
          turns = (subst (Turn d s) u.split (turn-of-piece d s (concat (s' ∷ ss)) [] p.0 refl), u.turns);
          piece = rw (run-append d s (concat u.spans)) u.piece;
        }

pub awaited-is : (es : List Entry) (t next : ℕ) (to_come : List ℕ) → Going 0 at_power_on (waiting [] 0) es t (next ∷ to_come) → Awaited es t
unfolding of_kind
awaited-is es t next to_come g = go u.pieces u.split u.bytes u.more
  where
    u : ShutParts at_power_on 0 [] 0 es t (next ∷ to_come)
    u = parts es t (next ∷ to_come) g

    d : Deck
    d = deck_now u.own

    splits : (ss : List (List Entry)) (v : Last d (concat ss) t (next ∷ to_come))
        → concat ss ≡ concat v.spans ++ (v.piece.head ++ v.piece.tail)
    splits ss v = v.split ∙ ap (λ (x : List Entry). concat v.spans ++ x) v.piece.split

    made : (ss : List (List Entry)) → es ≡ u.own ++ concat ss → Last d (concat ss) t (next ∷ to_come) → Awaited es t
    made ss p v =
        record {
          head = v.piece.head;
          tail = v.piece.tail;
          before = record {
            lead = u.own;
            spans = v.spans;
            split = p ∙ ap (λ (x : List Entry). u.own ++ x) (splits ss v);
            tape = parts-tape es t (next ∷ to_come) u;
            turns = subst (Turns d v.spans) v.piece.split v.turns;
          };
          reply = v.piece.reply;
          begun = v.piece.begun;
          one = subst (λ (x : List Entry). said (run d (concat v.spans)) (x ++ look_at t ∷ []) ≡ v.piece.reply ∷ [])
              v.piece.split v.piece.one;
          next = next;
          to_come = to_come;
          left = v.piece.bytes;
        }

    go : (ss : List (List Entry)) → es ≡ u.own ++ concat ss → contents (from_deck u.own) ++ left_of ss (next ∷ to_come) ≡ []
        → Pieces d ss t (next ∷ to_come) → Awaited es t
    go [] p b m = absurd (none (contents (from_deck u.own)) b)
      where
        none : (a : List ℕ) → a ++ next ∷ to_come ≡ [] → ⊥
        none [] q = cons≢nil q
        none (x ∷ a) q = cons≢nil q
    go (s ∷ ss) p b m = made (s ∷ ss) p (last-of-pieces s ss d t (next ∷ to_come) m)
