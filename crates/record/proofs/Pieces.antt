-- What the automaton accepts, as pieces: turns one after the other, the last as far as it has come. Definitions for `Cuts`, and how
-- an entry is taken off.
use Prim.Native.Nat.{ℕ, ◌+◌, ◌≤◌, ◌<◌}
use mathlib.Core.Path.{◌≡◌, sym, subst, subst₂}
use mathlib.Core.List.{List, [], ◌∷◌, ◌++◌}
use native.Mathlib.Omega.{arith}
use lib.Dec.{T}
use lib.ListN.{length}
use Rattle.settings.specs.declared.Settings.{Settings}
use Rattle.deck.specs.Line.{Deck, deck, Reply, Answer, silently, is_open, size, looked, acted}
use Rattle.record.specs.declared.Entry.{Entry}
use Rattle.record.specs.Entries.{handed, after_entry, run, said, is_controller, is_deck, controller, from_deck}
use Rattle.record.specs.Entries.{contents, last_time, All, First}
use Rattle.record.specs.Turns.{InQuiet, Begun, concat}
use Rattle.record.specs.Marks.{look_at}
use Rattle.record.proofs.Handed.{after_look}
use Rattle.record.proofs.Lists.{first-zip, Ordered, ordered-from, ordered-left, ordered-right, ordered-last}
use Rattle.record.proofs.Lists.{ordered-all, ordered-first}
use Rattle.record.specs.Machine.{Waiting, waiting, await, peek, awaited_after, advance}
use Rattle.record.proofs.Readings.{waits, Pass, Passes, to-halves, advance-look, pass-look}
use Rattle.record.proofs.Opening.{Rest}
use Rattle.record.proofs.Coming.{Comes, Timely, QuietFrom, quiet-of-dropped}

-- at the end of the entries comes a look at t, and `left` is awaited then: both belong to the last piece
abbrev pub ending : List (List Entry) → ℕ → List Entry
ending [] t = look_at t ∷ []
ending (s ∷ ss) t = []

abbrev pub left_of : List (List Entry) → List ℕ → List ℕ
left_of [] left = left
left_of (s ∷ ss) left = []

-- a turn, with the entries `rest` after it and then `end`; `left` of its reply is still to come
pub record Piece (d : Deck) (span rest end : List Entry) (left : List ℕ) : Type 0 where
  pub head : List Entry
  pub tail : List Entry
  pub split : span ≡ head ++ tail
  pub reply : Reply
  pub begun : Begun head tail (controller rest ++ end) reply
  pub one : said d (span ++ end) ≡ reply ∷ []
  pub bytes : contents (from_deck tail) ++ left ≡ reply.bytes
  pub next : First (λ e. InQuiet reply e.time → ⊥) (controller rest)

abbrev pub Pieces : Deck → List (List Entry) → ℕ → List ℕ → Type 0
Pieces d [] t left = Unit
Pieces d (s ∷ ss) t left = Piece d s (concat ss) (ending ss t) (left_of ss left) × Pieces (run d s) ss t left

-- ---- the two claims about entries after a state

-- es passes the tests from d and w, and a look at t then finds no block open and `left` awaited
pub record Going (t₀ : ℕ) (d : Deck) (w : Waiting) (es : List Entry) (t : ℕ) (left : List ℕ) : Type 0 where
  pub passes : Passes t₀ d w es
  pub shut : (looked (run d es) t).deck.block ≡ []
  pub leaves : (peek (run d es) (waits d w es) t).left ≡ left
  pub late : last_time t₀ es ≤ t

-- no block open, `now` awaited by `lat`, bytes below f dropped: first the turn's own entries, then pieces
pub record ShutParts (d : Deck) (f : ℕ) (now : List ℕ) (lat : ℕ) (es : List Entry) (t : ℕ) (left : List ℕ) : Type 0 where
  pub own : List Entry
  pub pieces : List (List Entry)
  pub split : es ≡ own ++ concat pieces
  pub bytes : contents (from_deck own) ++ left_of pieces left ≡ now
  pub timely : Timely lat (from_deck own)
  pub others : All (λ e. e.time < f) (controller own)
  pub next : First (λ e. f ≤ e.time) (controller (concat pieces))
  pub quiet : said d (own ++ ending pieces t) ≡ []
  pub more : Pieces (run d own) pieces t left

abbrev pub ShutCut : List Entry → Type 0
ShutCut es =
    (l f : ℕ) (s : Settings) (now : List ℕ) (lat t₀ t : ℕ) (left : List ℕ)
    → Going t₀ (deck [] l f s) (waiting now lat) es t left → ShutParts (deck [] l f s) f now lat es t left

-- a block o open since l: first the rest of its turn's head, and its tail, then pieces
pub record OpenParts (d : Deck) (o : List ℕ) (l : ℕ) (es : List Entry) (t : ℕ) (left : List ℕ) : Type 0 where
  pub head : List Entry
  pub tail : List Entry
  pub pieces : List (List Entry)
  pub reply : Reply
  pub split : es ≡ (head ++ tail) ++ concat pieces
  pub silent : from_deck head ≡ []
  pub rest : Rest (size o) (length o) l (controller head) (controller tail ++ (controller (concat pieces) ++ ending pieces t))
  pub comes : Comes tail (left_of pieces left) reply
  pub one : said d ((head ++ tail) ++ ending pieces t) ≡ reply ∷ []
  pub next : First (λ e. InQuiet reply e.time → ⊥) (controller (concat pieces))
  pub more : Pieces (run d (head ++ tail)) pieces t left

abbrev pub OpenCut : List Entry → Type 0
OpenCut es =
    (o : List ℕ) (l f : ℕ) (s : Settings) (lat t₀ t : ℕ) (left : List ℕ) → T (is_open o) → length o < size o → f ≤ l → l ≤ t₀
    → Going t₀ (deck o l f s) (waiting [] lat) es t left → OpenParts (deck o l f s) o l es t left

-- ---- an entry is taken off

pub going-head : {t₀ : ℕ} {d : Deck} {w : Waiting} {e : Entry} {es : List Entry} {t : ℕ} {left : List ℕ} {L : Answer}
    → looked d e.time ≡ L → Going t₀ d w (e ∷ es) t left → Pass t₀ L w e
unfolding Passes
going-head {t₀} {d} {w} {e} p g = subst (λ (A : Answer). Pass t₀ A w e) p g.passes.0

pub going-tail : {t₀ : ℕ} {d : Deck} {w : Waiting} {e : Entry} {es : List Entry} {t : ℕ} {left : List ℕ} {L E : Answer}
    → looked d e.time ≡ L → acted L.deck (handed e) ≡ E → Going t₀ d w (e ∷ es) t left
    → Going e.time E.deck (awaited_after w e L E) es t left
unfolding Passes run waits
going-tail {t₀} {d} {w} {e} {es} {t} {left} {L} {E} p q g =
    to-halves (λ D W. Going e.time D W es t left) d w e L E p q
    (record { passes = g.passes.1; shut = g.shut; leaves = g.leaves; late = g.late })

-- the deck as the look finds it goes on as the deck itself
pub going-look : {t₀ : ℕ} {d D : Deck} {w : Waiting} {e : Entry} {es : List Entry} {t : ℕ} {left : List ℕ} {R : List Reply}
    → looked d e.time ≡ record { deck = D; replies = R } → looked D e.time ≡ silently D → Going t₀ d w (e ∷ es) t left
    → Going t₀ D (await R w) (e ∷ es) t left
unfolding Passes run waits
going-look {t₀} {d} {D} {w} {e} {es} {t} {left} {R} p q g =
    let a : after_entry d e ≡ after_entry D e = after_look d D e R p q in
    let b : advance d w e ≡ advance D (await R w) e = advance-look d D w e R p q in
    record {
      passes = (
        subst (λ (A : Answer). Pass t₀ A (await R w) e) (sym q) ((pass-look t₀ D w e R).0 (going-head p g)),
        subst₂ (λ (D : Deck) (W : Waiting). Passes e.time D W es) a b g.passes.1,
      );
      shut = rw a at g.shut;
      leaves = subst₂ (λ (D : Deck) (W : Waiting). (peek (run D es) (waits D W es) t).left ≡ left) a b g.leaves;
      late = g.late;
    }

-- ---- the reply r was due by tm, and u has what follows

pub after-own : (tm : ℕ) (own ps : List Entry) → Ordered tm (own ++ ps) → First (λ e. tm ≤ e.time) (controller ps)
after-own tm own ps o =
    ordered-first is_controller tm ps
    (ordered-from tm (last_time tm own) ps (ordered-last tm own (ordered-left tm own ps o)) (ordered-right tm own ps o))

-- what comes of r
pub own-comes : {d : Deck} {f : ℕ} {es : List Entry} {t : ℕ} {left : List ℕ} (r : Reply) (tm : ℕ)
    (u : ShutParts d f r.bytes (r.due + 9000) es t left) → r.due ≤ tm → QuietFrom r f tm → Ordered tm (u.own ++ concat u.pieces)
    → Comes u.own (left_of u.pieces left) r
own-comes {d} {f} {es} {t} {left} r tm u h q o =
    record {
      on_time = record {
        first = first-zip (λ e. tm ≤ e.time) (λ e. e.time ≤ r.due + 9000) (λ e. (r.due ≤ e.time) × (e.time ≤ r.due + 9000))
            (from_deck u.own) (λ e a b. (omega arith, b)) (ordered-first is_deck tm u.own o') u.timely.0;
        later = u.timely.1;
      };
      bytes = u.bytes;
      others = quiet-of-dropped r f tm (controller u.own) q (ordered-all is_controller tm u.own o') u.others;
    }
  where
    o' : Ordered tm u.own
    o' = ordered-left tm u.own (concat u.pieces) o

-- the next turn begins after its quiet
pub own-next : {d : Deck} {f : ℕ} {now : List ℕ} {lat : ℕ} {es : List Entry} {t : ℕ} {left : List ℕ} (r : Reply) (tm : ℕ)
    (u : ShutParts d f now lat es t left) → QuietFrom r f tm → Ordered tm (u.own ++ concat u.pieces)
    → First (λ e. InQuiet r e.time → ⊥) (controller (concat u.pieces))
own-next {d} {f} r tm u q o =
    first-zip (λ e. tm ≤ e.time) (λ e. f ≤ e.time) (λ e. InQuiet r e.time → ⊥) (controller (concat u.pieces))
    (λ e h n j. let k : e.time < f = (q e.time h).0 j in omega arith) (after-own tm u.own (concat u.pieces) o) u.next
