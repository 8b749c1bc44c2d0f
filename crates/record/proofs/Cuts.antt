-- What the automaton accepts is cut: the entries after a state are the rest of the turn that is under way, and further pieces.
-- The claims with no block open and with one are proved together, by induction over the entries.
use Prim.Native.Nat.{ℕ, zero, suc, ◌+◌, ◌≤◌, ◌<◌}
use mathlib.Core.Path.{◌≡◌, refl, sym, ap, ◌∙◌, subst, subst₂}
use mathlib.Core.Logic.{◌⊎◌, inl, inr}
use mathlib.Core.Bool.{Bool}
use mathlib.Core.List.{List, [], ◌∷◌, ◌++◌, nil≢cons, cons≢nil}
use native.Mathlib.Numerals.{add-one}
use native.Mathlib.Omega.{arith}
use lib.Dec.{T}
use lib.ListN.{length, drop}
use Rattle.std.proofs.lemmas.Bool.{cases_lt}
use Rattle.std.proofs.lemmas.List.{length_push}
use Rattle.settings.specs.declared.Settings.{Settings}
use Rattle.execute.specs.Replies.{nak, opens_quiet}
use Rattle.execute.specs.Execute.{execute}
use Rattle.deck.specs.Line.{look, Deck, deck, Reply, Answer, silently, free_after, is_open, size, looked, acted}
use Rattle.deck.specs.Events.{nak_at}
use Rattle.deck.proofs.Steps.{look-shut, look-early, acted-other}
use Rattle.deck.proofs.Cases.{expiry, expired, looked-late, open_more, size-more}
use Rattle.deck.proofs.Cases.{acted-dropped, acted-flagged, acted-first, acted-more, acted-last}
use Rattle.record.specs.declared.Entry.{Entry}
use Rattle.record.specs.Entries.{entry, handed, run, said, is_controller, of_kind, controller, from_deck, contents, All, First}
use Rattle.record.specs.Turns.{Clean, InQuiet, concat}
use Rattle.record.specs.Marks.{look_at}
use Rattle.record.proofs.Handed.{taped, acted-tape, said-is, said-silent, run_is, run-silent, said-look, after_look}
use Rattle.record.proofs.Lists.{first-map, first-append, Ordered, ordered-left, ordered-last, ordered-first}
use Rattle.record.specs.Machine.{Waiting, waiting}
use Rattle.record.proofs.Readings.{waits, Pass, peek_is, heard-alone, ordered-of-passes}
use Rattle.record.proofs.Opening.{Dirty, clean-or-not, Rest, opening-of-started}
use Rattle.record.proofs.Coming.{Comes, Timely, QuietFrom, quiet-replied, quiet-expiry}
use Rattle.record.proofs.Pieces.{ending, left_of, Piece, Pieces, Going, ShutParts, ShutCut, OpenParts, OpenCut}
use Rattle.record.proofs.Pieces.{going-head, going-tail, going-look, after-own, own-comes, own-next}

-- ---- the entry e brings the reply r: its turn's tail, and then pieces

record ReplyParts (d : Deck) (e : Entry) (r : Reply) (es : List Entry) (t : ℕ) (left : List ℕ) : Type 0 where
  own : List Entry
  pieces : List (List Entry)
  split : es ≡ own ++ concat pieces
  comes : Comes own (left_of pieces left) r
  one : said d (e ∷ (own ++ ending pieces t)) ≡ r ∷ []
  next : First (λ e. InQuiet r e.time → ⊥) (controller (concat pieces))
  more : Pieces (run d (e ∷ own)) pieces t left

reply-cut : (e : Entry) (es : List Entry) → ShutCut es → (d : Deck) (w : Waiting) (l f : ℕ) (s : Settings) (bytes : List ℕ) (q : Bool)
    (t₀ t : ℕ) (left : List ℕ) → looked d e.time ≡ silently d
    → acted d (handed e) ≡ record { deck = deck [] l f s; replies = record { bytes = bytes; due = e.time; quiets = q } ∷ [] }
    → QuietFrom (record { bytes = bytes; due = e.time; quiets = q }) f e.time → Going t₀ d w (e ∷ es) t left
    → ReplyParts d e (record { bytes = bytes; due = e.time; quiets = q }) es t left
reply-cut e es ih d w l f s bytes q t₀ t left p a v g =
    record {
      own = u.own;
      pieces = u.pieces;
      split = u.split;
      comes = own-comes r e.time u (omega arith) v o;
      one = said-is (u.own ++ ending u.pieces t) d e (silently d) E p a ∙ ap (λ (x : List Reply). r ∷ x) u.quiet;
      next = own-next r e.time u v o;
      more = subst (λ (D : Deck). Pieces D u.pieces t left) (sym (run_is u.own d e (silently d) E p a)) u.more;
    }
  where
    r : Reply
    r = record { bytes = bytes; due = e.time; quiets = q }

    E : Answer
    E = record { deck = deck [] l f s; replies = r ∷ [] }

    g' : Going e.time (deck [] l f s) (waiting bytes (e.time + 9000)) es t left
    g' = going-tail p a g

    u : ShutParts (deck [] l f s) f bytes (e.time + 9000) es t left
    u = ih l f s bytes (e.time + 9000) e.time t left g'

    o : Ordered e.time (u.own ++ concat u.pieces)
    o = rw u.split at (ordered-of-passes e.time (deck [] l f s) (waiting bytes (e.time + 9000)) es g'.passes)

-- ---- a turn begins at e: a piece, and then others

record StartParts (d : Deck) (e : Entry) (es : List Entry) (t : ℕ) (left : List ℕ) : Type 0 where
  own : List Entry
  pieces : List (List Entry)
  split : es ≡ own ++ concat pieces
  piece : Piece d (e ∷ own) (concat pieces) (ending pieces t) (left_of pieces left)
  more : Pieces (run d (e ∷ own)) pieces t left

start-cut : (fl c tm : ℕ) (es : List Entry) → ShutCut es → OpenCut es → (l f : ℕ) (s : Settings) (lat t₀ t : ℕ) (left : List ℕ)
    → f ≤ tm → Going t₀ (deck [] l f s) (waiting [] lat) (entry 0 fl c tm ∷ es) t left
    → StartParts (deck [] l f s) (entry 0 fl c tm) es t left
unfolding of_kind
start-cut fl c tm es ih_s ih_o l f s lat t₀ t left h g = go (clean-or-not e)
  where
    e : Entry
    e = entry 0 fl c tm

    d : Deck
    d = deck [] l f s

    v : looked d tm ≡ silently d
    v = look-shut (deck [] l f s) tm refl

    voids : Dirty e → ReplyParts d e (nak_at fl tm) es t left
    voids n =
        reply-cut e es ih_s d (waiting [] lat) l (free_after (opens_quiet fl) tm f) s (nak fl) (opens_quiet fl) t₀ t left v
        (acted-flagged d tm c fl h n) (quiet-replied (opens_quiet fl) (nak fl) tm f h) g

    go : Clean e ⊎ Dirty e → StartParts d e es t left
    go (inr n) =
        let u = voids n in
        record {
          own = u.own;
          pieces = u.pieces;
          split = u.split;
          piece = record {
            head = e ∷ [];
            tail = u.own;
            split = refl;
            reply = nak_at fl tm;
            begun = record {
              starts = (e, [], refl, refl);
              silent = refl;
              opening = opening-of-started e [] _ (inl (n, refl));
              on_time = u.comes.on_time;
              others = u.comes.others;
            };
            one = u.one;
            bytes = u.comes.bytes;
            next = u.next;
          };
          more = u.more;
        }
    go (inl n) =
        let D : Deck = deck (c ∷ []) tm f s in
        let w : acted d (handed e) ≡ silently D = acted-first l f s tm c fl h n in
        let u = ih_o (c ∷ []) tm f s lat tm t left tt (omega arith) h (omega arith) (going-tail v w g) in
        record {
          own = u.head ++ u.tail;
          pieces = u.pieces;
          split = u.split;
          piece = record {
            head = e ∷ u.head;
            tail = u.tail;
            split = refl;
            reply = u.reply;
            begun = record {
              starts = (e, u.head, refl, refl);
              silent = u.silent;
              opening = opening-of-started e (controller u.head) _ (inr (n, u.rest));
              on_time = u.comes.on_time;
              others = u.comes.others;
            };
            one = said-silent ((u.head ++ u.tail) ++ ending u.pieces t) d D e v w ∙ u.one;
            bytes = u.comes.bytes;
            next = u.next;
          };
          more = subst (λ (D : Deck). Pieces D u.pieces t left) (sym (run-silent (u.head ++ u.tail) d D e v w)) u.more;
        }

-- ---- no block open

-- e belongs to the turn's own entries
shut-own : (e : Entry) (es : List Entry) (l f : ℕ) (s s' : Settings) (now now' : List ℕ) (lat lat' t : ℕ) (left : List ℕ)
    → acted (deck [] l f s) (handed e) ≡ silently (deck [] l f s') → (u : ShutParts (deck [] l f s') f now' lat' es t left)
    → contents (from_deck (e ∷ u.own)) ++ left_of u.pieces left ≡ now → Timely lat (from_deck (e ∷ u.own))
    → All (λ e. e.time < f) (controller (e ∷ u.own)) → ShutParts (deck [] l f s) f now lat (e ∷ es) t left
shut-own e es l f s s' now now' lat lat' t left q u b y a =
    let d : Deck = deck [] l f s in
    let D : Deck = deck [] l f s' in
    let p : looked d e.time ≡ silently d = look-shut (deck [] l f s) e.time refl in
    record {
      own = e ∷ u.own;
      pieces = u.pieces;
      split = ap (λ (x : List Entry). e ∷ x) u.split;
      bytes = b;
      timely = y;
      others = a;
      next = u.next;
      quiet = said-silent (u.own ++ ending u.pieces t) d D e p q ∙ u.quiet;
      more = subst (λ (D : Deck). Pieces D u.pieces t left) (sym (run-silent u.own d D e p q)) u.more;
    }

shut-cut-step : (k fl c tm : ℕ) (es : List Entry) → ShutCut es → OpenCut es → ShutCut (entry k fl c tm ∷ es)
unfolding of_kind said run
shut-cut-step zero fl c tm es ih_s ih_o l f s now lat t₀ t left g = go (cases_lt tm f)
  where
    e : Entry
    e = entry 0 fl c tm

    d : Deck
    d = deck [] l f s

    p : looked d tm ≡ silently d
    p = look-shut (deck [] l f s) tm refl

    begun : f ≤ tm → now ≡ [] → StartParts d e es t left → ShutParts d f now lat (e ∷ es) t left
    begun h z v =
        record {
          own = [];
          pieces = (e ∷ v.own) ∷ v.pieces;
          split = ap (λ (x : List Entry). e ∷ x) v.split;
          bytes = sym z;
          timely = (tt, tt);
          others = tt;
          next = h;
          quiet = refl;
          more = (v.piece, v.more);
        }

    begins : f ≤ tm → now ≡ [] → ShutParts d f now lat (e ∷ es) t left
    begins h z = begun h z (start-cut fl c tm es ih_s ih_o l f s lat t₀ t left h (rw z at g))

    go : (tm < f) ⊎ (f ≤ tm) → ShutParts d f now lat (e ∷ es) t left
    go (inl h) =
        let w : acted d (handed e) ≡ silently d = acted-dropped d tm c fl h in
        let u = ih_s l f s now lat tm t left (going-tail p w g) in
        shut-own e es l f s s now now lat lat t left w u u.bytes u.timely (h, u.others)
    go (inr h) = begins h (heard-alone t₀ d now lat e tt h (going-head p g))
shut-cut-step (suc zero) fl c tm es ih_s ih_o l f s now lat t₀ t left g =
    let e : Entry = entry 1 fl c tm in
    let p = look-shut (deck [] l f s) tm refl in
    let w = acted-other (deck [] l f s) (look tm) tt in
    let v : Pass t₀ (silently (deck [] l f s)) (waiting now lat) e = going-head p g in
    let b : now ≡ c ∷ (v.deck_byte tt).0 = (v.deck_byte tt).1 in
    let u = ih_s l f s (drop 1 now) (tm + 10000) tm t left (going-tail p w g) in
    shut-own e es l f s s now (drop 1 now) lat (tm + 10000) t left w u
    (ap (λ (x : List ℕ). c ∷ x) u.bytes ∙ (ap (λ (x : List ℕ). c ∷ drop 1 x) b ∙ sym b)) (v.in_time (rw b tt), u.timely) u.others
shut-cut-step (suc (suc k)) fl c tm es ih_s ih_o l f s now lat t₀ t left g =
    let e : Entry = entry (suc (suc k)) fl c tm in
    let w = acted-tape k (deck [] l f s) e in
    let u = ih_s l f (taped k e s) now lat tm t left (going-tail (look-shut (deck [] l f s) tm refl) w g) in
    shut-own e es l f s (taped k e s) now now lat lat t left w u u.bytes u.timely u.others

shut-cut-end : ShutCut []
unfolding of_kind said run waits
shut-cut-end l f s now lat t₀ t left g =
    let d : Deck = deck [] l f s in
    record {
      own = [];
      pieces = [];
      split = refl;
      bytes = sym (rw (peek_is d (waiting now lat) t _ (look-shut d t refl)) at g.leaves);
      timely = (tt, tt);
      others = tt;
      next = tt;
      quiet = said-silent [] d d (look_at t) (look-shut (deck [] l f s) t refl) (acted-other d (look t) tt);
      more = tt;
    }

-- ---- a block open, and the time-out is found

-- at the first of the turn's own entries
late-own : (own : List Entry) (pieces : List (List Entry)) (e : Entry) (es : List Entry) (o : List ℕ) (l f : ℕ) (s : Settings) (t : ℕ)
    (left : List ℕ) → T (is_open o) → l + 10000 < e.time → e ∷ es ≡ own ++ concat pieces
    → contents (from_deck own) ++ left_of pieces left ≡ (expiry l).bytes → Ordered e.time (own ++ concat pieces)
    → said (expired l s).deck (own ++ ending pieces t) ≡ [] → Pieces (run (expired l s).deck own) pieces t left
    → (said (deck o l f s) (own ++ ending pieces t) ≡ expiry l ∷ []) × Pieces (run (deck o l f s) own) pieces t left
unfolding of_kind run
late-own [] [] e es o l f s t left b h p y or z m = absurd (cons≢nil p)
late-own [] (q ∷ qs) e es o l f s t left b h p y or z m = absurd (nil≢cons y)
late-own (x ∷ own) pieces e es o l f s t left b h p y or z m =
    let d : Deck = deck o l f s in
    let D : Deck = (expired l s).deck in
    let p : looked D x.time ≡ silently D = look-shut D x.time refl in
    let q : looked d x.time ≡ expired l s = looked-late d x.time b (omega (arith, or.0)) in (
      said-look (own ++ ending pieces t) d D x (expiry l ∷ []) q p ∙ ap (λ (y : List Reply). expiry l ∷ y) z,
      subst (λ (D : Deck). Pieces (run D own) pieces t left) (sym (after_look d D x (expiry l ∷ []) q p)) m,
    )

ending-late : (ps : List (List Entry)) (t u : ℕ) → u < t → First (λ e. u < e.time) (ending ps t)
ending-late [] t u h = h
ending-late (p ∷ ps) t u h = tt

open-cut-late : (e : Entry) (es : List Entry) → ShutCut (e ∷ es) → (o : List ℕ) (l f : ℕ) (s : Settings) (lat t₀ t : ℕ) (left : List ℕ)
    → T (is_open o) → l + 10000 < e.time → Going t₀ (deck o l f s) (waiting [] lat) (e ∷ es) t left
    → OpenParts (deck o l f s) o l (e ∷ es) t left
unfolding of_kind
open-cut-late e es ih_s o l f s lat t₀ t left b h g =
    record {
      head = [];
      tail = u.own;
      pieces = u.pieces;
      reply = expiry l;
      split = u.split;
      silent = refl;
      rest = first-append late (controller u.own) (controller ps ++ ending u.pieces t)
          (from u.own (ordered-first is_controller e.time u.own (ordered-left e.time u.own ps o')))
          (first-append late (controller ps) (ending u.pieces t) (from ps (after-own e.time u.own ps o'))
          (ending-late u.pieces t (l + 10000) (omega (arith, g.late, ordered-last e.time es or.1))));
      comes = own-comes (expiry l) e.time u (omega arith) (quiet-expiry l e.time) o';
      one = v.0;
      next = own-next (expiry l) e.time u (quiet-expiry l e.time) o';
      more = v.1;
    }
  where
    late : Entry → Type 0
    late x = l + 10000 < x.time

    from : (es : List Entry) → First (λ x. e.time ≤ x.time) (controller es) → First late (controller es)
    from es i = first-map (λ x. e.time ≤ x.time) late (controller es) (λ x j. omega arith) i

    d : Deck
    d = deck o l f s

    D : Deck
    D = (expired l s).deck

    g' : Going t₀ D (waiting (expiry l).bytes (l + 10001 + 9000)) (e ∷ es) t left
    g' = going-look (looked-late d e.time b h) (look-shut (deck [] l (l + 10001 + 10001) s) e.time refl) g

    u : ShutParts D (l + 10001 + 10001) (expiry l).bytes (l + 10001 + 9000) (e ∷ es) t left
    u = ih_s l (l + 10001 + 10001) s (expiry l).bytes (l + 10001 + 9000) t₀ t left g'

    ps : List Entry
    ps = concat u.pieces

    or : Ordered t₀ (e ∷ es)
    or = ordered-of-passes t₀ d (waiting [] lat) (e ∷ es) g.passes

    o' : Ordered e.time (u.own ++ ps)
    o' = subst (Ordered e.time) u.split (omega arith, or.1)

    v : (said d (u.own ++ ending u.pieces t) ≡ expiry l ∷ []) × Pieces (run d u.own) u.pieces t left
    v = late-own u.own u.pieces e es o l f s t left b h u.split u.bytes o' u.quiet u.more

-- or at the end
open-cut-end : OpenCut []
unfolding of_kind said run waits
open-cut-end o l f s lat t₀ t left b k f≤ l≤ g = go (cases_lt (l + 10000) t)
  where
    d : Deck
    d = deck o l f s

    go : (l + 10000 < t) ⊎ (t ≤ l + 10000) → OpenParts d o l [] t left
    go (inr h) = absurd (subst (λ (x : List ℕ). T (is_open x)) (rw (look-early d t h) at g.shut) b)
    go (inl h) =
        let q : looked d t ≡ expired l s = looked-late d t b h in
        record {
          head = [];
          tail = [];
          pieces = [];
          reply = expiry l;
          split = refl;
          silent = refl;
          rest = h;
          comes = record { on_time = record { first = tt; later = tt }; bytes = sym (rw (peek_is d (waiting [] lat) t _ q) at g.leaves); others = tt };
          one = said-is [] d (look_at t) (expired l s) (silently (expired l s).deck) q (acted-other (expired l s).deck (look t) tt);
          next = tt;
          more = tt;
        }

-- ---- a block open, and no time-out

-- e belongs to the head, and the deck says nothing to it
open_own : (e : Entry) (es : List Entry) (o o' : List ℕ) (l l' f : ℕ) (s s' : Settings) (t : ℕ) (left : List ℕ)
    → looked (deck o l f s) e.time ≡ silently (deck o l f s) → acted (deck o l f s) (handed e) ≡ silently (deck o' l' f s')
    → (u : OpenParts (deck o' l' f s') o' l' es t left) → from_deck (e ∷ u.head) ≡ []
    → Rest (size o) (length o) l (controller (e ∷ u.head))
    (controller u.tail ++ (controller (concat u.pieces) ++ ending u.pieces t))
    → OpenParts (deck o l f s) o l (e ∷ es) t left
open_own e es o o' l l' f s s' t left p q u n r =
    let d : Deck = deck o l f s in
    let D : Deck = deck o' l' f s' in
    record {
      head = e ∷ u.head;
      tail = u.tail;
      pieces = u.pieces;
      reply = u.reply;
      split = ap (λ (x : List Entry). e ∷ x) u.split;
      silent = n;
      rest = r;
      comes = u.comes;
      one = said-silent ((u.head ++ u.tail) ++ ending u.pieces t) d D e p q ∙ u.one;
      next = u.next;
      more = subst (λ (D : Deck). Pieces D u.pieces t left) (sym (run-silent (u.head ++ u.tail) d D e p q)) u.more;
    }

open-cut-early : (k fl c tm : ℕ) (es : List Entry) → ShutCut es → OpenCut es
    → (o : List ℕ) (l f : ℕ) (s : Settings) (lat t₀ t : ℕ) (left : List ℕ)
    → T (is_open o) → length o < size o → f ≤ l → l ≤ t₀ → tm ≤ l + 10000
    → Going t₀ (deck o l f s) (waiting [] lat) (entry k fl c tm ∷ es) t left → OpenParts (deck o l f s) o l (entry k fl c tm ∷ es) t left
unfolding of_kind
open-cut-early zero fl c tm es ih_s ih_o o l f s lat t₀ t left b k f≤ l≤ h g = go (clean-or-not e) (cases_lt (suc (length o)) (size o))
  where
    e : Entry
    e = entry 0 fl c tm

    d : Deck
    d = deck o l f s

    q : looked d tm ≡ silently d
    q = look-early d tm h

    j : f ≤ tm
    j = omega (arith, (ordered-of-passes t₀ d (waiting [] lat) (e ∷ es) g.passes).0)

    -- e ends the block, with a reply
    ends : (l' f' : ℕ) (s' : Settings) (bytes : List ℕ) (quiets : Bool)
        → acted d (handed e) ≡ record { deck = deck [] l' f' s'; replies = record { bytes = bytes; due = tm; quiets = quiets } ∷ [] }
        → QuietFrom (record { bytes = bytes; due = tm; quiets = quiets }) f' tm
        → ((later : List Entry) → Rest (size o) (length o) l (e ∷ []) later) → OpenParts d o l (e ∷ es) t left
    ends l' f' s' bytes quiets w v r =
        let u = reply-cut e es ih_s d (waiting [] lat) l' f' s' bytes quiets t₀ t left q w v g in
        record {
          head = e ∷ [];
          tail = u.own;
          pieces = u.pieces;
          reply = record { bytes = bytes; due = tm; quiets = quiets };
          split = ap (λ (x : List Entry). e ∷ x) u.split;
          silent = refl;
          rest = r (controller u.own ++ (controller (concat u.pieces) ++ ending u.pieces t));
          comes = u.comes;
          one = u.one;
          next = u.next;
          more = u.more;
        }

    go : Clean e ⊎ Dirty e → (suc (length o) < size o) ⊎ (size o ≤ suc (length o)) → OpenParts d o l (e ∷ es) t left
    go (inr n) z =
        ends l (free_after (opens_quiet fl) tm f) s (nak fl) (opens_quiet fl) (acted-flagged d tm c fl j n)
        (quiet-replied (opens_quiet fl) (nak fl) tm f j) (λ _. (h, inl (n, refl)))
    go (inl n) (inr z) =
        let x = execute s (o ++ c ∷ []) in
        let z' : suc (length o) ≡ size o = omega arith in
        ends tm (free_after x.quiets tm f) x.settings x.bytes x.quiets (acted-last d tm c fl b j n z)
        (quiet-replied x.quiets x.bytes tm f j) (λ _. (h, inr (n, inl (z', refl))))
    go (inl n) (inl z) =
        let o' : List ℕ = o ++ c ∷ [] in
        let w : acted d (handed e) ≡ silently (deck o' tm f s) = acted-more d tm c fl b j n z in
        let m : length o' < size o' = rw (length_push o c, size-more o c b) (omega (arith, z)) in
        let u = ih_o o' tm f s lat tm t left (open_more o c) m j (omega arith) (going-tail q w g) in
        let later = controller u.tail ++ (controller (concat u.pieces) ++ ending u.pieces t) in
        open_own e es o o' l tm f s s t left q w u u.silent (
          h,
          inr (
            n,
            inr (
              z,
              subst₂ (λ (a b : ℕ). Rest a b tm (controller u.head) later) (size-more o c b) (length_push o c ∙ add-one (length o)) u.rest,
            ),
          ),
        )
open-cut-early (suc zero) fl c tm es ih_s ih_o o l f s lat t₀ t left b k f≤ l≤ h g =
    absurd (nil≢cons ((going-head (look-early (deck o l f s) tm h) g).deck_byte tt).1)
open-cut-early (suc (suc k)) fl c tm es ih_s ih_o o l f s lat t₀ t left b k≤ f≤ l≤ h g =
    let e : Entry = entry (suc (suc k)) fl c tm in
    let d : Deck = deck o l f s in
    let q : looked d tm ≡ silently d = look-early d tm h in
    let w = acted-tape k d e in
    let or : Ordered t₀ (e ∷ es) = ordered-of-passes t₀ d (waiting [] lat) (e ∷ es) g.passes in
    let u = ih_o o l f (taped k e s) lat tm t left b k≤ f≤ (omega (arith, or.0)) (going-tail q w g) in
    open_own e es o o l l f s (taped k e s) t left q w u u.silent u.rest

open-cut-step : (e : Entry) (es : List Entry) → ShutCut es → OpenCut es → ShutCut (e ∷ es) → OpenCut (e ∷ es)
open-cut-step e es ih_s ih_o S o l f s lat t₀ t left b k f≤ l≤ g = go (cases_lt (l + 10000) e.time)
  where
    go : (l + 10000 < e.time) ⊎ (e.time ≤ l + 10000) → OpenParts (deck o l f s) o l (e ∷ es) t left
    go (inr h) =
        open-cut-early e.kind e.flags e.content e.time es ih_s ih_o o l f s lat t₀ t left b k f≤ l≤ h g
    go (inl h) = open-cut-late e es S o l f s lat t₀ t left b h g

-- ---- both

pub cuts : (es : List Entry) → ShutCut es × OpenCut es
cuts [] = (shut-cut-end, open-cut-end)
cuts (e ∷ es) =
    let ih : ShutCut es × OpenCut es = cuts es in
    let S : ShutCut (e ∷ es) = shut-cut-step e.kind e.flags e.content e.time es ih.0 ih.1 in
    (S, open-cut-step e es ih.0 ih.1 S)
