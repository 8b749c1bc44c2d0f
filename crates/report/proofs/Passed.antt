-- What the loop over a record's entries has put so far.
use Rattle.std.specs.Prelude.{Result, Ok, Err}
use Prim.Native.Nat.{ℕ, ◌+◌}
use mathlib.Core.Path.{◌≡◌, refl}
use mathlib.Core.List.{List, [], ◌∷◌, ◌++◌, append_assoc}
use native.Mathlib.Numerals.{add-one}
use Rattle.refusal.specs.declared.Refusal.{Refusal}
use Rattle.record.specs.declared.Entry.{Entry}
use Rattle.text.specs.declared.Page.{Page}
use Rattle.text.specs.Puts.{Adds}
use Rattle.text.proofs.Writing.{nothing, behind, stops}
use Rattle.report.specs.Transcript.{Standing, entry_lines, stands, settings_lines, transcript_from}

-- ---- a transcript, line by line

transcript-next : (k : ℕ) (s : Standing) (e : Entry) (es : List Entry)
    → transcript_from k s (e ∷ es) ≡ entry_lines k s e ++ transcript_from (k + 1) (stands s e) es
unfolding transcript_from
transcript-next k s e es = rw (add-one k)

transcript-end : (k : ℕ) (s : Standing) → transcript_from k s [] ≡ settings_lines s.deck.settings
unfolding transcript_from
transcript-end k s = refl

-- ---- the loop

-- k entries are passed: their lines stand on the page, and with those of the entries that are left they are the whole
pub record Inv (text : List ℕ) (before after : Page) (k : ℕ) (s : Standing) (left : List Entry) : Type 0 where
  pub lines : List ℕ
  pub puts : Adds before lines after (Ok (tt {0}))
  pub whole : lines ++ transcript_from k s left ≡ text

pub at_first : (p : Page) (k : ℕ) (s : Standing) (es : List Entry) → Inv (transcript_from k s es) p p k s es
at_first p k s es = record { lines = []; puts = nothing p; whole = refl }

module _ {text : List ℕ} {p q : Page} {k : ℕ} {s : Standing} where
  module _ {e : Entry} {es : List Entry} (v : Inv text p q k s (e ∷ es)) where
    pub passed : {next : Page} → Adds q (entry_lines k s e) next (Ok (tt {0})) → Inv text p next (k + 1) (stands s e) es
    passed a =
        record { lines = v.lines ++ entry_lines k s e; puts = behind v.puts a; whole = rw (append_assoc, ← transcript-next k s e es) v.whole }

    pub stopped : {next : Page} {r : Result (Unit {0}) Refusal} {why : Refusal} → Adds q (entry_lines k s e) next r → r ≡ Err why
        → (t : Result (Unit {0}) Refusal) → Adds p text next t
    stopped a fails t = rw (← v.whole, transcript-next k s e es) (behind v.puts (stops a fails _ t))

  pub at_last : Inv text p q k s [] → {end : Page} {r : Result (Unit {0}) Refusal} → Adds q (settings_lines s.deck.settings) end r
      → Adds p text end r
  at_last v a = rw (← v.whole, transcript-end k s) (behind v.puts a)
