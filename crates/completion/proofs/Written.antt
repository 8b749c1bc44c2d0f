-- Entries put on a page as bytes.
use Rattle.std.specs.Prelude.{Option, Some, None, Result, Ok, Err, is_ok}
use Prim.Native.Nat.{ℕ, ◌+◌, ◌≤◌, ◌<◌}
use mathlib.Core.Path.{◌≡◌, refl, sym, ap, ◌∙◌}
use mathlib.Core.List.{List, [], ◌∷◌, ◌++◌, append_assoc}
use lib.ListN.{length, take, drop, get_or, take-append-drop}
use borrow.Table.Elements.{map_app}
use Rattle.std.proofs.lemmas.List.{take_more}
use Rattle.refusal.specs.declared.Refusal.{Refusal}
use Rattle.deck.specs.declared.Sent.{Sent}
use Rattle.deck.specs.Line.{Reply}
use Rattle.record.specs.declared.Entry.{Entry}
use Rattle.record.specs.Entries.{entry}
use Rattle.record.specs.Bytes.{bytes_of, record_of}
use Rattle.record.proofs.Records.{record-append, record-one}
use Rattle.text.specs.declared.Page.{Page}
use Rattle.text.specs.Puts.{Adds}
use Rattle.text.proofs.Writing.{stops}
use Rattle.completion.specs.Completed.{on_line, with_reply}
use Rattle.completion.specs.Calls.{reply, with_answer}
use Rattle.completion.proofs.Placed.{with-last, with-before}

-- ---- the same text, whatever the call hands out

module _ {A B : Type 0} {a b : Page} {xs : List ℕ} {r : Result A Refusal} where
  pub taken : {x : A} {y : B} → r ≡ Ok x → Adds a xs b r → Adds a xs b (Ok y)
  taken is w = record { fits = λ h. (refl, (w.fits h).1); same = w.same }

  pub refused : {e : Refusal} → r ≡ Err e → (s : Result B Refusal) → Adds a xs b r → Adds a xs b s
  refused is s w = record { fits = λ h. let ok = (w.fits h).0 in let err = ap is_ok is in absurd (cc); same = w.same }

-- ---- a reply

-- the record of so many of its bytes
abbrev pub sent : (due : ℕ) (bytes : List ℕ) → List ℕ
sent due bytes = record_of (on_line (reply due bytes))

pub sent-more : (due i : ℕ) (bytes : List ℕ) → i < length bytes
    → sent due (take (i + 1) bytes) ≡ sent due (take i bytes) ++ bytes_of (entry 1 0 (get_or bytes i 0) due)
sent-more due i bytes h = rw (take_more bytes i 0 h, map_app, record-append, record-one)

-- round one of them
pub sent-around : (due i : ℕ) (bytes : List ℕ) → i < length bytes
    → sent due bytes ≡ sent due (take i bytes) ++ (bytes_of (entry 1 0 (get_or bytes i 0) due) ++ sent due (drop (i + 1) bytes))
sent-around due i bytes h =
    ap (sent due) (sym (take-append-drop (i + 1) bytes)) ∙ rw (map_app, record-append) (rw (sent-more due i bytes h) (append_assoc (sent due (take i bytes)) _ _))

-- ---- an entry and a reply

module _ (e : Entry) (r : Reply) where
  pub reply-behind : e.time ≤ r.due → record_of (with_reply (e ∷ []) r) ≡ bytes_of e ++ record_of (on_line r)
  reply-behind h = rw (with-last (e ∷ []) r (h, tt), record-append (e ∷ []) (on_line r), record-one)

  pub reply-before : r.due < e.time → record_of (with_reply (e ∷ []) r) ≡ record_of (on_line r) ++ bytes_of e
  reply-before h = rw (with-before e r h, record-append, record-one)

-- where the first reply is not put, nor is what is behind it
pub unanswered : {a b : Page} {r : Result (Unit {0}) Refusal} {x : Refusal} (e : Entry) (s : Sent) (q : Option Sent) (bytes : List ℕ)
    → r ≡ Err x → (t : Result (Unit {0}) Refusal) → Adds a (record_of (with_reply (e ∷ []) (reply s.due (take s.len bytes)))) b r
    → Adds a (record_of (with_answer e (Some s) q bytes)) b t
unanswered e s None bytes is t w = refused is t w
unanswered e s (Some p) bytes is t w = rw record-append (stops w is _ _)
