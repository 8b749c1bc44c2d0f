-- `Deck::late` meets its contract: the time-out NAK, and behind it what the byte does.
use Prim.Native.Nat.{◌-◌, ◌≤◌}
use mathlib.Core.Path.{◌≡◌, refl, ap, ◌∙◌}
use mathlib.Core.List.{[], ◌∷◌}
use native.Mathlib.Omega.{arith}
use borrow.Rule.Slice.PartMut.{mid_of}
use lib.ListN.{length, length-take, length-drop}
use Rattle.execute.specs.Replies.{nak, time_out}
use Rattle.deck.specs.Line.{deck, voided}
use Rattle.deck.specs.Calls.{Call, view}
use Rattle.deck.proofs.Found.{late-in-quiet, late-flagged, late-clean}
use Rattle.deck.proofs.Late.{overdue}
use Rattle.deck.proofs.Output.{behind, nak-answer, nak-output}
use Rattle.deck.proofs.Seen.{same-call}
use Rattle.deck.proofs.Deck.late.Goals as goal

pub overflow_add-self : goal.overflow_add-self
overflow_add-self c =
    omega (arith, overdue (view c.args.self) c.args.time c.requires.0)

pub nak-answer-requires : goal.nak-answer-requires
nak-answer-requires c =
    (omega (arith, overdue (view c.args.self) c.args.time c.requires.0), omega arith)

pub returns-then-time-deck : goal.returns-then-time-deck
returns-then-time-deck c =
    let free = ap (λ (x : Call). x.deck.free) c.nak-answer.ensures.seen-is in
    let a = c.args in
    let k = c.nak-answer.ensures in
    rw (late-in-quiet (view a.self) a.time a.content a.flags c.requires.0 (rw (← free) c.if-time-deck.true)) k

pub unwrap-len-requires : goal.unwrap-len-requires
unwrap-len-requires c =
    let part = mid_of 4 (length c.nak-answer.new.out - 4) c.nak-answer.new.out in
    let room : 4 ≤ length part = simp (length-take, length-drop) (omega arith) in
    rw (nak-answer c.args.flags part room c.nak.result c.nak.ensures.0) refl

pub returns-then-flags-ne0 : goal.returns-then-flags-ne0
returns-then-flags-ne0 c =
    let free = ap (λ (x : Call). x.deck.free) c.nak-answer.ensures.seen-is in
    let a = c.args in
    let k = c.nak-answer.ensures.seen-is in
    let m = c.nak.ensures in
    let v = c.closed.ensures in
    let part = mid_of 4 (length c.nak-answer.new.out - 4) c.nak-answer.new.out in
    let room : 4 ≤ length part = simp (length-take, length-drop) (omega arith) in
    let z = nak-answer a.flags part room c.nak.result m.0 in
    let len : c.unwrap-len.result ≡ 4 = cc in
    record {
      seen-is = rw (late-flagged (view a.self) a.time a.content a.flags c.requires.0 (rw (← free) c.if-time-deck.false)
          c.if-flags-ne0.true)
          (same-call refl (v.1 ∙ ap (λ (x : Call). x.clock) k)
          (rw c.opens_quiet.ensures at v.0 ∙ ap (λ (x : Call). (voided x.deck a.flags a.time).deck) k)
          (ap (λ (x : Call). x.first) k) (rw len)
          (behind (nak time_out) (nak a.flags) a.out.now _ _ 4 4 refl (ap (λ (x : Call). x.out) k)
          (m.1 ∙ nak-output a.flags part room)));
      made = λ _. v.2;
    }

pub returns : goal.returns
returns c =
    let free = ap (λ (x : Call). x.deck.free) c.nak-answer.ensures.seen-is in
    let a = c.args in
    let k = c.nak-answer.ensures.seen-is in
    let v = c.begin.ensures in
    record {
      seen-is = rw (late-clean (view a.self) a.time a.content a.flags c.requires.0 (rw (← free) c.if-time-deck.false)
          c.if-flags-ne0.false)
          (same-call refl (v.1 ∙ ap (λ (x : Call). x.clock) k)
          (v.0 ∙ ap (λ (x : Call). deck (a.content ∷ []) a.time x.deck.free x.deck.settings) k)
          (ap (λ (x : Call). x.first) k) (ap (λ (x : Call). x.second) k) (ap (λ (x : Call). x.out) k));
      made = λ _. v.2;
    }
