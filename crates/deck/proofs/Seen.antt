-- What is seen of an answer.
use Prim.Native.Nat.{ℕ}
use mathlib.Core.Path.{◌≡◌, refl, ap}
use mathlib.Core.List.{List}
use Rattle.std.proofs.Common.{None}
use Rattle.settings.specs.declared.Settings.{Settings}
use Rattle.deck.specs.declared.Answer.{Answer as Answered}
use Rattle.deck.specs.declared.Deck.{Deck as Held}
use Rattle.deck.specs.Line.{Answer, silently, with_settings}
use Rattle.deck.specs.Calls.{Call, Made, view, Comes}
use Rattle.deck.proofs.Made.{made_so}

-- two calls are equal if their fields are
pub same-call : {j k : Call} → j.no ≡ k.no → j.clock ≡ k.clock → j.deck ≡ k.deck
    → j.first ≡ k.first → j.second ≡ k.second → j.out ≡ k.out → j ≡ k
same-call n c d f s o = λ i. record { no = n i; clock = c i; deck = d i; first = f i; second = s i; out = o i }

-- an answer without a reply
abbrev pub unsaid : Held → Answered
unsaid d = record { deck = d; first = None; second = None }

pub silent : (d e : Held) (out : List ℕ) → e.clock ≡ d.clock → (Made d → Made e) → Comes d (silently (view e)) out (unsaid e) out
silent d e out c m = record { seen-is = same-call refl c refl refl refl refl; made = m }

-- an answer with other settings
abbrev pub resettled : (Settings → Settings) → Answered → Answered
resettled f r =
    let d = r.deck in
    record {
      deck = record {
        clock = d.clock;
        last = d.last;
        free = d.free;
        held = d.held;
        first = d.first;
        tail = d.tail;
        settings = f d.settings;
      };
      first = r.first;
      second = r.second;
    }

pub comes-resettled : (f : Settings → Settings) (d : Held) (a : Answer) (entry exit : List ℕ) (r : Answered) → Comes d a entry r exit
    → Comes d (record { deck = with_settings a.deck (f a.deck.settings); replies = a.replies }) entry (resettled f r) exit
comes-resettled f d a entry exit r c =
    record {
      seen-is = ap
          (λ (k : Call). record {
            no = k.no;
            clock = k.clock;
            deck = with_settings k.deck (f k.deck.settings);
            first = k.first;
            second = k.second;
            out = k.out;
          }) c.seen-is;
      made = λ m. made_so r.deck (resettled f r).deck refl refl refl (c.made m);
    }
