-- What is printed of a call of the deck, from what its caller sees.
use Rattle.std.specs.Prelude.{ℕ, false, cond, Option, Some, None, List, [], ◌++◌, eqb, take, drop}
use Rattle.deck.specs.declared.Deck.{Deck as Held}
use Rattle.deck.specs.declared.Sent.{Sent}
use Rattle.deck.specs.Calls.{Call, len_of, view}
use Rattle.text.specs.Text.{at_line}
use Rattle.report.specs.Text.{refused}
use Rattle.report.specs.Transcript.{Standing, reply_line}

-- the code's deck between two entries
abbrev pub standing : Held → Standing
standing d = record { clock = d.clock; deck = view d }

-- the reply with this length and due time, if there is one, whose bytes stand at the front of these. Whether it opens a quiet is
-- not printed.
unfoldable pub sent_line : Option Sent → List ℕ → List ℕ
sent_line None bytes = []
sent_line (Some s) bytes = reply_line (record { bytes = take s.len bytes; due = s.due; quiets = false })

-- two such replies, one behind the other
abbrev pub sent_lines : (first second : Option Sent) (bytes : List ℕ) → List ℕ
sent_lines first second bytes = sent_line first bytes ++ sent_line second (drop (len_of first) bytes)

-- the call for the entry with number k; the bytes of the replies stand in the output
unfoldable pub call_lines : ℕ → Call → List ℕ
call_lines k c = cond (eqb c.no 0) (sent_lines c.first c.second c.out) (at_line refused c.no k)
