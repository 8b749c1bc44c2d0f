-- `Deck::next_fills` meets its contract: the test of the code comes to the one of the definition.
use Rattle.deck.proofs.Held.{ends-inside}
use Rattle.deck.proofs.Deck.next_fills.Goals as goal

pub returns : goal.returns
returns c = λ b. let d = c.args.self in ends-inside d.held d.first b d.tail
