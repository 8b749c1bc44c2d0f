-- `put_entry` meets its contract.
use Rattle.text.proofs.Writing.{adds}
use Rattle.completion.proofs.put.put_entry.Goals as goal

pub returns : goal.returns
returns c = adds (rw c.to_bytes.ensures at c.words.ensures)
