-- `put_sent` meets its contract: the word, the due time and the bytes, one behind the other.
use Rattle.text.specs.Text.{hex_line}
use Rattle.text.proofs.Writing.{adds, nothing, behind, stops}
use Rattle.report.specs.Answered.{sent_line}
use Rattle.report.proofs.entries.put_sent.Goals as goal

pub returns-in_default : goal.returns-in_default
unfolding sent_line
returns-in_default c = rw c.in_default.is (nothing _)

pub returns-in_err-words : goal.returns-in_err-words
unfolding sent_line
returns-in_err-words c = rw c.in-Some.is (stops (adds c.words.ensures) c.in_err-words.was _ _)

pub returns-in_err-decimal : goal.returns-in_err-decimal
unfolding sent_line hex_line
returns-in_err-decimal c = rw c.in-Some.is (behind (adds c.words.ensures) (stops (adds c.decimal.ensures) c.in_err-decimal.was _ _))

pub returns : goal.returns
unfolding sent_line hex_line
returns c = rw c.in-Some.is (behind (adds c.words.ensures) (behind (adds c.decimal.ensures) (adds c.hex_line.ensures)))
