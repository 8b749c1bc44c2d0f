-- `put_answer` meets its contract, by how many replies there are.
use Rattle.record.proofs.Records.{record-one, record-append}
use Rattle.text.proofs.Writing.{behind}
use Rattle.completion.proofs.Written.{unanswered}
use Rattle.completion.proofs.put.put_answer.Goals as goal

pub returns-in_default : goal.returns-in_default
returns-in_default c = rw (c.in_default.is, record-one) c.put_entry.ensures

pub returns-in_err-put_both : goal.returns-in_err-put_both
returns-in_err-put_both c =
    let both = rw c.split_at.ensures.front at c.put_both.ensures in
    rw c.in-Some.is (unanswered c.args.e _ c.args.answer.now.second _ c.in_err-put_both.was _ both)

pub returns : goal.returns
returns c =
    let both = rw (c.split_at.ensures.front, c.in_ok-put_both.was) at c.put_both.ensures in
    let second = rw c.split_at.ensures.back at c.put_reply.ensures in
    rw (c.in-Some.is, c.in-Some-second.is, record-append) (behind both second)
