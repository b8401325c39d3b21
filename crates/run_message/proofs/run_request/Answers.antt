use Rattle.std.proofs.Common.{rules, refl, sym}
use Rattle.run_message.proofs.ServeLaws.{from_ends, runs_new, answers_kept}
use Rattle.run_message.proofs.run_request.Goals as goal

pub returns-in_default : goal.returns-in_default
returns-in_default c =
    let k = rw c.new-kept.ensures at c.in_default.ensures in
    (runs_new _ _ _ _ _ _ _ _ _ 0 c.transaction_places-a.ensures (sym k) refl c.requires.0 _ _ _ _ _ c.run_transaction.ensures.0, search (from_ends, rules))

pub returns : goal.returns
returns c =
    let k = rw c.new-kept.ensures at c.in-Some.ensures.0 in
    let x = rw c.new-kept.ensures at c.put_reply-q.ensures in
    (answers_kept _ _ _ _ _ _ _ _ _ _ c.transaction_places-a.ensures k c.in-Some.ensures.1 _ _ x, search rules)
