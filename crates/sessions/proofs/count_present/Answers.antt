use Rattle.std.proofs.Common.{rules, ◌≡◌, ◌∙◌, not, nat_eq, count_by}
use Rattle.sessions.proofs.EachLaws.{present_count}
use Rattle.sessions.proofs.count_present.Goals as goal

pub returns : goal.returns
returns c =
    let e : c.count.result ≡ count_by (λ r. not (nat_eq r 0)) c.args.records.now = search rules in
    e ∙ present_count c.args.records.now
