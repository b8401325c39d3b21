-- The proof of the cycle {put_groups}: the number of groups left falls at each call. Assumes nothing.
use borrow.Author.Rules.{rules}
use Prim.Native.Nat.{ℕ, ◌<◌}
use borrow.Fn.Kinds.{In}
use borrow.Fn.PlainCycle.{Measures, is, falls, and}
use Rattle.groups.proofs.PutLaws.{some_left, group_falls, group_last, group_more}
use Rattle.groups.proofs.put_groups.Reads as put-groups
use Rattle.groups.proofs.put_groups.Kinds as put-groups-kinds
use Rattle.groups.proofs.+put_groups.Lts-put_groups as put-groups-lts
use Rattle.groups.proofs.put_low.Reads as put-low-reads
use Rattle.groups.proofs.+put_groups.{statement}
use Rattle.groups.proofs.+put_groups.Tie.{close}

abbrev μ-put-groups : Measures 1 put-groups-kinds.ps ℕ
μ-put-groups κs a = a.1.1.0

abbrev put_groups_at : ℕ → In 1 put-groups-kinds.ps
put_groups_at t = and 1 put-groups-kinds.ps (is 1 put-groups-kinds.ps μ-put-groups t) put-groups.Pre

abbrev put_groups_below : ℕ → In 1 put-groups-kinds.ps
put_groups_below t = and 1 put-groups-kinds.ps (falls 1 put-groups-kinds.ps ◌<◌ μ-put-groups t) put-groups.Pre

pub +put_groups_spec : {M : Type 1} → statement M
+put_groups_spec =
    close μ-put-groups λ t.
    put-groups-lts.spec
    (put-low-reads.Asked, put-low-reads.Learnt, put_groups_below t, put-groups.Post)
    (put_groups_at t)
    put-groups.Post
    (λ c κs. search rules)
    (λ c. search rules)
    (λ c κs. search rules)
    (λ c. search some_left)
    (λ c κs. (search rules, search group_falls))
    (λ c. search rules)
    (λ c. search group_last)
    (λ c. search rules)
    (λ c. search group_more)
