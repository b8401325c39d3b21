-- The loop over an action's commands.
use Rattle.std.specs.Prelude.{Some, None, Ok, Err}
use Prim.Native.Nat.{ℕ, ◌-◌, ◌<◌, ◌≤◌}
use mathlib.Core.Path.{◌≡◌, refl, sym, ap, ◌∙◌, subst}
use mathlib.Core.List.{List, [], ◌∷◌, ◌++◌}
use mathlib.Core.Option.{Option, none, some}
use mathlib.Core.Bool.{Bool, true, false}
use native.Mathlib.Omega.{arith}
use Rattle.base.specs.Pick.{pick}
use Rattle.base.specs.Lists.{is_at}
use Rattle.base.proofs.PickLaws.{pick_ind}
use Rattle.megaco.specs.Bytes.{comma}
use Rattle.megaco.specs.Items.{judge_items, given?}
use Rattle.megaco.specs.Table.{fitted}
use Rattle.megaco.specs.Names.{name_of}
use Rattle.megaco.specs.Tree.{Items, Command, command}
use Rattle.megaco.specs.State.{State}
use Rattle.megaco.specs.Command.{Outcome, outcome, Targets, no_target, gateway, targets, attempts, command_error, action_error, root_targets, free_targets, match_targets, matches, not_for_root, targets_of, run_targets, from_test4, from_test2, unless_optional, from_test1, op_of, run_command}
use Rattle.protocol.specs.Types.{Context, Parsed, Op, Values, Judged, Name, Termination, Root, Chosen, Unchosen, Wildcard, Unmatched, Unknown}
use Rattle.read_command.specs.Production.{past_sign, list_of, list_p}
use Rattle.read_command.specs.Places.{command_at}
use Rattle.command_places.specs.Found.{next_at}
use Rattle.command_places.proofs.NextLaws.{part_last, part_more}
use Rattle.run_attempts.specs.Contract.{RunsTo, joined}
use Rattle.run_attempts.specs.declared.CommandOutcome.{CommandOutcome}
use Rattle.run_attempts.proofs.RunsToLaws.{command_outcome, Some as Told, some as there, Leads, leads_on, done_none}
use Rattle.run_action.specs.Fold.{run_commands}
use Rattle.run_action.proofs.Lists.{list_open}

-- ---- a command reports something

-- targets: none, the gateway, or at least one termination
data AtLeastOne : Targets → Type 0 where
  to_no_target : {code : ℕ} → AtLeastOne (no_target code)
  itself : AtLeastOne gateway
  some_targets : {wild : Bool} {i : ℕ} {is : List ℕ} → AtLeastOne (targets wild (i ∷ is))

at_least_one_match : (l : List ℕ) → AtLeastOne (match_targets l)
unfolding match_targets
at_least_one_match [] = to_no_target
at_least_one_match (i ∷ is) = some_targets

at_least_one : (op : Op) (at : Context) (items : Bool) (n : Name) (t : List ℕ) → AtLeastOne (targets_of op at items n t)
unfolding targets_of root_targets free_targets
at_least_one op at items (Termination i) t = pick_ind AtLeastOne _ _ _ (λ e. some_targets) (λ e. to_no_target)
at_least_one op at items Root t = pick_ind AtLeastOne _ _ _ (λ e. to_no_target) (λ e. pick_ind AtLeastOne _ _ _ (λ e. to_no_target) (λ e. pick_ind AtLeastOne _ _ _ (λ e. to_no_target) (λ e. itself)))
at_least_one op at items Chosen t = pick_ind AtLeastOne _ _ _ (λ e. to_no_target) (λ e. pick_ind AtLeastOne _ _ _ (λ e. to_no_target) (λ e. some_targets))
at_least_one op at items Unchosen t = pick_ind AtLeastOne _ _ _ (λ e. to_no_target) (λ e. to_no_target)
at_least_one op at items (Wildcard r) t = at_least_one_match (matches op at r t)
at_least_one op at items Unmatched t = to_no_target
at_least_one op at items Unknown t = to_no_target

-- an outcome that reports something
abbrev Tells : Outcome → Type 0
Tells x = Told x.reports

targets_tell : (op : Op) (name : List ℕ) (given : ℕ) (vs : Values) (a : Targets) (at : Context) (t : State) → AtLeastOne a → Tells (run_targets op name given vs a at t)
unfolding run_targets command_error attempts
targets_tell op name given vs _ at t to_no_target = there
targets_tell op name given vs _ at t itself = there
targets_tell op name given vs _ at t some_targets = there

test4_tells : (op : Op) (name : List ℕ) (given : ℕ) (items : Bool) (j : Judged) (at : Context) (t : State) → Tells (from_test4 op name given items j at t)
unfolding from_test4 command_error
test4_tells op name given items (Err code) at t = there
test4_tells op name given items (Ok vs) at t =
    let b : Bool = not_for_root op items vs in
    targets_tell op name given vs (targets_of op at b (name_of (fitted t.table) name) t.table) at t (at_least_one op at b (name_of (fitted t.table) name) t.table)

test2_tells : (op : Op) (name : List ℕ) (items : Items) (given : ℕ) (at : Context) (t : State) → Tells (from_test2 op name items given at t)
unfolding from_test2 command_error
test2_tells op name items given at t = pick_ind Tells _ _ _ (λ e. there) (λ e. test4_tells op name given (given? items) (judge_items op items) at t)

test1_tells : (o : Bool) (op : Option Op) (name : List ℕ) (items : Items) (given : ℕ) (at : Context) (t : State) → Tells (from_test1 o op name items given at t)
unfolding from_test1 action_error unless_optional
test1_tells o none name items given at t = there
test1_tells o (some op) name items given at t = pick_ind Tells _ _ _ (λ e. there) (λ e. test2_tells op name items given at t)

pub command_tells : (c : Command) (given : ℕ) (at : Context) (t : State) → Tells (run_command c given at t)
unfolding run_command
command_tells (command o w word name items) given at t = test1_tells o (op_of w word) name items given at t

-- ---- commands in order

module _ (c : Command) (cs : List Command) (given : ℕ) (at : Context) (t : State) where
  abbrev one : Outcome
  one = run_command c given at t

  commands_join : one.going ≡ true → run_commands (c ∷ cs) given at t ≡ joined one (run_commands cs given one.at one.state)
  unfolding run_commands joined pick
  commands_join e = rw e

  commands_stop : one.going ≡ false → run_commands (c ∷ cs) given at t ≡ one
  unfolding run_commands pick
  commands_stop e = by one.going e
    where
      by : (b : Bool) → b ≡ false → pick b (let y = run_commands cs given one.at one.state in outcome y.state (one.reports ++ y.reports) y.at y.going) one ≡ one
      by b f = rw f

-- the commands from a place, at most k
commands_open : (s : List ℕ) (k i : ℕ) → 0 < k
    → (list_p (command_at s) s k i).tree ≡ (command_at s i).tree ∷ pick (is_at s (command_at s i).end comma) (list_p (command_at s) s (k - 1) (past_sign comma s (command_at s i).end)).tree []
commands_open s k i h = list_open (λ j. (command_at s j).tree) (λ j. (command_at s j).end) s k i h

nothing_left : (s : List ℕ) (i given : ℕ) (at : Context) (t : State) → run_commands (list_p (command_at s) s 0 i).tree given at t ≡ outcome t [] at true
unfolding list_of run_commands
nothing_left s i given at t = refl

none_left : (given : ℕ) (at : Context) (t : State) → run_commands [] given at t ≡ outcome t [] at true
unfolding run_commands
none_left given at t = refl

module _ (x : Outcome) (first : Bool) (o : List ℕ) (p₀ : ℕ) (s : List ℕ) (given k i : ℕ) (at : Context) (t : State) (f : Bool) (o₁ : List ℕ) (p : ℕ)
    (l : Leads x first o p₀ true (run_commands (list_p (command_at s) s k i).tree given at t) f o₁ p) where
  -- none is left
  pub loop-none : k ≤ 0 → RunsTo x first o p₀ t o₁ (command_outcome p at true)
  loop-none h =
      let e : k ≡ 0 = omega arith in
      let m : Leads x first o p₀ true (outcome t [] at true) f o₁ p =
      subst (λ (z : Outcome). Leads x first o p₀ true z f o₁ p) (ap (λ (j : ℕ). run_commands (list_p (command_at s) s j i).tree given at t) e ∙ nothing_left s i given at t) l in
      m.to t o₁ p at true (done_none t o₁ f p at)

  module _ (t₂ : State) (o₂ : List ℕ) (w : CommandOutcome) (h : 0 < k) (d : RunsTo (run_command (command_at s i).tree given at t) f o₁ p t₂ o₂ w) where
    abbrev rest : List Command
    rest = pick (is_at s (command_at s i).end comma) (list_p (command_at s) s (k - 1) (past_sign comma s (command_at s i).end)).tree []

    opened : Leads x first o p₀ true (run_commands ((command_at s i).tree ∷ rest) given at t) f o₁ p
    opened = subst (λ (z : List Command). Leads x first o p₀ true (run_commands z given at t) f o₁ p) (commands_open s k i h) l

    -- the command stops the transaction
    pub loop-stop : w.going ≡ false → RunsTo x first o p₀ t₂ o₂ w
    loop-stop g =
        let m : Leads x first o p₀ true (run_command (command_at s i).tree given at t) f o₁ p =
        subst (λ (z : Outcome). Leads x first o p₀ true z f o₁ p) (commands_stop (command_at s i).tree rest given at t (sym d.going ∙ g)) opened in
        m.to t₂ o₂ w.next w.at w.going d

    going_on : w.going ≡ true → Leads x first o p₀ true (run_commands rest given w.at t₂) false o₂ w.next
    going_on g =
        let c : Command = (command_at s i).tree in
        let y : Outcome = run_command c given at t in
        let m : Leads x first o p₀ true (joined y (run_commands rest given y.at y.state)) f o₁ p =
        subst (λ (z : Outcome). Leads x first o p₀ true z f o₁ p) (commands_join c rest given at t (sym d.going ∙ g)) opened in
        let n : Leads x first o p₀ true (joined y (run_commands rest given w.at t₂)) f o₁ p =
        subst (λ (z : Outcome). Leads x first o p₀ true (joined y z) f o₁ p) (sym (λ j. run_commands rest given (d.place j) (d.state j))) m in
        subst (λ (b : Bool). Leads x first o p₀ b (run_commands rest given w.at t₂) false o₂ w.next) (rw g)
        (leads_on x first o p₀ true y (run_commands rest given w.at t₂) f o₁ o₂ t₂ p w (command_tells c given at t) n d)

    -- it is the last
    pub loop-last : (e : ℕ) (b : Parsed) → w.going ≡ true → e ≡ (command_at s i).end → b ≡ next_at s e → b ≡ None → RunsTo x first o p₀ t₂ o₂ w
    loop-last e b g q u v =
        let r : rest ≡ [] = part_last s e (command_at s i).end q b u (λ j. (list_p (command_at s) s (k - 1) j).tree) [] v in
        let m : Leads x first o p₀ true (outcome t₂ [] w.at true) false o₂ w.next =
        subst (λ (y : Outcome). Leads x first o p₀ true y false o₂ w.next) (ap (λ (y : List Command). run_commands y given w.at t₂) r ∙ none_left given w.at t₂) (going_on g) in
        subst (λ (y : Bool). RunsTo x first o p₀ t₂ o₂ (command_outcome w.next w.at y)) (sym g) (m.to t₂ o₂ w.next w.at true (done_none t₂ o₂ false w.next w.at))

    -- another follows
    pub loop-more : (e n : ℕ) (b : Parsed) → w.going ≡ true → e ≡ (command_at s i).end → b ≡ next_at s e → b ≡ Some n
        → Leads x first o p₀ true (run_commands (list_p (command_at s) s (k - 1) n).tree given w.at t₂) false o₂ w.next
    loop-more e n b g q u v =
        let y : rest ≡ (list_p (command_at s) s (k - 1) n).tree = part_more s e (command_at s i).end q b u (λ j. (list_p (command_at s) s (k - 1) j).tree) [] n v in
        subst (λ (a : List Command). Leads x first o p₀ true (run_commands a given w.at t₂) false o₂ w.next) y (going_on g)
