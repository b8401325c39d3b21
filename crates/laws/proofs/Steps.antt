-- A step acts in its footprint only, and by what it sees of its footprint only.
use Rattle.std.specs.Prelude.{Ok, Err}
use Prim.Native.Nat.{ℕ, ◌-◌}
use mathlib.Core.Path.{◌≡◌, refl, sym, ap, ◌∙◌, subst}
use mathlib.Core.Bool.{Bool, true, false, ◌&&◌, ◌||◌}
use mathlib.Core.List.{List, [], ◌∷◌, ◌++◌}
use mathlib.Core.Option.{Option, none, some}
use lib.Dec.{eqb}
use Rattle.base.specs.Pick.{pick}
use Rattle.base.specs.Lists.{same}
use Rattle.megaco.specs.Bytes.{capitals}
use Rattle.megaco.specs.Table.{line_terminations, fitted, ctx, get, Write, apply, exists, known, place_in}
use Rattle.megaco.specs.State.{State, wrote, renewed}
use Rattle.megaco.specs.Blocks.{block_at, cleared}
use Rattle.megaco.specs.declared.Block.{Block}
use Rattle.megaco.specs.Tree.{Items, Command, command, Triple, triple}
use Rattle.megaco.specs.Topology.{triples_of, meant, party, Link, link, link_of, links_of}
use Rattle.megaco.specs.Names.{name_of}
use Rattle.megaco.specs.Items.{judge_items, given?}
use Rattle.megaco.specs.Reply.{Report, Acted}
use Rattle.megaco.specs.Attempt.{seen, number_of, look, Effect, effect}
use Rattle.megaco.specs.Command.{Outcome, outcome, attempts, command_error, action_error, Targets, no_target, gateway, targets, root_targets, targets_of, run_targets, op_of, forbidden_in_null, no_context, not_for_root, from_test4, from_test2, unless_optional, from_test1, run_command}
use Rattle.megaco.specs.Action.{started}
use Rattle.megaco.specs.Transaction.{Step, start, command_step, Progress, progress, Course, course, begin, advance, proceed, step}
use Rattle.protocol.specs.Types.{Context, Op, Name, Termination, Root, Chosen, Unchosen, Wildcard, Unmatched, Unknown, Judged, Values, Seen, View, Absent, Outside, Member}
use Rattle.megaco.proofs.Sizes.{fitted_is, fitted_same}
use Rattle.laws.proofs.Frame.{AllOurs, nothing, Foot, Closed, Agree}
use Rattle.laws.proofs.Views.{Seat, seat_known, seat_same, place_same, look_same}
use Rattle.laws.proofs.Written.{seat_home, seat_above, OursAlone, effect_lies, started_lies}

-- what a step writes, and how its transaction then stands
pub record Change : Type 0 where
  pub writes : List Write
  pub next : Progress

abbrev pub enact : Change → State → Course
enact e st = course (wrote e.writes st) e.next

-- whom a name means that is tried on no termination
data NoTermination : Targets → Type 0 where
  to_no_target : {code : ℕ} → NoTermination (no_target code)
  itself : NoTermination gateway

no_target_pick : (b : Bool) (x y : Targets) → NoTermination x → NoTermination y → NoTermination (pick b x y)
unfolding pick
no_target_pick true x y p q = p
no_target_pick false x y p q = q

root_no_target : (op : Op) (w : Context) (items : Bool) → NoTermination (root_targets op w items)
unfolding root_targets
root_no_target op w items = no_target_pick _ _ _ to_no_target (no_target_pick _ _ _ to_no_target (no_target_pick _ _ _ to_no_target itself))

module _ (lines : ℕ) (N K : ℕ → Type 0) where
  -- a name that means a termination of the footprint, or none
  abbrev pub Means : Name → Type 0
  Means (Termination i) = N i
  Means Root = Unit {0}
  Means Chosen = ⊥
  Means Unchosen = ⊥
  Means (Wildcard r) = ⊥
  Means Unmatched = ⊥
  Means Unknown = Unit {0}

  -- "a name in a triple counts as written as a termination"
  abbrev pub EachMeans : List Triple → Type 0
  EachMeans [] = Unit {0}
  EachMeans (triple a b d ∷ ts) = (Means (name_of lines a) × Means (name_of lines b)) × EachMeans ts

  abbrev pub Named : Step → Type 0
  Named (start w ps alone) = Seat lines N K w × EachMeans (triples_of ps)
  Named (command_step (command o wild word name items)) = Means (name_of lines name)

  -- the running action stands in null or in a context of the footprint
  abbrev pub Seats : List Acted → Type 0
  Seats [] = Unit {0}
  Seats (a ∷ acts) = Seat lines N K a.at

  -- two states look alike to the footprint: so do their tables, and the blocks are the same
  pub record AgreeIn (st u : State) : Type 0 where
    pub table : Agree lines N K st.table u.table
    pub blocks : st.blocks ≡ u.blocks

  -- ---- a command that is local: what it writes and reports is the same on every table that the footprint takes for st

  record Local (f : State → Outcome) (st : State) : Type 0 where
    writes : List Write
    reports : List Report
    at : Context
    going : Bool
    all : AllOurs lines N K writes
    seat : Seat lines N K at
    on : (u : State) → AgreeIn st u → f u ≡ outcome (wrote writes u) reports at going

  -- it may first read what the footprint tells
  local_reads : {A : Type 0} (st : State) (r : State → A) (f : A → State → Outcome) → ((u : State) → AgreeIn st u → r st ≡ r u)
      → Local (f (r st)) st → Local (λ u. f (r u) u) st
  local_reads st r f e l =
      record {
        writes = l.writes;
        reports = l.reports;
        at = l.at;
        going = l.going;
        all = l.all;
        seat = l.seat;
        on = λ u a. ap (λ x. f x u) (sym (e u a)) ∙ l.on u a;
      }

  -- a test that the footprint does not touch
  local_pick : (st : State) (b : Bool) (f g : State → Outcome) → Local f st → (b ≡ false → Local g st) → Local (λ u. pick b (f u) (g u)) st
  unfolding pick
  local_pick st true f g p q = p
  local_pick st false f g p q = q refl

  -- it writes nothing
  local_still : (st : State) (rs : List Report) (w : Context) (g : Bool) → Seat lines N K w → Local (λ u. outcome u rs w g) st
  unfolding apply
  local_still st rs w g s = record { writes = []; reports = rs; at = w; going = g; all = nothing; seat = s; on = λ u a. refl }

  local_command_error : (st : State) (op : Op) (name : List ℕ) (code : ℕ) (w : Context) → Seat lines N K w → Local (λ u. command_error op name code w u) st
  unfolding command_error
  local_command_error st op name code w s = local_still st _ w _ s

  local_error : (st : State) (code : ℕ) (w : Context) → Seat lines N K w → Local (λ u. action_error code w u) st
  unfolding action_error
  local_error st code w s = local_still st _ w _ s

  module _ (F : Foot lines N K) (st : State) (c : Closed lines N K st.table) where
    fit : fitted st.table ≡ lines
    fit = fitted_is lines st.table c.long

    -- one attempt, of a termination that exists in a context that exists
    local_try : (op : Op) (name : List ℕ) (given : ℕ) (vs : Values) (i : ℕ) (w : Context) → Seat lines N K w → N i → exists (fitted st.table) i (get st.table (ctx i)) ≡ true
        → forbidden_in_null op w ≡ false → no_context op w (seen (number_of w) st.table).held ≡ false → Local (λ u. attempts op false name given vs (i ∷ []) w u) st
    unfolding attempts cleared
    local_try op name given vs i w s m x b l =
        local_reads st sees (λ v u. let e = effect op false name given vs i w v.0 v.1 in outcome (renewed e.blocks (wrote e.writes u)) (e.report ∷ []) e.at (e.good && true))
        (λ u a j. (look_same lines N K F st.table u.table a.table fit w i c s m j, block_at (i - line_terminations (fitted_same st.table u.table a.table.long j)) (a.blocks j)))
        (record {
          writes = e.writes;
          reports = e.report ∷ [];
          at = e.at;
          going = e.good && true;
          all = lies.all;
          seat = lies.seat;
          on = λ u a. ap (λ (ks : List ℕ). outcome (renewed ks (wrote e.writes u)) (e.report ∷ []) e.at (e.good && true)) lies.still;
        })
      where
        -- the view, and the block of the termination
        sees : State → View × Block
        sees u = (look w i u.table, block_at (i - line_terminations (fitted u.table)) u.blocks)

        e : Effect
        e = effect op false name given vs i w (sees st).0 (sees st).1

        lies : OursAlone lines N K F e
        lies = effect_lies lines N K F op false name given vs i w (sees st).0 (sees st).1 (unfold look in fit) s m (unfold look in x) (unfold look in c.home i m) (seat_home lines N K op w st.table s l) (λ x. seat_above lines N K op w st.table s x b l)

    module _ (op : Op) (name : List ℕ) (given : ℕ) (w : Context) (s : Seat lines N K w) (b : forbidden_in_null op w ≡ false) (l : no_context op w (seen (number_of w) st.table).held ≡ false) where
      -- a name that means nobody to try
      local_no_target : (vs : Values) (x : Targets) → NoTermination x → Local (λ u. run_targets op name given vs x w u) st
      unfolding run_targets
      local_no_target vs _ (to_no_target {code = code}) = local_command_error st op name code w s
      local_no_target vs _ itself = local_still st _ w true s

      -- a termination of the footprint
      local_met : (vs : Values) (i : ℕ) → N i → (b : Bool) → exists (fitted st.table) i (get st.table (ctx i)) ≡ b → Local (λ u. run_targets op name given vs (pick b (targets false (i ∷ [])) (no_target 430)) w u) st
      unfolding run_targets pick
      local_met vs i m true e = local_try op name given vs i w s m e b l
      local_met vs i m false e = local_no_target vs (no_target 430) to_no_target

      local_targets : (items : Bool) (vs : Values) (n : Name) → Means n → Local (λ u. run_targets op name given vs (targets_of op w items n u.table) w u) st
      unfolding targets_of
      local_targets items vs (Termination i) m =
          local_reads st (λ u. exists (fitted u.table) i (get u.table (ctx i))) (λ b u. run_targets op name given vs (pick b (targets false (i ∷ [])) (no_target 430)) w u)
          (λ u a j. exists (fitted_same st.table u.table a.table.long j) i (a.table.same (ctx i) (F.small i m) m j)) (local_met vs i m (exists (fitted st.table) i (get st.table (ctx i))) refl)
      local_targets items vs Root m = local_no_target vs _ (root_no_target op w items)
      local_targets items vs Chosen m = absurd m
      local_targets items vs Unchosen m = absurd m
      local_targets items vs (Wildcard r) m = absurd m
      local_targets items vs Unmatched m = absurd m
      local_targets items vs Unknown m = local_no_target vs (no_target 430) to_no_target

      local_named : (items : Bool) (j : Judged) → Means (name_of lines name) → Local (λ u. from_test4 op name given items j w u) st
      unfolding from_test4
      local_named items (Err code) m = local_command_error st op name code w s
      local_named items (Ok vs) m =
          local_reads st (λ u. name_of (fitted u.table) name) (λ n u. run_targets op name given vs (targets_of op w (not_for_root op items vs) n u.table) w u) (λ u a. ap (λ (k : ℕ). name_of k name) (fitted_same st.table u.table a.table.long))
          (local_targets (not_for_root op items vs) vs (name_of (fitted st.table) name) (subst (λ (k : ℕ). Means (name_of k name)) (sym fit) m))

    local_tested : (op : Op) (name : List ℕ) (items : Items) (given : ℕ) (w : Context) → Seat lines N K w → forbidden_in_null op w ≡ false → Means (name_of lines name)
        → Local (λ u. from_test2 op name items given w u) st
    unfolding from_test2
    local_tested op name items given w s b m =
        local_reads st (λ u. (seen (number_of w) u.table).held) (λ h u. pick (no_context op w h) (command_error op name 411 w u) (from_test4 op name given (given? items) (judge_items op items) w u))
        (λ u a. ap (λ (x : Seen). x.held) (seat_same lines N K F st.table u.table a.table fit w s))
        (local_pick st (no_context op w (seen (number_of w) st.table).held) _ _ (local_command_error st op name 411 w s)
        (λ l. local_named op name given w s b l (given? items) (judge_items op items) m))

    local_optional : (o : Bool) (f : State → Outcome) → Local f st → Local (λ u. unless_optional o (f u)) st
    unfolding unless_optional
    local_optional o f l =
        record {
          writes = l.writes;
          reports = l.reports;
          at = l.at;
          going = l.going || o;
          all = l.all;
          seat = l.seat;
          on = λ u a. ap (unless_optional o) (l.on u a);
        }

    local_ordered : (o : Bool) (op : Option Op) (name : List ℕ) (items : Items) (given : ℕ) (w : Context) → Seat lines N K w → Means (name_of lines name)
        → Local (λ u. from_test1 o op name items given w u) st
    unfolding from_test1
    local_ordered o none name items given w s m = local_error st 443 w s
    local_ordered o (some op) name items given w s m =
        local_pick st (forbidden_in_null op w) _ _ (local_error st 421 w s) (λ b. local_optional o _ (local_tested op name items given w s b m))

    local_command : (x : Command) (given : ℕ) (w : Context) → Seat lines N K w → Named (command_step x) → Local (λ u. run_command x given w u) st
    unfolding run_command
    local_command (command o wild word name items) given w s m = local_ordered o (op_of wild word) name items given w s m

  -- ---- an action's triples: whom their names mean is the same on every table that the footprint takes for this one

  module _ (F : Foot lines N K) (t u : List ℕ) (a : Agree lines N K t u) (f : fitted t ≡ lines) (c : ℕ) (s : known c ≡ true → K c) where
    meant_same : (n : Name) → Means n → meant c t n ≡ meant c u n
    unfolding meant
    meant_same (Termination i) m =
        let p : get t (ctx i) ≡ get u (ctx i) = a.same (ctx i) (F.small i m) m in
        let k : place_in c i t ≡ place_in c i u = place_same lines N K F t u a f c i s (F.small i m) in
        λ j. pick (exists (fitted_same t u a.long j) i (p j)) (pick (eqb (p j) c) (Member (k j)) Outside) Absent
    meant_same Root m = refl
    meant_same Chosen m = absurd m
    meant_same Unchosen m = absurd m
    meant_same (Wildcard r) m = absurd m
    meant_same Unmatched m = absurd m
    meant_same Unknown m = refl

    party_same : (name : List ℕ) → Means (name_of lines name) → party c t name ≡ party c u name
    unfolding party
    party_same name m = rw (f, sym (fitted_same t u a.long) ∙ f) (meant_same (name_of lines name) m)

    links_same : (ts : List Triple) → EachMeans ts → links_of c t ts ≡ links_of c u ts
    unfolding links_of link_of
    links_same [] m = refl
    links_same (triple x y d ∷ ts) m =
        λ j. link (same (capitals x) (capitals y)) (party_same x m.0.0 j) (party_same y m.0.1 j) d ∷ links_same ts m.1 j

  -- ---- the locality of a step: one change, on every table that the footprint takes for st

  pub record Acts (f : State → Course) (st : State) : Type 0 where
    pub change : Change
    pub all : AllOurs lines N K change.writes
    pub seats : Seats change.next.acts
    pub on : (u : State) → AgreeIn st u → f u ≡ enact change u

  acts_still : (st : State) (p : Progress) → Seats p.acts → Acts (λ u. course u p) st
  unfolding apply
  acts_still st p s = record { change = record { writes = []; next = p }; all = nothing; seats = s; on = λ u a. refl }

  module _ (F : Foot lines N K) (st : State) (c : Closed lines N K st.table) where
    acts_proceed : (s : Step) (acts : List Acted) → Named s → Seats acts → Acts (λ u. proceed s u acts) st
    unfolding proceed begin advance
    acts_proceed (start w ps alone) acts m h =
        let links : List Link = links_of (number_of w) st.table (triples_of ps) in
        let lies = started_lies lines N K F w ps alone st.table links m.0 in
        let x = started w ps alone (seen (number_of w) st.table) links in
        let f : fitted st.table ≡ lines = fitted_is lines st.table c.long in
        record {
          change = record { writes = x.writes; next = progress x.going (x.acted ∷ acts) };
          all = lies.all;
          seats = lies.seat;
          on = λ u a. ap (λ (y : Seen). begin (started w ps alone y (links_of (number_of w) u.table (triples_of ps))) u acts) (sym (seat_same lines N K F st.table u.table a.table f w m.0))
              ∙ ap (λ (y : List Link). begin (started w ps alone (seen (number_of w) st.table) y) u acts) (sym (links_same F st.table u.table a.table f (number_of w) (seat_known lines N K w m.0) (triples_of ps) m.1));
        }
    acts_proceed (command_step x) [] m h = acts_still st (progress true []) tt
    acts_proceed (command_step x) (a ∷ acts) m h =
        let l = local_command F st c x a.given a.at h m in
        record {
          change = record { writes = l.writes; next = progress l.going (record { at = l.at; given = a.given; said = a.said ++ l.reports } ∷ acts) };
          all = l.all;
          seats = l.seat;
          on = λ u e. ap (λ (y : Outcome). advance y a acts) (l.on u e);
        }

    -- a transaction that has stopped stays as it is
    pub acts : (s : Step) (p : Progress) → Named s → Seats p.acts → Acts (λ u. step s (course u p)) st
    unfolding step pick
    acts s p m h = by p.going
      where
        by : (g : Bool) → Acts (λ u. pick g (proceed s u p.acts) (course u p)) st
        by true = acts_proceed s p.acts m h
        by false = acts_still st p h
