-- The loop over a transaction's actions.
use Rattle.std.specs.Prelude.{Some, None}
use Prim.Native.Nat.{ℕ, ◌+◌, ◌-◌, ◌<◌, ◌≤◌, min, max}
use mathlib.Core.Path.{◌≡◌, refl, sym, ap, ◌∙◌, subst}
use mathlib.Core.List.{List, [], ◌∷◌}
use mathlib.Core.Bool.{Bool, true, false}
use lib.ListN.{length, replicate, take, length-replicate}
use native.Mathlib.Omega.{arith}
use Rattle.base.specs.Pick.{pick}
use Rattle.base.specs.Lists.{is_at}
use Rattle.base.specs.Bytes.{text, put, ◌then◌}
use Rattle.base.specs.Out.{Appended}
use Rattle.base.proofs.OutLaws.{◌▸◌, none, copied, same_length_by}
use Rattle.megaco.specs.Bytes.{comma}
use Rattle.megaco.specs.Table.{sound}
use Rattle.megaco.specs.Reading.{unlimited}
use Rattle.megaco.specs.Tree.{Action, action, transaction}
use Rattle.megaco.specs.Reply.{reports_text, separator, action_text, reply_text}
use Rattle.megaco.specs.State.{State, state}
use Rattle.megaco.specs.Command.{Outcome}
use Rattle.megaco.specs.Transaction.{Ran, ran, run_transaction}
use Rattle.protocol.specs.Types.{Context, Parsed}
use Rattle.read_command.specs.Production.{past_sign, list_of, list_p}
use Rattle.read_command.specs.Places.{commands_in, rest_of, rest_in, action_at}
use Rattle.read_command.specs.declared.Rest.{Rest}
use Rattle.command_places.specs.Found.{next_at}
use Rattle.command_places.proofs.NextLaws.{part_last, part_more}
use Rattle.action_places.specs.ActionPlaces.{action_places}
use Rattle.action_places.specs.declared.ActionPlaces.{ActionPlaces}
use Rattle.start_action.specs.Starting.{properties_in}
use Rattle.reply.specs.Texts.{reply_open, action_open, limited_from}
use Rattle.reply.proofs.ReplyLaws.{action_is, reply_is, limited_from_lem}
use Rattle.laws.proofs.Kept.{transaction_sound}
use Rattle.run_attempts.specs.Contract.{RunsTo}
use Rattle.run_attempts.specs.declared.CommandOutcome.{CommandOutcome}
use Rattle.run_action.specs.Fold.{run_action, run_actions, outcome_text}
use Rattle.run_action.specs.Promises.{around, ActionRunsTo, Wrote}
use Rattle.run_action.specs.declared.RanAction.{RanAction}
use Rattle.run_action.proofs.Lists.{list_open}
use Rattle.run_action.proofs.FoldLaws.{transaction_is}

-- ---- an action's text

-- its parts as they are written
pub action_copied : (first : Bool) (c : Context) (inner : List ℕ) (n : ℕ) (o : List ℕ) (at : ℕ) (o₁ o₂ o₃ o₄ : List ℕ) (p q u r : ℕ)
    → Appended o at (separator first) o₁ p → Appended o₁ p (action_open c) o₂ q → Appended o₂ q (take n inner) o₃ u → Appended o₃ u (text "}") o₄ r → Appended o at (around first c (take n inner)) o₄ r
unfolding around
action_copied first c inner n o at o₁ o₂ o₃ o₄ p q u r f g k m = f ▸ g ▸ k ▸ m

-- a text that is put, and the place after it
abbrev after : List ℕ → ℕ → List ℕ → ℕ
after o at x = max at (min (at + length x) (length o))

-- around the reports in a scratch buffer of 2,049 bytes, of which n are used, into a buffer that is no longer: nothing is lost
copied_around : (first : Bool) (c : Context) (inner : List ℕ) (n : ℕ) (o : List ℕ) (at : ℕ) (o' : List ℕ) (r : ℕ) (bs : List ℕ) → Appended (replicate 2049 0) 0 bs inner n → length o ≤ 2049
    → Appended o at (around first c (take n inner)) o' r → Appended o at (around first c bs) o' r
unfolding around
copied_around first c inner n o at o' r bs w z a =
    let o₁ : List ℕ = put o at (separator first) in
    let p : ℕ = after o at (separator first) in
    let o₂ : List ℕ = put o₁ p (action_open c) in
    let q : ℕ = after o₁ p (action_open c) in
    let o₃ : List ℕ = put o₂ q (take n inner) in
    let u : ℕ = after o₂ q (take n inner) in
    let f : Appended o at (separator first) o₁ p = record { text = refl; next = refl } in
    let g : Appended o₁ p (action_open c) o₂ q = record { text = refl; next = refl } in
    let k : Appended o₂ q (take n inner) o₃ u = record { text = refl; next = refl } in
    let m : Appended o₃ u (text "}") (put o₃ u (text "}")) (after o₃ u (text "}")) = record { text = refl; next = refl } in
    let l : length o₂ ≡ length o = same_length_by o₁ p (action_open c) o₂ q g ∙ same_length_by o at (separator first) o₁ p f in
    let h : length o₂ ≤ q + length {A = ℕ} (replicate 2049 0) = rw (l, length-replicate {A = ℕ} 2049 0) (omega arith) in
    let x = f ▸ g ▸ k ▸ m in
    let y = f ▸ g ▸ copied (replicate 2049 0) bs inner n o₂ q o₃ u w h k ▸ m in
    record { text = a.text ∙ sym x.text ∙ y.text; next = a.next ∙ sym x.next ∙ y.next }

action_at_lem : (s : List ℕ) (i : ℕ) (a : ActionPlaces) (rest : Rest) → a ≡ action_places s i → rest ≡ rest_of (unlimited s) s a.body
    → action a.context (properties_in s a.body) (commands_in s rest) ≡ (action_at s i).tree
unfolding action_at action_places properties_in rest_in
action_at_lem s i a rest e f = rw (f, e)

-- an action whose reports were put into a buffer of their own
pub acts_by : (x : Outcome) (first : Bool) (t' : State) (inner : List ℕ) (w : CommandOutcome) (o : List ℕ) (at : ℕ) (o' : List ℕ) (r : ℕ)
    → RunsTo x true (replicate 2049 0) 0 t' inner w → Appended o at (around first w.at (take w.next inner)) o' r → length o ≤ 2049
    → (y : ℕ) → ActionRunsTo x first o at t' o' (record { next = r; going = w.going; end = y })
unfolding outcome_text around
acts_by x first t' inner w o at o' r d k h y =
    record {
      state = d.state;
      text =
          subst (λ (b : List ℕ). Appended o at (separator first then b) o' r)
          (sym (action_is w.at x.reports) ∙ ap (λ (c : Context). action_text c x.reports) d.place)
          (copied_around first w.at inner w.next o at o' r (reports_text true x.reports) d.text h k);
      going = d.going;
    }

-- the action at a place, its parts found
pub action_acts : (s : List ℕ) (i : ℕ) (a : ActionPlaces) (rest : Rest) (first : Bool) (t t' : State) (z inner : List ℕ) (w : CommandOutcome) (o : List ℕ) (at : ℕ) (o' : List ℕ) (r y : ℕ)
    → a ≡ action_places s i → rest ≡ rest_of (unlimited s) s a.body → z ≡ replicate 2049 0
    → RunsTo (run_action (action a.context (properties_in s a.body) (commands_in s rest)) t) true z 0 t' inner w → Appended o at (around first w.at (take w.next inner)) o' r → length o ≤ 2049
    → ActionRunsTo (run_action (action_at s i).tree t) first o at t' o' (record { next = r; going = w.going; end = y })
action_acts s i a rest first t t' z inner w o at o' r y e f g d k h =
    let b : Action = action a.context (properties_in s a.body) (commands_in s rest) in
    let q : b ≡ (action_at s i).tree = action_at_lem s i a rest e f in
    let v : RunsTo (run_action b t) true (replicate 2049 0) 0 t' inner w = subst (λ (y : List ℕ). RunsTo (run_action b t) true y 0 t' inner w) g d in
    subst (λ (b : Action). ActionRunsTo (run_action b t) first o at t' o' (record { next = r; going = w.going; end = y })) q
    (acts_by (run_action b t) first t' inner w o at o' r v k h y)

-- ---- actions in order

pub record Leads (x : Ran) (o : List ℕ) (at : ℕ) (y : Ran) (o₁ : List ℕ) (p : ℕ) : Type 0 where
  pub to : (t' : State) (o' : List ℕ) (r : ℕ) → Wrote y o₁ p t' o' r → Wrote x o at t' o' r

pub begins : (x : Ran) (o : List ℕ) (at : ℕ) → Leads x o at x o at
begins x o at = record { to = λ t' o' r w. w }

module _ (a : Action) (acts : List Action) (first : Bool) (t : State) where
  abbrev x : Outcome
  x = run_action a t

  acts_on : x.going ≡ true → run_actions (a ∷ acts) first t ≡ (let y = run_actions acts false x.state in ran y.state (outcome_text first x then y.text))
  unfolding run_actions pick
  acts_on e = rw e

  acts_end : x.going ≡ false → run_actions (a ∷ acts) first t ≡ ran x.state (outcome_text first x)
  unfolding run_actions pick
  acts_end e = rw e

no_actions : (first : Bool) (t : State) → run_actions [] first t ≡ ran t []
unfolding run_actions
no_actions first t = refl

no_list : (s : List ℕ) (i : ℕ) (first : Bool) (t : State) → run_actions (list_p (action_at s) s 0 i).tree first t ≡ ran t []
unfolding list_of run_actions
no_list s i first t = refl

-- an action keeps a sound table sound
pub action_sound : (a : Action) (t : State) → sound t.table ≡ true → sound (run_action a t).state.table ≡ true
action_sound a t h =
    let e : (run_transaction (transaction 0 (a ∷ [])) t).state ≡ (run_action a t).state = ap (λ (r : Ran). r.state) (transaction_is 0 (a ∷ []) t) ∙ one (run_action a t).going refl in
    subst (λ (u : State). sound u.table ≡ true) e (transaction_sound (transaction 0 (a ∷ [])) t h)
  where
    one : (b : Bool) → (run_action a t).going ≡ b → (run_actions (a ∷ []) true t).state ≡ (run_action a t).state
    one true g = ap (λ (r : Ran). r.state) (acts_on a [] true t g) ∙ ap (λ (r : Ran). r.state) (no_actions false (run_action a t).state)
    one false g = ap (λ (r : Ran). r.state) (acts_end a [] true t g)

pub acts_sound : (a : Action) (f : Bool) (t bs o₁ : List ℕ) (p : ℕ) (t₂ bs₂ o₂ : List ℕ) (m : RanAction) → ActionRunsTo (run_action a (state t bs)) f o₁ p (state t₂ bs₂) o₂ m → sound t ≡ true → sound t₂ ≡ true
acts_sound a f t bs o₁ p t₂ bs₂ o₂ m d h = subst (λ (u : State). sound u.table ≡ true) (sym d.state) (action_sound a (state t bs) h)

module _ (x : Ran) (o : List ℕ) (p₀ : ℕ) (s : List ℕ) (k i : ℕ) (f : Bool) (t : State) (o₁ : List ℕ) (p : ℕ)
    (l : Leads x o p₀ (run_actions (list_p (action_at s) s k i).tree f t) o₁ p) where
  -- none is left
  pub actions_none : k ≤ 0 → Wrote x o p₀ t o₁ p
  actions_none h =
      let e : k ≡ 0 = omega arith in
      let m : Leads x o p₀ (ran t []) o₁ p =
      subst (λ (z : Ran). Leads x o p₀ z o₁ p) (ap (λ (j : ℕ). run_actions (list_p (action_at s) s j i).tree f t) e ∙ no_list s i f t) l in
      m.to t o₁ p (record { state = refl; text = none o₁ p })

  module _ (t₂ : State) (o₂ : List ℕ) (m : RanAction) (h : 0 < k) (d : ActionRunsTo (run_action (action_at s i).tree t) f o₁ p t₂ o₂ m) where
    abbrev rest : List Action
    rest = pick (is_at s (action_at s i).end comma) (list_p (action_at s) s (k - 1) (past_sign comma s (action_at s i).end)).tree []

    opened : Leads x o p₀ (run_actions ((action_at s i).tree ∷ rest) f t) o₁ p
    opened = subst (λ (z : List Action). Leads x o p₀ (run_actions z f t) o₁ p) (list_open (λ j. (action_at s j).tree) (λ j. (action_at s j).end) s k i h) l

    -- the action stops the transaction
    pub actions_stop : m.going ≡ false → Wrote x o p₀ t₂ o₂ m.next
    actions_stop g =
        let z : Leads x o p₀ (ran (run_action (action_at s i).tree t).state (outcome_text f (run_action (action_at s i).tree t))) o₁ p =
        subst (λ (z : Ran). Leads x o p₀ z o₁ p) (acts_end (action_at s i).tree rest f t (sym d.going ∙ g)) opened in
        z.to t₂ o₂ m.next (record { state = d.state; text = d.text })

    going_on : m.going ≡ true → Leads x o p₀ (run_actions rest false t₂) o₂ m.next
    going_on g =
        let y : Outcome = run_action (action_at s i).tree t in
        let z : Leads x o p₀ (let r = run_actions rest false y.state in ran r.state (outcome_text f y then r.text)) o₁ p =
        subst (λ (z : Ran). Leads x o p₀ z o₁ p) (acts_on (action_at s i).tree rest f t (sym d.going ∙ g)) opened in
        let v : Leads x o p₀ (let r = run_actions rest false t₂ in ran r.state (outcome_text f y then r.text)) o₁ p =
        subst (λ (u : State). Leads x o p₀ (let r = run_actions rest false u in ran r.state (outcome_text f y then r.text)) o₁ p) (sym d.state) z in
        record { to = λ t' o' r w. v.to t' o' r (record { state = w.state; text = d.text ▸ w.text }) }

    -- it is the last
    pub actions_last : (e : ℕ) (b : Parsed) → m.going ≡ true → e ≡ (action_at s i).end → b ≡ next_at s e → b ≡ None → Wrote x o p₀ t₂ o₂ m.next
    actions_last e b g q u v =
        let z : rest ≡ [] = part_last s e (action_at s i).end q b u (λ j. (list_p (action_at s) s (k - 1) j).tree) [] v in
        let w : Leads x o p₀ (ran t₂ []) o₂ m.next =
        subst (λ (y : Ran). Leads x o p₀ y o₂ m.next) (ap (λ (y : List Action). run_actions y false t₂) z ∙ no_actions false t₂) (going_on g) in
        w.to t₂ o₂ m.next (record { state = refl; text = none o₂ m.next })

    -- another follows
    pub actions_more : (e n : ℕ) (b : Parsed) → m.going ≡ true → e ≡ (action_at s i).end → b ≡ next_at s e → b ≡ Some n
        → Leads x o p₀ (run_actions (list_p (action_at s) s (k - 1) n).tree false t₂) o₂ m.next
    actions_more e n b g q u v =
        let y : rest ≡ (list_p (action_at s) s (k - 1) n).tree = part_more s e (action_at s i).end q b u (λ j. (list_p (action_at s) s (k - 1) j).tree) [] n v in
        subst (λ (a : List Action). Leads x o p₀ (run_actions a false t₂) o₂ m.next) y (going_on g)

-- ---- a transaction

-- its text in a scratch buffer of 2,049 bytes
pub transaction_text_lem : (id : ℕ) (acts : List Action) (t : State) (z z₁ z₂ z₃ : List ℕ) (n m e : ℕ) (t' : State) → z ≡ replicate 2049 0
    → Appended z 0 (reply_open id) z₁ n → Wrote (run_actions acts true t) z₁ n t' z₂ m → Appended z₂ m (text "}") z₃ e
    → (t' ≡ (run_transaction (transaction id acts) t).state) × (limited_from id z₃ e ≡ (run_transaction (transaction id acts) t).text)
transaction_text_lem id acts t z z₁ z₂ z₃ n m e t' q f w g =
    let y : Ran = run_actions acts true t in
    let a : Appended (replicate 2049 0) 0 (reply_text id y.text) z₃ e = rw (reply_is id y.text, ← q) (f ▸ w.text ▸ g) in
    rw (transaction_is id acts t) (w.state, limited_from_lem id z₃ e (reply_text id y.text) a)
