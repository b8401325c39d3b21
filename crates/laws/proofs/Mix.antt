-- Two transactions step by step: where their footprints have nothing in common, any mixture of their steps ends like one after the other.
use Prim.Native.Nat.{ℕ}
use mathlib.Core.Path.{◌≡◌, refl, sym, ap, ◌∙◌, subst}
use mathlib.Core.List.{List, [], ◌∷◌}
use Rattle.megaco.specs.Table.{apply}
use Rattle.megaco.specs.State.{State, state, wrote}
use Rattle.megaco.specs.Transaction.{Step, Progress, Course, course, step, run}
use Rattle.megaco.proofs.Sizes.{fitted_is}
use Rattle.laws.specs.Mix.{Both, with_one, with_two, step_one, step_two, Mixture, over, first, second, mixed}
use Rattle.laws.proofs.Frame.{Closed, Agree, agree_refl, closed_agree, closed_apply, Disjoint, disjoint_sym, apply_agree, apply_comm}
use Rattle.laws.proofs.Steps.{enact, Named, Seats, Acts, acts}

-- all steps of the first, of the second
abbrev pub run_one : List Step → Both → Both
run_one ss b = with_one (run ss (course b.state b.one)) b.two

abbrev pub run_two : List Step → Both → Both
run_two rs b = with_two b.one (run rs (course b.state b.two))

abbrev pub EachStep : (Step → Type 0) → List Step → Type 0
EachStep P [] = Unit {0}
EachStep P (s ∷ ss) = P s × EachStep P ss

-- one step, seen by its own footprint and by another one
module _ (lines : ℕ) (N K M L : ℕ → Type 0) (D : Disjoint lines M L N K) (s : Step) (st : State) (p : Progress) (c : Closed lines N K st.table) (m : Named lines N K s) (h : Seats lines N K p.acts) where
  act : Acts lines N K (λ u. step s (course u p)) st
  act = acts lines N K D.two st c s p m h

  is : step s (course st p) ≡ enact act.change st
  is = act.on st (record { table = agree_refl lines N K st.table; blocks = refl })

  -- its own footprint stays closed
  own_closed : Closed lines N K (step s (course st p)).state.table
  own_closed = subst (λ (x : Course). Closed lines N K x.state.table) (sym is) (closed_apply lines N K D.two act.change.writes st.table act.all c)

  own_seats : Seats lines N K (step s (course st p)).progress.acts
  own_seats = subst (λ (x : Course). Seats lines N K x.progress.acts) (sym is) act.seats

  -- and no block is changed
  own_blocks : (step s (course st p)).state.blocks ≡ st.blocks
  own_blocks = ap (λ (x : Course). x.state.blocks) is

  -- the other one sees no change
  other_agrees : Agree lines M L st.table (apply act.change.writes st.table)
  other_agrees = apply_agree lines M L N K D act.change.writes st.table act.all c

  other_closed : Closed lines M L st.table → Closed lines M L (step s (course st p)).state.table
  other_closed d = subst (λ (x : Course). Closed lines M L x.state.table) (sym is) (closed_agree lines M L D.one st.table _ other_agrees d)

-- each footprint is closed, and each transaction's action stands in its own
pub record Ready (lines : ℕ) (N K M L : ℕ → Type 0) (b : Both) : Type 0 where
  pub one_closed : Closed lines N K b.state.table
  pub two_closed : Closed lines M L b.state.table
  pub one_seats : Seats lines N K b.one.acts
  pub two_seats : Seats lines M L b.two.acts

module _ (lines : ℕ) (N K M L : ℕ → Type 0) (D : Disjoint lines N K M L) where
  E : Disjoint lines M L N K
  E = disjoint_sym lines N K M L D

  ready_one : (s : Step) (b : Both) → Named lines N K s → Ready lines N K M L b → Ready lines N K M L (step_one s b)
  ready_one s b m r =
      record {
        one_closed = own_closed lines N K M L E s b.state b.one r.one_closed m r.one_seats;
        two_closed = other_closed lines N K M L E s b.state b.one r.one_closed m r.one_seats r.two_closed;
        one_seats = own_seats lines N K M L E s b.state b.one r.one_closed m r.one_seats;
        two_seats = r.two_seats;
      }

  ready_two : (s : Step) (b : Both) → Named lines M L s → Ready lines N K M L b → Ready lines N K M L (step_two s b)
  ready_two s b m r =
      record {
        one_closed = other_closed lines M L N K D s b.state b.two r.two_closed m r.two_seats r.one_closed;
        two_closed = own_closed lines M L N K D s b.state b.two r.two_closed m r.two_seats;
        one_seats = r.one_seats;
        two_seats = own_seats lines M L N K D s b.state b.two r.two_closed m r.two_seats;
      }

  -- all steps of the first, all of the second, leave the blocks
  ready_first : (ss : List Step) (b : Both) → EachStep (Named lines N K) ss → Ready lines N K M L b → Ready lines N K M L (run_one ss b)
  unfolding run
  ready_first [] b m h = h
  ready_first (s ∷ ss) b m h = ready_first ss (step_one s b) m.1 (ready_one s b m.0 h)

  first_blocks : (ss : List Step) (b : Both) → EachStep (Named lines N K) ss → Ready lines N K M L b → (run_one ss b).state.blocks ≡ b.state.blocks
  unfolding run
  first_blocks [] b m h = refl
  first_blocks (s ∷ ss) b m h = first_blocks ss (step_one s b) m.1 (ready_one s b m.0 h) ∙ own_blocks lines N K M L E s b.state b.one h.one_closed m.0 h.one_seats

  second_blocks : (rs : List Step) (b : Both) → EachStep (Named lines M L) rs → Ready lines N K M L b → (run_two rs b).state.blocks ≡ b.state.blocks
  unfolding run
  second_blocks [] b m h = refl
  second_blocks (r ∷ rs) b m h = second_blocks rs (step_two r b) m.1 (ready_two r b m.0 h) ∙ own_blocks lines M L N K D r b.state b.two h.two_closed m.0 h.two_seats

  pub blocks_stay : (ss rs : List Step) (b : Both) → EachStep (Named lines N K) ss → EachStep (Named lines M L) rs → Ready lines N K M L b → (run_two rs (run_one ss b)).state.blocks ≡ b.state.blocks
  blocks_stay ss rs b m o h = second_blocks rs (run_one ss b) o (ready_first ss b m h) ∙ first_blocks ss b m h

  -- two steps, one of each, may change places
  diamond : (s r : Step) (b : Both) → Named lines N K s → Named lines M L r → Ready lines N K M L b → step_one s (step_two r b) ≡ step_two r (step_one s b)
  diamond s r b m o h =
      let st = b.state in
      let t = st.table in
      let p = act lines N K M L E s st b.one h.one_closed m h.one_seats in
      let q = act lines M L N K D r st b.two h.two_closed o h.two_seats in
      let vs = p.change.writes in
      let ws = q.change.writes in
      let p₀ : step s (course st b.one) ≡ enact p.change st = p.on st (record { table = agree_refl lines N K t; blocks = refl }) in
      let q₀ : step r (course st b.two) ≡ enact q.change st = q.on st (record { table = agree_refl lines M L t; blocks = refl }) in
      let p₁ : step s (course (wrote ws st) b.one) ≡ enact p.change (wrote ws st) = p.on (wrote ws st) (record { table = apply_agree lines N K M L D ws t q.all h.two_closed; blocks = refl }) in
      let q₁ : step r (course (wrote vs st) b.two) ≡ enact q.change (wrote vs st) = q.on (wrote vs st) (record { table = apply_agree lines M L N K E vs t p.all h.one_closed; blocks = refl }) in
      let c : apply vs (apply ws t) ≡ apply ws (apply vs t) = apply_comm lines N K M L D vs ws t (fitted_is lines t h.one_closed.long) p.all q.all in
      rw (q₀, p₀) (rw (p₁, q₁) (ap (λ (x : List ℕ). record { state = state x st.blocks; one = p.change.next; two = q.change.next }) c))

  past : (ss : List Step) (r : Step) (b : Both) → EachStep (Named lines N K) ss → Named lines M L r → Ready lines N K M L b → run_one ss (step_two r b) ≡ step_two r (run_one ss b)
  unfolding run
  past [] r b m o h = refl
  past (s ∷ ss) r b m o h = ap (run_one ss) (diamond s r b m.0 o h) ∙ past ss r (step_one s b) m.1 o (ready_one s b m.0 h)

  -- all of the first and all of the second may change places
  pub exchange : (ss rs : List Step) (b : Both) → EachStep (Named lines N K) ss → EachStep (Named lines M L) rs → Ready lines N K M L b → run_one ss (run_two rs b) ≡ run_two rs (run_one ss b)
  unfolding run
  exchange ss [] b m o h = refl
  exchange ss (r ∷ rs) b m o h = exchange ss rs (step_two r b) m o.1 (ready_two r b o.0 h) ∙ ap (run_two rs) (past ss r b m o.0 h)

  pub one_after_other : {ss rs : List Step} (z : Mixture ss rs) (b : Both) → EachStep (Named lines N K) ss → EachStep (Named lines M L) rs → Ready lines N K M L b
      → mixed z b ≡ run_two rs (run_one ss b)
  unfolding mixed run
  one_after_other over b m o h = refl
  one_after_other (first s z) b m o h = one_after_other z (step_one s b) m.1 o (ready_one s b m.0 h)
  one_after_other {ss} (second {rs = rs} r z) b m o h =
      one_after_other z (step_two r b) m o.1 (ready_two r b o.0 h) ∙ ap (run_two rs) (past ss r b m o.0 h)
