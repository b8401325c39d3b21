use Rattle.std.proofs.Common.{arith, rules, refl, ◌≡◌, ◌<◌, ◌≤◌, ◌-◌, ◌+◌, true, false}
use Rattle.std.specs.Prelude.{None}
use Rattle.read_command.specs.Places.{actions_at}
use Rattle.command_places.proofs.EndLaws.{end_none, end_last, end_more, end_after}
use Rattle.run_action.proofs.ActsLaws.{begins, acts_sound, actions_none, actions_stop, actions_last, actions_more}
use Rattle.run_action.proofs.run_actions.Goals as goal

pub loop-n-init : goal.loop-n-init
unfolding actions_at
loop-n-init c = (refl, refl, refl, c.requires.0, refl, begins _ _ _)

pub returns-then-not-m : goal.returns-then-not-m
returns-then-not-m c =
    let t : 0 < 16 - c.loop-n.n = omega arith in
    let z : 15 - c.loop-n.n ≡ 16 - c.loop-n.n - 1 = omega arith in
    let g : c.run_action-m.result.going ≡ false = search rules in (
      actions_stop _ _ _ _ _ _ _ _ _ _ c.loop-n.invariant.5 _ _ _ t c.run_action-m.ensures.0 g,
      end_after _ _ _ _ _ c.loop-n.invariant.4 t _ c.run_action-m.ensures.1 _ (rw (← z) c.actions_after.ensures),
    )

pub returns-in_default : goal.returns-in_default
returns-in_default c =
    let t : 0 < 16 - c.loop-n.n = omega arith in
    let g : c.run_action-m.result.going ≡ true = search rules in
    let v : c.next_part.result ≡ None = search rules in (
      actions_last _ _ _ _ _ _ _ _ _ _ c.loop-n.invariant.5 _ _ _ t c.run_action-m.ensures.0 _ _ g c.run_action-m.ensures.1 c.next_part.ensures v,
      end_last _ _ _ _ _ c.loop-n.invariant.4 t _ c.run_action-m.ensures.1 _ c.next_part.ensures v,
    )

pub loop-n-preserved : goal.loop-n-preserved
loop-n-preserved c =
    let t : 0 < 16 - c.loop-n.n = omega arith in
    let z : 16 - c.loop-n.n - 1 ≡ 16 - (c.loop-n.n + 1) = omega arith in
    let g : c.run_action-m.result.going ≡ true = search rules in (
      search rules,
      search rules,
      search rules,
      acts_sound _ _ _ _ _ _ _ _ _ _ c.run_action-m.ensures.0 c.loop-n.invariant.3,
      rw (← z) (end_more _ _ _ _ _ c.loop-n.invariant.4 t _ c.run_action-m.ensures.1 _ c.next_part.ensures _ c.in-Some.is),
      rw (← z) (actions_more _ _ _ _ _ _ _ _ _ _ c.loop-n.invariant.5 _ _ _ t c.run_action-m.ensures.0 _ _ _ g c.run_action-m.ensures.1 c.next_part.ensures c.in-Some.is),
    )

pub returns : goal.returns
returns c =
    let t : 16 - c.loop-n.n ≤ 0 = omega arith in
    (actions_none _ _ _ _ _ _ _ _ _ _ c.loop-n.invariant.5 t, end_none _ _ _ _ _ c.loop-n.invariant.4 t)
