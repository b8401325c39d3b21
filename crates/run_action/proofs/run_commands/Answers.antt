use Rattle.std.proofs.Common.{arith, rules, refl, ◌≡◌, ◌<◌, ◌≤◌, ◌-◌, ◌+◌, true, false}
use Rattle.std.specs.Prelude.{None}
use Rattle.megaco.proofs.Sizes.{sized_same}
use Rattle.read_command.specs.Places.{commands_at}
use Rattle.command_places.proofs.EndLaws.{end_none, end_last, end_more, end_after}
use Rattle.run_attempts.proofs.RunsToLaws.{begins}
use Rattle.run_action.proofs.RunLaws.{loop-none, loop-stop, loop-last, loop-more}
use Rattle.run_action.proofs.run_commands.Goals as goal

pub loop-n-init : goal.loop-n-init
unfolding commands_at
loop-n-init c = (refl, refl, refl, refl, begins _ _ _ _)

pub run_command-x-requires : goal.run_command-x-requires
run_command-x-requires c = sized_same _ _ c.loop-n.invariant.0 c.requires

pub returns-then-not-w : goal.returns-then-not-w
returns-then-not-w c =
    let t : 0 < 64 - c.loop-n.n = omega arith in
    let z : 63 - c.loop-n.n ≡ 64 - c.loop-n.n - 1 = omega arith in
    let g : c.run_command-x.result.outcome.going ≡ false = search rules in (
      loop-stop _ _ _ _ _ _ _ _ _ _ _ _ _ c.loop-n.invariant.4 _ _ _ t c.run_command-x.ensures.0 g,
      end_after _ _ _ _ _ c.loop-n.invariant.3 t _ c.run_command-x.ensures.1 _ (rw (← z) c.commands_after.ensures),
    )

pub returns-in_default : goal.returns-in_default
returns-in_default c =
    let t : 0 < 64 - c.loop-n.n = omega arith in
    let g : c.run_command-x.result.outcome.going ≡ true = search rules in
    let v : c.next_part.result ≡ None = search rules in (
      loop-last _ _ _ _ _ _ _ _ _ _ _ _ _ c.loop-n.invariant.4 _ _ _ t c.run_command-x.ensures.0 _ _ g c.run_command-x.ensures.1 c.next_part.ensures v,
      end_last _ _ _ _ _ c.loop-n.invariant.3 t _ c.run_command-x.ensures.1 _ c.next_part.ensures v,
    )

pub loop-n-preserved : goal.loop-n-preserved
loop-n-preserved c =
    let t : 0 < 64 - c.loop-n.n = omega arith in
    let z : 64 - c.loop-n.n - 1 ≡ 64 - (c.loop-n.n + 1) = omega arith in
    let g : c.run_command-x.result.outcome.going ≡ true = search rules in (
      search rules,
      search rules,
      search rules,
      rw (← z) (end_more _ _ _ _ _ c.loop-n.invariant.3 t _ c.run_command-x.ensures.1 _ c.next_part.ensures _ c.in-Some.is),
      rw (← z) (loop-more _ _ _ _ _ _ _ _ _ _ _ _ _ c.loop-n.invariant.4 _ _ _ t c.run_command-x.ensures.0 _ _ _ g c.run_command-x.ensures.1 c.next_part.ensures c.in-Some.is),
    )

pub returns : goal.returns
returns c =
    let t : 64 - c.loop-n.n ≤ 0 = omega arith in
    (loop-none _ _ _ _ _ _ _ _ _ _ _ _ _ c.loop-n.invariant.4 t, end_none _ _ _ _ _ c.loop-n.invariant.3 t)
