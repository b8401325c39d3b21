use native.Mathlib.Omega.{arith}
use Rattle.std.proofs.Common.{◌≤◌}
use Rattle.cordafina.proofs.HeadLaws.{timer_small}
use Rattle.cordafina.proofs.digit_maps.head_of.Goals as goal

pub overflow_mul-result : goal.overflow_mul-result
overflow_mul-result c = record { fits = omega (arith, timer_small c.in-Some.map.first) }

pub overflow_add-result : goal.overflow_add-result
overflow_add-result c = record { fits = omega (arith, timer_small c.in-Some.map.first) }

pub overflow_add-result-in-Some : goal.overflow_add-result-in-Some
overflow_add-result-in-Some c =
    let h : c.in-Some.map.count ≤ 1040 = rw c.in-Some.is at c.requires in
    record { fits = omega (arith, timer_small c.in-Some.map.first) }
