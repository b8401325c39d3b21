use native.Mathlib.Omega.{arith}
use Rattle.cordafina.proofs.HeadLaws.{timer_small, progress_small}
use Rattle.cordafina.proofs.digit_maps.packed.Goals as goal

pub overflow_mul-result : goal.overflow_mul-result
overflow_mul-result c = record { fits = omega (arith, timer_small c.in-Ok.a.timer) }

pub overflow_add-result : goal.overflow_add-result
overflow_add-result c = record { fits = omega (arith, timer_small c.in-Ok.a.timer, progress_small c.in-Ok.a.progress) }
