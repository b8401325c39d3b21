use Rattle.std.proofs.Common.{◌≡◌, ℕ, ◌+◌, ◌*◌, ◌/◌, ◌%◌, ◌^◌, ◌<◌, List, Bool, length, get_or}
use Rattle.megaco.specs.Square.{bits}
use Rattle.square.proofs.unpack.Given as goal

abbrev pub invariant-loop-i : goal.invariant-loop-i
invariant-loop-i l =
    record {
      long : length l.rows ≡ 8;
      low : (k : ℕ) (e : List Bool) → k < l.i → get_or l.rows k e ≡ bits 8 (get_or l.words 0 0 / 2 ^ (8 * k) % 256);
      high : (k : ℕ) (e : List Bool) → k < l.i → get_or l.rows (4 + k) e ≡ bits 8 (get_or l.words 1 0 / 2 ^ (8 * k) % 256);
    }
