-- A pass that goes on past a word that is wrong: its answer is the test of each word.
use Prim.Native.Nat.{ℕ}
use mathlib.Core.Path.{◌≡◌, sym, ◌∙◌}
use mathlib.Core.List.{List, [], ◌∷◌}
use mathlib.Core.Bool.{Bool, true, ◌&&◌}
use Rattle.std.specs.List.{fold}
use Rattle.base.specs.Lists.{every}
use Rattle.sound.proofs.SoundLaws.{one_more, no_more}

every_fold : (p : ℕ → Bool) (b : Bool) (l : List ℕ) → fold (λ (good : Bool) (w : ℕ). good && p w) b l ≡ (b && every p l)
unfolding every
every_fold p b [] = sym (no_more b)
every_fold p b (x ∷ l) = every_fold p (b && p x) l ∙ sym (one_more b (p x) (every p l))

pub every_is : (p : ℕ → Bool) (l : List ℕ) → every p l ≡ fold (λ (good : Bool) (w : ℕ). good && p w) true l
every_is p l = sym (every_fold p true l)
