-- The target means the definition's targets.
use Prim.Native.Nat.{ℕ, ◌+◌, ◌-◌}
use mathlib.Core.Path.{◌≡◌, refl}
use mathlib.Core.Bool.{Bool, true, false, not}
use mathlib.Core.List.{List}
use lib.Dec.{eqb}
use borrow.Author.Tests.{ne_eqb}
use Rattle.base.specs.Pick.{pick}
use Rattle.megaco.specs.Table.{line_terminations, fitted, ctx, get, exists, free_ephemeral}
use Rattle.megaco.specs.Command.{no_target, root_targets, free_targets, targets_of, is_add, in_place, is_null}
use Rattle.protocol.specs.Types.{Context, Op, Name, Termination, Root, Chosen, Unchosen, Wildcard, Unmatched, Unknown, Range}
use Rattle.targets.specs.declared.Target.{Target}
use Rattle.targets.specs.declared.Target.TheVariants.{NoTarget, One, Many}
use Rattle.targets.specs.Targets.{root_target, free_target, unchosen_target, one_target, target_of, targets_in}

module _ (op : Op) (at : Context) (t : List ℕ) where
  root_is : (m n items : Bool) → in_place op ≡ m → is_null at ≡ n → targets_in (root_target op at items) op at t ≡ root_targets op at items
  unfolding root_target root_targets targets_in pick
  root_is true true true p q = rw (p, q)
  root_is true true false p q = rw (p, q)
  root_is true false items p q = rw (p, q)
  root_is false n items p q = rw p

  free_is : (a z : Bool) (n : ℕ) → is_add op ≡ a → eqb n 0 ≡ z → targets_in (free_target (fitted t) op n) op at t ≡ pick (not (is_add op)) (no_target 410) (free_targets (fitted t) n)
  unfolding free_target free_targets targets_in pick
  free_is true true n p q = rw (p, q)
  free_is true false n p q = rw (p, q)
  free_is false z n p q = rw p

  unchosen_is : (a : Bool) → is_add op ≡ a
      → targets_in (unchosen_target op) op at t ≡ pick (not (is_add op)) (no_target 410) (no_target 432)
  unfolding unchosen_target targets_in pick
  unchosen_is true p = rw p
  unchosen_is false p = rw p

  one_is : (i : ℕ) (b : Bool) → exists (fitted t) i (get t (ctx i)) ≡ b → targets_in (one_target (fitted t) i (get t (ctx i))) op at t ≡ targets_of op at true (Termination i) t
  unfolding one_target targets_in targets_of pick
  one_is i true p = rw p
  one_is i false p = rw p

  pub target_is : (items : Bool) (n : Name) → targets_in (target_of op at items n t) op at t ≡ targets_of op at items n t
  unfolding target_of targets_of targets_in
  target_is items (Termination i) = one_is i (exists (fitted t) i (get t (ctx i))) refl
  target_is items Root = root_is (in_place op) (is_null at) items refl refl
  target_is items Chosen = free_is (is_add op) (eqb (free_ephemeral t) 0) (free_ephemeral t) refl refl
  target_is items Unchosen = unchosen_is (is_add op) refl
  target_is items (Wildcard r) = refl
  target_is items Unmatched = refl
  target_is items Unknown = refl

-- the lowest absent ephemeral
pub free_one : (lines l n : ℕ) (op : Op) (x : Bool) → x ≡ is_add op → x ≡ true → (n ≡ 0 → ⊥) → l ≡ line_terminations lines → One (l + (n - 1)) ≡ free_target lines op n
unfolding free_target pick
free_one lines l n op x e t h f = rw (← e, t, ne_eqb n 0 h, f)

-- each form of a name
module _ (op : Op) (at : Context) (items : Bool) (n : Name) (t : List ℕ) (r : Target) where
  pub for_one : (i w k : ℕ) → n ≡ Termination i → w ≡ get t (ctx i) → k ≡ fitted t → r ≡ one_target k i w → r ≡ target_of op at items n t
  unfolding target_of
  for_one i w k e p f q = rw (e, ← p, ← f) q

  pub for_root : n ≡ Root → r ≡ root_target op at items → r ≡ target_of op at items n t
  unfolding target_of
  for_root e q = rw e q

  pub for_chosen : (k l : ℕ) → n ≡ Chosen → k ≡ free_ephemeral t → l ≡ fitted t → r ≡ free_target l op k → r ≡ target_of op at items n t
  unfolding target_of
  for_chosen k l e p f q = rw (e, ← p, ← f) q

  pub for_unchosen : n ≡ Unchosen → r ≡ unchosen_target op → r ≡ target_of op at items n t
  unfolding target_of
  for_unchosen e q = rw e q

  pub for_wildcard : (w : Range) → n ≡ Wildcard w → r ≡ Many w → r ≡ target_of op at items n t
  unfolding target_of
  for_wildcard w e q = rw e q

  pub for_unmatched : n ≡ Unmatched → r ≡ NoTarget 431 → r ≡ target_of op at items n t
  unfolding target_of
  for_unmatched e q = rw e q

  pub for_unknown : n ≡ Unknown → r ≡ NoTarget 430 → r ≡ target_of op at items n t
  unfolding target_of
  for_unknown e q = rw e q
