-- Whom a command's name means: terminations of the table, that exist where the command is a Modify.
use Prim.Native.Nat.{ℕ, suc, ◌+◌, ◌≤◌, ◌<◌}
use mathlib.Core.Path.{◌≡◌, sym}
use mathlib.Core.Bool.{Bool, true, false, not, ◌&&◌}
use mathlib.Core.List.{List, [], ◌∷◌}
use lib.ListN.{length, get_or}
use lib.Dec.{ltb, leb, eqb}
use borrow.Author.Tests.{eqb-false, ltb-true, leb-true}
use native.Mathlib.Nat.{add-zero, zero-add}
use native.Mathlib.Omega.{arith}
use Rattle.base.specs.Lists.{lowest_absent}
use Rattle.protocol.specs.Types.{Context, Op, Add, Modify, Subtract, Move, AuditValue, Range, Name, Termination, Root, Chosen, Unchosen, Wildcard, Unmatched, Unknown}
use Rattle.megaco.specs.Table.{channels, ephemerals, terminations, words, fitted, ctx, get, context_words, places, exists, free_ephemeral}
use Rattle.megaco.specs.Names.{within, line_name, ephemeral_name, plain_name, line_range, wildcard_name, capital_name, name_of, in_range}
use Rattle.megaco.specs.Command.{wanted, matches_from, matches, Targets, no_target, gateway, targets, is_add, in_place, root_targets, free_targets, match_targets, targets_of}
use Rattle.base.proofs.TestLaws.{clash, and_both, pick_of}
use Rattle.laws.proofs.Counting.{lowest}
use Rattle.laws.proofs.Sound.{context_words_lem, context_at_lem, places_long}

-- ---- names

-- a name of a termination means one of the table
pub data Low (n : ℕ) : Name → Type 0 where
  low : {i : ℕ} → i < terminations n → Low n (Termination i)
  root : Low n Root
  chosen : Low n Chosen
  unchosen : Low n Unchosen
  wildcard : {r : Range} → Low n (Wildcard r)
  unmatched : Low n Unmatched
  unknown : Low n Unknown

pub within_both : (x m : ℕ) → within x m ≡ true → (0 < x) × (x ≤ m)
unfolding within
within_both x m e = let b = and_both (ltb 0 x) (leb x m) e in (ltb-true 0 x b.0, leb-true x m b.1)

line_low : (n l s : ℕ) → Low n (line_name n l s)
unfolding line_name
line_low n l s = pick_of (Low n) _ (λ e. let b = and_both _ _ e in let p = within_both l n b.0 in let q = within_both s channels b.1 in low (omega arith)) (λ _. unknown)

ephemeral_low : (n k : ℕ) → Low n (ephemeral_name n k)
unfolding ephemeral_name
ephemeral_low n k = pick_of (Low n) _ (λ e. let p = within_both k ephemerals e in low (omega arith)) (λ _. unknown)

pub name_low : (n : ℕ) (x : List ℕ) → Low n (name_of n x)
unfolding name_of capital_name wildcard_name line_range plain_name
name_low n x =
    pick_of L _ (λ _. root) (λ _. pick_of L _ (λ _. pick_of L _ (λ _. chosen) (λ _. unchosen)) (λ _. pick_of L _
    (λ _. pick_of L _ (λ _. wildcard) (λ _. pick_of L _ (λ _. wildcard) (λ _. pick_of L _ (λ _. wildcard) (λ _. pick_of L _ (λ _. wildcard) (λ _. unmatched)))))
    (λ _. pick_of L _ (λ _. line_low n _ _) (λ _. pick_of L _ (λ _. ephemeral_low n _) (λ _. unknown)))))
  where
    L : Name → Type 0
    L = Low n

-- ---- terminations meant

pub record Meant (op : Op) (t : List ℕ) (i : ℕ) : Type 0 where
  pub small : i < terminations (fitted t)
  pub there : in_place op ≡ true → exists (fitted t) i (get t (ctx i)) ≡ true

pub data Each (P : ℕ → Type 0) : List ℕ → Type 0 where
  no_more : Each P []
  more : {i : ℕ} {is : List ℕ} → P i → Each P is → Each P (i ∷ is)

pub each_on : (P Q : ℕ → Type 0) (is : List ℕ) → ((i : ℕ) → P i → Q i) → Each P is → Each Q is
each_on P Q [] f no_more = no_more
each_on P Q (i ∷ is) f (more h r) = more (f i h) (each_on P Q is f r)

pub data MeansTerminations (op : Op) (t : List ℕ) : Targets → Type 0 where
  to_no_target : {code : ℕ} → MeansTerminations op t (no_target code)
  itself : MeansTerminations op t gateway
  some_targets : {wild : Bool} {is : List ℕ} → Each (Meant op t) is → MeansTerminations op t (targets wild is)

-- matches from number i on, with the rest of the context words
matches_meant : (op : Op) (c : ℕ) (r : Range) (t : List ℕ) (i : ℕ) (xs : List ℕ) → i + length xs ≤ terminations (fitted t)
    → ((k : ℕ) → k < length xs → get_or xs k 0 ≡ get t (ctx (i + k))) → Each (Meant op t) (matches_from (fitted t) op c r i xs)
unfolding matches_from
matches_meant op c r t i [] h f = no_more
matches_meant op c r t i (x ∷ xs) h f =
    let rest = matches_meant op c r t (i + 1) xs (omega arith) (λ k b. let n : i + 1 + k ≡ i + suc k = omega arith in rw n (f (suc k) (omega arith))) in
    let here : x ≡ get t (ctx i) = rw add-zero at (f 0 (omega arith)) in
    pick_of (Each (Meant op t)) _
    (λ e. let b = and_both (in_range (fitted t) r i && exists (fitted t) i x) (wanted op c x) e in
    more (record { small = omega arith; there = λ _. rw (← here) (and_both (in_range (fitted t) r i) (exists (fitted t) i x) b.0).1 }) rest) (λ _. rest)

root_meant : (op : Op) (t : List ℕ) (at : Context) (items : Bool) → MeansTerminations op t (root_targets op at items)
unfolding root_targets
root_meant op t at items = pick_of (MeansTerminations op t) _ (λ _. to_no_target) (λ _. pick_of (MeansTerminations op t) _ (λ _. to_no_target) (λ _. pick_of (MeansTerminations op t) _ (λ _. to_no_target) (λ _. itself)))

-- an Add does not leave a termination where it stands
add_only : (op : Op) → not (is_add op) ≡ false → in_place op ≡ true → ⊥
unfolding is_add in_place
add_only Add e h = clash (sym h)
add_only Modify e h = clash e
add_only Subtract e h = clash e
add_only Move e h = clash e
add_only AuditValue e h = clash e

free_meant : (op : Op) (t : List ℕ) → length t ≡ words (fitted t) → not (is_add op) ≡ false → MeansTerminations op t (free_targets (fitted t) (free_ephemeral t))
unfolding free_targets free_ephemeral
free_meant op t l a =
    let n : ℕ = lowest_absent 1 (places t) in
    pick_of (MeansTerminations op t) (eqb n 0) (λ _. to_no_target)
    (λ e. let s = lowest 1 (places t) (omega (arith, eqb-false n 0 e)) in
    some_targets (more (record { small = omega (arith, places_long t); there = λ h. absurd (add_only op a h) }) no_more))

wild_meant : (op : Op) (t is : List ℕ) → Each (Meant op t) is → MeansTerminations op t (match_targets is)
unfolding match_targets
wild_meant op t [] h = to_no_target
wild_meant op t (i ∷ is) h = some_targets h

pub targets_meant : (op : Op) (at : Context) (items : Bool) (n : Name) (t : List ℕ) → length t ≡ words (fitted t) → Low (fitted t) n → MeansTerminations op t (targets_of op at items n t)
unfolding targets_of matches
targets_meant op at items Root t l h = root_meant op t at items
targets_meant op at items Chosen t l h = pick_of (MeansTerminations op t) _ (λ _. to_no_target) (λ e. free_meant op t l e)
targets_meant op at items Unchosen t l h = pick_of (MeansTerminations op t) _ (λ _. to_no_target) (λ _. to_no_target)
targets_meant op at items (Wildcard r) t l h =
    wild_meant op t _ (matches_meant op _ r t 0 (context_words t) (omega (arith, context_words_lem t l)) (λ k b. rw zero-add (context_at_lem t k (omega (arith, context_words_lem t l)))))
targets_meant op at items Unmatched t l h = to_no_target
targets_meant op at items (Termination i) t l (low h) = pick_of (MeansTerminations op t) _ (λ e. some_targets (more (record { small = h; there = λ _. e }) no_more)) (λ _. to_no_target)
targets_meant op at items Unknown t l h = to_no_target
