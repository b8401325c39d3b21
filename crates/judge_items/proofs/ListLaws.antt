-- Items in reading order: the items of a list judged one after another, from the place that was reached.
use Rattle.std.specs.Prelude.{Some, None, Ok, Err}
use Prim.Native.Nat.{ℕ, zero, suc, ◌+◌, ◌-◌, ◌<◌, ◌≤◌}
use mathlib.Core.Path.{◌≡◌, refl, sym, ap, ◌∙◌}
use mathlib.Core.Bool.{Bool, true, false, not}
use mathlib.Core.List.{List, [], ◌∷◌}
use native.Mathlib.Omega.{arith}
use lib.ListN.{length}
use Rattle.base.specs.Pick.{pick}
use Rattle.base.specs.Lists.{is_at}
use Rattle.megaco.specs.Bytes.{comma}
use Rattle.megaco.specs.Tree.{ItemOf, item}
use Rattle.megaco.specs.Reading.{unlimited}
use Rattle.megaco.specs.Items.{onward, called, descriptor_shape, property_shape, property_token, value_given, set_value, property_items, items_in, called_in, both, either, no_descriptors, descriptor_item, media_items, top_items, auditing, bare_shape, audited_items, audit_items, audit_given, unchanged}
use Rattle.protocol.specs.Types.{Parsed, AuditToken, MediaToken, Judged, Kind, Descriptors, Values}
use Rattle.read_command.specs.Production.{past_sign, list_of, list_end}
use Rattle.read_command.specs.Places.{item_at, items_at, media_item_at, media_at, top_item_at, top_at}
use Rattle.command_places.specs.Found.{next_at}
use Rattle.command_places.proofs.NextLaws.{part_last, part_more}
use Rattle.judge_items.specs.Judging.{stood_next, ended, ended_next, then_judged, judge_list}
use Rattle.judge_items.specs.declared.Reached.{Reached}
use Rattle.std.specs.declared.result.Result.{Result}

-- ---- a list as its items one by one: `f` judges a list, `next` tells what stood before the item after this one

unfoldable pub judge_all : {A S : Type 0} → (List A → S → Values → Judged) → (A → S → S) → List A → S → Values → Judged
judge_all f next [] stood vs = Ok vs
judge_all f next (x ∷ xs) stood vs = onward (f (x ∷ []) stood vs) (λ us. judge_all f next xs (next x stood) us)

onward_same : (j : Judged) (f g : Values → Judged) → ((vs : Values) → f vs ≡ g vs) → onward j f ≡ onward j g
unfolding onward
onward_same (Err code) f g e = refl
onward_same (Ok vs) f g e = e vs

module _ {A S : Type 0} (f : List A → S → Values → Judged) (next : A → S → S) (none : (stood : S) (vs : Values) → f [] stood vs ≡ Ok vs)
    (turn : (x : A) (xs : List A) (stood : S) (vs : Values) → f (x ∷ xs) stood vs ≡ onward (f (x ∷ []) stood vs) (λ us. f xs (next x stood) us)) where
  one_by_one : (is : List A) (stood : S) (vs : Values) → f is stood vs ≡ judge_all f next is stood vs
  unfolding judge_all
  one_by_one [] stood vs = none stood vs
  one_by_one (x ∷ xs) stood vs = turn x xs stood vs ∙ onward_same (f (x ∷ []) stood vs) _ _ (λ us. one_by_one xs (next x stood) us)

-- the tests of an item, and what follows it
turn_by : (code : ℕ) (b seen g : Bool) (j : Judged) (f : Values → Judged)
    → pick b (Err code) (pick seen (Err 448) (pick g (onward j f) (Err 442))) ≡ onward (pick b (Err code) (pick seen (Err 448) (pick g (onward j Ok) (Err 442)))) f
unfolding onward pick
turn_by code true seen g j f = refl
turn_by code false true g j f = refl
turn_by code false false false j f = refl
turn_by code false false true (Err c) f = refl
turn_by code false false true (Ok vs) f = refl

-- ---- the lists

-- one that stands is a repetition behind it
abbrev pub stands : {A : Type 0} → A → Bool → Bool
stands x seen = true

property_turn : {A : Type 0} (k : Kind) (x : ItemOf A) (xs : List (ItemOf A)) (seen : Bool) (vs : Values) → property_items k (x ∷ xs) seen vs ≡ onward (property_items k (x ∷ []) seen vs) (λ us. property_items k xs true us)
unfolding property_items
property_turn k (item w x v is) xs seen vs = turn_by 445 (not (called (property_token k) w x)) seen (property_shape v is) (set_value k (value_given k v) vs) _

top_turn : {A : Type 0} (x : ItemOf (ItemOf (ItemOf A))) (xs : List (ItemOf (ItemOf (ItemOf A)))) (seen : Bool) (vs : Values) → top_items (x ∷ xs) seen vs ≡ onward (top_items (x ∷ []) seen vs) (λ us. top_items xs true us)
unfolding top_items
top_turn (item w x v is) xs seen vs = turn_by 444 (not (called MediaToken w x)) seen (descriptor_shape v is) (media_items (items_in is) no_descriptors vs) _

media_turn : {A : Type 0} (x : ItemOf (ItemOf A)) (xs : List (ItemOf (ItemOf A))) (stood : Descriptors) (vs : Values)
    → media_items (x ∷ xs) stood vs ≡ onward (media_items (x ∷ []) stood vs) (λ us. media_items xs (stood_next x stood) us)
unfolding media_items stood_next pick
media_turn (item w x v is) xs stood vs =
    let c : Descriptors = called_in w x in turn_by 444 (not (both c c)) (both c stood) true (descriptor_item c v is vs) (λ us. media_items xs (either c stood) us)

audited_turn : {A : Type 0} (x : ItemOf A) (xs : List (ItemOf A)) (seen : Bool) (vs : Values) → audited_items (x ∷ xs) seen vs ≡ onward (audited_items (x ∷ []) seen vs) (λ us. audited_items xs true us)
unfolding audited_items onward
audited_turn (item w x v is) xs seen vs = turn_by 444 (not (called MediaToken w x)) seen (bare_shape v is) (Ok auditing) _

audit_turn : {A : Type 0} (x : ItemOf (ItemOf A)) (xs : List (ItemOf (ItemOf A))) (seen : Bool) (vs : Values) → audit_items (x ∷ xs) seen vs ≡ onward (audit_items (x ∷ []) seen vs) (λ us. audit_items xs true us)
unfolding audit_items
audit_turn (item w x v is) xs seen vs = turn_by 447 (not (called AuditToken w x)) seen (descriptor_shape v is) (audited_items (items_in is) false vs) _

-- ---- a list that is judged item by item, from its place: where it ends is told with it

module _ {A S : Type 0} (f : List A → S → Values → Judged) (next : A → S → S) (tree : ℕ → A) (end : ℕ → ℕ) (s : List ℕ) where
  abbrev pub one_judged : ℕ → S → Values → Result (Reached × S) ℕ
  one_judged i st vs = ended_next (f (tree i ∷ []) st vs) (end i) (next (tree i) st)

  list_judged : (k i : ℕ) (st : S) (vs : Values) → judge_list one_judged s k i st vs ≡ ended (judge_all f next (list_of tree end s k i) st vs) (list_end end s k i)
  unfolding one_judged judge_list judge_all list_of list_end ended then_judged ended_next onward pick
  list_judged zero i st vs = refl
  list_judged (suc k) i st vs = go (f (tree i ∷ []) st vs) (λ j nx us. list_judged k j nx us)
    where
      go : (j : Judged) → ((i : ℕ) (st : S) (us : Values) → judge_list one_judged s k i st us ≡ ended (judge_all f next (list_of tree end s k i) st us) (list_end end s k i))
          → then_judged (ended_next j (end i) (next (tree i) st)) (λ x nx. pick (is_at s x.end comma) (judge_list one_judged s k (past_sign comma s x.end) nx x.values) (Ok x))
          ≡ ended (onward j (λ us. judge_all f next (pick (is_at s (end i) comma) (list_of tree end s k (past_sign comma s (end i))) []) (next (tree i) st) us))
          (pick (is_at s (end i) comma) (list_end end s k (past_sign comma s (end i))) (end i))
      go (Err code) more = refl
      go (Ok us) more = by (is_at s (end i) comma)
        where
          by : (t : Bool) → pick t (judge_list one_judged s k (past_sign comma s (end i)) (next (tree i) st) us) (Ok (record { values = us; end = end i }))
              ≡ ended (judge_all f next (pick t (list_of tree end s k (past_sign comma s (end i))) []) (next (tree i) st) us) (pick t (list_end end s k (past_sign comma s (end i))) (end i))
          by true = more (past_sign comma s (end i)) (next (tree i) st) us
          by false = refl

  module _ (none : (st : S) (vs : Values) → f [] st vs ≡ Ok vs) (turn : (x : A) (xs : List A) (st : S) (vs : Values) → f (x ∷ xs) st vs ≡ onward (f (x ∷ []) st vs) (λ us. f xs (next x st) us)) where
    pub all_judged : (k i : ℕ) (st : S) (vs : Values) → judge_list one_judged s k i st vs ≡ ended (f (list_of tree end s k i) st vs) (list_end end s k i)
    all_judged k i st vs = list_judged k i st vs ∙ ap (λ (j : Judged). ended j (list_end end s k i)) (sym (one_by_one f next none turn (list_of tree end s k i) st vs))

module _ (s : List ℕ) (at : ℕ) (vs : Values) where
  pub property_all : (k : Kind)
      → judge_list (λ i seen us. ended_next (property_items k ((item_at 5 (items_at 5 s) s i).tree ∷ []) seen us) (item_at 5 (items_at 5 s) s i).end true) s (length s + 1) at false vs
      ≡ ended (property_items k (items_at 6 s at).tree false vs) (items_at 6 s at).end
  unfolding items_at unlimited property_items one_judged
  property_all k =
      all_judged (property_items k) stands (λ i. (item_at 5 (items_at 5 s) s i).tree) (λ i. (item_at 5 (items_at 5 s) s i).end) s (λ st us. refl) (property_turn k) (length s + 1) at false vs

  pub media_all : judge_list (λ i stood us. ended_next (media_items ((media_item_at s i).tree ∷ []) stood us) (media_item_at s i).end (stood_next (media_item_at s i).tree stood)) s (length s + 1) at no_descriptors vs
      ≡ ended (media_items (media_at s at).tree no_descriptors vs) (media_at s at).end
  unfolding media_at unlimited media_items one_judged
  media_all = all_judged media_items stood_next (λ i. (media_item_at s i).tree) (λ i. (media_item_at s i).end) s (λ st us. refl) media_turn (length s + 1) at no_descriptors vs

  pub top_all : judge_list (λ i seen us. ended_next (top_items ((top_item_at s i).tree ∷ []) seen us) (top_item_at s i).end true) s (length s + 1) at false vs
      ≡ ended (top_items (top_at s at).tree false vs) (top_at s at).end
  unfolding top_at unlimited top_items one_judged
  top_all = all_judged top_items stands (λ i. (top_item_at s i).tree) (λ i. (top_item_at s i).end) s (λ st us. refl) top_turn (length s + 1) at false vs

  pub audited_all : judge_list (λ i seen us. ended_next (audited_items ((item_at 6 (items_at 6 s) s i).tree ∷ []) seen us) (item_at 6 (items_at 6 s) s i).end true) s (length s + 1) at false vs
      ≡ ended (audited_items (items_at 7 s at).tree false vs) (items_at 7 s at).end
  unfolding items_at unlimited audited_items one_judged
  audited_all = all_judged audited_items stands (λ i. (item_at 6 (items_at 6 s) s i).tree) (λ i. (item_at 6 (items_at 6 s) s i).end) s (λ st us. refl) audited_turn (length s + 1) at false vs

  pub audit_all : judge_list (λ i seen us. ended_next (audit_items ((top_item_at s i).tree ∷ []) seen us) (top_item_at s i).end true) s (length s + 1) at false vs
      ≡ ended (audit_items (top_at s at).tree false vs) (top_at s at).end
  unfolding top_at unlimited audit_items one_judged
  audit_all = all_judged audit_items stands (λ i. (top_item_at s i).tree) (λ i. (top_item_at s i).end) s (λ st us. refl) audit_turn (length s + 1) at false vs

-- braces hold an item at least
given_some : {A : Type 0} (l : List (ItemOf (ItemOf A))) (x : ItemOf (ItemOf A)) (xs : List (ItemOf (ItemOf A))) → l ≡ x ∷ xs → audit_given l ≡ audit_items l false unchanged
unfolding audit_given
given_some l x xs e = rw e

pub audit_given_lem : (s : List ℕ) (at : ℕ) → audit_given (top_at s at).tree ≡ audit_items (top_at s at).tree false unchanged
unfolding top_at unlimited list_of
audit_given_lem s at = let z : length s + 1 ≡ suc (length s) = omega arith in by (length s + 1) (length s) z
  where
    by : (a b : ℕ) → a ≡ suc b → audit_given (list_of (λ i. (top_item_at s i).tree) (λ i. (top_item_at s i).end) s a at) ≡ audit_items (list_of (λ i. (top_item_at s i).tree) (λ i. (top_item_at s i).end) s a at) false unchanged
    by a b e = rw e (given_some (list_of (λ i. (top_item_at s i).tree) (λ i. (top_item_at s i).end) s (suc b) at) _ _ refl)

-- ---- the loop: what is left from here is judged as the whole

module _ {S : Type 0} (g : ℕ → S → Values → Result (Reached × S) ℕ) (s : List ℕ) (k i : ℕ) (st : S) (vs : Values) (q : Result Reached ℕ) (inv : q ≡ judge_list g s k i st vs) where
  pub list_none : k ≤ 0 → Ok (record { values = vs; end = i }) ≡ q
  unfolding judge_list
  list_none h = let z : k ≡ 0 = omega arith in sym (inv ∙ rw z)

  module _ (h : 0 < k) (r : Result (Reached × S) ℕ) (d : r ≡ g i st vs) where
    turned : q ≡ then_judged r (λ x nx. pick (is_at s x.end comma) (judge_list g s (k - 1) (past_sign comma s x.end) nx x.values) (Ok x))
    unfolding judge_list
    turned = let z : k ≡ suc (k - 1) = omega arith in by k (k - 1) z inv
      where
        by : (a b : ℕ) → a ≡ suc b → q ≡ judge_list g s a i st vs → q ≡ then_judged r (λ x nx. pick (is_at s x.end comma) (judge_list g s b (past_sign comma s x.end) nx x.values) (Ok x))
        by a b z f = rw d (rw z at f)

    pub list_wrong : (code : ℕ) → r ≡ Err code → Err code ≡ q
    unfolding then_judged
    list_wrong code w = sym (turned ∙ rw w)

    module _ (x : Reached) (nx : S) (w : r ≡ Ok (x, nx)) (u : Parsed) (n : u ≡ next_at s x.end) where
      pub list_last : u ≡ None → Ok x ≡ q
      unfolding then_judged
      list_last e = sym (turned ∙ rw w (part_last s x.end x.end refl u n (λ p. judge_list g s (k - 1) p nx x.values) (Ok x) e))

      pub list_more : (p : ℕ) → u ≡ Some p → q ≡ judge_list g s (k - 1) p nx x.values
      unfolding then_judged
      list_more p e = turned ∙ rw w (part_more s x.end x.end refl u n (λ p. judge_list g s (k - 1) p nx x.values) (Ok x) p e)
