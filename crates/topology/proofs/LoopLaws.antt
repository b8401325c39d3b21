-- The loops over the triples of a topology and over the properties of an action: judged and set.
use Rattle.std.specs.Prelude.{Some, None, Ok, Err}
use Prim.Native.Nat.{ℕ, suc, ◌+◌, ◌-◌, ◌<◌, ◌≤◌}
use mathlib.Core.Path.{◌≡◌, refl, sym, ap, ◌∙◌}
use mathlib.Core.List.{List, [], ◌∷◌, ◌++◌, append-nil}
use mathlib.Core.Bool.{Bool, true, false}
use native.Mathlib.Omega.{arith}
use lib.ListN.{length}
use Rattle.base.specs.Pick.{pick}
use Rattle.base.specs.Lists.{is_at}
use Rattle.megaco.specs.Bytes.{comma}
use Rattle.megaco.specs.Tree.{Triple, Property, priority, emergency, topology}
use Rattle.megaco.specs.Reading.{unlimited, is_property, word_here}
use Rattle.megaco.specs.Square.{Square}
use Rattle.megaco.specs.Topology.{triples_of, links_of, set_links}
use Rattle.megaco.specs.Attempt.{judge}
use Rattle.megaco.specs.Action.{link_checks}
use Rattle.protocol.specs.Types.{Checked, Parsed}
use Rattle.read_command.specs.Production.{past_sign, list_of}
use Rattle.read_command.specs.Places.{triple_at, triples_at, property_at, properties_of}
use Rattle.command_places.specs.Found.{next_at}
use Rattle.command_places.proofs.NextLaws.{part_last, part_more}
use Rattle.action_places.specs.ActionPlaces.{kind_of, property_places}
use Rattle.action_places.specs.declared.PropertyPlaces.{PropertyPlaces}
use Rattle.topology.specs.declared.Looked.{Looked}
use Rattle.topology.specs.Links.{link_from, Links}
use Rattle.topology.proofs.LinkLaws.{judged_by, set_by, set_both, judged_pass, judged_fail, judged_none, set_none}

-- ---- the triples from place i on, n of them being passed
unfoldable pub triples_from : List ℕ → ℕ → ℕ → List Triple
triples_from s n i = list_of (λ j. (triple_at s j).tree) (λ j. (triple_at s j).end) s (length s + 1 - n) i

first_triples : (s : List ℕ) (at : ℕ) → (triples_at s at).tree ≡ triples_from s 0 at
unfolding triples_at triples_from unlimited
first_triples s at = let z : length s + 1 - 0 ≡ length s + 1 = omega arith in rw z

no_triples : (s : List ℕ) (n i : ℕ) → length s < n → triples_from s n i ≡ []
unfolding triples_from list_of
no_triples s n i h = let z : length s + 1 - n ≡ 0 = omega arith in rw z

next_triple : (s : List ℕ) (n i : ℕ) → n ≤ length s
    → triples_from s n i ≡ ((triple_at s i).tree ∷ []) ++ pick (is_at s (triple_at s i).end comma) (triples_from s (n + 1) (past_sign comma s (triple_at s i).end)) []
unfolding triples_from list_of
next_triple s n i h = let k : length s + 1 - n ≡ suc (length s + 1 - (n + 1)) = omega arith in rw k

-- judged: the triples before i pass
pub judging : (s t : List ℕ) (at c : ℕ) → judged_by c t (triples_at s at).tree ≡ judged_by c t (triples_from s 0 at)
judging s t at c = ap (judged_by c t) (first_triples s at)

as_judged : (c : ℕ) (t : List ℕ) (ts : List Triple) (r : Checked) → r ≡ judged_by c t ts → r ≡ judge (link_checks (links_of c t ts))
unfolding judged_by
as_judged c t ts r e = e

as_set : (c : ℕ) (t : List ℕ) (ts : List Triple) (q r : Square) → r ≡ set_by c t ts q → r ≡ set_links (links_of c t ts) q
unfolding set_by
as_set c t ts q r e = e

module _ (s t : List ℕ) (at c n i : ℕ) where
  -- one triple, looked up
  module _ (x : Looked) (l : Links s i t c x) where
    one_judged : (k : Checked) → k ≡ judge (link_checks (link_from x ∷ [])) → judged_by c t ((triple_at s i).tree ∷ []) ≡ k
    unfolding judged_by links_of
    one_judged k j = sym (j ∙ rw l.is)

    one_set : (q r : Square) → r ≡ set_links (link_from x ∷ []) q → set_by c t ((triple_at s i).tree ∷ []) q ≡ r
    unfolding set_by links_of
    one_set q r j = sym (j ∙ rw l.is)

    module _ (y : Parsed) (g : y ≡ next_at s x.end) where
      ended : y ≡ None → pick (is_at s (triple_at s i).end comma) (triples_from s (n + 1) (past_sign comma s (triple_at s i).end)) [] ≡ []
      ended w = part_last s x.end (triple_at s i).end l.after y g (triples_from s (n + 1)) [] w

      behind : (u : ℕ) → y ≡ Some u → pick (is_at s (triple_at s i).end comma) (triples_from s (n + 1) (past_sign comma s (triple_at s i).end)) [] ≡ triples_from s (n + 1) u
      behind u w = part_more s x.end (triple_at s i).end l.after y g (triples_from s (n + 1)) [] u w

  module _ (inv : judged_by c t (triples_at s at).tree ≡ judged_by c t (triples_from s n i)) where
    pub triples_none : length s < n → Ok tt ≡ judge (link_checks (links_of c t (triples_at s at).tree))
    triples_none h = as_judged c t (triples_at s at).tree (Ok tt) (sym (inv ∙ rw (no_triples s n i h) (judged_none c t)))

    module _ (h : n ≤ length s) (x : Looked) (l : Links s i t c x) (k : Checked) (j : k ≡ judge (link_checks (link_from x ∷ []))) where
      rest : List Triple
      rest = pick (is_at s (triple_at s i).end comma) (triples_from s (n + 1) (past_sign comma s (triple_at s i).end)) []

      pub triples_fail : (code : ℕ) → k ≡ Err code → Err code ≡ judge (link_checks (links_of c t (triples_at s at).tree))
      unfolding rest
      triples_fail code z =
          as_judged c t (triples_at s at).tree (Err code)
          (sym (inv ∙ ap (judged_by c t) (next_triple s n i h) ∙ judged_fail c t ((triple_at s i).tree ∷ []) rest code (one_judged x l k j ∙ z)))

      on : k ≡ Ok tt → judged_by c t (triples_at s at).tree ≡ judged_by c t rest
      unfolding rest
      on z = inv ∙ ap (judged_by c t) (next_triple s n i h) ∙ judged_pass c t ((triple_at s i).tree ∷ []) rest (one_judged x l k j ∙ z)

      pub triples_last : (y : Parsed) → k ≡ Ok tt → y ≡ next_at s x.end → y ≡ None → Ok tt ≡ judge (link_checks (links_of c t (triples_at s at).tree))
      unfolding rest
      triples_last y z g f = as_judged c t (triples_at s at).tree (Ok tt) (sym (on z ∙ ap (judged_by c t) (ended x l y g f) ∙ judged_none c t))

      pub triples_more : (y : Parsed) (u : ℕ) → k ≡ Ok tt → y ≡ next_at s x.end → y ≡ Some u → judged_by c t (triples_at s at).tree ≡ judged_by c t (triples_from s (n + 1) u)
      unfolding rest
      triples_more y u z g f = on z ∙ ap (judged_by c t) (behind x l y g u f)

  module _ (was q : Square) (inv : set_by c t (triples_at s at).tree was ≡ set_by c t (triples_from s n i) q) where
    pub unset_none : length s < n → q ≡ set_links (links_of c t (triples_at s at).tree) was
    unset_none h = as_set c t (triples_at s at).tree was q (sym (inv ∙ rw (no_triples s n i h) (set_none c t q)))

    module _ (h : n ≤ length s) (x : Looked) (l : Links s i t c x) (r : Square) (j : r ≡ set_links (link_from x ∷ []) q) (y : Parsed) (g : y ≡ next_at s x.end) where
      rest_set : List Triple
      rest_set = pick (is_at s (triple_at s i).end comma) (triples_from s (n + 1) (past_sign comma s (triple_at s i).end)) []

      on_set : set_by c t (triples_at s at).tree was ≡ set_by c t rest_set r
      unfolding rest_set
      on_set =
          inv ∙ ap (λ (ts : List Triple). set_by c t ts q) (next_triple s n i h) ∙ set_both c t ((triple_at s i).tree ∷ []) rest_set q
          ∙ ap (set_by c t rest_set) (one_set x l q r j)

      pub unset_last : y ≡ None → r ≡ set_links (links_of c t (triples_at s at).tree) was
      unfolding rest_set
      unset_last f = as_set c t (triples_at s at).tree was r (sym (on_set ∙ ap (λ (ts : List Triple). set_by c t ts r) (ended x l y g f) ∙ set_none c t r))

      pub set_more : (u : ℕ) → y ≡ Some u → set_by c t (triples_at s at).tree was ≡ set_by c t (triples_from s (n + 1) u) r
      unfolding rest_set
      set_more u f = on_set ∙ ap (λ (ts : List Triple). set_by c t ts r) (behind x l y g u f)

pub setting : (s t : List ℕ) (at c : ℕ) (q : Square) → set_by c t (triples_at s at).tree q ≡ set_by c t (triples_from s 0 at) q
setting s t at c q = ap (λ (ts : List Triple). set_by c t ts q) (first_triples s at)

-- ---- the properties from place i on, n of them being passed: their triples
unfoldable pub of_properties : List ℕ → ℕ → ℕ → List Triple
of_properties s n i = triples_of (properties_of (length s + 1 - n) s i)

unfoldable pub of_action : List ℕ → ℕ → List Triple
of_action s at = triples_of (properties_of (unlimited s) s at)

first_properties : (s : List ℕ) (at : ℕ) → of_action s at ≡ of_properties s 0 at
unfolding of_action of_properties unlimited
first_properties s at = let z : length s + 1 - 0 ≡ length s + 1 = omega arith in rw z

triples_cons : (p : Property) (ps : List Property) → triples_of (p ∷ ps) ≡ triples_of (p ∷ []) ++ triples_of ps
unfolding triples_of
triples_cons (priority n) ps = refl
triples_cons emergency ps = refl
triples_cons (topology ts) ps = rw (append-nil ts)

no_properties : (s : List ℕ) (n i : ℕ) → length s < n → of_properties s n i ≡ []
unfolding of_properties properties_of triples_of
no_properties s n i h = let z : length s + 1 - n ≡ 0 = omega arith in rw z

after_properties : (s : List ℕ) (n i : ℕ) (z : Bool) → n ≤ length s → z ≡ is_property (word_here s i) → z ≡ false → of_properties s n i ≡ []
unfolding of_properties properties_of triples_of pick
after_properties s n i z h d f = let k : length s + 1 - n ≡ suc (length s + 1 - (n + 1)) = omega arith in rw (k, ← d, f)

next_property_lem : (s : List ℕ) (n i : ℕ) (z : Bool) → n ≤ length s → z ≡ is_property (word_here s i) → z ≡ true
    → of_properties s n i
    ≡ triples_of ((property_at s i).tree ∷ []) ++ triples_of (pick (is_at s (property_at s i).end comma) (properties_of (length s + 1 - (n + 1)) s (past_sign comma s (property_at s i).end)) [])
unfolding of_properties properties_of pick
next_property_lem s n i z h d t = let k : length s + 1 - n ≡ suc (length s + 1 - (n + 1)) = omega arith in rw (k, ← d, t) (triples_cons (property_at s i).tree _)

module _ (s : List ℕ) (n i : ℕ) (p : PropertyPlaces) (e : p ≡ property_places s i) (y : Parsed) (g : y ≡ next_at s p.end) where
  place_is : p.end ≡ (property_at s i).end
  unfolding property_places
  place_is = ap (λ (x : PropertyPlaces). x.end) e

  property_behind : (u : ℕ) → y ≡ Some u
      → triples_of (pick (is_at s (property_at s i).end comma) (properties_of (length s + 1 - (n + 1)) s (past_sign comma s (property_at s i).end)) []) ≡ of_properties s (n + 1) u
  unfolding of_properties
  property_behind u w = ap triples_of (part_more s p.end (property_at s i).end place_is y g (properties_of (length s + 1 - (n + 1)) s) [] u w)

  property_ended : y ≡ None → triples_of (pick (is_at s (property_at s i).end comma) (properties_of (length s + 1 - (n + 1)) s (past_sign comma s (property_at s i).end)) []) ≡ []
  unfolding triples_of
  property_ended w = ap triples_of (part_last s p.end (property_at s i).end place_is y g (properties_of (length s + 1 - (n + 1)) s) [] w)

pub judging_all : (s t : List ℕ) (at c : ℕ) → judged_by c t (of_action s at) ≡ judged_by c t (of_properties s 0 at)
judging_all s t at c = ap (judged_by c t) (first_properties s at)

pub setting_all : (s t : List ℕ) (at c : ℕ) (q : Square) → set_by c t (of_action s at) q ≡ set_by c t (of_properties s 0 at) q
setting_all s t at c q = ap (λ (ts : List Triple). set_by c t ts q) (first_properties s at)

module _ (s t : List ℕ) (at c n i : ℕ) where
  behind_it : List Triple
  behind_it = triples_of (pick (is_at s (property_at s i).end comma) (properties_of (length s + 1 - (n + 1)) s (past_sign comma s (property_at s i).end)) [])

  all_judged : (r : Checked) → r ≡ judged_by c t (of_action s at) → r ≡ judge (link_checks (links_of c t (triples_of (properties_of (unlimited s) s at))))
  unfolding judged_by of_action
  all_judged r e = e

  all_set : (q r : Square) → r ≡ set_by c t (of_action s at) q → r ≡ set_links (links_of c t (triples_of (properties_of (unlimited s) s at))) q
  unfolding set_by of_action
  all_set q r e = e

  module _ (inv : judged_by c t (of_action s at) ≡ judged_by c t (of_properties s n i)) where
    pub all_none : length s < n → Ok tt ≡ judge (link_checks (links_of c t (triples_of (properties_of (unlimited s) s at))))
    all_none h = all_judged (Ok tt) (sym (inv ∙ ap (judged_by c t) (no_properties s n i h) ∙ judged_none c t))

    module _ (h : n ≤ length s) (z : Bool) (d : z ≡ is_property (word_here s i)) where
      pub all_end : z ≡ false → Ok tt ≡ judge (link_checks (links_of c t (triples_of (properties_of (unlimited s) s at))))
      all_end f = all_judged (Ok tt) (sym (inv ∙ ap (judged_by c t) (after_properties s n i z h d f) ∙ judged_none c t))

      module _ (v : z ≡ true) (k : Checked) (j : k ≡ judge (link_checks (links_of c t (triples_of ((property_at s i).tree ∷ []))))) where
        here : judged_by c t (triples_of ((property_at s i).tree ∷ [])) ≡ k
        unfolding judged_by
        here = sym j

        pub all_fail : (code : ℕ) → k ≡ Err code → Err code ≡ judge (link_checks (links_of c t (triples_of (properties_of (unlimited s) s at))))
        unfolding behind_it
        all_fail code w =
            all_judged (Err code)
            (sym (inv ∙ ap (judged_by c t) (next_property_lem s n i z h d v) ∙ judged_fail c t (triples_of ((property_at s i).tree ∷ [])) behind_it code (here ∙ w)))

        module _ (w : k ≡ Ok tt) (p : PropertyPlaces) (e : p ≡ property_places s i) (y : Parsed) (g : y ≡ next_at s p.end) where
          on_all : judged_by c t (of_action s at) ≡ judged_by c t behind_it
          unfolding behind_it
          on_all = inv ∙ ap (judged_by c t) (next_property_lem s n i z h d v) ∙ judged_pass c t (triples_of ((property_at s i).tree ∷ [])) behind_it (here ∙ w)

          pub all_last : y ≡ None → Ok tt ≡ judge (link_checks (links_of c t (triples_of (properties_of (unlimited s) s at))))
          unfolding behind_it
          all_last f = all_judged (Ok tt) (sym (on_all ∙ ap (judged_by c t) (property_ended s n i p e y g f) ∙ judged_none c t))

          pub all_more : (u : ℕ) → y ≡ Some u → judged_by c t (of_action s at) ≡ judged_by c t (of_properties s (n + 1) u)
          unfolding behind_it
          all_more u f = on_all ∙ ap (judged_by c t) (property_behind s n i p e y g u f)

  module _ (was q : Square) (inv : set_by c t (of_action s at) was ≡ set_by c t (of_properties s n i) q) where
    pub set_all_none : length s < n → q ≡ set_links (links_of c t (triples_of (properties_of (unlimited s) s at))) was
    set_all_none h = all_set was q (sym (inv ∙ ap (λ (ts : List Triple). set_by c t ts q) (no_properties s n i h) ∙ set_none c t q))

    module _ (h : n ≤ length s) (z : Bool) (d : z ≡ is_property (word_here s i)) where
      pub set_all_end : z ≡ false → q ≡ set_links (links_of c t (triples_of (properties_of (unlimited s) s at))) was
      set_all_end f = all_set was q (sym (inv ∙ ap (λ (ts : List Triple). set_by c t ts q) (after_properties s n i z h d f) ∙ set_none c t q))

      module _ (v : z ≡ true) (r : Square) (j : r ≡ set_links (links_of c t (triples_of ((property_at s i).tree ∷ []))) q) (p : PropertyPlaces) (e : p ≡ property_places s i) (y : Parsed)
          (g : y ≡ next_at s p.end) where
        here_set : set_by c t (triples_of ((property_at s i).tree ∷ [])) q ≡ r
        unfolding set_by
        here_set = sym j

        on_all_set : set_by c t (of_action s at) was ≡ set_by c t behind_it r
        unfolding behind_it
        on_all_set =
            inv ∙ ap (λ (ts : List Triple). set_by c t ts q) (next_property_lem s n i z h d v) ∙ set_both c t (triples_of ((property_at s i).tree ∷ [])) behind_it q
            ∙ ap (set_by c t behind_it) here_set

        pub set_all_last : y ≡ None → r ≡ set_links (links_of c t (triples_of (properties_of (unlimited s) s at))) was
        unfolding behind_it
        set_all_last f = all_set was r (sym (on_all_set ∙ ap (λ (ts : List Triple). set_by c t ts r) (property_ended s n i p e y g f) ∙ set_none c t r))

        pub set_all_more : (u : ℕ) → y ≡ Some u → set_by c t (of_action s at) was ≡ set_by c t (of_properties s (n + 1) u) r
        unfolding behind_it
        set_all_more u f = on_all_set ∙ ap (λ (ts : List Triple). set_by c t ts r) (property_behind s n i p e y g u f)

pub kind_is : (s : List ℕ) (i : ℕ) (p : PropertyPlaces) → p ≡ property_places s i → p.property ≡ kind_of (property_at s i).tree
unfolding property_places
kind_is s i p e = ap (λ (x : PropertyPlaces). x.property) e
