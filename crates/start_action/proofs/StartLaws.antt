-- An action's start: the properties one by one, its tests, and what it writes.
use Rattle.std.specs.Prelude.{Some, None, Ok}
use Prim.Native.Nat.{ℕ, suc, ◌+◌, ◌-◌, ◌<◌, ◌≤◌}
use mathlib.Core.Path.{◌≡◌, refl, sym, ap, ◌∙◌}
use mathlib.Core.Bool.{Bool, true, false, ◌&&◌, ◌||◌, true≢false}
use mathlib.Core.List.{List, [], ◌∷◌}
use native.Mathlib.Omega.{arith}
use native.Mathlib.Numerals.{add-one}
use lib.ListN.{length}
use Rattle.base.specs.Pick.{pick}
use Rattle.base.specs.Lists.{is_at}
use Rattle.megaco.specs.Bytes.{comma}
use Rattle.megaco.specs.Table.{apply}
use Rattle.megaco.specs.Tree as tree
use Rattle.megaco.specs.Tree.{Triple, priority, emergency, topology}
use Rattle.megaco.specs.Reading.{unlimited, is_property, word_here}
use Rattle.megaco.specs.Topology.{triples_of, any_topology, Link, links_of}
use Rattle.megaco.specs.Attempt.{judge, number_of, seen}
use Rattle.megaco.specs.Action.{link_checks, flow_writes, new_record, any_given, over15, set_properties, start_checks, start_writes}
use Rattle.protocol.specs.Types.{Context, Null, Numbered, Choose, All, Checked, Parsed, Seen, Property}
use Rattle.read_command.specs.Production.{past_sign}
use Rattle.read_command.specs.Places.{property_at, properties_of}
use Rattle.command_places.specs.Found.{next_at}
use Rattle.command_places.proofs.NextLaws.{part_last, part_more}
use Rattle.action_places.specs.declared.PropertyPlaces.{PropertyPlaces}
use Rattle.action_places.specs.ActionPlaces.{kind_of, property_places}
use Rattle.attempt.proofs.JudgeLaws.{passed_first}
use Rattle.start_action.specs.declared.PropertiesRead.{PropertiesRead}
use Rattle.topology.specs.Links.{is_topology, flows_after}
use Rattle.start_action.specs.declared.Tested.{Tested}
use Rattle.start_action.specs.Starting.{over_one, set_one, properties_in, given_by, judged_start, linked, Tests, property_writes, wrote_start}

-- ---- the properties in turn

pub over_cons : (x : tree.Property) (ps : List tree.Property) → over15 (x ∷ ps) ≡ (over_one (kind_of x) || over15 ps)
unfolding over15 over_one kind_of
over_cons (priority n) ps = refl
over_cons emergency ps = refl
over_cons (topology ts) ps = refl

pub set_cons : (x : tree.Property) (ps : List tree.Property) (r : ℕ) → set_properties (x ∷ ps) r ≡ set_properties ps (set_one (kind_of x) r)
unfolding set_properties set_one kind_of
set_cons (priority n) ps r = refl
set_cons emergency ps r = refl
set_cons (topology ts) ps r = refl

-- the properties ps, of which those in rs are still to be set: in a new context's record, now a, and in the one held, now b
pub record Leads (ps rs : List tree.Property) (was a b : ℕ) : Type 0 where
  pub over : over15 ps ≡ over15 rs
  pub fresh : set_properties ps new_record ≡ set_properties rs a
  pub held : set_properties ps was ≡ set_properties rs b

module _ (ps : List tree.Property) (was a b : ℕ) where
  leads_as : (rs qs : List tree.Property) → Leads ps rs was a b → rs ≡ qs → Leads ps qs was a b
  leads_as rs qs h e = rw e at h

  leads_on : (x : tree.Property) (rs : List tree.Property) → over_one (kind_of x) ≡ false → Leads ps (x ∷ rs) was a b
      → Leads ps rs was (set_one (kind_of x) a) (set_one (kind_of x) b)
  leads_on x rs f h =
      record { over = h.over ∙ over_cons x rs ∙ rw f; fresh = h.fresh ∙ set_cons x rs a; held = h.held ∙ set_cons x rs b }

abbrev given : Bool → ℕ → ℕ → PropertiesRead
given over fresh held = record { over = over; fresh = fresh; held = held }

pub read_start : (s : List ℕ) (at held : ℕ) → Leads (properties_in s at) (properties_of (length s + 1 - 0) s at) held new_record held
unfolding properties_in unlimited
read_start s at held = let z : length s + 1 - 0 ≡ length s + 1 = omega arith in rw z (record { over = refl; fresh = refl; held = refl })

module _ (s : List ℕ) (at held n i a b : ℕ) (inv : Leads (properties_in s at) (properties_of (length s + 1 - n) s i) held a b) where
  now : (rs : List tree.Property) → properties_of (length s + 1 - n) s i ≡ rs → Leads (properties_in s at) rs held a b
  now rs e = leads_as (properties_in s at) held a b (properties_of (length s + 1 - n) s i) rs inv e

  all_set : (a' b' : ℕ) → Leads (properties_in s at) [] held a' b' → given false a' b' ≡ given_by (properties_in s at) held
  unfolding given_by over15 set_properties pick
  all_set a' b' h = rw (h.over, h.fresh, h.held)

  pub read_none : length s < n → given false a b ≡ given_by (properties_in s at) held
  unfolding properties_of
  read_none h =
      let z : length s + 1 - n ≡ 0 = omega arith in
      all_set a b (now [] (rw z))

  module _ (h : n ≤ length s) (z : Bool) (d : z ≡ is_property (word_here s i)) where
    turn : properties_of (length s + 1 - n) s i
        ≡ pick z ((property_at s i).tree ∷ pick (is_at s (property_at s i).end comma) (properties_of (length s + 1 - (n + 1)) s (past_sign comma s (property_at s i).end)) []) []
    unfolding properties_of
    turn = let k : length s + 1 - n ≡ suc (length s + 1 - (n + 1)) = omega arith in rw (k, d)

    pub read_end : z ≡ false → given false a b ≡ given_by (properties_in s at) held
    unfolding pick
    read_end f = all_set a b (now [] (turn ∙ rw f))

    module _ (t : z ≡ true) (p : PropertyPlaces) (e : p ≡ property_places s i) where
      behind : List tree.Property
      behind = pick (is_at s p.end comma) (properties_of (length s + 1 - (n + 1)) s (past_sign comma s p.end)) []

      kind : p.property ≡ kind_of (property_at s i).tree
      unfolding property_places
      kind = ap (λ (y : PropertyPlaces). y.property) e

      one : Leads (properties_in s at) ((property_at s i).tree ∷ behind) held a b
      unfolding pick property_places behind
      one =
          let q : p.end ≡ (property_at s i).end = ap (λ (y : PropertyPlaces). y.end) e in
          now ((property_at s i).tree ∷ behind) (turn ∙ rw (t, q))

      module _ (o : Bool) (w : o ≡ over_one p.property) where
        pub read_over : o ≡ true → given true 0 0 ≡ given_by (properties_in s at) held
        unfolding given_by pick
        read_over f =
            let x : over_one (kind_of (property_at s i).tree) ≡ true = sym (w ∙ ap over_one kind) ∙ f in
            let y : over15 (properties_in s at) ≡ true = one.over ∙ over_cons (property_at s i).tree behind ∙ rw x in
            rw y

        module _ (f : o ≡ false) (a' b' : ℕ) (ea : a' ≡ set_one p.property a) (eb : b' ≡ set_one p.property b) (x : Parsed) (g : x ≡ next_at s p.end) where
          next : (rs : List tree.Property) → behind ≡ rs → Leads (properties_in s at) rs held a' b'
          next rs k =
              let u : a' ≡ set_one (kind_of (property_at s i).tree) a = ea ∙ ap (λ (y : Property). set_one y a) kind in
              let v : b' ≡ set_one (kind_of (property_at s i).tree) b = eb ∙ ap (λ (y : Property). set_one y b) kind in
              rw (u, v, ← k) (leads_on (properties_in s at) held a b (property_at s i).tree behind (sym (w ∙ ap over_one kind) ∙ f) one)

          pub read_last : x ≡ None → given false a' b' ≡ given_by (properties_in s at) held
          unfolding behind
          read_last k = all_set a' b' (next [] (part_last s p.end p.end refl x g (properties_of (length s + 1 - (n + 1)) s) [] k))

          pub read_more : (u : ℕ) → x ≡ Some u → Leads (properties_in s at) (properties_of (length s + 1 - (n + 1)) s u) held a' b'
          unfolding behind
          read_more u k = next (properties_of (length s + 1 - (n + 1)) s u) (part_more s p.end p.end refl x g (properties_of (length s + 1 - (n + 1)) s) [] u k)

-- who has them as one value has each of them
module _ (ps : List tree.Property) (was : ℕ) (g : PropertiesRead) (e : g ≡ given_by ps was) where
  pub given_over : g.over ≡ over15 ps
  unfolding given_by
  given_over = ap (λ (x : PropertiesRead). x.over) e

  pub given_fresh : g.over ≡ false → g.fresh ≡ set_properties ps new_record
  unfolding given_by pick
  given_fresh f = ap (λ (x : PropertiesRead). x.fresh) e ∙ rw (sym given_over ∙ f)

  pub given_held : g.over ≡ false → g.held ≡ set_properties ps was
  unfolding given_by pick
  given_held f = ap (λ (x : PropertiesRead). x.held) e ∙ rw (sym given_over ∙ f)

-- ---- topology among them

unfoldable pub topology_from : List ℕ → ℕ → ℕ → Bool
topology_from s n i = any_topology (properties_of (length s + 1 - n) s i)

topology_cons : (x : tree.Property) (ps : List tree.Property) → any_topology (x ∷ ps) ≡ (is_topology (kind_of x) || any_topology ps)
unfolding any_topology is_topology kind_of
topology_cons (priority n) ps = refl
topology_cons emergency ps = refl
topology_cons (topology ts) ps = refl

pub seek_start : (s : List ℕ) (at : ℕ) → any_topology (properties_in s at) ≡ topology_from s 0 at
unfolding properties_in unlimited topology_from
seek_start s at = let z : length s + 1 - 0 ≡ length s + 1 = omega arith in rw z

module _ (s : List ℕ) (n i : ℕ) (q : Bool) (inv : q ≡ topology_from s n i) where
  pub seek_none : length s < n → false ≡ q
  unfolding topology_from properties_of any_topology
  seek_none h = let z : length s + 1 - n ≡ 0 = omega arith in sym (inv ∙ rw z)

  module _ (h : n ≤ length s) (z : Bool) (d : z ≡ is_property (word_here s i)) where
    pub seek_end : z ≡ false → false ≡ q
    unfolding topology_from properties_of any_topology pick
    seek_end f = let k : length s + 1 - n ≡ suc (length s + 1 - (n + 1)) = omega arith in sym (inv ∙ rw (k, ← d, f))

    module _ (t : z ≡ true) (p : PropertyPlaces) (e : p ≡ property_places s i) (o : Bool) (w : o ≡ is_topology p.property) where
      sought : q ≡ (o || any_topology (pick (is_at s p.end comma) (properties_of (length s + 1 - (n + 1)) s (past_sign comma s p.end)) []))
      unfolding topology_from properties_of property_places pick
      sought =
          let k : length s + 1 - n ≡ suc (length s + 1 - (n + 1)) = omega arith in
          let x : p.property ≡ kind_of (property_at s i).tree = ap (λ (y : PropertyPlaces). y.property) e in
          let u : p.end ≡ (property_at s i).end = ap (λ (y : PropertyPlaces). y.end) e in
          let rest : ℕ → List tree.Property = λ v. pick (is_at s v comma) (properties_of (length s + 1 - (n + 1)) s (past_sign comma s v)) [] in
          let first : q ≡ any_topology ((property_at s i).tree ∷ rest (property_at s i).end) = inv ∙ rw (k, ← d, t) in
          let next : any_topology ((property_at s i).tree ∷ rest (property_at s i).end) ≡ (is_topology (kind_of (property_at s i).tree) || any_topology (rest (property_at s i).end)) =
          topology_cons (property_at s i).tree (rest (property_at s i).end) in
          let same : o ≡ is_topology (kind_of (property_at s i).tree) = w ∙ ap is_topology x in
          first ∙ next ∙ rw (same, u)

      pub seek_found : o ≡ true → true ≡ q
      seek_found f = sym (sought ∙ rw f)

      module _ (f : o ≡ false) (y : Parsed) (g : y ≡ next_at s p.end) where
        pub seek_last : y ≡ None → false ≡ q
        unfolding any_topology
        seek_last k = sym (sought ∙ rw (f, part_last s p.end p.end refl y g (properties_of (length s + 1 - (n + 1)) s) [] k))

        pub seek_more : (u : ℕ) → y ≡ Some u → q ≡ topology_from s (n + 1) u
        unfolding topology_from
        seek_more u k = sought ∙ rw (f, part_more s p.end p.end refl y g (properties_of (length s + 1 - (n + 1)) s) [] u k)

-- there is none where no property stands
pub none_given : (s : List ℕ) (at : ℕ) (any : Bool) → any ≡ is_property (word_here s at) → any ≡ false → false ≡ any_topology (properties_in s at)
unfolding properties_in unlimited properties_of any_topology pick
none_given s at any e f = let k : length s + 1 ≡ suc (length s) = omega arith in rw (k, ← e, f)

no_links : (ps : List tree.Property) → any_topology ps ≡ false → triples_of ps ≡ []
unfolding any_topology triples_of
no_links [] e = refl
no_links (priority n ∷ ps) e = no_links ps e
no_links (emergency ∷ ps) e = no_links ps e
no_links (topology ts ∷ ps) e = absurd (true≢false e)

-- ---- the tests

module _ (c : Context) (ps : List tree.Property) (t : List ℕ) (top : Bool) (e : top ≡ any_topology ps) where
  pub links_none : top ≡ false → Ok tt ≡ linked c ps t
  unfolding linked judge link_checks links_of
  links_none f = rw (no_links ps (sym e ∙ f))

pub links_judged : (c : Context) (s t : List ℕ) (at n : ℕ) (r : Checked) → n ≡ number_of c
    → r ≡ judge (link_checks (links_of n t (triples_of (properties_of (unlimited s) s at)))) → r ≡ linked c (properties_in s at) t
unfolding linked properties_in
links_judged c s t at n r e p = p ∙ rw e

pub tested_by : (s t : List ℕ) (body : ℕ) (c : Context) (any over alone : Bool) (held : ℕ) (r : Tested) (l : Checked)
    → r.topology ≡ any_topology (properties_in s body) → l ≡ linked c (properties_in s body) t → r.checked ≡ judged_start c any over r.topology alone held l
    → Tests (properties_in s body) c t any over alone held r
tested_by s t body c any over alone held r l e f p = record { given = e; code = p ∙ rw (e, f) }

-- ---- what it writes

pub wrote_record : (s t u : List ℕ) (body n held : ℕ) (c : Context) (any top : Bool) → c ≡ Numbered n → any ≡ true
    → u ≡ apply (property_writes n top held (flows_after (properties_in s body) n t)) t → u ≡ apply (wrote_start c any top held (flows_after (properties_in s body) (number_of c) t)) t
unfolding wrote_start number_of pick
wrote_record s t u body n held c any top e f p = p ∙ rw (e, f)

pub start_writes_is : (c : Context) (ps : List tree.Property) (t : List ℕ)
    → wrote_start c (any_given ps) (any_topology ps) (set_properties ps (seen (number_of c) t).held) (flows_after ps (number_of c) t)
    ≡ start_writes c ps (seen (number_of c) t) (links_of (number_of c) t (triples_of ps))
unfolding wrote_start property_writes start_writes flow_writes flows_after number_of
start_writes_is Null ps t = refl
start_writes_is (Numbered n) ps t = refl
start_writes_is Choose ps t = refl
start_writes_is All ps t = refl

-- ---- the tests are the definition's

pub start_tests_are : (c : Context) (ps : List tree.Property) (alone : Bool) (t : List ℕ)
    → judged_start c (any_given ps) (over15 ps) (any_topology ps) alone (seen (number_of c) t).held (linked c ps t)
    ≡ judge (start_checks c ps alone (seen (number_of c) t) (links_of (number_of c) t (triples_of ps)))
unfolding judged_start start_checks linked judge number_of pick
start_tests_are Null ps alone t = refl
start_tests_are (Numbered n) ps alone t = refl
start_tests_are Choose ps alone t = refl
start_tests_are All ps alone t = refl

-- nothing is over 15 where every test is passed: in `-` none is given then
over_given : (ps : List tree.Property) → any_given ps ≡ false → over15 ps ≡ false
unfolding any_given over15
over_given [] e = refl
over_given (x ∷ ps) e = absurd (true≢false e)

pub start_over : (c : Context) (ps : List tree.Property) (alone : Bool) (there : Seen) (links : List Link) → judge (start_checks c ps alone there links) ≡ Ok tt → over15 ps ≡ false
unfolding start_checks
start_over Null ps alone there links e = over_given ps (passed_first (any_given ps) 421 [] e).0
start_over (Numbered n) ps alone there links e = (passed_first (over15 ps) 449 _ e).0
start_over Choose ps alone there links e = (passed_first (over15 ps) 449 [] (passed_first (any_given ps && alone || any_topology ps) 421 _ e).1).0
start_over All ps alone there links e = absurd (true≢false (passed_first true 421 [] e).0)

-- ---- properties are given where a property stands

any_pick : (z : Bool) (x : tree.Property) (rs : List tree.Property) → any_given (pick z (x ∷ rs) []) ≡ z
unfolding any_given pick
any_pick true x rs = refl
any_pick false x rs = refl

pub any_given_lem : (s : List ℕ) (at : ℕ) → any_given (properties_in s at) ≡ is_property (word_here s at)
unfolding properties_in unlimited properties_of
any_given_lem s at =
    let more = pick (is_at s (property_at s at).end comma) (properties_of (length s) s (past_sign comma s (property_at s at).end)) [] in
    rw (add-one (length s)) (any_pick (is_property (word_here s at)) (property_at s at).tree more)
