-- Triples that pass their tests name two members of the context, and what they set is sound.
use Prim.Native.Nat.{ℕ, ◌≤◌, ◌<◌}
use mathlib.Core.Path.{◌≡◌, refl, sym, ap, ◌∙◌, subst}
use mathlib.Core.Logic.{◌≢◌}
use mathlib.Core.Bool.{Bool, true, false, ◌||◌}
use mathlib.Core.List.{List, [], ◌∷◌}
use lib.ListN.{length, take}
use lib.Dec.{ltb, eqb}
use borrow.Author.Tests.{eqb-true, eq-eqb, ltb-true, ltb-false}
use native.Mathlib.Omega.{arith}
use Rattle.base.specs.Pick.{pick}
use Rattle.base.specs.Lists.{count, same}
use Rattle.base.proofs.TestLaws.{clash, or_neither}
use Rattle.megaco.specs.Bytes.{capitals}
use Rattle.megaco.specs.Tree.{Triple, triple}
use Rattle.megaco.specs.Table.{terminations, words, fitted, ctx, get, exists, known, members, place_in}
use Rattle.megaco.specs.Names.{name_of}
use Rattle.megaco.specs.Square.{Square, directed}
use Rattle.megaco.specs.Topology.{meant, party, link_of, links_of, is_unfit, is_absent, is_outside, place_of, set_link, set_links}
use Rattle.megaco.specs.Action.{link_checks}
use Rattle.protocol.specs.Types.{Name, Termination, Root, Chosen, Unchosen, Wildcard, Unmatched, Unknown, Party, Absent, Outside, Member}
use Rattle.megaco.proofs.Squares.{Shape}
use Rattle.laws.specs.Passed.{Passed}
use Rattle.laws.specs.Sound.{Fit}
use Rattle.laws.proofs.Counting.{counted_before, place_counted, place_low}
use Rattle.laws.proofs.Flows.{shape_directed, fit_directed}
use Rattle.laws.proofs.Meant.{Low, low, name_low}
use Rattle.laws.proofs.OneName.{one_name}

-- a name that means a member of context c
pub record Standing (c : ℕ) (t name : List ℕ) : Type 0 where
  pub number : ℕ
  pub means : name_of (fitted t) name ≡ Termination number
  pub there : get t (ctx number) ≡ c
  pub place : party c t name ≡ Member (place_in c number t)

-- a party that is neither unfit, nor absent, nor outside
abbrev pub Good : Party → Type 0
Good p = (is_unfit p ≡ false) × (is_absent p ≡ false) × (is_outside p ≡ false)

pub standing : (c : ℕ) (t name : List ℕ) → Good (party c t name) → Standing c t name
unfolding party meant pick is_unfit is_absent is_outside
standing c t name = by (name_of (fitted t) name) refl
  where
    by : (n : Name) → name_of (fitted t) name ≡ n → Good (meant c t n) → Standing c t name
    by (Termination i) e g = at (exists (fitted t) i (get t (ctx i))) (eqb (get t (ctx i)) c) refl refl g
      where
        at : (x y : Bool) → exists (fitted t) i (get t (ctx i)) ≡ x → eqb (get t (ctx i)) c ≡ y → Good (pick x (pick y (Member (place_in c i t)) Outside) Absent) → Standing c t name
        at true true p q g = record { number = i; means = e; there = eqb-true (get t (ctx i)) c q; place = rw (e, p, q) }
        at true false p q g = absurd (clash g.2)
        at false y p q g = absurd (clash g.1)
    by Root e g = absurd (clash g.0)
    by Chosen e g = absurd (clash g.0)
    by Unchosen e g = absurd (clash g.0)
    by (Wildcard r) e g = absurd (clash g.0)
    by Unmatched e g = absurd (clash g.0)
    by Unknown e g = absurd (clash g.1)

module _ (c : ℕ) (t : List ℕ) where
  -- a triple that is not refused: two names, each of a member
  abbrev pub Fine : Triple → Type 0
  Fine (triple a b d) = (Good (party c t a) × Good (party c t b)) × (same (capitals a) (capitals b) ≡ false)

  abbrev pub AllFine : List Triple → Type 0
  AllFine [] = Unit {0}
  AllFine (x ∷ xs) = Fine x × AllFine xs

  pub passed_fine : (ts : List Triple) → Passed (link_checks (links_of c t ts)) → AllFine ts
  unfolding links_of link_of link_checks
  passed_fine [] p = tt
  passed_fine (triple x y d ∷ ts) p =
      let a = or_neither (same (capitals x) (capitals y) || is_unfit (party c t x)) (is_unfit (party c t y)) p.0 in
      let b = or_neither (same (capitals x) (capitals y)) (is_unfit (party c t x)) a.0 in
      let u = or_neither (is_absent (party c t x)) (is_absent (party c t y)) p.1.0 in
      let v = or_neither (is_outside (party c t x)) (is_outside (party c t y)) p.1.1.0 in
      ((((b.1, u.0, v.0), (a.1, u.1, v.1)), b.0), passed_fine ts p.1.1.1)

pub same_refl : (l : List ℕ) → same l l ≡ true
unfolding same pick
same_refl [] = refl
same_refl (x ∷ xs) = rw (eq-eqb x x refl, same_refl xs)

low_is : (n : ℕ) {i : ℕ} → Low n (Termination i) → i < terminations n
low_is n (low h) = h

module _ (c : ℕ) (t : List ℕ) (l : length t ≡ words (fitted t)) (k : known c ≡ true) where
  -- two members have two places
  pub place_apart : (i j : ℕ) → i < terminations (fitted t) → j < terminations (fitted t) → get t (ctx i) ≡ c → get t (ctx j) ≡ c → i ≢ j → place_in c i t ≢ place_in c j t
  place_apart i j h m e f d z = by (ltb i j) (ltb j i) refl refl
    where
      q : count c (take i t) ≡ count c (take j t)
      q = sym (place_counted c t l k i h) ∙ z ∙ place_counted c t l k j m

      by : (x y : Bool) → ltb i j ≡ x → ltb j i ≡ y → ⊥
      by true y p r = omega (arith, counted_before j c i t (ltb-true i j p) (omega (arith, l, h)) e, q)
      by false true p r = omega (arith, counted_before i c j t (ltb-true j i r) (omega (arith, l, m)) f, q)
      by false false p r = d (omega (arith, ltb-false i j p, ltb-false j i r))

  -- two parties at two places
  pub record Linked (a b : Party) : Type 0 where
    pub one : place_of a < members c t
    pub two : place_of b < members c t
    pub apart : place_of a ≢ place_of b

  number_low : (name : List ℕ) (u : Standing c t name) → u.number < terminations (fitted t)
  number_low name u = low_is (fitted t) (subst (Low (fitted t)) u.means (name_low (fitted t) name))

  pub linked : (x y : List ℕ) → same (capitals x) (capitals y) ≡ false → Good (party c t x) → Good (party c t y) → Linked (party c t x) (party c t y)
  unfolding place_of
  linked x y n g h =
      let u = standing c t x g in
      let v = standing c t y h in
      let a = number_low x u in
      let b = number_low y v in
      record {
        one = rw u.place (place_low c t l k u.number a u.there);
        two = rw v.place (place_low c t l k v.number b v.there);
        apart = rw (u.place, v.place) (place_apart u.number v.number a b u.there v.there
            (λ z. clash (sym (ap (λ (l : List ℕ). same (capitals x) l) (sym (one_name (fitted t) x y u.number u.means (v.means ∙ ap Termination (sym z)))) ∙ same_refl (capitals x)) ∙ n)));
      }

  -- what they set is sound
  pub links_fit : (ts : List Triple) (q : Square) → members c t ≤ 8 → Passed (link_checks (links_of c t ts)) → Shape q → Fit (members c t) q
      → Shape (set_links (links_of c t ts) q) × Fit (members c t) (set_links (links_of c t ts) q)
  unfolding links_of link_of link_checks set_links set_link
  links_fit [] q m p s f = (s, f)
  links_fit (triple x y d ∷ ts) q m p s f =
      let g = (passed_fine c t (triple x y d ∷ ts) p).0 in
      let k = linked x y g.1 g.0.0 g.0.1 in
      links_fit ts (directed d (place_of (party c t x)) (place_of (party c t y)) q) m p.1.1.1
      (shape_directed d (place_of (party c t x)) (place_of (party c t y)) q s)
      (fit_directed d q (members c t) (place_of (party c t x)) (place_of (party c t y)) s m k.one k.two k.apart f)
