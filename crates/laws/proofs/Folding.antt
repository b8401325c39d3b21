-- Several topology orders folded into one (document 02, CR 7): of the triples on one pair of names, in either order and letter case, the last stays.
-- On any table whose count of members allows it, the fold sets what the whole list sets, in a start of an action too. Refused triples are left
-- aside: the rules are about triples that pass their tests. A list and its fold have a refused triple both, or neither.
use Prim.Native.Nat.{ℕ, ◌≤◌, ◌<◌}
use mathlib.Core.Path.{◌≡◌, refl, sym, ap, ◌∙◌}
use mathlib.Core.Bool.{Bool, true, false, ◌&&◌, ◌||◌}
use mathlib.Core.List.{List, [], ◌∷◌, ◌++◌}
use lib.ListN.{length}
use native.Mathlib.Omega.{arith}
use Rattle.base.specs.Pick.{pick}
use Rattle.base.specs.Lists.{same}
use Rattle.base.proofs.TestLaws.{clash, and_both, or_neither, not_holds, same_is}
use Rattle.megaco.specs.Bytes.{capitals}
use Rattle.megaco.specs.Tree.{Triple, triple}
use Rattle.megaco.specs.Table.{words, fitted, known, members}
use Rattle.megaco.specs.Names.{name_of}
use Rattle.megaco.specs.Square.{Square, directed}
use Rattle.megaco.specs.Topology.{party, link_of, links_of, place_of, set_link, set_links}
use Rattle.megaco.specs.Action.{link_checks}
use Rattle.protocol.specs.Types.{Direction}
use Rattle.megaco.proofs.Squares.{Shape}
use Rattle.laws.specs.Passed.{Passed}
use Rattle.laws.specs.Hears.{forth, back}
use Rattle.laws.specs.Folding.{alike, on_one_pair, any_on, folded, Once, over, once}
use Rattle.laws.proofs.Flows.{shape_directed}
use Rattle.laws.proofs.Linked.{Good, linked, Fine, AllFine, same_refl}
use Rattle.laws.proofs.Merging.{only_last, only_last_turned, turned, change_places}

-- ---- what the test of a pair tells

-- the names are the same, in this order or in the other
pub data OnePair (a b x y : List ℕ) : Type 0 where
  straight : alike a x ≡ true → alike b y ≡ true → OnePair a b x y
  crossed : alike a y ≡ true → alike b x ≡ true → OnePair a b x y

or_either : (u v : Bool) {C : Type 0} → u || v ≡ true → (u ≡ true → C) → (v ≡ true → C) → C
or_either true v e f g = f refl
or_either false v e f g = g e

pub one_pair : (a b x y : List ℕ) (d e : Direction) → on_one_pair (triple a b d) (triple x y e) ≡ true → OnePair a b x y
unfolding on_one_pair
one_pair a b x y d e o =
    or_either _ _ o (λ p. let w = and_both _ _ p in straight w.0 w.1) (λ p. let w = and_both _ _ p in crossed w.0 w.1)

alike_self : (a : List ℕ) → alike a a ≡ true
unfolding alike
alike_self a = same_refl (capitals a)

pub self_pair : (x : Triple) → on_one_pair x x ≡ true
unfolding on_one_pair
self_pair (triple a b d) = rw (alike_self a, alike_self b)

-- ---- it is no longer than the list, and has one triple for a pair

pub folded_short : (ts : List Triple) → length (folded ts) ≤ length ts
unfolding folded pick
folded_short [] = omega arith
folded_short (x ∷ xs) = by (any_on x xs) (folded_short xs)
  where
    by : (b : Bool) → length (folded xs) ≤ length xs → length (pick b (folded xs) (x ∷ folded xs)) ≤ length (x ∷ xs)
    by true h = omega (arith, h)
    by false h = omega (arith, h)

-- a triple on no pair of a list is on none of its fold
none_folded : (x : Triple) (ts : List Triple) → any_on x ts ≡ false → any_on x (folded ts) ≡ false
unfolding any_on folded pick
none_folded x [] e = refl
none_folded x (y ∷ ys) e = let p = or_neither (on_one_pair x y) (any_on x ys) e in by (any_on y ys) p.0 (none_folded x ys p.1)
  where
    by : (b : Bool) → on_one_pair x y ≡ false → any_on x (folded ys) ≡ false → any_on x (pick b (folded ys) (y ∷ folded ys)) ≡ false
    by true o h = h
    by false o h = rw (o, h)

pub folded_once : (ts : List Triple) → Once (folded ts)
unfolding folded pick
folded_once [] = over
folded_once (x ∷ xs) = by (any_on x xs) refl (folded_once xs)
  where
    by : (b : Bool) → any_on x xs ≡ b → Once (folded xs) → Once (pick b (folded xs) (x ∷ folded xs))
    by true e o = o
    by false e o = once (none_folded x xs e) o

-- ---- names that are the same, letter case aside

alike_apart : (a b x y : List ℕ) → alike a x ≡ true → alike b y ≡ true → same (capitals x) (capitals y) ≡ false → same (capitals a) (capitals b) ≡ false
unfolding alike
alike_apart a b x y e f n = rw (same_is (capitals a) (capitals x) e, same_is (capitals b) (capitals y) f) n

apart_turned : (x y : List ℕ) → same (capitals x) (capitals y) ≡ false → same (capitals y) (capitals x) ≡ false
apart_turned x y n = not_holds _ (λ e. clash (sym (same_refl (capitals x)) ∙ ap (λ (l : List ℕ). same (capitals x) l) (sym (same_is (capitals y) (capitals x) e)) ∙ n))

-- ---- triples that pass, by name

module _ (c : ℕ) (t : List ℕ) where
  pub fine_passed : (ts : List Triple) → AllFine c t ts → Passed (link_checks (links_of c t ts))
  unfolding links_of link_of link_checks
  fine_passed [] f = tt
  fine_passed (triple x y d ∷ ts) f =
      let g = f.0.0.0 in
      let h = f.0.0.1 in
      (rw (f.0.1, g.0, h.0), (rw (g.1, h.1), (rw (g.2, h.2), fine_passed ts f.1)))

  pub fine_folded : (ts : List Triple) → AllFine c t ts → AllFine c t (folded ts)
  unfolding folded pick
  fine_folded [] f = tt
  fine_folded (x ∷ xs) f = by (any_on x xs) (fine_folded xs f.1)
    where
      by : (b : Bool) → AllFine c t (folded xs) → AllFine c t (pick b (folded xs) (x ∷ folded xs))
      by true g = g
      by false g = (f.0, g)

  abbrev pub put : Triple → Square → Square
  put x q = set_link (link_of c t x) q

  -- the same name means the same
  alike_party : (a b : List ℕ) → alike a b ≡ true → party c t a ≡ party c t b
  unfolding alike party name_of
  alike_party a b e = rw (same_is (capitals a) (capitals b) e)

  alike_place : (a b : List ℕ) → alike a b ≡ true → place_of (party c t a) ≡ place_of (party c t b)
  alike_place a b e = ap place_of (alike_party a b e)

  -- two triples on one pair are refused both or not at all
  fine_pair : (x y : Triple) → on_one_pair x y ≡ true → Fine c t y → Fine c t x
  fine_pair (triple a b d) (triple x y e) o f = by (one_pair a b x y d e o)
    where
      by : OnePair a b x y → Fine c t (triple a b d)
      by (straight p q) = ((rw (alike_party a x p) f.0.0, rw (alike_party b y q) f.0.1), alike_apart a b x y p q f.1)
      by (crossed p q) = ((rw (alike_party a y p) f.0.1, rw (alike_party b x q) f.0.0), alike_apart a b y x p q (apart_turned x y f.1))

  fine_any : (x : Triple) (ts : List Triple) → any_on x ts ≡ true → AllFine c t ts → Fine c t x
  unfolding any_on
  fine_any x [] e f = absurd (clash (sym e))
  fine_any x (y ∷ ys) e f = by (on_one_pair x y) refl e (λ z. fine_any x ys z f.1)
    where
      by : (u : Bool) → on_one_pair x y ≡ u → u || any_on x ys ≡ true → (any_on x ys ≡ true → Fine c t x) → Fine c t x
      by true p z h = fine_pair x y p f.0
      by false p z h = h z

  -- so the fold has a refused triple where the list has one
  pub folded_fine : (ts : List Triple) → AllFine c t (folded ts) → AllFine c t ts
  unfolding folded pick
  folded_fine [] f = tt
  folded_fine (x ∷ xs) f = by (any_on x xs) refl f (λ g. folded_fine xs g)
    where
      by : (b : Bool) → any_on x xs ≡ b → AllFine c t (pick b (folded xs) (x ∷ folded xs)) → (AllFine c t (folded xs) → AllFine c t xs) → Fine c t x × AllFine c t xs
      by true e g h = let r = h g in (fine_any x xs e r, r)
      by false e g h = (g.0, h g.1)

  module _ (l : length t ≡ words (fitted t)) (k : known c ≡ true) (m : members c t ≤ 8) where
    -- two names that mean one member are the same
    place_alike : (a b : List ℕ) → Good (party c t a) → Good (party c t b) → place_of (party c t a) ≡ place_of (party c t b) → alike a b ≡ true
    unfolding alike
    place_alike a b g h z = by (same (capitals a) (capitals b)) refl
      where
        by : (x : Bool) → same (capitals a) (capitals b) ≡ x → x ≡ true
        by true e = refl
        by false e = absurd ((linked c t l k a b e g h).apart z)

    one_low : (a b : List ℕ) → Good (party c t a) → Good (party c t b) → same (capitals a) (capitals b) ≡ false → place_of (party c t a) < 8
    one_low a b g h n = let p = (linked c t l k a b n g h).one in omega (arith, p, m)

    two_low : (a b : List ℕ) → Good (party c t a) → Good (party c t b) → same (capitals a) (capitals b) ≡ false → place_of (party c t b) < 8
    two_low a b g h n = let p = (linked c t l k a b n g h).two in omega (arith, p, m)

    pub shape_put : (x : Triple) (q : Square) → Shape q → Shape (put x q)
    unfolding set_link link_of
    shape_put (triple a b d) q s = shape_directed d _ _ q s

    -- "on one pair, its names in either order, only the last triple counts"
    pub same_pair : (x y : Triple) (q : Square) → Shape q → Fine c t x → Fine c t y → on_one_pair x y ≡ true → put y (put x q) ≡ put y q
    unfolding set_link link_of
    same_pair (triple a b d) (triple x y e) q s f g o = by (one_pair a b x y d e o)
      where
        hx : place_of (party c t x) < 8
        hx = one_low x y g.0.0 g.0.1 g.1

        hy : place_of (party c t y) < 8
        hy = two_low x y g.0.0 g.0.1 g.1

        by : OnePair a b x y
            → directed e (place_of (party c t x)) (place_of (party c t y)) (directed d (place_of (party c t a)) (place_of (party c t b)) q) ≡ directed e (place_of (party c t x)) (place_of (party c t y)) q
        by (straight p r) = rw (alike_place a x p, alike_place b y r) (only_last q s (place_of (party c t x)) (place_of (party c t y)) hx hy d e)
        by (crossed p r) = rw (alike_place a y p, alike_place b x r) (only_last_turned q s (place_of (party c t x)) (place_of (party c t y)) hx hy d e)

    -- "triples on different pairs may change places"
    pub other_pair : (x y : Triple) (q : Square) → Shape q → Fine c t x → Fine c t y → on_one_pair x y ≡ false → put y (put x q) ≡ put x (put y q)
    unfolding on_one_pair set_link link_of
    other_pair (triple a b d) (triple x y e) q s f g o =
        let n = or_neither (alike a x && alike b y) (alike a y && alike b x) o in
        change_places q s (place_of (party c t a)) (place_of (party c t b)) (place_of (party c t x)) (place_of (party c t y))
        (one_low a b f.0.0 f.0.1 f.1) (two_low a b f.0.0 f.0.1 f.1) (one_low x y g.0.0 g.0.1 g.1) (two_low x y g.0.0 g.0.1 g.1)
        (record {
          forth = λ z. clash (rw (place_alike a x f.0.0 g.0.0 (sym z.0), place_alike b y f.0.1 g.0.1 (sym z.1)) at n.0);
          back = λ z. clash (rw (place_alike a y f.0.0 g.0.1 (sym z.1), place_alike b x f.0.1 g.0.0 (sym z.0)) at n.1);
        })
        d e

    -- ---- lists

    -- a triple that has another on its pair behind it sets nothing that lasts
    pub absorbed : (x : Triple) (ts : List Triple) (q : Square) → Shape q → Fine c t x → AllFine c t ts → any_on x ts ≡ true
        → set_links (links_of c t ts) (put x q) ≡ set_links (links_of c t ts) q
    unfolding any_on links_of set_links
    absorbed x [] q s f g e = absurd (clash (sym e))
    absorbed x (y ∷ ys) q s f g e =
        by (on_one_pair x y) (any_on x ys) refl refl e (absorbed x ys (put y q) (shape_put y q s) f g.1)
      where
        by : (u v : Bool) → on_one_pair x y ≡ u → any_on x ys ≡ v → u || v ≡ true
            → (any_on x ys ≡ true → set_links (links_of c t ys) (put x (put y q)) ≡ set_links (links_of c t ys) (put y q))
            → set_links (links_of c t ys) (put y (put x q)) ≡ set_links (links_of c t ys) (put y q)
        by true v p r z h = ap (set_links (links_of c t ys)) (same_pair x y q s f g.0 p)
        by false true p r z h = ap (set_links (links_of c t ys)) (other_pair x y q s f g.0 p) ∙ h r
        by false false p r z h = absurd (clash (sym z))

    -- the fold sets what the list sets
    pub fold_sets : (ts : List Triple) (q : Square) → Shape q → AllFine c t ts → set_links (links_of c t (folded ts)) q ≡ set_links (links_of c t ts) q
    unfolding folded links_of set_links pick
    fold_sets [] q s f = refl
    fold_sets (x ∷ xs) q s f = by (any_on x xs) refl (fold_sets xs q s f.1) (fold_sets xs (put x q) (shape_put x q s) f.1)
      where
        by : (b : Bool) → any_on x xs ≡ b → set_links (links_of c t (folded xs)) q ≡ set_links (links_of c t xs) q
            → set_links (links_of c t (folded xs)) (put x q) ≡ set_links (links_of c t xs) (put x q)
            → set_links (links_of c t (pick b (folded xs) (x ∷ folded xs))) q ≡ set_links (links_of c t xs) (put x q)
        by true e h g = h ∙ sym (absorbed x xs q s f.0 f.1 e)
        by false e h g = g

    -- "triples on different pairs may change places", anywhere in a list
    pub list_places : (before : List Triple) (x y : Triple) (after : List Triple) (q : Square) → Shape q → Fine c t x → Fine c t y → on_one_pair x y ≡ false
        → set_links (links_of c t (before ++ x ∷ y ∷ after)) q ≡ set_links (links_of c t (before ++ y ∷ x ∷ after)) q
    unfolding links_of set_links
    list_places [] x y after q s f g o = ap (set_links (links_of c t after)) (other_pair x y q s f g o)
    list_places (z ∷ zs) x y after q s f g o = list_places zs x y after (put z q) (shape_put z q s) f g o

    -- "on one pair .. only the last triple counts", and so "the same triple twice in a row equals once", anywhere in a list
    pub list_last : (before : List Triple) (x y : Triple) (after : List Triple) (q : Square) → Shape q → Fine c t x → Fine c t y → on_one_pair x y ≡ true
        → set_links (links_of c t (before ++ x ∷ y ∷ after)) q ≡ set_links (links_of c t (before ++ y ∷ after)) q
    unfolding links_of set_links
    list_last [] x y after q s f g o = ap (set_links (links_of c t after)) (same_pair x y q s f g o)
    list_last (z ∷ zs) x y after q s f g o = list_last zs x y after (put z q) (shape_put z q s) f g o

    -- "the same triple twice in a row equals once", anywhere in a list
    pub list_twice : (before : List Triple) (x : Triple) (after : List Triple) (q : Square) → Shape q → Fine c t x
        → set_links (links_of c t (before ++ x ∷ x ∷ after)) q ≡ set_links (links_of c t (before ++ x ∷ after)) q
    list_twice before x after q s f = list_last before x x after q s f f (self_pair x)

    -- "Isolate and Bothway don't care for the order of names", anywhere in a list
    pub list_turned : (before : List Triple) (a b : List ℕ) (d : Direction) (after : List Triple) (q : Square) → Shape q → Fine c t (triple a b d) → forth d ≡ back d
        → set_links (links_of c t (before ++ triple a b d ∷ after)) q ≡ set_links (links_of c t (before ++ triple b a d ∷ after)) q
    unfolding links_of link_of set_links set_link
    list_turned [] a b d after q s f e =
        ap (set_links (links_of c t after))
        (turned q s (place_of (party c t a)) (place_of (party c t b)) (one_low a b f.0.0 f.0.1 f.1) (two_low a b f.0.0 f.0.1 f.1) d e)
    list_turned (z ∷ zs) a b d after q s f e = list_turned zs a b d after (put z q) (shape_put z q s) f e
