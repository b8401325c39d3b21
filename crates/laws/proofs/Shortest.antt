-- The fold is the shortest (document 02, CR 7): no list of triples that pass their tests and set the same, whatever the flows before, has fewer.
use Prim.Native.Nat.{ℕ, ◌≤◌, ◌<◌}
use mathlib.Core.Path.{◌≡◌, refl, sym, ap, ◌∙◌}
use mathlib.Core.Bool.{Bool, true, false, ◌&&◌, ◌||◌}
use mathlib.Core.List.Memᴰ
use mathlib.Core.List.{List, [], ◌∷◌}
use lib.ListN.{length}
use native.Mathlib.Omega.{arith}
use Rattle.base.specs.Pick.{pick}
use Rattle.base.proofs.TestLaws.{clash, or_neither, same_is}
use Rattle.megaco.specs.Bytes.{capitals}
use Rattle.megaco.specs.Tree.{Triple, triple}
use Rattle.megaco.specs.Table.{contexts, words, fitted, known, members}
use Rattle.megaco.specs.Square.{Square, flow_at}
use Rattle.megaco.specs.Topology.{party, link_of, links_of, place_of, set_link, set_links}
use Rattle.megaco.specs.Attempt.{seen, flows_of}
use Rattle.protocol.specs.Types.{Direction, Isolate, Bothway}
use Rattle.megaco.proofs.Squares.{Shape, shape_of}
use Rattle.laws.specs.Membership.{◌∈◌}
use Rattle.laws.specs.Sound.{Fit, Whole}
use Rattle.laws.specs.Hears.{forth}
use Rattle.laws.specs.Folding.{alike, on_one_pair, any_on, folded, Once, over, once}
use Rattle.laws.proofs.Flows.{fit_directed}
use Rattle.laws.proofs.Attempts.{both_known, seen_flows}
use Rattle.laws.proofs.Linked.{linked, Fine, AllFine, same_refl}
use Rattle.laws.proofs.Hears.{second_hears}
use Rattle.laws.proofs.Folding.{OnePair, straight, crossed, one_pair, folded_once, self_pair, fine_folded, put, shape_put, other_pair, absorbed, fold_sets}

-- ---- pairs

-- two names that are each the same as a third
through : (a b x : List ℕ) → alike a x ≡ true → alike b x ≡ true → alike a b ≡ true
unfolding alike
through a b x e f = rw (same_is (capitals a) (capitals x) e, same_is (capitals b) (capitals x) f) (same_refl (capitals x))

either : (u v : Bool) → v ≡ true → u || v ≡ true
either true v e = refl
either false v e = e

-- two triples on the pair of a third are on one pair
pair_through : (x y u : Triple) → on_one_pair x u ≡ true → on_one_pair y u ≡ true → on_one_pair x y ≡ true
unfolding on_one_pair
pair_through (triple a b d) (triple x y e) (triple m n f) p q = by (one_pair a b m n d f p) (one_pair x y m n e f q)
  where
    by : OnePair a b m n → OnePair x y m n → (alike a x && alike b y) || (alike a y && alike b x) ≡ true
    by (straight i j) (straight k l) = rw (through a x m i k, through b y n j l)
    by (straight i j) (crossed k l) = either (alike a x && alike b y) (alike a y && alike b x) (rw (through a y m i l, through b x n j k))
    by (crossed i j) (straight k l) = either (alike a x && alike b y) (alike a y && alike b x) (rw (through a y n i l, through b x m j k))
    by (crossed i j) (crossed k l) = rw (through a x n i k, through b y m j l)

-- the direction does not count
any_direction : (a b : List ℕ) (d e : Direction) (ts : List Triple) → any_on (triple a b d) ts ≡ any_on (triple a b e) ts
unfolding any_on on_one_pair
any_direction a b d e [] = refl
any_direction a b d e (triple x y f ∷ ts) = ap (λ (z : Bool). ((alike a x && alike b y) || (alike a y && alike b x)) || z) (any_direction a b d e ts)

in_any : (x : Triple) (ts : List Triple) → x ∈ ts → any_on x ts ≡ true
unfolding any_on
in_any x _ (Memᴰ.head {x = y} {xs = ys} p) = rw (ap (λ (z : Triple). on_one_pair x z) (sym p) ∙ self_pair x)
in_any x _ (Memᴰ.tail {x = y} {xs = ys} m) = either (on_one_pair x y) (any_on x ys) (in_any x ys m)

-- ---- a list that has every pair of another, which has none twice, is no shorter

-- a list without the triples on a pair
unfoldable without : Triple → List Triple → List Triple
without x [] = []
without x (u ∷ us) = let r = without x us in pick (on_one_pair x u) r (u ∷ r)

without_most : (x : Triple) (us : List Triple) → length (without x us) ≤ length us
unfolding without pick
without_most x [] = omega arith
without_most x (u ∷ us) = by (on_one_pair x u) (without_most x us)
  where
    by : (b : Bool) → length (without x us) ≤ length us → length (pick b (without x us) (u ∷ without x us)) ≤ length (u ∷ us)
    by true h = omega (arith, h)
    by false h = omega (arith, h)

without_less : (x : Triple) (us : List Triple) → any_on x us ≡ true → length (without x us) < length us
unfolding without any_on pick
without_less x [] e = absurd (clash (sym e))
without_less x (u ∷ us) e = by (on_one_pair x u) e (without_most x us) (without_less x us)
  where
    by : (b : Bool) → b || any_on x us ≡ true → length (without x us) ≤ length us → (any_on x us ≡ true → length (without x us) < length us)
        → length (pick b (without x us) (u ∷ without x us)) < length (u ∷ us)
    by true z h k = omega (arith, h)
    by false z h k = let l = k z in omega (arith, l)

-- a triple on another pair is still on one of its pairs
without_other : (x y : Triple) (us : List Triple) → on_one_pair x y ≡ false → any_on y us ≡ true → any_on y (without x us) ≡ true
unfolding without any_on pick
without_other x y [] o e = e
without_other x y (u ∷ us) o e = by (on_one_pair x u) (on_one_pair y u) refl refl e (without_other x y us o)
  where
    by : (b k : Bool) → on_one_pair x u ≡ b → on_one_pair y u ≡ k → k || any_on y us ≡ true → (any_on y us ≡ true → any_on y (without x us) ≡ true)
        → any_on y (pick b (without x us) (u ∷ without x us)) ≡ true
    by true true p q z h = absurd (clash (sym (pair_through x y u p q) ∙ o))
    by true false p q z h = h z
    by false true p q z h = rw q
    by false false p q z h = either (on_one_pair y u) (any_on y (without x us)) (h z)

member_apart : (x y : Triple) (xs : List Triple) → any_on x xs ≡ false → y ∈ xs → on_one_pair x y ≡ false
unfolding any_on
member_apart x y _ e (Memᴰ.head {x = z} {xs = zs} p) = ap (λ (w : Triple). on_one_pair x w) p ∙ (or_neither (on_one_pair x z) (any_on x zs) e).0
member_apart x y _ e (Memᴰ.tail {x = z} {xs = zs} m) = member_apart x y zs (or_neither (on_one_pair x z) (any_on x zs) e).1 m

no_shorter : (xs us : List Triple) → Once xs → ((x : Triple) → x ∈ xs → any_on x us ≡ true) → length xs ≤ length us
no_shorter _ us over f = omega arith
no_shorter _ us (once {x = x} {xs = xs} n o) f =
    let l = without_less x us (f x (Memᴰ.head refl)) in
    let h = no_shorter xs (without x us) o (λ y m. without_other x y us (member_apart x y xs n m) (f y (Memᴰ.tail m))) in
    omega (arith, l, h)

-- ---- lists that set the same have the same pairs

module _ (c : ℕ) (t : List ℕ) (l : length t ≡ words (fitted t)) (k : known c ≡ true) (m : members c t ≤ 8) where
  -- a triple on no pair of a list may be set after it
  moved_behind : (x : Triple) (us : List Triple) (q : Square) → Shape q → Fine c t x → AllFine c t us → any_on x us ≡ false
      → set_links (links_of c t us) (put c t x q) ≡ put c t x (set_links (links_of c t us) q)
  unfolding any_on links_of set_links
  moved_behind x [] q s f g e = refl
  moved_behind x (u ∷ us) q s f g e =
      let n = or_neither (on_one_pair x u) (any_on x us) e in
      ap (set_links (links_of c t us)) (other_pair c t l k m x u q s f g.0 n.0) ∙ moved_behind x us (put c t u q) (shape_put c t l k m u q s) f g.1 n.1

  shape_all : (us : List Triple) (q : Square) → Shape q → Shape (set_links (links_of c t us) q)
  unfolding links_of set_links
  shape_all [] q s = s
  shape_all (u ∷ us) q s = shape_all us (put c t u q) (shape_put c t l k m u q s)

  -- whether the first flows to the second, after a triple
  put_tells : (a b : List ℕ) (d : Direction) (q : Square) → Shape q → Fine c t (triple a b d) → flow_at (put c t (triple a b d) q) (place_of (party c t a)) (place_of (party c t b)) ≡ forth d
  unfolding set_link link_of
  put_tells a b d q s f =
      let h = linked c t l k a b f.1 f.0.0 f.0.1 in
      let i : place_of (party c t a) < 8 = let z = h.one in omega (arith, z, m) in
      let j : place_of (party c t b) < 8 = let z = h.two in omega (arith, z, m) in
      second_hears d q (place_of (party c t a)) (place_of (party c t b)) s i j h.apart

  fit_put : (a b : List ℕ) (d : Direction) (q : Square) → Shape q → Fit (members c t) q → Fine c t (triple a b d) → Fit (members c t) (put c t (triple a b d) q)
  unfolding set_link link_of
  fit_put a b d q s h f =
      let x = linked c t l k a b f.1 f.0.0 f.0.1 in
      fit_directed d q (members c t) (place_of (party c t a)) (place_of (party c t b)) s m x.one x.two x.apart h

  module _ (ts us : List Triple) (f : AllFine c t ts) (g : AllFine c t us) (some : Square) (s : Shape some) (h : Fit (members c t) some)
      (alike : (q : Square) → Shape q → Fit (members c t) q → set_links (links_of c t us) q ≡ set_links (links_of c t ts) q) where
    -- a pair of one is a pair of the other: else a flow from before would stay
    pair_kept : (a b : List ℕ) (d : Direction) → Fine c t (triple a b d) → any_on (triple a b d) ts ≡ true → any_on (triple a b d) us ≡ true
    unfolding forth
    pair_kept a b d n e = by (any_on (triple a b d) us) refl
      where
        same_links : (o : Direction) → any_on (triple a b d) us ≡ false → put c t (triple a b o) (set_links (links_of c t us) some) ≡ set_links (links_of c t ts) some
        same_links o z =
            sym (moved_behind (triple a b o) us some s n g (any_direction a b o d us ∙ z))
            ∙ alike (put c t (triple a b o) some) (shape_put c t l k m (triple a b o) some s) (fit_put a b o some s h n)
            ∙ absorbed c t l k m (triple a b o) ts some s n f (any_direction a b o d ts ∙ e)

        tells : (o : Direction) → flow_at (put c t (triple a b o) (set_links (links_of c t us) some)) (place_of (party c t a)) (place_of (party c t b)) ≡ forth o
        tells o = put_tells a b o (set_links (links_of c t us) some) (shape_all us some s) n

        by : (u : Bool) → any_on (triple a b d) us ≡ u → u ≡ true
        by true z = refl
        by false z = absurd (clash (sym (tells Bothway) ∙ ap (λ (p : Square). flow_at p (place_of (party c t a)) (place_of (party c t b))) (same_links Bothway z ∙ sym (same_links Isolate z)) ∙ tells Isolate))

fine_of : (c : ℕ) (t : List ℕ) (x : Triple) (ts : List Triple) → AllFine c t ts → x ∈ ts → Fine c t x
fine_of c t x _ f (Memᴰ.head p) = rw p f.0
fine_of c t x _ f (Memᴰ.tail {x = y} {xs = ys} n) = fine_of c t x ys f.1 n

fine_in : (c : ℕ) (t : List ℕ) (ts : List Triple) → AllFine c t ts → (x : Triple) → x ∈ ts → Fine c t x
fine_in c t ts f x n = fine_of c t x ts f n

-- of a context of a sound table: a list that sets what `ts` sets, of any flows that the context may have, is no shorter than the fold
pub folded_shortest : (c : ℕ) (t : List ℕ) → Whole t → 0 < c → c ≤ contexts → (ts us : List Triple) → AllFine c t ts → AllFine c t us
    → ((q : Square) → Shape q → Fit (members c t) q → set_links (links_of c t us) q ≡ set_links (links_of c t ts) q) → length (folded ts) ≤ length us
folded_shortest c t W p o ts us f g alike = no_shorter (folded ts) us (folded_once ts) kept
  where
    h : AllFine c t (folded ts)
    h = fine_folded c t ts f

    kept : (x : Triple) → x ∈ folded ts → any_on x us ≡ true
    kept (triple a b d) n =
        pair_kept c t W.long (both_known c p o) (W.held c p o).room (folded ts) us h g (flows_of (seen c t)) (unfold flows_of in shape_of _ _) (seen_flows c t W p o)
        (λ q s r. alike q s r ∙ sym (fold_sets c t W.long (both_known c p o) (W.held c p o).room ts q s f)) a b d (fine_in c t (folded ts) h (triple a b d) n)
        (in_any (triple a b d) (folded ts) n)
