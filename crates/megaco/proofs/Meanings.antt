-- The table of keywords: any bytes have the meaning of the row that spells them, or none, and no spelling stands twice.
use Prim.Native.Nat.{ℕ, zero, suc}
use mathlib.Core.Path.{◌≡◌, refl, sym, ap, ◌∙◌, subst}
use mathlib.Core.Bool.{Bool, true, false, not, ◌&&◌, ◌||◌}
use mathlib.Core.List.{List, [], ◌∷◌}
use mathlib.Core.Option.{Option, some, none}
use borrow.Author.Tests.{eqb-true, eq-eqb}
use denote.Enum.Declared.{tag_of}
use types.Run.{OneOf, miss}
use mir.Val.{has_key}
use lib.ListN.{length}
use lib.Dec.{eqb, T}
use Rattle.base.specs.Pick.{pick}
use Rattle.base.specs.Lists.{same}
use Rattle.base.proofs.TestLaws.{clash, and_both, same_is, not_holds}
use Rattle.megaco.specs.Bytes.{capitals}
use Rattle.megaco.specs.Keywords.{Row, row, page, number_of, is_token, Forms, forms, forms_of, spelt, spells, meaning_in, meaning_of}
use Rattle.megaco.specs.declared.Token.{Token}
use Rattle.megaco.specs.contracts.Token.{enum, the_type}
use Rattle.megaco.proofs.Variants.{every_choice, every_case, every_case_lem, case_one}

-- ---- no spelling stands twice

unfoldable pub spellings : List Row → List (List ℕ)
spellings [] = []
spellings (row k long short ∷ rs) = long ∷ short ∷ spellings rs

unfoldable pub stands : List ℕ → List (List ℕ) → Bool
stands f [] = false
stands f (g ∷ gs) = let r = stands f gs in pick (same f g) true r

unfoldable pub distinct : List (List ℕ) → Bool
distinct [] = true
distinct (f ∷ fs) = not (stands f fs) && distinct fs

pub no_spelling_twice : distinct (spellings page) ≡ true
unfolding distinct stands spellings same pick
no_spelling_twice = refl

-- ---- every token

-- what a test says of each token holds of any
pub every_token : (p : Token → Bool) → every_case enum p ≡ true → (k : Token) → p k ≡ true
every_token = every_case_lem enum

-- the token's place by its number
unfoldable place_in : ℕ → List Row → ℕ
place_in n [] = 0
place_in n (row k long short ∷ rs) = let r = place_in n rs in pick (eqb n (number_of k)) (tag_of the_type k) r

place_of : (k : Token) → place_in (number_of k) page ≡ tag_of the_type k
unfolding every_case every_choice place_in pick
place_of k = eqb-true _ _ (every_token (λ (j : Token). eqb (place_in (number_of j) page) (tag_of the_type j)) all k)
  where
    all : every_case enum (λ (j : Token). eqb (place_in (number_of j) page) (tag_of the_type j)) ≡ true
    all = refl

pub token_is : (j k : Token) → is_token j k ≡ true → j ≡ k
unfolding is_token every_case every_choice
token_is j k e = case_one enum refl j k (sym (place_of j) ∙ ap (λ (n : ℕ). place_in n page) (eqb-true _ _ e) ∙ place_of k)

pub token_self : (k : Token) → is_token k k ≡ true
unfolding is_token
token_self k = eq-eqb (number_of k) (number_of k) refl

-- the places of all tokens but these: where a `match` on these ends in `_`
abbrev count : ℕ → ℕ → List ℕ
count zero at = []
count (suc n) at = at ∷ count n (suc at)

abbrev keep : Bool → ℕ → List ℕ → List ℕ
keep true n ns = n ∷ ns
keep false n ns = ns

abbrev without : List ℕ → List ℕ → List ℕ
without ms [] = []
without ms (n ∷ ns) = keep (not (has_key ms n)) n (without ms ns)

abbrev places : List Token → List ℕ
places [] = []
places (k ∷ ks) = tag_of the_type k ∷ places ks

abbrev pub others : List Token → List ℕ
others ks = without (places ks) (count (length enum.parts) 0)

-- a token that is at one of these places is none that is at another
pub other : (ns : List ℕ) (j k : Token) → OneOf ns (tag_of the_type k) → T (not (has_key ns (tag_of the_type j))) → is_token j k ≡ false
other ns j k o t = not_holds _ (λ e. miss ns (tag_of the_type j) t (subst (λ (x : Token). OneOf ns (tag_of the_type x)) (sym (token_is j k e)) o))

-- ---- a keyword's forms mean it

long_of : Forms → List ℕ
long_of (forms long short) = long

short_of : Forms → List ℕ
short_of (forms long short) = short

unfoldable pub is_meant : Token → Option Token → Bool
is_meant j none = false
is_meant j (some k) = is_token j k

meant_is : (k : Token) (m : Option Token) → is_meant k m ≡ true → m ≡ some k
unfolding is_meant
meant_is k none e = absurd (clash (sym e))
meant_is k (some j) e = ap some (sym (token_is k j e))

long_means : (k : Token) → meaning_in page (long_of (forms_of k)) ≡ some k
unfolding every_case every_choice is_meant is_token meaning_in forms_of long_of same pick
long_means k = meant_is k _ (every_token (λ (j : Token). is_meant j (meaning_in page (long_of (forms_of j)))) all k)
  where
    all : every_case enum (λ (j : Token). is_meant j (meaning_in page (long_of (forms_of j)))) ≡ true
    all = refl

short_means : (k : Token) → meaning_in page (short_of (forms_of k)) ≡ some k
unfolding every_case every_choice is_meant is_token meaning_in forms_of short_of same pick
short_means k = meant_is k _ (every_token (λ (j : Token). is_meant j (meaning_in page (short_of (forms_of j)))) all k)
  where
    all : every_case enum (λ (j : Token). is_meant j (meaning_in page (short_of (forms_of j)))) ≡ true
    all = refl

means_by : (g : Forms) (k : Token) (v : List ℕ) → meaning_in page (long_of g) ≡ some k → meaning_in page (short_of g) ≡ some k → spelt g v ≡ true → meaning_in page v ≡ some k
unfolding spelt long_of short_of
means_by (forms l s) k v x y e = by (same v l) refl (same v s) refl e
  where
    by : (a : Bool) → same v l ≡ a → (b : Bool) → same v s ≡ b → a || b ≡ true → meaning_in page v ≡ some k
    by true p b q e = rw (same_is v l p) x
    by false p true q e = rw (same_is v s q) y
    by false p false q e = absurd (clash (sym e))

-- what a row spells has its meaning
pub spelt_means : (k : Token) (w : List ℕ) → spells k w ≡ true → meaning_of w ≡ some k
unfolding spells meaning_of
spelt_means k w e = means_by (forms_of k) k (capitals w) (long_means k) (short_means k) e

-- ---- what has a meaning is spelt by its row

-- each row has the forms of its token
unfoldable formed : List Row → Bool
formed [] = true
formed (row k long short ∷ rs) = (same long (long_of (forms_of k)) && same short (short_of (forms_of k))) && formed rs

all_formed : formed page ≡ true
unfolding formed forms_of long_of short_of same pick
all_formed = refl

unsome : Token → Option Token → Token
unsome j none = j
unsome j (some k) = k

none_some : (k : Token) → none ≡ some k → ⊥
none_some k e = clash (ap is_none e)
  where
    is_none : Option Token → Bool
    is_none none = true
    is_none (some j) = false

spelt_parts : (g : Forms) (l s v : List ℕ) → l ≡ long_of g → s ≡ short_of g → spelt g v ≡ same v l || same v s
unfolding spelt long_of short_of
spelt_parts (forms x y) l s v p q = rw (p, q)

meant_in : (rs : List Row) (k : Token) (v : List ℕ) → formed rs ≡ true → meaning_in rs v ≡ some k → spelt (forms_of k) v ≡ true
unfolding formed meaning_in pick unsome
meant_in [] k v h e = absurd (none_some k e)
meant_in (row j l s ∷ rs) k v h e = by (same v l || same v s) refl (meant_in rs k v p.1) e
  where
    p : (same l (long_of (forms_of j)) && same s (short_of (forms_of j)) ≡ true) × (formed rs ≡ true)
    p = and_both (same l (long_of (forms_of j)) && same s (short_of (forms_of j))) (formed rs) h

    q : (same l (long_of (forms_of j)) ≡ true) × (same s (short_of (forms_of j)) ≡ true)
    q = and_both (same l (long_of (forms_of j))) (same s (short_of (forms_of j))) p.0

    by : (a : Bool) → same v l || same v s ≡ a → (meaning_in rs v ≡ some k → spelt (forms_of k) v ≡ true) → pick a (some j) (meaning_in rs v) ≡ some k → spelt (forms_of k) v ≡ true
    by true d f e =
        let z : j ≡ k = ap (unsome j) e in
        rw (← z) (spelt_parts (forms_of j) l s v (same_is l _ q.0) (same_is s _ q.1) ∙ d)
    by false d f e = f e

-- what has a meaning is spelt by the row
pub meant_spelt : (k : Token) (w : List ℕ) → meaning_of w ≡ some k → spells k w ≡ true
unfolding spells meaning_of
meant_spelt k w e = meant_in page k (capitals w) all_formed e

either_way : (x y : Bool) → (x ≡ true → y ≡ true) → (y ≡ true → x ≡ true) → x ≡ y
either_way true y f g = sym (f refl)
either_way false true f g = g refl
either_way false false f g = refl

-- a word is the keyword exactly where it means it
pub spells_is : (k : Token) (w : List ℕ) → spells k w ≡ is_meant k (meaning_of w)
unfolding is_meant
spells_is k w = either_way (spells k w) (is_meant k (meaning_of w)) (λ e. rw (spelt_means k w e) (token_self k)) (λ e. meant_spelt k w (meant_is k (meaning_of w) e))

pub spells_means : (j k : Token) (w : List ℕ) → meaning_of w ≡ some k → spells j w ≡ is_token j k
unfolding is_meant
spells_means j k w e = spells_is j w ∙ ap (is_meant j) e

pub spells_none : (j : Token) (w : List ℕ) → meaning_of w ≡ none → spells j w ≡ false
unfolding is_meant
spells_none j w e = spells_is j w ∙ ap (is_meant j) e

-- a word that two rows spell is of one row
pub spelt_once : (j k : Token) (w : List ℕ) → spells j w ≡ true → spells k w ≡ true → j ≡ k
unfolding unsome
spelt_once j k w e f = ap (unsome j) (sym (spelt_means j w e) ∙ spelt_means k w f)
