-- Rows of the table, and the meaning of any bytes by the rows that have a form of their length.
use Rattle.std.specs.Prelude.{Some, None}
use Prim.Native.Nat.{ℕ, zero, suc, ◌+◌, ◌-◌, ◌*◌, ◌<◌, ◌≤◌}
use mathlib.Core.Path.{◌≡◌, refl, sym, ap, ◌∙◌}
use mathlib.Core.Bool.{Bool, true, false, ◌&&◌, ◌||◌}
use mathlib.Core.List.{List, [], ◌∷◌, ◌++◌}
use mathlib.Core.Option.{Option, some, none}
use native.Mathlib.Omega.{arith}
use borrow.Author.Tests.{eqb-true, eqb-false, leb-true, leb-false}
use lib.ListN.{length, get_or, take, drop, replicate, length-append}
use lib.Seq.{take-append_seam}
use lib.Dec.{eqb, leb}
use Rattle.base.specs.Pick.{pick}
use Rattle.base.specs.Lists.{same, every, has}
use Rattle.base.proofs.TestLaws.{clash, and_both, same_is, not_holds}
use Rattle.megaco.specs.Bytes.{capitals}
use Rattle.megaco.specs.Keywords.{Row as Keyword, row, page, Forms, forms, forms_of, spelt, spells, meaning_in, meaning_of}
use Rattle.protocol.specs.Types.{Token, AddToken}
use Rattle.megaco.specs.contracts.Token.{enum}
use Rattle.megaco.proofs.Variants.{every_choice, every_case}
use Rattle.megaco.proofs.Meanings.{every_token}
use Rattle.keywords.specs.declared.Row.{Row}
use Rattle.keywords.specs.Page.{Meaning}
use Rattle.keywords.specs.Page.{long_of, short_of, padded, token_in, token_at, row_of, rows_of, is_big, Formed, token_of, Spelling, spelling, spellings_of, first_of, sized, later, meaning_later}

-- ---- rows

pub laid : (t : List Row) (j : ℕ) (d : Row) → t ≡ rows_of page → get_or (rows_of page) j d ≡ row_of (token_at j) → get_or t j d ≡ row_of (token_at j)
laid t j d e h = rw e h

pub row_is : (i j : ℕ) (r : Row) → i ≡ j → r ≡ row_of (token_at j) → r ≡ row_of (token_at i)
row_is i j r e h = rw e h

-- none of the numbers below n
abbrev pub NoneBelow : ℕ → ℕ → Type 0
NoneBelow zero i = Unit {0}
NoneBelow (suc n) i = NoneBelow n i × (i ≡ n → ⊥)

above : (n i : ℕ) → NoneBelow n i → n ≤ i
above zero i h = omega arith
above (suc n) i h =
    let g : n ≤ i = above n i h.0 in
    by (leb (suc n) i) refl g
  where
    by : (t : Bool) → leb (suc n) i ≡ t → n ≤ i → suc n ≤ i
    by true e g = leb-true _ _ e
    by false e g = absurd (h.1 (let z : i < suc n = leb-false _ _ e in omega arith))

abbrev last_in : Token → List Keyword → Token
last_in last [] = last
last_in last (row k long short ∷ rs) = last_in k rs

last_in_lem : (rs : List Keyword) (d : Token) (i : ℕ) → length rs ≤ suc i → token_in i d rs ≡ last_in d rs
last_in_lem [] d i h = refl
last_in_lem (row k l s ∷ []) d zero h = refl
last_in_lem (row k l s ∷ []) d (suc i) h = refl
last_in_lem (row k l s ∷ r ∷ rs) d zero h = absurd (omega arith)
last_in_lem (row k l s ∷ r ∷ rs) d (suc i) h = last_in_lem (r ∷ rs) k i (omega arith)

-- at no place before the last
pub last_row : (n i : ℕ) (r : Row) → length page ≡ suc n → NoneBelow n i → r ≡ row_of (token_at n) → r ≡ row_of (token_at i)
unfolding token_at
last_row n i r l h e =
    let m : n ≤ i = above n i h in
    e ∙ ap row_of (last_in_lem page AddToken n (omega arith) ∙ sym (last_in_lem page AddToken i (omega arith)))

pub of_row : (k : Token) (r : Row) → r ≡ row_of k → token_of (Some r.0) ≡ some k
unfolding token_of row_of
of_row k r e = rw e

unfoldable formed : List ℕ → Bool
formed f = leb 1 (length f) && (leb (length f) 24 && pick (eqb (length f) 1) true (every is_big f))

formed_is : (f : List ℕ) → formed f ≡ true → Formed f
unfolding formed pick
formed_is f e =
    let p : (leb 1 (length f) ≡ true) × ((leb (length f) 24 && pick (eqb (length f) 1) true (every is_big f)) ≡ true) = and_both (leb 1 (length f)) (leb (length f) 24 && pick (eqb (length f) 1) true (every is_big f)) e in
    let q : (leb (length f) 24 ≡ true) × (pick (eqb (length f) 1) true (every is_big f) ≡ true) = and_both (leb (length f) 24) (pick (eqb (length f) 1) true (every is_big f)) p.1 in
    record {
      some = leb-true _ _ p.0;
      few = leb-true _ _ q.0;
      letters = λ h. pick_not (eqb (length f) 1) _ (not_holds _ (λ d. let z : length f ≡ 1 = eqb-true _ _ d in absurd (omega arith))) q.1;
    }
  where
    pick_not : (t b : Bool) → t ≡ false → pick t true b ≡ true → b ≡ true
    pick_not t b d g = rw d at g

longs_formed : every_case enum (λ (k : Token). formed (long_of (forms_of k))) ≡ true
unfolding every_case every_choice formed long_of forms_of pick every is_big
longs_formed = refl

shorts_formed : every_case enum (λ (k : Token). formed (short_of (forms_of k))) ≡ true
unfolding every_case every_choice formed short_of forms_of pick every is_big
shorts_formed = refl

part : (m n : ℕ) (f : List ℕ) → n ≡ length f → take (n - 0) (drop 0 (f ++ replicate (m - length f) 32)) ≡ f
part m n f l = let z : n - 0 ≡ length f = omega arith in rw z (take-append_seam f _)

fits : (m n : ℕ) (f : List ℕ) → n ≡ length f → n ≤ length (f ++ replicate (m - length f) 32)
fits m n f l = omega (arith, length-append f (replicate (m - length f) 32))

module _ (k : Token) (r : Row) (e : r ≡ row_of k) (n : ℕ) (l : n ≡ length (long_of (forms_of k))) where
  long_part : take (n - 0) (drop 0 r.1) ≡ long_of (forms_of k)
  unfolding row_of padded
  long_part = rw e (part 24 n (long_of (forms_of k)) l)

  pub long_fits : n ≤ length r.1
  unfolding row_of padded
  long_fits = rw e (fits 24 n (long_of (forms_of k)) l)

  pub long_formed : Formed (take (n - 0) (drop 0 r.1))
  long_formed = rw long_part (formed_is _ (every_token (λ (k : Token). formed (long_of (forms_of k))) longs_formed k))

  pub long_is : (w : List ℕ) (x : Bool) → x ≡ same (capitals w) (take (n - 0) (drop 0 r.1)) → x ≡ same (capitals w) (long_of (forms_of k))
  long_is w x g = rw long_part at g

module _ (k : Token) (r : Row) (e : r ≡ row_of k) (n : ℕ) (l : n ≡ length (short_of (forms_of k))) where
  short_part : take (n - 0) (drop 0 r.2) ≡ short_of (forms_of k)
  unfolding row_of padded
  short_part = rw e (part 2 n (short_of (forms_of k)) l)

  pub short_fits : n ≤ length r.2
  unfolding row_of padded
  short_fits = rw e (fits 2 n (short_of (forms_of k)) l)

  pub short_formed : Formed (take (n - 0) (drop 0 r.2))
  short_formed = rw short_part (formed_is _ (every_token (λ (k : Token). formed (short_of (forms_of k))) shorts_formed k))

  pub short_is : (w : List ℕ) (x : Bool) → x ≡ same (capitals w) (take (n - 0) (drop 0 r.2)) → x ≡ same (capitals w) (short_of (forms_of k))
  short_is w x g = rw short_part at g

either : (g : Forms) (w : List ℕ) → same w (long_of g) || same w (short_of g) ≡ spelt g w
unfolding long_of short_of spelt
either (forms long short) w = refl

pub either_is : (k : Token) (w : List ℕ) (x y : Bool) → x ≡ same (capitals w) (long_of (forms_of k)) → y ≡ same (capitals w) (short_of (forms_of k)) → x || y ≡ spells k w
unfolding spells
either_is k w x y e f = rw (e, f) (either (forms_of k) (capitals w))

pub spells_at : (i : ℕ) (k j : Token) (w : List ℕ) (r : Bool) → k ≡ j → token_at i ≡ j → r ≡ spells (token_at i) w → r ≡ spells k w
spells_at i k j w r e f h = rw (e, ← f) h

-- ---- a word's meaning by its length

-- a row's forms one after the other
first_is : (rs : List Keyword) (v : List ℕ) → meaning_in rs v ≡ first_of (spellings_of rs) v
unfolding meaning_in spellings_of first_of pick
first_is [] v = refl
first_is (row k l s ∷ rs) v = rw (first_is rs v) (by (same v l) (same v s) _ _)
  where
    by : (a b : Bool) (x m : Option Token) → pick (a || b) x m ≡ pick a x (pick b x m)
    by true b x m = refl
    by false true x m = refl
    by false false x m = refl

other_length : (n : ℕ) (v f : List ℕ) → length v ≡ n → eqb n (length f) ≡ false → same v f ≡ false
other_length n v f l e = not_holds _ (λ h. eqb-false _ _ e (sym l ∙ ap length (same_is v f h)))

-- only the spellings of the word's length can be the word
sized_enough : (n : ℕ) (v : List ℕ) (ss : List Spelling) → length v ≡ n → first_of ss v ≡ first_of (sized n ss) v
unfolding first_of sized pick
sized_enough n v [] l = refl
sized_enough n v (spelling f k ∷ ss) l = by (eqb n (length f)) refl (sized_enough n v ss l)
  where
    by : (t : Bool) → eqb n (length f) ≡ t → first_of ss v ≡ first_of (sized n ss) v → first_of (spelling f k ∷ ss) v ≡ first_of (pick (eqb n (length f)) (spelling f k ∷ sized n ss) (sized n ss)) v
    by true e h = rw (e, h)
    by false e h = rw (e, other_length n v f l e) h

capitals_length : (w : List ℕ) → length (capitals w) ≡ length w
unfolding capitals
capitals_length [] = refl
capitals_length (x ∷ w) = ap suc (capitals_length w)

of_length : (n : ℕ) (w : List ℕ) → length w ≡ n → meaning_of w ≡ first_of (sized n (spellings_of page)) (capitals w)
unfolding meaning_of
of_length n w l = first_is page (capitals w) ∙ sized_enough n (capitals w) _ (capitals_length w ∙ l)

pub at_length : (n : ℕ) (w : List ℕ) (m : Option Token) → length w ≡ n → m ≡ meaning_later n 0 w → m ≡ meaning_of w
unfolding meaning_later later
at_length n w m l e = e ∙ sym (of_length n w l)

unfoldable pub lengths_in : List ℕ → List Spelling → Bool
lengths_in ls [] = true
lengths_in ls (spelling f k ∷ ss) = has (length f) ls && lengths_in ls ss

none_in : (n : ℕ) (ls : List ℕ) (ss : List Spelling) (v : List ℕ) → lengths_in ls ss ≡ true → has n ls ≡ false → first_of (sized n ss) v ≡ none
unfolding lengths_in sized first_of pick
none_in n ls [] v a h = refl
none_in n ls (spelling f k ∷ ss) v a h =
    let p : (has (length f) ls ≡ true) × (lengths_in ls ss ≡ true) = and_both _ _ a in
    rw (not_holds (eqb n (length f)) (λ d. clash (sym p.0 ∙ ap (λ (z : ℕ). has z ls) (sym (eqb-true n (length f) d)) ∙ h))) (none_in n ls ss v p.1 h)

-- none of these numbers
abbrev pub NoneOf : ℕ → List ℕ → Type 0
NoneOf n [] = Unit {0}
NoneOf n (x ∷ xs) = (n ≡ x → ⊥) × NoneOf n xs

has_none : (n : ℕ) (xs : List ℕ) → NoneOf n xs → has n xs ≡ false
unfolding has pick
has_none n [] h = refl
has_none n (x ∷ xs) h = rw (not_holds (eqb x n) (λ d. h.0 (sym (eqb-true x n d)))) (has_none n xs h.1)

-- a word whose length no form has
pub no_length : (ls : List ℕ) (w : List ℕ) → lengths_in ls (spellings_of page) ≡ true → NoneOf (length w) ls → token_of None ≡ meaning_of w
unfolding token_of
no_length ls w a h = sym (of_length (length w) w refl ∙ none_in (length w) ls (spellings_of page) (capitals w) a (has_none (length w) ls h))

-- ---- for who looks a word up

pub token_some : (w : List ℕ) (m : Meaning) (k : Token) → token_of m ≡ meaning_of w → m ≡ Some k → meaning_of w ≡ some k
unfolding token_of
token_some w m k h g = sym h ∙ ap token_of g

pub token_none : (w : List ℕ) (m : Meaning) → token_of m ≡ meaning_of w → m ≡ None → meaning_of w ≡ none
unfolding token_of
token_none w m h g = sym h ∙ ap token_of g
