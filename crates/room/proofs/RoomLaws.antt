-- The laws of the room's code: what the library's words are in the definition's, and the steps of its loops.
use Prim.Native.Nat.{ℕ, suc, ◌+◌, ◌-◌, ◌<◌, ◌≤◌}
use mathlib.Core.Path.{◌≡◌, refl, sym, ◌∙◌}
use mathlib.Core.Bool.{Bool, true, false, cond, not, ◌&&◌, ◌||◌}
use Rattle.std.specs.List.{fold, position, position_or_len, prefix_len}
use Rattle.std.specs.Option.{unwrap_or}
use Rattle.std.proofs.Common.{Some, None, ltb}
use Rattle.std.proofs.lemmas.Bool.Decides.{nat_tests}
use Rattle.std.specs.Str.{bytes_eq}
use mathlib.Core.List.{List, [], ◌∷◌, map}
use native.Mathlib.Numerals.{add-one}
use native.Mathlib.Omega.{arith}
use lib.Dec.{eqb}
use lib.ListN.{length, get_or, take, drop, set, drop_of_length-le}
use lib.Seq.{drop-cons, set_out}
use borrow.Author.Tests.{eq-eqb, ne_eqb}
use Rattle.base.specs.Pick.{pick}
use Rattle.base.specs.Lists.{same, has, every, before}
use Rattle.base.specs.Out.{Appended}
use Rattle.base.proofs.OutLaws.{none, more, byte}
use Rattle.base.proofs.TestLaws.{clash}
use Rattle.megaco.specs.Kept.{under}
use Rattle.megaco.specs.Room.{Room, slot_id, slot_sender, slot_of, slot_in, is_zero, row_good, lowest_free}

-- ---- words and bytes

pub store_past : (t : List ℕ) (k v : ℕ) → length t ≤ k → t ≡ set t k v
store_past t k v h = sym (set_out t k v h)

-- ---- the library's words and the definition's

or_more : (b x r : Bool) → ((b || x) || r) ≡ (b || pick x true r)
unfolding pick
or_more true x r = refl
or_more false true r = refl
or_more false false r = refl

or_none : (b : Bool) → b ≡ (b || false)
or_none true = refl
or_none false = refl

has_from : (n : ℕ) (b : Bool) (l : List ℕ) → fold (λ r x. r || eqb x n) b l ≡ (b || has n l)
unfolding has
has_from n b [] = or_none b
has_from n b (x ∷ l) = has_from n (b || eqb x n) l ∙ or_more b (eqb x n) (has n l)

pub has_fold : (n : ℕ) (l : List ℕ) → fold (λ r x. r || eqb x n) false l ≡ has n l
has_fold n l = has_from n false l

and_more : (b x r : Bool) → ((b && x) && r) ≡ (b && pick x r false)
unfolding pick
and_more true true r = refl
and_more true false r = refl
and_more false x r = refl

and_none : (b : Bool) → b ≡ (b && true)
and_none true = refl
and_none false = refl

zero_from : (b : Bool) (l : List ℕ) → fold (λ r x. r && eqb x 0) b l ≡ (b && every is_zero l)
unfolding every is_zero
zero_from b [] = and_none b
zero_from b (x ∷ l) = zero_from (b && eqb x 0) l ∙ and_more b (eqb x 0) (every is_zero l)

pub zero_fold : (l : List ℕ) → fold (λ r x. r && eqb x 0) true l ≡ every is_zero l
zero_fold l = zero_from true l

pub before_short : (l : List ℕ) → length (before 0 l) ≤ length l
unfolding before pick
before_short [] = omega arith
before_short (x ∷ l) = by (eqb x 0) (before_short l)
  where
    by : (t : Bool) → length (before 0 l) ≤ length l → length (pick t [] (x ∷ before 0 l)) ≤ suc (length l)
    by true h = omega arith
    by false h = omega arith

first_zero : (l : List ℕ) → position_or_len (λ x. eqb x 0) l ≡ length (before 0 l)
unfolding before pick
first_zero [] = refl
first_zero (x ∷ l) = by (eqb x 0) (first_zero l)
  where
    by : (t : Bool) → position_or_len (λ y. eqb y 0) l ≡ length (before 0 l) → cond (not t) (1 + prefix_len (λ y. not (eqb y 0)) l) 0 ≡ length (pick t [] (x ∷ before 0 l))
    by true e = refl
    by false e = omega arith

first_or_end : (n k : ℕ) → n ≤ k → unwrap_or (cond (ltb n k) (Some n) None) k ≡ n
first_or_end n k h = grind (arith, nat_tests)

pub held_is : (l : List ℕ) → unwrap_or (position (λ x. eqb x 0) l) (length l) ≡ length (before 0 l)
held_is l = rw first_zero (first_or_end (length (before 0 l)) (length l) (before_short l))

pub same_is : (l m : List ℕ) → bytes_eq l m ≡ same l m
unfolding same pick
same_is [] [] = refl
same_is [] (y ∷ m) = refl
same_is (x ∷ l) [] = refl
same_is (x ∷ l) (y ∷ m) = by (eqb x y) (same_is l m)
  where
    by : (t : Bool) → bytes_eq l m ≡ same l m → (t && bytes_eq l m) ≡ pick t (same l m) false
    by true e = e
    by false e = refl

-- the numbers from 1 to 16
module _ (l : List ℕ) (n : ℕ) (h : n < 17) where
  left_one : 17 - n ≡ suc (17 - (n + 1))
  left_one = omega arith

  pub free_on : has n l ≡ true → lowest_free (17 - n) n l ≡ lowest_free (17 - (n + 1)) (n + 1) l
  unfolding lowest_free pick
  free_on e = rw (left_one, e)

  pub free_here : has n l ≡ false → lowest_free (17 - n) n l ≡ n
  unfolding lowest_free pick
  free_here e = rw (left_one, e)

pub free_end : (l : List ℕ) → lowest_free (17 - 17) 17 l ≡ 17
unfolding lowest_free
free_end l = refl

-- ---- the row

none_picked : (b : Bool) → pick {A = ℕ} b 0 0 ≡ 0
unfolding pick
none_picked true = refl
none_picked false = refl

module _ (r : Room) (m : List ℕ) (id : ℕ) (l : List ℕ) (i : ℕ) (h : i < length l) where
  pub find_none : get_or l i 0 ≡ 0 → slot_in r m id (drop i l) ≡ 0
  unfolding slot_in pick
  find_none e = rw (drop-cons l i 0, eq-eqb _ _ e)

  module _ (e : get_or l i 0 ≡ 0 → ⊥) where
    pub find_here : under m id (slot_of r (get_or l i 0)) ≡ true → slot_in r m id (drop i l) ≡ get_or l i 0
    unfolding slot_in pick
    find_here t = rw (drop-cons l i 0, ne_eqb _ _ e, t)

    pub find_on : under m id (slot_of r (get_or l i 0)) ≡ false → slot_in r m id (drop i l) ≡ slot_in r m id (drop (i + 1) l)
    unfolding slot_in pick
    find_on t = rw (drop-cons l i 0, ne_eqb _ _ e, t, add-one)

pub find_end : (r : Room) (m : List ℕ) (id : ℕ) (l : List ℕ) (i : ℕ) → length l ≤ i → slot_in r m id (drop i l) ≡ 0
unfolding slot_in
find_end r m id l i h = rw (drop_of_length-le l h)

-- ---- soundness

-- none is kept under a pair where no slot of the row has its identifier
pub ids_apart : (r : Room) (m : List ℕ) (id : ℕ) (l : List ℕ) → has id (map (slot_id r) l) ≡ false → slot_in r m id l ≡ 0
unfolding slot_in has under
ids_apart r m id [] h = refl
ids_apart r m id (n ∷ l) h = by (eqb (slot_id r n) id) h (ids_apart r m id l)
  where
    by : (x : Bool) → pick x true (has id (map (slot_id r) l)) ≡ false → (has id (map (slot_id r) l) ≡ false → slot_in r m id l ≡ 0)
        → pick (eqb n 0) 0 (pick (pick x (same (slot_sender r n) m) false) n (slot_in r m id l)) ≡ 0
    by true e f = absurd (clash (unfold pick in e))
    by false e f = unfold pick in (rw (f e) (none_picked (eqb n 0)))

-- a row that begins with 0
pub row_of_zeros : (r : Room) (l : List ℕ) → get_or l 0 0 ≡ 0 → every is_zero l ≡ row_good r l
unfolding row_good every is_zero pick
row_of_zeros r [] e = refl
row_of_zeros r (x ∷ l) e = rw (eq-eqb x 0 e)

-- a slice put as far as byte i
pub whole_begin : (o : List ℕ) (at : ℕ) (s : List ℕ) → Appended o at (take 0 s) o (at + 0)
whole_begin o at s = let z : at + 0 ≡ at = omega arith in rw z (none o at)

pub whole_on : (o : List ℕ) (at : ℕ) (s cur : List ℕ) (i : ℕ) → i < length s → at ≤ length o → length s ≤ length o - at → length cur ≡ length o → Appended o at (take i s) cur (at + i)
    → Appended o at (take (i + 1) s) (set cur (at + i) (get_or s i 0)) (at + (i + 1))
whole_on o at s cur i h j k l a =
    let z : at + (i + 1) ≡ at + i + 1 = omega arith in
    rw z (more o at s cur (set cur (at + i) (get_or s i 0)) i (at + i) (at + i + 1) h a (byte cur (at + i) (get_or s i 0) (omega arith)))
