-- The laws of text in a buffer, in the form in which `search` uses them.
use Prim.Native.Nat.{ℕ, zero, suc, ◌+◌, ◌/◌, ◌%◌, ◌<◌, ◌≤◌, min, max}
use mathlib.Core.Path.{◌≡◌, refl, sym, ap, ◌∙◌}
use mathlib.Core.List.{List, [], ◌∷◌, ◌++◌, append-nil}
use mathlib.Core.Bool.{Bool, true, false}
use native.Mathlib.Numerals.{add-one}
use native.Mathlib.Omega.{arith}
use lib.ListN.{length, get_or, take, drop, set, length-append, length-take}
use lib.Seq.{take-suc, take_all, take-nil}
use borrow.Author.Tests.{lt-ltb, le-ltb}
use Rattle.base.specs.Pick.{pick}
use Rattle.base.specs.Bytes.{put, ◌then◌, decimal, decimal_f}
use Rattle.base.specs.Out.{Appended, Digits}

pub length_put : (o : List ℕ) (at : ℕ) (bs : List ℕ) → length (put o at bs) ≡ length o
unfolding put
length_put [] at bs = refl
length_put (y ∷ o) zero [] = refl
length_put (y ∷ o) zero (b ∷ bs) = ap suc (length_put o zero bs)
length_put (y ∷ o) (suc at) bs = ap suc (length_put o at bs)

put_none : (o : List ℕ) (at : ℕ) → put o at [] ≡ o
unfolding put
put_none [] at = refl
put_none (y ∷ o) zero = refl
put_none (y ∷ o) (suc at) = ap (λ (l : List ℕ). y ∷ l) (put_none o at)

set_put : (o : List ℕ) (at b : ℕ) → set o at b ≡ put o at (b ∷ [])
unfolding put
set_put [] at b = refl
set_put (y ∷ o) zero b = ap (λ (l : List ℕ). b ∷ l) (sym (put_none o 0))
set_put (y ∷ o) (suc at) b = ap (λ (l : List ℕ). y ∷ l) (set_put o at b)

put_past : (o : List ℕ) (at : ℕ) (bs : List ℕ) → length o ≤ at → put o at bs ≡ o
unfolding put
put_past [] at bs h = refl
put_past (y ∷ o) zero bs h = absurd (omega arith)
put_past (y ∷ o) (suc at) bs h = ap (λ (l : List ℕ). y ∷ l) (put_past o at bs (omega arith))

put_put : (o : List ℕ) (at : ℕ) (a b : List ℕ) (p : ℕ) → p ≡ max at (min (at + length a) (length o)) → put (put o at a) p b ≡ put o at (a ++ b)
unfolding put
put_put [] at a b p e = refl
put_put (y ∷ o) zero [] b p e = let z : p ≡ 0 = omega arith in rw z
put_put (y ∷ o) zero (x ∷ a) b p e =
    let q : ℕ = max 0 (min (0 + length a) (length o)) in
    let z : p ≡ suc q = omega arith in
    rw z (ap (λ (l : List ℕ). x ∷ l) (put_put o zero a b q refl))
put_put (y ∷ o) (suc at) a b p e =
    let q : ℕ = max at (min (at + length a) (length o)) in
    let z : p ≡ suc q = omega arith in
    rw z (ap (λ (l : List ℕ). y ∷ l) (put_put o at a b q refl))

-- the text stands in the buffer, its front first, and what is past it stays
pub take_front : (o a b : List ℕ) → length a ≤ length o → take (length a) (put o 0 (a then b)) ≡ a
unfolding put ◌then◌
take_front o [] b h = refl
take_front [] (x ∷ a) b h = absurd (omega arith)
take_front (y ∷ o) (x ∷ a) b h = ap (λ (l : List ℕ). x ∷ l) (take_front o a b (omega arith))

pub take_put : (o bs : List ℕ) → length bs ≤ length o → take (length bs) (put o 0 bs) ≡ bs
unfolding ◌then◌
take_put o bs h = rw append-nil at (take_front o bs [] h)

pub drop_put : (o : List ℕ) (at : ℕ) (bs : List ℕ) (n : ℕ) → at + length bs ≤ n → drop n (put o at bs) ≡ drop n o
unfolding put
drop_put [] at bs n h = refl
drop_put (y ∷ o) zero [] n h = refl
drop_put (y ∷ o) zero (b ∷ bs) zero h = absurd (omega arith)
drop_put (y ∷ o) zero (b ∷ bs) (suc n) h = drop_put o zero bs n (omega arith)
drop_put (y ∷ o) (suc at) bs zero h = absurd (omega arith)
drop_put (y ∷ o) (suc at) bs (suc n) h = drop_put o at bs n (omega arith)

pub none : (o : List ℕ) (at : ℕ) → Appended o at [] o at
none o at = record { text = sym (put_none o at); next = omega arith }

pub byte : (o : List ℕ) (at b : ℕ) → at < length o → Appended o at (b ∷ []) (set o at b) (at + 1)
byte o at b h = record { text = set_put o at b; next = omega arith }

pub full : (o : List ℕ) (at : ℕ) (bs : List ℕ) → length o ≤ at → Appended o at bs o at
full o at bs h = record { text = sym (put_past o at bs h); next = omega arith }

-- one text after another
both : (o : List ℕ) (at : ℕ) (a b o' o'' : List ℕ) (p r : ℕ) → Appended o at a o' p → Appended o' p b o'' r → Appended o at (a ++ b) o'' r
both o at a b o' o'' p r f g =
    record {
      text = g.text ∙ rw (f.text, put_put o at a b p f.next);
      next =
          let l : length o' ≡ length o = ap length f.text ∙ length_put o at a in
          let m : length (a ++ b) ≡ length a + length b = length-append a b in
          omega (arith, f.next, g.next);
    }

pub after : (o : List ℕ) (at : ℕ) (a b o' o'' : List ℕ) (p r : ℕ) → Appended o at a o' p → Appended o' p b o'' r → Appended o at (a then b) o'' r
unfolding ◌then◌
after o at a b o' o'' p r f g = both o at a b o' o'' p r f g

infixr 50 ◌▸◌
pub ◌▸◌ : {o : List ℕ} {at : ℕ} {a b o' o'' : List ℕ} {p r : ℕ} → Appended o at a o' p → Appended o' p b o'' r → Appended o at (a then b) o'' r
f ▸ g = after _ _ _ _ _ _ _ _ f g

-- three and four texts in a row, in the form in which `search` uses them
module _ (o : List ℕ) (at : ℕ) (a b c o₁ o₂ o₃ : List ℕ) (p q r : ℕ) (f : Appended o at a o₁ p) (g : Appended o₁ p b o₂ q) (h : Appended o₂ q c o₃ r) where
  pub three : Appended o at (a then b then c) o₃ r
  three = f ▸ g ▸ h

  pub four : (d o₄ : List ℕ) (e : ℕ) → Appended o₃ r d o₄ e → Appended o at (a then b then c then d) o₄ e
  four d o₄ e i = f ▸ g ▸ h ▸ i

-- a text chosen by a test
module _ (o : List ℕ) (at : ℕ) (t : Bool) (a b o' : List ℕ) (r : ℕ) where
  pub chosen_yes : t ≡ true → Appended o at a o' r → Appended o at (pick t a b) o' r
  unfolding pick
  chosen_yes e f = rw e f

  pub chosen_no : t ≡ false → Appended o at b o' r → Appended o at (pick t a b) o' r
  unfolding pick
  chosen_no e f = rw e f

-- the text of one case
pub of_case : {A : Type 0} (f : A → List ℕ) (x y : A) (o : List ℕ) (at : ℕ) (o' : List ℕ) (r : ℕ) → x ≡ y → Appended o at (f y) o' r → Appended o at (f x) o' r
of_case f x y o at o' r e g = rw e g

-- where the buffer has room, the position is past the text
pub end_within : (o : List ℕ) (at : ℕ) (bs o' : List ℕ) (r : ℕ) → Appended o at bs o' r → at + length bs ≤ length o → r ≡ at + length bs
end_within o at bs o' r f h = omega (arith, f.next)

-- a text that was put into a buffer, and copied from there as far as that buffer reached: the second one, which reaches no farther, has it all
take_room : (z bs : List ℕ) (n : ℕ) → n ≡ min (length bs) (length z) → take n (put z 0 bs) ≡ take (length z) bs
unfolding put
take_room [] bs n e = take-nil n
take_room (y ∷ z) [] n e = let m : n ≡ 0 = omega arith in rw m
take_room (y ∷ z) (b ∷ bs) n e =
    let q : ℕ = min (length bs) (length z) in
    let m : n ≡ suc q = omega arith in
    rw m (ap (λ (l : List ℕ). b ∷ l) (take_room z bs q refl))

put_room : (o : List ℕ) (at : ℕ) (bs : List ℕ) (k : ℕ) → length o ≤ at + k → put o at (take k bs) ≡ put o at bs
unfolding put
put_room [] at bs k h = refl
put_room (y ∷ o) zero bs zero h = absurd (omega arith)
put_room (y ∷ o) zero [] (suc k) h = refl
put_room (y ∷ o) zero (b ∷ bs) (suc k) h = ap (λ (l : List ℕ). b ∷ l) (put_room o zero bs k (omega arith))
put_room (y ∷ o) (suc at) bs k h = ap (λ (l : List ℕ). y ∷ l) (put_room o at bs k (omega arith))

pub copied : (z bs s : List ℕ) (n : ℕ) (o : List ℕ) (at : ℕ) (o' : List ℕ) (r : ℕ) → Appended z 0 bs s n → length o ≤ at + length z → Appended o at (take n s) o' r
    → Appended o at bs o' r
copied z bs s n o at o' r w h f =
    let m : n ≡ min (length bs) (length z) = omega (arith, w.next) in
    let e : take n s ≡ take (length z) bs = rw w.text (take_room z bs n m) in
    record {
      text = f.text ∙ rw e (put_room o at bs (length z) h);
      next = let l : length (take n s) ≡ min (length z) (length bs) = rw e (length-take (length z) bs) in omega (arith, f.next);
    }

-- a loop that writes a list byte by byte
pub more : (o : List ℕ) (at : ℕ) (s o' o'' : List ℕ) (i p r : ℕ) → i < length s → Appended o at (take i s) o' p → Appended o' p (get_or s i 0 ∷ []) o'' r → Appended o at (take (i + 1) s) o'' r
more o at s o' o'' i p r h f g = rw (add-one, take-suc s i 0) (both o at (take i s) (get_or s i 0 ∷ []) o' o'' p r f g)

pub all : (o : List ℕ) (at : ℕ) (s o' : List ℕ) (i p : ℕ) → length s ≤ i → Appended o at (take i s) o' p → Appended o at s o' p
all o at s o' i p h f = rw (take_all i s) at f

pub same_length_by : (o : List ℕ) (at : ℕ) (s o' : List ℕ) (p : ℕ) → Appended o at s o' p → length o' ≡ length o
same_length_by o at s o' p f = ap length f.text ∙ length_put o at s

module _ (n : ℕ) (o : List ℕ) (at b r : ℕ) where
  pub digits_one : (o' : List ℕ) → n < 10 → b ≡ 48 + n → Appended o at (b ∷ []) o' r → Digits n o at o' r
  unfolding decimal_f pick
  digits_one o' h e f = record { is = go }
    where
      go : (k : ℕ) → n < k → Appended o at (decimal_f k n) o' r
      go zero l = absurd (omega arith)
      go (suc k) l = rw (lt-ltb n 10 h, ← e) f

  pub digits_more : (o' o'' : List ℕ) (p : ℕ) → 10 ≤ n → Digits (n / 10) o at o' p → b ≡ 48 + n % 10 → Appended o' p (b ∷ []) o'' r → Digits n o at o'' r
  unfolding decimal_f pick
  digits_more o' o'' p h d e f = record { is = go }
    where
      go : (k : ℕ) → n < k → Appended o at (decimal_f k n) o'' r
      go zero l = absurd (omega arith)
      go (suc k) l = rw (le-ltb n 10 h, ← e) (both o at (decimal_f k (n / 10)) (b ∷ []) o' o'' p r (d.is k (omega arith)) f)

-- a number, as a text
pub number : (n : ℕ) (o : List ℕ) (at : ℕ) (o' : List ℕ) (r : ℕ) → Digits n o at o' r → Appended o at (decimal n) o' r
unfolding decimal
number n o at o' r d = d.is (n + 1) (omega arith)
