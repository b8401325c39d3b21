-- The laws of names, in the form in which `search` uses them.
use Prim.Native.Nat.{ℕ, suc, ◌+◌, ◌*◌, ◌-◌, ◌<◌, ◌≤◌}
use mathlib.Core.Path.{◌≡◌, refl, sym, ap, ◌∙◌}
use mathlib.Core.List.{List, [], ◌∷◌}
use mathlib.Core.Bool.{Bool, true, false, cond, not, ◌&&◌, ◌||◌, and-false}
use native.Mathlib.Numerals.{add-one}
use native.Mathlib.Omega.{arith}
use lib.ListN.{length, get_or, take, drop, length-drop, drop_of_length-le}
use lib.Seq.{take_all, take-nil}
use lib.Dec.{leb, eqb}
use borrow.Author.Tests.{ne_eqb, leb-true, lt-leb}
use Rattle.std.proofs.Common.{Some, None, nat_lt}
use Rattle.std.specs.List.{list_any, position, position_or_len}
use Rattle.base.specs.Pick.{pick}
use Rattle.base.specs.Lists.{same, has, before, behind}
use Rattle.base.specs.Bytes.{text}
use Rattle.base.proofs.PickLaws.{pick_ind}
use Rattle.megaco.specs.Bytes.{slash, star, dollar, is_digit, capital, capitals}
use Rattle.megaco.specs.Table.{channels, line_terminations, ephemerals}
use Rattle.megaco.specs.Names.{numeral, within, line_name, ephemeral_name, plain_name, line_range, wildcard_name, capital_name, name_of}
use Rattle.protocol.specs.Types.{ChannelsOf, Name, Termination, Root, Chosen, Unchosen, Wildcard, Unmatched, Unknown}
use Rattle.names.specs.Digits.{one_digit, two_digits}

-- ---- bytes that are looked for

pub has_is : (b : ℕ) (l : List ℕ) → has b l ≡ list_any (λ x. eqb x b) l
unfolding has pick
has_is b [] = refl
has_is b (x ∷ l) = by (eqb x b) (has_is b l)
  where
    by : (t : Bool) → has b l ≡ list_any (λ y. eqb y b) l → pick t true (has b l) ≡ (t || list_any (λ y. eqb y b) l)
    by true e = refl
    by false e = e

-- the place of a byte is the length of what stands before it
place_is : (b : ℕ) (l : List ℕ) → position_or_len (λ x. eqb x b) l ≡ length (before b l)
unfolding before pick
place_is b [] = refl
place_is b (x ∷ l) = by (eqb x b) (place_is b l)
  where
    by : (t : Bool) → position_or_len (λ y. eqb y b) l ≡ length (before b l) → cond (not t) (1 + position_or_len (λ y. eqb y b) l) 0 ≡ length (pick {A = List ℕ} t [] (x ∷ before b l))
    by true e = refl
    by false e = omega (arith, e)

-- ---- parts of a name

take_before : (b : ℕ) (l : List ℕ) → take (length (before b l)) l ≡ before b l
unfolding before
take_before b [] = refl
take_before b (x ∷ l) =
    pick_ind (λ (k : List ℕ). take (length k) (x ∷ l) ≡ k) (eqb x b) [] (x ∷ before b l) (λ e. refl)
    (λ e. ap (λ (k : List ℕ). x ∷ k) (take_before b l))

drop_behind : (b : ℕ) (l : List ℕ) → drop (suc (length (before b l))) l ≡ behind b l
unfolding before behind pick
drop_behind b [] = refl
drop_behind b (x ∷ l) = at (eqb x b) (drop_behind b l)
  where
    at : (t : Bool) → drop (suc (length (before b l))) l ≡ behind b l
        → drop (length (pick {A = List ℕ} t [] (x ∷ before b l))) l ≡ pick t l (behind b l)
    at true e = refl
    at false e = e

module _ (n : List ℕ) (p : ℕ) (e : Some p ≡ position (λ b. eqb b slash) n) where
  place_found : p ≡ length (before slash n)
  place_found = by (nat_lt (position_or_len (λ b. eqb b slash) n) (length n)) e ∙ place_is slash n
    where
      by : (t : Bool) → Some p ≡ cond t (Some (position_or_len (λ b. eqb b slash) n)) None → p ≡ position_or_len (λ b. eqb b slash) n
      by true f = cc
      by false f = absurd cc

  pub before_found : take p n ≡ before slash n
  before_found = rw place_found (take_before slash n)

  pub behind_found : take (length n - (p + 1)) (drop (p + 1) n) ≡ behind slash n
  behind_found = take_all (length n - (p + 1)) (drop (p + 1) n) (omega (arith, length-drop (p + 1) n)) ∙ rw (add-one, place_found) (drop_behind slash n)

module _ (n : List ℕ) (e : None ≡ position (λ b. eqb b slash) n) where
  no_place : length n ≤ length (before slash n)
  no_place = by (nat_lt (position_or_len (λ b. eqb b slash) n) (length n)) refl e
    where
      by : (t : Bool) → nat_lt (position_or_len (λ b. eqb b slash) n) (length n) ≡ t → None ≡ cond t (Some (position_or_len (λ b. eqb b slash) n)) None → length n ≤ length (before slash n)
      by true o f = absurd cc
      by false o f = grind (arith, place_is slash n)

  pub before_none : n ≡ before slash n
  before_none = sym (take_all (length (before slash n)) n no_place) ∙ take_before slash n

  pub behind_none : take (length n - length n) (drop (length n) n) ≡ behind slash n
  behind_none =
      let k : length n ≤ suc (length (before slash n)) = omega (arith, no_place) in
      let h : length n ≤ length n = omega arith in
      rw (drop_of_length-le n h) (take-nil (length n - length n) ∙ sym (drop_of_length-le n k) ∙ drop_behind slash n)

-- ---- letter case

both : (a b : Bool) → (a && b) ≡ true → (a ≡ true) × (b ≡ true)
both true b e = (refl, e)
both false b e = absurd (let z : ◌≡◌ {A = ℕ} 0 1 = cc in omega arith)

-- what holds of a byte, and of its capital where it is a small letter, holds of `capital`
capital_ind : (P : ℕ → Type 0) (x : ℕ) → (97 ≤ x → P (x - 32)) → P x → P (capital x)
unfolding capital
capital_ind P x f p = pick_ind P (leb 97 x && leb x 122) (x - 32) x (λ e. f (leb-true 97 x (both _ _ e).0)) (λ e. p)

-- a byte below the letters is one in capital letters exactly when it was one before
capital_eqb : (x b : ℕ) → b < 65 → eqb (capital x) b ≡ eqb x b
capital_eqb x b h =
    capital_ind (λ (y : ℕ). eqb y b ≡ eqb x b) x
    (λ l. ne_eqb (x - 32) b (λ e. omega arith) ∙ sym (ne_eqb x b (λ e. omega arith)))
    refl

pub has_capitals : (b : ℕ) (n : List ℕ) → b < 65 → has b (capitals n) ≡ has b n
unfolding has capitals
has_capitals b [] h = refl
has_capitals b (x ∷ n) h = rw (capital_eqb x b h, has_capitals b n h)

capitals_pick : (t : Bool) (a b : List ℕ) → pick t (capitals a) (capitals b) ≡ capitals (pick t a b)
unfolding pick
capitals_pick true a b = refl
capitals_pick false a b = refl

pub before_capitals : (b : ℕ) (n : List ℕ) → b < 65 → before b (capitals n) ≡ capitals (before b n)
unfolding before capitals
before_capitals b [] h = refl
before_capitals b (x ∷ n) h = rw (capital_eqb x b h, before_capitals b n h) (capitals_pick (eqb x b) [] (x ∷ before b n))

pub behind_capitals : (b : ℕ) (n : List ℕ) → b < 65 → behind b (capitals n) ≡ capitals (behind b n)
unfolding behind capitals
behind_capitals b [] h = refl
behind_capitals b (x ∷ n) h = rw (capital_eqb x b h, behind_capitals b n h) (capitals_pick (eqb x b) n (behind b n))

no_digit : (x : ℕ) → 57 < x → is_digit x ≡ false
unfolding is_digit
no_digit x h = rw (lt-leb x 57 h) (and-false (leb 48 x))

one_capital : (a : ℕ) → one_digit (capital a) ≡ one_digit a
unfolding one_digit pick
one_capital a = capital_ind (λ (y : ℕ). one_digit y ≡ one_digit a) a (λ l. rw (no_digit (a - 32) (omega arith), no_digit a (omega arith))) refl

two_capitals : (a b : ℕ) → two_digits (capital a) (capital b) ≡ two_digits a b
unfolding two_digits pick
two_capitals a b =
    capital_ind (λ (y : ℕ). two_digits y (capital b) ≡ two_digits a b) a (λ l. rw (no_digit (a - 32) (omega arith), no_digit a (omega arith)))
    (capital_ind (λ (y : ℕ). two_digits a y ≡ two_digits a b) b
    (λ l. rw (no_digit (b - 32) (omega arith), no_digit b (omega arith), and-false (is_digit a)))
    refl)

pub numeral_capitals : (n : List ℕ) → numeral (capitals n) ≡ numeral n
unfolding numeral capitals one_digit two_digits
numeral_capitals [] = refl
numeral_capitals (a ∷ []) = one_capital a
numeral_capitals (a ∷ b ∷ []) = two_capitals a b
numeral_capitals (a ∷ b ∷ c ∷ n) = refl

-- ---- numbers in names

pub numeral_one : (n : List ℕ) (r : ℕ) → length n ≡ 1 → r ≡ one_digit (get_or n 0 0) → r ≡ numeral n
unfolding numeral one_digit
numeral_one [] r h e = absurd (omega (arith, h))
numeral_one (a ∷ []) r h e = e
numeral_one (a ∷ b ∷ n) r h e = absurd (omega (arith, h))

pub numeral_two : (n : List ℕ) (r : ℕ) → length n ≡ 2 → r ≡ two_digits (get_or n 0 0) (get_or n 1 0) → r ≡ numeral n
unfolding numeral two_digits
numeral_two [] r h e = absurd (omega (arith, h))
numeral_two (a ∷ []) r h e = absurd (omega (arith, h))
numeral_two (a ∷ b ∷ []) r h e = e
numeral_two (a ∷ b ∷ c ∷ n) r h e = absurd (omega (arith, h))

pub numeral_none : (n : List ℕ) → (length n ≡ 1 → ⊥) → (length n ≡ 2 → ⊥) → 0 ≡ numeral n
unfolding numeral
numeral_none [] h k = refl
numeral_none (a ∷ []) h k = absurd (h refl)
numeral_none (a ∷ b ∷ []) h k = absurd (k refl)
numeral_none (a ∷ b ∷ c ∷ n) h k = refl

-- ---- forms of names

pub line_yes : (lines l s a b : ℕ) (x y : Bool) → x ≡ within l lines → y ≡ within s channels → (x && y) ≡ true → a ≡ l - 1 → b ≡ s - 1 → Termination (channels * a + b) ≡ line_name lines l s
unfolding line_name pick
line_yes lines l s a b x y e f t g h = rw (← e, ← f, t, g, h)

pub line_no : (lines l s : ℕ) (x y : Bool) → x ≡ within l lines → y ≡ within s channels → (x && y) ≡ false → Unknown ≡ line_name lines l s
unfolding line_name pick
line_no lines l s x y e f t = rw (← e, ← f, t)

pub ephemeral_yes : (lines n a b : ℕ) (x : Bool) → x ≡ within n ephemerals → x ≡ true → a ≡ n - 1 → b ≡ line_terminations lines → Termination (b + a) ≡ ephemeral_name lines n
unfolding ephemeral_name pick
ephemeral_yes lines n a b x e t g h = rw (← e, t, g, h)

pub ephemeral_no : (lines n : ℕ) (x : Bool) → x ≡ within n ephemerals → x ≡ false → Unknown ≡ ephemeral_name lines n
unfolding ephemeral_name pick
ephemeral_no lines n x e t = rw (← e, t)

pub two_yes : (a b p q : ℕ) (x y : Bool) → x ≡ is_digit a → y ≡ is_digit b → (x && y && not (eqb a 48)) ≡ true → p ≡ a - 48 → q ≡ b - 48
    → 10 * p + q ≡ two_digits a b
unfolding two_digits pick
two_yes a b p q x y e f t g h = rw (← e, ← f, t, g, h)

pub two_no : (a b : ℕ) (x y : Bool) → x ≡ is_digit a → y ≡ is_digit b → (x && y && not (eqb a 48)) ≡ false → 0 ≡ two_digits a b
unfolding two_digits pick
two_no a b x y e f t = rw (← e, ← f, t)

-- ---- whole names: the parts of a name in capital letters are its parts

module _ (lines : ℕ) (n tail head : List ℕ) (rest_is : tail ≡ behind slash n) (head-is : head ≡ before slash n) where
  head_capitals : before slash (capitals n) ≡ capitals head
  head_capitals = before_capitals slash n (omega arith) ∙ ap capitals (sym head-is)

  tail_capitals : behind slash (capitals n) ≡ capitals tail
  tail_capitals = behind_capitals slash n (omega arith) ∙ ap capitals (sym rest_is)

  numeral_before : (m : List ℕ) (a : ℕ) → m ≡ before slash tail → a ≡ numeral m → numeral (before slash (behind slash (capitals n))) ≡ a
  numeral_before m a e f = rw (tail_capitals, before_capitals slash tail (omega arith), ← e, numeral_capitals m, ← f)

  numeral_behind : (m : List ℕ) (a : ℕ) → m ≡ behind slash tail → a ≡ numeral m → numeral (behind slash (behind slash (capitals n))) ≡ a
  numeral_behind m a e f = rw (tail_capitals, behind_capitals slash tail (omega arith), ← e, numeral_capitals m, ← f)

  pub plain_line : (x : Bool) (m k : List ℕ) (a b : ℕ) (r : Name) → x ≡ same (capitals head) (text "L") → x ≡ true
      → m ≡ before slash tail → a ≡ numeral m → k ≡ behind slash tail → b ≡ numeral k → r ≡ line_name lines a b → r ≡ plain_name lines (capitals n)
  unfolding plain_name pick
  plain_line x m k a b r e t f g h i j = rw (head_capitals, ← e, t, numeral_before m a f g, numeral_behind k b h i) j

  pub plain_ephemeral : (x y : Bool) (head' : List ℕ) (a : ℕ) (r : Name) → x ≡ same (capitals head) (text "L") → x ≡ false
      → head' ≡ before slash n → y ≡ same (capitals head') (text "R") → y ≡ true → a ≡ numeral tail → r ≡ ephemeral_name lines a → r ≡ plain_name lines (capitals n)
  unfolding plain_name pick
  plain_ephemeral x y head' a r e t d f u g h =
      let same_head : head ≡ head' = head-is ∙ sym d in
      rw (head_capitals, ← e, t, same_head, ← f, u, tail_capitals, numeral_capitals tail, ← g) h

  pub plain_none : (x y : Bool) (head' : List ℕ) → x ≡ same (capitals head) (text "L") → x ≡ false
      → head' ≡ before slash n → y ≡ same (capitals head') (text "R") → y ≡ false → Unknown ≡ plain_name lines (capitals n)
  unfolding plain_name pick
  plain_none x y head' e t d f u =
      let same_head : head ≡ head' = head-is ∙ sym d in
      rw (head_capitals, ← e, t, same_head, ← f, u)

  range_by : (m k : List ℕ) (l : ℕ) (x y z : Bool) → m ≡ before slash tail → l ≡ numeral m → k ≡ behind slash tail
      → x ≡ same (capitals head) (text "L") → y ≡ same (capitals k) (text "*") → z ≡ within l lines
      → line_range lines (capitals n) ≡ pick (x && y && z) (Wildcard (ChannelsOf l)) Unmatched
  unfolding line_range
  range_by m k l x y z f g h e d c =
      rw (numeral_before m l f g, head_capitals, tail_capitals, behind_capitals slash tail (omega arith), ← h, ← e, ← d, ← c)

  module _ (m k : List ℕ) (l : ℕ) (x y z : Bool) (f : m ≡ before slash tail) (g : l ≡ numeral m) (h : k ≡ behind slash tail)
      (e : x ≡ same (capitals head) (text "L")) (d : y ≡ same (capitals k) (text "*")) (c : z ≡ within l lines) where
    pub range_yes : (x && y && z) ≡ true → Wildcard (ChannelsOf l) ≡ line_range lines (capitals n)
    unfolding pick
    range_yes t = sym (range_by m k l x y z f g h e d c ∙ rw t)

    pub range_no : (x && y && z) ≡ false → Unmatched ≡ line_range lines (capitals n)
    unfolding pick
    range_no t = sym (range_by m k l x y z f g h e d c ∙ rw t)

-- ---- the meaning of a name

module _ (lines : ℕ) (n : List ℕ) (x : Bool) (e : x ≡ same (capitals n) (text "ROOT")) where
  pub name_root : x ≡ true → Root ≡ name_of lines n
  unfolding name_of capital_name pick
  name_root t = rw (← e, t)

  module _ (y : Bool) (no : x ≡ false) (f : y ≡ has dollar n) where
    dollars : has dollar (capitals n) ≡ y
    dollars = has_capitals dollar n (omega arith) ∙ sym f

    pub name_chosen : (z w : Bool) → y ≡ true → z ≡ same (capitals n) (text "$") → w ≡ same (capitals n) (text "R/$") → (z || w) ≡ true → Chosen ≡ name_of lines n
    unfolding name_of capital_name pick
    name_chosen z w t g h u = rw (← e, no, dollars, t, ← g, ← h, u)

    pub name_unchosen : (z w : Bool) → y ≡ true → z ≡ same (capitals n) (text "$") → w ≡ same (capitals n) (text "R/$") → (z || w) ≡ false → Unchosen ≡ name_of lines n
    unfolding name_of capital_name pick
    name_unchosen z w t g h u = rw (← e, no, dollars, t, ← g, ← h, u)

    pub name_wild : (z : Bool) (r : Name) → y ≡ false → z ≡ has star n → z ≡ true → r ≡ wildcard_name lines (capitals n) → r ≡ name_of lines n
    unfolding name_of capital_name pick
    name_wild z r t g u h = rw (← e, no, dollars, t, has_capitals star n (omega arith), ← g, u) h

    pub name_plain : (z : Bool) (r : Name) → y ≡ false → z ≡ has star n → z ≡ false → r ≡ plain_name lines (capitals n) → r ≡ name_of lines n
    unfolding name_of capital_name pick
    name_plain z r t g u h = rw (← e, no, dollars, t, has_capitals star n (omega arith), ← g, u) h
