-- Symbols of the grammar are those that reading finds; and what a byte that begins a selector is not.
use Prim.Native.Nat.{ℕ, ◌+◌, ◌-◌, ◌<◌, ◌≤◌}
use mathlib.Core.Path.{◌≡◌, refl, sym}
use mathlib.Core.Logic.{◌⊎◌, inl, inr}
use mathlib.Core.Bool.{Bool, true, false, not, ◌&&◌, ◌||◌, false≢true}
use mathlib.Core.List.{List, ◌++◌, append_assoc}
use lib.Dec.{leb, ltb, eqb}
use borrow.Author.Tests.{leb-true, le-leb, lt-leb, lt-ltb, eq-eqb}
use native.Mathlib.Omega.{arith}
use Rattle.base.specs.Pick.{pick}
use Rattle.base.specs.Lists.{every}
use Rattle.megaco.specs.Bytes.{dot, dash, is_digit, is_white, capital}
use Rattle.megaco.specs.White.{goes_on}
use Rattle.grammar.specs.Characters.{digit}
use Rattle.grammar.specs.Grammar.{LWSP, no_lwsp, more_lwsp}
use Rattle.grammar.proofs.Classes.{or_left, or_right, and_no, and_parts, test_not, digit_tests}
use Rattle.grammar.proofs.Places.{head, whether}
use Rattle.grammar.proofs.FollowLaws.{ends, follow_not, blank_ends}
use Rattle.digits.specs.Symbols.{letter_of, symbol_of}
use Rattle.digits.specs.DigitMap.{left_bracket, left_paren}
use Rattle.digit_grammar.specs.DigitGrammar.{digit_symbol, digit_of, letter_symbol, upper_of, lower_of, digit_map_letter, basic_digit, basic_letter}

-- ---- what the grammar derives

pub digit_is : {b c : ℕ} → digit_symbol b c → (symbol_of b ≡ c) × (c ≤ 9)
unfolding symbol_of is_digit pick
digit_is (digit_of {b} (digit h k)) = (rw (le-leb 0x30 b h, le-leb b 0x39 k), omega arith)

-- no digit from A on
above : (b : ℕ) → 0x41 ≤ b → is_digit b ≡ false
unfolding is_digit
above b h = and_no (leb 0x30 b) _ (lt-leb b 0x39 (omega arith))

pub letter_is : {b c : ℕ} → letter_symbol b c → (symbol_of b ≡ c) × (9 < c) × (c < 21)
unfolding symbol_of letter_of capital pick
letter_is (upper_of {b} h k) =
    let n : b - 55 ≡ b - 0x41 + 10 = omega arith in
    (rw (above b h, lt-leb 0x61 b (omega arith), le-leb 0x41 b h, le-leb b 0x4b k) n, omega arith, omega arith)
letter_is (lower_of {b} h k) =
    let n : b - 0x20 - 55 ≡ b - 0x61 + 10 = omega arith in
    let i = le-leb 0x41 (b - 0x20) (omega arith) in
    let j = le-leb (b - 0x20) 0x4b (omega arith) in
    (rw (above b (omega arith), le-leb 0x61 b h, le-leb b 0x7a (omega arith), i, j) n, omega arith, omega arith)

pub symbol_is : {b c : ℕ} → digit_map_letter b c → (symbol_of b ≡ c) × (c < 21)
symbol_is (basic_digit d) = let p = digit_is d in (p.0, omega (arith, p.1))
symbol_is (basic_letter l) = let p = letter_is l in (p.0, p.2)

-- ---- what reading finds

pub symbol_tells : (b : ℕ) → symbol_of b < 21 → digit_symbol b (symbol_of b) ⊎ letter_symbol b (symbol_of b)
unfolding symbol_of letter_of capital pick
symbol_tells b h = whether (is_digit b) (λ t. inl (rw t (digit_of (digit_tests.tells b t)))) (λ t. inr (rw t (letter t (rw t at h))))
  where
    upper : (leb 0x41 b && leb b 0x4b ≡ true) → letter_symbol b (b - 55)
    upper e =
        let p = and_parts (leb 0x41 b) _ e in
        let j : 0x41 ≤ b = leb-true _ _ p.0 in
        let k : b ≤ 0x4b = leb-true _ _ p.1 in
        let n : b - 55 ≡ b - 0x41 + 10 = omega arith in
        rw n (upper_of j k)

    lower : leb 0x61 b && leb b 0x7a ≡ true → (leb 0x41 (b - 0x20) && leb (b - 0x20) 0x4b ≡ true) → letter_symbol b (b - 0x20 - 55)
    lower f e =
        let p = and_parts (leb 0x61 b) _ f in
        let q = and_parts (leb 0x41 (b - 0x20)) _ e in
        let j : 0x61 ≤ b = leb-true _ _ p.0 in
        let k : b - 0x20 ≤ 0x4b = leb-true _ _ q.1 in
        let n : b - 0x20 - 55 ≡ b - 0x61 + 10 = omega arith in
        rw n (lower_of j (omega arith))

    some : (t : Bool) (n : ℕ) → pick t n 21 < 21 → (t ≡ true → letter_symbol b n) → letter_symbol b (pick t n 21)
    some true n l f = f refl
    some false n l f = absurd (omega arith)

    letter : is_digit b ≡ false → letter_of (capital b) < 21 → letter_symbol b (letter_of (capital b))
    letter t l = whether (leb 0x61 b && leb b 0x7a)
        (λ e. rw e (some (leb 0x41 (b - 0x20) && leb (b - 0x20) 0x4b) (b - 0x20 - 55) (rw e at l) (lower e)))
        (λ e. rw e (some (leb 0x41 b && leb b 0x4b) (b - 55) (rw e at l) upper))

pub any_symbol : (b : ℕ) → symbol_of b < 21 → digit_map_letter b (symbol_of b)
any_symbol b h = go (symbol_tells b h)
  where
    go : digit_symbol b (symbol_of b) ⊎ letter_symbol b (symbol_of b) → digit_map_letter b (symbol_of b)
    go (inl d) = basic_digit d
    go (inr l) = basic_letter l

-- ---- the byte that a selector begins with

unfoldable pub begins : ℕ → Bool
begins b = ltb (symbol_of b) 21 || eqb (capital b) 0x58 || eqb b left_bracket

pub begins_symbol : {b c : ℕ} → digit_map_letter b c → begins b ≡ true
unfolding begins
begins_symbol {b} s = let p = symbol_is s in or_left _ _ (or_left (ltb (symbol_of b) 21) _ (rw p.0 (lt-ltb _ 21 p.1)))

pub begins_x : (b : ℕ) → capital b ≡ 0x58 → begins b ≡ true
unfolding begins
begins_x b e = or_left _ _ (or_right (ltb (symbol_of b) 21) _ (eq-eqb _ _ e))

-- a byte that no selector begins with
pub begins_not : (b : ℕ) → begins b ≡ false → (ltb (symbol_of b) 21 ≡ false) × (eqb (capital b) 0x58 ≡ false) × (eqb b left_bracket ≡ false)
unfolding begins
begins_not b h = go (ltb (symbol_of b) 21) (eqb (capital b) 0x58) (eqb b left_bracket) h
  where
    go : (x y z : Bool) → x || y || z ≡ false → (x ≡ false) × (y ≡ false) × (z ≡ false)
    go false false false e = (refl, refl, refl)
    go false false true e = absurd (false≢true (sym e))
    go false true z e = absurd (false≢true (sym e))
    go true y z e = absurd (false≢true (sym e))

-- it is no white space, no dot, no `(`, no dash
pub begins_solid : (b : ℕ) → begins b ≡ true → goes_on false b ≡ false
unfolding begins symbol_of letter_of is_digit capital pick goes_on is_white
begins_solid b h =
    rw (
      test_not begins b 0x20 refl h,
      test_not begins b 0x09 refl h,
      test_not begins b 0x0d refl h,
      test_not begins b 0x0a refl h,
      test_not begins b 0x3b refl h,
    )

pub begins_no_dot : (b : ℕ) → begins b ≡ true → eqb b dot ≡ false
unfolding begins symbol_of letter_of is_digit capital pick
begins_no_dot b h = test_not begins b dot refl h

pub begins_no_paren : (b : ℕ) → begins b ≡ true → eqb b left_paren ≡ false
unfolding begins symbol_of letter_of is_digit capital pick
begins_no_paren b h = test_not begins b left_paren refl h

pub begins_no_dash : (b : ℕ) → begins b ≡ true → eqb b dash ≡ false
unfolding begins symbol_of letter_of is_digit capital pick
begins_no_dash b h = test_not begins b dash refl h

-- ---- what white space begins with fails a test that all its bytes fail

pub white_first : (t : ℕ → Bool) → every (λ b. not (t b)) ends ≡ true → {v : List ℕ} (r : List ℕ) → LWSP v → t (head r) ≡ false
    → t (head (v ++ r)) ≡ false
white_first t e r no_lwsp h = h
white_first t e r (more_lwsp {a} {b} x w) h = rw (append_assoc a b r) (follow_not t e (blank_ends (b ++ r) x))

-- x and the symbols
x_only : (b : ℕ) → capital b ≡ 0x58 → (b ≡ 0x58) ⊎ (b ≡ 0x78)
unfolding capital pick
x_only b e = whether (leb 0x61 b && leb b 0x7a)
    (λ t. let n : b - 0x20 ≡ 0x58 = rw t at e in inr (omega arith))
    (λ t. inl (rw t at e))

pub x_no_symbol : (b : ℕ) → capital b ≡ 0x58 → ltb (symbol_of b) 21 ≡ false
unfolding symbol_of letter_of is_digit capital pick
x_no_symbol b e = go (x_only b e)
  where
    go : (b ≡ 0x58) ⊎ (b ≡ 0x78) → ltb (symbol_of b) 21 ≡ false
    go (inl h) = rw h
    go (inr h) = rw h
