-- Symbols and ranges in a set: those of the grammar are read, and what is read is of the grammar. How readers of selectors follow one another.
use Rattle.std.specs.Prelude.{Some, None, Ok, Err}
use Prim.Native.Nat.{ℕ, ◌+◌, ◌<◌, ◌≤◌}
use mathlib.Core.Path.{◌≡◌, refl, sym, ap, ◌∙◌}
use mathlib.Core.Logic.{◌⊎◌, inl, inr}
use mathlib.Core.Bool.{Bool, true, false, ◌&&◌, ◌||◌}
use mathlib.Core.List.{List, [], ◌∷◌, ◌++◌}
use lib.ListN.{length, drop}
use lib.Dec.{leb, ltb, eqb}
use borrow.Author.Tests.{leb-true, ltb-true, le-leb, lt-ltb}
use native.Mathlib.Omega.{arith}
use Rattle.base.specs.Pick.{pick}
use Rattle.base.specs.Lists.{is_at}
use Rattle.megaco.specs.Bytes.{dash, is_digit, capital}
use Rattle.protocol.specs.Types.{Parsed}
use Rattle.grammar.proofs.Classes.{or_true, or_left, or_right, and_parts}
use Rattle.grammar.proofs.Places.{head, at_head, behind, is_at_head, is_at_cons, Finds, whether, given}
use Rattle.digits.specs.Symbols.{letter_of, symbol_of, symbol_at, span_of}
use Rattle.digits.specs.declared.Selector.{Selector}
use Rattle.digits.proofs.ReadLaws.{same_selector}
use Rattle.digits.specs.DigitMap.{taken, spaced, range_to, span_at, SelectorRead, selector, absent, malformed}
use Rattle.digit_grammar.specs.DigitGrammar.{digit_symbol, letter_symbol, range, Span, digit_range, letter_range, one_symbol}
use Rattle.digit_grammar.proofs.SymbolLaws.{digit_is, letter_is, symbol_is, symbol_tells, any_symbol}

-- what a reader of a selector gives and leaves
pub record Selects (s : List ℕ) (r : SelectorRead) (set size : ℕ) (rest : List ℕ) : Type 0 where
  pub end : ℕ
  pub is : r ≡ selector set size end
  pub leaves : drop end s ≡ rest

pub same_takes : {set size p set' size' p' : ℕ} → selector set size p ≡ selector set' size' p' → (set ≡ set') × (size ≡ size') × (p ≡ p')
same_takes h = (ap (λ (x : Selector). x.set) (same_selector h), ap (λ (x : Selector). x.size) (same_selector h), ap (λ (x : Selector). x.next) (same_selector h))

pub absent_takes : {set size p : ℕ} → absent ≡ selector set size p → ⊥
absent_takes h = let z : ◌≡◌ {A = ℕ} 0 1 = cc in omega arith

pub malformed_takes : {set size p : ℕ} → malformed ≡ selector set size p → ⊥
malformed_takes h = let z : ◌≡◌ {A = ℕ} 0 1 = cc in omega arith

-- ---- symbols and ranges

pub symbol_head : (s t : List ℕ) (at b : ℕ) → drop at s ≡ b ∷ t → symbol_at s at ≡ symbol_of b
unfolding symbol_at
symbol_head s t at b h = rw (at_head s at, h)

-- a byte further on
pub step : (s t : List ℕ) (at b : ℕ) → drop at s ≡ b ∷ t → drop (at + 1) s ≡ t
step s t at b h = behind s (b ∷ []) t at h

module _ (s : List ℕ) (at : ℕ) where
  one_reads : (b c : ℕ) (rest : List ℕ) → symbol_of b ≡ c → c < 21 → eqb (head rest) dash ≡ false → drop at s ≡ b ∷ rest
      → span_at s at ≡ selector (span_of c c) 1 (at + 1)
  unfolding span_at pick
  one_reads b c rest e l d h = rw (symbol_head s rest at b h, e, lt-ltb c 21 l, is_at_head s rest (at + 1) dash (step s rest at b h), d)

  range_reads : (a b low high : ℕ) (rest : List ℕ) → symbol_of a ≡ low → symbol_of b ≡ high → low ≤ high → high < 21 → ltb 9 low || leb high 9 ≡ true
      → drop at s ≡ a ∷ dash ∷ b ∷ rest → span_at s at ≡ selector (span_of low high) 3 (at + 3)
  unfolding span_at range_to pick
  range_reads a b low high rest e f l u k h =
      let i = step s (dash ∷ b ∷ rest) at a h in
      let j : drop (at + 2) s ≡ b ∷ rest = behind s (a ∷ dash ∷ []) (b ∷ rest) at h in
      rw (
        symbol_head s (dash ∷ b ∷ rest) at a h,
        e,
        lt-ltb low 21 (omega arith),
        is_at_head s (dash ∷ b ∷ rest) (at + 1) dash i,
        symbol_head s rest (at + 2) b j,
        f,
        le-leb low high l,
        lt-ltb high 21 u,
        k,
      )

-- a span is read, where no dash follows it
pub span_reads : (s : List ℕ) {a : List ℕ} {set : ℕ} (at : ℕ) (rest : List ℕ) → Span a set → eqb (head rest) dash ≡ false → drop at s ≡ a ++ rest
    → span_at s at ≡ selector set (length a) (at + length a)
span_reads s at rest (digit_range (range {a} {b} {low} {high} x y l)) d h =
    let p = digit_is x in let q = digit_is y in
    range_reads s at a b low high rest p.0 q.0 l (omega (arith, q.1)) (or_right (ltb 9 low) _ (le-leb _ _ q.1)) h
span_reads s at rest (letter_range (range {a} {b} {low} {high} x y l)) d h =
    let p = letter_is x in let q = letter_is y in
    range_reads s at a b low high rest p.0 q.0 l q.2 (or_left (ltb 9 low) _ (lt-ltb _ _ p.1)) h
span_reads s at rest (one_symbol {b} {c} x) d h = let p = symbol_is x in one_reads s at b c rest p.0 p.1 d h

-- a part of the grammar that a reader found
pub record Part (X : List ℕ → Type 0) (t rest : List ℕ) : Type 0 where
  pub bytes : List ℕ
  pub derives : X bytes
  pub split : t ≡ bytes ++ rest

-- ---- how one reader follows another

module _ (s : List ℕ) where
  pub selects_spaced : {set size : ℕ} {mid rest : List ℕ} (r : Parsed) (f : ℕ → SelectorRead) → Finds s r mid
      → ((p : ℕ) → drop p s ≡ mid → Selects s (f p) set size rest) → Selects s (spaced r f) set size rest
  unfolding spaced
  selects_spaced r f g k = rw g.is (k g.end g.leaves)

  pub selects_taken : {set size set' size' : ℕ} {mid rest : List ℕ} (r : SelectorRead) (f : ℕ → ℕ → ℕ → SelectorRead) (other : SelectorRead)
      → Selects s r set size mid
      → ((p : ℕ) → drop p s ≡ mid → Selects s (f set size p) set' size' rest) → Selects s (taken r f other) set' size' rest
  unfolding taken
  selects_taken r f other g k = rw g.is (k g.end g.leaves)

module _ {C : Type 0} {set size e : ℕ} where
  pub spaced_takes : (r : Parsed) (f : ℕ → SelectorRead) → spaced r f ≡ selector set size e → ((p : ℕ) → r ≡ Some p → f p ≡ selector set size e → C) → C
  unfolding spaced
  spaced_takes (Some p) f h k = k p refl h
  spaced_takes None f h k = absurd (malformed_takes h)

  pub taken_takes : (r : SelectorRead) (f : ℕ → ℕ → ℕ → SelectorRead) (other : SelectorRead) → taken r f other ≡ selector set size e
      → ((x n p : ℕ) → r ≡ selector x n p → f x n p ≡ selector set size e → C) → (r ≡ absent → other ≡ selector set size e → C) → C
  unfolding taken
  taken_takes (Ok (Some y)) f other h k l = k y.set y.size y.next refl h
  taken_takes (Ok None) f other h k l = l refl h
  taken_takes (Err bad) f other h k l = absurd (malformed_takes h)

  pub pick_absent : (t : Bool) (r : SelectorRead) → pick t r absent ≡ selector set size e → (t ≡ true → r ≡ selector set size e → C) → C
  unfolding pick
  pick_absent true r h k = k refl h
  pick_absent false r h k = absurd (absent_takes h)

  pub pick_malformed : (t : Bool) (r : SelectorRead) → pick t r malformed ≡ selector set size e → (t ≡ true → r ≡ selector set size e → C) → C
  unfolding pick
  pick_malformed true r h k = k refl h
  pick_malformed false r h k = absurd (malformed_takes h)

-- ---- what is read of symbols and ranges

-- a symbol that a test finds stands there
pub record Symbol (s : List ℕ) (at : ℕ) : Type 0 where
  pub byte : ℕ
  pub symbol : symbol_of byte ≡ symbol_at s at
  pub here : drop at s ≡ byte ∷ drop (at + 1) s

pub symbol_here : (s : List ℕ) (at : ℕ) → symbol_at s at < 21 → Symbol s at
unfolding symbol_at symbol_of letter_of is_digit capital pick
symbol_here s at h = go (drop at s) refl
  where
    is : symbol_at s at ≡ symbol_of (head (drop at s))
    is = rw (at_head s at)

    go : (t : List ℕ) → drop at s ≡ t → Symbol s at
    go [] f = let z : symbol_at s at ≡ 21 = is ∙ rw f in absurd (omega arith)
    go (b ∷ t) f = record { byte = b; symbol = sym (is ∙ rw f); here = f ∙ rw (step s t at b f) }

range_of : {a b low high : ℕ} → symbol_of a ≡ low → symbol_of b ≡ high → low ≤ high → high < 21 → ltb 9 low || leb high 9 ≡ true
    → Span (a ∷ dash ∷ b ∷ []) (span_of low high)
range_of {a} {b} {low} {high} e f l u k = go (rw e at (symbol_tells a (rw e (omega arith)))) (rw f at (symbol_tells b (rw f u)))
  where
    mixed : {C : Type 0} → low ≤ 9 → 9 < high → C
    mixed i j = by (or_true (ltb 9 low) _ k)
      where
        by : {C : Type 0} → (ltb 9 low ≡ true) ⊎ (leb high 9 ≡ true) → C
        by (inl t) = absurd (omega (arith, ltb-true 9 low t))
        by (inr t) = absurd (omega (arith, leb-true high 9 t))

    go : digit_symbol a low ⊎ letter_symbol a low → digit_symbol b high ⊎ letter_symbol b high → Span (a ∷ dash ∷ b ∷ []) (span_of low high)
    go (inl x) (inl y) = digit_range (range x y l)
    go (inr x) (inr y) = letter_range (range x y l)
    go (inl x) (inr y) = mixed (digit_is x).1 (letter_is y).1
    go (inr x) (inl y) = absurd (omega (arith, (letter_is x).1, (digit_is y).1))

abbrev pub Spans : ℕ → ℕ → List ℕ → Type 0
Spans set n a = Span a set × (n ≡ length a)

pub span_sound : (s : List ℕ) (at set n e : ℕ) → span_at s at ≡ selector set n e → Part (Spans set n) (drop at s) (drop e s)
unfolding span_at range_to pick
span_sound s at set n e h = pick_absent (ltb low 21) _ h (λ t h.
    given (symbol_here s at (ltb-true low 21 t)) (λ x. whether (is_at s (at + 1) dash)
    (λ d. pick_malformed (leb low high && ltb high 21 && (ltb 9 low || leb high 9)) _ (rw d at h) (λ u h.
    given (and_parts (leb low high && ltb high 21) _ u) (λ p. given (and_parts (leb low high) _ p.0) (λ q.
    let i : high < 21 = ltb-true high 21 q.1 in
    given (symbol_here s (at + 2) i) (λ y. given (same_takes h) (λ z.
    let r : Span (x.byte ∷ dash ∷ y.byte ∷ []) (span_of low high) = range_of x.symbol y.symbol (leb-true low high q.0) i p.1 in
    record {
      bytes = x.byte ∷ dash ∷ y.byte ∷ [];
      derives = (rw (← z.0) r, sym z.1);
      split = x.here ∙ rw (is_at_cons s (at + 1) dash (omega arith) d, next2, y.here, next3, z.2);
    }))))))
    (λ d. given (same_takes (rw d at h)) (λ z. record {
      bytes = x.byte ∷ [];
      derives = (rw (← z.0) (rw (← x.symbol) (one_symbol (any_symbol x.byte (rw x.symbol (ltb-true low 21 t))))), sym z.1);
      split = x.here ∙ rw z.2;
    }))))
  where
    low : ℕ
    low = symbol_at s at

    high : ℕ
    high = symbol_at s (at + 2)

    next2 : at + 1 + 1 ≡ at + 2
    next2 = omega arith

    next3 : at + 2 + 1 ≡ at + 3
    next3 = omega arith
