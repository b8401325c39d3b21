-- Laws of reading one part after another, in the form in which `search` uses them.
use mir.Val.{Fits}
use mir.Syntax.{w64}
use Prim.Native.Nat.{ℕ, zero, suc, ◌+◌, ◌-◌, ◌^◌, ◌<◌, ◌≤◌}
use mathlib.Core.Path.{◌≡◌, refl, sym, ap, ◌∙◌}
use mathlib.Core.Bool.{Bool, true, false}
use mathlib.Core.List.{List, [], ◌∷◌}
use native.Mathlib.Omega.{arith}
use native.Mathlib.Numerals.{add-one}
use native.Mathlib.Nat.{zero-add, add-zero, add_assoc}
use lib.ListN.{length, get_or, take, drop, length-drop, drop_of_length-le, get_or-eq_default}
use lib.Seq.{take_all, take-nil, drop-drop, drop-length}
use lib.Dec.{eqb}
use borrow.Author.Tests.{le-ltb, lt-ltb}
use Rattle.base.specs.Pick.{pick}
use Rattle.base.specs.Lists.{is_at}
use Rattle.base.proofs.TestLaws.{clash}
use Rattle.megaco.specs.Bytes.{capital}
use Rattle.megaco.specs.White.{white_at}
use Rattle.megaco.specs.Tokens.{whole_at}
use Rattle.megaco.specs.Reading.{Read, got, fault, bind, skip}
use Rattle.protocol.specs.Types.{Parsed}
use Rattle.text.proofs.TextLaws.{within, reads}
use Rattle.digits.specs.Symbols.{symbol_at, span_of}
use Rattle.digits.specs.DigitMap.{taken, spaced, letters_f, bracket_at, is_x, position_at, element_at, element_then, string_f, some_of, string_r, alternative_r, ends_at, right_paren, SelectorRead, selector, malformed}
use Rattle.digits.proofs.ReadLaws.{white_on, white_within, letters_next, position_of, element_of, Proper, string_is}
use Rattle.std.specs.Prelude.{Some, None, Ok, Err}
use Rattle.std.specs.declared.option.Option.{Option as Maybe}
use Rattle.digits.specs.declared.Selector.{Selector}
use Rattle.digits.specs.declared.Malformed.{Malformed}
use Rattle.map_text.specs.Ends.{end_of, between, Bounded}

-- ---- what is left

pub rest_here : (s : List ℕ) (at : ℕ) → at < length s → take (length s - at) (drop at s) ≡ drop at s
rest_here s at h = let d : length (drop at s) ≡ length s - at = length-drop at s in take_all (length s - at) (drop at s) (omega arith)

pub rest_none : (s : List ℕ) (at e : ℕ) → e ≡ length s → length s ≤ at → take (length s - e) (drop e s) ≡ drop at s
rest_none s at e z h = rw (drop_of_length-le s h, z, drop-length s) (take-nil (length s - length s))

-- ---- the arms of a match on what a reader found

module _ (x : Parsed) (f : ℕ → SelectorRead) (y : Parsed) (e : y ≡ x) where
  pub spaced_next : (r : SelectorRead) (p : ℕ) → y ≡ Some p → r ≡ f p → r ≡ spaced x f
  unfolding spaced
  spaced_next r p n h = rw (← e, n) h

  pub spaced_fault : y ≡ None → malformed ≡ spaced x f
  unfolding spaced
  spaced_fault n = rw (← e, n)

module _ (x : SelectorRead) (f : ℕ → ℕ → ℕ → SelectorRead) (other y : SelectorRead) (e : y ≡ x) (o : Maybe Selector) (g : y ≡ Ok o) where
  pub taken_takes : (r : SelectorRead) (t : Selector) → o ≡ Some t → r ≡ f t.set t.size t.next → r ≡ taken x f other
  unfolding taken
  taken_takes r t n h = rw (← e, g, n) h

  pub taken_absent : (r : SelectorRead) → o ≡ None → r ≡ other → r ≡ taken x f other
  unfolding taken
  taken_absent r n h = rw (← e, g, n) h

pub ruleset parts = (reads, spaced_next, spaced_fault, taken_takes, taken_absent)

-- ---- places

module _ (s : List ℕ) (at : ℕ) (w : Parsed) (e : w ≡ white_at s at) (p : ℕ) (n : w ≡ Some p) where
  pub close_fits : (size k b : ℕ) (x : Bool) → size < at → x ≡ is_at s p b → x ≡ true → 0 < b → length s < 2 ^ 64 → k < 3 → Fits w64 (size + k)
  close_fits size k b x h g t z l f =
      let i : p < length s = within s p b x g t z in
      let r : at ≤ p = white_on s at p (sym e ∙ n) in
      record { fits = omega arith }

pub letters_within : (s : List ℕ) (at : ℕ) (w : Parsed) (p : ℕ) → w ≡ white_at s (at + 1) → w ≡ Some p → at < length s → p ≤ length s
letters_within s at w p e n h = let r = white_within s (at + 1) p (sym e ∙ n) (omega arith) in r.1

pub letters_before : (s : List ℕ) (at : ℕ) (w : Parsed) (p : ℕ) (x : SelectorRead) (o : Maybe Selector) (t : Selector) → w ≡ white_at s (at + 1) → w ≡ Some p → at < length s
    → x ≡ letters_f 64 s 0 0 p → x ≡ Ok o → o ≡ Some t → t.size < t.next
letters_before s at w p x o t e n h f g m =
    let r = white_within s (at + 1) p (sym e ∙ n) (omega arith) in
    let z : t.next ≡ p + t.size = letters_next s p t.set t.size t.next r.1 (sym f ∙ (rw m at g)) in
    omega (arith, r.0)

-- ---- one selector

pub x_here : (s : List ℕ) (y : ℕ) → y ≡ capital (get_or s 0 0) → eqb y 0x58 ≡ is_x s
unfolding is_x
x_here s y e = rw e

pub x_none : (s : List ℕ) → length s ≤ 0 → false ≡ is_x s
unfolding is_x capital pick
x_none s h = rw (get_or-eq_default s 0 h)

module _ (s : List ℕ) (c : ℕ) (e : c ≡ symbol_at s 0) where
  pub position_symbol : (set : ℕ) → c < 21 → set ≡ span_of c c → selector set 1 1 ≡ position_at s
  unfolding position_at pick
  position_symbol set h f = rw (f, ← e, lt-ltb c 21 h)

  module _ (h : 21 ≤ c) (x : Bool) (g : x ≡ is_x s) where
    pub position_x : (set : ℕ) → x ≡ true → set ≡ span_of 0 9 → selector set 1 1 ≡ position_at s
    unfolding position_at pick
    position_x set t f = rw (f, ← e, le-ltb c 21 h, ← g, t)

    pub position_set : (r : SelectorRead) → x ≡ false → r ≡ bracket_at s → r ≡ position_at s
    unfolding position_at pick
    position_set r t f = f ∙ rw (← e, le-ltb c 21 h, ← g, t)

pub element_size : (s : List ℕ) (x : SelectorRead) (o : Maybe Selector) (t : Selector) (b : ℕ) (y : Bool) → x ≡ position_at s → x ≡ Ok o → o ≡ Some t → y ≡ is_at s t.next b → y ≡ true → 0 < b
    → length s < 2 ^ 64 → Fits w64 (t.size + 1)
element_size s x o t b y e n m g h z l =
    let i : t.next < length s = within s t.next b y g h z in
    let r : Proper s 0 t.set t.size t.next = position_of s t.set t.size t.next (sym e ∙ (rw m at n)) in
    record { fits = omega (arith, r.fewer) }

-- ---- an alternative: what is known after n selectors, at place i, is told by the rest

pub so_far : ℕ → ℕ → Read (List ℕ) → Parsed
so_far i zero (got [] e) = None
so_far i zero (got (x ∷ a) e) = Some (i + e)
so_far i zero fault = None
so_far i (suc n) (got a e) = Some (i + e)
so_far i (suc n) fault = None

so_far_start : (x : Read (List ℕ)) → end_of (bind x some_of) ≡ so_far 0 0 x
unfolding end_of bind some_of so_far
so_far_start (got [] e) = refl
so_far_start (got (x ∷ a) e) = ap Some (sym (zero-add e))
so_far_start fault = refl

so_far_more : (i n set p : ℕ) (x : Read (List ℕ)) → so_far i n (bind x (λ a e. got (set ∷ a) (p + e))) ≡ so_far (i + p) (n + 1) x
unfolding so_far bind
so_far_more i zero set p (got a e) = ap Some (sym (add_assoc i p e))
so_far_more i zero set p fault = refl
so_far_more i (suc n) set p (got a e) = rw add-one (ap Some (sym (add_assoc i p e)))
so_far_more i (suc n) set p fault = rw add-one

pub record StringHere (s : List ℕ) (i left n : ℕ) : Type 0 where
  pub inside : i ≤ length s
  pub same : end_of (string_r s) ≡ so_far i n (string_f (65 - n) (drop i s) left)

pub string_start : (s : List ℕ) → StringHere s 0 64 0
unfolding string_r
string_start s = record { inside = omega arith; same = so_far_start (string_f 65 s 64) }

module _ (s : List ℕ) (i left n : ℕ) (inv : StringHere s i left n) where
  pub string_many : 65 ≤ n → None ≡ end_of (string_r s)
  unfolding string_f so_far
  string_many h = let z : 65 - n ≡ 0 = omega arith in sym (inv.same ∙ rw z (by n))
    where
      by : (m : ℕ) → so_far i m fault ≡ None
      by zero = refl
      by (suc m) = refl

  module _ (h : n < 65) (t : List ℕ) (r : t ≡ drop i s) (x : SelectorRead) (e : x ≡ element_at t) where
    string_open : end_of (string_r s) ≡ so_far i n (element_then x left (λ p l. string_f (65 - (n + 1)) (drop p (drop i s)) l))
    unfolding string_f
    string_open = rw (e, r) (by (65 - n) (65 - (n + 1)) (omega arith) inv.same)
      where
        by : (k j : ℕ) → k ≡ suc j → end_of (string_r s) ≡ so_far i n (string_f k (drop i s) left)
            → end_of (string_r s) ≡ so_far i n (element_then (element_at (drop i s)) left (λ p l. string_f j (drop p (drop i s)) l))
        by k j z f = rw z at f

    module _ (o : Maybe Selector) (v : Selector) (g : x ≡ Ok o) (k : o ≡ Some v) where
      f : x ≡ Ok (Some v)
      f = rw k at g

      pub string_within : i + v.next ≤ length s
      string_within =
          let d : length (drop i s) ≡ length s - i = length-drop i s in
          let y : Proper (drop i s) 0 v.set v.size v.next = element_of (drop i s) v.set v.size v.next (ap element_at (sym r) ∙ sym e ∙ f) in
          let b : i ≤ length s = inv.inside in
          omega (arith, y.inside)

      pub string_fits : length s < 2 ^ 64 → Fits w64 (i + v.next)
      string_fits l = let w : i + v.next ≤ length s = string_within in record { fits = omega arith }

      pub string_long : left < v.size → None ≡ end_of (string_r s)
      unfolding element_then pick so_far
      string_long l = sym (string_open ∙ rw (f, lt-ltb left v.size l) (by n))
        where
          by : (m : ℕ) → so_far i m fault ≡ None
          by zero = refl
          by (suc m) = refl

      pub string_on : v.size ≤ left → StringHere s (i + v.next) (left - v.size) (n + 1)
      unfolding element_then pick
      string_on l =
          record {
            inside = string_within;
            same = string_open ∙ rw (f, le-ltb left v.size l, drop-drop v.next i s) (so_far_more i n v.set v.next (string_f (65 - (n + 1)) (drop (i + v.next) s) (left - v.size)));
          }

    pub string_bad : (bad : Malformed) → x ≡ Err bad → None ≡ end_of (string_r s)
    unfolding element_then so_far
    string_bad bad f = sym (string_open ∙ rw f (by n))
      where
        by : (m : ℕ) → so_far i m fault ≡ None
        by zero = refl
        by (suc m) = refl

    pub string_none : (o : Maybe Selector) → x ≡ Ok o → o ≡ None → n ≡ 0 → None ≡ end_of (string_r s)
    unfolding element_then so_far
    string_none o f g z = sym (string_open ∙ rw (f, g, z))

    pub string_stop : (o : Maybe Selector) → x ≡ Ok o → o ≡ None → (n ≡ 0 → ⊥) → Some i ≡ end_of (string_r s)
    unfolding element_then so_far
    string_stop o f g z = sym (string_open ∙ rw (f, g) (by n z))
      where
        by : (m : ℕ) → (m ≡ 0 → ⊥) → so_far i m (got [] 0) ≡ Some i
        by zero b = absurd (b refl)
        by (suc m) b = ap Some (add-zero i)

-- ---- an alternative of a list

module _ (s : List ℕ) where
  broken_is : alternative_r s ≡ fault → Bounded s None
  broken_is e = record { broken = λ f. refl; within = λ a n f. let z : true ≡ false = cc in absurd (clash z) }

  within_is : (a : List ℕ) (p k e : ℕ) → alternative_r s ≡ got a e → string_r (drop p s) ≡ got a k → Bounded s (between p e)
  within_is a p k e f g =
      record {
        broken = λ h. let z : true ≡ false = cc in absurd (clash z);
        within = λ b n h. let x : a ≡ b = cc in let y : e ≡ n = cc in record { from = p; size = k; is = rw y; reads = rw x at g };
      }

  module _ (w : Parsed) (e : w ≡ white_at s 0) where
    pub bounded_cut : w ≡ None → Bounded s None
    unfolding alternative_r skip
    bounded_cut n = broken_is (rw (← e, n))

    module _ (p : ℕ) (n : w ≡ Some p) (t : List ℕ) (r : t ≡ drop p s) (x : Parsed) (f : x ≡ end_of (string_r t)) where
      string_known : x ≡ end_of (string_r (drop p s))
      string_known = rw r at f

      pub bounded_bad : x ≡ None → Bounded s None
      unfolding alternative_r skip bind end_of
      bounded_bad g = let f : string_r (drop p s) ≡ fault = by (string_r (drop p s)) (sym string_known ∙ g) in broken_is (rw (← e, n, f))
        where
          by : (y : Read (List ℕ)) → end_of y ≡ None → y ≡ fault
          by (got a k) z = let c : true ≡ false = cc in absurd (clash c)
          by fault z = refl

      module _ (k : ℕ) (g : x ≡ Some k) where
        reads_to : (y : Read (List ℕ)) → end_of y ≡ Some k → (a : List ℕ) × (y ≡ got a k)
        unfolding end_of
        reads_to (got a m) z = (a, cc)
        reads_to fault z = let c : true ≡ false = cc in absurd (clash c)

        string_reads : (a : List ℕ) × (string_r (drop p s) ≡ got a k)
        string_reads = reads_to (string_r (drop p s)) (sym string_known ∙ g)

        pub string_inside : p + k ≤ length s
        string_inside =
            let i = white_within s 0 p (sym e ∙ n) (omega arith) in
            let a = string_is (drop p s) string_reads.0 k string_reads.1 in
            let d : length (drop p s) ≡ length s - p = length-drop p s in
            omega (arith, i.1, a.inside)

        pub place_fits : length s < 2 ^ 64 → Fits w64 (p + k)
        place_fits l = let i : p + k ≤ length s = string_inside in record { fits = omega arith }

        module _ (u : List ℕ) (c : u ≡ drop (p + k) s) (v : Parsed) (d : v ≡ white_at u 0) where
          white_known : v ≡ white_at (drop (p + k) s) 0
          white_known = rw c at d

          pub bounded_open : v ≡ None → Bounded s None
          unfolding alternative_r skip bind
          bounded_open m = broken_is (rw (← e, n, string_reads.1, ← white_known, m))

          module _ (q : ℕ) (m : v ≡ Some q) where
            pub end_fits : length s < 2 ^ 64 → Fits w64 (p + k + q)
            end_fits l =
                let i : p + k ≤ length s = string_inside in
                let b = white_within (drop (p + k) s) 0 q (sym white_known ∙ m) (omega arith) in
                let h : length (drop (p + k) s) ≡ length s - (p + k) = length-drop (p + k) s in
                record { fits = omega (arith, b.1) }

            pub bounded : Bounded s (between p (p + k + q))
            unfolding alternative_r skip bind
            bounded = by string_reads.0 string_reads.1 white_known
              where
                by : (a : List ℕ) → string_r (drop p s) ≡ got a k → v ≡ white_at (drop (p + k) s) 0 → Bounded s (between p (p + k + q))
                by a y z = within_is a p k (p + k + q) (rw (← e, n, y, ← z, m)) y

-- ---- the end of a list

module _ (s : List ℕ) (at : ℕ) (x : Bool) (g : x ≡ is_at s at right_paren) where
  pub ends_not : x ≡ false → false ≡ ends_at s at
  unfolding ends_at pick
  ends_not t = rw (← g, t)

  module _ (t : x ≡ true) (u : List ℕ) (r : u ≡ drop (at + 1) s) (w : Parsed) (e : w ≡ white_at u 0) where
    pub ends_here : (p : ℕ) → w ≡ Some p → eqb p (length u) ≡ ends_at s at
    unfolding ends_at pick whole_at
    ends_here p n = rw (← g, t, ← r, ← e, n)

    pub ends_cut : w ≡ None → false ≡ ends_at s at
    unfolding ends_at pick whole_at
    ends_cut n = rw (← g, t, ← r, ← e, n)
