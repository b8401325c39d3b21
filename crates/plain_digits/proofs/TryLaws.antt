-- Laws of the plain matcher, in the form in which `search` uses them: one for each answer.
use Prim.Native.Nat.{ℕ, zero, suc, ◌+◌, ◌-◌, ◌<◌}
use mathlib.Core.Path.{◌≡◌, refl, sym, ap, ◌∙◌}
use mathlib.Core.Bool.{Bool, true, false, ◌&&◌, ◌||◌, or-false}
use mathlib.Core.List.{List, [], ◌∷◌}
use native.Mathlib.Omega.{arith}
use lib.ListN.{length, get_or, drop, length-drop}
use lib.Dec.{eqb}
use borrow.Author.Tests.{ne_eqb}
use Rattle.base.specs.Pick.{pick}
use Rattle.base.proofs.TestLaws.{clash, and_left, and_right}
use Rattle.megaco.specs.Reading.{Read, got}
use Rattle.digits.specs.Symbols.{symbol_of, symbols_of, takes, dotted}
use Rattle.digits.specs.DigitMap.{SelectorRead, element_at, element_then, string_f}
use Rattle.digits.specs.Dialling.{at_end, matches_one}
use Rattle.std.specs.Prelude.{Some, None, Ok, Err}
use Rattle.std.specs.declared.option.Option.{Option as Maybe}
use Rattle.digits.specs.declared.Selector.{Selector}
use Rattle.digits.specs.declared.Malformed.{Malformed}
use Rattle.digits.specs.Ways.{either}
use Rattle.digits.specs.declared.Reach.{Reach}
use Rattle.digits.proofs.LanguageLaws.{at_start}
use Rattle.digits.proofs.ReadLaws.{Proper, element_of}
use Rattle.dialling.specs.Live.{Reaches}
use Rattle.dialling.proofs.LiveLaws.{match_next, match_end}
use Rattle.dialling.proofs.StoreLaws.{begun}
use Rattle.plain_digits.specs.Tries.{Tries}

-- ---- the string

no_symbols : (v : List ℕ) → length v ≡ 0 → symbols_of v ≡ []
unfolding symbols_of
no_symbols [] h = refl
no_symbols (b ∷ v) h = absurd (omega arith)

some_symbols : (v : List ℕ) → (length v ≡ 0 → ⊥) → symbols_of v ≡ symbol_of (get_or v 0 0) ∷ symbols_of (drop 1 v)
unfolding symbols_of
some_symbols [] h = absurd (h refl)
some_symbols (b ∷ v) h = refl

pub some_left : (v : List ℕ) → (length v ≡ 0 → ⊥) → 0 < length v
some_left v h = omega arith

-- ---- the pattern

opened : (s : List ℕ) (y : SelectorRead) → element_at s ≡ y → (k left : ℕ) (a : List ℕ) (n : ℕ) → string_f k s left ≡ got a n
    → (j : ℕ) × (element_then y left (λ p l. string_f j (drop p s) l) ≡ got a n)
unfolding string_f
opened s y e zero left a n f = let z : true ≡ false = cc in absurd (clash z)
opened s y e (suc j) left a n f = (j, rw (← e) f)

module _ (s : List ℕ) (x : SelectorRead) (e : x ≡ element_at s) where
  pub tries_malformed : (w : List ℕ) (r : Reach) (bad : Malformed) → x ≡ Err bad → Tries s w r
  unfolding element_then
  tries_malformed w r bad f =
      record { to = λ k left a n g. let y = opened s (Err bad) (sym e ∙ f) k left a n g in let q = y.1 in let z : true ≡ false = cc in absurd (clash z) }

  pub tries_end : (v : List ℕ) (o : Maybe Selector) (m : Bool) → x ≡ Ok o → o ≡ None → m ≡ eqb (length v) 0 → Tries s (symbols_of v) (record { matched = m; longer = false })
  unfolding element_then matches_one
  tries_end v o m f h d =
      record {
        to = λ k left a n g.
            let y = opened s (Ok None) (sym e ∙ (rw h at f)) k left a n g in
            let q : ◌≡◌ {A = Read (List ℕ)} (got [] 0) (got a n) = y.1 in
            let z : a ≡ [] = cc in
            rw (d, z) (record { matched = by v; longer = no v });
      }
    where
      by : (v : List ℕ) → eqb (length v) 0 ≡ matches_one true [] (symbols_of v)
      by [] = unfold symbols_of at_end matches_one in refl
      by (b ∷ v) = unfold symbols_of at_end matches_one in ne_eqb (suc (length v)) 0 (λ z. omega arith)

      no : (v : List ℕ) → false ≡ matches_one false [] (symbols_of v)
      no [] = unfold symbols_of at_end matches_one in refl
      no (b ∷ v) = unfold symbols_of at_end matches_one in refl

  module _ (o : Maybe Selector) (sel : Selector) (f₁ : x ≡ Ok o) (f₂ : o ≡ Some sel) (t : List ℕ) (r : t ≡ drop sel.next s) where
    proper : Proper s 0 sel.set sel.size sel.next
    proper = element_of s sel.set sel.size sel.next (sym e ∙ (rw f₂ at f₁))

    -- characters left fall: past the selector, whatever the string
    pub pattern_falls : (m n : ℕ) → length s + n ≡ m → length t + n < m
    pattern_falls m n h =
        let y = proper in
        let d : length t ≡ length s - sel.next = ap length r ∙ length-drop sel.next s in
        omega (arith, y.fewer, y.sized, y.inside)

    pub both_fall : (v u : List ℕ) (m : ℕ) → u ≡ drop 1 v → length s + length v ≡ m → length t + length u < m
    both_fall v u m q h =
        let y = proper in
        let d : length t ≡ length s - sel.next = ap length r ∙ length-drop sel.next s in
        let c : length u ≡ length v - 1 = ap length q ∙ length-drop 1 v in
        omega (arith, y.fewer, y.sized, y.inside)

    -- a pattern that reads begins with the selector
    record Front (a : List ℕ) : Type 0 where
      pub fuel : ℕ
      pub left : ℕ
      pub rest : List ℕ
      pub end : ℕ
      pub is : a ≡ sel.set ∷ rest
      pub reads : string_f fuel t left ≡ got rest end

    front : (k left : ℕ) (a : List ℕ) (n : ℕ) → string_f k s left ≡ got a n → Front a
    front k left a n g =
        let y = opened s (Ok (Some sel)) (sym e ∙ (rw f₂ at f₁)) k left a n g in
        let b = begun sel.set sel.size sel.next left (λ at l. string_f y.0 (drop at s) l) a n y.1 in
        record { fuel = y.0; left = b.left; rest = b.more; end = b.end; is = b.is; reads = rw r b.reads }

    -- what is known of the rest tells of the whole
    by_front : (w w₁ : List ℕ) (r₁ q : Reach) → Tries t w₁ r₁ → ((b : List ℕ) → Reaches b w₁ r₁ → Reaches (sel.set ∷ b) w q) → Tries s w q
    by_front w w₁ r₁ q g h =
        record { to = λ k left a n j. let y = front k left a n j in rw y.is (h y.rest (g.to y.fuel y.left y.rest y.end y.reads)) }

    module _ (d : Bool) (i : d ≡ dotted sel.set) (v : List ℕ) where
      -- with a dot
      pub dotted_none : (a : Reach) → d ≡ true → length v ≡ 0 → Tries t (symbols_of v) a → Tries s (symbols_of v) (record { matched = a.matched; longer = true })
      dotted_none a h z g =
          let c : symbols_of v ≡ [] = no_symbols v z in
          by_front (symbols_of v) (symbols_of v) a (record { matched = a.matched; longer = true }) g
          (λ b y. record {
            matched = y.matched ∙ rw c (sym (match_end sel.set b ∙ unfold pick in rw (← i, h) (or-false (matches_one true b []))));
            longer = rw c (sym (at_start sel.set b));
          })

      module _ (n : length v ≡ 0 → ⊥) (x' : Bool) (k : x' ≡ takes sel.set (symbol_of (get_or v 0 0))) where
        next : (whole : Bool) (b : List ℕ) → matches_one whole (sel.set ∷ b) (symbols_of v)
            ≡ pick d (matches_one whole b (symbols_of v) || (x' && matches_one whole (sel.set ∷ b) (symbols_of (drop 1 v)))) (x' && matches_one whole b (symbols_of (drop 1 v)))
        next whole b = rw (some_symbols v n, i, k) (match_next whole sel.set (symbol_of (get_or v 0 0)) b (symbols_of (drop 1 v)))

        pub dotted_with : (a c j₁ : Reach) (u : List ℕ) → j₁ ≡ either a c → d ≡ true → x' ≡ true → u ≡ drop 1 v → Tries t (symbols_of v) a → Tries s (symbols_of u) c
            → Tries s (symbols_of v) j₁
        unfolding pick
        dotted_with a c j₁ u e₁ h l m g j =
            rw e₁ (record {
              to = λ fuel left b y z.
                  let q = front fuel left b y z in
                  let first : Reaches q.rest (symbols_of v) a = g.to q.fuel q.left q.rest q.end q.reads in
                  let again : Reaches (sel.set ∷ q.rest) (symbols_of (drop 1 v)) c = rw (← m, ← q.is) (j.to fuel left b y z) in
                  rw q.is (record {
                    matched = rw (first.matched, again.matched) (sym (next true q.rest ∙ rw (h, l)));
                    longer = rw (first.longer, again.longer) (sym (next false q.rest ∙ rw (h, l)));
                  });
            })

        pub dotted_without : (a : Reach) → d ≡ true → x' ≡ false → Tries t (symbols_of v) a → Tries s (symbols_of v) a
        unfolding pick
        dotted_without a h l g =
            by_front (symbols_of v) (symbols_of v) a a g
            (λ b y. record {
              matched = y.matched ∙ sym (next true b ∙ rw (h, l) (or-false (matches_one true b (symbols_of v))));
              longer = y.longer ∙ sym (next false b ∙ rw (h, l) (or-false (matches_one false b (symbols_of v))));
            })

        -- without one
        pub plain_with : (a : Reach) (u : List ℕ) → d ≡ false → x' ≡ true → u ≡ drop 1 v → Tries t (symbols_of u) a → Tries s (symbols_of v) a
        unfolding pick
        plain_with a u h l m g =
            by_front (symbols_of v) (symbols_of u) a a g
            (λ b y. record {
              matched = y.matched ∙ rw m (sym (next true b ∙ rw (h, l)));
              longer = y.longer ∙ rw m (sym (next false b ∙ rw (h, l)));
            })

        pub plain_without : d ≡ false → x' ≡ false → Tries s (symbols_of v) (record { matched = false; longer = false })
        unfolding pick
        plain_without h l =
            record {
              to = λ fuel left b y z.
                  let q = front fuel left b y z in
                  rw q.is (record { matched = sym (next true q.rest ∙ rw (h, l)); longer = sym (next false q.rest ∙ rw (h, l)) });
            }

      -- both are answered yes without it, and so they are
      pub dotted_enough : (a : Reach) → d ≡ true → (length v ≡ 0 → ⊥) → a.matched && a.longer ≡ true → Tries t (symbols_of v) a → Tries s (symbols_of v) a
      unfolding pick
      dotted_enough a h n l g =
          by_front (symbols_of v) (symbols_of v) a a g
          (λ b y.
          let p : a.matched ≡ true = and_left a.matched a.longer l in
          let q : a.longer ≡ true = and_right a.matched a.longer l in
          record {
            matched = p ∙ sym (next n _ refl true b ∙ rw (h, ← y.matched, p));
            longer = q ∙ sym (next n _ refl false b ∙ rw (h, ← y.longer, q));
          })

      pub plain_none : d ≡ false → length v ≡ 0 → Tries s (symbols_of v) (record { matched = false; longer = true })
      plain_none h z =
          let c : symbols_of v ≡ [] = no_symbols v z in
          record {
            to = λ fuel left b y j.
                let q = front fuel left b y j in
                rw (q.is, c) (record { matched = sym (match_end sel.set q.rest ∙ unfold pick in rw (← i, h)); longer = sym (at_start sel.set q.rest) });
          }

pub by_symbol : (set b c : ℕ) (x : Bool) → c ≡ symbol_of b → x ≡ takes set c → x ≡ takes set (symbol_of b)
by_symbol set b c x e f = rw e at f

-- the same pattern, past a symbol
pub string_falls : (s v u : List ℕ) (m : ℕ) → (length v ≡ 0 → ⊥) → u ≡ drop 1 v → length s + length v ≡ m → length s + length u < m
string_falls s v u m n q h = let c : length u ≡ length v - 1 = ap length q ∙ length-drop 1 v in omega arith
