-- The words of a table and the map, in the form in which `search` uses the laws.
use Prim.Native.Nat.{ℕ, zero, suc, ◌+◌, ◌-◌, ◌*◌, ◌<◌, ◌≤◌}
use mathlib.Core.Path.{◌≡◌, sym, ◌∙◌}
use mathlib.Core.Bool.{Bool, true, false}
use mathlib.Core.List.{List, [], ◌∷◌}
use native.Mathlib.Omega.{arith}
use lib.ListN.{length, get_or, set, take, drop, length-drop}
use lib.Seq.{drop-cons, drop-length}
use lib.Dec.{eqb}
use mir.Syntax.{w32}
use mir.Val.{Fits}
use borrow.Author.Tests.{eq-eqb, ne_eqb}
use Rattle.base.specs.Pick.{pick}
use Rattle.megaco.specs.Map.{of_digits, marks}
use Rattle.megaco.specs.Table.{line_terminations, start_of, words, sound}
use Rattle.row_laws.specs.Filling.{set4, map_word, mapped, low_map, high_map}
use Rattle.row_laws.specs.Answers.{sound_of}

pub four_stores : (t t₁ t₂ t₃ t₄ : List ℕ) (k f a p y : ℕ) → t₁ ≡ set t k f → t₂ ≡ set t₁ (k + 1) a → t₃ ≡ set t₂ (k + 2) p → t₄ ≡ set t₃ (k + 3) y → t₄ ≡ set4 t k f a p y
unfolding set4
four_stores t t₁ t₂ t₃ t₄ k f a p y e₁ e₂ e₃ e₄ = e₄ ∙ rw (e₃, e₂, e₁)

-- ---- the map

abbrev powers : ℕ → ℕ
powers zero = 1
powers (suc k) = 2 * powers k

powers_le : (a b : ℕ) → a ≤ b → powers a ≤ powers b
powers_le zero zero h = omega arith
powers_le zero (suc b) h = omega (arith, powers_le zero b (omega arith))
powers_le (suc a) zero h = absurd (omega arith)
powers_le (suc a) (suc b) h = omega (arith, powers_le a b (omega arith))

map_below : (l : List ℕ) → map_word l < powers (length l)
unfolding map_word of_digits marks pick
map_below [] = omega arith
map_below (c ∷ l) = omega (arith, one (eqb c 0), map_below l)
  where
    one : (b : Bool) → pick b 0 1 ≤ 1
    one true = omega arith
    one false = omega arith

map_small : (l : List ℕ) → length l ≤ 32 → map_word l < 4294967296
map_small l h = omega (arith, map_below l, powers_le (length l) 32 h)

next_at : (l : List ℕ) (m b w : ℕ) → m < length l → w ≡ map_word (drop (suc m) l) → b ≡ pick (eqb (get_or l m 0) 0) 0 1 → b + 2 * w ≡ map_word (drop m l)
unfolding map_word of_digits marks
next_at l m b w h e f = rw (drop-cons l m 0 h, f, e)

module _ (l : List ℕ) (i b w : ℕ) (h : 0 < i) (k : i ≤ length l) (e : w ≡ map_word (drop i l)) (f : b ≡ pick (eqb (get_or l (i - 1) 0) 0) 0 1) where
  pub map_next : b + 2 * w ≡ map_word (drop (i - 1) l)
  map_next = let m : suc (i - 1) ≡ i = omega arith in next_at l (i - 1) b w (omega arith) (rw m e) f

  pub map_fits : length l ≤ 32 → Fits w32 (b + 2 * w)
  map_fits s = record { fits = omega (arith, map_next, map_small (drop (i - 1) l) (omega (arith, length-drop (i - 1) l))) }

  pub double_fits : length l ≤ 32 → Fits w32 (2 * w)
  double_fits s = record { fits = omega (arith, (map_fits s).fits) }

pub map_start_lem : (l : List ℕ) → 0 ≡ map_word (drop (length l) l)
unfolding map_word of_digits marks
map_start_lem l = rw (drop-length l)

pub map_end : (l : List ℕ) (i w : ℕ) → i ≤ 0 → w ≡ map_word (drop i l) → w ≡ map_word l
map_end l i w h e = let z : i ≡ 0 = omega arith in rw z at e

pub map_worked : (n : ℕ) (t t₁ t₂ : List ℕ) (f a low high : ℕ) → f ≡ line_terminations n → a ≡ start_of n 3
    → low ≡ map_word (take (f + 32 - f) (drop f t))
    → high ≡ map_word (take (f + 64 - (f + 32)) (drop (f + 32) t))
    → t₁ ≡ set t a low
    → t₂ ≡ set t₁ (a + 1) high
    → t₂ ≡ mapped n t
unfolding mapped
map_worked n t t₁ t₂ f a low high p q b c d e =
    let e₁ : f + 32 - f ≡ 32 = omega arith in
    let e₂ : f + 64 - (f + 32) ≡ 32 = omega arith in
    let l : low ≡ low_map n t = rw (e₁, p) at b in
    let h : high ≡ high_map n t = rw (e₂, p) at c in
    e ∙ rw (d, l, h, q)

-- ---- a sound table of so many lines

module _ (n : ℕ) (t : List ℕ) (m : ℕ) (i : m ≡ words n) where
  pub sound_size : (length t ≡ m → ⊥) → false ≡ sound_of n t
  unfolding sound_of
  sound_size h = rw (ne_eqb (length t) (words n) (λ (e : length t ≡ words n). h (e ∙ sym i)))

  pub sound_rest : (r : Bool) → length t ≡ m → r ≡ sound t → r ≡ sound_of n t
  unfolding sound_of
  sound_rest r h g = g ∙ rw (eq-eqb (length t) (words n) (h ∙ i))
