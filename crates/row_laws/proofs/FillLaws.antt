-- A table's numbers give the table, and the numbers that give a table are its own.
use Rattle.std.specs.Prelude.{Some, None}
use Prim.Native.Nat.{ℕ, ◌+◌, ◌<◌, ◌≤◌}
use mathlib.Core.Path.{◌≡◌, refl, sym, ap, ◌∙◌}
use mathlib.Core.Bool.{Bool, true, false}
use mathlib.Core.List.{List, [], ◌∷◌, ◌++◌}
use native.Mathlib.Omega.{arith}
use lib.ListN.{length, get_or, drop, set, length-set}
use lib.Seq.{get_or-set_same, get_or-set_other}
use lib.Dec.{eqb}
use borrow.Author.Tests.{eqb-true, eqb-false, eq-eqb, ne_eqb}
use Rattle.base.specs.Pick.{pick}
use Rattle.base.specs.Lists.{has}
use Rattle.base.proofs.TestLaws.{clash}
use Rattle.groups.specs.Groups.{number, take_at}
use Rattle.groups.specs.Rows.{encode, Below, Bytes}
use Rattle.protocol.specs.Types.{Number, number as got}
use Rattle.groups.proofs.RowLaws.{encode_cons, encode_one, head_at, takes}
use Rattle.megaco.specs.Table.{map_start, words}
use Rattle.row_laws.specs.Row.{item_numbers}
use Rattle.row_laws.specs.Filling.{items, item_at, words_of, at, unfit, on_number, set4, fill_three, fill_item, low_map, high_map}
use Rattle.row_laws.specs.declared.Item.{Item}
use Rattle.row_laws.specs.declared.Item.TheVariants.{Word, Side}

pub never : {A : Type 0} (q : ℕ) (u : List ℕ) → unfit ≡ at q u → A
never q u e = let z : ◌≡◌ {A = ℕ} 0 1 = cc in absurd (omega arith)

-- ---- what the codec needs of a table

-- a flag of 0 or 1, and after 0 nothing else
pub record SideFit (t : List ℕ) (k : ℕ) : Type 0 where
  pub none : get_or t k 0 ≡ 0 → (get_or t (k + 1) 0 ≡ 0) × (get_or t (k + 2) 0 ≡ 0) × (get_or t (k + 3) 0 ≡ 0)
  pub one : (get_or t k 0 ≡ 0 → ⊥) → get_or t k 0 ≡ 1

pub record Fit (n : ℕ) (t : List ℕ) : Type 0 where
  pub long : length t ≡ words n
  pub sides : (j k : ℕ) → j < items n → item_at n j ≡ Side k → SideFit t k
  pub low : get_or t (map_start n) 0 ≡ low_map n t
  pub high : get_or t (map_start n + 1) 0 ≡ high_map n t

-- ---- the words of an item

has_not : (w k : ℕ) (l : List ℕ) → has w (k ∷ l) ≡ false → (w ≡ k → ⊥) × (has w l ≡ false)
unfolding has pick
has_not w k l e = by (eqb k w) refl e
  where
    by : (b : Bool) → eqb k w ≡ b → pick b true (has w l) ≡ false → (w ≡ k → ⊥) × (has w l ≡ false)
    by true f e = absurd (clash e)
    by false f e = (λ (q : w ≡ k). eqb-false k w f (sym q), e)

not_has : (w k : ℕ) (l : List ℕ) → (w ≡ k → ⊥) → has w l ≡ false → has w (k ∷ l) ≡ false
unfolding has pick
not_has w k l n e = rw (ne_eqb k w (λ (q : k ≡ w). n (sym q))) e

has_none : (w : ℕ) → has w [] ≡ false
unfolding has
has_none w = refl

has_here : (w : ℕ) (l : List ℕ) → has w (w ∷ l) ≡ true
unfolding has pick
has_here w l = rw (eq-eqb w w refl)

has_later : (w k : ℕ) (l : List ℕ) → has w l ≡ true → has w (k ∷ l) ≡ true
unfolding has pick
has_later w k l e = by (eqb k w)
  where
    by : (b : Bool) → pick b true (has w l) ≡ true
    by true = refl
    by false = e

in_word : (k : ℕ) → has k (words_of (Word k)) ≡ true
unfolding words_of
in_word k = has_here k []

module _ (k : ℕ) where
  in_0 : has k (words_of (Side k)) ≡ true
  unfolding words_of
  in_0 = has_here k _

  in_1 : has (k + 1) (words_of (Side k)) ≡ true
  unfolding words_of
  in_1 = has_later (k + 1) k _ (has_here (k + 1) _)

  in_2 : has (k + 2) (words_of (Side k)) ≡ true
  unfolding words_of
  in_2 = has_later (k + 2) k _ (has_later (k + 2) (k + 1) _ (has_here (k + 2) _))

  in_3 : has (k + 3) (words_of (Side k)) ≡ true
  unfolding words_of
  in_3 = has_later (k + 3) k _ (has_later (k + 3) (k + 1) _ (has_later (k + 3) (k + 2) _ (has_here (k + 3) _)))

-- ---- four words

length_set4 : (z : List ℕ) (k f a p y : ℕ) → length (set4 z k f a p y) ≡ length z
unfolding set4
length_set4 z k f a p y = simp length-set

module _ (z : List ℕ) (k f a p y : ℕ) where
  set4_other : (w : ℕ) → has w (words_of (Side k)) ≡ false → get_or (set4 z k f a p y) w 0 ≡ get_or z w 0
  unfolding set4 words_of
  set4_other w e =
      let h₀ = has_not w k ((k + 1) ∷ (k + 2) ∷ (k + 3) ∷ []) e in
      let h₁ = has_not w (k + 1) ((k + 2) ∷ (k + 3) ∷ []) h₀.1 in
      let h₂ = has_not w (k + 2) ((k + 3) ∷ []) h₁.1 in
      let h₃ = has_not w (k + 3) [] h₂.1 in
      get_or-set_other (set (set (set z k f) (k + 1) a) (k + 2) p) (k + 3) w y 0 h₃.0
      ∙ get_or-set_other (set (set z k f) (k + 1) a) (k + 2) w p 0 h₂.0
      ∙ get_or-set_other (set z k f) (k + 1) w a 0 h₁.0
      ∙ get_or-set_other z k w f 0 h₀.0

  module _ (h : k + 3 < length z) where
    set4_3 : get_or (set4 z k f a p y) (k + 3) 0 ≡ y
    unfolding set4
    set4_3 = get_or-set_same (set (set (set z k f) (k + 1) a) (k + 2) p) (k + 3) y 0 (simp length-set h)

    set4_2 : get_or (set4 z k f a p y) (k + 2) 0 ≡ p
    unfolding set4
    set4_2 =
        get_or-set_other (set (set (set z k f) (k + 1) a) (k + 2) p) (k + 3) (k + 2) y 0 (λ (q : k + 2 ≡ k + 3). omega arith)
        ∙ get_or-set_same (set (set z k f) (k + 1) a) (k + 2) p 0 (simp length-set (omega arith))

    set4_1 : get_or (set4 z k f a p y) (k + 1) 0 ≡ a
    unfolding set4
    set4_1 =
        get_or-set_other (set (set (set z k f) (k + 1) a) (k + 2) p) (k + 3) (k + 1) y 0 (λ (q : k + 1 ≡ k + 3). omega arith)
        ∙ get_or-set_other (set (set z k f) (k + 1) a) (k + 2) (k + 1) p 0 (λ (q : k + 1 ≡ k + 2). omega arith)
        ∙ get_or-set_same (set z k f) (k + 1) a 0 (simp length-set (omega arith))

    set4_0 : get_or (set4 z k f a p y) k 0 ≡ f
    unfolding set4
    set4_0 =
        get_or-set_other (set (set (set z k f) (k + 1) a) (k + 2) p) (k + 3) k y 0 (λ (q : k ≡ k + 3). omega arith)
        ∙ get_or-set_other (set (set z k f) (k + 1) a) (k + 2) k p 0 (λ (q : k ≡ k + 2). omega arith)
        ∙ get_or-set_other (set z k f) (k + 1) k a 0 (λ (q : k ≡ k + 1). omega arith)
        ∙ get_or-set_same z k f 0 (omega arith)

-- ---- an item's words copied from one table to another

unfoldable pub copy_item : Item → List ℕ → List ℕ → List ℕ
copy_item (Word k) t z = set z k (get_or t k 0)
copy_item (Side k) t z = set4 z k (get_or t k 0) (get_or t (k + 1) 0) (get_or t (k + 2) 0) (get_or t (k + 3) 0)

pub length_copy : (s : Item) (t z : List ℕ) → length (copy_item s t z) ≡ length z
unfolding copy_item
length_copy (Word k) t z = length-set z k _
length_copy (Side k) t z = length_set4 z k _ _ _ _

copy_word : (t z : List ℕ) (k w : ℕ) → w < length z → ((w ≡ k → ⊥) → get_or z w 0 ≡ get_or t w 0) → get_or (set z k (get_or t k 0)) w 0 ≡ get_or t w 0
copy_word t z k w h f = by (eqb w k) refl
  where
    by : (b : Bool) → eqb w k ≡ b → get_or (set z k (get_or t k 0)) w 0 ≡ get_or t w 0
    by true e = let q : w ≡ k = eqb-true w k e in rw q (get_or-set_same z k (get_or t k 0) 0 (rw q at h))
    by false e = get_or-set_other z k w (get_or t k 0) 0 (eqb-false w k e) ∙ f (eqb-false w k e)

pub copy_agrees : (s : Item) (t z : List ℕ) (w : ℕ) → w < length z → (has w (words_of s) ≡ false → get_or z w 0 ≡ get_or t w 0) → get_or (copy_item s t z) w 0 ≡ get_or t w 0
unfolding copy_item set4 words_of
copy_agrees (Word k) t z w h f = copy_word t z k w h (λ n. f (not_has w k [] n (has_none w)))
copy_agrees (Side k) t z w h f =
    let z₁ : List ℕ = set z k (get_or t k 0) in
    let z₂ : List ℕ = set z₁ (k + 1) (get_or t (k + 1) 0) in
    let z₃ : List ℕ = set z₂ (k + 2) (get_or t (k + 2) 0) in
    copy_word t z₃ (k + 3) w (simp length-set h) (λ n₃.
    copy_word t z₂ (k + 2) w (simp length-set h) (λ n₂.
    copy_word t z₁ (k + 1) w (simp length-set h) (λ n₁.
    copy_word t z k w h (λ n₀. f (not_has w k _ n₀ (not_has w (k + 1) _ n₁ (not_has w (k + 2) _ n₂ (not_has w (k + 3) [] n₃ (has_none w)))))))))

-- ---- one item from bytes that hold it

-- what an item is filled with: a table's words, and the bytes after it
pub record Fills (s : List ℕ) (p : ℕ) (x : Item) (t z rest : List ℕ) : Type 0 where
  pub next : ℕ
  pub is : fill_item x s p z ≡ at next (copy_item x t z)
  pub more : drop next s ≡ rest
  pub within : next ≤ length s

module _ (s : List ℕ) (p k : ℕ) (z rest : List ℕ) where
  -- a 1 and three numbers
  record SideFilled (a b c : ℕ) : Type 0 where
    pub next : ℕ
    pub is : fill_item (Side k) s p z ≡ at next (set4 z k 1 a b c)
    pub more : drop next s ≡ rest
    pub within : next ≤ length s

  side_some : (a b c : ℕ) → a < 4294967296 → b < 4294967296 → c < 4294967296 → drop p s ≡ number 1 ++ (number a ++ (number b ++ (number c ++ rest))) → SideFilled a b c
  unfolding fill_item fill_three on_number pick
  side_some a b c x y w e =
      let h₀ = head_at s p 1 (number a ++ (number b ++ (number c ++ rest))) (omega arith) e in
      let h₁ = head_at s (p + length (number 1)) a (number b ++ (number c ++ rest)) x h₀.more in
      let h₂ = head_at s (p + length (number 1) + length (number a)) b (number c ++ rest) y h₁.more in
      let h₃ = head_at s (p + length (number 1) + length (number a) + length (number b)) c rest w h₂.more in
      record { next = p + length (number 1) + length (number a) + length (number b) + length (number c); is = rw (h₀.is, h₁.is, h₂.is, h₃.is); more = h₃.more; within = h₃.within }

four : (f a b c : ℕ) (r : List ℕ) → encode (f ∷ a ∷ b ∷ c ∷ []) ++ r ≡ number f ++ (number a ++ (number b ++ (number c ++ r)))
four f a b c r =
    encode_cons f (a ∷ b ∷ c ∷ []) r
    ∙ ap (λ (l : List ℕ). number f ++ l)
    (encode_cons a (b ∷ c ∷ []) r ∙ ap (λ (l : List ℕ). number a ++ l) (encode_cons b (c ∷ []) r ∙ ap (λ (l : List ℕ). number b ++ l) (encode_one c r)))

module _ (s : List ℕ) (p : ℕ) (t z rest : List ℕ) (b : Below t) where
  pub item_fills : (x : Item) → ((k : ℕ) → x ≡ Side k → SideFit t k) → drop p s ≡ encode (item_numbers t x) ++ rest → Fills s p x t z rest
  unfolding fill_item item_numbers copy_item on_number pick
  item_fills (Word k) f e =
      let h = head_at s p (get_or t k 0) rest (b.below k) (e ∙ encode_one (get_or t k 0) rest) in
      record { next = p + length (number (get_or t k 0)); is = rw h.is; more = h.more; within = h.within }
  item_fills (Side k) f e = by (eqb (get_or t k 0) 0) refl e
    where
      by : (x : Bool) → eqb (get_or t k 0) 0 ≡ x
          → drop p s ≡ encode (pick x (0 ∷ []) (get_or t k 0 ∷ get_or t (k + 1) 0 ∷ get_or t (k + 2) 0 ∷ get_or t (k + 3) 0 ∷ [])) ++ rest → Fills s p (Side k) t z rest
      by true q e =
          let h = head_at s p 0 rest (omega arith) (e ∙ encode_one 0 rest) in
          let g : get_or t k 0 ≡ 0 = eqb-true (get_or t k 0) 0 q in
          let n = (f k refl).none g in
          record { next = p + length (number 0); is = rw (h.is, g, n.0, n.1, n.2); more = h.more; within = h.within }
      by false q e =
          let g : get_or t k 0 ≡ 1 = (f k refl).one (eqb-false (get_or t k 0) 0 q) in
          let d : drop p s ≡ number 1 ++ (number (get_or t (k + 1) 0) ++ (number (get_or t (k + 2) 0) ++ (number (get_or t (k + 3) 0) ++ rest)))
          = e ∙ four (get_or t k 0) (get_or t (k + 1) 0) (get_or t (k + 2) 0) (get_or t (k + 3) 0) rest ∙ ap (λ (v : ℕ). number v ++ (number (get_or t (k + 1) 0) ++ (number (get_or t (k + 2) 0) ++ (number (get_or t (k + 3) 0) ++ rest)))) g in
          let o = side_some s p k z rest (get_or t (k + 1) 0) (get_or t (k + 2) 0) (get_or t (k + 3) 0) (b.below (k + 1)) (b.below (k + 2)) (b.below (k + 3)) d in
          record { next = o.next; is = o.is ∙ ap (λ (v : ℕ). at o.next (set4 z k v (get_or t (k + 1) 0) (get_or t (k + 2) 0) (get_or t (k + 3) 0))) (sym g); more = o.more; within = o.within }

-- ---- what an item was filled with are its numbers

pub record Took (x : Item) (s : List ℕ) (p : ℕ) (z : List ℕ) (q : ℕ) (u : List ℕ) : Type 0 where
  pub numbers : encode (item_numbers u x) ++ drop q s ≡ drop p s
  pub long : length u ≡ length z
  pub kept : (w : ℕ) → has w (words_of x) ≡ false → get_or u w 0 ≡ get_or z w 0

module _ (s : List ℕ) (b : Bytes s) (p : ℕ) (z : List ℕ) (q : ℕ) (u : List ℕ) where
  took_word : (k v r : ℕ) → k < length z → take_at s p ≡ got v r → at r (set z k v) ≡ at q u → Took (Word k) s p z q u
  unfolding item_numbers words_of
  took_word k v r l g e =
      let x : u ≡ set z k v = cc in
      let y : q ≡ r = cc in
      let a = takes s p v r b g in
      record {
        numbers = rw (x, y, get_or-set_same z k v 0 l) (encode_one v (drop r s) ∙ sym a.is);
        long = rw x (length-set z k v);
        kept = λ w f. rw x (get_or-set_other z k w v 0 (has_not w k [] f).0);
      }

  took_none : (k v r : ℕ) → k + 3 < length z → take_at s p ≡ got v r → v ≡ 0 → at r (set4 z k 0 0 0 0) ≡ at q u → Took (Side k) s p z q u
  unfolding item_numbers pick
  took_none k v r l g o e =
      let x : u ≡ set4 z k 0 0 0 0 = cc in
      let y : q ≡ r = cc in
      let a = takes s p v r b g in
      record {
        numbers = rw (x, y, set4_0 z k 0 0 0 0 l) (encode_one 0 (drop r s) ∙ ap (λ (w : ℕ). number w ++ drop r s) (sym o) ∙ sym a.is);
        long = rw x (length_set4 z k 0 0 0 0);
        kept = λ w f. rw x (set4_other z k 0 0 0 0 w f);
      }

  took_side : (k v a c d r r₁ r₂ r₃ : ℕ) → k + 3 < length z → take_at s p ≡ got v r → v ≡ 1 → take_at s r ≡ got a r₁ → take_at s r₁ ≡ got c r₂ → take_at s r₂ ≡ got d r₃
      → at r₃ (set4 z k 1 a c d) ≡ at q u → Took (Side k) s p z q u
  unfolding item_numbers pick
  took_side k v a c d r r₁ r₂ r₃ l g o g₁ g₂ g₃ e =
      let x : u ≡ set4 z k 1 a c d = cc in
      let y : q ≡ r₃ = cc in
      let t₀ = takes s p v r b g in
      let t₁ = takes s r a r₁ b g₁ in
      let t₂ = takes s r₁ c r₂ b g₂ in
      let t₃ = takes s r₂ d r₃ b g₃ in
      let m : drop p s ≡ number 1 ++ drop r s = t₀.is ∙ ap (λ (w : ℕ). number w ++ drop r s) o in
      record {
        numbers = rw (x, y, set4_0 z k 1 a c d l, set4_1 z k 1 a c d l, set4_2 z k 1 a c d l, set4_3 z k 1 a c d l) (four 1 a c d (drop r₃ s) ∙ rw (← t₃.is, ← t₂.is, ← t₁.is) (sym m));
        long = rw x (length_set4 z k 1 a c d);
        kept = λ w f. rw x (set4_other z k 1 a c d w f);
      }

  pub took : (x : Item) → ((w : ℕ) → has w (words_of x) ≡ true → w < length z) → fill_item x s p z ≡ at q u → Took x s p z q u
  unfolding fill_item fill_three on_number pick
  took (Word k) f e = by (take_at s p) refl e
    where
      by : (g : Number) → take_at s p ≡ g → on_number g (λ v r. at r (set z k v)) ≡ at q u → Took (Word k) s p z q u
      by (Some (v, r)) g e = took_word k v r (f k (in_word k)) g e
      by None g e = never q u e
  took (Side k) f e = by (take_at s p) refl e
    where
      l : k + 3 < length z
      l = f (k + 3) (in_3 k)

      last : (v a c r r₁ r₂ : ℕ) → take_at s p ≡ got v r → v ≡ 1 → take_at s r ≡ got a r₁ → take_at s r₁ ≡ got c r₂ → (g : Number) → take_at s r₂ ≡ g
          → on_number g (λ d r₃. at r₃ (set4 z k 1 a c d)) ≡ at q u → Took (Side k) s p z q u
      last v a c r r₁ r₂ g₀ o g₁ g₂ (Some (d, r₃)) g e = took_side k v a c d r r₁ r₂ r₃ l g₀ o g₁ g₂ g e
      last v a c r r₁ r₂ g₀ o g₁ g₂ None g e = never q u e

      third : (v a r r₁ : ℕ) → take_at s p ≡ got v r → v ≡ 1 → take_at s r ≡ got a r₁ → (g : Number) → take_at s r₁ ≡ g
          → on_number g (λ c r₂. on_number (take_at s r₂) (λ d r₃. at r₃ (set4 z k 1 a c d))) ≡ at q u → Took (Side k) s p z q u
      third v a r r₁ g₀ o g₁ (Some (c, r₂)) g e = last v a c r r₁ r₂ g₀ o g₁ g (take_at s r₂) refl e
      third v a r r₁ g₀ o g₁ None g e = never q u e

      second : (v r : ℕ) → take_at s p ≡ got v r → v ≡ 1 → (g : Number) → take_at s r ≡ g
          → on_number g (λ a r₁. on_number (take_at s r₁) (λ c r₂. on_number (take_at s r₂) (λ d r₃. at r₃ (set4 z k 1 a c d)))) ≡ at q u → Took (Side k) s p z q u
      second v r g₀ o (Some (a, r₁)) g e = third v a r r₁ g₀ o g (take_at s r₁) refl e
      second v r g₀ o None g e = never q u e

      one : (v r : ℕ) → take_at s p ≡ got v r → (x : Bool) → eqb v 1 ≡ x → pick x (fill_three k s r z) unfit ≡ at q u → Took (Side k) s p z q u
      one v r g true o e = second v r g (eqb-true v 1 o) (take_at s r) refl e
      one v r g false o e = never q u e

      flag : (v r : ℕ) → take_at s p ≡ got v r → (x : Bool) → eqb v 0 ≡ x → pick x (at r (set4 z k 0 0 0 0)) (pick (eqb v 1) (fill_three k s r z) unfit) ≡ at q u → Took (Side k) s p z q u
      flag v r g true o e = took_none k v r l g (eqb-true v 0 o) e
      flag v r g false o e = one v r g (eqb v 1) refl e

      by : (g : Number) → take_at s p ≡ g → on_number g (λ f r. pick (eqb f 0) (at r (set4 z k 0 0 0 0)) (pick (eqb f 1) (fill_three k s r z) unfit)) ≡ at q u → Took (Side k) s p z q u
      by (Some (v, r)) g e = flag v r g (eqb v 0) refl e
      by None g e = never q u e

-- the numbers of an item depend on its words only
pub item_same : (s : Item) (t u : List ℕ) → ((w : ℕ) → has w (words_of s) ≡ true → get_or t w 0 ≡ get_or u w 0) → item_numbers t s ≡ item_numbers u s
unfolding item_numbers
item_same (Word k) t u f = rw (f k (in_word k))
item_same (Side k) t u f = rw (f k (in_0 k), f (k + 1) (in_1 k), f (k + 2) (in_2 k), f (k + 3) (in_3 k))
