-- "One sound table has one such row and reading gives it back."
use Rattle.std.specs.Prelude.{Some, None}
use Prim.Native.Nat.{ℕ, zero, suc, ◌+◌, ◌<◌, ◌≤◌}
use mathlib.Core.Path.{◌≡◌, refl, sym, ap, ◌∙◌}
use mathlib.Core.Bool.{Bool, true, false}
use mathlib.Core.List.{List}
use native.Mathlib.Omega.{arith}
use lib.ListN.{length, get_or, take, drop, set, replicate, length-set, length-take, length-drop, length-replicate}
use lib.Seq.{drop-length, get_or-set_same, get_or-set_other, get_or-take, get_or-drop, ext_get_or}
use lib.Dec.{eqb}
use borrow.Author.Tests.{eqb-true, eqb-false, eq-eqb}
use Rattle.base.specs.Pick.{pick}
use Rattle.base.specs.Lists.{has}
use Rattle.base.proofs.TestLaws.{clash, not_holds}
use Rattle.groups.specs.Groups.{number, take_at}
use Rattle.groups.specs.Rows.{encode, Below, Bytes}
use Rattle.protocol.specs.Types.{Number, number as got}
use Rattle.groups.proofs.RowLaws.{encode_append, Head, head_at, takes}
use Rattle.megaco.specs.Table.{line_terminations, terminations, map_start, words}
use Rattle.row_laws.specs.Items.{Lines}
use Rattle.row_laws.specs.Row.{item_numbers, row_of}
use Rattle.row_laws.specs.Filling.{items, item_at, words_of, numbers_from, Filled, at, unfit, on_filled, fill_item, fill_from, map_word, low_map, high_map, mapped, table, no_table, finished, table_after, table_over}
use Rattle.row_laws.specs.declared.Item.{Item}
use Rattle.row_laws.specs.declared.Item.TheVariants.{Side}
use Rattle.row_laws.proofs.ItemLaws.{owner, owned, inside, no_item, covered}
use Rattle.row_laws.proofs.OrderLaws.{row_is}
use Rattle.row_laws.proofs.FillLaws.{never, SideFit, Fit, copy_item, length_copy, copy_agrees, Fills, item_fills, Took, took, item_same}

-- the numbers depend on the words of the items only
numbers_same : (n : ℕ) (t u : List ℕ) (k j : ℕ) → ((i : ℕ) → i < j + k → item_numbers t (item_at n i) ≡ item_numbers u (item_at n i)) → numbers_from n t k j ≡ numbers_from n u k j
unfolding numbers_from
numbers_same n t u zero j f = refl
numbers_same n t u (suc k) j f = rw (f j (omega arith), numbers_same n t u k (j + 1) (λ i h. f i (omega arith)))

module _ (n : ℕ) (l : Lines n) where
  -- a word that has an item stands in it
  at_owner : (w : ℕ) → w < words n → owner n w < items n → has w (words_of (item_at n (owner n w))) ≡ true
  at_owner w h o = (covered n l w h (λ (e : w ≡ map_start n). omega (arith, no_item n l w (omega arith) (omega arith))) (λ (e : w ≡ map_start n + 1). omega (arith, no_item n l w (omega arith) (omega arith)))).1

  -- ---- from a table's row to the table

  record Whole (s t : List ℕ) (k j p : ℕ) (z : List ℕ) : Type 0 where
    pub left : List ℕ
    pub is : fill_from n s k j p z ≡ at (length s) left
    pub long : length left ≡ words n
    pub same : (w : ℕ) → w < words n → owner n w < items n → get_or left w 0 ≡ get_or t w 0

  whole : (s t : List ℕ) (k j p : ℕ) (z : List ℕ) → Below t → ((j k : ℕ) → j < items n → item_at n j ≡ Side k → SideFit t k) → j + k ≡ items n → length z ≡ words n
      → drop p s ≡ encode (numbers_from n t k j) → ((w : ℕ) → w < words n → owner n w < j → get_or z w 0 ≡ get_or t w 0) → p ≤ length s → Whole s t k j p z
  unfolding fill_from numbers_from on_filled pick encode
  whole s t zero j p z b f e m d a h =
      let q : p ≡ length s = omega (arith, length-drop p s, ap length d) in
      record { left = z; is = rw (eq-eqb p (length s) q) (ap (λ (x : ℕ). at x z) q); long = m; same = λ w b c. a w b (omega arith) }
  whole s t (suc k) j p z b f e m d a h =
      let x : Item = item_at n j in
      let g : Fills s p (item_at n j) t z (encode (numbers_from n t k (j + 1))) =
      item_fills s p t z (encode (numbers_from n t k (j + 1))) b (item_at n j) (λ b. f j b (omega arith)) (d ∙ encode_append (item_numbers t (item_at n j)) (numbers_from n t k (j + 1))) in
      let v = whole s t k (j + 1) g.next (copy_item (item_at n j) t z) b f (omega arith) (length_copy (item_at n j) t z ∙ m) g.more (λ w o c. agrees w o c) g.within in
      record { left = v.left; is = rw g.is v.is; long = v.long; same = v.same }
    where
      agrees : (w : ℕ) → w < words n → owner n w < j + 1 → get_or (copy_item (item_at n j) t z) w 0 ≡ get_or t w 0
      agrees w o p = copy_agrees (item_at n j) t z w (omega arith) (λ (x : has w (words_of (item_at n j)) ≡ false). a w o (earlier x))
        where
          earlier : has w (words_of (item_at n j)) ≡ false → owner n w < j
          earlier x = by (eqb (owner n w) j) refl
            where
              by : (b : Bool) → eqb (owner n w) j ≡ b → owner n w < j
              by true q = let c : owner n w ≡ j = eqb-true (owner n w) j q in absurd (clash (sym (rw c at (at_owner w o (omega arith))) ∙ x))
              by false q = let c : owner n w ≡ j → ⊥ = eqb-false (owner n w) j q in omega arith

  -- ---- the map, worked out

  module _ (t u : List ℕ) (a : length t ≡ words n) (b : length u ≡ words n) where
    -- equal context words have equal maps
    part_same : (p : ℕ) → p + 32 ≤ terminations n → ((w : ℕ) → w < terminations n → get_or u w 0 ≡ get_or t w 0) → map_word (take 32 (drop p u)) ≡ map_word (take 32 (drop p t))
    part_same p h f =
        ap map_word
        (ext_get_or 0 (take 32 (drop p u)) (take 32 (drop p t)) (simp (length-take, length-drop) (omega arith)) (λ i k.
        get_or-take 32 (drop p u) i 0 (small i k) ∙ get_or-drop p u i 0 ∙ f (p + i) (omega (arith, small i k)) ∙ sym (get_or-take 32 (drop p t) i 0 (small i k) ∙ get_or-drop p t i 0)))
      where
        small : (i : ℕ) → i < length (take 32 (drop p u)) → i < 32
        small i k = omega (arith, length-take 32 (drop p u))

  mapped_other : (u : List ℕ) (w : ℕ) → (w ≡ map_start n → ⊥) → (w ≡ map_start n + 1 → ⊥) → get_or (mapped n u) w 0 ≡ get_or u w 0
  unfolding mapped
  mapped_other u w p q = get_or-set_other (set u (map_start n) (low_map n u)) (map_start n + 1) w (high_map n u) 0 q ∙ get_or-set_other u (map_start n) w (low_map n u) 0 p

  length_mapped : (u : List ℕ) → length (mapped n u) ≡ length u
  unfolding mapped
  length_mapped u = simp length-set

  mapped_low : (u : List ℕ) → length u ≡ words n → get_or (mapped n u) (map_start n) 0 ≡ low_map n u
  unfolding mapped
  mapped_low u h =
      get_or-set_other (set u (map_start n) (low_map n u)) (map_start n + 1) (map_start n) (high_map n u) 0 (λ (e : map_start n ≡ map_start n + 1). omega arith)
      ∙ get_or-set_same u (map_start n) (low_map n u) 0 (omega arith)

  mapped_high : (u : List ℕ) → length u ≡ words n → get_or (mapped n u) (map_start n + 1) 0 ≡ high_map n u
  unfolding mapped
  mapped_high u h = get_or-set_same (set u (map_start n) (low_map n u)) (map_start n + 1) (high_map n u) 0 (simp length-set (omega arith))

  -- a table filled with a table's words, and with the map worked out, is that table
  mapped_is : (t u : List ℕ) → Fit n t → length u ≡ words n → ((w : ℕ) → w < words n → owner n w < items n → get_or u w 0 ≡ get_or t w 0) → mapped n u ≡ t
  mapped_is t u f m s = ext_get_or 0 (mapped n u) t (length_mapped u ∙ m ∙ sym f.long) (λ i h. by i (rw (length_mapped u, m) at h) (eqb i (map_start n)) refl (eqb i (map_start n + 1)) refl)
    where
      others : (w : ℕ) → w < words n → (w ≡ map_start n → ⊥) → (w ≡ map_start n + 1 → ⊥) → get_or u w 0 ≡ get_or t w 0
      others w h p q = s w h (covered n l w h p q).0

      first : (w : ℕ) → w < terminations n → get_or u w 0 ≡ get_or t w 0
      first w h = others w (omega arith) (λ (e : w ≡ map_start n). omega arith) (λ (e : w ≡ map_start n + 1). omega arith)

      by : (i : ℕ) → i < words n → (x : Bool) → eqb i (map_start n) ≡ x → (y : Bool) → eqb i (map_start n + 1) ≡ y → get_or (mapped n u) i 0 ≡ get_or t i 0
      by i h true p y q = let e : i ≡ map_start n = eqb-true i (map_start n) p in rw e (mapped_low u m ∙ part_same t u f.long m (line_terminations n) (omega arith) first ∙ sym f.low)
      by i h false p true q = let e : i ≡ map_start n + 1 = eqb-true i (map_start n + 1) q in rw e (mapped_high u m ∙ part_same t u f.long m (line_terminations n + 32) (omega arith) first ∙ sym f.high)
      by i h false p false q = let a = eqb-false i (map_start n) p in let b = eqb-false i (map_start n + 1) q in mapped_other u i a b ∙ others i h a b

  -- "reading gives it back", laid over any words of that count
  pub row_gives : (t z : List ℕ) → Fit n t → Below t → length z ≡ words n → table_over n (row_of n t) z ≡ table t
  unfolding table_over table_after finished pick
  row_gives t z f b m =
      let s : List ℕ = row_of n t in
      let h : Head (row_of n t) 0 n (0 + length (number n)) (encode (numbers_from n t (items n) 0)) = head_at (row_of n t) 0 n (encode (numbers_from n t (items n) 0)) (omega arith) (row_is n l t) in
      let v : Whole (row_of n t) t (items n) 0 (0 + length (number n)) z =
      whole (row_of n t) t (items n) 0 (0 + length (number n)) z b f.sides (omega arith) m h.more (λ w b c. absurd (omega arith)) h.within in
      rw (h.is, eq-eqb n n refl, v.is) (ap table (mapped_is t v.left f v.long v.same))

  -- ---- from bytes to a table and its row

  record Given (s : List ℕ) (k j p : ℕ) (z u : List ℕ) : Type 0 where
    pub numbers : encode (numbers_from n u k j) ≡ drop p s
    pub long : length u ≡ words n
    pub kept : (w : ℕ) → owner n w < j → get_or u w 0 ≡ get_or z w 0

  -- an item after this one has none of its words
  apart : (j w : ℕ) → j < items n → owner n w < j → has w (words_of (item_at n j)) ≡ false
  apart j w h o = not_holds (has w (words_of (item_at n j))) (λ e. omega (arith, owned n l j w h e))

  given : (s : List ℕ) → Bytes s → (k j p : ℕ) (z : List ℕ) (q : ℕ) (u : List ℕ) → j + k ≡ items n → length z ≡ words n → fill_from n s k j p z ≡ at q u → Given s k j p z u
  unfolding fill_from numbers_from on_filled pick encode
  given s b zero j p z q u e m f = by (eqb p (length s)) refl f
    where
      by : (x : Bool) → eqb p (length s) ≡ x → pick x (at p z) unfit ≡ at q u → Given s zero j p z u
      by true g f =
          let x : u ≡ z = cc in
          record { numbers = rw (eqb-true p (length s) g) (sym (drop-length s)); long = rw x m; kept = λ w o. rw x refl }
      by false g f = never q u f
  given s b (suc k) j p z q u e m f =
      by (fill_item (item_at n j) s p z) refl f (λ r v (g : length v ≡ words n) h. given s b k (j + 1) r v q u (omega arith) g h)
    where
      by : (x : Filled) → fill_item (item_at n j) s p z ≡ x → on_filled x (λ r v. fill_from n s k (j + 1) r v) ≡ at q u
          → ((r : ℕ) (v : List ℕ) → length v ≡ words n → fill_from n s k (j + 1) r v ≡ at q u → Given s k (j + 1) r v u) → Given s (suc k) j p z u
      by unfit g f o = never q u f
      by (at r v) g f o =
          let h : j < items n = omega arith in
          let t : Took (item_at n j) s p z r v = took s b p z r v (item_at n j) (λ w d. rw m (inside n l j w h d)) g in
          let i : Given s k (j + 1) r v u = o r v (t.long ∙ m) f in
          let c : item_numbers u (item_at n j) ≡ item_numbers v (item_at n j) = item_same (item_at n j) u v (λ w d. i.kept w (omega (arith, owned n l j w h d))) in
          record {
            numbers = encode_append (item_numbers u (item_at n j)) (numbers_from n u k (j + 1)) ∙ rw (c, i.numbers) t.numbers;
            long = i.long;
            kept = λ w d. i.kept w (omega arith) ∙ t.kept w (apart j w h d);
          }

  -- what bytes give
  pub record Gives (s u : List ℕ) : Type 0 where
    pub row : row_of n u ≡ s
    pub long : length u ≡ words n

  outside_map : (j w : ℕ) → j < items n → has w (words_of (item_at n j)) ≡ true → (w ≡ map_start n → ⊥) × (w ≡ map_start n + 1 → ⊥)
  outside_map j w h d = (
    λ (e : w ≡ map_start n). omega (arith, owned n l j w h d, no_item n l w (omega arith) (omega arith)),
    λ (e : w ≡ map_start n + 1). omega (arith, owned n l j w h d, no_item n l w (omega arith) (omega arith)),
  )

  finish : (s z u : List ℕ) (p : ℕ) (r : Filled) → Bytes s → length z ≡ words n → fill_from n s (items n) 0 p z ≡ r → finished n r ≡ table u → take_at s 0 ≡ got n p → Gives s u
  unfolding finished
  finish s z u p unfit b m g e h = let c : ◌≡◌ {A = ℕ} 0 1 = cc in absurd (omega arith)
  finish s z u p (at q v) b m g e h =
      let d : Given s (items n) 0 p z v = given s b (items n) 0 p z q v (omega arith) m g in
      let x : u ≡ mapped n v = cc in
      let y : numbers_from n (mapped n v) (items n) 0 ≡ numbers_from n v (items n) 0 =
      numbers_same n (mapped n v) v (items n) 0 (λ j b. same j (omega arith)) in
      record {
        row = rw x (row_is n l (mapped n v) ∙ rw (y, d.numbers) (sym (takes s 0 n p b h).is));
        long = rw x (length_mapped v ∙ d.long);
      }
    where
      same : (j : ℕ) → j < items n → item_numbers (mapped n v) (item_at n j) ≡ item_numbers v (item_at n j)
      same j b = item_same (item_at n j) (mapped n v) v (λ w c. let o = outside_map j w b c in mapped_other v w o.0 o.1)

  -- the bytes that give a table are its row
  pub gives : (s z u : List ℕ) → Bytes s → length z ≡ words n → table_over n s z ≡ table u → Gives s u
  unfolding table_over table_after pick
  gives s z u b m e = by (take_at s 0) refl e
    where
      first : (v p : ℕ) → take_at s 0 ≡ got v p → (x : Bool) → eqb v n ≡ x → pick x (finished n (fill_from n s (items n) 0 p z)) no_table ≡ table u → Gives s u
      first v p g true o e = let q : v ≡ n = eqb-true v n o in finish s z u p (fill_from n s (items n) 0 p z) b m refl e (rw q at g)
      first v p g false o e = let c : ◌≡◌ {A = ℕ} 0 1 = cc in absurd (omega arith)

      by : (g : Number) → take_at s 0 ≡ g → table_after n s z g ≡ table u → Gives s u
      by (Some (v, p)) g e = first v p g (eqb v n) refl e
      by None g e = let c : ◌≡◌ {A = ℕ} 0 1 = cc in absurd (omega arith)

  -- one row for one table
  pub row_one : (t u : List ℕ) → Fit n t → Fit n u → Below t → Below u → row_of n t ≡ row_of n u → t ≡ u
  row_one t u f g b c e =
      let z : List ℕ = replicate (words n) 0 in
      let y : table t ≡ table u = sym (row_gives t z f b (length-replicate {A = ℕ} (words n) 0)) ∙ ap (λ (s : List ℕ). table_over n s z) e ∙ row_gives u z g c (length-replicate {A = ℕ} (words n) 0) in
      cc
