-- Building a table from numbers, in the form in which `search` uses the laws.
use Rattle.std.specs.Prelude.{Some, None}
use Prim.Native.Nat.{ℕ, suc, ◌+◌, ◌-◌, ◌<◌, ◌≤◌}
use mathlib.Core.Path.{◌≡◌, refl, sym, ap, ◌∙◌}
use mathlib.Core.Bool.{Bool, true, false}
use mathlib.Core.List.{List}
use native.Mathlib.Omega.{arith}
use lib.ListN.{length, set}
use lib.Dec.{eqb}
use borrow.Author.Tests.{eqb-true, eq-eqb, ne_eqb}
use Rattle.base.specs.Pick.{pick}
use Rattle.base.proofs.TestLaws.{clash}
use Rattle.groups.specs.Groups.{take_at}
use Rattle.protocol.specs.Types.{Number, number}
use Rattle.row_laws.specs.Filling.{items, item_at, Filled, at, unfit, on_filled, on_number, set4, fill_three, fill_item, fill_from, mapped, table, no_table, finished, table_after, table_over}
use Rattle.row_laws.specs.Answers.{sound_of}
use Rattle.row.specs.Steps.{filled_by, whole_by, table_by, Built}
use Rattle.row_laws.specs.declared.Item.{Item}
use Rattle.row_laws.specs.declared.Item.TheVariants.{Word, Side}
use Rattle.protocol.specs.Types.{Parsed}

-- ---- one item

module _ (s : List ℕ) (p k : ℕ) (t t' : List ℕ) (g : Number) (e : g ≡ take_at s p) where
  pub word_past : g ≡ None → filled_by None t' ≡ fill_item (Word k) s p t
  unfolding filled_by fill_item on_number
  word_past o = rw (← e, o)

  pub side_past : g ≡ None → filled_by None t' ≡ fill_item (Side k) s p t
  unfolding filled_by fill_item on_number
  side_past o = rw (← e, o)

  module _ (v q : ℕ) (o : g ≡ number v q) where
    pub word_filled : t' ≡ set t k v → filled_by (Some q) t' ≡ fill_item (Word k) s p t
    unfolding filled_by fill_item on_number
    word_filled f = rw (← e, o, f)

    pub side_empty : v ≡ 0 → t' ≡ set4 t k 0 0 0 0 → filled_by (Some q) t' ≡ fill_item (Side k) s p t
    unfolding filled_by fill_item on_number pick
    side_empty z f = rw (← e, o, eq-eqb v 0 z, f)

    module _ (z : v ≡ 0 → ⊥) where
      pub side_filled : (r : Filled) → v ≡ 1 → r ≡ fill_three k s q t → r ≡ fill_item (Side k) s p t
      unfolding fill_item on_number pick
      side_filled r y f = f ∙ rw (← e, o, ne_eqb v 0 z, eq-eqb v 1 y)

      pub side_wrong : (v ≡ 1 → ⊥) → filled_by None t' ≡ fill_item (Side k) s p t
      unfolding filled_by fill_item on_number pick
      side_wrong y = rw (← e, o, ne_eqb v 0 z, ne_eqb v 1 y)

module _ (s : List ℕ) (p k : ℕ) (t t' : List ℕ) (g : Number) (e : g ≡ take_at s p) where
  pub no_address : g ≡ None → filled_by None t' ≡ fill_three k s p t
  unfolding filled_by fill_three on_number
  no_address o = rw (← e, o)

  module _ (a q : ℕ) (o : g ≡ number a q) (g₁ : Number) (e₁ : g₁ ≡ take_at s q) where
    pub no_port_lem : g₁ ≡ None → filled_by None t' ≡ fill_three k s p t
    unfolding filled_by fill_three on_number
    no_port_lem o₁ = rw (← e, o, ← e₁, o₁)

    module _ (b q₁ : ℕ) (o₁ : g₁ ≡ number b q₁) (g₂ : Number) (e₂ : g₂ ≡ take_at s q₁) where
      pub no_kind : g₂ ≡ None → filled_by None t' ≡ fill_three k s p t
      unfolding filled_by fill_three on_number
      no_kind o₂ = rw (← e, o, ← e₁, o₁, ← e₂, o₂)

      pub three_filled : (c q₂ : ℕ) → g₂ ≡ number c q₂ → t' ≡ set4 t k 1 a b c → filled_by (Some q₂) t' ≡ fill_three k s p t
      unfolding filled_by fill_three on_number
      three_filled c q₂ o₂ f = rw (← e, o, ← e₁, o₁, ← e₂, o₂, f)

pub item_filled : (n j : ℕ) (s v : Item) (xs : List ℕ) (i : ℕ) (t : List ℕ) (f : Filled) → s ≡ item_at n j → s ≡ v → f ≡ fill_item v xs i t → f ≡ fill_item (item_at n j) xs i t
item_filled n j s v xs i t f e g h = h ∙ rw (← e, g)

-- ---- all items

pub fill_start : (n : ℕ) (s : List ℕ) (p : ℕ) (t : List ℕ) → fill_from n s (items n) 0 p t ≡ fill_from n s (items n - 0) 0 p t
fill_start n s p t = let z : items n - 0 ≡ items n = omega arith in rw z

module _ (n : ℕ) (s : List ℕ) (m j p : ℕ) (t : List ℕ) (q : Filled) (g : m ≡ items n) (inv : q ≡ fill_from n s (items n - j) j p t) where
  module _ (h : j < m) (r : Parsed) (t' : List ℕ) (e : filled_by r t' ≡ fill_item (item_at n j) s p t) where
    pub fill_on : (p' : ℕ) → r ≡ Some p' → q ≡ fill_from n s (items n - (j + 1)) (j + 1) p' t'
    unfolding fill_from on_filled filled_by
    fill_on p' o = let k : items n - j ≡ suc (items n - (j + 1)) = omega arith in inv ∙ rw (k, ← e, o)

    pub fill_unfit : (l : ℕ) → r ≡ None → whole_by false l t' ≡ q
    unfolding fill_from on_filled filled_by whole_by
    fill_unfit l o = let k : items n - j ≡ suc (items n - (j + 1)) = omega arith in sym (inv ∙ rw (k, ← e, o))

  pub fill_end : m ≤ j → whole_by (eqb p (length s)) (length s) t ≡ q
  unfolding fill_from whole_by pick
  fill_end h = let k : items n - j ≡ 0 = omega arith in sym (inv ∙ rw k (by (eqb p (length s)) refl))
    where
      by : (b : Bool) → eqb p (length s) ≡ b → pick b (at p t) unfit ≡ whole_by b (length s) t
      by true e = ap (λ (x : ℕ). at x t) (eqb-true p (length s) e)
      by false e = refl

-- ---- a table

module _ (n : ℕ) (s z u : List ℕ) where
  module _ (g : Number) (d : g ≡ take_at s 0) where
    pub build_none : g ≡ None → table_by false u ≡ table_over n s z
    unfolding table_by table_over table_after
    build_none o = rw (← d, o)

    module _ (v q : ℕ) (o : g ≡ number v q) where
      pub build_other : (v ≡ n → ⊥) → table_by false u ≡ table_over n s z
      unfolding table_by table_over table_after pick
      build_other e = rw (← d, o, ne_eqb v n e)

      module _ (e : v ≡ n) (x : Bool) (w : List ℕ) (f : whole_by x (length s) w ≡ fill_from n s (items n) 0 q z) where
        pub build_unfit : x ≡ false → table_by false u ≡ table_over n s z
        unfolding table_by table_over table_after finished whole_by pick
        build_unfit y = rw (← d, o, eq-eqb v n e, ← f, y)

        pub build_whole : x ≡ true → u ≡ mapped n w → table_by true u ≡ table_over n s z
        unfolding table_by table_over table_after finished whole_by pick
        build_whole y m = rw (← d, o, eq-eqb v n e, ← f, y, m)

  module _ (x : Bool) (e : table_by x u ≡ table_over n s z) where
    pub built_judged : (r : Bool) → x ≡ true → r ≡ sound_of n u → Built n s z u r
    unfolding table_by
    built_judged r o g =
        let p : table_over n s z ≡ table u = sym e ∙ rw o in
        record {
          yes = λ h. (p, sym g ∙ h);
          no = λ h v f s. let y : u ≡ v = same u v (sym p ∙ f) in clash (sym (rw y s) ∙ (sym g ∙ h));
        }
      where
        same : (u v : List ℕ) → table u ≡ table v → u ≡ v
        same u v e = cc

    pub built_none : x ≡ false → Built n s z u false
    unfolding table_by
    built_none o =
        record {
          yes = λ h. absurd (clash (sym h));
          no = λ h v f s. differ v (rw o at e ∙ f);
        }
      where
        differ : (v : List ℕ) → no_table ≡ table v → ⊥
        differ v e = let c : ◌≡◌ {A = ℕ} 0 1 = cc in omega arith
