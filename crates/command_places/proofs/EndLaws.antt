-- Where parts joined by commas end, from the place that was reached.
use Rattle.std.specs.Prelude.{Some, None}
use Prim.Native.Nat.{ℕ, suc, ◌+◌, ◌-◌, ◌<◌, ◌≤◌}
use mathlib.Core.Path.{◌≡◌, refl, sym, ◌∙◌}
use mathlib.Core.List.{List}
use native.Mathlib.Omega.{arith}
use lib.ListN.{length}
use Rattle.megaco.specs.Reading.{unlimited}
use Rattle.protocol.specs.Types.{Parsed}
use Rattle.read_command.specs.Production.{list_end, list_after}
use Rattle.read_command.specs.Places.{item_at, items_at}
use Rattle.command_places.specs.Found.{next_at}
use Rattle.command_places.proofs.NextLaws.{part_last, part_more}

-- ---- behind a part that ends at e

module _ (end : ℕ → ℕ) (s : List ℕ) (k e : ℕ) (x : Parsed) (g : x ≡ next_at s e) where
  pub after_none : x ≡ None → e ≡ list_after end s k e
  unfolding list_after
  after_none w = sym (part_last s e e refl x g (list_end end s k) e w)

  pub after_more : (u r : ℕ) → x ≡ Some u → r ≡ list_end end s k u → r ≡ list_after end s k e
  unfolding list_after
  after_more u r w l = l ∙ sym (part_more s e e refl x g (list_end end s k) e u w)

-- ---- at most k parts: q is the end of all

module _ (end : ℕ → ℕ) (s : List ℕ) (k i q : ℕ) (inv : q ≡ list_end end s k i) where
  pub end_none : k ≤ 0 → i ≡ q
  unfolding list_end
  end_none h = let z : k ≡ 0 = omega arith in sym (inv ∙ rw z)

  module _ (h : 0 < k) (e : ℕ) (d : e ≡ end i) where
    end_turn : q ≡ list_after end s (k - 1) e
    unfolding list_end list_after
    end_turn = let z : k ≡ suc (k - 1) = omega arith in by k (k - 1) z inv
      where
        by : (a b : ℕ) → a ≡ suc b → q ≡ list_end end s a i → q ≡ list_after end s b e
        by a b z f = rw d (rw z at f)

    -- the rest is passed over
    pub end_after : (u : ℕ) → u ≡ list_after end s (k - 1) e → u ≡ q
    end_after u l = l ∙ sym end_turn

    module _ (x : Parsed) (g : x ≡ next_at s e) where
      pub end_last : x ≡ None → e ≡ q
      end_last w = end_after e (after_none end s (k - 1) e x g w)

      pub end_more : (u : ℕ) → x ≡ Some u → q ≡ list_end end s (k - 1) u
      end_more u w = end_turn ∙ sym (after_more end s (k - 1) e x g u _ w refl)

-- ---- parts without a limit, of which n were passed

module _ (end : ℕ → ℕ) (s : List ℕ) (n i q : ℕ) (inv : q ≡ list_end end s (length s + 1 - n) i) where
  pub all_end_none : length s < n → i ≡ q
  all_end_none h = let z : length s + 1 - n ≤ 0 = omega arith in end_none end s (length s + 1 - n) i q inv z

  module _ (h : n ≤ length s) (e : ℕ) (d : e ≡ end i) (x : Parsed) (g : x ≡ next_at s e) where
    some_left : 0 < length s + 1 - n
    some_left = omega arith

    pub all_end_last : x ≡ None → e ≡ q
    all_end_last w = end_last end s (length s + 1 - n) i q inv some_left e d x g w

    pub all_end_more : (u : ℕ) → x ≡ Some u → q ≡ list_end end s (length s + 1 - (n + 1)) u
    all_end_more u w =
        let z : length s + 1 - n - 1 ≡ length s + 1 - (n + 1) = omega arith in
        rw (← z) (end_more end s (length s + 1 - n) i q inv some_left e d x g u w)

-- ---- items

pub items_end_none : (s : List ℕ) (k at : ℕ) → k ≡ 0 → at ≡ (items_at k s at).end
unfolding items_at
items_end_none s k at z = rw z

pub items_end_start : (s : List ℕ) (k at : ℕ) → (k ≡ 0 → ⊥) → list_end (λ j. (item_at (k - 1) (items_at (k - 1) s) s j).end) s (length s + 1) at ≡ (items_at k s at).end
unfolding items_at unlimited
items_end_start s k at h = let z : k ≡ suc (k - 1) = omega arith in by k (k - 1) z
  where
    by : (a b : ℕ) → a ≡ suc b → list_end (λ j. (item_at b (items_at b s) s j).end) s (length s + 1) at ≡ (items_at a s at).end
    by a b e = rw e
