-- Laws of the kept replies as a list, the oldest first; and demand 3's addition: two replies kept in either order are the same set.
use Prim.Native.Nat.{ℕ, zero, suc, ◌+◌, ◌-◌, ◌≤◌}
use mathlib.Core.Path.{◌≡◌, refl, sym, ap, ◌∙◌}
use mathlib.Core.Bool.{Bool, true, false}
use mathlib.Core.List.Memᴰ
use mathlib.Core.List.{List, [], ◌∷◌, ◌++◌, append_assoc}
use mathlib.Core.Option.{Option, none, some}
use native.Mathlib.Omega.{arith}
use lib.Dec.{eqb}
use lib.ListN.{length, drop, length-append, length-drop}
use lib.Seq.{drop-append-le, drop-drop}
use borrow.Author.Tests.{eqb-true, eq-eqb}
use Rattle.base.specs.Pick.{pick}
use Rattle.base.specs.Lists.{same}
use Rattle.base.proofs.TestLaws.{same_is, pick_both, both_pick, not_holds, clash}
use Rattle.laws.specs.Membership.{◌∈◌}
use Rattle.laws.specs.KeptReplies.{SameSet}
use Rattle.laws.proofs.Linked.{same_refl}
use Rattle.megaco.specs.Kept.{Kept, kept_under, under, find, youngest, keep, without}

-- ---- pairs

-- kept under the pair that another is kept under
pub record Pair (m : List ℕ) (i : ℕ) (k : Kept) : Type 0 where
  pub sender : k.sender ≡ m
  pub id : k.id ≡ i

pub under_is : (m : List ℕ) (id : ℕ) (k : Kept) → under m id k ≡ true → Pair m id k
unfolding under
under_is m id k e =
    let p = pick_both (eqb k.id id) (same k.sender m) e in
    record { sender = same_is k.sender m p.1; id = eqb-true k.id id p.0 }

pub is_under : (m : List ℕ) (id : ℕ) (k : Kept) → Pair m id k → under m id k ≡ true
unfolding under
is_under m id k p = both_pick (eqb k.id id) (same k.sender m) (eq-eqb k.id id p.id) (rw p.sender (same_refl m))

pub under_other : (j k : Kept) → under k.sender k.id j ≡ false → under j.sender j.id k ≡ false
under_other j k e =
    not_holds (under j.sender j.id k) (λ t.
    let p = under_is j.sender j.id k t in
    clash (sym (is_under k.sender k.id j (record { sender = sym p.sender; id = sym p.id })) ∙ e))

-- ---- look-up

abbrev is_some : {A : Type 0} → Option A → Bool
is_some none = false
is_some (some y) = true

pub some_not : {A : Type 0} (x : A) → some x ≡ none → ⊥
some_not x e = clash (ap is_some e)

module _ (m : List ℕ) (id : ℕ) where
  -- none is found where none is kept under the pair
  pub find_cons : (k : Kept) (ks : List Kept) → under m id k ≡ false → find m id ks ≡ none → find m id (k ∷ ks) ≡ none
  unfolding find pick
  find_cons k ks e f = rw e f

  pub find_both : (k : Kept) (ks : List Kept) → find m id (k ∷ ks) ≡ none → (under m id k ≡ false) × (find m id ks ≡ none)
  unfolding find pick
  find_both k ks e = by (under m id k) refl e
    where
      by : (b : Bool) → under m id k ≡ b → pick b (some k.reply) (find m id ks) ≡ none → (under m id k ≡ false) × (find m id ks ≡ none)
      by true f g = absurd (some_not k.reply g)
      by false f g = (f, g)

  pub find_drop : (n : ℕ) (ks : List Kept) → find m id ks ≡ none → find m id (drop n ks) ≡ none
  find_drop zero ks e = e
  find_drop (suc n) [] e = e
  find_drop (suc n) (k ∷ ks) e = find_drop n ks (find_both k ks e).1

  pub find_append : (xs ys : List Kept) → find m id xs ≡ none → find m id ys ≡ none → find m id (xs ++ ys) ≡ none
  find_append [] ys e f = f
  find_append (k ∷ xs) ys e f = let p = find_both k xs e in find_cons k (xs ++ ys) p.0 (find_append xs ys p.1 f)

  pub find_without : (q : Kept → Bool) (ks : List Kept) → find m id ks ≡ none → find m id (without q ks) ≡ none
  unfolding without pick
  find_without q [] e = e
  find_without q (k ∷ ks) e = let p = find_both k ks e in by (q k) p.0 (find_without q ks p.1)
    where
      by : (b : Bool) → under m id k ≡ false → find m id (without q ks) ≡ none → find m id (pick b (without q ks) (k ∷ without q ks)) ≡ none
      by true f g = g
      by false f g = find_cons k (without q ks) f g

  -- a pair that is not kept is not kept after another was
  pub find_keep : (k : Kept) (ks : List Kept) → under m id k ≡ false → find m id ks ≡ none → find m id (keep k ks) ≡ none
  unfolding keep youngest find
  find_keep k ks e f = find_append (drop (length ks - 15) ks) (k ∷ []) (find_drop (length ks - 15) ks f) (find_cons k [] e refl)

  -- behind what is not kept under the pair
  find_past : (xs ys : List Kept) → find m id xs ≡ none → find m id (xs ++ ys) ≡ find m id ys
  unfolding find pick
  find_past [] ys e = refl
  find_past (k ∷ xs) ys e = let p = find_both k xs e in rw p.0 (find_past xs ys p.1)

  -- a reply that was kept is found
  pub find_kept : (x : List ℕ) (ks : List Kept) → find m id ks ≡ none → find m id (keep (kept_under m id x) ks) ≡ some x
  unfolding keep youngest find pick
  find_kept x ks e =
      find_past (drop (length ks - 15) ks) (kept_under m id x ∷ []) (find_drop (length ks - 15) ks e)
      ∙ rw (is_under m id (kept_under m id x) (record { sender = refl; id = refl }))

-- ---- the youngest

pub youngest_snoc : {A : Type 0} (n : ℕ) (xs : List A) (a : A) → youngest (suc n) (xs ++ (a ∷ [])) ≡ youngest n xs ++ (a ∷ [])
unfolding youngest
youngest_snoc n xs a =
    let e : length (xs ++ (a ∷ [])) - suc n ≡ length xs - n = omega (arith, length-append xs (a ∷ [])) in
    rw e (drop-append-le (length xs - n) xs (a ∷ []) (omega arith))

pub youngest_youngest : {A : Type 0} (n m : ℕ) (xs : List A) → n ≤ m → youngest n (youngest m xs) ≡ youngest n xs
unfolding youngest
youngest_youngest n m xs h =
    let d : ℕ = length xs - m in
    let e : d + (length (drop d xs) - n) ≡ length xs - n = omega (arith, length-drop d xs) in
    drop-drop (length (drop d xs) - n) d xs ∙ ap (λ (k : ℕ). drop k xs) e

-- two replies kept, one after the other, whatever was held
pub two_keeps : (a b : Kept) (ks : List Kept) → keep b (keep a ks) ≡ youngest 14 ks ++ (a ∷ b ∷ [])
unfolding keep
two_keeps a b ks =
    ap (λ (l : List Kept). l ++ (b ∷ [])) (youngest_snoc 14 (youngest 15 ks) a ∙ ap (λ (l : List Kept). l ++ (a ∷ [])) (youngest_youngest 14 15 ks (omega arith)))
    ∙ append_assoc (youngest 14 ks) (a ∷ []) (b ∷ [])

-- ---- "the kept replies are then the same set, their age may differ"

swap : (xs : List Kept) (a b k : Kept) → k ∈ (xs ++ (a ∷ b ∷ [])) → k ∈ (xs ++ (b ∷ a ∷ []))
swap [] a b k (Memᴰ.head p) = Memᴰ.tail (Memᴰ.head p)
swap [] a b k (Memᴰ.tail (Memᴰ.head p)) = Memᴰ.head p
swap [] a b k (Memᴰ.tail (Memᴰ.tail m)) = absurd (Memᴰ.not-nil m)
swap (x ∷ xs) a b k (Memᴰ.head p) = Memᴰ.head p
swap (x ∷ xs) a b k (Memᴰ.tail i) = Memᴰ.tail (swap xs a b k i)

pub keeps_alike : (a b : Kept) (ks : List Kept) → SameSet (keep b (keep a ks)) (keep a (keep b ks))
keeps_alike a b ks =
    rw (two_keeps a b ks, two_keeps b a ks) (record {
      into = λ k. swap (youngest 14 ks) a b k;
      back = λ k. swap (youngest 14 ks) b a k;
      many = length-append (youngest 14 ks) (a ∷ b ∷ []) ∙ sym (length-append (youngest 14 ks) (b ∷ a ∷ []));
    })
