-- Slots of the table: different slots never meet, not even where they share a word.
use Prim.Native.Nat.{ℕ, zero, suc, ◌+◌, ◌-◌, ◌%◌, ◌^◌, ◌<◌}
use mathlib.Core.Path.{◌≡◌, refl, sym, ap, ap₂, ◌∙◌, subst}
use mathlib.Core.Logic.{◌≢◌}
use mathlib.Core.Bool.{Bool, true, false, ◌&&◌}
use mathlib.Core.List.{List, [], ◌∷◌}
use lib.ListN.{length, get_or, set, length-set}
use lib.Seq.{get_or-set_same, get_or-set_other, set_comm}
use lib.Dec.{eqb}
use borrow.Author.Tests.{eqb-true, eq-eqb}
use native.Mathlib.Omega.{arith}
use native.Mathlib.Decide.{ℕ_discrete}
use Rattle.base.specs.Pick.{pick}
use Rattle.megaco.specs.Table.{line_terminations, regions, onward, total, place, map_start, words, fitted, prop, rec, used, flow, speech, Slot, ctx, cell, region_of, word_of, address, slot_value, kept, get, Write, write, store, apply}
use Rattle.megaco.proofs.Sizes.{fitted_is, fitted_same}
use Rattle.megaco.proofs.Regions.{onward_on, place_is}
use Rattle.megaco.proofs.Places.{digit_same, digit_other, digit_comm, with_below}
use Rattle.base.proofs.TestLaws.{clash, and_both}
use Rattle.laws.specs.Slots.{Valid, Shared, both, held}

-- ---- slots

-- a slot's word lies in its region
word_below : (n : ℕ) (s : Slot) → Valid n s → word_of n s < get_or (regions n) (region_of s) 0
word_below n (ctx i) h = h
word_below n (cell (prop i)) h = h
word_below n (cell (rec c)) h = omega arith
word_below n (cell (used i)) h = omega arith
word_below n (cell (flow k)) h = h
word_below n (cell (speech k)) h = omega arith

-- which of its kind a slot is, and the slot of a kind
abbrev index : Slot → ℕ
index (ctx i) = i
index (cell (prop i)) = i
index (cell (rec c)) = c
index (cell (used i)) = i
index (cell (flow k)) = k
index (cell (speech k)) = k

abbrev slot_of : ℕ → ℕ → Slot
slot_of zero i = ctx i
slot_of (suc zero) i = cell (prop i)
slot_of (suc (suc zero)) c = cell (rec c)
slot_of (suc (suc (suc zero))) i = cell (used i)
slot_of (suc (suc (suc (suc zero)))) k = cell (flow k)
slot_of (suc (suc (suc (suc (suc j))))) k = cell (speech k)

slot_of_lem : (s : Slot) → slot_of (region_of s) (index s) ≡ s
slot_of_lem (ctx i) = refl
slot_of_lem (cell (prop i)) = refl
slot_of_lem (cell (rec c)) = refl
slot_of_lem (cell (used i)) = refl
slot_of_lem (cell (flow k)) = refl
slot_of_lem (cell (speech k)) = refl

-- an address tells its region and the word there
place_tells : (rs : List ℕ) (k j a b : ℕ) → a < get_or rs k 0 → b < get_or rs j 0 → place k rs a ≡ place j rs b → (k ≡ j) × (a ≡ b)
place_tells [] k j a b h l e = absurd (omega arith)
place_tells (r ∷ rs) zero zero a b h l e = (refl, e)
place_tells (r ∷ rs) zero (suc j) a b h l e = absurd (omega (arith, h, e))
place_tells (r ∷ rs) (suc k) zero a b h l e = absurd (omega (arith, l, e))
place_tells (r ∷ rs) (suc k) (suc j) a b h l e = let p = place_tells rs k j a b h l (omega (arith, e)) in (ap suc p.0, p.1)

-- and a word of its region tells a slot, but for the map's
word_tells : (n : ℕ) (s : Slot) (j : ℕ) → Valid n s → Valid n (slot_of (region_of s) j) → s ≢ slot_of (region_of s) j → word_of n s ≡ word_of n (slot_of (region_of s) j)
    → Shared n s (slot_of (region_of s) j)
word_tells n (ctx i) j h k d e = absurd (d (ap ctx e))
word_tells n (cell (prop i)) j h k d e = absurd (d (ap (λ (x : ℕ). cell (prop x)) e))
word_tells n (cell (rec c)) j h k d e = absurd (d (let q : c ≡ j = omega (arith, e) in ap (λ (x : ℕ). cell (rec x)) q))
word_tells n (cell (flow i)) j h k d e = absurd (d (ap (λ (x : ℕ). cell (flow x)) e))
word_tells n (cell (speech i)) j h k d e = absurd (d (let q : i ≡ j = omega (arith, e) in ap (λ (x : ℕ). cell (speech x)) q))
word_tells n (cell (used i)) j h k d e = both {i = i} {j = j} (λ z. d (let q : i ≡ j = omega (arith, e, z) in ap (λ (x : ℕ). cell (used x)) q))

pub shared : (n : ℕ) (s r : Slot) → Valid n s → Valid n r → s ≢ r → address n s ≡ address n r → Shared n s r
shared n s r h k d e =
    let p = place_tells (regions n) (region_of s) (region_of r) (word_of n s) (word_of n r) (word_below n s h) (word_below n r k) e in
    let q : slot_of (region_of s) (index r) ≡ r = ap (λ (x : ℕ). slot_of x (index r)) p.0 ∙ slot_of_lem r in
    subst (Shared n s) q (word_tells n s (index r) h (subst (Valid n) (sym q) k) (λ z. d (z ∙ q)) (p.1 ∙ ap (word_of n) (sym q)))

value_kept : (n : ℕ) (s : Slot) (v word : ℕ) → slot_value n s (kept n s v word) ≡ held s v
value_kept n (ctx i) v word = refl
value_kept n (cell (prop i)) v word = refl
value_kept n (cell (rec c)) v word = refl
value_kept n (cell (flow k)) v word = refl
value_kept n (cell (speech k)) v word = refl
value_kept n (cell (used i)) v word = digit_same ((i - line_terminations n) % 32) (v % 2) word (omega arith) (omega arith)

-- slots that share a word: the one tells nothing of the other, and they may be put in either order
value_shared : (n : ℕ) (s r : Slot) → Shared n s r → (v word : ℕ) → slot_value n s (kept n r v word) ≡ slot_value n s word
value_shared n _ _ (both {i = i} {j = j} d) v word = digit_other ((j - line_terminations n) % 32) ((i - line_terminations n) % 32) (v % 2) word (omega arith) d

shared_comm : (n : ℕ) (s r : Slot) → Shared n s r → (u v word : ℕ) → kept n r v (kept n s u word) ≡ kept n s u (kept n r v word)
shared_comm n _ _ (both {i = i} {j = j} d) u v word =
    digit_comm ((i - line_terminations n) % 32) ((j - line_terminations n) % 32) (u % 2) (v % 2) word (omega arith) (omega arith) d

-- ---- a word of a list changed by a function

abbrev change : List ℕ → ℕ → (ℕ → ℕ) → List ℕ
change t a f = set t a (f (get_or t a 0))

change_tells : (P f : ℕ → ℕ) (t : List ℕ) (a : ℕ) → ((w : ℕ) → P (f w) ≡ P w) → P (get_or (change t a f) a 0) ≡ P (get_or t a 0)
change_tells P f [] a h = refl
change_tells P f (x ∷ t) zero h = h x
change_tells P f (x ∷ t) (suc a) h = change_tells P f t a h

change_twice : (f g : ℕ → ℕ) (t : List ℕ) (a : ℕ) → ((w : ℕ) → g (f w) ≡ f (g w)) → change (change t a f) a g ≡ change (change t a g) a f
change_twice f g [] a h = refl
change_twice f g (x ∷ t) zero h = ap (λ (y : ℕ). y ∷ t) (h x)
change_twice f g (x ∷ t) (suc a) h = ap (λ (l : List ℕ). x ∷ l) (change_twice f g t a h)

change_comm : (f g : ℕ → ℕ) (t : List ℕ) (a b : ℕ) → a ≢ b → change (change t a f) b g ≡ change (change t b g) a f
change_comm f g t a b d =
    ap (λ (w : ℕ). set (change t a f) b (g w)) (get_or-set_other t a b (f (get_or t a 0)) 0 (λ e. d (sym e)))
    ∙ set_comm t a b (f (get_or t a 0)) (g (get_or t b 0)) d
    ∙ sym (ap (λ (w : ℕ). set (change t b g) a (f w)) (get_or-set_other t b a (g (get_or t b 0)) 0 d))

-- a slot lies in the table
onward_below : (rs : List ℕ) (c k a : ℕ) → a < get_or rs k 0 → c + place k rs a < onward c rs
onward_below [] c k a h = absurd (omega arith)
onward_below (r ∷ rs) c zero a h = omega (arith, h, onward_on rs (c + r))
onward_below (r ∷ rs) c (suc k) a h = omega (arith, onward_below rs (c + r) k a h)

place_below : (rs : List ℕ) (k a : ℕ) → a < get_or rs k 0 → place k rs a < total rs
place_below [] k a h = absurd (omega arith)
place_below (r ∷ rs) zero a h = omega (arith, h, onward_on rs r)
place_below (r ∷ rs) (suc k) a h = onward_below rs r k a h

pub address_below : (n : ℕ) (s : Slot) → Valid n s → address n s < words n
address_below n s h = place_below (regions n) (region_of s) (word_of n s) (word_below n s h)

pub length_store : (w : Write) (t : List ℕ) → length (store w t) ≡ length t
length_store (write s v) t = length-set t (address (fitted t) s) _

pub fitted_store : (w : Write) (t : List ℕ) → fitted (store w t) ≡ fitted t
fitted_store w t = fitted_same (store w t) t (length_store w t)

pub length_apply : (ws : List Write) (t : List ℕ) → length (apply ws t) ≡ length t
unfolding apply
length_apply [] t = refl
length_apply (w ∷ ws) t = length_apply ws (store w t) ∙ length_store w t

pub fitted_apply : (ws : List Write) (t : List ℕ) → fitted (apply ws t) ≡ fitted t
fitted_apply ws t = fitted_same (apply ws t) t (length_apply ws t)

-- a table of n lines, by addresses
get_is : (n : ℕ) (s : Slot) (t : List ℕ) → fitted t ≡ n → get t s ≡ slot_value n s (get_or t (address n s) 0)
get_is n s t f = ap (λ (m : ℕ). slot_value m s (get_or t (address m s) 0)) f

store_is : (n : ℕ) (s : Slot) (v : ℕ) (t : List ℕ) → fitted t ≡ n → store (write s v) t ≡ change t (address n s) (kept n s v)
store_is n s v t f = ap (λ (m : ℕ). change t (address m s) (kept m s v)) f

-- what a slot holds after a store
get_stored : (n : ℕ) (r s : Slot) (v : ℕ) (t : List ℕ) → fitted t ≡ n → get (store (write r v) t) s ≡ slot_value n s (get_or (change t (address n r) (kept n r v)) (address n s) 0)
get_stored n r s v t f = get_is n s (store (write r v) t) (fitted_store (write r v) t ∙ f) ∙ ap (λ (u : List ℕ). slot_value n s (get_or u (address n s) 0)) (store_is n r v t f)

pub get_same : (n : ℕ) (s : Slot) (v : ℕ) (t : List ℕ) → fitted t ≡ n → address n s < length t → get (store (write s v) t) s ≡ held s v
get_same n s v t f h =
    get_stored n s s v t f ∙ ap (slot_value n s) (get_or-set_same t (address n s) (kept n s v (get_or t (address n s) 0)) 0 h) ∙ value_kept n s v (get_or t (address n s) 0)

pub get_other : (n : ℕ) (s r : Slot) (v : ℕ) (t : List ℕ) → fitted t ≡ n → Valid n s → Valid n r → s ≢ r → get (store (write r v) t) s ≡ get t s
get_other n s r v t f hs hr d = get_stored n r s v t f ∙ by (ℕ_discrete (address n s) (address n r)) ∙ sym (get_is n s t f)
  where
    by : Dec (address n s ≡ address n r) → slot_value n s (get_or (change t (address n r) (kept n r v)) (address n s) 0) ≡ slot_value n s (get_or t (address n s) 0)
    by (yes e) =
        subst (λ (a : ℕ). slot_value n s (get_or (change t a (kept n r v)) (address n s) 0) ≡ slot_value n s (get_or t (address n s) 0)) e
        (change_tells (slot_value n s) (kept n r v) t (address n s) (value_shared n s r (shared n s r hs hr d e) v))
    by (no o) = ap (slot_value n s) (get_or-set_other t (address n r) (address n s) (kept n r v (get_or t (address n r) 0)) 0 o)

pub store_comm : (n : ℕ) (s r : Slot) (u v : ℕ) (t : List ℕ) → fitted t ≡ n → Valid n s → Valid n r → s ≢ r
    → store (write r v) (store (write s u) t) ≡ store (write s u) (store (write r v) t)
store_comm n s r u v t f hs hr d = twice s r u v ∙ by (ℕ_discrete (address n s) (address n r)) ∙ sym (twice r s v u)
  where
    twice : (s r : Slot) (u v : ℕ) → store (write r v) (store (write s u) t) ≡ change (change t (address n s) (kept n s u)) (address n r) (kept n r v)
    twice s r u v =
        store_is n r v (store (write s u) t) (fitted_store (write s u) t ∙ f) ∙ ap (λ (x : List ℕ). change x (address n r) (kept n r v)) (store_is n s u t f)

    by : Dec (address n s ≡ address n r)
        → change (change t (address n s) (kept n s u)) (address n r) (kept n r v) ≡ change (change t (address n r) (kept n r v)) (address n s) (kept n s u)
    by (yes e) =
        subst (λ (a : ℕ). change (change t (address n s) (kept n s u)) a (kept n r v) ≡ change (change t a (kept n r v)) (address n s) (kept n s u)) e
        (change_twice (kept n s u) (kept n r v) t (address n s) (shared_comm n s r (shared n s r hs hr d e) u v))
    by (no o) = change_comm (kept n s u) (kept n r v) t (address n s) (address n r) o

-- ---- what a slot holds after writes

-- the same slot: computed as far as the kinds tell
abbrev pub alike : Slot → Slot → Bool
alike r s = eqb (region_of r) (region_of s) && eqb (index r) (index s)

pub alike_same : (r s : Slot) → alike r s ≡ true → r ≡ s
alike_same r s e =
    let b = and_both (eqb (region_of r) (region_of s)) (eqb (index r) (index s)) e in
    sym (slot_of_lem r) ∙ ap₂ slot_of (eqb-true (region_of r) (region_of s) b.0) (eqb-true (index r) (index s) b.1) ∙ slot_of_lem s

pub alike_self : (s : Slot) → alike s s ≡ true
alike_self s = rw (eq-eqb (region_of s) (region_of s) refl, eq-eqb (index s) (index s) refl)

pub get_store : (n : ℕ) (r s : Slot) (v : ℕ) (t : List ℕ) → Valid n r → Valid n s → length t ≡ words n → get (store (write r v) t) s ≡ pick (alike r s) (held r v) (get t s)
unfolding pick
get_store n r s v t hr hs l = by (alike r s) refl
  where
    by : (b : Bool) → alike r s ≡ b → get (store (write r v) t) s ≡ pick b (held r v) (get t s)
    by true e = rw (alike_same r s e) (get_same n s v t (fitted_is n t l) (omega (arith, address_below n s hs)))
    by false e = get_other n s r v t (fitted_is n t l) hs hr (λ q. clash (sym (alike_self r) ∙ ap (alike r) (sym q) ∙ e))

-- what a slot holds after writes, given what it holds before
abbrev pub holds : List Write → Slot → ℕ → ℕ
holds [] s x = x
holds (write r v ∷ ws) s x = holds ws s (pick (alike r s) (held r v) x)

-- every write is to a slot of the table
abbrev pub Within : ℕ → List Write → Type 0
Within n [] = Unit {0}
Within n (write s v ∷ ws) = Valid n s × Within n ws

pub get_apply : (n : ℕ) (ws : List Write) (s : Slot) (t : List ℕ) → Within n ws → Valid n s → length t ≡ words n → get (apply ws t) s ≡ holds ws s (get t s)
unfolding apply
get_apply n [] s t h v l = refl
get_apply n (write r x ∷ ws) s t h v l =
    get_apply n ws s (store (write r x) t) h.1 v (length_store (write r x) t ∙ l) ∙ ap (holds ws s) (get_store n r s x t h.0 v l)

-- ---- the map's words keep their 32 bits

-- a slot at a word of the map holds one of its digits
kept_narrow : (n : ℕ) (s : Slot) (v word k : ℕ) → Valid n s → k < 2 → map_start n + k ≡ address n s → kept n s v word < 2 ^ 32
kept_narrow n s v word k h b e =
    let p : 3 ≡ region_of s = (place_tells (regions n) 3 (region_of s) k (word_of n s) b (word_below n s h) (sym (place_is 3 (regions n) k) ∙ e)).0 in
    let q : cell (used (index s)) ≡ s = ap (λ (x : ℕ). slot_of x (index s)) p ∙ slot_of_lem s in
    subst (λ (x : Slot). kept n x v word < 2 ^ 32) q (with_below ((index s - line_terminations n) % 32) (v % 2) word (omega arith))

narrow_store : (n : ℕ) (s : Slot) (v : ℕ) (t : List ℕ) → Valid n s → length t ≡ words n → ((k : ℕ) → k < 2 → get_or t (map_start n + k) 0 < 2 ^ 32)
    → (k : ℕ) → k < 2 → get_or (store (write s v) t) (map_start n + k) 0 < 2 ^ 32
narrow_store n s v t h l f k b = rw (store_is n s v t (fitted_is n t l)) (by (ℕ_discrete (map_start n + k) (address n s)))
  where
    by : Dec (map_start n + k ≡ address n s) → get_or (change t (address n s) (kept n s v)) (map_start n + k) 0 < 2 ^ 32
    by (yes e) =
        rw (e, get_or-set_same t (address n s) (kept n s v (get_or t (address n s) 0)) 0 (omega (arith, address_below n s h)))
        (kept_narrow n s v (get_or t (address n s) 0) k h b e)
    by (no o) = rw (get_or-set_other t (address n s) (map_start n + k) (kept n s v (get_or t (address n s) 0)) 0 o) (f k b)

pub narrow_apply : (n : ℕ) (ws : List Write) (t : List ℕ) → Within n ws → length t ≡ words n → ((k : ℕ) → k < 2 → get_or t (map_start n + k) 0 < 2 ^ 32)
    → (k : ℕ) → k < 2 → get_or (apply ws t) (map_start n + k) 0 < 2 ^ 32
unfolding apply
narrow_apply n [] t h l f = f
narrow_apply n (write s v ∷ ws) t h l f = narrow_apply n ws (store (write s v) t) h.1 (length_store (write s v) t ∙ l) (narrow_store n s v t h.0 l f)
