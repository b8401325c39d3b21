-- The laws of what an attempt sees, and of matches noted, in the form in which `search` uses them.
use Prim.Native.Nat.{ℕ, zero, suc, ◌+◌, ◌-◌, ◌<◌, ◌≤◌}
use mathlib.Core.Path.{◌≡◌, refl, sym, ap, ◌∙◌}
use mathlib.Core.List.{List, [], ◌∷◌}
use mathlib.Core.Bool.{Bool, true, false}
use native.Mathlib.Numerals.{add-one}
use native.Mathlib.Omega.{arith}
use lib.ListN.{length, get_or, set, take, drop, length-set, drop_of_length-le}
use lib.Seq.{drop-cons}
use Rattle.base.specs.Pick.{pick}
use Rattle.base.specs.Bytes.{put}
use Rattle.megaco.specs.Table.{prop, rec, flow, ctx, cell, low_flow, high_flow, get, terminations, fitted, known, members, place_in}
use Rattle.megaco.proofs.Regions.{context_region}
use Rattle.megaco.specs.Attempt.{unseen, seen, number_of, free_at, look}
use Rattle.megaco.specs.Command.{matches_from, matches}
use Rattle.protocol.specs.Types.{View, Context, Op, Range}
use Rattle.attempt_view.specs.Sight.{SeesContext}
use Rattle.attempt_view.specs.declared.ContextSeen.{ContextSeen}
use Rattle.attempt_view.specs.Noted.{is_match, Noted, Matched}

-- ---- contexts

module _ (t : List ℕ) (c i : ℕ) where
  pub found_known : (r : ContextSeen) (words : List ℕ) → known c ≡ true → r.place ≡ place_in c i t → r.seen.held ≡ get t (cell (rec c)) → r.seen.members ≡ members c t
      → words ≡ (get t (cell (flow (low_flow c))) ∷ get t (cell (flow (high_flow c))) ∷ []) → r.seen.low ≡ get_or words 0 0 → r.seen.high ≡ get_or words 1 0 → SeesContext c i t r
  unfolding seen pick
  found_known r words h p e m w l g =
      let a : r.seen.low ≡ get t (cell (flow (low_flow c))) = l ∙ rw w in
      let b : r.seen.high ≡ get t (cell (flow (high_flow c))) = g ∙ rw w in
      record { context = rw h (λ k. record { held = e k; members = m k; low = a k; high = b k }); order = p }

  pub found_none : (x : Bool) → x ≡ known c → x ≡ false → SeesContext c i t (record { seen = unseen; place = 0 })
  unfolding seen place_in pick
  found_none x e h = record { context = rw (← e, h); order = rw (← e, h) }

pub found_same : (t : List ℕ) (c d i : ℕ) (r : ContextSeen) → SeesContext c i t r → c ≡ d → SeesContext d i t r
found_same t c d i r f e = rw e at f

pub looked : (t : List ℕ) (at : Context) (i c : ℕ) (v : View) (a b : ContextSeen) → c ≡ number_of at → v.here ≡ get t (ctx i) → SeesContext c i t a → SeesContext v.here i t b
    → v.word ≡ get t (cell (prop i)) → v.free ≡ free_at at t → v.lines ≡ fitted t → v.there ≡ a.seen → v.from ≡ b.seen → v.into ≡ a.place → v.out ≡ b.place
    → v ≡ look at i t
unfolding look
looked t at i c v a b e h f g w r l p q m n =
    let x : v.there ≡ seen (number_of at) t = p ∙ f.context ∙ ap (λ (k : ℕ). seen k t) e in
    let y : v.from ≡ seen (get t (ctx i)) t = q ∙ g.context ∙ ap (λ (k : ℕ). seen k t) h in
    let z : v.into ≡ place_in (number_of at) i t = m ∙ f.order ∙ ap (λ (k : ℕ). place_in k i t) e in
    let u : v.out ≡ place_in (get t (ctx i)) i t = n ∙ g.order ∙ ap (λ (k : ℕ). place_in k i t) h in
    (λ k. record { here = h k; word = w k; there = x k; from = y k; free = r k; lines = l k; into = z k; out = u k })

-- ---- numbers put into a row

put_nothing : (o : List ℕ) (n : ℕ) → put o n [] ≡ o
unfolding put
put_nothing [] n = refl
put_nothing (y ∷ o) zero = refl
put_nothing (y ∷ o) (suc n) = ap (λ (l : List ℕ). y ∷ l) (put_nothing o n)

put_next : (o : List ℕ) (n b : ℕ) (bs : List ℕ) → put o n (b ∷ bs) ≡ put (set o n b) (suc n) bs
unfolding put
put_next [] n b bs = refl
put_next (y ∷ o) zero b bs = refl
put_next (y ∷ o) (suc n) b bs = ap (λ (l : List ℕ). y ∷ l) (put_next o n b bs)

-- ---- matches

-- what is still to be noted from place n on makes up the whole
pub record Noting (is o : List ℕ) (rest o₁ : List ℕ) (n i : ℕ) : Type 0 where
  pub row : put o 0 is ≡ put o₁ n rest
  pub many : length is ≡ n + length rest
  pub wide : length o₁ ≡ length o
  pub small : n ≤ i

pub noting_start : (is o : List ℕ) → Noting is o is o 0 0
noting_start is o = record { row = refl; many = omega arith; wide = refl; small = omega arith }

-- one number more, if it is to be noted
noting_next : (is o rest o₁ o₂ : List ℕ) (n m i : ℕ) (x : Bool) → Noting is o (pick x (i ∷ rest) rest) o₁ n i → Noted o₁ n i x o₂ m
    → Noting is o rest o₂ m (i + 1)
unfolding pick
noting_next is o rest o₁ o₂ n m i true k d =
    record {
      row = k.row ∙ put_next o₁ n i rest ∙ rw (d.row, d.next, add-one);
      many = omega (arith, k.many, d.next);
      wide = ap length d.row ∙ length-set o₁ n i ∙ k.wide;
      small = omega (arith, k.small, d.next);
    }
noting_next is o rest o₁ o₂ n m i false k d =
    record {
      row = k.row ∙ rw (d.row, d.next);
      many = omega (arith, k.many, d.next);
      wide = ap length d.row ∙ k.wide;
      small = omega (arith, k.small, d.next);
    }

module _ (lines : ℕ) (op : Op) (c : ℕ) (r : Range) (l is o o₁ : List ℕ) (i n : ℕ) (inv : Noting is o (matches_from lines op c r i (drop i l)) o₁ n i) where
  here : i < length l → matches_from lines op c r i (drop i l)
      ≡ pick (is_match lines op c r i (get_or l i 0)) (i ∷ matches_from lines op c r (i + 1) (drop (i + 1) l)) (matches_from lines op c r (i + 1) (drop (i + 1) l))
  unfolding matches_from is_match
  here h = rw (drop-cons l i 0, add-one)

  pub noting_on : (o₂ : List ℕ) (m : ℕ) (x : Bool) → i < length l → x ≡ is_match lines op c r i (get_or l i 0) → Noted o₁ n i x o₂ m
      → Noting is o (matches_from lines op c r (i + 1) (drop (i + 1) l)) o₂ m (i + 1)
  noting_on o₂ m x h e d =
      let s = matches_from lines op c r (i + 1) (drop (i + 1) l) in
      let f : matches_from lines op c r i (drop i l) ≡ pick x (i ∷ s) s = here h ∙ ap (λ (t : Bool). pick t (i ∷ s) s) (sym e) in
      noting_next is o s o₁ o₂ n m i x (rw f at inv) d

  pub noting_end : length l ≤ i → Matched is o o₁ n
  unfolding matches_from
  noting_end h =
      let e : matches_from lines op c r i (drop i l) ≡ [] = rw (drop_of_length-le l h) in
      record { row = sym (inv.row ∙ ap (put o₁ n) e ∙ put_nothing o₁ n); many = omega (arith, inv.many, ap length e) }

-- the context words of a table with n terminations
pub matched_part : (t o o' : List ℕ) (lines n c k : ℕ) (op : Op) (at : Context) (r : Range) → n ≡ terminations (fitted t) → lines ≡ fitted t → c ≡ number_of at
    → Matched (matches_from lines op c r 0 (take (n - 0) (drop 0 t))) o o' k → Matched (matches op at r t) o o' k
unfolding matches
matched_part t o o' lines n c k op at r e f g m = rw ((context_region t).cut 0 n refl e, f, g) at m
