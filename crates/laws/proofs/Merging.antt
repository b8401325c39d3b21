-- Rules for merging topology orders (document 02, CR 7), of one triple and then another, on any square of eight by eight and any two places of it;
-- a sound context's is one, and its members have such places (`Linked`). Squares that tell the same are the same.
use Prim.Native.Nat.{ℕ, ◌<◌}
use mathlib.Core.Path.{◌≡◌, refl, sym, ap, ◌∙◌}
use mathlib.Core.Bool.{Bool, true, false, ◌&&◌}
use lib.Dec.{eqb}
use borrow.Author.Tests.{eqb-true}
use Rattle.base.specs.Pick.{pick}
use Rattle.base.proofs.TestLaws.{clash, and_both}
use Rattle.protocol.specs.Types.{Direction, Isolate, Oneway, Bothway}
use Rattle.megaco.specs.Square.{Square, bits, rows, square_of, flow_at, flow_set, paired, directed}
use Rattle.megaco.proofs.Squares.{Shape, squares_same}
use Rattle.laws.specs.Hears.{forth, back, OtherPair}
use Rattle.laws.proofs.Flows.{shape_directed}
use Rattle.laws.proofs.Hears.{directed_tells}

-- ---- choices, one after another

covers : (B A x y u v f : Bool) → pick B y (pick A x (pick B v (pick A u f))) ≡ pick B y (pick A x f)
unfolding pick
covers true A x y u v f = refl
covers false true x y u v f = refl
covers false false x y u v f = refl

covers_turned : (B A x y u v f : Bool) → pick B y (pick A x (pick A v (pick B u f))) ≡ pick B y (pick A x f)
unfolding pick
covers_turned true A x y u v f = refl
covers_turned false true x y u v f = refl
covers_turned false false x y u v f = refl

either : (B A x f : Bool) → pick B x (pick A x f) ≡ pick A x (pick B x f)
unfolding pick
either true true x f = refl
either true false x f = refl
either false true x f = refl
either false false x f = refl

exchange : (A B C D x y u v f : Bool) → (A ≡ true → C ≡ true → ⊥) → (A ≡ true → D ≡ true → ⊥) → (B ≡ true → C ≡ true → ⊥) → (B ≡ true → D ≡ true → ⊥)
    → pick D v (pick C u (pick B y (pick A x f))) ≡ pick B y (pick A x (pick D v (pick C u f)))
unfolding pick
exchange true B true D x y u v f ac ad bc bd = absurd (ac refl refl)
exchange true B false true x y u v f ac ad bc bd = absurd (ad refl refl)
exchange true B false false x y u v f ac ad bc bd = refl
exchange false true true D x y u v f ac ad bc bd = absurd (bc refl refl)
exchange false true false true x y u v f ac ad bc bd = absurd (bd refl refl)
exchange false true false false x y u v f ac ad bc bd = refl
exchange false false true true x y u v f ac ad bc bd = refl
exchange false false true false x y u v f ac ad bc bd = refl
exchange false false false true x y u v f ac ad bc bd = refl
exchange false false false false x y u v f ac ad bc bd = refl

-- ---- one triple and then another

module _ (q : Square) (s : Shape q) (i j : ℕ) (h : i < 8) (k : j < 8) where
  -- "on one pair, its names in either order, only the last triple counts"
  pub only_last : (d e : Direction) → directed e i j (directed d i j q) ≡ directed e i j q
  only_last d e =
      squares_same _ _ (shape_directed e i j (directed d i j q) (shape_directed d i j q s)) (shape_directed e i j q s)
      (λ a b l m.
      directed_tells e i j a b (directed d i j q) (shape_directed d i j q s) h k l m
      ∙ ap (λ (z : Bool). pick (eqb a j && eqb b i) (back e) (pick (eqb a i && eqb b j) (forth e) z)) (directed_tells d i j a b q s h k l m)
      ∙ covers (eqb a j && eqb b i) (eqb a i && eqb b j) (forth e) (back e) (forth d) (back d) (flow_at q a b)
      ∙ sym (directed_tells e i j a b q s h k l m))

  pub only_last_turned : (d e : Direction) → directed e i j (directed d j i q) ≡ directed e i j q
  only_last_turned d e =
      squares_same _ _ (shape_directed e i j (directed d j i q) (shape_directed d j i q s)) (shape_directed e i j q s)
      (λ a b l m.
      directed_tells e i j a b (directed d j i q) (shape_directed d j i q s) h k l m
      ∙ ap (λ (z : Bool). pick (eqb a j && eqb b i) (back e) (pick (eqb a i && eqb b j) (forth e) z)) (directed_tells d j i a b q s k h l m)
      ∙ covers_turned (eqb a j && eqb b i) (eqb a i && eqb b j) (forth e) (back e) (forth d) (back d) (flow_at q a b)
      ∙ sym (directed_tells e i j a b q s h k l m))

  -- "the same triple twice in a row equals once"
  pub twice_is_once : (d : Direction) → directed d i j (directed d i j q) ≡ directed d i j q
  twice_is_once d = only_last d d

  -- a direction that says the same of both does not care for the order of names
  pub turned : (d : Direction) → forth d ≡ back d → directed d i j q ≡ directed d j i q
  turned d e =
      squares_same _ _ (shape_directed d i j q s) (shape_directed d j i q s)
      (λ a b l m.
      directed_tells d i j a b q s h k l m
      ∙ ap (λ (z : Bool). pick (eqb a j && eqb b i) (back d) (pick (eqb a i && eqb b j) z (flow_at q a b))) e
      ∙ either (eqb a j && eqb b i) (eqb a i && eqb b j) (back d) (flow_at q a b)
      ∙ ap (λ (z : Bool). pick (eqb a i && eqb b j) (back d) (pick (eqb a j && eqb b i) z (flow_at q a b))) (sym e)
      ∙ sym (directed_tells d j i a b q s k h l m))

  -- "Isolate and Bothway don't care for the order of names"
  pub isolate_turned : directed Isolate i j q ≡ directed Isolate j i q
  unfolding forth back
  isolate_turned = turned Isolate refl

  pub bothway_turned : directed Bothway i j q ≡ directed Bothway j i q
  unfolding forth back
  bothway_turned = turned Bothway refl

-- two tests of places that no pair passes
apart : (a b x y u v : ℕ) → ((x ≡ u) × (y ≡ v) → ⊥) → eqb a x && eqb b y ≡ true → eqb a u && eqb b v ≡ true → ⊥
apart a b x y u v o e f =
    let p = and_both (eqb a x) (eqb b y) e in
    let r = and_both (eqb a u) (eqb b v) f in
    o (sym (eqb-true a x p.0) ∙ eqb-true a u r.0, sym (eqb-true b y p.1) ∙ eqb-true b v r.1)

-- "triples on different pairs may change places"
pub change_places : (q : Square) → Shape q → (i j k l : ℕ) → i < 8 → j < 8 → k < 8 → l < 8 → OtherPair i j k l → (d e : Direction)
    → directed e k l (directed d i j q) ≡ directed d i j (directed e k l q)
change_places q s i j k l hi hj hk hl o d e =
    squares_same _ _ (shape_directed e k l (directed d i j q) (shape_directed d i j q s)) (shape_directed d i j (directed e k l q) (shape_directed e k l q s))
    (λ a b la lb.
    directed_tells e k l a b (directed d i j q) (shape_directed d i j q s) hk hl la lb
    ∙ ap (λ (z : Bool). pick (eqb a l && eqb b k) (back e) (pick (eqb a k && eqb b l) (forth e) z)) (directed_tells d i j a b q s hi hj la lb)
    ∙ exchange (eqb a i && eqb b j) (eqb a j && eqb b i) (eqb a k && eqb b l) (eqb a l && eqb b k) (forth d) (back d) (forth e) (back e) (flow_at q a b)
    (apart a b i j k l (λ z. o.forth (sym z.0, sym z.1))) (apart a b i j l k (λ z. o.back (sym z.1, sym z.0)))
    (apart a b j i k l (λ z. o.back (sym z.0, sym z.1))) (apart a b j i l k (λ z. o.forth (sym z.1, sym z.0)))
    ∙ ap (λ (z : Bool). pick (eqb a j && eqb b i) (back d) (pick (eqb a i && eqb b j) (forth d) z)) (sym (directed_tells e k l a b q s hk hl la lb))
    ∙ sym (directed_tells d i j a b (directed e k l q) (shape_directed e k l q s) hi hj la lb))

-- ---- where a condition is dropped: two squares that differ in one flow

differ : (p q : Square) (a b : ℕ) → flow_at p a b ≡ true → flow_at q a b ≡ false → p ≡ q → ⊥
differ p q a b e f z = clash (sym e ∙ ap (λ (r : Square). flow_at r a b) z ∙ f)

abbrev empty : Square
empty = square_of 0 0

-- Oneway cares for the order of names
pub oneway_turns : directed Oneway 0 1 empty ≡ directed Oneway 1 0 empty → ⊥
oneway_turns = differ (directed Oneway 0 1 empty) (directed Oneway 1 0 empty) 0 1 (unfold square_of rows bits directed paired flow_set flow_at pick in refl) (unfold square_of rows bits directed paired flow_set flow_at pick in refl)

-- on one pair the order of triples counts
pub same_pair_counts : directed Bothway 0 1 (directed Isolate 0 1 empty) ≡ directed Isolate 0 1 (directed Bothway 0 1 empty) → ⊥
same_pair_counts =
    differ (directed Bothway 0 1 (directed Isolate 0 1 empty)) (directed Isolate 0 1 (directed Bothway 0 1 empty)) 0 1
    (unfold square_of rows bits directed paired flow_set flow_at pick in refl) (unfold square_of rows bits directed paired flow_set flow_at pick in refl)

-- and with its names in the other order too
pub turned_pair_counts : directed Oneway 0 1 (directed Oneway 1 0 empty) ≡ directed Oneway 1 0 (directed Oneway 0 1 empty) → ⊥
turned_pair_counts =
    differ (directed Oneway 0 1 (directed Oneway 1 0 empty)) (directed Oneway 1 0 (directed Oneway 0 1 empty)) 0 1
    (unfold square_of rows bits directed paired flow_set flow_at pick in refl) (unfold square_of rows bits directed paired flow_set flow_at pick in refl)

-- on another pair a triple before the last counts
pub other_pair_counts : directed Bothway 0 1 (directed Bothway 0 2 empty) ≡ directed Bothway 0 1 empty → ⊥
other_pair_counts =
    differ (directed Bothway 0 1 (directed Bothway 0 2 empty)) (directed Bothway 0 1 empty) 0 2
    (unfold square_of rows bits directed paired flow_set flow_at pick in refl) (unfold square_of rows bits directed paired flow_set flow_at pick in refl)
