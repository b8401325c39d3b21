-- Laws of loading and answering, in the form in which `search` uses them.
use Prim.Native.Nat.{ℕ, ◌+◌, ◌*◌, ◌-◌, ◌<◌, ◌≤◌, min, max}
use mathlib.Core.Path.{◌≡◌, refl, sym, ap, ◌∙◌}
use mathlib.Core.Bool.{Bool, true, false, not, ◌&&◌}
use mathlib.Core.List.{List, [], ◌∷◌}
use mathlib.Core.Option.{Option, none, some}
use native.Mathlib.Omega.{arith}
use lib.ListN.{length, take, drop}
use lib.Seq.{take_all}
use lib.Dec.{ltb, eqb}
use borrow.Author.Tests.{le-leb, lt-leb, eqb-true, ltb-true, ltb-false}
use Rattle.base.specs.Pick.{pick}
use Rattle.base.specs.Lists.{every}
use Rattle.base.specs.Bytes.{◌then◌}
use Rattle.base.proofs.TestLaws.{clash, not_holds}
use Rattle.base.proofs.TextLaws.{length_then}
use Rattle.base.proofs.OutLaws.{take_put}
use Rattle.protocol.specs.Types.{Parsed}
use Rattle.digits.specs.Symbols.{symbol_of, is_symbol, symbols_of, takes}
use Rattle.digits.specs.DigitMap.{map_r}
use Rattle.digits.specs.Dialling.{Dialled, plan, no_plan, plan_of, load, dial, progress, progress_of, answered, timer_of, later_timer, first_timer, is_dialled}
use Rattle.digits.specs.declared.Progress.{Progress}
use Rattle.digits.specs.declared.Timer.{Timer}
use Rattle.digits.specs.declared.ZeroStart.{ZeroStart}
use Rattle.std.specs.List.{list_all}
use Rattle.std.specs.Prelude.{Some, None, Ok, Err}
use Rattle.std.specs.declared.option.Option.{Option as Maybe}
use Rattle.digits.specs.declared.Answer.{Answer}
use Rattle.digits.specs.declared.DialError.TheVariants.{BadMap, BadString}
use Rattle.digits.specs.declared.Reach.{Reach}
use Rattle.digits.proofs.SetLaws.{below, below_at}
use Rattle.digits.proofs.LanguageLaws.{Fills, Filled, empty, with_one}
use Rattle.digits.proofs.ReadLaws.{Alternatives, no_more, one_more, map_is}
use Rattle.dialling.specs.Cells.{flat, gathered, alts_of, plan_in, Keeps, Listed}
use Rattle.dialling.specs.Live.{ReachesAny}
use Rattle.dialling.specs.declared.Loaded.{Loaded}

-- ---- timers

-- an answer and the timer that goes with it
module _ (first : Timer) (w : List ℕ) (p q : Progress) (h : p ≡ q) where
  pub answer_first : length w ≡ 0 → ◌≡◌ {A = Dialled} (Ok (record { progress = p; timer = first })) (answered first w q)
  unfolding answered timer_of
  answer_first e = rw h (by w e)
    where
      by : (v : List ℕ) → length v ≡ 0 → ◌≡◌ {A = Dialled} (Ok (record { progress = q; timer = first })) (Ok (record { progress = q; timer = timer_of first v q }))
      by [] z = refl
      by (b ∷ v) z = absurd (omega arith)

  pub answer_later : (t : Timer) → (length w ≡ 0 → ⊥) → t ≡ later_timer p → ◌≡◌ {A = Dialled} (Ok (record { progress = p; timer = t })) (answered first w q)
  unfolding answered timer_of
  answer_later t z g = rw (g, h) (by w z)
    where
      by : (v : List ℕ) → (length v ≡ 0 → ⊥) → ◌≡◌ {A = Dialled} (Ok (record { progress = q; timer = later_timer q })) (Ok (record { progress = q; timer = timer_of first v q }))
      by [] y = absurd (y refl)
      by (b ∷ v) y = refl

-- ---- dialled strings

pub dialled_long : (w : List ℕ) → 32 < length w → false ≡ is_dialled w
unfolding is_dialled
dialled_long w h = rw (lt-leb (length w) 32 h)

every_all : (p : ℕ → Bool) (w : List ℕ) → every p w ≡ list_all p w
unfolding every pick
every_all p [] = refl
every_all p (b ∷ w) = by (p b) (every_all p w)
  where
    by : (t : Bool) → every p w ≡ list_all p w → pick t (every p w) false ≡ t && list_all p w
    by true e = e
    by false e = refl

pub dialled_all : (w : List ℕ) → length w ≤ 32 → list_all (λ b. ltb (symbol_of b) 21) w ≡ is_dialled w
unfolding is_dialled is_symbol
dialled_all w h = rw (le-leb (length w) 32 h) (sym (every_all (λ b. ltb (symbol_of b) 21) w))

-- ---- the cells of a map that was read give it back

none_taken : below (λ c. not (takes 0 c)) 21 ≡ true
unfolding below takes
none_taken = refl

not_none : (set : ℕ) → Fills set → eqb set 0 ≡ false
not_none set f = not_holds (eqb set 0) (λ e. clash (sym (rw (eqb-true set 0 e) at f.taken) ∙ by (takes 0 f.symbol) (below_at (λ c. not (takes 0 c)) 21 none_taken f.symbol f.small)))
  where
    by : (t : Bool) → not t ≡ true → t ≡ false
    by true e = sym e
    by false e = refl

alts_one : {a : List ℕ} → Filled a → (l : List ℕ) → alts_of ((a then (0 ∷ [])) then l) ≡ a ∷ alts_of l
unfolding alts_of gathered pick ◌then◌
alts_one empty l = refl
alts_one (with_one {set} {a} f g) l = rw (not_none set f, alts_one g l)

alts_flat : {k : ℕ} {m : List (List ℕ)} → Alternatives k m → alts_of (flat m) ≡ m
unfolding flat alts_of
alts_flat no_more = refl
alts_flat (one_more {k} {a} {m} f l x) = alts_one f (flat m) ∙ ap (λ (n : List (List ℕ)). a ∷ n) (alts_flat x)

flat_short : {k : ℕ} {m : List (List ℕ)} → Alternatives k m → length (flat m) ≤ 65 * k
unfolding flat
flat_short no_more = omega arith
flat_short (one_more {k} {a} {m} f l x) =
    let deeper : length (flat m) ≤ 65 * k = flat_short x in
    let i : length ((a then (0 ∷ [])) then flat m) ≡ length (a then (0 ∷ [])) + length (flat m) = length_then (a then (0 ∷ [])) (flat m) in
    let j : length (a then (0 ∷ [])) ≡ length a + 1 = length_then a (0 ∷ []) in
    omega arith

module _ (s z cells : List ℕ) (x : Parsed) (start : ℕ) (zero' : ZeroStart) (first : Timer) (l : Listed (map_r s) z 0 cells x) (t : first ≡ first_timer start zero') where
  pub load_refused : x ≡ None → Keeps (load s start zero') None cells
  unfolding plan_in load plan_of
  load_refused e = record { is = by (map_r s) refl; short = tt }
    where
      by : (m : Option (List (List ℕ))) → map_r s ≡ m → no_plan ≡ plan_of m (first_timer start zero')
      by none f = refl
      by (some m) f = let g = l.kept m f in let h : x ≡ Some g.0 = g.1 in let c : true ≡ false = cc in absurd (clash c)

  pub load_good : (n : ℕ) → length z ≡ 1040 → x ≡ Some n → Keeps (load s start zero') (Some (record { first = first; count = n })) cells
  unfolding plan_in load plan_of
  load_good n long e = let r = by (map_r s) refl in record { is = r.0; short = r.1 }
    where
      by : (m : Option (List (List ℕ))) → map_r s ≡ m → (plan (alts_of (take n cells)) first ≡ plan_of m (first_timer start zero')) × (n ≤ 1040)
      by none f = let h : x ≡ None = l.refused f in let c : true ≡ false = cc in absurd (clash c)
      by (some m) f =
          let g = l.kept m f in
          let h : x ≡ Some g.0 = g.1 in
          let i : n ≡ g.0 = cc in
          let a : Alternatives 16 m = map_is s m f in
          let d : length (flat m) ≤ 65 * 16 = flat_short a in
          let j : g.0 ≡ max 0 (min (0 + length (flat m)) (length z)) = g.2.next in
          let k : n ≡ length (flat m) = omega arith in
          let o : take n cells ≡ flat m = rw (k, g.2.text) (take_put z (flat m) (omega arith)) in
          (rw (o, alts_flat a, t), omega arith)

-- ---- answers

module _ (o : Maybe Loaded) (cells w : List ℕ) where
  pub dial_map : o ≡ None → Err BadMap ≡ dial (plan_in o cells) w
  unfolding dial plan_in
  dial_map e = rw e

  module _ (l : Loaded) (e : o ≡ Some l) (x : Bool) (g : x ≡ is_dialled w) where
    pub dial_string : x ≡ false → Err BadString ≡ dial (plan_in o cells) w
    unfolding dial plan_in pick
    dial_string h = rw (e, ← g, h)

    pub dial_answer : (r : Reach) (d : Answer) → x ≡ true → ReachesAny (alts_of (take l.count cells)) (symbols_of w) r
        → Ok d ≡ answered l.first w (progress r.matched r.longer) → Ok d ≡ dial (plan_in o cells) w
    unfolding dial plan_in pick progress_of
    dial_answer r d h f k = k ∙ rw (f.matched, f.longer, e, ← g, h)

pub first_cells : (l w : List ℕ) (count n : ℕ) (r : Reach) → n ≡ min count (length l) → ReachesAny (alts_of (take (n - 0) (drop 0 l))) w r → ReachesAny (alts_of (take count l)) w r
first_cells l w count n r m f = rw (by (ltb count (length l)) refl) at f
  where
    by : (b : Bool) → ltb count (length l) ≡ b → take (n - 0) l ≡ take count l
    by true c = let p : count < length l = ltb-true count (length l) c in let q : n - 0 ≡ count = omega arith in rw q
    by false c = let p : length l ≤ count = ltb-false count (length l) c in take_all (n - 0) l (omega arith) ∙ sym (take_all count l p)
