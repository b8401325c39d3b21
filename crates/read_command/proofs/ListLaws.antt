-- Laws of reading one part after another and of lists joined by commas, in the form in which `search` uses them.
use Rattle.std.specs.Prelude.{Some, None}
use Prim.Native.Nat.{ℕ, suc, ◌+◌, ◌-◌, ◌<◌, ◌≤◌}
use mathlib.Core.Path.{◌≡◌, refl, sym, ap, ◌∙◌}
use mathlib.Core.List.{List}
use mathlib.Core.Bool.{Bool, true, false}
use native.Mathlib.Omega.{arith}
use lib.Dec.{lit<}
use lib.ListN.{length}
use Rattle.base.specs.Pick.{pick}
use Rattle.base.specs.Lists.{is_at}
use Rattle.megaco.specs.Bytes.{comma}
use Rattle.megaco.specs.White.{after, white_at}
use Rattle.megaco.specs.Tokens.{mark_at, sign_at}
use Rattle.protocol.specs.Types.{Parsed}
use Rattle.read_command.specs.Production.{spaced_at, joined_at, list_at}
use Rattle.text.proofs.TextLaws.{within, reads}

-- a sign that was tested, and the white space after it
pub sign_by : (b : ℕ) (s : List ℕ) (at : ℕ) (x : Bool) (y : Parsed) → x ≡ is_at s at b → x ≡ true → y ≡ white_at s (at + 1) → y ≡ sign_at b s at
unfolding sign_at mark_at after pick
sign_by b s at x y g t h = h ∙ rw (← g, t)

-- white space after what a call read
pub spaced_by : (s : List ℕ) (r x y : Parsed) → r ≡ spaced_at s y → y ≡ x → r ≡ spaced_at s x
spaced_by s r x y h e = rw (← e) h

pub ruleset steps = (reads, sign_by, spaced_by)

-- ---- a part that was read, and what follows it behind a comma: q is what both read as

module _ (rest : ℕ → Parsed) (s : List ℕ) (x q : Parsed) (inv : joined_at rest s x ≡ q) where
  pub joined_fault : None ≡ x → None ≡ q
  unfolding joined_at after
  joined_fault f = ap (joined_at rest s) f ∙ inv

  module _ (e : ℕ) (l : Some e ≡ x) (c : Bool) (g : c ≡ is_at s e comma) where
    pub joined_ends : c ≡ false → Some e ≡ q
    unfolding joined_at after pick
    joined_ends f = sym (rw (← l, ← g, f)) ∙ inv

    module _ (t : c ≡ true) (w : Parsed) (d : w ≡ white_at s (e + 1)) where
      pub joined_cut : w ≡ None → None ≡ q
      unfolding joined_at after pick
      joined_cut f = sym (rw (← l, ← g, t, ← sign_by comma s e c w g t d, f)) ∙ inv

      pub joined_more : (p : ℕ) → w ≡ Some p → rest p ≡ q
      unfolding joined_at after pick
      joined_more p f = sym (rw (← l, ← g, t, ← sign_by comma s e c w g t d, f)) ∙ inv

-- ---- a list of at most `most` parts: what it reads as, from the place that n of them were read up to

module _ (one : ℕ → Parsed) (s : List ℕ) (most n i : ℕ) (q : Parsed) (inv : list_at one s (most - n) i ≡ q) where
  pub list_none : most ≤ n → None ≡ q
  unfolding list_at
  list_none h = let z : most - n ≡ 0 = omega arith in ap (λ k. list_at one s k i) (sym z) ∙ inv

  pub list_opened : n < most → joined_at (list_at one s (most - (n + 1))) s (one i) ≡ q
  unfolding list_at
  list_opened h = let z : most - n ≡ suc (most - (n + 1)) = omega arith in ap (λ k. list_at one s k i) (sym z) ∙ inv
