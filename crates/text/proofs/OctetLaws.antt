-- Laws of the text in the braces of Local or Remote, in the form in which `search` uses them.
use Rattle.std.specs.Prelude.{Some, None}
use Prim.Native.Nat.{ℕ, ◌+◌, ◌<◌, ◌≤◌}
use mathlib.Core.Path.{◌≡◌, sym, ◌∙◌}
use mathlib.Core.Bool.{Bool, true, false, ◌&&◌, not}
use mathlib.Core.List.{List}
use native.Mathlib.Numerals.{add-one}
use lib.ListN.{length, get_or, drop, drop_of_length-le}
use lib.Seq.{drop-cons}
use lib.Dec.{eqb}
use borrow.Author.Tests.{eq-eqb, ne_eqb}
use Rattle.base.specs.Pick.{pick}
use Rattle.megaco.specs.Bytes.{right_brace}
use Rattle.megaco.specs.Tokens.{octets_from}
use Rattle.protocol.specs.Types.{Parsed}

module _ (s : List ℕ) (i : ℕ) (escaped : Bool) (q : Parsed) (e : q ≡ octets_from (drop i s) i escaped) where
  pub zero_byte : i < length s → get_or s i 0 ≡ 0 → None ≡ q
  unfolding octets_from pick
  zero_byte h z = sym (e ∙ rw (drop-cons s i 0, eq-eqb (get_or s i 0) 0 z))

  module _ (x : Bool) (h : i < length s) (z : get_or s i 0 ≡ 0 → ⊥) (p : x ≡ (eqb (get_or s i 0) right_brace && not escaped)) where
    pub closed : x ≡ true → Some i ≡ q
    unfolding octets_from pick
    closed t = sym (e ∙ rw (drop-cons s i 0, ne_eqb (get_or s i 0) 0 z, ← p, t))

    pub octets_on : x ≡ false → q ≡ octets_from (drop (i + 1) s) (i + 1) (eqb (get_or s i 0) 0x5c)
    unfolding octets_from pick
    octets_on t = e ∙ rw (drop-cons s i 0, ne_eqb (get_or s i 0) 0 z, ← p, t, add-one)

  pub no_brace : length s ≤ i → None ≡ q
  unfolding octets_from
  no_brace h = sym (e ∙ rw (drop_of_length-le s h))
