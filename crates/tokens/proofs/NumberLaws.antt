-- Laws of `numberFrom` at a place of the message, in the form in which `search` uses them.
use Rattle.std.specs.Prelude.{None}
use Prim.Native.Nat.{ℕ, ◌+◌, ◌*◌, ◌-◌, ◌<◌, ◌≤◌}
use mathlib.Core.Path.{◌≡◌, sym, ◌∙◌}
use mathlib.Core.List.{List}
use mathlib.Core.Bool.{true, false, and-false}
use lib.Dec.{leb}
use native.Mathlib.Numerals.{add-one}
use lib.ListN.{length, get_or, drop, drop_of_length-le}
use lib.Seq.{drop-cons}
use borrow.Author.Tests.{lt-ltb, le-ltb, le-leb, lt-leb}
use Rattle.base.specs.Pick.{pick}
use Rattle.protocol.specs.Types.{Number}
use Rattle.megaco.specs.Bytes.{is_digit}
use Rattle.megaco.specs.Tokens.{number_from, number_end}

is_digit_lem : (b : ℕ) → 48 ≤ b → b ≤ 57 → is_digit b ≡ true
unfolding is_digit
is_digit_lem b l h = rw (le-leb 48 b l, le-leb b 57 h)

low : (b : ℕ) → b < 48 → is_digit b ≡ false
unfolding is_digit
low b h = rw (lt-leb 48 b h)

high : (b : ℕ) → 57 < b → is_digit b ≡ false
unfolding is_digit
high b h = rw (lt-leb b 57 h) (and-false (leb 48 b))

module _ (at most limit : ℕ) (s : List ℕ) (i v : ℕ) (q : Number) (inv : q ≡ number_from at most limit (drop i s) i v) where
  pub on : (x : ℕ) → i < length s → 48 ≤ get_or s i 0 → get_or s i 0 ≤ 57 → i - at < most → v * 10 + x ≤ limit → x ≡ get_or s i 0 - 48 → q ≡ number_from at most limit (drop (i + 1) s) (i + 1) (v * 10 + x)
  unfolding number_from pick
  on x h l u d f e =
      let f' : v * 10 + (get_or s i 0 - 48) ≤ limit = rw e at f in
      inv ∙ rw (drop-cons s i 0, is_digit_lem (get_or s i 0) l u, lt-leb most (i - at) d, le-ltb limit _ f', e, add-one)

  pub long : i < length s → 48 ≤ get_or s i 0 → get_or s i 0 ≤ 57 → most ≤ i - at → None ≡ q
  unfolding number_from pick
  long h l u d = sym (inv ∙ rw (drop-cons s i 0, is_digit_lem (get_or s i 0) l u, le-leb most (i - at) d))

  pub big : (x : ℕ) → i < length s → 48 ≤ get_or s i 0 → get_or s i 0 ≤ 57 → i - at < most → limit < v * 10 + x → x ≡ get_or s i 0 - 48 → None ≡ q
  unfolding number_from pick
  big x h l u d f e =
      let f' : limit < v * 10 + (get_or s i 0 - 48) = rw e at f in
      sym (inv ∙ rw (drop-cons s i 0, is_digit_lem (get_or s i 0) l u, lt-leb most (i - at) d, lt-ltb limit _ f'))

  pub below : (r : Number) → i < length s → get_or s i 0 < 48 → r ≡ number_end at i v → r ≡ q
  unfolding number_from pick
  below r h l e = e ∙ sym (inv ∙ rw (drop-cons s i 0, low (get_or s i 0) l))

  pub above : (r : Number) → i < length s → 57 < get_or s i 0 → r ≡ number_end at i v → r ≡ q
  unfolding number_from pick
  above r h l e = e ∙ sym (inv ∙ rw (drop-cons s i 0, high (get_or s i 0) l))

  pub end : (r : Number) → length s ≤ i → r ≡ number_end at i v → r ≡ q
  unfolding number_from
  end r h e = e ∙ sym (inv ∙ rw (drop_of_length-le s h))
