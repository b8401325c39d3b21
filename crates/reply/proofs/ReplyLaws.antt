-- A reply and an action around what stands in their braces, and the limit of 2,048 bytes.
use Prim.Native.Nat.{ℕ, ◌-◌, ◌<◌, ◌≤◌, min}
use mathlib.Core.Path.{◌≡◌, refl, sym, ap, ◌∙◌}
use mathlib.Core.List.{List}
use mathlib.Core.Bool.{Bool, true, false}
use native.Mathlib.Omega.{arith}
use lib.ListN.{length, take, drop, replicate, length-replicate}
use lib.Dec.{ltb}
use lib.Seq.{take_all}
use borrow.Author.Tests.{lt-ltb, le-ltb, ltb-true, ltb-false}
use Rattle.base.specs.Pick.{pick}
use Rattle.base.specs.Bytes.{text, ◌then◌}
use Rattle.base.specs.Out.{Appended}
use Rattle.base.proofs.TextLaws.{then_assoc}
use Rattle.base.proofs.OutLaws.{◌▸◌, length_put, take_put}
use Rattle.protocol.specs.Types.{Context}
use Rattle.megaco.specs.Reply.{Report, error_text, reports_text, action_text, reply_text, limited}
use Rattle.reply.specs.Texts.{reply_open, action_open, limited_from}

-- `P=id{..}` and `C=id{..}`
pub reply_is : (id : ℕ) (x : List ℕ) → reply_text id x ≡ reply_open id then x then text "}"
unfolding reply_text reply_open
reply_is id x = simp then_assoc

pub action_is : (c : Context) (said : List Report) → action_text c said ≡ action_open c then reports_text true said then text "}"
unfolding action_text action_open
action_is c said = simp then_assoc

pub fault_is : (o : List ℕ) (at id code : ℕ) (o₁ o₂ o₃ : List ℕ) (p q r : ℕ) → Appended o at (reply_open id) o₁ p → Appended o₁ p (error_text code) o₂ q
    → Appended o₂ q (text "}") o₃ r → Appended o at (reply_text id (error_text code)) o₃ r
fault_is o at id code o₁ o₂ o₃ p q r f g h = rw reply_is (f ▸ g ▸ h)

-- a text that was put into a scratch buffer of 2,049 bytes
module _ (z bs scratch : List ℕ) (n : ℕ) (size : length z ≡ 2049) (w : Appended z 0 bs scratch n) where
  held_short : n < 2049 → (length bs ≤ 2048) × (take (min n (length scratch)) scratch ≡ bs)
  held_short h =
      let m : n ≡ length bs = omega (arith, w.next) in
      let l : length scratch ≡ length z = ap length w.text ∙ length_put z 0 bs in
      let e : min n (length scratch) ≡ length bs = omega arith in
      (omega arith, rw (e, w.text) (take_put z bs (omega arith)))

  held_long : 2049 ≤ n → 2048 < length bs
  held_long h = omega (arith, w.next)

-- the first n bytes, as far as there are so many
take_low : (n : ℕ) (l : List ℕ) → take (min n (length l)) l ≡ take n l
take_low n l = by (ltb n (length l)) refl
  where
    by : (b : Bool) → ltb n (length l) ≡ b → take (min n (length l)) l ≡ take n l
    by true e = let h : n < length l = ltb-true _ _ e in let z : min n (length l) ≡ n = omega arith in rw z
    by false e =
        let h : length l ≤ n = ltb-false _ _ e in
        let z : min n (length l) ≡ length l = omega arith in
        rw z (take_all (length l) l (omega arith) ∙ sym (take_all n l h))

module _ (id : ℕ) (scratch : List ℕ) (n : ℕ) (o : List ℕ) (at : ℕ) (o' : List ℕ) (r : ℕ) where
  pub limited_short : (e : ℕ) → n < 2049 → e ≡ min n (length scratch) → Appended o at (take (e - 0) (drop 0 scratch)) o' r → Appended o at (limited_from id scratch n) o' r
  unfolding limited_from pick
  limited_short e h m f =
      let z : e - 0 ≡ min n (length scratch) = omega arith in
      rw (lt-ltb n 2049 h) (rw (z, take_low n scratch) at f)

  pub limited_long : 2049 ≤ n → Appended o at (reply_text id (error_text 533)) o' r → Appended o at (limited_from id scratch n) o' r
  unfolding limited_from pick
  limited_long h f = rw (le-ltb n 2049 h) f

-- who put a text into a scratch buffer of 2,049 bytes has it limited
pub limited_from_lem : (id : ℕ) (scratch : List ℕ) (n : ℕ) (bs : List ℕ) → Appended (replicate 2049 0) 0 bs scratch n → limited_from id scratch n ≡ limited id bs
unfolding limited_from limited pick
limited_from_lem id scratch n bs w = by (ltb n 2049) refl
  where
    by : (b : Bool) → ltb n 2049 ≡ b → pick b (take n scratch) (reply_text id (error_text 533)) ≡ pick (ltb 2048 (length bs)) (reply_text id (error_text 533)) bs
    by true e =
        let k = held_short (replicate 2049 0) bs scratch n (length-replicate {A = ℕ} 2049 0) w (ltb-true n 2049 e) in
        rw (le-ltb 2048 (length bs) k.0) (sym (take_low n scratch) ∙ k.1)
    by false e = rw (lt-ltb 2048 (length bs) (held_long (replicate 2049 0) bs scratch n (length-replicate {A = ℕ} 2049 0) w (ltb-false n 2049 e)))
