-- Laws of the verdict, in the form in which `search` uses them.
use Rattle.std.specs.Prelude.{Bool, List, length, Some, None, Ok, Err, ltb}
use Rattle.std.specs.declared.result.Result.{Result}
use Rattle.std.proofs.Common.{◌≡◌, refl, sym, ap, ◌∙◌, ◌+◌, ◌-◌, ◌<◌, ◌≤◌, arith, ℕ, suc}
use Rattle.std.proofs.Math.Bool.{true, false}
use Rattle.base.specs.Pick.{pick}
use borrow.Author.Tests.{lt-ltb, le-ltb}
use Rattle.base.specs.Lists.{is_at}
use Rattle.megaco.specs.Bytes.{dash}
use Rattle.megaco.specs.White.{after}
use Rattle.megaco.specs.Tokens.{after_number}
use Rattle.megaco.specs.Reading.{identifier_from, message_r}
use Rattle.protocol.specs.Types.{Parsed, Number, number}
use Rattle.read_command.specs.declared.Fault.{Fault}
use Rattle.read_command.specs.declared.Fault.TheVariants.{Fault400, Fault403}
use Rattle.read_command.specs.Places.{range_at, acknowledgement_at}
use Rattle.read_command.specs.Production.{value_in}
use Rattle.read_command.specs.Messages.{Verdict, or_fault, if_number, behind, transaction_at, identifier_at, is_acknowledgement, request_at, part_at, request_t, acks_t, transactions_at, message_at, verdict_of, verdict_is}

-- ---- a range

module _ (s : List ℕ) (at v p : ℕ) (e : number v p ≡ identifier_from 1 s at) (x : Bool) (g : x ≡ is_at s p dash) (t : x ≡ true) where
  range_open : after_number (identifier_from v s (p + 1)) Some ≡ (range_at s at).place
  unfolding range_at after_number value_in after pick
  range_open = rw (← e, ← g, t)

  pub range_fault : None ≡ identifier_from v s (p + 1) → None ≡ (range_at s at).place
  unfolding after_number
  range_fault f = ap (λ n. after_number n Some) f ∙ range_open

  pub range_both : (w q : ℕ) → number w q ≡ identifier_from v s (p + 1) → Some q ≡ (range_at s at).place
  unfolding after_number
  range_both w q f = ap (λ n. after_number n Some) f ∙ range_open

-- ---- transactions and acknowledgements: what follows one of them

-- the end of the message, or at most k more
abbrev pub ends_or : (k : ℕ) (s : List ℕ) → ℕ → Verdict
ends_or k s q = pick (ltb q (length s)) (transactions_at k s q).verdict (Ok tt)

acked : (x : Parsed) (f : ℕ → Verdict) → or_fault Fault400 x f ≡ behind (or_fault Fault400 x Ok) f
unfolding or_fault behind
acked (Some p) f = refl
acked None f = refl

zero_or : (t : Bool) (x : Result ℕ Fault) (f : ℕ → Verdict) → pick t (Err (Fault403 0)) (behind x f) ≡ behind (pick t (Err (Fault403 0)) x) f
unfolding pick behind
zero_or true x f = refl
zero_or false x f = refl

requested : (n : Number) (t : ℕ → Bool) (x : ℕ → ℕ → Result ℕ Fault) (f : ℕ → Verdict)
    → if_number n (λ id p. pick (t id) (Err (Fault403 0)) (behind (x id p) f)) ≡ behind (if_number n (λ id p. pick (t id) (Err (Fault403 0)) (x id p))) f
unfolding if_number
requested (Some (id, p)) t x f = zero_or (t id) (x id p) f
requested None t x f = unfold behind in refl

either : (t : Bool) (x y : Result ℕ Fault) (f : ℕ → Verdict) (v w : Verdict) → v ≡ behind x f → w ≡ behind y f → pick t v w ≡ behind (pick t x y) f
unfolding pick
either true x y f v w h k = h
either false x y f v w h k = k

module _ (s : List ℕ) (k i : ℕ) where
  pub turn : (transactions_at (suc k) s i).verdict ≡ behind (part_at s i) (ends_or k s)
  unfolding transactions_at part_at request_at acks_t request_t
  turn =
      either (is_acknowledgement s i) _ _ (ends_or k s) _ _ (acked (acknowledgement_at s i).place (ends_or k s))
      (requested (identifier_at s i) _ (λ id p. transaction_at id s p) (ends_or k s))

-- the verdict w that is told from the place that n of the parts were read up to
module _ (s : List ℕ) (n i : ℕ) (w : Verdict) (inv : (transactions_at (8 - n) s i).verdict ≡ w) where
  pub none_left : 8 ≤ n → Err Fault400 ≡ w
  unfolding transactions_at
  none_left h = let z : 8 - n ≡ 0 = omega arith in rw z at inv

  module _ (h : n < 8) (x : Result ℕ Fault) (e : x ≡ part_at s i) where
    opened : behind x (ends_or (8 - (n + 1)) s) ≡ w
    opened = let z : 8 - n ≡ suc (8 - (n + 1)) = omega arith in ap (λ y. behind y (ends_or (8 - (n + 1)) s)) e ∙ sym (turn s (8 - (n + 1)) i) ∙ ap (λ k. (transactions_at k s i).verdict) (sym z) ∙ inv

    pub part_fault : (f : Fault) → x ≡ Err f → Err f ≡ w
    unfolding behind
    part_fault f g = sym (ap (λ y. behind y (ends_or (8 - (n + 1)) s)) g) ∙ opened

    module _ (q : ℕ) (g : x ≡ Ok q) where
      onward : ends_or (8 - (n + 1)) s q ≡ w
      unfolding behind
      onward = sym (ap (λ y. behind y (ends_or (8 - (n + 1)) s)) g) ∙ opened

      pub part_last : length s ≤ q → Ok tt ≡ w
      unfolding pick
      part_last l = sym (rw (le-ltb q (length s) l)) ∙ onward

      pub part_more : q < length s → (transactions_at (8 - (n + 1)) s q).verdict ≡ w
      unfolding pick
      part_more l = sym (rw (lt-ltb q (length s) l)) ∙ onward

-- ---- a message

-- who answers the verdict told by position answers that on what is read
pub by_place : (s : List ℕ) {r : Verdict} → r ≡ (message_at s).verdict → r ≡ verdict_of (message_r s)
by_place s e = e ∙ verdict_is s
