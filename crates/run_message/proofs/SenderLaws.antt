-- The sender's mId, as it is found in a message that reads.
use Rattle.std.specs.Prelude.{Some, None, Ok, Err}
use Prim.Native.Nat.{ℕ, ◌+◌, ◌-◌, ◌≤◌, min}
use mathlib.Core.Path.{◌≡◌, refl, sym, ap, ◌∙◌}
use mathlib.Core.Bool.{Bool, true, false}
use mathlib.Core.List.{List}
use native.Mathlib.Omega.{arith}
use lib.Dec.{ltb}
use lib.ListN.{length, take, drop, length-take, drop_of_length-le}
use borrow.Author.Tests.{ltb-true, ltb-false, le-ltb}
use Rattle.base.specs.Pick.{pick}
use Rattle.base.specs.Lists.{part}
use Rattle.megaco.specs.White.{after, stop_at, white_from, white_at, sep_at}
use Rattle.megaco.specs.Tokens.{number_at, m_id_at}
use Rattle.megaco.specs.Reading.{bind, skip, reading, read_number, start_at, sender_at, sender_r, or_no_bytes, sender_of, message_r}
use Rattle.protocol.specs.Types.{Parsed, Number}
use Rattle.read_command.specs.declared.Fault.TheVariants.{Fault400}
use Rattle.read_command.specs.declared.Piece.{Piece}
use Rattle.read_command.specs.Pieces.{piece_of, Holds}
use Rattle.read_command.specs.Production.{end_of, next_in, number_after}
use Rattle.read_command.specs.Messages.{Verdict, or_fault, if_number, version_at, header_end, message_at, verdict_of, verdict_is}
use Rattle.action_places.specs.ActionPlaces.{sender_start, sender_end, sender_here}
use Rattle.laws.proofs.Senders.{Reach, mid_reach}

-- nothing stands past the end
past_sep : (s : List ℕ) (e : ℕ) → length s ≤ e → sep_at s e ≡ None
unfolding sep_at white_at white_from stop_at after pick
past_sep s e h = rw (drop_of_length-le s h, le-ltb e e (omega arith))

-- ---- its bytes

not_well : ◌≡◌ {A = Verdict} (Err Fault400) (Ok tt) → ⊥
not_well e = cc

module _ (s : List ℕ) (g : ℕ → ℕ → Verdict) where
  abbrev found : ℕ → List ℕ
  found q = part s (end_of (sep_at s q)) (end_of (m_id_at s (end_of (sep_at s q))))

  mid_read : (a : ℕ) (v : ℕ) (x : Parsed) → or_fault Fault400 (after x (sep_at s)) (g v) ≡ Ok tt → or_no_bytes (reading x (part s a)) ≡ part s a (end_of x)
  unfolding after or_fault reading or_no_bytes end_of
  mid_read a v (Some e) h = refl
  mid_read a v None h = absurd (not_well h)

  sep_read : (v : ℕ) (x : Parsed) → or_fault Fault400 (after x (λ p. after (m_id_at s p) (sep_at s))) (g v) ≡ Ok tt
      → or_no_bytes (skip x (λ a. reading (m_id_at s a) (part s a))) ≡ part s (end_of x) (end_of (m_id_at s (end_of x)))
  unfolding after skip end_of
  sep_read v (Some a) h = mid_read a v (m_id_at s a) h
  sep_read v None h = unfold or_fault in absurd (not_well h)

  number_read : (n : Number) → if_number n (λ v q. or_fault Fault400 (sender_at s q) (g v)) ≡ Ok tt
      → or_no_bytes (bind (read_number n (λ v. v)) (λ v q. skip (sep_at s q) (λ a. reading (m_id_at s a) (part s a)))) ≡ found (next_in n)
  unfolding if_number bind read_number next_in sender_at
  number_read (Some (v, q)) h = sep_read v (sep_at s q) h
  number_read None h = absurd (not_well h)

  start_read : (x : Parsed) → if_number (number_after x (λ p. number_at s p 2 99)) (λ v q. or_fault Fault400 (sender_at s q) (g v)) ≡ Ok tt
      → or_no_bytes (skip x (λ p. bind (read_number (number_at s p 2 99) (λ v. v)) (λ v q. skip (sep_at s q) (λ a. reading (m_id_at s a) (part s a))))) ≡ found (next_in (number_after x (λ p. number_at s p 2 99)))
  unfolding number_after skip
  start_read (Some p) h = number_read (number_at s p 2 99) h
  start_read None h = unfold if_number in absurd (not_well h)

  -- where the white space behind it ends

  mid_ends : (v : ℕ) (x : Parsed) → or_fault Fault400 (after x (sep_at s)) (g v) ≡ Ok tt → end_of (after x (sep_at s)) ≡ end_of (sep_at s (min (end_of x) (length s)))
  unfolding after or_fault end_of
  mid_ends v (Some e) h = by (ltb e (length s)) refl
    where
      by : (b : Bool) → ltb e (length s) ≡ b → end_of (sep_at s e) ≡ end_of (sep_at s (min e (length s)))
      by true q = let z : min e (length s) ≡ e = omega (arith, ltb-true e (length s) q) in rw z
      by false q = absurd (not_well (rw (past_sep s e (ltb-false e (length s) q)) at h))
  mid_ends v None h = absurd (not_well h)

  sep_ends : (v : ℕ) (x : Parsed) → or_fault Fault400 (after x (λ p. after (m_id_at s p) (sep_at s))) (g v) ≡ Ok tt
      → end_of (after x (λ p. after (m_id_at s p) (sep_at s))) ≡ end_of (sep_at s (min (end_of (m_id_at s (end_of x))) (length s)))
  sep_ends v (Some a) h = unfold after end_of in mid_ends v (m_id_at s a) (unfold after in h)
  sep_ends v None h = absurd (not_well (unfold after or_fault in h))

  number_ends : (n : Number) → if_number n (λ v q. or_fault Fault400 (sender_at s q) (g v)) ≡ Ok tt
      → end_of (sender_at s (next_in n)) ≡ end_of (sep_at s (min (end_of (m_id_at s (end_of (sep_at s (next_in n))))) (length s)))
  unfolding if_number next_in sender_at
  number_ends (Some (v, q)) h = sep_ends v (sep_at s q) h
  number_ends None h = absurd (not_well h)

-- of a message that reads, they are those that the definition takes for the sender's
pub sender_is : (s : List ℕ) → verdict_of (message_r s) ≡ Ok tt → sender_here s ≡ sender_of s
unfolding sender_here sender_start sender_end sender_of sender_r version_at message_at
sender_is s h = sym (start_read s _ (start_at s) (verdict_is s ∙ h))

-- the transactions begin where the white space behind them ends
pub header_is : (s : List ℕ) (w : Piece) (x : Parsed) (i : ℕ) → verdict_of (message_r s) ≡ Ok tt → Holds s (sender_start s) (sender_end s) w → x ≡ sep_at s w.to → i ≡ end_of x → i ≡ header_end s
unfolding sender_start sender_end header_end message_at piece_of
header_is s w x i v h e f =
    let z : w.to ≡ min (sender_end s) (length s) = ap (λ (p : Piece). p.to) h.is in
    f ∙ ap end_of e ∙ ap (λ (k : ℕ). end_of (sep_at s k)) z ∙ sym (number_ends s _ (version_at s) (verdict_is s ∙ v))

pub reads : (s : List ℕ) (v : Verdict) → v ≡ verdict_of (message_r s) → v ≡ Ok tt → verdict_of (message_r s) ≡ Ok tt
reads s v e f = sym e ∙ f

-- ---- at most 72

reach_end : (a : ℕ) (x : Parsed) → Reach (a + 72) x → end_of x - a ≤ 72
unfolding end_of
reach_end a (Some p) h = omega arith
reach_end a None h = omega arith

pub sender_short : (s : List ℕ) (w : Piece) → Holds s (sender_start s) (sender_end s) w → length (part s w.from w.to) ≤ 72
unfolding sender_end part
sender_short s w h =
    let a : ℕ = sender_start s in
    let b : ℕ = end_of (m_id_at s a) in
    let e : take (w.to - w.from) (drop w.from s) ≡ take (b - a) (drop a s) = h.bytes in
    omega (arith, ap length e, length-take (b - a) (drop a s), reach_end a (m_id_at s a) (mid_reach s a))
