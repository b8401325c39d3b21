-- A transaction that the grammar calls bad is found bad: 403 with its identifier, behind whole transactions too.
use Prim.Native.Nat.{ℕ, zero, suc, ◌<◌}
use mathlib.Core.Path.{◌≡◌, refl, ◌∙◌}
use mathlib.Core.List.{List, ◌++◌, append_assoc}
use lib.ListN.{length, drop}
use native.Mathlib.Omega.{arith}
use Rattle.base.specs.Pick.{pick}
use Rattle.base.specs.Bytes.{text}
use Rattle.megaco.specs.Bytes.{is_digit}
use Rattle.megaco.specs.Tree.{Action, Message, fault403}
use Rattle.megaco.specs.Reading.{Read, got, fault, actions_r, elsewhere, numbered, inside, followed, end_or, request_then, transactions_r}
use Rattle.protocol.specs.Types.{TransToken}
use Rattle.grammar.specs.Grammar.{NAME, name}
use Rattle.grammar.specs.Faults.{Whole, none_whole, one_more, Closed, BadTransaction, unclosed, zero_identifier}
use Rattle.grammar.proofs.Classes.{digit_has}
use Rattle.grammar.proofs.Places.{regroup3, given}
use Rattle.grammar.proofs.WhiteLaws.{Solid}
use Rattle.grammar.proofs.RowLaws.{number_complete}
use Rattle.grammar.proofs.WordLaws.{trans_name}
use Rattle.grammar.proofs.ListLaws.{key_complete}
use Rattle.grammar.proofs.ItemLaws.{name_solid}
use Rattle.grammar.proofs.PropertyLaws.{uint_solid}
use Rattle.grammar.proofs.TransactionLaws.{actions_sound, no_ack, opening_complete, part_complete, part_solid, part_long, more_of}
use Rattle.grammar.proofs.OutcomeLaws.{without_stops, digit_0, opening_split}

name_long : {a : List ℕ} (t : List ℕ) → NAME a → 0 < length (a ++ t)
name_long t (name h m l) = omega arith

-- a bad transaction begins with its keyword
bad_solid : {c : List ℕ} {id : ℕ} → BadTransaction c id → Solid c
bad_solid (unclosed {a} {b} {c} {d} {t} k e n w g) = rw (opening_split a b c d t) (name_solid _ (trans_name k))
bad_solid (zero_identifier {a} {b} {c} {t} k e n w) = rw (regroup3 a b c t) (name_solid _ (trans_name k))

bad_long : {c : List ℕ} {id : ℕ} → BadTransaction c id → 0 < length c
bad_long (unclosed {a} {b} {c} {d} {t} k e n w g) = rw (opening_split a b c d t) (name_long _ (trans_name k))
bad_long (zero_identifier {a} {b} {c} {t} k e n w) = rw (regroup3 a b c t) (name_long _ (trans_name k))

-- actions that no part of the text closes are a fault
unclosed_fault : (s : List ℕ) (p id : ℕ) (f : List Action → ℕ → Message) → ((x y : List ℕ) (xs : List Action) → drop p s ≡ x ++ y → ¬ Closed x xs)
    → inside id (actions_r s p) f ≡ fault403 id
unfolding inside
unclosed_fault s p id f g = go (actions_r s p) refl
  where
    go : (r : Read (List Action)) → actions_r s p ≡ r → inside id r f ≡ fault403 id
    go (got xs e) i = given (actions_sound s xs p e i) (λ y. absurd (g y.bytes (drop e s) xs y.split y.derives))
    go fault i = refl

bad_complete : (s : List ℕ) (k : ℕ) {c : List ℕ} {id : ℕ} (at : ℕ) → BadTransaction c id → drop at s ≡ c → transactions_r (suc k) s at ≡ fault403 id
unfolding transactions_r request_then elsewhere numbered pick
bad_complete s k at (unclosed {a} {b} {c} {d} {t} {id} x e n w g) h = given (opening_complete s t at x e n w (h ∙ opening_split a b c d t)) (λ o.
    o.is k ∙ unclosed_fault s o.end id _ (rw o.leaves g))
bad_complete s k at (zero_identifier {a} {b} {c} {t} x e n w) h =
    given (no_ack s (c ++ t) at x e (h ∙ regroup3 a b c t)) (λ v.
    given (key_complete TransToken s (c ++ t) at x (trans_name x) e (uint_solid t n) (h ∙ regroup3 a b c t)) (λ p.
    given (number_complete s t p.end 10 4294967295 n (without_stops is_digit (text "0123456789") digit_has digit_0 w) p.leaves) (λ q.
    rw (v, p.is, q.is))))

-- whole transactions and a bad one
pub whole_solid : {n id : ℕ} {w c : List ℕ} → Whole n w → BadTransaction c id → Solid (w ++ c)
whole_solid none_whole x = bad_solid x
whole_solid {c} (one_more {a} {b} y w) x = rw (append_assoc a b c) (part_solid (b ++ c) y)

whole_long : {n id : ℕ} {w c : List ℕ} → Whole n w → BadTransaction c id → 0 < length (w ++ c)
whole_long none_whole x = bad_long x
whole_long {c} (one_more {a} {b} y w) x = rw (append_assoc a b c) (part_long (b ++ c) y)

pub whole_bad : (s : List ℕ) (k : ℕ) {n id : ℕ} {w c : List ℕ} (at : ℕ) → Whole n w → n < k → BadTransaction c id → drop at s ≡ w ++ c
    → transactions_r k s at ≡ fault403 id
unfolding end_or followed pick
whole_bad s zero at w l x h = absurd (omega arith)
whole_bad s (suc k) at none_whole l x h = bad_complete s k at x h
whole_bad s (suc k) {c} at (one_more {a} {b} y w) l x h = given (part_complete s (b ++ c) at y (whole_solid w x) (h ∙ append_assoc a b c)) (λ r.
    r.is k ∙ rw (more_of s (b ++ c) r.end r.leaves (whole_long w x), whole_bad s k r.end w (omega arith) x r.leaves))
