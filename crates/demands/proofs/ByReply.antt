-- The reply tells what was done, where each kept reply is one that a transaction gave: no run replies what a fault does, nor one fault what another.
use Prim.Native.Nat.{ℕ, zero, suc, ◌+◌, ◌*◌, ◌-◌, ◌/◌, ◌%◌, ◌<◌}
use mathlib.Core.Path.{◌≡◌, refl, sym, ap, ◌∙◌}
use mathlib.Core.Logic.{◌≢◌}
use mathlib.Core.List.{List, [], ◌∷◌, ◌++◌, append_assoc, append-nil}
use lib.ListN.{length, get_or, drop}
use lib.Dec.{ltb}
use borrow.Author.Tests.{ltb-true, ltb-false}
use native.Mathlib.Omega.{arith}
use Rattle.base.specs.Pick.{pick}
use Rattle.base.specs.Bytes.{text, ◌then◌, decimal_f, decimal}
use Rattle.base.proofs.PickLaws.{pick_ind}
use Rattle.megaco.specs.Kept.{Kept}
use Rattle.megaco.specs.Tree.{Message, well_formed, fault400, fault403, fault406}
use Rattle.megaco.specs.State.{State}
use Rattle.megaco.specs.Reply.{Acted, action_text, earlier_text, actions_text, error_text, reply_text, limited, transaction_text}
use Rattle.laws.specs.KeptReplies.{message_by}
use Rattle.grammar.specs.Grammar.{value_from}
use Rattle.demands.specs.Demands.{Genuine}
use Rattle.demands.proofs.Genuine.{Replies, no_replies, one_more, parts_good}

-- ---- a number in decimal is digits, and tells the number

data Digits : List ℕ → Type 0 where
  none : Digits []
  more : {b : ℕ} {bs : List ℕ} → b < 58 → Digits bs → Digits (b ∷ bs)

digits_end : {xs : List ℕ} (b : ℕ) → Digits xs → b < 58 → Digits (xs ++ (b ∷ []))
digits_end b none h = more h none
digits_end b (more k l) h = more k (digits_end b l h)

decimal_digits : (k n : ℕ) → Digits (decimal_f k n)
unfolding decimal_f
decimal_digits zero n = none
decimal_digits (suc k) n =
    pick_ind Digits _ _ _ (λ e. more (omega (arith, ltb-true n 10 e)) none) (λ e. digits_end _ (decimal_digits k (n / 10)) (omega arith))

value_end_lem : (xs : List ℕ) (v b : ℕ) → value_from v (xs ++ (b ∷ [])) ≡ value_from v xs * 10 + (b - 48)
unfolding value_from
value_end_lem [] v b = refl
value_end_lem (x ∷ xs) v b = value_end_lem xs (v * 10 + (x - 48)) b

value_digits : (k n : ℕ) → n < k → value_from 0 (decimal_f k n) ≡ n
unfolding decimal_f value_from
value_digits zero n h = absurd (omega arith)
value_digits (suc k) n h =
    pick_ind (λ z. value_from 0 z ≡ n) (ltb n 10) ((48 + n) ∷ []) (decimal_f k (n / 10) ++ ((48 + n % 10) ∷ []))
    (λ e. omega arith)
    (λ e. value_end_lem (decimal_f k (n / 10)) 0 (48 + n % 10) ∙ omega (arith, value_digits k (n / 10) (omega (arith, ltb-false n 10 e))))

decimal_value : (n : ℕ) → value_from 0 (decimal n) ≡ n
unfolding decimal
decimal_value n = value_digits (n + 1) n (omega arith)

-- ---- what stands before and behind the first brace

cut : {xs ys a b : List ℕ} → Digits xs → Digits ys → xs ++ (0x7b ∷ a) ≡ ys ++ (0x7b ∷ b) → (xs ≡ ys) × (a ≡ b)
cut none none e = (refl, ap (drop 1) e)
cut none (more h l) e = absurd (omega (arith, h, ap (λ (z : List ℕ). get_or z 0 0) e))
cut (more h l) none e = absurd (omega (arith, h, ap (λ (z : List ℕ). get_or z 0 0) e))
cut (more h l) (more k m) e =
    let p = ap (λ (z : List ℕ). get_or z 0 0) e in
    let q = cut l m (ap (drop 1) e) in ((λ i. p i ∷ q.0 i), q.1)

reply_form : (id : ℕ) (x rest : List ℕ) → reply_text id x ++ rest ≡ 0x50 ∷ 0x3d ∷ (decimal id ++ (0x7b ∷ (x ++ (0x7d ∷ rest))))
unfolding reply_text ◌then◌
reply_form id x rest =
    ap (λ (z : List ℕ). 0x50 ∷ 0x3d ∷ z)
    (append_assoc (decimal id) (0x7b ∷ (x ++ (0x7d ∷ []))) rest ∙ ap (λ (z : List ℕ). decimal id ++ (0x7b ∷ z)) (append_assoc x (0x7d ∷ []) rest))

behind_brace : (i j : ℕ) (x y rest : List ℕ) → reply_text i x ++ rest ≡ reply_text j y → (i ≡ j) × (x ++ (0x7d ∷ rest) ≡ y ++ (0x7d ∷ []))
unfolding decimal
behind_brace i j x y rest e =
    let f = sym (reply_form i x rest) ∙ e ∙ sym (append-nil (reply_text j y)) ∙ reply_form j y [] in
    let q = cut (decimal_digits (i + 1) i) (decimal_digits (j + 1) j) (ap (drop 2) f) in
    (sym (decimal_value i) ∙ ap (value_from 0) q.0 ∙ decimal_value j, q.1)

-- ---- the texts of faults

error_400 : error_text 400 ≡ text "ER=400{}"
unfolding error_text decimal decimal_f pick ◌then◌
error_400 = refl

error_403 : error_text 403 ≡ text "ER=403{}"
unfolding error_text decimal decimal_f pick ◌then◌
error_403 = refl

error_406 : error_text 406 ≡ text "ER=406{}"
unfolding error_text decimal decimal_f pick ◌then◌
error_406 = refl

error_533 : error_text 533 ≡ text "ER=533{}"
unfolding error_text decimal decimal_f pick ◌then◌
error_533 = refl

reply_first : (id : ℕ) (x : List ℕ) → get_or (reply_text id x) 0 0 ≡ 0x50
unfolding reply_text ◌then◌
reply_first id x = refl

-- ---- the text of a run

first_action : (a : Acted) (earlier : List Acted) (y : List ℕ) → get_or (actions_text (a ∷ earlier) ++ y) 0 0 ≡ 0x43
unfolding actions_text earlier_text action_text ◌then◌
first_action a [] y = refl
first_action a (b ∷ earlier) y =
    let Z = action_text a.at a.said in
    ap (λ (z : List ℕ). get_or z 0 0) (append_assoc (actions_text (b ∷ earlier) ++ text ",") Z y ∙ append_assoc (actions_text (b ∷ earlier)) (text ",") (Z ++ y))
    ∙ first_action b earlier (text "," ++ (Z ++ y))

actions_not_403 : (acts : List Acted) (rest : List ℕ) → actions_text acts ++ (0x7d ∷ rest) ≢ text "ER=403{}" ++ (0x7d ∷ [])
unfolding actions_text
actions_not_403 [] rest e = omega (arith, ap (λ (z : List ℕ). get_or z 0 0) e)
actions_not_403 (a ∷ earlier) rest e = omega (arith, first_action a earlier (0x7d ∷ rest), ap (λ (z : List ℕ). get_or z 0 0) e)

not_403 : (id j : ℕ) (acts : List Acted) (rest : List ℕ) → limited id (reply_text id (actions_text acts)) ++ rest ≢ reply_text j (error_text 403)
unfolding limited
not_403 id j acts rest =
    pick_ind (λ z. z ++ rest ≢ reply_text j (error_text 403)) (ltb 2048 (length (reply_text id (actions_text acts)))) (reply_text id (error_text 533)) (reply_text id (actions_text acts))
    (λ _ e. omega (arith, ap (λ (z : List ℕ). get_or z 3 0) (rw (error_533, error_403) at (behind_brace id j _ _ rest e).1)))
    (λ _ e. actions_not_403 acts rest (rw error_403 at (behind_brace id j _ _ rest e).1))

first_limited : (id : ℕ) (x rest : List ℕ) → get_or (limited id (reply_text id x) ++ rest) 0 0 ≡ 0x50
unfolding limited reply_text ◌then◌
first_limited id x rest = pick_ind (λ z. get_or (z ++ rest) 0 0 ≡ 0x50) (ltb 2048 (length (reply_text id x))) (reply_text id (error_text 533)) (reply_text id x) (λ _. refl) (λ _. refl)

pub replies_not_403 : (x : List ℕ) → Replies x → (j : ℕ) → x ≢ reply_text j (error_text 403)
unfolding transaction_text
replies_not_403 x no_replies j e = omega (arith, reply_first j (error_text 403), ap (λ (z : List ℕ). get_or z 0 0) e)
replies_not_403 x (one_more id acts {x = y} r) j e = not_403 id j acts y e

pub replies_not_error : (x : List ℕ) → Replies x → get_or x 0 0 ≢ 0x45
unfolding transaction_text
replies_not_error x no_replies e = omega (arith, e)
replies_not_error x (one_more id acts {x = y} r) e = let f : ◌≡◌ {A = ℕ} 0x50 0x45 = sym (first_limited id (actions_text acts) y) ∙ e in omega (arith, f)

-- ---- so a text tells the message's kind

pub replies_not_400 : (x : List ℕ) → Replies x → x ≢ error_text 400
replies_not_400 x r e = replies_not_error x r (ap (λ (z : List ℕ). get_or z 0 0) (rw error_400 at e))

pub replies_not_406 : (x : List ℕ) → Replies x → x ≢ error_text 406
replies_not_406 x r e = replies_not_error x r (ap (λ (z : List ℕ). get_or z 0 0) (rw error_406 at e))

module _ (m : List ℕ) (st : State) (ks : List Kept) (g : Genuine ks) where
  pub only_400 : (y : Message) → (message_by m y st ks).text ≡ error_text 400 → y ≡ fault400
  unfolding message_by
  only_400 (well_formed ps) e = absurd (replies_not_400 _ (parts_good m ps st ks g).0 e)
  only_400 fault400 e = refl
  only_400 (fault403 id) e = absurd (omega (arith, reply_first id (error_text 403), ap (λ (z : List ℕ). get_or z 0 0) (rw error_400 at e)))
  only_400 fault406 e = absurd (omega (arith, ap (λ (z : List ℕ). get_or z 5 0) (rw (error_400, error_406) at e)))

  pub only_406 : (y : Message) → (message_by m y st ks).text ≡ error_text 406 → y ≡ fault406
  unfolding message_by
  only_406 (well_formed ps) e = absurd (replies_not_406 _ (parts_good m ps st ks g).0 e)
  only_406 fault400 e = absurd (omega (arith, ap (λ (z : List ℕ). get_or z 5 0) (rw (error_400, error_406) at e)))
  only_406 (fault403 id) e = absurd (omega (arith, reply_first id (error_text 403), ap (λ (z : List ℕ). get_or z 0 0) (rw error_406 at e)))
  only_406 fault406 e = refl

  pub only_403 : (y : Message) (id : ℕ) → (message_by m y st ks).text ≡ reply_text id (error_text 403) → y ≡ fault403 id
  unfolding message_by
  only_403 (well_formed ps) id e = absurd (replies_not_403 _ (parts_good m ps st ks g).0 id e)
  only_403 fault400 id e = absurd (omega (arith, reply_first id (error_text 403), ap (λ (z : List ℕ). get_or z 0 0) (rw error_400 at e)))
  only_403 (fault403 j) id e = ap fault403 (behind_brace j id (error_text 403) (error_text 403) [] (append-nil (reply_text j (error_text 403)) ∙ e)).0
  only_403 fault406 id e = absurd (omega (arith, reply_first id (error_text 403), ap (λ (z : List ℕ). get_or z 0 0) (rw error_406 at e)))
