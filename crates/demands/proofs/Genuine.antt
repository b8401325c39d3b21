-- Kept replies that transactions gave: what a message's run over them says and keeps.
use Prim.Native.Nat.{ℕ, zero, suc, ◌-◌, ◌≤◌}
use mathlib.Core.Path.{◌≡◌, refl, sym, ap, ◌∙◌, subst}
use mathlib.Core.Logic.{◌⊎◌, inl, inr}
use mathlib.Core.Bool.{Bool, true, false}
use mathlib.Core.List.Memᴰ
use mathlib.Core.List.{List, [], ◌∷◌, ◌++◌}
use mathlib.Core.Option.{Option, none, some}
use lib.ListN.{length, drop}
use Rattle.base.specs.Pick.{pick}
use Rattle.base.specs.Bytes.{◌then◌}
use Rattle.protocol.specs.Types.{Ack}
use Rattle.megaco.specs.Tree.{Action, Transaction, transaction, Part, request, acknowledge, Message, well_formed, fault400, fault403, fault406}
use Rattle.megaco.specs.State.{State}
use Rattle.megaco.specs.Kept.{Kept, kept_under, under, find, youngest, keep, acked, without}
use Rattle.megaco.specs.Reply.{Acted, transaction_text}
use Rattle.megaco.specs.Transaction.{course, fresh, run, steps, run_transaction}
use Rattle.megaco.specs.Message.{identifier}
use Rattle.laws.specs.Membership.{◌∈◌}
use Rattle.laws.specs.Bounds.{largest, Few, few_none, few_request, few_ack}
use Rattle.laws.specs.KeptReplies.{answered_by, without_all, part_by, parts_by, message_by}
use Rattle.laws.proofs.KeptLaws.{under_is, some_not}
use Rattle.laws.proofs.KeptRuns.{Fits, AllFit}
use Rattle.laws.proofs.Bounds.{transaction_fits}
use Rattle.demands.specs.Demands.{Genuine}

-- ---- what stands in the list after a reply is kept, or some are dropped

in_drop : (n : ℕ) (xs : List Kept) (k : Kept) → k ∈ drop n xs → k ∈ xs
in_drop zero xs k i = i
in_drop (suc n) [] k i = i
in_drop (suc n) (x ∷ xs) k i = Memᴰ.tail (in_drop n xs k i)

in_append : (xs : List Kept) (a k : Kept) → k ∈ (xs ++ (a ∷ [])) → (k ≡ a) ⊎ (k ∈ xs)
in_append [] a k (Memᴰ.head p) = inl p
in_append [] a k (Memᴰ.tail m) = absurd (Memᴰ.not-nil m)
in_append (x ∷ xs) a k (Memᴰ.head p) = inr (Memᴰ.head p)
in_append (x ∷ xs) a k (Memᴰ.tail m) = by (in_append xs a k m)
  where
    by : (k ≡ a) ⊎ (k ∈ xs) → (k ≡ a) ⊎ (k ∈ (x ∷ xs))
    by (inl p) = inl p
    by (inr i) = inr (Memᴰ.tail i)

genuine_keep : (a : Kept) (ks : List Kept) → ((acts : List Acted) × (a.reply ≡ transaction_text a.id acts)) → Genuine ks → Genuine (keep a ks)
unfolding keep youngest
genuine_keep a ks y g k i = by (in_append (drop (length ks - 15) ks) a k i)
  where
    by : (k ≡ a) ⊎ (k ∈ drop (length ks - 15) ks) → (acts : List Acted) × (k.reply ≡ transaction_text k.id acts)
    by (inl p) = subst (λ (z : Kept). (acts : List Acted) × (z.reply ≡ transaction_text z.id acts)) (sym p) y
    by (inr m) = g k (in_drop (length ks - 15) ks k m)

in_without : (q : Kept → Bool) (ks : List Kept) (k : Kept) → k ∈ without q ks → k ∈ ks
unfolding without pick
in_without q [] k i = i
in_without q (x ∷ ks) k i = by (q x) i (in_without q ks k)
  where
    by : (t : Bool) → k ∈ pick t (without q ks) (x ∷ without q ks) → (k ∈ without q ks → k ∈ ks) → k ∈ (x ∷ ks)
    by true j r = Memᴰ.tail (r j)
    by false (Memᴰ.head p) r = Memᴰ.head p
    by false (Memᴰ.tail m) r = Memᴰ.tail (r m)

genuine_dropped : (m : List ℕ) (acks : List Ack) (ks : List Kept) → Genuine ks → Genuine (without_all m acks ks)
unfolding without_all
genuine_dropped m [] ks g = g
genuine_dropped m (a ∷ acks) ks g = genuine_dropped m acks _ (λ k i. g k (in_without (acked m a.first a.last) ks k i))

found_genuine : (m : List ℕ) (id : ℕ) (ks : List Kept) (x : List ℕ) → find m id ks ≡ some x → Genuine ks → (acts : List Acted) × (x ≡ transaction_text id acts)
unfolding find pick
found_genuine m id [] x e g = absurd (some_not x (sym e))
found_genuine m id (k ∷ ks) x e g = by (under m id k) refl e (λ f. found_genuine m id ks x f (λ j i. g j (Memᴰ.tail i)))
  where
    by : (t : Bool) → under m id k ≡ t → pick t (some k.reply) (find m id ks) ≡ some x → (find m id ks ≡ some x → (acts : List Acted) × (x ≡ transaction_text id acts))
        → (acts : List Acted) × (x ≡ transaction_text id acts)
    by true u f r =
        let y = g k (Memᴰ.head refl) in
        let z : k.reply ≡ x = cc in
        (y.0, sym z ∙ y.1 ∙ ap (λ (i : ℕ). transaction_text i y.0) (under_is m id k u).id)
    by false u f r = r f

-- ---- the text of a run

pub data Replies : List ℕ → Type 0 where
  no_replies : Replies []
  one_more : (id : ℕ) (acts : List Acted) {x : List ℕ} → Replies x → Replies (transaction_text id acts ++ x)

-- of one of the eight
data Said : List ℕ → Type 0 where
  nothing : Said []
  spoken : (id : ℕ) (acts : List Acted) → Said (transaction_text id acts)

said_more : {x z : List ℕ} → Said x → Replies z → Replies (x then z)
unfolding ◌then◌
said_more nothing r = r
said_more (spoken id acts) r = one_more id acts r

answered_good : (m : List ℕ) (x : Transaction) (st : State) (ks : List Kept) (y : Option (List ℕ)) → find m (identifier x) ks ≡ y → Genuine ks
    → Said (answered_by m x st ks y).text × Genuine (answered_by m x st ks y).kept
unfolding answered_by run_transaction identifier
answered_good m (transaction id acts) st ks none e g =
    let a : List Acted = (run (steps acts) (course st fresh)).progress.acts in
    (spoken id a, genuine_keep (kept_under m id (transaction_text id a)) ks (a, refl) g)
answered_good m (transaction id acts) st ks (some y) e g =
    let f = found_genuine m id ks y e g in
    (subst Said (sym f.1) (spoken id f.0), g)

part_good : (m : List ℕ) (p : Part) (st : State) (ks : List Kept) → Genuine ks → Said (part_by m p st ks).text × Genuine (part_by m p st ks).kept
unfolding part_by
part_good m (request x) st ks g = answered_good m x st ks (find m (identifier x) ks) refl g
part_good m (acknowledge acks) st ks g = (nothing, genuine_dropped m acks ks g)

pub parts_good : (m : List ℕ) (ps : List Part) (st : State) (ks : List Kept) → Genuine ks → Replies (parts_by m ps st ks).text × Genuine (parts_by m ps st ks).kept
unfolding parts_by
parts_good m [] st ks g = (no_replies, g)
parts_good m (p ∷ ps) st ks g =
    let y = part_good m p st ks g in
    let z = parts_good m ps (part_by m p st ks).state (part_by m p st ks).kept y.1 in
    (said_more y.0 z.0, z.1)

pub message_good : (m : List ℕ) (y : Message) (st : State) (ks : List Kept) → Genuine ks → Genuine (message_by m y st ks).kept
unfolding message_by
message_good m (well_formed ps) st ks g = (parts_good m ps st ks g).1
message_good m fault400 st ks g = g
message_good m (fault403 id) st ks g = g
message_good m fault406 st ks g = g

-- ---- parts that a message can hold have replies that fit

request_fits : (id : ℕ) (acts : List Action) → id ≤ largest → Fits (request (transaction id acts))
unfolding run_transaction
request_fits id acts l st = transaction_fits id (run (steps acts) (course st fresh)).progress.acts l

pub all_fit : (k : ℕ) (ps : List Part) → Few k ps → AllFit ps
all_fit k [] few_none = tt
all_fit (suc k) (request (transaction id acts) ∷ ps) (few_request l f) = (request_fits id acts l, all_fit k ps f)
all_fit (suc k) (acknowledge ks ∷ ps) (few_ack f) = (tt, all_fit k ps f)
all_fit zero (_ ∷ ps) x3 = elim x3 [ ]
