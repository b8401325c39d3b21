-- The kept replies in a message's run: a sound room stays sound, a message is told by the list of kept replies, and demand 3's addition.
use Prim.Native.Nat.{ℕ, suc, ◌+◌, ◌≤◌}
use mathlib.Core.Path.{◌≡◌, refl, sym, ap, ◌∙◌, subst}
use mathlib.Core.Bool.{Bool, true, false, ◌||◌}
use mathlib.Core.List.{List, [], ◌∷◌, map}
use mathlib.Core.Option.{Option, none, some}
use native.Mathlib.Omega.{arith}
use lib.ListN.{length, take, drop, get_or, length-take, length-map}
use lib.Dec.{eqb}
use Rattle.base.specs.Pick.{pick}
use Rattle.base.specs.Lists.{before}
use Rattle.base.specs.Bytes.{◌then◌}
use Rattle.base.proofs.TestLaws.{not_holds}
use Rattle.protocol.specs.Types.{Ack}
use Rattle.megaco.specs.Tree.{Transaction, Part, request, acknowledge, Message, well_formed, fault400, fault403, fault406}
use Rattle.megaco.specs.Table.{sound}
use Rattle.megaco.specs.State.{State}
use Rattle.megaco.specs.Kept.{Kept, kept_under, under, find, keep, acked}
use Rattle.megaco.specs.Room.{Room, slot_place, slot_of, slot_reply, held_in, kept_of, room_sound, keep_in, drop_in}
use Rattle.megaco.specs.Transaction.{run_transaction}
use Rattle.megaco.specs.Message.{Served, served, identifier, answered, drop_all, run_part, run_parts, run_message}
use Rattle.laws.specs.Apart.{Apart}
use Rattle.laws.specs.Mix.{Both, Mixture, mixed, steps_of, both_fresh}
use Rattle.laws.specs.Demand.{EitherOrder, AsOneAfterOther}
use Rattle.laws.specs.KeptReplies.{Noted, noted, noted_of, answered_by, without_all, part_by, parts_by, message_by, PairsApart, SameSet, EitherOrderKept, MixtureKept}
use Rattle.laws.proofs.Demand.{either_order, any_mixture}
use Rattle.laws.proofs.KeptLaws.{under_is, some_not, find_keep, find_kept, keeps_alike}
use Rattle.laws.proofs.RoomWhole.{Slot, Held, free, held, sound_whole}
use Rattle.laws.proofs.RoomKeeps.{Keepable, keep_sound, keep_kept}
use Rattle.laws.proofs.RoomDrops.{drop_sound, drop_kept}

-- a transaction whose reply is of at most 2,048 bytes from any state
abbrev pub Fits : Part → Type 0
Fits (request x) = (st : State) → length (run_transaction x st).text ≤ 2048
Fits (acknowledge ks) = Unit {0}

abbrev pub AllFit : List Part → Type 0
AllFit [] = Unit {0}
AllFit (p ∷ ps) = Fits p × AllFit ps

-- a part's room is sound, and what is noted of it follows from what was noted before
pub record Follows (x : Served) (y : Noted) : Type 0 where
  pub sound : room_sound x.room ≡ true
  pub noted_is : noted_of x ≡ y

module _ (m : List ℕ) (short : length m ≤ 72) where
  drop_all_lem : (acks : List Ack) (r : Room) → room_sound r ≡ true → (room_sound (drop_all m acks r) ≡ true) × (kept_of (drop_all m acks r) ≡ without_all m acks (kept_of r))
  unfolding drop_all without_all
  drop_all_lem [] r s = (s, refl)
  drop_all_lem (a ∷ acks) r s =
      let q : Kept → Bool = acked m a.first a.last in
      let p = drop_all_lem acks (drop_in q r) (drop_sound q r s) in
      (p.0, p.1 ∙ ap (without_all m acks) (drop_kept q r s))

  answered_follows : (x : Transaction) (st : State) (r : Room) → room_sound r ≡ true → length (run_transaction x st).text ≤ 2048
      → (o : Option (List ℕ)) → find m (identifier x) (kept_of r) ≡ o → Follows (answered m x st r o) (answered_by m x st (kept_of r) o)
  unfolding answered answered_by
  answered_follows x st r s f (some reply) e = record { sound = s; noted_is = refl }
  answered_follows x st r s f none e =
      let k : Kept = kept_under m (identifier x) (run_transaction x st).text in
      let K : Keepable k (kept_of r) = record { sender = short; reply = f; new = e } in
      record {
        sound = keep_sound k r s K;
        noted_is = ap (λ (ks : List Kept). noted (run_transaction x st).state ks (run_transaction x st).text true) (keep_kept k r s K);
      }

  pub part_follows : (p : Part) (st : State) (r : Room) → Fits p → room_sound r ≡ true → Follows (run_part m p st r) (part_by m p st (kept_of r))
  unfolding run_part part_by
  part_follows (request x) st r f s = answered_follows x st r s (f st) (find m (identifier x) (kept_of r)) refl
  part_follows (acknowledge acks) st r f s =
      let p = drop_all_lem acks r s in
      record { sound = p.0; noted_is = ap (λ (ks : List Kept). noted st ks [] false) p.1 }

  pub parts_follow : (ps : List Part) (st : State) (r : Room) → AllFit ps → room_sound r ≡ true → Follows (run_parts m ps st r) (parts_by m ps st (kept_of r))
  unfolding run_parts parts_by
  parts_follow [] st r f s = record { sound = s; noted_is = refl }
  parts_follow (p ∷ ps) st r f s =
      let y = part_follows p st r f.0 s in
      let z = parts_follow ps (run_part m p st r).state (run_part m p st r).room f.1 y.sound in
      record {
        sound = z.sound;
        noted_is =
            ap (λ (v : Noted). noted v.state v.kept ((run_part m p st r).text then v.text) ((run_part m p st r).told || v.told)) z.noted_is
            ∙ ap (λ (u : Noted). let v = parts_by m ps u.state u.kept in noted v.state v.kept (u.text then v.text) (u.told || v.told)) y.noted_is;
      }

-- the parts of a message
abbrev pub FitIn : Message → Type 0
FitIn (well_formed ps) = AllFit ps
FitIn fault400 = Unit {0}
FitIn (fault403 id) = Unit {0}
FitIn fault406 = Unit {0}

pub message_follows : (m : List ℕ) → length m ≤ 72 → (x : Message) (st : State) (r : Room) → FitIn x → room_sound r ≡ true → Follows (run_message m x st r) (message_by m x st (kept_of r))
unfolding run_message message_by
message_follows m h (well_formed ps) st r f s = parts_follow m h ps st r f s
message_follows m h fault400 st r f s = record { sound = s; noted_is = refl }
message_follows m h (fault403 id) st r f s = record { sound = s; noted_is = refl }
message_follows m h fault406 st r f s = record { sound = s; noted_is = refl }

-- ---- what is found in a sound room has at most 2,048 bytes

slot_short : (r : Room) (n : ℕ) → Slot r n → length (slot_reply r n) ≤ 2048
unfolding slot_reply
slot_short r n h = omega (arith, length-take (get_or r.words (47 + n) 0) (drop (slot_place n + 72) r.bytes), h.reply)

held_short : (r : Room) (m : List ℕ) (id : ℕ) (h : List ℕ) (x : List ℕ) → Held r h → find m id (map (slot_of r) h) ≡ some x → length x ≤ 2048
unfolding find pick
held_short r m id [] x free e = absurd (some_not x (sym e))
held_short r m id (n ∷ h) x (held s o d rest) e = by (under m id (slot_of r n)) (λ f. held_short r m id h x rest f) e
  where
    by : (t : Bool) → (find m id (map (slot_of r) h) ≡ some x → length x ≤ 2048) → pick t (some (slot_reply r n)) (find m id (map (slot_of r) h)) ≡ some x → length x ≤ 2048
    by true g f = let z : slot_reply r n ≡ x = cc in subst (λ (y : List ℕ). length y ≤ 2048) z (slot_short r n s)
    by false g f = g f

pub found_short : (r : Room) (m : List ℕ) (id : ℕ) (x : List ℕ) → room_sound r ≡ true → find m id (kept_of r) ≡ some x → length x ≤ 2048
unfolding kept_of
found_short r m id x s e = held_short r m id (held_in r.words) x (sound_whole r s).row.held e

-- so has every part's text
pub part_short : (m : List ℕ) (p : Part) (st : State) (r : Room) → Fits p → room_sound r ≡ true → length (run_part m p st r).text ≤ 2048
unfolding run_part answered
part_short m (acknowledge ks) st r f s = omega arith
part_short m (request x) st r f s = by (find m (identifier x) (kept_of r)) refl
  where
    by : (o : Option (List ℕ)) → find m (identifier x) (kept_of r) ≡ o → length (answered m x st r o).text ≤ 2048
    by none e = f st
    by (some y) e = found_short r m (identifier x) y s e

-- ---- a repeat

module _ (m : List ℕ) (short : length m ≤ 72) (x : Transaction) (f : Fits (request x)) (st : State) (r : Room) (s : room_sound r ≡ true) where
  part_twice : let y = run_part m (request x) st r in run_part m (request x) y.state y.room ≡ y
  unfolding run_part answered
  part_twice = by (find m (identifier x) (kept_of r)) refl
    where
      by : (o : Option (List ℕ)) → find m (identifier x) (kept_of r) ≡ o
          → let y = answered m x st r o in answered m x y.state y.room (find m (identifier x) (kept_of y.room)) ≡ y
      by (some t) e = rw e
      by none e =
          let t : List ℕ = (run_transaction x st).text in
          let k : Kept = kept_under m (identifier x) t in
          let K : Keepable k (kept_of r) = record { sender = short; reply = f st; new = e } in
          let g : find m (identifier x) (kept_of (keep_in k r)) ≡ some t =
          ap (find m (identifier x)) (keep_kept k r s K) ∙ find_kept m (identifier x) t (kept_of r) e in
          rw g

  pub parts_twice : let y = run_parts m (request x ∷ []) st r in run_parts m (request x ∷ []) y.state y.room ≡ y
  unfolding run_parts
  parts_twice = ap (λ (u : Served). served u.state u.room (u.text then []) (u.told || false)) part_twice

-- ---- how many are kept

before_short : (l : List ℕ) → length (before 0 l) ≤ length l
unfolding before pick
before_short [] = omega arith
before_short (x ∷ l) = by (eqb x 0) (before_short l)
  where
    by : (t : Bool) → length (before 0 l) ≤ length l → length (pick t [] (x ∷ before 0 l)) ≤ suc (length l)
    by true h = omega arith
    by false h = omega arith

pub sixteen : (r : Room) → length (kept_of r) ≤ 16
unfolding kept_of held_in
sixteen r = omega (arith, length-map (before 0 (take 16 r.words)) (slot_of r), before_short (take 16 r.words), length-take 16 r.words)

-- ---- demand 3's addition

-- neither is found under the other's pair
apart : (m n : List ℕ) (i j : ℕ) (a : List ℕ) → (m ≡ n → i ≡ j → ⊥) → under n j (kept_under m i a) ≡ false
apart m n i j a h = not_holds (under n j (kept_under m i a)) (λ t. let p = under_is n j (kept_under m i a) t in h p.sender p.id)

-- a request that is not kept runs and is kept
runs_new : (m : List ℕ) (x : Transaction) (st : State) (ks : List Kept) → find m (identifier x) ks ≡ none
    → part_by m (request x) st ks ≡ noted (run_transaction x st).state (keep (kept_under m (identifier x) (run_transaction x st).text) ks) (run_transaction x st).text true
unfolding part_by answered_by
runs_new m x st ks e = rw e

module _ (m n : List ℕ) (x y : Transaction) (st : State) (ks : List Kept) (P : PairsApart m n x y ks) where
  abbrev one : Kept
  one = kept_under m (identifier x) (run_transaction x st).text

  abbrev two : Kept
  two = kept_under n (identifier y) (run_transaction y st).text

  first : part_by m (request x) st ks ≡ noted (run_transaction x st).state (keep one ks) (run_transaction x st).text true
  first = runs_new m x st ks P.one

  second : part_by n (request y) st ks ≡ noted (run_transaction y st).state (keep two ks) (run_transaction y st).text true
  second = runs_new n y st ks P.two

  after_first : let z = run_transaction y (run_transaction x st).state in
      part_by n (request y) (run_transaction x st).state (keep one ks) ≡ noted z.state (keep (kept_under n (identifier y) z.text) (keep one ks)) z.text true
  after_first =
      runs_new n y (run_transaction x st).state (keep one ks) (find_keep n (identifier y) one ks (apart m n (identifier x) (identifier y) (run_transaction x st).text P.differ) P.two)

  after_second : let z = run_transaction x (run_transaction y st).state in
      part_by m (request x) (run_transaction y st).state (keep two ks) ≡ noted z.state (keep (kept_under m (identifier x) z.text) (keep two ks)) z.text true
  after_second =
      runs_new m x (run_transaction y st).state (keep two ks)
      (find_keep m (identifier x) two ks (apart n m (identifier y) (identifier x) (run_transaction y st).text (λ u v. P.differ (sym u) (sym v))) P.one)

  pub either_kept : EitherOrder st x y → EitherOrderKept m n x y st ks
  either_kept e =
      record {
        state = rw (first, second, after_first, after_second) e.state;
        blocks = rw (first, after_first) e.blocks;
        reply_one = rw (first, second, after_second) e.reply_one;
        reply_two = rw (first, second, after_first) e.reply_two;
        kept = rw (first, second, after_first, after_second, ← e.reply_one, e.reply_two) (keeps_alike one two ks);
      }

  same_order : (a b : Kept) → SameSet (keep a (keep b ks)) (keep a (keep b ks))
  same_order a b = record { into = λ k i. i; back = λ k i. i; many = refl }

  pub mixture_kept : (b : Both) → EitherOrder st x y → AsOneAfterOther st x y b → MixtureKept m n x y st ks b
  mixture_kept b e h =
      record {
        first_ends = rw (first, after_first, h.reply_one, h.reply_two) (same_order (kept_under n (identifier y) (run_transaction y (run_transaction x st).state).text) one);
        second_ends = rw (first, after_first, h.reply_one, h.reply_two) (keeps_alike (kept_under n (identifier y) (run_transaction y (run_transaction x st).state).text) one ks);
      }

pub either_order_kept : (m n : List ℕ) (x y : Transaction) (st : State) (ks : List Kept) → sound st.table ≡ true → Apart st.table x y → PairsApart m n x y ks → EitherOrderKept m n x y st ks
either_order_kept m n x y st ks s A P = either_kept m n x y st ks P (either_order st s x y A)

pub any_mixture_kept : (m n : List ℕ) (x y : Transaction) (st : State) (ks : List Kept) → sound st.table ≡ true → Apart st.table x y → PairsApart m n x y ks
    → (z : Mixture (steps_of x) (steps_of y)) → MixtureKept m n x y st ks (mixed z (both_fresh st))
any_mixture_kept m n x y st ks s A P z = mixture_kept m n x y st ks P (mixed z (both_fresh st)) (either_order st s x y A) (any_mixture st s x y A z)
