-- A sound room as facts about each of its slots.
use Prim.Native.Nat.{ℕ, zero, suc, ◌+◌, ◌-◌, ◌≤◌, ◌<◌}
use mathlib.Core.Path.{◌≡◌, refl, sym, ap, ◌∙◌, subst}
use mathlib.Core.Logic.{◌≢◌}
use mathlib.Core.Bool.{true, false}
use mathlib.Core.List.{List, [], ◌∷◌, ◌++◌, map}
use mathlib.Core.Option.{none}
use native.Mathlib.Omega.{arith}
use lib.ListN.{length, get_or, take, drop, replicate, get_or-replicate, length-drop, length-append, length-replicate, take-append-drop, get_or-append}
use lib.Seq.{get_or-take, get_or-drop, get_or-append-add, length-take-le}
use Rattle.base.specs.Lists.{has}
use Rattle.base.proofs.TestLaws.{clash, not_holds}
use Rattle.megaco.specs.Kept.{under, find}
use Rattle.megaco.specs.Room.{Room, row_of, slot_id, slot_sender, slot_of, held_in, room_sound}
use Rattle.laws.specs.SoundRoom.{told, SoundSlot, SoundRoom}
use Rattle.laws.proofs.KeptLaws.{under_is, is_under, find_cons, find_both}
use Rattle.laws.proofs.RoomFree.{has_cons, has_both}
use Rattle.laws.proofs.RoomWhole.{Slot, Held, free, held, Whole, sound_whole, whole_sound}

-- ---- of a list of slots

record Each (r : Room) (h : List ℕ) : Type 0 where
  slot : (i : ℕ) → i < length h → SoundSlot r (get_or h i 0)
  once : (i j : ℕ) → i < j → j < length h → get_or h i 0 ≢ get_or h j 0
  pairs : (i j : ℕ) → i < j → j < length h → slot_sender r (get_or h i 0) ≡ slot_sender r (get_or h j 0) → slot_id r (get_or h i 0) ≢ slot_id r (get_or h j 0)

other : (n : ℕ) (h : List ℕ) (j : ℕ) → has n h ≡ false → j < length h → n ≢ get_or h j 0
other n [] j e l = absurd (omega arith)
other n (x ∷ h) zero e l = λ p. (has_both n x h e).0 (sym p)
other n (x ∷ h) (suc j) e l = other n h j (has_both n x h e).1 (omega arith)

no_other : (n : ℕ) (h : List ℕ) → ((j : ℕ) → j < length h → n ≢ get_or h j 0) → has n h ≡ false
unfolding has
no_other n [] f = refl
no_other n (x ∷ h) f = has_cons n x h (λ p. f 0 (omega arith) (sym p)) (no_other n h (λ j l. f (suc j) (omega arith)))

module _ (r : Room) (m : List ℕ) (id : ℕ) where
  pair_other : (h : List ℕ) (j : ℕ) → find m id (map (slot_of r) h) ≡ none → j < length h → m ≡ slot_sender r (get_or h j 0) → id ≢ slot_id r (get_or h j 0)
  pair_other [] j e l = absurd (omega arith)
  pair_other (x ∷ h) zero e l =
      λ p q. clash (sym (is_under m id (slot_of r x) (record { sender = sym p; id = sym q })) ∙ (find_both m id (slot_of r x) (map (slot_of r) h) e).0)
  pair_other (x ∷ h) (suc j) e l = pair_other h j (find_both m id (slot_of r x) (map (slot_of r) h) e).1 (omega arith)

  no_pair : (h : List ℕ) → ((j : ℕ) → j < length h → m ≡ slot_sender r (get_or h j 0) → id ≢ slot_id r (get_or h j 0)) → find m id (map (slot_of r) h) ≡ none
  unfolding find
  no_pair [] f = refl
  no_pair (x ∷ h) f =
      find_cons m id (slot_of r x) (map (slot_of r) h)
      (not_holds (under m id (slot_of r x)) (λ t. let p = under_is m id (slot_of r x) t in f 0 (omega arith) (sym p.sender) (sym p.id)))
      (no_pair h (λ j l. f (suc j) (omega arith)))

one_more : (r : Room) (n : ℕ) (h : List ℕ) → Slot r n → has n h ≡ false → find (slot_sender r n) (slot_id r n) (map (slot_of r) h) ≡ none → Each r h → Each r (n ∷ h)
one_more r n h s a b E = record { slot = slot; once = once; pairs = pairs }
  where
    slot : (i : ℕ) → i < suc (length h) → SoundSlot r (get_or (n ∷ h) i 0)
    slot zero l = record { low = s.low; high = s.high; sender = s.sender; reply = s.reply }
    slot (suc i) l = E.slot i (omega arith)

    once : (i j : ℕ) → i < j → j < suc (length h) → get_or (n ∷ h) i 0 ≢ get_or (n ∷ h) j 0
    once i zero o l = absurd (omega arith)
    once zero (suc j) o l = other n h j a (omega arith)
    once (suc i) (suc j) o l = E.once i j (omega arith) (omega arith)

    pairs : (i j : ℕ) → i < j → j < suc (length h) → slot_sender r (get_or (n ∷ h) i 0) ≡ slot_sender r (get_or (n ∷ h) j 0) → slot_id r (get_or (n ∷ h) i 0) ≢ slot_id r (get_or (n ∷ h) j 0)
    pairs i zero o l = absurd (omega arith)
    pairs zero (suc j) o l = pair_other r (slot_sender r n) (slot_id r n) h j b (omega arith)
    pairs (suc i) (suc j) o l = E.pairs i j (omega arith) (omega arith)

held_each : (r : Room) (h : List ℕ) → Held r h → Each r h
held_each r [] free = record { slot = λ i l. absurd (omega arith); once = λ i j o l. absurd (omega arith); pairs = λ i j o l. absurd (omega arith) }
held_each r (n ∷ h) (held s a b t) = one_more r n h s a b (held_each r h t)

each_held : (r : Room) (h : List ℕ) → Each r h → Held r h
each_held r [] E = free
each_held r (n ∷ h) E =
    let s = E.slot 0 (omega arith) in
    held {n = n} (record { low = s.low; high = s.high; sender = s.sender; reply = s.reply })
    (no_other n h (λ j l. E.once 0 (suc j) (omega arith) (omega arith)))
    (no_pair r (slot_sender r n) (slot_id r n) h (λ j l. E.pairs 0 (suc j) (omega arith) (omega arith)))
    (each_held r h (record {
      slot = λ i l. E.slot (suc i) (omega arith);
      once = λ i j o l. E.once (suc i) (suc j) (omega arith) (omega arith);
      pairs = λ i j o l. E.pairs (suc i) (suc j) (omega arith) (omega arith);
    }))

-- ---- of the row

all_zero : (l : List ℕ) → ((i : ℕ) → i < length l → get_or l i 0 ≡ 0) → l ≡ replicate (length l) 0
all_zero [] f = refl
all_zero (x ∷ l) f =
    let p : x ≡ 0 = f 0 (omega arith) in
    let q : l ≡ replicate (length l) 0 = all_zero l (λ i h. f (suc i) (omega arith)) in
    λ i. p i ∷ q i

pub sound_room : (r : Room) → room_sound r ≡ true → SoundRoom r
sound_room r s = by (sound_whole r s)
  where
    by : Whole r → SoundRoom r
    by W =
        let h : List ℕ = held_in r.words in
        let k : ℕ = length (row_of r) - length h in
        let E : Each r h = held_each r h W.row.held in
        let L : length (row_of r) ≡ 16 = length-take-le 16 r.words (omega (arith, W.words)) in
        let N : length (row_of r) ≡ length h + k = ap length W.row.line ∙ length-append h (replicate k 0) ∙ ap (λ (z : ℕ). length h + z) (length-replicate k 0) in
        let at : (i : ℕ) → i < 16 → told r i ≡ get_or (h ++ replicate k 0) i 0 =
        λ i l. sym (get_or-take 16 r.words i 0 l) ∙ ap (λ (x : List ℕ). get_or x i 0) W.row.line in
        let in-h : (i : ℕ) → i < length h → told r i ≡ get_or h i 0 = λ i l. at i (omega (arith, L, N)) ∙ get_or-append h (replicate k 0) 0 i l in
        record {
          words = W.words;
          bytes = W.bytes;
          many = length h;
          most = omega (arith, L, N);
          slots = λ i l. subst (SoundSlot r) (sym (in-h i l)) (E.slot i l);
          once = λ i j o l e. E.once i j o l (sym (in-h i (omega arith)) ∙ e ∙ in-h j l);
          zeros = λ i o l.
              at i l ∙ ap (λ (z : ℕ). get_or (h ++ replicate k 0) z 0) (the_place (length h) i o) ∙ get_or-append-add h (replicate k 0) (i - length h) 0
              ∙ get_or-replicate k (i - length h) 0 0 (omega (arith, L, N));
          pairs = λ i j o l e f.
              let p = in-h i (omega arith) in
              let q = in-h j l in
              E.pairs i j o l (ap (slot_sender r) (sym p) ∙ e ∙ ap (slot_sender r) q) (ap (slot_id r) (sym p) ∙ f ∙ ap (slot_id r) q);
        }
      where
        the_place : (a i : ℕ) → a ≤ i → i ≡ a + (i - a)
        the_place a i o = omega arith

pub room_sound_lem : (r : Room) → SoundRoom r → room_sound r ≡ true
room_sound_lem r S =
    let l : List ℕ = row_of r in
    let h : List ℕ = take S.many l in
    let L : length l ≡ 16 = length-take-le 16 r.words (omega (arith, S.words)) in
    let H : length h ≡ S.many = length-take-le S.many l (omega (arith, L, S.most)) in
    let at : (i : ℕ) → i < S.many → get_or h i 0 ≡ told r i = λ i o. get_or-take S.many l i 0 o ∙ get_or-take 16 r.words i 0 (omega (arith, S.most)) in
    let D : length (drop S.many l) ≡ 16 - S.many = length-drop S.many l ∙ ap (λ (z : ℕ). z - S.many) L in
    let Z : drop S.many l ≡ replicate (length (drop S.many l)) 0 =
    all_zero (drop S.many l) (λ i o. get_or-drop S.many l i 0 ∙ get_or-take 16 r.words (S.many + i) 0 (omega (arith, D)) ∙ S.zeros (S.many + i) (omega arith) (omega (arith, D))) in
    let k : length (drop S.many l) ≡ length l - length h = omega (arith, D, L, H) in
    whole_sound r h S.words S.bytes (record {
      line = sym (take-append-drop S.many l) ∙ ap (λ (x : List ℕ). h ++ x) (Z ∙ ap (λ (z : ℕ). replicate z 0) k);
      held = each_held r h (record {
        slot = λ i o. subst (SoundSlot r) (sym (at i (omega (arith, H)))) (S.slots i (omega (arith, H)));
        once = λ i j o u e. S.once i j o (omega (arith, H)) (sym (at i (omega (arith, H))) ∙ e ∙ at j (omega (arith, H)));
        pairs = λ i j o u e f.
            let p = at i (omega (arith, H)) in
            let q = at j (omega (arith, H)) in
            S.pairs i j o (omega (arith, H)) (ap (slot_sender r) (sym p) ∙ e ∙ ap (slot_sender r) q) (ap (slot_id r) (sym p) ∙ f ∙ ap (slot_id r) q);
      });
    })
