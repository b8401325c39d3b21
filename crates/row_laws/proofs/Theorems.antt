-- "One sound table has one such row and reading gives it back" (document 02, CR 14).
use Rattle.std.specs.Prelude.{Ok, Err}
use Rattle.row_laws.specs.declared.RowError.{RowError}
use Rattle.row_laws.specs.declared.RowError.TheVariants.{LinesUnfit, OutputTooShort, TableUnsound, RowUnfit}
use Rattle.row_laws.specs.Answers.{Answer}
use Prim.Native.Nat.{ℕ, ◌≤◌}
use mathlib.Core.Path.{◌≡◌, refl, sym, ap, ◌∙◌}
use mathlib.Core.Bool.{Bool, true, false}
use mathlib.Core.List.{List, []}
use native.Mathlib.Omega.{arith}
use lib.ListN.{length, take, drop}
use lib.Dec.{ltb, eqb}
use borrow.Author.Tests.{ltb-false, eqb-true, eqb-false, not-false}
use Rattle.base.specs.Pick.{pick}
use Rattle.base.specs.Bytes.{put}
use Rattle.base.proofs.OutLaws.{take_put, drop_put}
use Rattle.megaco.specs.Table.{most_lines, words}
use Rattle.megaco.specs.Names.{within}
use Rattle.megaco.specs.Tree.{Transaction}
use Rattle.megaco.specs.Kept.{Kept, find}
use Rattle.megaco.specs.Room.{kept_of}
use Rattle.megaco.specs.Message.{identifier}
use Rattle.laws.specs.KeptReplies.{PairsApart}
use Rattle.laws.proofs.Packets.{lines_test, state_test, not_up}
use Rattle.laws.proofs.Figures.{fresh_blocks}
use Rattle.laws.proofs.RoomEmpty.{empty_room}
use Rattle.row_laws.specs.Row.{row_of}
use Rattle.row_laws.specs.Answers.{sound_of, least_output, write_answer, written, Wrote, RowTaken, read, none, Read}
use Rattle.row_laws.specs.Carried.{ReadTable, SameTable, spare_state, spare_room, Anew, Carried}
use Rattle.row_laws.proofs.TableLaws.{row_one}
use Rattle.row_laws.proofs.SoundLaws.{lines, long, is_sound, sound_fit, sound_below}
use Rattle.row_laws.proofs.RoomLaws.{row_fits}

refused_done : {A : Type 0} (a : RowError) (k : ℕ) → ◌≡◌ {A = Answer} (Err a) (Ok k) → A
refused_done a k e = let z : ◌≡◌ {A = ℕ} 0 1 = cc in absurd (omega arith)

-- ---- one row

pub one_row : (n : ℕ) (t u : List ℕ) → sound_of n t ≡ true → sound_of n u ≡ true → row_of n t ≡ row_of n u → t ≡ u
one_row n t u g h e = row_one n (lines n t g) t u (sound_fit n t g) (sound_fit n u h) (sound_below n t g) (sound_below n u h) e

-- ---- what is read

taken_done : (n : ℕ) (s z u : List ℕ) (a : Answer) (k : ℕ) → RowTaken n s z u a → a ≡ Ok k → ReadTable n s u
taken_done n s z u a k (read v h e) f = record { sound_table = is_sound n v h; long = long n v h; row = e }
taken_done n s z u a k (none h) f = refused_done RowUnfit k f

read_by : (n : ℕ) (s z u : List ℕ) (k : ℕ) → Read n s z u (Ok k) → (b : Bool) → within n most_lines ≡ b → (c : Bool) → eqb (length z) (words n) ≡ c → ReadTable n s u
read_by n s z u k r true e true f = taken_done n s z u (Ok k) k (r.taken e (eqb-true (length z) (words n) f)) refl
read_by n s z u k r true e false f = refused_done TableUnsound k (sym (r.sized e (eqb-false (length z) (words n) f)).0)
read_by n s z u k r false e c f = refused_done LinesUnfit k (sym (r.count e).0)

read_table : (n : ℕ) (s z u : List ℕ) (k : ℕ) → Read n s z u (Ok k) → ReadTable n s u
read_table n s z u k r = read_by n s z u k r _ refl _ refl

-- ---- what was written

record Writes (n : ℕ) (t o o' : List ℕ) (k : ℕ) : Type 0 where
  pub counts : within n most_lines ≡ true
  pub roomy : least_output ≤ length o
  pub sound_table : sound_of n t ≡ true
  pub size : k ≡ length (row_of n t)
  pub bytes : o' ≡ put o 0 (row_of n t)

writes_by : (n : ℕ) (t o o' : List ℕ) (k : ℕ) → (a : Bool) → within n most_lines ≡ a → (b : Bool) → ltb (length o) least_output ≡ b → (c : Bool) → sound_of n t ≡ c
    → Ok k ≡ pick a (pick b (Err OutputTooShort) (pick c (Ok (length (row_of n t))) (Err TableUnsound))) (Err LinesUnfit)
    → o' ≡ pick a (pick b o (pick c (put o 0 (row_of n t)) o)) o → Writes n t o o' k
unfolding pick
writes_by n t o o' k true e false f true g d p =
    record { counts = e; roomy = ltb-false (length o) least_output f; sound_table = g; size = cc; bytes = p }
writes_by n t o o' k true e false f false g d p = refused_done TableUnsound k (sym d)
writes_by n t o o' k true e true f c g d p = refused_done OutputTooShort k (sym d)
writes_by n t o o' k false e b f c g d p = refused_done LinesUnfit k (sym d)

writes : (n : ℕ) (t o o' : List ℕ) (k : ℕ) → Wrote n t o o' (Ok k) → Writes n t o o' k
unfolding write_answer written
writes n t o o' k w = writes_by n t o o' k _ refl _ refl _ refl w.answer w.bytes

row_in : (n : ℕ) (t o o' : List ℕ) (k : ℕ) → Writes n t o o' k → take k o' ≡ row_of n t
row_in n t o o' k w = rw (w.size, w.bytes) (take_put o (row_of n t) (omega (arith, w.roomy, row_fits n t w.sound_table)))

rest_stays : (n : ℕ) (t o o' : List ℕ) (k : ℕ) → Wrote n t o o' (Ok k) → drop k o' ≡ drop k o
rest_stays n t o o' k w = let v = writes n t o o' k w in rw v.bytes (drop_put o 0 (row_of n t) k (omega (arith, v.size)))

-- ---- written and read

given_taken : (n : ℕ) (t s z u : List ℕ) (a : Answer) → sound_of n t ≡ true → s ≡ row_of n t → RowTaken n s z u a → SameTable t u (length s) a
given_taken n t s z u a g f (read v h e) = let q : v ≡ t = one_row n v t h g (sym e ∙ f) in record { table = q; sound_table = is_sound n v h; answer = refl }
given_taken n t s z u a g f (none h) = absurd (h t g f)

given_back : (n : ℕ) (t o o' z u : List ℕ) (k : ℕ) (a : Answer) → Wrote n t o o' (Ok k) → length z ≡ words n → Read n (take k o') z u a → SameTable t u k a
given_back n t o o' z u k a w m r =
    let v = writes n t o o' k w in
    let f : take k o' ≡ row_of n t = row_in n t o o' k v in
    let l : length (take k o') ≡ k = ap length f ∙ sym v.size in
    rw l at (given_taken n t (take k o') z u a v.sound_table f (r.taken v.counts m))

-- ---- reading has one outcome

taken_one : (n : ℕ) (s z u v : List ℕ) (a b : Answer) → RowTaken n s z u a → RowTaken n s z v b → (u ≡ v) × (a ≡ b)
taken_one n s z u v a b (read p g e) (read q h f) = (one_row n p q g h (sym e ∙ f), refl)
taken_one n s z u v a b (read p g e) (none h) = absurd (h p g e)
taken_one n s z u v a b (none g) (read q h f) = absurd (g q h f)
taken_one n s z u v a b (none g) (none h) = (refl, refl)

read_one : (n : ℕ) (s z u v : List ℕ) (a b : Answer) → Read n s z u a → Read n s z v b → (u ≡ v) × (a ≡ b)
read_one n s z u v a b p q = by _ refl _ refl
  where
    by : (x : Bool) → within n most_lines ≡ x → (y : Bool) → eqb (length z) (words n) ≡ y → (u ≡ v) × (a ≡ b)
    by true e true f = let l = eqb-true (length z) (words n) f in taken_one n s z u v a b (p.taken e l) (q.taken e l)
    by true e false f = let l = eqb-false (length z) (words n) f in ((p.sized e l).1 ∙ sym (q.sized e l).1, (p.sized e l).0 ∙ sym (q.sized e l).0)
    by false e y f = ((p.count e).1 ∙ sym (q.count e).1, (p.count e).0 ∙ sym (q.count e).0)

-- ---- the spare

pairs_apart : (s t : List ℕ) (x y : Transaction) (ks : List Kept) → ks ≡ [] → (s ≡ t → identifier x ≡ identifier y → ⊥) → PairsApart s t x y ks
unfolding find
pairs_apart s t x y ks e d = record { one = rw e; two = rw e; differ = d }

anew : (n : ℕ) (s z u : List ℕ) (k : ℕ) → Read n s z u (Ok k) → Anew n u
anew n s z u k r =
    let t = read_table n s z u k r in
    record {
      lines = (lines_test n).0 (not_up (within n most_lines) (counted _ refl));
      state = not-false _ ((state_test n (spare_state u)).1 (t.long, t.sound_table, fresh_blocks));
      room = empty_room.0;
      keeps_none = empty_room.1;
      pairs = λ s t x y d. pairs_apart s t x y (kept_of spare_room) empty_room.1 d;
    }
  where
    counted : (b : Bool) → within n most_lines ≡ b → within n most_lines ≡ true
    counted true e = e
    counted false e = refused_done LinesUnfit k (sym (r.count e).0)

-- ---- refusals

same_by : (n : ℕ) (t o o' : List ℕ) (k : RowError) (a b c : Bool) → Err k ≡ pick a (pick b (Err OutputTooShort) (pick c (Ok (length (row_of n t))) (Err TableUnsound))) (Err LinesUnfit)
    → o' ≡ pick a (pick b o (pick c (put o 0 (row_of n t)) o)) o → o' ≡ o
unfolding pick
same_by n t o o' k true true c d p = p
same_by n t o o' k true false true d p = refused_done k (length (row_of n t)) d
same_by n t o o' k true false false d p = p
same_by n t o o' k false b c d p = p

write_refused : (n : ℕ) (t o o' : List ℕ) (k : RowError) → Wrote n t o o' (Err k) → o' ≡ o
unfolding write_answer written
write_refused n t o o' k w = same_by n t o o' k (within n most_lines) (ltb (length o) least_output) (sound_of n t) w.answer w.bytes

taken_refused : (n : ℕ) (s z u : List ℕ) (a : Answer) (k : RowError) → RowTaken n s z u a → a ≡ Err k → u ≡ z
taken_refused n s z u a k (read v h e) f = refused_done k (length s) (sym f)
taken_refused n s z u a k (none h) f = refl

read_refused : (n : ℕ) (s z u : List ℕ) (k : RowError) → Read n s z u (Err k) → u ≡ z
read_refused n s z u k r = by _ refl _ refl
  where
    by : (b : Bool) → within n most_lines ≡ b → (c : Bool) → eqb (length z) (words n) ≡ c → u ≡ z
    by true e true f = taken_refused n s z u (Err k) k (r.taken e (eqb-true (length z) (words n) f)) refl
    by true e false f = (r.sized e (eqb-false (length z) (words n) f)).1
    by false e c f = (r.count e).1

pub carried : Carried
carried =
    record {
      one_row = one_row;
      given_back = given_back;
      read_table = read_table;
      read_one = read_one;
      anew = anew;
      write_refused = write_refused;
      read_refused = read_refused;
      rest_stays = rest_stays;
      row_fits = row_fits;
    }
