-- Writing and reading as a whole, in the form in which `search` uses the laws.
use Rattle.std.specs.Prelude.{Ok, Err}
use Rattle.row_laws.specs.declared.RowError.TheVariants.{LinesUnfit, OutputTooShort, TableUnsound, RowUnfit}
use Rattle.row_laws.specs.Answers.{Answer}
use Prim.Native.Nat.{ℕ, ◌+◌, ◌-◌, ◌<◌, ◌≤◌}
use mathlib.Core.Path.{◌≡◌, refl, sym, ap, ◌∙◌}
use mathlib.Core.Bool.{Bool, true, false}
use mathlib.Core.List.{List, ◌++◌}
use native.Mathlib.Nat.{zero-add}
use native.Mathlib.Omega.{arith}
use lib.ListN.{length, take, drop}
use lib.Seq.{take_at, length-take-le}
use lib.Dec.{ltb, leb}
use borrow.Author.Tests.{ltb-true, leb-true, lt-ltb, le-ltb}
use Rattle.base.specs.Pick.{pick}
use Rattle.base.specs.Bytes.{◌then◌}
use Rattle.base.specs.Out.{Appended}
use Rattle.base.proofs.OutLaws.{after, end_within}
use Rattle.base.proofs.TestLaws.{clash, and_both}
use Rattle.groups.specs.Groups.{number}
use Rattle.groups.specs.Rows.{encode, Bytes}
use Rattle.megaco.specs.Table.{most_lines, words}
use Rattle.row_laws.specs.Items.{Lines}
use Rattle.row_laws.specs.Row.{row_of}
use Rattle.row_laws.specs.Filling.{items, numbers_from}
use Rattle.row_laws.specs.Answers.{sound_of}
use Rattle.megaco.specs.Names.{within}
use Rattle.row_laws.specs.Answers.{least_output, write_answer, written, Wrote, RowTaken, read, none, Read}
use Rattle.row.specs.Steps.{Built, Rebuilt}
use Rattle.row_laws.proofs.OrderLaws.{row_is}
use Rattle.row_laws.proofs.TableLaws.{row_gives, gives}
use Rattle.row_laws.proofs.SoundLaws.{long, sound_fit, sound_below}
use Rattle.row_laws.proofs.RoomLaws.{row_fits}

pub count_lines : (n : ℕ) (x : Bool) → x ≡ within n most_lines → x ≡ true → Lines n
unfolding within
count_lines n x e h = let b = and_both (ltb 0 n) (leb n most_lines) (sym e ∙ h) in record { some = ltb-true 0 n b.0; few = leb-true n most_lines b.1 }

pub count_few : (n : ℕ) (x : Bool) → x ≡ within n most_lines → x ≡ true → n ≤ 16
count_few n x e h = (count_lines n x e h).few

-- ---- writing

module _ (n : ℕ) (t o : List ℕ) (x : Bool) (e : x ≡ within n most_lines) where
  pub wrote_count : x ≡ false → Wrote n t o o (Err LinesUnfit)
  unfolding write_answer written pick
  wrote_count f = record { answer = rw (← e, f); bytes = rw (← e, f) }

  module _ (f : x ≡ true) where
    pub wrote_short : length o < least_output → Wrote n t o o (Err OutputTooShort)
    unfolding write_answer written pick
    wrote_short h = record { answer = rw (← e, f, lt-ltb (length o) least_output h); bytes = rw (← e, f, lt-ltb (length o) least_output h) }

    module _ (h : least_output ≤ length o) (y : Bool) (g : y ≡ sound_of n t) where
      pub wrote_unsound : y ≡ false → Wrote n t o o (Err TableUnsound)
      unfolding write_answer written pick
      wrote_unsound k = record { answer = rw (← e, f, le-ltb (length o) least_output h, ← g, k); bytes = rw (← e, f, le-ltb (length o) least_output h, ← g, k) }

      pub wrote_row : (o₁ o₂ : List ℕ) (p r : ℕ) → y ≡ true → Appended o 0 (number n) o₁ p → Appended o₁ p (encode (numbers_from n t (items n) 0)) o₂ r → Wrote n t o o₂ (Ok r)
      unfolding write_answer written pick ◌then◌
      wrote_row o₁ o₂ p r k a b =
          let w : Appended o 0 (row_of n t) o₂ r = rw (row_is n (count_lines n x e f) t) (after o 0 (number n) (encode (numbers_from n t (items n) 0)) o₁ o₂ p r a b) in
          let l : length (row_of n t) ≤ 4369 = row_fits n t (sym g ∙ k) in
          let m : r ≡ 0 + length (row_of n t) = end_within o 0 (row_of n t) o₂ r w (omega arith) in
          let q : r ≡ length (row_of n t) = m ∙ zero-add (length (row_of n t)) in
          record {
            answer = rw (← e, f, le-ltb (length o) least_output h, ← g, k) (ap Ok q);
            bytes = rw (← e, f, le-ltb (length o) least_output h, ← g, k) w.text;
          }

-- ---- building

part_long : (n : ℕ) (l : Lines n) (t u : List ℕ) → length t ≡ words n → length u ≡ 2018 → length (take (length t - 0) (drop 0 u)) ≡ words n
part_long n l t u h g = length-take-le (length t - 0) u (omega arith) ∙ omega arith

-- a table that is built in the first words of u, and copied
module _ (n : ℕ) (l : Lines n) (s t u v : List ℕ) (r : Bool) (h : length t ≡ words n) (g : length u ≡ 2018) (b : Built n s (take (length t - 0) (drop 0 u)) v r) where
  pub rebuilt_no : r ≡ false → Rebuilt n s t t false
  rebuilt_no e =
      record {
        yes = λ h. absurd (clash (sym h));
        stays = λ h. refl;
        no = λ j w o f. b.no e w (rw (← f) (row_gives n l w (take (length t - 0) (drop 0 u)) (sound_fit n w o) (sound_below n w o) (part_long n l t u h g))) o;
      }

  pub rebuilt_yes : (t' rest : List ℕ) → r ≡ true → t' ≡ take (length t) (v ++ rest) → Rebuilt n s t t' true
  rebuilt_yes t' rest e c =
      let y = b.yes e in
      let w : t' ≡ v = c ∙ take_at v rest (length t) (long n v y.1 ∙ sym h) in
      record {
        yes = λ i o. (rw w y.1, rw w (gives n l s (take (length t - 0) (drop 0 u)) v o (part_long n l t u h g) y.0).row);
        stays = λ i. absurd (clash i);
        no = λ i. absurd (clash i);
      }

-- ---- reading

module _ (n : ℕ) (s t : List ℕ) (x : Bool) (e : x ≡ within n most_lines) where
  pub read_count : x ≡ false → Read n s t t (Err LinesUnfit)
  read_count f = record { count = λ h. (refl, refl); sized = λ h. absurd (clash (sym h ∙ (sym e ∙ f))); taken = λ h. absurd (clash (sym h ∙ (sym e ∙ f))) }

  module _ (f : x ≡ true) (m : ℕ) (g : m ≡ words n) where
    pub read_size : (length t ≡ m → ⊥) → Read n s t t (Err TableUnsound)
    read_size h =
        record {
          count = λ k. absurd (clash (sym f ∙ e ∙ k));
          sized = λ k d. (refl, refl);
          taken = λ k d. absurd (h (d ∙ sym g));
        }

    as_taken : (t' : List ℕ) (r : Answer) → length t ≡ m → RowTaken n s t t' r → Read n s t t' r
    as_taken t' r h k = record { count = λ j. absurd (clash (sym f ∙ e ∙ j)); sized = λ j d. absurd (d (h ∙ g)); taken = λ j d. k }

    module _ (h : length t ≡ m) (r : Bool) (t' : List ℕ) (b : Rebuilt n s t t' r) where
      pub read_none : r ≡ false → Read n s t t' (Err RowUnfit)
      read_none o = let w : t' ≡ t = b.stays o in rw w (as_taken t (Err RowUnfit) h (none (λ u y j. b.no o u y (sym j))))

      pub read_row : Bytes s → r ≡ true → Read n s t t' (Ok (length s))
      read_row p o = let y = b.yes o p in as_taken t' (Ok (length s)) h (read t' y.0 (sym y.1))
