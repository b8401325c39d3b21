-- Laws of items, in the form in which `search` uses them.
use Rattle.std.specs.Prelude.{Some, None}
use Prim.Native.Nat.{ℕ, zero, suc, ◌+◌, ◌*◌, ◌-◌, ◌<◌, ◌≤◌}
use mathlib.Core.Path.{◌≡◌, refl, sym, ◌∙◌}
use mathlib.Core.List.{List}
use mathlib.Core.Bool.{Bool, true, false, not, ◌&&◌, ◌||◌, and-true, and-false}
use mathlib.Core.Option.{none, some}
use native.Mathlib.Omega.{arith}
use lib.ListN.{length}
use borrow.Author.Tests.{ne_eqb}
use Rattle.base.specs.Pick.{pick}
use Rattle.base.specs.Lists.{is_at, part}
use Rattle.megaco.specs.Bytes.{left_brace, right_brace, slash}
use Rattle.megaco.specs.White.{after, white_at}
use Rattle.megaco.specs.Keywords.{spells}
use Rattle.megaco.specs.Items.{called}
use Rattle.megaco.specs.Tokens.{sign_at, row_at, word_at}
use Rattle.megaco.specs.Reading.{Read, unlimited, word_here, media_here, brace_from, speech_here}
use Rattle.protocol.specs.Types.{WordByte, AuditToken, MediaToken, LocalToken, RemoteToken, Parsed}
use Rattle.read_command.specs.declared.Piece.{Piece}
use Rattle.read_command.specs.Pieces.{Holds}
use Rattle.read_command.specs.Production.{word_end, spaced_at, Production, word_reads}
use Rattle.read_command.specs.Places.{second_at, braces_at, head_from, head_at, audit_at, empty_at, or_none_at, item_at, items_at, speech_at, media_item_at, media_at, top_item_at, top_at}
use Rattle.tokens.proofs.TokenLaws.{word_ahead, word_within}
use Rattle.read_command.proofs.Onward.{Onward, white_on, head_on, item_on, media_item_on, top_item_on}
use Rattle.read_command.proofs.ListLaws.{sign_by, steps}

-- ---- one item, where `left` more levels may be opened

module _ (s : List ℕ) (at e : ℕ) (p : Piece) (x y : Bool) (d : e ≡ row_at WordByte s at) (h : Holds s at e p) where
  pub audit_is : x ≡ is_at s e slash → y ≡ spells AuditToken (part s p.from p.to) → (not x && y) ≡ audit_at s at
  unfolding audit_at second_at word_end called pick
  audit_is g f = rw (g, f, h.bytes, d) (by (is_at s (row_at WordByte s at) slash) _ _)
    where
      by : (b : Bool) (w x : List ℕ) → (not b && spells AuditToken w) ≡ called AuditToken w (pick b (some x) none)
      by true w x = refl
      by false w x = refl

-- empty braces that may be
module _ (s : List ℕ) (left start at : ℕ) where
  pub empty_deep : (left ≡ 7 → ⊥) → false ≡ (empty_at left s start && is_at s at right_brace)
  unfolding empty_at
  empty_deep h = rw (ne_eqb left 7 h)

  module _ (x : Bool) (g : x ≡ is_at s at right_brace) where
    pub empty_yes : (y : Bool) → left ≡ 7 → x ≡ true → y ≡ audit_at s start → y ≡ (empty_at left s start && is_at s at right_brace)
    unfolding empty_at
    empty_yes y z t f = rw (z, ← g, t, ← f, and-true)

    pub empty_no : x ≡ false → false ≡ (empty_at left s start && is_at s at right_brace)
    empty_no t = rw (← g, t, and-false)

-- no level is left
no_level : (s : List ℕ) (b : Bool) (x : Parsed) → b ≡ false
    → None ≡ after x (λ p. after (or_none_at b (items_at zero s) s p).place (sign_at right_brace s))
unfolding after or_none_at items_at pick
no_level s b (Some p) z = rw z
no_level s b None z = refl

-- the items inside have a level less
pub items_level : (s : List ℕ) (left at : ℕ) (y : Parsed) → (left ≡ 0 → ⊥) → y ≡ (items_at (suc (left - 1)) s at).place
    → (b x : Bool) → x ≡ (b && is_at s at right_brace) → x ≡ false → y ≡ (or_none_at b (items_at left s) s at).place
unfolding or_none_at pick
items_level s left at y h e b x g f = let z : suc (left - 1) ≡ left = omega arith in rw (← g, f) (rw z at e)

-- or there are none
empty_by : {A : Type 0} {q : ℕ → Read (List A)} (inner : (i : ℕ) → Production (q i)) (s : List ℕ) (b : Bool) (at p : ℕ) (x y : Bool) (w r : Parsed)
    → x ≡ is_at s at left_brace → x ≡ true → w ≡ white_at s (at + 1) → w ≡ Some p → y ≡ (b && is_at s p right_brace) → y ≡ true → r ≡ sign_at right_brace s p
    → r ≡ (braces_at (or_none_at b inner s) s at).place
unfolding braces_at or_none_at after pick
empty_by inner s b at p x y w r g t l n m e h = h ∙ sym (rw (← g, t, ← sign_by left_brace s at x w g t l, n, ← m, e))

pub braces_empty : (s : List ℕ) (left start at q : ℕ) (x y : Bool) (w r : Parsed) → x ≡ is_at s at left_brace → x ≡ true
    → w ≡ white_at s (at + 1) → w ≡ Some q → y ≡ (empty_at left s start && is_at s q right_brace) → y ≡ true → r ≡ sign_at right_brace s q
    → r ≡ (braces_at (or_none_at (empty_at left s start) (items_at left s) s) s at).place
braces_empty s left start at q x y w r g t l n m e h = empty_by (items_at left s) s (empty_at left s start) at q x y w r g t l n m e h

pub braces_deep : (s : List ℕ) (left at : ℕ) (x : Bool) → x ≡ is_at s at left_brace → x ≡ true → left ≡ 0 → (start : ℕ)
    → None ≡ (braces_at (or_none_at (empty_at left s start) (items_at left s) s) s at).place
unfolding braces_at empty_at pick
braces_deep s left at x g t z start = rw (z, ← g, t) (no_level s false (sign_at left_brace s at) refl)

-- ---- Local and Remote

module _ (s : List ℕ) (at e : ℕ) (p : Piece) (x : Bool) (d : e ≡ row_at WordByte s at) (h : Holds s at e p) where
  word_same : part s p.from p.to ≡ word_here s at
  unfolding word_here
  word_same = h.bytes ∙ rw d

  pub media_is : (y : Bool) → x ≡ is_at s e slash → y ≡ spells MediaToken (part s p.from p.to) → (not x && y) ≡ media_here s at
  unfolding media_here
  media_is y g f = rw (g, f, word_same, d)

  module _ (f : x ≡ (spells LocalToken (part s p.from p.to) || spells RemoteToken (part s p.from p.to))) where
    pub speech_yes : (w : Parsed) (z : Bool) → x ≡ true → w ≡ white_at s e → z ≡ brace_from s w → z ≡ speech_here s at
    unfolding speech_here
    speech_yes w z t l k = k ∙ sym (rw (← word_same, ← f, t, ← d, ← l))

    pub speech_no : x ≡ false → false ≡ speech_here s at
    unfolding speech_here
    speech_no t = sym (rw (← word_same, ← f, t))

pub word_got : (s : List ℕ) (at e : ℕ) (w : Parsed) → w ≡ word_at s at → w ≡ Some e → word_at s at ≡ Some e
word_got s at e w d n = sym d ∙ n

-- the same where the word is read already
module _ (s : List ℕ) (at e : ℕ) (n : word_at s at ≡ Some e) where
  pub read_ahead : at ≤ e
  read_ahead = word_ahead s at e (word_at s at) refl n

  pub read_within : e ≤ length s
  read_within = word_within s at e (word_at s at) refl n

  read_word : e ≡ row_at WordByte s at
  unfolding word_end
  read_word = sym ((word_reads s at).ends e n)

  read_same : part s at e ≡ word_here s at
  unfolding word_here
  read_same = rw (← read_word)

  pub media_read : (x y : Bool) → x ≡ is_at s e slash → y ≡ spells MediaToken (part s at e) → (not x && y) ≡ media_here s at
  unfolding media_here
  media_read x y g f = rw (g, f, read_same, ← read_word)

  module _ (x : Bool) (f : x ≡ (spells LocalToken (part s at e) || spells RemoteToken (part s at e))) where
    pub speech_read : (w : Parsed) (z : Bool) → x ≡ true → w ≡ white_at s e → z ≡ brace_from s w → z ≡ speech_here s at
    unfolding speech_here
    speech_read w z t l k = k ∙ sym (rw (← read_same, ← f, t, ← read_word, ← l))

    pub speech_other : x ≡ false → false ≡ speech_here s at
    unfolding speech_here
    speech_other t = sym (rw (← read_same, ← f, t))

pub brace_next : (s : List ℕ) (w : Parsed) (p : ℕ) (x : Bool) → w ≡ Some p → x ≡ is_at s p left_brace → x ≡ brace_from s w
unfolding brace_from
brace_next s w p x e h = rw e h

pub brace_fault : (s : List ℕ) (w : Parsed) → w ≡ None → false ≡ brace_from s w
unfolding brace_from
brace_fault s w e = rw e

-- ---- an item of level 1

pub media_inside : (s : List ℕ) (at : ℕ) (y : Parsed) → y ≡ (media_at s at).place → (b x : Bool) → x ≡ (b && is_at s at right_brace) → x ≡ false → y ≡ (or_none_at b (media_at s) s at).place
unfolding or_none_at pick
media_inside s at y e b x g f = rw (← g, f) e

pub media_empty : (s : List ℕ) (start at q : ℕ) (x y : Bool) (w r : Parsed) → x ≡ is_at s at left_brace → x ≡ true
    → w ≡ white_at s (at + 1) → w ≡ Some q → y ≡ (empty_at 7 s start && is_at s q right_brace) → y ≡ true → r ≡ sign_at right_brace s q
    → r ≡ (braces_at (or_none_at (empty_at 7 s start) (media_at s) s) s at).place
media_empty s start at q x y w r g t l n m e h = empty_by (media_at s) s (empty_at 7 s start) at q x y w r g t l n m e h

same_pick : (t : Bool) → ◌≡◌ {A = Parsed} (pick t None None) None
unfolding pick
same_pick true = refl
same_pick false = refl

-- the head of an item whose word is read
module _ (s : List ℕ) (at : ℕ) (w : Parsed) (d : w ≡ word_at s at) where
  no_head : w ≡ None → head_at s at ≡ None
  unfolding head_at after
  no_head n = rw (← d, n)

  head_read : (e : ℕ) (y : Parsed) → w ≡ Some e → y ≡ head_from s e → y ≡ head_at s at
  unfolding head_at after
  head_read e y n f = f ∙ sym (rw (← d, n))

  pub top_no_word : w ≡ None → None ≡ (top_item_at s at).place
  unfolding top_item_at item_at after pick
  top_no_word n = sym (rw (no_head n) (same_pick (media_here s at)))

  pub media_no_word : w ≡ None → None ≡ (media_item_at s at).place
  unfolding media_item_at speech_at spaced_at item_at after pick
  media_no_word n = sym (rw (no_head n, ← d, n) (same_pick (speech_here s at)))

  module _ (e : ℕ) (m : w ≡ Some e) (y : Parsed) (f : y ≡ head_from s e) where
    pub top_fault : y ≡ None → None ≡ (top_item_at s at).place
    unfolding top_item_at item_at after pick
    top_fault n = sym (rw (← head_read e y m f, n) (same_pick (media_here s at)))

    module _ (x : Bool) where
      pub media_fault : x ≡ speech_here s at → x ≡ false → y ≡ None → None ≡ (media_item_at s at).place
      unfolding media_item_at item_at after pick
      media_fault g t n = sym (rw (← g, t, ← head_read e y m f, n))

      module _ (p : ℕ) (n : y ≡ Some p) (r : Parsed) where
        pub media_item : x ≡ speech_here s at → x ≡ false → r ≡ (braces_at (or_none_at (empty_at 6 s at) (items_at 6 s) s) s p).place → r ≡ (media_item_at s at).place
        unfolding media_item_at item_at after pick
        media_item g t h = h ∙ sym (rw (← g, t, ← head_read e y m f, n))

        pub top_media : x ≡ media_here s at → x ≡ true → r ≡ (braces_at (or_none_at (empty_at 7 s at) (media_at s) s) s p).place → r ≡ (top_item_at s at).place
        unfolding top_item_at item_at after pick
        top_media g t h = h ∙ sym (rw (← g, t, ← head_read e y m f, n))

        pub top_other : x ≡ media_here s at → x ≡ false → r ≡ (braces_at (or_none_at (empty_at 7 s at) (items_at 7 s) s) s p).place → r ≡ (top_item_at s at).place
        unfolding top_item_at item_at after pick
        top_other g t h = h ∙ sym (rw (← g, t, ← head_read e y m f, n))
