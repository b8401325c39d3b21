-- The parts that are found are those of the tree told by position.
use Rattle.std.specs.Prelude.{Some, None}
use Prim.Native.Nat.{ℕ, ◌+◌, ◌-◌, ◌≤◌, min}
use mathlib.Core.Path.{◌≡◌, refl, sym, ap, ◌∙◌}
use mathlib.Core.Bool.{Bool, true, false, ◌&&◌}
use mathlib.Core.List.{List}
use mathlib.Core.Option.{none, some}
use lib.ListN.{length}
use native.Mathlib.Omega.{arith}
use lib.Dec.{ltb}
use borrow.Author.Tests.{lt-ltb, le-ltb}
use Rattle.base.specs.Pick.{pick}
use Rattle.base.specs.Lists.{is_at, part}
use Rattle.megaco.specs.Bytes.{equal, left_brace, right_brace, slash, quote}
use Rattle.megaco.specs.Tokens.{octets_at, row_at, value_at, termination_at}
use Rattle.megaco.specs.Tree.{plain, quoted}
use Rattle.megaco.specs.Reading.{Read, value_of, may_be_empty, media_here, speech_here, prefix_at, prefix_end}
use Rattle.protocol.specs.Types.{Parsed, WordByte}
use Rattle.read_command.specs.declared.Piece.{Piece}
use Rattle.read_command.specs.Places.{order_start, order_at, braces_at, audit_at, empty_at, or_none_at, item_at, items_at, octets_start, octets_end, speech_at, media_item_at, media_at, top_item_at, command_at, second_at, equal_place, value_end, value_item_at, head_end, order_end, name_start, name_end, command_head_end}
use Rattle.read_command.specs.Pieces.{piece_of, Holds}
use Rattle.read_command.proofs.PartLaws.{part_within}
use Rattle.read_command.specs.Production.{Production, end_of, past_white, past_sign, word_end}
use Rattle.std.specs.declared.option.Option as std
use Rattle.command_places.specs.declared.ValuePlace.{ValuePlace}
use Rattle.command_places.specs.declared.ValuePlace.TheVariants.{Plain, Quoted}
use Rattle.command_places.specs.declared.ItemPlaces.{ItemPlaces}
use Rattle.command_places.specs.declared.SpeechPlaces.{SpeechPlaces}
use Rattle.command_places.specs.declared.Marks.{Marks}
use Rattle.command_places.specs.declared.CommandPlaces.{CommandPlaces}
use Rattle.command_places.specs.Found.{inside_at, held_in, closed_end, in_quotes, value_from, value_place, ValueWithin, QuotedWithin, OfValue, OfItem, item_from, OfSpeech, text_at, text_place, TextWithin, bytes_of, speech_from, marks_of, OfCommand, items_from, command_from, command_end_from}

-- ---- what stands in braces, if they follow

held_inside : {A : Type 0} (f : ℕ → A) (s : List ℕ) (e : ℕ) → held_in f (inside_at s e) ≡ pick (is_at s e left_brace) (some (f (past_sign left_brace s e))) none
unfolding held_in inside_at pick
held_inside f s e = by (is_at s e left_brace)
  where
    by : (t : Bool) → held_in f (pick t (Some (past_sign left_brace s e)) None) ≡ pick t (some (f (past_sign left_brace s e))) none
    by true = refl
    by false = refl

closed_inside : (end : ℕ → ℕ) (s : List ℕ) (e : ℕ) → closed_end end s (inside_at s e) e ≡ pick (is_at s e left_brace) (past_sign right_brace s (end (past_sign left_brace s e))) e
unfolding closed_end inside_at pick
closed_inside end s e = by (is_at s e left_brace)
  where
    by : (t : Bool) → closed_end end s (pick t (Some (past_sign left_brace s e)) None) e ≡ pick t (past_sign right_brace s (end (past_sign left_brace s e))) e
    by true = refl
    by false = refl

pub inside_some : (s : List ℕ) (e i : ℕ) (x : Parsed) → x ≡ inside_at s e → x ≡ Some i → (is_at s e left_brace ≡ true) × (i ≡ past_sign left_brace s e)
unfolding inside_at pick
inside_some s e i x g w = by (is_at s e left_brace) (past_sign left_brace s e) (sym g ∙ w)
  where
    by : (t : Bool) (p : ℕ) → pick t (Some p) None ≡ Some i → (t ≡ true) × (i ≡ p)
    by true p c = (refl, cc)
    by false p c = let d : ◌≡◌ {A = ℕ} 0 1 = cc in absurd (omega arith)

pub inside_none : (s : List ℕ) (e : ℕ) (x : Parsed) → x ≡ inside_at s e → x ≡ None → is_at s e left_brace ≡ false
unfolding inside_at pick
inside_none s e x g w = by (is_at s e left_brace) (past_sign left_brace s e) (sym g ∙ w)
  where
    by : (t : Bool) (p : ℕ) → pick t (Some p) None ≡ None → t ≡ false
    by true p c = let d : ◌≡◌ {A = ℕ} 0 1 = cc in absurd (omega arith)
    by false p c = refl

-- ---- items: what the parts tell is the tree

pub item_is : {A : Type 0} {q : ℕ → Read (List A)} (left : ℕ) (inner : (i : ℕ) → Production (q i)) (s : List ℕ) (at : ℕ) (r : ItemPlaces)
    → OfItem s at r → (item_at left inner s at).tree ≡ item_from (λ j. (or_none_at (empty_at left s at) inner s j).tree) s at r
unfolding item_at item_from may_be_empty empty_at audit_at second_at braces_at
item_is left inner s at r h = rw (h.word.bytes, h.second, h.inside, held_inside, h.value.tree)

-- braces that may not be empty hold items
pub item_filled : {A : Type 0} {q : ℕ → Read (List A)} (left : ℕ) (inner : (i : ℕ) → Production (q i)) (s : List ℕ) (at : ℕ) (r : ItemPlaces)
    → empty_at left s at ≡ false → OfItem s at r → (item_at left inner s at).tree ≡ item_from (λ j. (inner j).tree) s at r
unfolding item_from or_none_at pick
item_filled left inner s at r e h = item_is left inner s at r h ∙ rw e

pub command_is : (s : List ℕ) (at : ℕ) (r : CommandPlaces) → OfCommand s at r → (command_at s at).tree ≡ command_from s r
unfolding command_at order_at order_start order_end name_start name_end command_head_end command_from items_from braces_at
command_is s at r h = rw (h.optional, h.wild, h.word.bytes, h.name.bytes, h.inside, held_inside)

-- ---- ends: with braces, or where the part ends before them

module _ {A : Type 0} {q : ℕ → Read (List A)} (k : ℕ) (inner : (i : ℕ) → Production (q i)) (s : List ℕ) (at : ℕ) (r : ItemPlaces) (h : OfItem s at r) where
  module _ (i : ℕ) (b : r.inside ≡ Some i) where
    closed_by_lem : (x e : ℕ) → x ≡ (or_none_at (empty_at k s at) inner s i).end → e ≡ past_sign right_brace s x → e ≡ (item_at k inner s at).end
    unfolding item_at may_be_empty empty_at audit_at braces_at pick
    closed_by_lem x e f g = let w = inside_some s (head_end s at) i r.inside h.inside b in g ∙ sym (rw (w.0, ← w.1, ← f))

    module _ (t : Bool) (m : t ≡ (empty_at k s at && is_at s i right_brace)) (e : ℕ) where
      empty_by : t ≡ true → e ≡ past_sign right_brace s i → e ≡ (item_at k inner s at).end
      unfolding or_none_at pick
      empty_by y g = closed_by_lem i e (rw (← m, y)) g

      braced_by : t ≡ false → (x : ℕ) → x ≡ (inner i).end → e ≡ past_sign right_brace s x → e ≡ (item_at k inner s at).end
      unfolding or_none_at pick
      braced_by n x f g = closed_by_lem x e (f ∙ rw (← m, n)) g

  plain_by : r.inside ≡ None → r.end ≡ (item_at k inner s at).end
  unfolding item_at braces_at head_end pick
  plain_by b = let w = inside_none s (head_end s at) r.inside h.inside b in h.value.end ∙ sym (rw w)

module _ (k : ℕ) (s : List ℕ) (at : ℕ) (r : ItemPlaces) (h : OfItem s at r) where
  module _ (i : ℕ) (b : r.inside ≡ Some i) where
    pub item_closed : (x e : ℕ) → x ≡ (or_none_at (empty_at k s at) (items_at k s) s i).end → e ≡ past_sign right_brace s x → e ≡ (item_at k (items_at k s) s at).end
    item_closed x e f g = closed_by_lem k (items_at k s) s at r h i b x e f g

    module _ (t : Bool) (m : t ≡ (empty_at k s at && is_at s i right_brace)) (e : ℕ) where
      pub item_empty : t ≡ true → e ≡ past_sign right_brace s i → e ≡ (item_at k (items_at k s) s at).end
      item_empty y g = empty_by k (items_at k s) s at r h i b t m e y g

      pub item_braced : t ≡ false → (x : ℕ) → x ≡ (items_at k s i).end → e ≡ past_sign right_brace s x → e ≡ (item_at k (items_at k s) s at).end
      item_braced n x f g = braced_by k (items_at k s) s at r h i b t m e n x f g

  pub item_plain : r.inside ≡ None → r.end ≡ (item_at k (items_at k s) s at).end
  item_plain b = plain_by k (items_at k s) s at r h b

-- the same of a level 1 Media
module _ (s : List ℕ) (at : ℕ) (r : ItemPlaces) (h : OfItem s at r) where
  module _ (i : ℕ) (b : r.inside ≡ Some i) (t : Bool) (m : t ≡ (empty_at 7 s at && is_at s i right_brace)) (e : ℕ) where
    pub media_empty : t ≡ true → e ≡ past_sign right_brace s i → e ≡ (item_at 7 (media_at s) s at).end
    media_empty y g = empty_by 7 (media_at s) s at r h i b t m e y g

    pub media_braced : t ≡ false → (x : ℕ) → x ≡ (media_at s i).end → e ≡ past_sign right_brace s x → e ≡ (item_at 7 (media_at s) s at).end
    media_braced n x f g = braced_by 7 (media_at s) s at r h i b t m e n x f g

  pub media_plain : r.inside ≡ None → r.end ≡ (item_at 7 (media_at s) s at).end
  media_plain b = plain_by 7 (media_at s) s at r h b

pub command_ends : (s : List ℕ) (at e : ℕ) (r : CommandPlaces) → OfCommand s at r → e ≡ command_end_from s r → e ≡ (command_at s at).end
unfolding command_at order_at order_start order_end name_start name_end command_head_end command_end_from braces_at
command_ends s at e r h f = f ∙ rw (h.inside, h.end, closed_inside)

-- ---- a value that was found

piece_within : (s : List ℕ) (a e : ℕ) (p : Piece) → p ≡ piece_of s a e → (p.from ≤ p.to) × (p.to ≤ length s)
unfolding piece_of
piece_within s a e p h = let f : p.from ≡ min a (min e (length s)) = ap (λ (x : Piece). x.from) h in let t : p.to ≡ min e (length s) = ap (λ (x : Piece). x.to) h in (omega arith, omega arith)

piece_bytes : (s : List ℕ) (a e : ℕ) → part s (piece_of s a e).from (piece_of s a e).to ≡ part s a e
unfolding piece_of
piece_bytes s a e = part_within s a e _ _ refl refl

value_told : (s : List ℕ) (at : ℕ) (q : Bool) → some (pick q (quoted (part s (past_sign equal s at + 1) (value_end s at - 1))) (plain (part s (past_sign equal s at) (value_end s at))))
    ≡ value_from s at (Some (pick q (Quoted (piece_of s (past_sign equal s at) (value_end s at))) (Plain (piece_of s (past_sign equal s at) (value_end s at)))))
unfolding value_from in_quotes pick
value_told s at true = refl
value_told s at false = rw (piece_bytes s (past_sign equal s at) (value_end s at))

plain_within : (s : List ℕ) (a e : ℕ) (q : Bool) (p : Piece) → Some (pick q (Quoted (piece_of s a e)) (Plain (piece_of s a e))) ≡ Some (Plain p) → (p.from ≤ p.to) × (p.to ≤ length s)
unfolding pick
plain_within s a e true p k = let d : ◌≡◌ {A = ℕ} 0 1 = cc in absurd (omega arith)
plain_within s a e false p k = let d : p ≡ piece_of s a e = cc in piece_within s a e p d

quoted_within : (s : List ℕ) (a e : ℕ) (q : Bool) (p : Piece) → Some (pick q (Quoted (piece_of s a e)) (Plain (piece_of s a e))) ≡ Some (Quoted p) → (p.from ≤ p.to) × (p.to ≤ length s)
unfolding pick
quoted_within s a e true p k = let d : p ≡ piece_of s a e = cc in piece_within s a e p d
quoted_within s a e false p k = let d : ◌≡◌ {A = ℕ} 0 1 = cc in absurd (omega arith)

module _ (s : List ℕ) (at : ℕ) (x : Bool) (g : x ≡ is_at s at equal) where
  pub value_given_lem : (a e z : ℕ) (v : Parsed) (w : ValuePlace) → x ≡ true → a ≡ past_sign equal s at → v ≡ value_at s a → e ≡ end_of v
      → w ≡ pick (is_at s a quote) (Quoted (piece_of s a e)) (Plain (piece_of s a e)) → z ≡ past_white s e → OfValue s at (Some w) z
  unfolding value_place value_item_at value_end value_of ValueWithin QuotedWithin pick
  value_given_lem a e z v w t ea ev ee ew ez =
      let n : e ≡ value_end s at = ee ∙ rw (ev, ea) in
      let m : w ≡ pick (is_at s (past_sign equal s at) quote) (Quoted (piece_of s (past_sign equal s at) (value_end s at))) (Plain (piece_of s (past_sign equal s at) (value_end s at))) = ew ∙ rw (n, ea) in
      record {
        is = rw (← g, t, m);
        tree = rw (← g, t, m) (value_told s at (is_at s (past_sign equal s at) quote));
        within = λ p k. plain_within s a e (is_at s a quote) p (sym (ap Some ew) ∙ k);
        quoted_within = λ p k. quoted_within s a e (is_at s a quote) p (sym (ap Some ew) ∙ k);
        end = ez ∙ rw (← g, t, n);
      }

  pub value_none : x ≡ false → OfValue s at None at
  unfolding value_place value_item_at value_from ValueWithin QuotedWithin pick
  value_none f = record { is = rw (← g, f); tree = rw (← g, f); within = λ p k. (let d : ◌≡◌ {A = ℕ} 0 1 = cc in absurd (omega arith)); quoted_within = λ p k. (let d : ◌≡◌ {A = ℕ} 0 1 = cc in absurd (omega arith)); end = rw (← g, f) }

-- ---- an item that was found

pub item_found : (s : List ℕ) (at w u q e : ℕ) (p : Piece) (x : Bool) (v : std.Option ValuePlace) (i : Parsed) → w ≡ row_at WordByte s at → Holds s at w p → x ≡ is_at s w slash → u ≡ (second_at s w).end
    → q ≡ past_white s u → OfValue s q v e → i ≡ inside_at s e → OfItem s at (record { word = p; second = x; value = v; end = e; inside = i })
unfolding word_end equal_place head_end
item_found s at w u q e p x v i ew ep ex eu eq ev ei =
    let h : q ≡ past_white s (second_at s (row_at WordByte s at)).end = eq ∙ rw (eu, ew) in
    let z : e ≡ (value_item_at s (past_white s (second_at s (row_at WordByte s at)).end)).end = ev.end ∙ ap (λ x. (value_item_at s x).end) h in
    record { word = rw (← ew) ep; second = rw (← ew) ex; value = rw (← h) ev; inside = rw (← z) ei }

-- ---- Local or Remote that was found

pub speech_found : (s : List ℕ) (at w p a e z : ℕ) (x : Parsed) (u t : Piece) → w ≡ row_at WordByte s at → Holds s at w u → p ≡ past_white s w → a ≡ past_sign left_brace s p → x ≡ octets_at s a
    → e ≡ end_of x → Holds s a e t → z ≡ past_sign right_brace s e → OfSpeech s at (record { word = u; text = t; end = z })
unfolding word_end octets_start octets_end
speech_found s at w p a e z x u t ew eu ep ea ex ee h ez =
    let from : a ≡ past_sign left_brace s (past_white s (row_at WordByte s at)) = ea ∙ rw (ep, ew) in
    let es : e ≡ end_of (octets_at s (past_sign left_brace s (past_white s (row_at WordByte s at)))) = ee ∙ rw (ex, from) in
    record { word = rw (← ew) eu; text = rw (← es, ← from) h; end = ez ∙ rw es }

pub text_within : (s : List ℕ) (at : ℕ) (p : SpeechPlaces) → OfSpeech s at p → TextWithin s p
text_within s at p h = record { ordered = h.text.ordered; inside = h.text.inside }

pub text_is : (s : List ℕ) (at : ℕ) (p : SpeechPlaces) (r : List ℕ) → OfSpeech s at p → r ≡ bytes_of s p.text → r ≡ text_at s at
unfolding text_at
text_is s at p r h e = e ∙ h.text.bytes

pub text_begins : (s : List ℕ) (at : ℕ) (p : SpeechPlaces) (b o : ℕ) (r : ℕ × ℕ) → OfSpeech s at p → r ≡ (b, p.text.from + o) → r ≡ (b, text_place s at + o)
unfolding text_place
text_begins s at p b o r h e = e ∙ ap (λ (x : Piece). (b, x.from + o)) h.text.is

-- what its parts tell is the tree
pub speech_is : (s : List ℕ) (at : ℕ) (r : SpeechPlaces) → OfSpeech s at r → (speech_at s at).tree ≡ speech_from s r
unfolding speech_at speech_from octets_start octets_end
speech_is s at r h = rw (h.word.bytes, h.text.bytes)

pub speech_ends : (s : List ℕ) (at : ℕ) (r : SpeechPlaces) → OfSpeech s at r → r.end ≡ (speech_at s at).end
unfolding speech_at octets_start octets_end
speech_ends s at r h = h.end

-- ---- what stands in a level 1 Media, and at level 1

module _ (s : List ℕ) (at : ℕ) (x : Bool) (g : x ≡ speech_here s at) where
  pub ends_speech : (r : SpeechPlaces) → OfSpeech s at r → x ≡ true → r.end ≡ (media_item_at s at).end
  unfolding media_item_at pick
  ends_speech r h t = speech_ends s at r h ∙ sym (rw (← g, t))

  pub ends_item : (e : ℕ) → x ≡ false → e ≡ (item_at 6 (items_at 6 s) s at).end → e ≡ (media_item_at s at).end
  unfolding media_item_at pick
  ends_item e f h = h ∙ sym (rw (← g, f))

module _ (s : List ℕ) (at : ℕ) (x : Bool) (g : x ≡ media_here s at) (e : ℕ) where
  pub ends_media : x ≡ true → e ≡ (item_at 7 (media_at s) s at).end → e ≡ (top_item_at s at).end
  unfolding top_item_at pick
  ends_media t h = h ∙ sym (rw (← g, t))

  pub ends_top : x ≡ false → e ≡ (item_at 7 (items_at 7 s) s at).end → e ≡ (top_item_at s at).end
  unfolding top_item_at pick
  ends_top f h = h ∙ sym (rw (← g, f))

-- ---- a command that was found

-- a prefix stands where its end is further on
prefix_law : (b : ℕ) (s : List ℕ) (at o : ℕ) → o ≡ prefix_end b s at → ltb at o ≡ prefix_at b s at
unfolding prefix_end pick
prefix_law b s at o e = rw e (by (prefix_at b s at))
  where
    by : (t : Bool) → ltb at (pick t (at + 2) at) ≡ t
    by true = lt-ltb at (at + 2) (omega arith)
    by false = le-ltb at at (omega arith)

pub marks_found : (s : List ℕ) (at o w : ℕ) → o ≡ prefix_end 0x4f s at → w ≡ prefix_end 0x57 s o → record { optional = ltb at o; wild = ltb o w; at = w } ≡ marks_of s at
unfolding marks_of order_start
marks_found s at o w e f = rw (prefix_law 0x4f s at o e, prefix_law 0x57 s o w f, f, e)

pub command_found : (s : List ℕ) (at e f p n z : ℕ) (m : Marks) (word name : Piece) (x y : Parsed) → m ≡ marks_of s at → e ≡ row_at WordByte s m.at → Holds s m.at e word
    → p ≡ past_white s e → n ≡ past_sign equal s p → x ≡ termination_at s n → f ≡ end_of x → Holds s n f name → z ≡ past_white s f → y ≡ inside_at s z
    → OfCommand s at (record { optional = m.optional; wild = m.wild; word = word; name = name; end = z; inside = y })
unfolding marks_of word_end order_end name_start name_end command_head_end
command_found s at e f p n z m word name x y em ee ew ep en ex ef ea ez ei =
    let ms : m.at ≡ order_start s at = ap (λ (y : Marks). y.at) em in
    let es : e ≡ row_at WordByte s (order_start s at) = ee ∙ rw ms in
    let ns : n ≡ past_sign equal s (past_white s (row_at WordByte s (order_start s at))) = en ∙ rw (ep, es) in
    let fs : f ≡ end_of (termination_at s (past_sign equal s (past_white s (row_at WordByte s (order_start s at))))) = ef ∙ rw (ex, ns) in
    let zs : z ≡ past_white s (end_of (termination_at s (past_sign equal s (past_white s (row_at WordByte s (order_start s at)))))) = ez ∙ rw fs in
    record {
      optional = ap (λ (y : Marks). y.optional) em;
      wild = ap (λ (y : Marks). y.wild) em;
      word = rw (← ms, ← ee) ew;
      name = rw (← fs, ← ns) ea;
      end = zs;
      inside = rw (← zs) ei;
    }
