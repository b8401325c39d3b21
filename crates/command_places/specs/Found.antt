-- What is promised of the parts that are found: they are those of the tree told by position (crate `read_command`, Places).
use Rattle.std.specs.Prelude.{ℕ, ◌+◌, ◌-◌, ◌≤◌, ◌≡◌, List, length, Some, None}
use Rattle.std.proofs.Math.Option.{Option, none, some}
use Rattle.base.specs.Pick.{pick}
use Rattle.base.specs.Lists.{is_at, part}
use Rattle.megaco.specs.Bytes.{comma, equal, left_brace, right_brace, slash, quote}
use Rattle.megaco.specs.Tree.{Value, plain, quoted, octets, ItemOf, item, Item, Items, Command, command}
use Rattle.megaco.specs.Reading.{prefix_at, prefix_end}
use Rattle.protocol.specs.Types.{Parsed}
use Rattle.read_command.specs.declared.Piece.{Piece}
use Rattle.read_command.specs.Places.{order_start, equal_place, value_end, value_item_at, head_end, octets_start, octets_end, top_at, order_end, name_start, name_end, command_head_end}
use Rattle.read_command.specs.Pieces.{piece_of, Holds}
use Rattle.read_command.specs.Production.{past_sign, word_end}
use Rattle.std.specs.declared.option.Option as std
use Rattle.command_places.specs.declared.ValuePlace.{ValuePlace}
use Rattle.command_places.specs.declared.ValuePlace.TheVariants.{Plain, Quoted}
use Rattle.command_places.specs.declared.ItemPlaces.{ItemPlaces}
use Rattle.command_places.specs.declared.SpeechPlaces.{SpeechPlaces}
use Rattle.command_places.specs.declared.Marks.{Marks}
use Rattle.command_places.specs.declared.CommandPlaces.{CommandPlaces}

-- the bytes of a part that was found
abbrev pub bytes_of : List ℕ → Piece → List ℕ
bytes_of s p = part s p.from p.to

-- where the next of the parts joined by commas begins, if one follows the part that ends at e
unfoldable pub next_at : List ℕ → ℕ → Parsed
next_at s e = pick (is_at s e comma) (Some (past_sign comma s e)) None

-- where what stands in braces begins, if braces follow a part that ends at e
unfoldable pub inside_at : List ℕ → ℕ → Parsed
inside_at s e = pick (is_at s e left_brace) (Some (past_sign left_brace s e)) None

-- what stands in the braces that begin there, if there are any; and where such a part ends
unfoldable pub held_in : {A : Type 0} → (ℕ → A) → Parsed → Option A
held_in inner (Some i) = some (inner i)
held_in inner None = none

unfoldable pub closed_end : (ℕ → ℕ) → List ℕ → Parsed → ℕ → ℕ
closed_end end s (Some i) e = past_sign right_brace s (end i)
closed_end end s None e = e

-- ---- items

-- what stands between the quotes of a value
unfoldable pub in_quotes : List ℕ → ℕ → List ℕ
in_quotes s at = part s (past_sign equal s at + 1) (value_end s at - 1)

unfoldable pub value_from : List ℕ → ℕ → std.Option ValuePlace → Option Value
value_from s at (Some (Plain p)) = some (plain (bytes_of s p))
value_from s at (Some (Quoted p)) = some (quoted (in_quotes s at))
value_from s at None = none

unfoldable pub value_place : List ℕ → ℕ → std.Option ValuePlace
value_place s at =
    let a = past_sign equal s at in
    pick (is_at s at equal) (Some (pick (is_at s a quote) (Quoted (piece_of s a (value_end s at))) (Plain (piece_of s a (value_end s at))))) None

-- the bytes of a plain value lie within the message
unfoldable pub ValueWithin : List ℕ → std.Option ValuePlace → Type 0
ValueWithin s v = (p : Piece) → v ≡ Some (Plain p) → (p.from ≤ p.to) × (p.to ≤ length s)

-- and those of a quoted value, with its quotes
unfoldable pub QuotedWithin : List ℕ → std.Option ValuePlace → Type 0
QuotedWithin s v = (p : Piece) → v ≡ Some (Quoted p) → (p.from ≤ p.to) × (p.to ≤ length s)

pub record OfValue (s : List ℕ) (at : ℕ) (v : std.Option ValuePlace) (e : ℕ) : Type 0 where
  pub is : v ≡ value_place s at
  pub tree : (value_item_at s at).tree ≡ value_from s at v
  pub within : ValueWithin s v
  pub quoted_within : QuotedWithin s v
  pub end : e ≡ (value_item_at s at).end

pub record OfItem (s : List ℕ) (at : ℕ) (r : ItemPlaces) : Type 0 where
  pub word : Holds s at (word_end s at) r.word
  pub second : r.second ≡ is_at s (word_end s at) slash
  pub value : OfValue s (equal_place s at) r.value r.end
  pub inside : r.inside ≡ inside_at s (head_end s at)

-- an item as its parts tell it, with a reader of what stands in its braces
unfoldable pub item_from : {A : Type 0} → (ℕ → List A) → List ℕ → ℕ → ItemPlaces → ItemOf A
item_from inner s at r =
    item (bytes_of s r.word) (pick r.second (some (part s (word_end s at + 1) (word_end s (word_end s at + 1)))) none)
    (value_from s (equal_place s at) r.value) (held_in inner r.inside)

-- ---- Local and Remote in a level 1 Media

pub record OfSpeech (s : List ℕ) (at : ℕ) (r : SpeechPlaces) : Type 0 where
  pub word : Holds s at (word_end s at) r.word
  pub text : Holds s (octets_start s at) (octets_end s at) r.text
  pub end : r.end ≡ past_sign right_brace s (octets_end s at)

-- "the part of the message that holds the text": its bytes, and where it begins in the message
unfoldable pub text_at : List ℕ → ℕ → List ℕ
text_at s at = part s (octets_start s at) (octets_end s at)

unfoldable pub text_place : List ℕ → ℕ → ℕ
text_place s at = (piece_of s (octets_start s at) (octets_end s at)).from

pub record TextWithin (s : List ℕ) (r : SpeechPlaces) : Type 0 where
  pub ordered : r.text.from ≤ r.text.to
  pub inside : r.text.to ≤ length s

-- as its parts tell it
unfoldable pub speech_from : List ℕ → SpeechPlaces → Item 7
speech_from s r = item (bytes_of s r.word) none (some (octets (bytes_of s r.text))) none

-- ---- commands

unfoldable pub marks_of : List ℕ → ℕ → Marks
marks_of s at = record { optional = prefix_at 0x4f s at; wild = prefix_at 0x57 s (prefix_end 0x4f s at); at = order_start s at }

pub record OfCommand (s : List ℕ) (at : ℕ) (r : CommandPlaces) : Type 0 where
  pub optional : r.optional ≡ prefix_at 0x4f s at
  pub wild : r.wild ≡ prefix_at 0x57 s (prefix_end 0x4f s at)
  pub word : Holds s (order_start s at) (order_end s at) r.word
  pub name : Holds s (name_start s at) (name_end s at) r.name
  pub end : r.end ≡ command_head_end s at
  pub inside : r.inside ≡ inside_at s (command_head_end s at)

-- a command as its parts tell it
unfoldable pub items_from : List ℕ → CommandPlaces → Items
items_from s r = held_in (λ i. (top_at s i).tree) r.inside

unfoldable pub command_from : List ℕ → CommandPlaces → Command
command_from s r = command r.optional r.wild (bytes_of s r.word) (bytes_of s r.name) (items_from s r)

unfoldable pub command_end_from : List ℕ → CommandPlaces → ℕ
command_end_from s r = closed_end (λ i. (top_at s i).end) s r.inside r.end
