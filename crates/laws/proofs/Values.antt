-- The values that a command's items give are values that there are, and a property word stays one with them.
use Rattle.std.specs.Prelude.{Some, None, Ok, Err}
use Prim.Native.Nat.{ℕ, ◌+◌, ◌*◌, ◌≤◌}
use mathlib.Core.Bool.{Bool, true, false}
use mathlib.Core.List.{List, [], ◌∷◌}
use mathlib.Core.Option.{Option, none, some}
use native.Mathlib.Omega.{arith}
use Rattle.protocol.specs.Types.{Given, Judged, Kind, InControl, InState, Speech, Released, Session, Side, OfLocal, OfRemote, SdpText, EmptyText, Described, NotInSubset, Descriptors, Op, Add, Modify, Subtract, Move, AuditValue, Values}
use Rattle.megaco.specs.Tree.{Value, plain, quoted, octets, ItemOf, item, Items}
use Rattle.megaco.specs.Table.{mode_of, state_of}
use Rattle.megaco.specs.Items.{change, update, onward, mode_given, state_given, value_given, set_value, property_items, items_in, set_speech, speech_given, speech_item, called_in, either, no_descriptors, descriptor_item, media_items, top_items, auditing, audited_items, audit_items, audit_given, unchanged, media_given, no_items, judge_items}
use Rattle.protocol.specs.Ranges.{SpeechInRange, kept, released, session, InRange, JudgedInRange, wrong, right}
use Rattle.megaco.specs.Sdp.{read_sdp}
use Rattle.megaco.proofs.SdpSizes.{TextSmall, text_small}
use Rattle.base.proofs.TestLaws.{pick_of}
use Rattle.laws.specs.Sound.{SoundWord}

pub update_sound : (vs : Values) (w : ℕ) → InRange vs → SoundWord w → SoundWord (update vs w)
unfolding update
update_sound vs w f s = by vs.mode vs.state f.mode f.state
  where
    by : (m n : Given) → change m 0 ≤ 4 → change n 0 ≤ 2 → SoundWord (change m (mode_of w) + 8 * change n (state_of w))
    by None None p q = omega arith
    by None (Some y) p q = omega arith
    by (Some x) None p q = omega arith
    by (Some x) (Some y) p q = omega arith

-- ---- what items give

abbrev UpTo : ℕ → Given → Type 0
UpTo n g = change g 0 ≤ n

abbrev limit : Kind → ℕ
limit InControl = 4
limit InState = 2

mode_low : (w : List ℕ) → UpTo 4 (mode_given w)
unfolding mode_given
mode_low w =
    pick_of (UpTo 4) _ (λ _. omega arith) (λ _. pick_of (UpTo 4) _ (λ _. omega arith) (λ _. pick_of (UpTo 4) _ (λ _. omega arith)
    (λ _. pick_of (UpTo 4) _ (λ _. omega arith) (λ _. pick_of (UpTo 4) _ (λ _. omega arith) (λ _. omega arith)))))

state_low : (w : List ℕ) → UpTo 2 (state_given w)
unfolding state_given
state_low w = pick_of (UpTo 2) _ (λ _. omega arith) (λ _. pick_of (UpTo 2) _ (λ _. omega arith) (λ _. pick_of (UpTo 2) _ (λ _. omega arith) (λ _. omega arith)))

value_low : (k : Kind) (v : Option Value) → UpTo (limit k) (value_given k v)
unfolding value_given
value_low k none = omega arith
value_low k (some (quoted w)) = omega arith
value_low k (some (octets w)) = omega arith
value_low InControl (some (plain w)) = mode_low w
value_low InState (some (plain w)) = state_low w

set_in_range : (k : Kind) (g : Given) (vs : Values) → UpTo (limit k) g → InRange vs → JudgedInRange (set_value k g vs)
unfolding set_value
set_in_range k None vs l f = wrong
set_in_range InControl (Some x) vs l f = right (record { mode = l; state = f.state; local = f.local; remote = f.remote })
set_in_range InState (Some x) vs l f = right (record { mode = f.mode; state = l; local = f.local; remote = f.remote })

speech_set : (d : Side) (x : Speech) (vs : Values) → SpeechInRange x → InRange vs → InRange (set_speech d x vs)
unfolding set_speech
speech_set OfLocal x vs h f = record { mode = f.mode; state = f.state; local = h; remote = f.remote }
speech_set OfRemote x vs h f = record { mode = f.mode; state = f.state; local = f.local; remote = h }

text_in_range : (d : Side) (x : SdpText) (vs : Values) → TextSmall x → InRange vs → JudgedInRange (speech_given d x vs)
unfolding speech_given
text_in_range d EmptyText vs h f = right (speech_set d Released vs released f)
text_in_range d (Described a p k) vs h f = right (speech_set d (Session a p k) vs (session h.0 h.1 h.2) f)
text_in_range d NotInSubset vs h f = wrong

speech_in_range : (d : Side) (v : Option Value) (vs : Values) → InRange vs → JudgedInRange (speech_item d v vs)
unfolding speech_item
speech_in_range d none vs f = wrong
speech_in_range d (some (plain w)) vs f = wrong
speech_in_range d (some (quoted w)) vs f = wrong
speech_in_range d (some (octets t)) vs f = text_in_range d (read_sdp t) vs (text_small t) f

onward_in_range : (j : Judged) (f : Values → Judged) → JudgedInRange j → ((vs : Values) → InRange vs → JudgedInRange (f vs)) → JudgedInRange (onward j f)
unfolding onward
onward_in_range (Err code) f h g = wrong
onward_in_range (Ok vs) f (right h) g = g vs h

module _ {A : Type 0} where
  property_in_range : (k : Kind) (is : List (ItemOf A)) (seen : Bool) (vs : Values) → InRange vs → JudgedInRange (property_items k is seen vs)
  unfolding property_items
  property_in_range k [] seen vs f = right f
  property_in_range k (item w x v is ∷ rest) seen vs f =
      pick_of JudgedInRange _ (λ _. wrong) (λ _. pick_of JudgedInRange _ (λ _. wrong) (λ _. pick_of JudgedInRange _
      (λ _. onward_in_range _ _ (set_in_range k (value_given k v) vs (value_low k v) f) (λ us g. property_in_range k rest true us g)) (λ _. wrong)))

  descriptor_in_range : (c : Descriptors) (v : Option Value) (is : Option (List (ItemOf A))) (vs : Values) → InRange vs → JudgedInRange (descriptor_item c v is vs)
  unfolding descriptor_item
  descriptor_in_range c v is vs f =
      pick_of JudgedInRange _ (λ _. speech_in_range OfLocal v vs f) (λ _. pick_of JudgedInRange _ (λ _. speech_in_range OfRemote v vs f)
      (λ _. pick_of JudgedInRange _ (λ _. property_in_range _ (items_in is) false vs f) (λ _. wrong)))

  media_in_range : (is : List (ItemOf (ItemOf A))) (stood : Descriptors) (vs : Values) → InRange vs → JudgedInRange (media_items is stood vs)
  unfolding media_items
  media_in_range [] stood vs f = right f
  media_in_range (item w x v is ∷ rest) stood vs f =
      pick_of JudgedInRange _ (λ _. wrong) (λ _. pick_of JudgedInRange _ (λ _. wrong)
      (λ _. onward_in_range _ _ (descriptor_in_range (called_in w x) v is vs f) (λ us g. media_in_range rest (either (called_in w x) stood) us g)))

  top_in_range : (is : List (ItemOf (ItemOf (ItemOf A)))) (seen : Bool) (vs : Values) → InRange vs → JudgedInRange (top_items is seen vs)
  unfolding top_items
  top_in_range [] seen vs f = right f
  top_in_range (item w x v is ∷ rest) seen vs f =
      pick_of JudgedInRange _ (λ _. wrong) (λ _. pick_of JudgedInRange _ (λ _. wrong) (λ _. pick_of JudgedInRange _
      (λ _. onward_in_range _ _ (media_in_range (items_in is) no_descriptors vs f) (λ us g. top_in_range rest true us g)) (λ _. wrong)))

unchanged_in_range : InRange unchanged
unchanged_in_range = record { mode = omega arith; state = omega arith; local = kept; remote = kept }

auditing_in_range : InRange auditing
auditing_in_range = record { mode = omega arith; state = omega arith; local = kept; remote = kept }

module _ {A : Type 0} where
  audited_in_range : (is : List (ItemOf A)) (seen : Bool) (vs : Values) → InRange vs → JudgedInRange (audited_items is seen vs)
  unfolding audited_items
  audited_in_range [] seen vs f = right f
  audited_in_range (item w x v is ∷ rest) seen vs f =
      pick_of JudgedInRange _ (λ _. wrong) (λ _. pick_of JudgedInRange _ (λ _. wrong) (λ _. pick_of JudgedInRange _
      (λ _. audited_in_range rest true auditing auditing_in_range) (λ _. wrong)))

  audit_in_range : (is : List (ItemOf (ItemOf A))) (seen : Bool) (vs : Values) → InRange vs → JudgedInRange (audit_items is seen vs)
  unfolding audit_items
  audit_in_range [] seen vs f = right f
  audit_in_range (item w x v is ∷ rest) seen vs f =
      pick_of JudgedInRange _ (λ _. wrong) (λ _. pick_of JudgedInRange _ (λ _. wrong) (λ _. pick_of JudgedInRange _
      (λ _. onward_in_range _ _ (audited_in_range (items_in is) false vs f) (λ us g. audit_in_range rest true us g)) (λ _. wrong)))

  given_in_range : (is : List (ItemOf (ItemOf A))) → JudgedInRange (audit_given is)
  unfolding audit_given
  given_in_range [] = wrong
  given_in_range (i ∷ is) = audit_in_range (i ∷ is) false unchanged unchanged_in_range

media_given_in_range : (items : Items) → JudgedInRange (media_given items)
unfolding media_given
media_given_in_range none = right unchanged_in_range
media_given_in_range (some is) = top_in_range is false unchanged unchanged_in_range

none_in_range : (items : Items) → JudgedInRange (no_items items)
unfolding no_items
none_in_range none = right unchanged_in_range
none_in_range (some is) = wrong

pub items_in_range : (op : Op) (items : Items) → JudgedInRange (judge_items op items)
unfolding judge_items
items_in_range Add items = media_given_in_range items
items_in_range Modify items = media_given_in_range items
items_in_range Subtract items = none_in_range items
items_in_range Move items = media_given_in_range items
items_in_range AuditValue items = given_in_range (items_in items)
