-- What is judged of one item, told by its parts (crate `command_places`): the definition with the tests of the code.
use Rattle.std.specs.Prelude.{ℕ, zero, suc, ◌≤◌, Bool, true, false, not, ◌&&◌, ◌||◌, List, length, Some, None, Ok, Err}
use Rattle.std.proofs.Math.Option.{some}
use Rattle.std.specs.declared.option.Option as std
use Rattle.std.specs.declared.result.Result.{Result}
use Rattle.std.specs.Option.{is_some, is_none}
use Rattle.base.specs.Pick.{pick}
use Rattle.base.specs.Lists.{is_at}
use Rattle.megaco.specs.Bytes.{comma, right_brace}
use Rattle.megaco.specs.Keywords.{is_token, spells}
use Rattle.megaco.specs.Tree.{plain, ItemOf, item}
use Rattle.megaco.specs.Items.{property_token, value_given, set_value, property_items, speech_given, called_in, both, either, no_descriptors, media_items, auditing, audited_items}
use Rattle.megaco.specs.Sdp.{read_sdp}
use Rattle.protocol.specs.Types.{Parsed, Token, AuditToken, MediaToken, LocalToken, RemoteToken, LocalControlToken, TerminationStateToken, InactiveToken, SendonlyToken, RecvonlyToken, SendrecvToken, LoopbackToken, InSvcToken, OutOfSvcToken, TestToken, Given, Judged, Checked, Kind, InControl, InState, Side, OfLocal, OfRemote, Descriptors, Values}
use Rattle.read_command.specs.Production.{past_sign}
use Rattle.read_command.specs.Places.{or_none_at, items_at, media_at}
use Rattle.command_places.specs.declared.ItemPlaces.{ItemPlaces}
use Rattle.command_places.specs.declared.ValuePlace.{ValuePlace}
use Rattle.command_places.specs.declared.ValuePlace.TheVariants.{Plain, Quoted}
use Rattle.command_places.specs.Found.{bytes_of, ValueWithin}
use Rattle.judge_items.specs.declared.Reached.{Reached}

-- an item's word and its plain value lie within the message
pub record InMessage (s : List ℕ) (p : ItemPlaces) : Type 0 where
  pub word_ordered : p.word.from ≤ p.word.to
  pub word_inside : p.word.to ≤ length s
  pub value : ValueWithin s p.value

-- a name with `/` is called by none
unfoldable pub called_by : Token → List ℕ → ItemPlaces → Bool
called_by k s p = not p.second && spells k (bytes_of s p.word)

-- what a keyword gives
unfoldable pub mode_by : Token → Given
mode_by k =
    pick (is_token InactiveToken k) (Some 0)
    (pick (is_token SendonlyToken k) (Some 1)
    (pick (is_token RecvonlyToken k) (Some 2)
    (pick (is_token SendrecvToken k) (Some 3)
    (pick (is_token LoopbackToken k) (Some 4) None))))

unfoldable pub state_by : Token → Given
state_by k = pick (is_token InSvcToken k) (Some 0) (pick (is_token OutOfSvcToken k) (Some 1) (pick (is_token TestToken k) (Some 2) None))

-- a quoted value gives none
unfoldable pub value_in : Kind → List ℕ → std.Option ValuePlace → Given
value_in k s (Some (Plain w)) = value_given k (some (plain (bytes_of s w)))
value_in k s (Some (Quoted q)) = None
value_in k s None = None

unfoldable pub value_by : Kind → List ℕ → ItemPlaces → Given
value_by k s p = value_in k s p.value

-- what items are judged, and where they end if nothing is wrong with them
unfoldable pub ended : Judged → ℕ → Result Reached ℕ
ended (Ok vs) e = Ok (record { values = vs; end = e })
ended (Err code) e = Err code

-- items and the brace that closes them
unfoldable pub closed_by : List ℕ → Result Reached ℕ → Result Reached ℕ
closed_by s (Ok x) = Ok (record { values = x.values; end = past_sign right_brace s x.end })
closed_by s (Err code) = Err code

-- one item of a list, with what has stood before the item after it
unfoldable pub ended_next : {S : Type 0} → Judged → ℕ → S → Result (Reached × S) ℕ
ended_next (Ok vs) e st = Ok (record { values = vs; end = e }, st)
ended_next (Err code) e st = Err code

unfoldable pub then_judged : {S : Type 0} → Result (Reached × S) ℕ → (Reached → S → Result Reached ℕ) → Result Reached ℕ
then_judged (Ok (x, st)) f = f x st
then_judged (Err code) f = Err code

-- at most k items joined by commas, judged in reading order, each by `one`: from its place, what stood before it, and the values so far
unfoldable pub judge_list : {S : Type 0} → (ℕ → S → Values → Result (Reached × S) ℕ) → List ℕ → ℕ → ℕ → S → Values → Result Reached ℕ
judge_list one s zero i st vs = Ok (record { values = vs; end = i })
judge_list one s (suc k) i st vs = then_judged (one i st vs) (λ x nx. pick (is_at s x.end comma) (judge_list one s k (past_sign comma s x.end) nx x.values) (Ok x))

-- ---- one item at each level

-- "444 .. 445 ..; 448 repeated in its braces; 442 wrong shape"
unfoldable pub item_checked : ℕ → Bool → Bool → Bool → Checked
item_checked unknown known repeated shaped = pick (not known) (Err unknown) (pick repeated (Err 448) (pick (not shaped) (Err 442) (Ok tt)))

-- the code, or what stands inside
unfoldable pub judged_by : Checked → Judged → Judged
judged_by (Ok tt) inside = inside
judged_by (Err code) inside = Err code

-- what stands inside is judged: without braces the shape is wrong
unfoldable pub inside_judged : Parsed → (ℕ → Judged) → Judged
inside_judged (Some i) f = f i
inside_judged None f = Err 442

-- "the three descriptors have braces and no value, the two properties a value and no braces"
abbrev pub property_shape_by : ItemPlaces → Bool
property_shape_by p = is_some p.value && is_none p.inside

unfoldable pub property_by : Kind → Bool → Values → List ℕ → ItemPlaces → Judged
property_by k seen vs s p = judged_by (item_checked 445 (called_by (property_token k) s p) seen (property_shape_by p)) (set_value k (value_by k s p) vs)

-- ---- in Media

-- which descriptor an item is called
unfoldable pub called_as : List ℕ → ItemPlaces → Descriptors
called_as s p = record { control = called_by LocalControlToken s p; state = called_by TerminationStateToken s p; local = called_by LocalToken s p; remote = called_by RemoteToken s p }

-- by its word alone: a name with `/` is called by none
unfoldable pub called_unless : Bool → Descriptors → Descriptors
called_unless second c =
    record { control = not second && c.control; state = not second && c.state; local = not second && c.local; remote = not second && c.remote }

unfoldable pub kind_of : Bool → Kind
kind_of control = pick control InControl InState

unfoldable pub side_of : Bool → Side
side_of local = pick local OfLocal OfRemote

-- "442 for either word with a value or without braces": an item without a text is neither
abbrev pub media_shape_by : Descriptors → ItemPlaces → Bool
media_shape_by c p = not c.local && not c.remote && is_none p.value

unfoldable pub media_by : Descriptors → Descriptors → Values → List ℕ → ItemPlaces → Judged
media_by c stood vs s p =
    judged_by (item_checked 444 (both c c) (both c stood) (media_shape_by c p)) (inside_judged p.inside (λ i. property_items (kind_of c.control) (items_at 6 s i).tree false vs))

-- Local or Remote with a text
unfoldable pub speech_by : Descriptors → Descriptors → Values → List ℕ → Judged
speech_by c stood vs t = judged_by (item_checked 444 (both c c) (both c stood) (c.local || c.remote)) (speech_given (side_of c.local) (read_sdp t) vs)

-- the descriptors that stood before the item after this one
unfoldable pub stood_next : {A : Type 0} → ItemOf A → Descriptors → Descriptors
stood_next (item w x v is) stood = either (called_in w x) stood

unfoldable pub top_by : Bool → Values → List ℕ → ItemPlaces → Judged
top_by seen vs s p = judged_by (item_checked 444 (called_by MediaToken s p) seen (is_none p.value)) (inside_judged p.inside (λ i. media_items (media_at s i).tree no_descriptors vs))

-- in Audit Media stands bare
abbrev pub bare_shape_by : ItemPlaces → Bool
bare_shape_by p = is_none p.value && is_none p.inside

unfoldable pub audited_by : Bool → List ℕ → ItemPlaces → Judged
audited_by seen s p = judged_by (item_checked 444 (called_by MediaToken s p) seen (bare_shape_by p)) (Ok auditing)

-- at the top Audit, in whose braces items may stand or nothing
unfoldable pub audit_by : Bool → Values → List ℕ → ItemPlaces → Judged
audit_by seen vs s p = judged_by (item_checked 447 (called_by AuditToken s p) seen (is_none p.value)) (inside_judged p.inside (λ i. audited_items (or_none_at true (items_at 7 s) s i).tree false vs))
