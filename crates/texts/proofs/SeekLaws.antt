-- The search for a text, in the form in which `search` uses it.
use Rattle.std.specs.Prelude.{Some, None}
use Rattle.std.proofs.Common.{Continue, Break}
use Prim.Native.Nat.{ℕ, zero, suc, ◌+◌, ◌-◌, ◌*◌, ◌<◌, ◌≤◌}
use mathlib.Core.Path.{◌≡◌, refl, sym, ap, ◌∙◌}
use mathlib.Core.Bool.{Bool, true, false, ◌&&◌}
use mathlib.Core.List.{List, [], ◌∷◌, ◌++◌}
use native.Mathlib.Omega.{arith}
use lib.ListN.{length, take, drop, length-drop}
use lib.Seq.{length-take-le}
use lib.Dec.{ltb}
use borrow.Author.Tests.{lt-ltb, le-ltb}
use Rattle.base.specs.Pick.{pick}
use Rattle.base.specs.Lists.{is_at, part}
use Rattle.megaco.specs.Bytes.{comma, right_brace}
use Rattle.megaco.specs.Keywords.{spells}
use Rattle.megaco.specs.Reading.{unlimited, media_here, speech_here}
use Rattle.protocol.specs.Types.{Parsed, LocalToken}
use Rattle.read_command.specs.declared.Rest.{Rest}
use Rattle.read_command.specs.declared.Piece.{Piece}
use Rattle.read_command.specs.Pieces.{piece_of, Holds}
use Rattle.read_command.specs.Production.{past_sign, list_end}
use Rattle.read_command.specs.Places.{item_at, media_item_at, media_at, top_item_at, top_at, command_at, commands_at, rest_of, rest_in, body_end, action_at, actions_at, acks_at, acks_start, acknowledgement_at, head_end, command_head_end}
use Rattle.read_command.specs.Messages.{actions_start, closing_end, transaction_end, is_acknowledgement, acknowledgement_end, part_end}
use Rattle.command_places.specs.declared.ItemPlaces.{ItemPlaces}
use Rattle.command_places.specs.declared.SpeechPlaces.{SpeechPlaces}
use Rattle.command_places.specs.declared.CommandPlaces.{CommandPlaces}
use Rattle.command_places.specs.Found.{next_at, OfItem, OfSpeech, OfCommand, closed_end, command_end_from}
use Rattle.command_places.proofs.NextLaws.{part_last, part_more}
use Rattle.command_places.proofs.PlaceLaws.{inside_some, inside_none, media_braced, command_ends}
use Rattle.action_places.specs.declared.ActionPlaces.{ActionPlaces}
use Rattle.action_places.specs.declared.TransactionPlaces.{TransactionPlaces}
use Rattle.action_places.specs.ActionPlaces.{action_places, transaction_places}
use Rattle.action_places.proofs.ActionPlaceLaws.{action_ends, transaction_ends}
use Rattle.texts.specs.declared.Holder.{Holder}
use Rattle.texts.specs.declared.Behind.{Behind}
use Rattle.texts.specs.Texts.{Wanted, Sought, behind, holders_in, media_item_holders, media_holders, top_item_holders, top_holders, command_holders, commands_holders, rest_holders, action_holders, actions_holders, served_holders, transactions_holders, sought, closed_sought, found_in, holder_number, local_at, side_there, text_start, text_end, owner_start, owner_end, text_number, side_of, name_of, bytes_of, text_place, name_place, if_taken, part_number, text_part, name_part, side_given}
use Rattle.texts.proofs.TreeLaws.{media_not_empty, there_side, there_name, there_text}

-- ---- the search in two parts

unfoldable by_sought : Sought → (ℕ → Sought) → Sought
by_sought (Break x) f = Break x
by_sought (Continue b) f = f b.left

sought_both : (xs ys : List Holder) (e d k : ℕ) → sought (xs ++ ys) e k ≡ by_sought (sought xs d k) (sought ys e)
unfolding sought by_sought
sought_both [] ys e d k = refl
sought_both (x ∷ xs) ys e d zero = refl
sought_both (x ∷ xs) ys e d (suc k) = sought_both xs ys e d k

is_here : Sought → ℕ
is_here (Break x) = 1
is_here (Continue b) = 0

not_here : (k e : ℕ) (z : Holder) → ◌≡◌ {A = Sought} (behind k e) (Break z) → ⊥
unfolding is_here
not_here k e z h = let w : ◌≡◌ {A = ℕ} 0 1 = ap is_here h in omega arith

-- what is behind has the end that was told
end_of : Sought → ℕ
end_of (Break x) = 0
end_of (Continue b) = b.end

left_of : Sought → ℕ
left_of (Break x) = 0
left_of (Continue b) = b.left

behind_end : (xs : List Holder) (e k l d : ℕ) → sought xs e k ≡ behind l d → d ≡ e
unfolding sought end_of
behind_end [] e k l d h = let w : e ≡ d = ap end_of h in sym w
behind_end (x ∷ xs) e zero l d h = absurd (not_here l d x (sym h))
behind_end (x ∷ xs) e (suc k) l d h = behind_end xs e k l d h

-- what is found does not depend on the end
found_here : (xs : List Holder) (e d k : ℕ) (z : Holder) (y : Sought) → y ≡ sought xs e k → y ≡ Break z → y ≡ sought xs d k
unfolding sought
found_here [] e d k z y f h = let w : ◌≡◌ {A = Sought} (behind k e) (Break z) = sym f ∙ h in absurd (not_here k e z w)
found_here (x ∷ xs) e d zero z y f h = f
found_here (x ∷ xs) e d (suc k) z y f h = found_here xs e d k z y f h

found_behind : (xs : List Holder) (e d k l w : ℕ) → sought xs e k ≡ behind l w → behind l d ≡ sought xs d k
unfolding sought left_of
found_behind [] e d k l w h = let z : k ≡ l = ap left_of h in rw z
found_behind (x ∷ xs) e d zero l w h = absurd (not_here l w x (sym h))
found_behind (x ∷ xs) e d (suc k) l w h = found_behind xs e d k l w h

-- ---- a part in braces

closed_sought_lem : (s : List ℕ) (xs : List Holder) (e k : ℕ) → closed_sought s (sought xs e k) ≡ sought xs (past_sign right_brace s e) k
unfolding closed_sought sought
closed_sought_lem s [] e k = refl
closed_sought_lem s (x ∷ xs) e zero = refl
closed_sought_lem s (x ∷ xs) e (suc k) = closed_sought_lem s xs e k

closed_by_lem : (s : List ℕ) (xs : List Holder) (e d k : ℕ) (x y : Sought) → x ≡ sought xs e k → y ≡ closed_sought s x → past_sign right_brace s e ≡ d → y ≡ sought xs d k
closed_by_lem s xs e d k x y f g h = g ∙ ap (closed_sought s) f ∙ closed_sought_lem s xs e k ∙ ap (λ (z : ℕ). sought xs z k) h

none_sought : (e d k : ℕ) → e ≡ d → behind k e ≡ sought [] d k
unfolding sought
none_sought e d k h = rw h

-- ---- at most `most` parts joined by commas: q is what is found in all, told from the place that n of them were passed up to

module _ (one : ℕ → List Holder) (end : ℕ → ℕ) (s : List ℕ) (most n i left : ℕ) (q : Sought)
    (inv : sought (holders_in one end s (most - n) i) (list_end end s (most - n) i) left ≡ q) where
  pub seek_none : most ≤ n → behind left i ≡ q
  unfolding holders_in list_end sought
  seek_none h = let z : most - n ≡ 0 = omega arith in rw z at inv

  module _ (h : n < most) (y : Sought) (e : y ≡ sought (one i) (end i) left) where
    abbrev rest : ℕ
    rest = most - (n + 1)

    abbrev places : List Holder
    places = pick (is_at s (end i) comma) (holders_in one end s rest (past_sign comma s (end i))) []

    abbrev last : ℕ
    last = pick (is_at s (end i) comma) (list_end end s rest (past_sign comma s (end i))) (end i)

    seek_turn : by_sought y (sought places last) ≡ q
    unfolding holders_in list_end
    seek_turn =
        let z : most - n ≡ suc rest = omega arith in
        ap (λ x. by_sought x (sought places last)) e ∙ sym (sought_both (one i) places last (end i) left) ∙ ap (λ k. sought (holders_in one end s k i) (list_end end s k i) left) (sym z) ∙ inv

    pub seek_here : (x : Holder) → y ≡ Break x → Break x ≡ q
    unfolding by_sought
    seek_here x m = sym (rw m) ∙ seek_turn

    module _ (b : Behind) (m : y ≡ Continue b) (x : Parsed) (g : x ≡ next_at s b.end) where
      ends : b.end ≡ end i
      ends = behind_end (one i) (end i) left b.left b.end (sym e ∙ m)

      onward : sought places last b.left ≡ q
      unfolding by_sought
      onward = sym (rw m) ∙ seek_turn

      pub seek_last : x ≡ None → Continue b ≡ q
      unfolding sought
      seek_last w =
          ap (λ z. behind b.left z) (ends ∙ sym (part_last s b.end (end i) ends x g (list_end end s rest) (end i) w))
          ∙ ap (λ ps. sought ps last b.left) (sym (part_last s b.end (end i) ends x g (holders_in one end s rest) [] w)) ∙ onward

      pub seek_more : (u : ℕ) → x ≡ Some u → sought (holders_in one end s rest u) (list_end end s rest u) b.left ≡ q
      seek_more u w =
          ap (λ z. sought (holders_in one end s rest u) z b.left) (sym (part_more s b.end (end i) ends x g (list_end end s rest) (end i) u w))
          ∙ ap (λ ps. sought ps last b.left) (sym (part_more s b.end (end i) ends x g (holders_in one end s rest) [] u w)) ∙ onward

-- ---- one part

and_false : (b : Bool) → (b && false) ≡ false
and_false true = refl
and_false false = refl

module _ (s : List ℕ) (c at e left : ℕ) (d : e ≡ (media_item_at s at).end) (x : Bool) (g : x ≡ speech_here s at) where
  pub part_here : x ≡ true → left ≡ 0 → Break (record { command = c; item = at }) ≡ sought (media_item_holders s c at) (media_item_at s at).end left
  unfolding media_item_holders sought pick
  part_here t z = rw (← g, t, z)

  pub part_past : x ≡ true → (left ≡ 0 → ⊥) → behind (left - 1) e ≡ sought (media_item_holders s c at) (media_item_at s at).end left
  unfolding media_item_holders pick
  part_past t z = let w : left ≡ suc (left - 1) = omega arith in rw (← g, t, ← d) (by left (left - 1) w)
    where
      by : (a b : ℕ) → a ≡ suc b → behind b e ≡ sought (record { command = c; item = at } ∷ []) e a
      by a b h = rw h (unfold sought in refl)

  pub part_other : x ≡ false → behind left e ≡ sought (media_item_holders s c at) (media_item_at s at).end left
  unfolding media_item_holders sought pick
  part_other f = rw (← g, f, d)

module _ (s : List ℕ) (at : ℕ) (x : Bool) (g : x ≡ media_here s at) (c left : ℕ) where
  pub item_other : x ≡ false → (e : ℕ) → e ≡ (top_item_at s at).end → behind left e ≡ sought (top_item_holders s c at) (top_item_at s at).end left
  unfolding top_item_holders
  item_other f e h = none_sought e (top_item_at s at).end left h ∙ sym (rw (← g, f) (unfold pick in refl))

  module _ (p : ItemPlaces) (o : OfItem s at p) where
    pub item_plain : p.inside ≡ None → (e : ℕ) → e ≡ (top_item_at s at).end → behind left e ≡ sought (top_item_holders s c at) (top_item_at s at).end left
    unfolding top_item_holders
    item_plain n e h =
        none_sought e (top_item_at s at).end left h
        ∙ sym (rw (inside_none s (head_end s at) p.inside o.inside n, and_false (media_here s at)) (unfold pick in refl))

    pub item_inside : x ≡ true → (i : ℕ) → p.inside ≡ Some i → (y z : Sought) → y ≡ sought (media_holders s c i) (media_at s i).end left → z ≡ closed_sought s y
        → z ≡ sought (top_item_holders s c at) (top_item_at s at).end left
    unfolding top_item_holders top_item_at
    item_inside t i b y z f k =
        let m : media_here s at ≡ true = sym g ∙ t in
        let w = inside_some s (head_end s at) i p.inside o.inside b in
        let e : past_sign right_brace s (media_at s i).end ≡ (item_at 7 (media_at s) s at).end =
        media_braced s at p o i b false (rw (media_not_empty s at m)) (past_sign right_brace s (media_at s i).end) refl (media_at s i).end refl refl in
        closed_by_lem s (media_holders s c i) (media_at s i).end (item_at 7 (media_at s) s at).end left y z f k e ∙ sym (rw (m, w.0, ← w.1) (unfold pick in refl))

module _ (s : List ℕ) (at : ℕ) (p : CommandPlaces) (o : OfCommand s at p) (left : ℕ) where
  pub command_inside : (i : ℕ) → p.inside ≡ Some i → (y z : Sought) → y ≡ sought (top_holders s at i) (top_at s i).end left → z ≡ closed_sought s y
      → z ≡ sought (command_holders s at) (command_at s at).end left
  unfolding command_holders
  command_inside i b y z f c =
      let w = inside_some s (command_head_end s at) i p.inside o.inside b in
      let e : past_sign right_brace s (top_at s i).end ≡ (command_at s at).end = command_ends s at _ p o (unfold command_end_from closed_end in rw b) in
      closed_by_lem s (top_holders s at i) (top_at s i).end (command_at s at).end left y z f c e ∙ sym (rw (w.0, ← w.1) (unfold pick in refl))

  pub command_past : p.inside ≡ None → behind left p.end ≡ sought (command_holders s at) (command_at s at).end left
  unfolding command_holders
  command_past n =
      let e : p.end ≡ (command_at s at).end = command_ends s at p.end p o (unfold command_end_from closed_end in rw n) in
      none_sought p.end (command_at s at).end left e ∙ sym (rw (inside_none s (command_head_end s at) p.inside o.inside n) (unfold pick in refl))

module _ (s : List ℕ) (at : ℕ) (a : ActionPlaces) (b : Rest) (ea : a ≡ action_places s at) (eb : b ≡ rest_of (unlimited s) s a.body) (left : ℕ) where
  rest_is : b ≡ rest_in s at
  unfolding rest_in action_places
  rest_is = eb ∙ ap (λ (y : ActionPlaces). rest_of (unlimited s) s y.body) ea

  pub action_inside : b.commands ≡ true → (y z : Sought) → y ≡ sought (commands_holders s b.at) (commands_at s b.at).end left → z ≡ closed_sought s y
      → z ≡ sought (action_holders s at) (action_at s at).end left
  unfolding action_holders rest_holders
  action_inside t y z f c =
      let e : past_sign right_brace s (commands_at s b.at).end ≡ (action_at s at).end =
      action_ends s at (commands_at s b.at).end _ a b ea eb (unfold body_end pick in rw t) refl in
      closed_by_lem s (commands_holders s b.at) (commands_at s b.at).end (action_at s at).end left y z f c e ∙ sym (rw (← rest_is, t) (unfold pick in refl))

  pub action_past : b.commands ≡ false → (e : ℕ) → e ≡ past_sign right_brace s b.at → behind left e ≡ sought (action_holders s at) (action_at s at).end left
  unfolding action_holders rest_holders
  action_past f e h =
      let k : e ≡ (action_at s at).end = action_ends s at b.at e a b ea eb (unfold body_end pick in rw f) h in
      none_sought e (action_at s at).end left k ∙ sym (rw (← rest_is, f) (unfold pick in refl))

-- ---- the message: q is what is found in all, told from the place that n of the transactions were passed up to

found_both : (xs ys : List Holder) (e d k : ℕ) → found_in (sought (xs ++ ys) e k) ≡ found_in (by_sought (sought xs d k) (sought ys e))
found_both xs ys e d k = ap found_in (sought_both xs ys e d k)

found_any : (xs : List Holder) (e d k : ℕ) → found_in (sought xs e k) ≡ found_in (sought xs d k)
unfolding found_in sought
found_any [] e d k = refl
found_any (x ∷ xs) e d zero = refl
found_any (x ∷ xs) e d (suc k) = found_any xs e d k

-- a transaction or an acknowledgement
module _ (s : List ℕ) (at : ℕ) (x : Bool) (g : x ≡ is_acknowledgement s at) (left : ℕ) where
  pub served_past : x ≡ true → (b e u : ℕ) → b ≡ acks_start s at → e ≡ (acks_at s b).end → u ≡ past_sign right_brace s e → behind left u ≡ sought (served_holders s at) (part_end s at) left
  unfolding served_holders part_end acknowledgement_end acknowledgement_at acks_start sought pick
  served_past t b e u eb ee eu = rw (← g, t) (ap (λ (z : ℕ). behind left z) (eu ∙ rw (ee, eb)))

  module _ (f : x ≡ false) (p : TransactionPlaces) (ep : p ≡ transaction_places s at) (y : Sought) (e : y ≡ sought (actions_holders s p.body) (actions_at s p.body).end left) where
    served_body : p.body ≡ actions_start s at
    unfolding transaction_places
    served_body = ap (λ (z : TransactionPlaces). z.body) ep

    served_is : sought (served_holders s at) (part_end s at) left ≡ sought (actions_holders s p.body) (transaction_end s at) left
    unfolding served_holders part_end pick
    served_is = rw (← g, f, served_body)

    pub served_here : (z : Holder) → y ≡ Break z → Break z ≡ sought (served_holders s at) (part_end s at) left
    served_here z n = sym n ∙ found_here (actions_holders s p.body) _ (transaction_end s at) left z y e n ∙ sym served_is

    pub served_behind : (b : Behind) (u : ℕ) → y ≡ Continue b → u ≡ closing_end s b.end → behind b.left u ≡ sought (served_holders s at) (part_end s at) left
    served_behind b u n c =
        let w : b.end ≡ (actions_at s p.body).end = behind_end (actions_holders s p.body) _ left b.left b.end (sym e ∙ n) in
        let t : u ≡ transaction_end s at = transaction_ends s at (actions_at s p.body).end u p ep refl (c ∙ ap (closing_end s) w) in
        rw t (found_behind (actions_holders s p.body) _ (transaction_end s at) left b.left b.end (sym e ∙ n)) ∙ sym served_is

module _ (s : List ℕ) (n i left : ℕ) (q : Wanted) (inv : found_in (sought (transactions_holders (8 - n) s i) 0 left) ≡ q) where
  pub find_none : 8 ≤ n → None ≡ q
  unfolding transactions_holders found_in sought
  find_none h = let z : 8 - n ≡ 0 = omega arith in rw z at inv

  module _ (h : n < 8) (y : Sought) (e : y ≡ sought (served_holders s i) (part_end s i) left) where
    abbrev others : List Holder
    others = pick (ltb (part_end s i) (length s)) (transactions_holders (8 - (n + 1)) s (part_end s i)) []

    find_turn : found_in (by_sought y (sought others 0)) ≡ q
    unfolding transactions_holders
    find_turn =
        let z : 8 - n ≡ suc (8 - (n + 1)) = omega arith in
        ap (λ x. found_in (by_sought x (sought others 0))) e ∙ sym (found_both (served_holders s i) others 0 (part_end s i) left)
        ∙ ap (λ k. found_in (sought (transactions_holders k s i) 0 left)) (sym z) ∙ inv

    pub find_here : (x : Holder) → y ≡ Break x → Some x ≡ q
    unfolding by_sought found_in
    find_here x m = sym (rw m) ∙ find_turn

    module _ (b : Behind) (m : y ≡ Continue b) where
      next_is : b.end ≡ part_end s i
      next_is = behind_end (served_holders s i) _ left b.left b.end (sym e ∙ m)

      find_onward : found_in (sought others 0 b.left) ≡ q
      unfolding by_sought
      find_onward = sym (rw m) ∙ find_turn

      pub find_end : length s ≤ b.end → None ≡ q
      unfolding found_in sought pick
      find_end l = let t : length s ≤ part_end s i = rw next_is at l in sym (rw (le-ltb (part_end s i) (length s) t)) ∙ find_onward

      pub find_more : b.end < length s → found_in (sought (transactions_holders (8 - (n + 1)) s b.end) 0 b.left) ≡ q
      unfolding pick
      find_more l = let t : part_end s i < length s = rw next_is at l in rw next_is (sym (rw (lt-ltb (part_end s i) (length s) t)) ∙ find_onward)

-- ---- what stands there

pub local_by : (s : List ℕ) (at : ℕ) (p : SpeechPlaces) (r : Bool) → OfSpeech s at p
    → r ≡ spells LocalToken (take (p.word.to - p.word.from) (drop p.word.from s)) → r ≡ local_at s at
unfolding local_at part
local_by s at p r o e = e ∙ ap (spells LocalToken) (unfold part in o.word.bytes)

-- a part within the message, by its length
packed_is : (s : List ℕ) (a e : ℕ) (t : List ℕ) → a ≤ e → e ≤ length s → part s a e ≡ t → a * 4294967296 + (e - a) ≡ a * 4294967296 + length t
unfolding part
packed_is s a e t o i h =
    let n : length (take (e - a) (drop a s)) ≡ e - a = length-take-le (e - a) (drop a s) (omega (arith, length-drop a s)) in
    ap (λ (z : ℕ). a * 4294967296 + z) (sym n ∙ ap length h)

-- ---- the text number k

module _ (s : List ℕ) (k : ℕ) (x : Wanted) (e : x ≡ holder_number s k) where
  pub side_is : (r : ℕ) → r ≡ side_there s x → r ≡ side_of (text_number s k)
  side_is r h = h ∙ ap (side_there s) e ∙ there_side s k

  module _ (p : Piece) (o : Holds s (text_start s x) (text_end s x) p) where
    text_bytes : part s p.from p.to ≡ bytes_of (text_number s k)
    text_bytes = o.bytes ∙ ap (λ (y : Wanted). part s (text_start s y) (text_end s y)) e ∙ there_text s k

    text_place_lem : p.from ≡ text_place s k
    unfolding text_place
    text_place_lem = ap (λ (q : Piece). q.from) o.is ∙ ap (λ (y : Wanted). (piece_of s (text_start s y) (text_end s y)).from) e

    pub the_text : (r : List ℕ) → r ≡ take (p.to - p.from) (drop p.from s) → r ≡ bytes_of (text_number s k)
    the_text r h = h ∙ (unfold part in text_bytes)

    pub the_text_place : (b d : ℕ) → ◌≡◌ {A = ℕ × ℕ} (b, p.from + d) (b, text_place s k + d)
    the_text_place b d = ap (λ (z : ℕ). (b, z + d)) text_place_lem

    pub the_text_part : length s ≤ 4096 → (r : ℕ) → r ≡ p.from * 4294967296 + (p.to - p.from) → r ≡ text_part s k
    unfolding text_part if_taken part_number
    the_text_part h r q =
        q ∙ packed_is s p.from p.to (bytes_of (text_number s k)) o.ordered o.inside text_bytes
        ∙ rw (text_place_lem, le-ltb 4096 (length s) h) (unfold pick in refl)

  module _ (p : Piece) (o : Holds s (owner_start s x) (owner_end s x) p) where
    name_bytes : part s p.from p.to ≡ name_of (text_number s k)
    name_bytes = o.bytes ∙ ap (λ (y : Wanted). part s (owner_start s y) (owner_end s y)) e ∙ there_name s k

    name_place_lem : p.from ≡ name_place s k
    unfolding name_place
    name_place_lem = ap (λ (q : Piece). q.from) o.is ∙ ap (λ (y : Wanted). (piece_of s (owner_start s y) (owner_end s y)).from) e

    pub the_name : (r : List ℕ) → r ≡ take (p.to - p.from) (drop p.from s) → r ≡ name_of (text_number s k)
    the_name r h = h ∙ (unfold part in name_bytes)

    pub the_name_place : (b d : ℕ) → ◌≡◌ {A = ℕ × ℕ} (b, p.from + d) (b, name_place s k + d)
    the_name_place b d = ap (λ (z : ℕ). (b, z + d)) name_place_lem

    pub the_name_part : length s ≤ 4096 → (r : ℕ) → r ≡ p.from * 4294967296 + (p.to - p.from) → r ≡ name_part s k
    unfolding name_part if_taken part_number
    the_name_part h r q =
        q ∙ packed_is s p.from p.to (name_of (text_number s k)) o.ordered o.inside name_bytes
        ∙ rw (name_place_lem, le-ltb 4096 (length s) h) (unfold pick in refl)

-- ---- a message that is too long, and one that is not

module _ (s : List ℕ) (k : ℕ) where
  module _ (h : 4096 < length s) where
    pub long_text : 0 ≡ text_part s k
    unfolding text_part if_taken pick
    long_text = sym (rw (lt-ltb 4096 (length s) h))

    pub long_name : 0 ≡ name_part s k
    unfolding name_part if_taken pick
    long_name = sym (rw (lt-ltb 4096 (length s) h))

    pub long_side : 0 ≡ side_given s k
    unfolding side_given if_taken pick
    long_side = sym (rw (lt-ltb 4096 (length s) h))

  pub given_side : length s ≤ 4096 → (r : ℕ) → r ≡ side_of (text_number s k) → r ≡ side_given s k
  unfolding side_given if_taken pick
  given_side h r e = e ∙ sym (rw (le-ltb 4096 (length s) h))
