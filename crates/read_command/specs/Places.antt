-- The productions by position, in Reading's order and words: `commandAt s at` stands beside `commandR s at` (crate `megaco`, Reading), as its type
-- says. Its `.place` is what the first pass promises (the place after the part, white space included, or a fault), its `.tree` and `.end` what
-- the second pass does; where the part does not read, these have no meaning. Places inside a production have names of their own.
use Rattle.std.specs.Prelude.{ℕ, zero, suc, ◌+◌, ◌≡◌, refl, Bool, true, false, ◌&&◌, ◌||◌, List, [], ◌∷◌, eqb, Some, None}
use Rattle.std.proofs.Common.{sym}
use Rattle.std.proofs.Math.Option.{Option, none, some}
use Rattle.base.specs.Pick.{pick}
use Rattle.base.specs.Lists.{is_at, part}
use Rattle.megaco.specs.Bytes.{equal, comma, left_brace, right_brace, slash, dash, dollar, star}
use Rattle.megaco.specs.White.{after, white_at}
use Rattle.megaco.specs.Keywords.{spells}
use Rattle.megaco.specs.Items.{called}
use Rattle.megaco.specs.Tokens.{mark_at, sign_at, word_at, termination_at, number_at, value_at, octets_at}
use Rattle.megaco.specs.Tree.{octets, item, Command, command, triple, Property, priority, emergency, topology}
use Rattle.megaco.specs.Reading.{Read, got, list_r, unlimited, key_at, second_r, value_of, value_r, braces_r, may_be_empty, or_none_r, item_r, items_r, media_here, speech_here, speech_r, media_item_r, media_r, top_item_r, top_r, prefix_at, prefix_end, is_property, order_r, command_r, context_r, word_here, property_r, Body, body, with_property, property_then, body_r, action_of, action_r, actions_r, fault, direction_r, party_r, triple_r, topology_r, ack, identifier_from, range_r, ack_r, acks_r}
use Rattle.protocol.specs.Types.{Parsed, Number, Null, Numbered, Choose, All, AuditToken, CtxToken, PriorityToken, EmergencyToken, TopologyToken, IsolateToken, OnewayToken, BothwayToken, Direction, Isolate, Oneway, Bothway}
use Rattle.read_command.specs.Production.{end_of, number_after, past_white, past_sign, word_end, spaced_at, joined_at, Reads, Production, fault_reads, got_reads, bind_reads, map_reads, skip_reads, word_reads, after_assoc, fault_p, got_p, token_p, number_p, pick_p, unless_p, bind_p, map_p, skip_p, sign_p, last_p, close_p, spaced_p, behind_p, placed_p, keyword_p, word_p, word_then_p, list_p, past_word_p}
use Rattle.read_command.specs.declared.Rest.{Rest}

-- ---- items

unfoldable pub second_at : (s : List ℕ) (at : ℕ) → Production (second_r s at)
unfolding second_r
second_at s at = pick_p (is_at s at slash) (map_p some (word_p s (at + 1))) (got_p none at)

unfoldable pub value_item_at : (s : List ℕ) (at : ℕ) → Production (value_r s at)
unfolding value_r
value_item_at s at =
    pick_p (is_at s at equal) (sign_p equal s at (λ p. spaced_p s (token_p (value_at s p) (λ e. some (value_of s p e))))) (got_p none at)

-- the end of a value behind its `=`
unfoldable pub value_end : List ℕ → ℕ → ℕ
value_end s at = end_of (value_at s (past_sign equal s at))

unfoldable pub braces_at : {A : Type 0} {r : ℕ → Read (List A)} (inner : (i : ℕ) → Production (r i)) (s : List ℕ) (at : ℕ) → Production (braces_r r s at)
unfolding braces_r
braces_at inner s at =
    pick_p (is_at s at left_brace) (sign_p left_brace s at (λ p. bind_p (inner p) (λ is q. close_p right_brace s q (some is)))) (got_p none at)

-- an item before its braces; where its `=` may stand, and where it ends
abbrev pub head_from : List ℕ → ℕ → Parsed
head_from s e = after (spaced_at s (second_at s e).place) (λ q. (value_item_at s q).place)

unfoldable pub head_at : List ℕ → ℕ → Parsed
head_at s at = after (word_at s at) (λ e. head_from s e)

unfoldable pub equal_place : List ℕ → ℕ → ℕ
equal_place s at = past_white s (second_at s (word_end s at)).end

unfoldable pub head_end : List ℕ → ℕ → ℕ
head_end s at = (value_item_at s (equal_place s at)).end

pub head_cut : (x : Parsed) (f g h : ℕ → Parsed) → after x (λ p. after (f p) (λ q. after (g q) h)) ≡ after (after x (λ p. after (f p) g)) h
unfolding after
head_cut None f g h = refl
head_cut (Some p) f g h = sym (after_assoc (f p) g h)

-- whether the item that begins here is called Audit, and whether its braces may be empty
unfoldable pub audit_at : List ℕ → ℕ → Bool
audit_at s at = called AuditToken (part s at (word_end s at)) (second_at s (word_end s at)).tree

unfoldable pub empty_at : ℕ → List ℕ → ℕ → Bool
empty_at left s at = eqb left 7 && audit_at s at

unfoldable pub or_none_at : {A : Type 0} {r : ℕ → Read (List A)} (empty : Bool) (inner : (i : ℕ) → Production (r i)) (s : List ℕ) (at : ℕ)
    → Production (or_none_r empty r s at)
unfolding or_none_r
or_none_at empty inner s at = pick_p (empty && is_at s at right_brace) (got_p [] at) (inner at)

-- what follows an item's head may depend on its words
pub word_cut : (s : List ℕ) (at : ℕ) (h : Option (List ℕ) → ℕ → Parsed)
    → after (word_at s at) (λ p. after (spaced_at s (second_at s p).place) (λ q. after (value_item_at s q).place (h (second_at s p).tree)))
    ≡ after (head_at s at) (h (second_at s (word_end s at)).tree)
unfolding head_at after
word_cut s at h = by (word_at s at) (word_reads s at).ends
  where
    by : (x : Parsed) → ((p : ℕ) → x ≡ Some p → word_end s at ≡ p)
        → after x (λ p. after (spaced_at s (second_at s p).place) (λ q. after (value_item_at s q).place (h (second_at s p).tree)))
        ≡ after (after x (λ p. after (spaced_at s (second_at s p).place) (λ q. (value_item_at s q).place))) (h (second_at s (word_end s at)).tree)
    by None n = refl
    by (Some p) n = rw (n p refl) (sym (after_assoc (spaced_at s (second_at s p).place) (λ q. (value_item_at s q).place) (h (second_at s p).tree)))

unfoldable pub item_at : {A : Type 0} {r : ℕ → Read (List A)} (left : ℕ) (inner : (i : ℕ) → Production (r i)) (s : List ℕ) (at : ℕ)
    → Production (item_r left r s at)
unfolding item_r head_at equal_place head_end may_be_empty audit_at empty_at
item_at left inner s at =
    placed_p (after (head_at s at) (λ p. (braces_at (or_none_at (empty_at left s at) inner s) s p).place))
    (bind_p (word_p s at) (λ w p.
    bind_p (spaced_p s (second_at s p)) (λ x q.
    bind_p (value_item_at s q) (λ v r.
    map_p (item w x v) (braces_at (or_none_at (may_be_empty left w x) inner s) s r)))))
    (word_cut s at (λ x p. (braces_at (or_none_at (may_be_empty left (part s at (word_end s at)) x) inner s) s p).place))

-- items of k levels
unfoldable pub items_at : (k : ℕ) (s : List ℕ) (at : ℕ) → Production (items_r k s at)
unfolding items_r
items_at zero s at = fault_p [] at
items_at (suc k) s at = list_p (item_at k (items_at k s) s) s (unlimited s) at

-- ---- Local and Remote in a level 1 Media

-- where the text in the braces of Local or Remote begins and ends
unfoldable pub octets_start : List ℕ → ℕ → ℕ
octets_start s at = past_sign left_brace s (past_white s (word_end s at))

unfoldable pub octets_end : List ℕ → ℕ → ℕ
octets_end s at = end_of (octets_at s (octets_start s at))

unfoldable pub speech_at : (s : List ℕ) (at : ℕ) → Production (speech_r s at)
unfolding speech_r
speech_at s at =
    bind_p (spaced_p s (word_p s at)) (λ w p.
    sign_p left_brace s p (λ q.
    bind_p (token_p (octets_at s q) (part s q)) (λ t r.
    close_p right_brace s r (item w none (some (octets t)) none))))

-- what a level 1 Media holds
unfoldable pub media_item_at : (s : List ℕ) (at : ℕ) → Production (media_item_r s at)
unfolding media_item_r
media_item_at s at = pick_p (speech_here s at) (speech_at s at) (item_at 6 (items_at 6 s) s at)

unfoldable pub media_at : (s : List ℕ) (at : ℕ) → Production (media_r s at)
unfolding media_r
media_at s at = list_p (media_item_at s) s (unlimited s) at

-- level 1
unfoldable pub top_item_at : (s : List ℕ) (at : ℕ) → Production (top_item_r s at)
unfolding top_item_r
top_item_at s at = pick_p (media_here s at) (item_at 7 (media_at s) s at) (item_at 7 (items_at 7 s) s at)

unfoldable pub top_at : (s : List ℕ) (at : ℕ) → Production (top_r s at)
unfolding top_r
top_at s at = list_p (top_item_at s) s (unlimited s) at

-- ---- commands

-- a command's word
unfoldable pub order_at : (s : List ℕ) (at : ℕ) → Production (order_r s at)
unfolding order_r
order_at s at = word_then_p s at (λ w p. unless_p (is_property w) w p)

-- behind `O-` and `W-`
unfoldable pub order_start : List ℕ → ℕ → ℕ
order_start s at = prefix_end 0x57 s (prefix_end 0x4f s at)

-- a command before its braces; where its word ends, where its name begins and ends, and where all this ends
unfoldable pub command_head_at : List ℕ → ℕ → Parsed
command_head_at s at =
    after (spaced_at s (order_at s (order_start s at)).place) (λ p.
    after (sign_at equal s p) (λ q.
    spaced_at s (termination_at s q)))

unfoldable pub order_end : List ℕ → ℕ → ℕ
order_end s at = word_end s (order_start s at)

unfoldable pub name_start : List ℕ → ℕ → ℕ
name_start s at = past_sign equal s (past_white s (order_end s at))

unfoldable pub name_end : List ℕ → ℕ → ℕ
name_end s at = end_of (termination_at s (name_start s at))

unfoldable pub command_head_end : List ℕ → ℕ → ℕ
command_head_end s at = past_white s (name_end s at)

unfoldable pub command_at : (s : List ℕ) (at : ℕ) → Production (command_r s at)
unfolding command_r order_start command_head_at
command_at s at =
    let o = prefix_end 0x4f s at in
    placed_p (after (command_head_at s at) (λ p. (braces_at (top_at s) s p).place))
    (bind_p (spaced_p s (order_at s (prefix_end 0x57 s o))) (λ w p.
    sign_p equal s p (λ q.
    bind_p (spaced_p s (token_p (termination_at s q) (part s q))) (λ n r.
    map_p (command (prefix_at 0x4f s at) (prefix_at 0x57 s o) w n) (braces_at (top_at s) s r)))))
    (head_cut (spaced_at s (order_at s (order_start s at)).place) _ _ _)

unfoldable pub commands_at : (s : List ℕ) (at : ℕ) → Production (list_r (command_r s) s 64 at)
commands_at s at = list_p (command_at s) s 64 at

-- ---- actions

unfoldable pub context_at : (s : List ℕ) (at : ℕ) → Production (context_r s at)
unfolding context_r
context_at s at =
    pick_p (is_at s at dash) (got_p Null (at + 1))
    (pick_p (is_at s at dollar) (got_p Choose (at + 1))
    (pick_p (is_at s at star) (got_p All (at + 1))
    (number_p (number_at s at 10 4294967295) Numbered)))

-- a direction: whether a word is one, and which
unfoldable pub is_direction : List ℕ → Bool
is_direction w = spells IsolateToken w || spells OnewayToken w || spells BothwayToken w

unfoldable pub direction_of : List ℕ → Direction
direction_of w = pick (spells IsolateToken w) Isolate (pick (spells OnewayToken w) Oneway Bothway)

pub direction_reads : (x y z : Bool) (p : ℕ)
    → Reads (pick x (got Isolate p) (pick y (got Oneway p) (pick z (got Bothway p) fault))) (pick (x || y || z) (Some p) None) (pick x Isolate (pick y Oneway Bothway)) p
unfolding pick
direction_reads true y z p = got_reads Isolate p
direction_reads false true z p = got_reads Oneway p
direction_reads false false true p = got_reads Bothway p
direction_reads false false false p = fault_reads Bothway p

unfoldable pub direction_at : (s : List ℕ) (at : ℕ) → Production (direction_r s at)
unfolding direction_r is_direction direction_of
direction_at s at =
    word_then_p s at (λ w p.
    record { place = pick (is_direction w) (Some p) None; tree = direction_of w; end = p; law = direction_reads (spells IsolateToken w) (spells OnewayToken w) (spells BothwayToken w) p })

-- a name in a triple, and where it ends
unfoldable pub party_at : (s : List ℕ) (at : ℕ) → Production (party_r s at)
unfolding party_r
party_at s at = spaced_p s (token_p (termination_at s at) (part s at))

unfoldable pub party_end : List ℕ → ℕ → ℕ
party_end s at = end_of (termination_at s at)

-- where a triple's second name and its direction begin
unfoldable pub two_start : List ℕ → ℕ → ℕ
two_start s at = past_sign comma s (past_white s (party_end s at))

unfoldable pub direction_start : List ℕ → ℕ → ℕ
direction_start s at = past_sign comma s (past_white s (party_end s (two_start s at)))

unfoldable pub triple_at : (s : List ℕ) (at : ℕ) → Production (triple_r s at)
unfolding triple_r
triple_at s at =
    bind_p (party_at s at) (λ a p.
    sign_p comma s p (λ q.
    bind_p (party_at s q) (λ b r.
    sign_p comma s r (λ u.
    map_p (triple a b) (spaced_p s (direction_at s u))))))

unfoldable pub triples_at : (s : List ℕ) (at : ℕ) → Production (list_r (triple_r s) s (unlimited s) at)
triples_at s at = list_p (triple_at s) s (unlimited s) at

-- where the triples of a topology begin
unfoldable pub triples_start : List ℕ → ℕ → ℕ
triples_start s at = past_sign left_brace s (past_white s (word_end s at))

unfoldable pub topology_at : (s : List ℕ) (at : ℕ) → Production (topology_r s at)
unfolding topology_r spaced_at
topology_at s at = past_word_p s at (λ p. sign_p left_brace s p (λ q. bind_p (triples_at s q) (λ ts e. close_p right_brace s e (topology ts))))

unfoldable pub priority_at : List ℕ → ℕ → Number
priority_at s at = number_after (key_at PriorityToken s at) (λ p. number_at s p 5 99999)

unfoldable pub property_at : (s : List ℕ) (at : ℕ) → Production (property_r s at)
unfolding property_r priority_at
property_at s at =
    pick_p (spells EmergencyToken (word_here s at)) (spaced_p s (keyword_p s at (λ e. emergency)))
    (pick_p (spells TopologyToken (word_here s at)) (topology_at s at)
    (behind_p s (key_at PriorityToken s at) (λ p. number_at s p 5 99999) priority))

-- what stands in an action's braces. The second pass goes over the properties and over the commands by themselves, so its tree is told by both
unfoldable pub body_place : ℕ → List ℕ → ℕ → Parsed
body_place zero s at = None
body_place (suc k) s at =
    let properties = joined_at (body_place k s) s (property_at s at).place in
    pick (is_property (word_here s at)) properties (commands_at s at).place

unfoldable pub properties_of : ℕ → List ℕ → ℕ → List Property
properties_of zero s at = []
properties_of (suc k) s at =
    let e = (property_at s at).end in
    let more = properties_of k s (past_sign comma s e) in
    pick (is_property (word_here s at)) ((property_at s at).tree ∷ pick (is_at s e comma) more []) []

abbrev pub rest : Bool → ℕ → Rest
rest c p = record { commands = c; at = p }

-- what follows at most k properties
unfoldable pub rest_of : ℕ → List ℕ → ℕ → Rest
rest_of zero s at = rest false at
rest_of (suc k) s at =
    let e = (property_at s at).end in
    let more = rest_of k s (past_sign comma s e) in
    pick (is_property (word_here s at)) (pick (is_at s e comma) more (rest false e)) (rest true at)

unfoldable pub commands_in : List ℕ → Rest → List Command
commands_in s r = pick r.commands (commands_at s r.at).tree []

unfoldable pub body_end : List ℕ → Rest → ℕ
body_end s r = pick r.commands (commands_at s r.at).end r.at

body_turn : (s : List ℕ) (t : Bool) (x : Property) (p : ℕ) {m : Read Body} {y : Parsed} {ps : List Property} (r : Rest)
    → Reads m y (body (x ∷ ps) (commands_in s r)) (body_end s r)
    → Reads (pick t m (got (body (x ∷ []) []) p)) (pick t y (Some p)) (body (x ∷ pick t ps []) (commands_in s (pick t r (rest false p)))) (body_end s (pick t r (rest false p)))
unfolding pick commands_in body_end
body_turn s true x p r h = h
body_turn s false x p r h = got_reads (body (x ∷ []) []) p

body_choice : (s : List ℕ) (t : Bool) (at : ℕ) {m c : Read Body} {y z : Parsed} {ps : List Property} (r : Rest)
    → Reads m y (body ps (commands_in s r)) (body_end s r) → Reads c z (body [] (commands_at s at).tree) (commands_at s at).end
    → Reads (pick t m c) (pick t y z) (body (pick t ps []) (commands_in s (pick t r (rest true at)))) (body_end s (pick t r (rest true at)))
unfolding pick commands_in body_end
body_choice s true at r h c = h
body_choice s false at r h c = c

pub body_reads : (k : ℕ) (s : List ℕ) (at : ℕ) → Reads (body_r k s at) (body_place k s at) (body (properties_of k s at) (commands_in s (rest_of k s at))) (body_end s (rest_of k s at))
unfolding body_r property_then with_property body_place joined_at properties_of rest_of past_sign
body_reads zero s at = fault_reads _ _
body_reads (suc k) s at =
    let p : ℕ = (property_at s at).end in
    body_choice s (is_property (word_here s at)) at _
    (bind_reads _ _ (property_at s at).law
    (body_turn s (is_at s p comma) (property_at s at).tree p _
    (skip_reads (sign_at comma s p) _ _ (map_reads (with_property (property_at s at).tree) (body_reads k s (end_of (sign_at comma s p)))))))
    (map_reads (body []) (commands_at s at).law)

abbrev pub body_at : (k : ℕ) (s : List ℕ) (at : ℕ) → Production (body_r k s at)
body_at k s at =
    record { place = body_place k s at; tree = body (properties_of k s at) (commands_in s (rest_of k s at)); end = body_end s (rest_of k s at); law = body_reads k s at }

-- an action through its opening brace; where its context and its body begin
unfoldable pub opening_at : List ℕ → ℕ → Parsed
opening_at s at = after (key_at CtxToken s at) (λ p. after (spaced_at s (context_at s p).place) (sign_at left_brace s))

unfoldable pub context_start : List ℕ → ℕ → ℕ
context_start s at = end_of (key_at CtxToken s at)

unfoldable pub body_start : List ℕ → ℕ → ℕ
body_start s at = past_sign left_brace s (past_white s (context_at s (context_start s at)).end)

unfoldable pub rest_in : List ℕ → ℕ → Rest
rest_in s at = rest_of (unlimited s) s (body_start s at)

unfoldable pub action_at : (s : List ℕ) (at : ℕ) → Production (action_r s at)
unfolding action_r action_of opening_at context_start body_start rest_in
action_at s at =
    placed_p (after (opening_at s at) (λ p. after (body_place (unlimited s) s p) (sign_at right_brace s)))
    (skip_p (key_at CtxToken s at) (λ p.
    bind_p (spaced_p s (context_at s p)) (λ c q.
    sign_p left_brace s q (λ r.
    bind_p (body_at (unlimited s) s r) (λ b e.
    close_p right_brace s e (action_of c b))))))
    (head_cut (key_at CtxToken s at) _ _ _)

-- 1 to 16 actions; and these from behind a transaction's opening brace through the closing one
unfoldable pub actions_at : (s : List ℕ) (at : ℕ) → Production (list_r (action_r s) s 16 at)
actions_at s at = list_p (action_at s) s 16 at

unfoldable pub braced_at : (s : List ℕ) (at : ℕ) → Production (actions_r s at)
unfolding actions_r
braced_at s at = skip_p (white_at s at) (λ p. bind_p (actions_at s p) (λ acts q. last_p (mark_at right_brace s q) acts))

-- ---- acknowledgements

unfoldable pub range_at : (s : List ℕ) (at : ℕ) → Production (range_r s at)
unfolding range_r
range_at s at =
    bind_p (number_p (identifier_from 1 s at) (λ v. v)) (λ v p.
    pick_p (is_at s p dash) (number_p (identifier_from v s (p + 1)) (ack v)) (got_p (ack v v) p))

unfoldable pub ack_at : (s : List ℕ) (at : ℕ) → Production (ack_r s at)
unfolding ack_r
ack_at s at = spaced_p s (range_at s at)

unfoldable pub acks_at : (s : List ℕ) (at : ℕ) → Production (list_r (ack_r s) s (unlimited s) at)
acks_at s at = list_p (ack_at s) s (unlimited s) at

-- where what an acknowledgement names begins
unfoldable pub acks_start : List ℕ → ℕ → ℕ
acks_start s at = past_sign left_brace s (past_white s (word_end s at))

unfoldable pub acknowledgement_at : (s : List ℕ) (at : ℕ) → Production (acks_r s at)
unfolding acks_r spaced_at
acknowledgement_at s at = past_word_p s at (λ p. sign_p left_brace s p (λ q. bind_p (acks_at s q) (λ ks e. close_p right_brace s e ks)))
