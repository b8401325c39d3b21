-- One item judged by its parts is judged as the definition judges the item.
use Rattle.std.specs.Prelude.{Some, None, Ok, Err}
use Prim.Native.Nat.{ℕ}
use mathlib.Core.Path.{◌≡◌, refl, sym, ap, ◌∙◌}
use mathlib.Core.Bool.{Bool, true, false, not, ◌&&◌, ◌||◌, and-false, false≢true}
use mathlib.Core.List.{List, [], ◌∷◌}
use mathlib.Core.Option.{none, some}
use native.Mathlib.Omega.{arith}
use lib.Dec.{eqb}
use Rattle.base.specs.Pick.{pick}
use Rattle.base.specs.Lists.{is_at}
use Rattle.base.proofs.TestLaws.{and_left, and_right}
use Rattle.megaco.specs.Bytes.{right_brace, slash}
use Rattle.megaco.specs.Keywords.{is_token, spells, meaning_of}
use Rattle.megaco.proofs.Meanings.{spelt_means, spells_means}
use Rattle.megaco.specs.Tree.{octets, ItemOf, Item}
use Rattle.megaco.specs.Items.{onward, called, given?, descriptor_shape, property_shape, value_given, set_value, property_items, items_in, speech_item, speech_given, called_in, both, either, descriptor_item, media_items, top_items, auditing, bare_shape, audited_items, audit_items}
use Rattle.protocol.specs.Types.{Token, AuditToken, MediaToken, Parsed, Judged, Checked, Kind, InControl, InState, OfLocal, OfRemote, Descriptors, Values}
use Rattle.megaco.specs.Sdp.{read_sdp}
use Rattle.megaco.specs.Reading.{word_here, media_here, speech_here}
use Rattle.read_command.specs.Production.{past_sign, word_end}
use Rattle.read_command.specs.Places.{second_at, audit_at, empty_at, or_none_at, item_at, items_at, speech_at, media_item_at, media_at, top_item_at}
use Rattle.std.specs.declared.option.Option as std
use Rattle.std.specs.declared.result.Result.{Result}
use Rattle.std.specs.Option.{is_some, is_none}
use Rattle.command_places.specs.declared.ValuePlace.{ValuePlace}
use Rattle.command_places.specs.declared.ValuePlace.TheVariants.{Plain, Quoted}
use Rattle.command_places.specs.declared.ItemPlaces.{ItemPlaces}
use Rattle.command_places.specs.declared.SpeechPlaces.{SpeechPlaces}
use Rattle.command_places.specs.Found.{held_in, closed_end, bytes_of, value_from, OfItem, item_from, OfSpeech, speech_from}
use Rattle.command_places.proofs.PlaceLaws.{item_is, item_filled, item_closed, item_braced, item_plain, media_braced, speech_is, speech_ends}
use Rattle.judge_items.specs.declared.Reached.{Reached}
use Rattle.judge_items.specs.Judging.{called_by, value_by, value_in, ended, ended_next, item_checked, judged_by, inside_judged, property_shape_by, bare_shape_by, property_by, called_as, called_unless, kind_of, side_of, media_shape_by, media_by, speech_by, stood_next, top_by, audited_by, audit_by}

-- ---- what the parts tell

called_second : (k : Token) (w x : List ℕ) (b : Bool) → called k w (pick b (some x) none) ≡ not b && spells k w
unfolding called pick
called_second k w x true = refl
called_second k w x false = refl

given_value : (s : List ℕ) (at : ℕ) (v : std.Option ValuePlace) → given? (value_from s at v) ≡ is_some v
unfolding value_from given?
given_value s at None = refl
given_value s at (Some (Plain w)) = refl
given_value s at (Some (Quoted q)) = refl

given_held : {A : Type 0} (f : ℕ → A) (o : Parsed) → given? (held_in f o) ≡ is_some o
unfolding held_in given?
given_held f None = refl
given_held f (Some i) = refl

not_some : {A : Type 0} (o : std.Option A) → not (is_some o) ≡ is_none o
not_some None = refl
not_some (Some x) = refl

none_when : {A : Type 0} (o : std.Option A) → is_none o ≡ true → o ≡ None
none_when None e = refl
none_when (Some x) e = absurd (let w : ◌≡◌ {A = ℕ} 0 1 = cc in omega arith)

items_in_held : {A : Type 0} (f : ℕ → List A) (o : Parsed) (i : ℕ) → o ≡ Some i → items_in (held_in f o) ≡ f i
unfolding items_in held_in
items_in_held f o i e = rw e

value_by_lem : (k : Kind) (s : List ℕ) (at : ℕ) (p : ItemPlaces) → is_some p.value ≡ true → value_given k (value_from s at p.value) ≡ value_by k s p
unfolding value_by value_from value_in value_given
value_by_lem k s at p e = by p.value
  where
    by : (v : std.Option ValuePlace) → value_given k (value_from s at v) ≡ value_in k s v
    by None = refl
    by (Some (Plain w)) = refl
    by (Some (Quoted q)) = refl

-- ---- whether an item's braces may be empty

-- not below level 1
deeper : (k : ℕ) (s : List ℕ) (at : ℕ) → eqb k 7 ≡ false → empty_at k s at ≡ false
unfolding empty_at
deeper k s at e = rw e

-- at level 1 where it is called Audit
empty_audit_lem : (s : List ℕ) (at : ℕ) (p : ItemPlaces) → OfItem s at p → empty_at 7 s at ≡ called_by AuditToken s p
unfolding empty_at audit_at second_at called_by
empty_audit_lem s at p h = called_second AuditToken _ _ (is_at s (word_end s at) slash) ∙ rw (h.second, h.word.bytes)

-- so not where it is called Media
media_filled : (s : List ℕ) (at : ℕ) (p : ItemPlaces) → OfItem s at p → called_by MediaToken s p ≡ true → empty_at 7 s at ≡ false
unfolding called_by is_token
media_filled s at p h e =
    let w : List ℕ = bytes_of s p.word in
    let m : meaning_of w ≡ some MediaToken = spelt_means MediaToken w (and_right (not p.second) (spells MediaToken w) e) in
    empty_audit_lem s at p h ∙ rw (spells_means AuditToken MediaToken w m, and-false)

-- the item that begins here is called Media
media_called : (s : List ℕ) (at : ℕ) (p : ItemPlaces) → OfItem s at p → called_by MediaToken s p ≡ media_here s at
unfolding called_by media_here word_here word_end
media_called s at p h = rw (h.second, h.word.bytes)

-- and so not Audit
media_no_audit : (s : List ℕ) (at : ℕ) (p : ItemPlaces) → OfItem s at p → media_here s at ≡ true → called_by AuditToken s p ≡ false
media_no_audit s at p h e = sym (empty_audit_lem s at p h) ∙ media_filled s at p h (media_called s at p h ∙ e)

-- ---- the tests of one item

-- an item judged alone
alone : (code : ℕ) (b seen g : Bool) (x y : Judged) → (g ≡ true → x ≡ y)
    → pick (not b) (Err code) (pick seen (Err 448) (pick g (onward x Ok) (Err 442))) ≡ judged_by (item_checked code b seen g) y
unfolding onward judged_by item_checked pick
alone code false seen g x y e = refl
alone code true true g x y e = refl
alone code true false false x y e = refl
alone code true false true x y e = by x ∙ e refl
  where
    by : (j : Judged) → onward j Ok ≡ j
    by (Err c) = refl
    by (Ok vs) = refl

-- the same where what stands inside is told of an item that is called for
alone_called : (code : ℕ) (b seen g : Bool) (x y : Judged) → (b ≡ true → g ≡ true → x ≡ y)
    → pick (not b) (Err code) (pick seen (Err 448) (pick g (onward x Ok) (Err 442))) ≡ judged_by (item_checked code b seen g) y
unfolding judged_by item_checked pick
alone_called code false seen g x y e = refl
alone_called code true seen g x y e = alone code true seen g x y (e refl)

-- the same where the shape is told last
alone_shaped : (code : ℕ) (b seen g : Bool) (y : Judged)
    → pick (not b) (Err code) (pick seen (Err 448) (onward (pick g y (Err 442)) Ok)) ≡ judged_by (item_checked code b seen g) y
unfolding onward judged_by item_checked pick
alone_shaped code false seen g y = refl
alone_shaped code true true g y = refl
alone_shaped code true false false y = refl
alone_shaped code true false true (Err c) = refl
alone_shaped code true false true (Ok vs) = refl

-- the same where what stands inside is told of an item that has braces
alone_inside : (code : ℕ) (b seen n : Bool) (o : Parsed) (x : Judged) (f : ℕ → Judged) → ((i : ℕ) → b ≡ true → n ≡ true → o ≡ Some i → x ≡ f i)
    → pick (not b) (Err code) (pick seen (Err 448) (pick (n && is_some o) (onward x Ok) (Err 442))) ≡ judged_by (item_checked code b seen n) (inside_judged o f)
unfolding onward judged_by item_checked inside_judged pick
alone_inside code false seen n o x f e = refl
alone_inside code true true n o x f e = refl
alone_inside code true false false o x f e = refl
alone_inside code true false true None x f e = refl
alone_inside code true false true (Some i) x f e = by x ∙ e i refl refl refl
  where
    by : (j : Judged) → onward j Ok ≡ j
    by (Err c) = refl
    by (Ok vs) = refl

-- what a descriptor without a text asks
descriptor_by : {A : Type 0} (c : Descriptors) (s : List ℕ) (at : ℕ) (p : ItemPlaces) (f : ℕ → List (ItemOf A)) (vs : Values)
    → descriptor_item c (value_from s at p.value) (held_in f p.inside) vs ≡ pick (media_shape_by c p) (inside_judged p.inside (λ i. property_items (kind_of c.control) (f i) false vs)) (Err 442)
unfolding descriptor_item speech_item descriptor_shape given? items_in value_from held_in inside_judged kind_of pick
descriptor_by c s at p f vs = by c.local c.remote p.value p.inside
  where
    by : (l r : Bool) (v : std.Option ValuePlace) (o : Parsed)
        → pick l (speech_item OfLocal (value_from s at v) vs)
        (pick r (speech_item OfRemote (value_from s at v) vs)
        (pick (not (given? (value_from s at v)) && given? (held_in f o)) (property_items (pick c.control InControl InState) (items_in (held_in f o)) false vs) (Err 442)))
        ≡ pick (not l && not r && is_none v) (inside_judged o (λ i. property_items (pick c.control InControl InState) (f i) false vs)) (Err 442)
    by true r None o = refl
    by true r (Some (Plain w)) o = refl
    by true r (Some (Quoted q)) o = refl
    by false true None o = refl
    by false true (Some (Plain w)) o = refl
    by false true (Some (Quoted q)) o = refl
    by false false None None = refl
    by false false None (Some i) = refl
    by false false (Some (Plain w)) o = refl
    by false false (Some (Quoted q)) o = refl

-- and one with a text
described_by : (A : Type 0) (c : Descriptors) (t : List ℕ) (vs : Values)
    → descriptor_item {A = A} c (some (octets t)) none vs ≡ pick (c.local || c.remote) (speech_given (side_of c.local) (read_sdp t) vs) (Err 442)
unfolding descriptor_item speech_item descriptor_shape given? side_of pick
described_by A c t vs = by c.local c.remote
  where
    by : (l r : Bool) → pick l (speech_given OfLocal (read_sdp t) vs) (pick r (speech_given OfRemote (read_sdp t) vs) (Err 442))
        ≡ pick (l || r) (speech_given (pick l OfLocal OfRemote) (read_sdp t) vs) (Err 442)
    by true r = refl
    by false true = refl
    by false false = refl

called_parts : (s : List ℕ) (p : ItemPlaces) (x : List ℕ) → called_in (bytes_of s p.word) (pick p.second (some x) none) ≡ called_as s p
unfolding called_in called_as called_by
called_parts s p x = rw (called_second, called_second, called_second, called_second)

module _ (s : List ℕ) (at : ℕ) (p : ItemPlaces) (h : OfItem s at p) (vs : Values) where
  property_one : (k : Kind) (seen : Bool) → property_by k seen vs s p ≡ property_items k ((item_at 5 (items_at 5 s) s at).tree ∷ []) seen vs
  unfolding property_items property_by property_shape called_by item_from
  property_one k seen =
      sym (rw (item_filled 5 (items_at 5 s) s at p (deeper 5 s at refl) h, called_second, given_value, given_held, not_some)
      (alone 445 _ seen (property_shape_by p) _ _ (λ t. ap (λ g. set_value k g vs) (value_by_lem k s _ p (and_left _ _ t)))))

  media_one : (c stood : Descriptors) → c ≡ called_as s p → media_by c stood vs s p ≡ media_items ((item_at 6 (items_at 6 s) s at).tree ∷ []) stood vs
  unfolding media_items media_by item_from
  media_one c stood d =
      sym (rw (item_filled 6 (items_at 6 s) s at p (deeper 6 s at refl) h, called_parts, ← d, descriptor_by)
      (alone_shaped 444 (both c c) (both c stood) (media_shape_by c p) (inside_judged p.inside (λ i. property_items (kind_of c.control) (items_at 6 s i).tree false vs))))

  top_one : (seen : Bool) → top_by seen vs s p ≡ top_items ((top_item_at s at).tree ∷ []) seen vs
  unfolding top_items top_by called_by descriptor_shape item_from or_none_at top_item_at pick
  top_one seen = sym (by (media_here s at) refl)
    where
      by : (m : Bool) → media_here s at ≡ m → top_items (pick m (item_at 7 (media_at s) s at).tree (item_at 7 (items_at 7 s) s at).tree ∷ []) seen vs ≡ top_by seen vs s p
      by true k =
          rw (item_is 7 (media_at s) s at p h, called_second, given_value, given_held, not_some)
          (alone_inside 444 (called_by MediaToken s p) seen (is_none p.value) p.inside _ _ (λ i b n o. rw (media_filled s at p h b, items_in_held (λ j. (media_at s j).tree) p.inside i o)))
      by false k =
          rw (item_is 7 (items_at 7 s) s at p h, called_second, given_value, given_held, not_some)
          (alone_inside 444 (called_by MediaToken s p) seen (is_none p.value) p.inside _ _ (λ i b n o. absurd (false≢true (sym k ∙ sym (media_called s at p h) ∙ b))))

  audited_one : (seen : Bool) → audited_by seen s p ≡ audited_items ((item_at 6 (items_at 6 s) s at).tree ∷ []) seen vs
  unfolding audited_items audited_by bare_shape called_by item_from onward
  audited_one seen =
      sym (rw (item_filled 6 (items_at 6 s) s at p (deeper 6 s at refl) h, called_second, given_value, given_held, not_some, not_some) (alone 444 _ seen (bare_shape_by p) (Ok auditing) (Ok auditing) (λ t. refl)))

  audit_one : (seen : Bool) → audit_by seen vs s p ≡ audit_items ((top_item_at s at).tree ∷ []) seen vs
  unfolding audit_items audit_by called_by descriptor_shape item_from top_item_at pick
  audit_one seen = sym (by (media_here s at) refl)
    where
      by : (m : Bool) → media_here s at ≡ m → audit_items (pick m (item_at 7 (media_at s) s at).tree (item_at 7 (items_at 7 s) s at).tree ∷ []) seen vs ≡ audit_by seen vs s p
      by true k =
          rw (item_is 7 (media_at s) s at p h, called_second, given_value, given_held, not_some)
          (alone_inside 447 (called_by AuditToken s p) seen (is_none p.value) p.inside _ _ (λ i b n o. absurd (false≢true (sym (media_no_audit s at p h k) ∙ b))))
      by false k =
          rw (item_is 7 (items_at 7 s) s at p h, called_second, given_value, given_held, not_some)
          (alone_inside 447 (called_by AuditToken s p) seen (is_none p.value) p.inside _ _ (λ i b n o.
          rw (empty_audit_lem s at p h ∙ b, items_in_held (λ j. (or_none_at true (items_at 7 s) s j).tree) p.inside i o)))

-- what stands in Audit's braces
module _ (s : List ℕ) (at : ℕ) (x : Bool) (g : x ≡ is_at s at right_brace) (vs : Values) where
  pub inside_none : x ≡ true → Ok (record { values = vs; end = at }) ≡ ended (audited_items (or_none_at true (items_at 7 s) s at).tree false vs) (or_none_at true (items_at 7 s) s at).end
  unfolding or_none_at audited_items ended pick
  inside_none t = rw (← g, t)

  pub inside_some : (r : Result Reached ℕ) → x ≡ false → r ≡ ended (audited_items (items_at 7 s at).tree false vs) (items_at 7 s at).end
      → r ≡ ended (audited_items (or_none_at true (items_at 7 s) s at).tree false vs) (or_none_at true (items_at 7 s) s at).end
  unfolding or_none_at pick
  inside_some r f e = e ∙ rw (← g, f)

-- ---- where an item ends that nothing is wrong with

-- its shape is right
shaped : (code : ℕ) (b seen g : Bool) (y : Judged) (us : Values) → judged_by (item_checked code b seen g) y ≡ Ok us → g ≡ true
unfolding judged_by item_checked pick
shaped code false seen g y us e = absurd (let w : ◌≡◌ {A = ℕ} 0 1 = cc in omega arith)
shaped code true true g y us e = absurd (let w : ◌≡◌ {A = ℕ} 0 1 = cc in omega arith)
shaped code true false false y us e = absurd (let w : ◌≡◌ {A = ℕ} 0 1 = cc in omega arith)
shaped code true false true y us e = refl

-- and it is called for
known : (code : ℕ) (b seen g : Bool) (y : Judged) (us : Values) → judged_by (item_checked code b seen g) y ≡ Ok us → b ≡ true
unfolding judged_by item_checked pick
known code false seen g y us e = absurd (let w : ◌≡◌ {A = ℕ} 0 1 = cc in omega arith)
known code true seen g y us e = refl

-- and it has braces where something stands in them
bare_wrong : (x : Checked) (f : ℕ → Judged) (us : Values) → judged_by x (inside_judged None f) ≡ Ok us → ⊥
unfolding judged_by inside_judged
bare_wrong (Ok tt) f us e = let w : ◌≡◌ {A = ℕ} 0 1 = cc in omega arith
bare_wrong (Err c) f us e = let w : ◌≡◌ {A = ℕ} 0 1 = cc in omega arith

-- where an end counts only if nothing is wrong
ended_ends : (j : Judged) (e d : ℕ) → ((us : Values) → j ≡ Ok us → e ≡ d) → ended j e ≡ ended j d
unfolding ended
ended_ends (Ok us) e d h = rw (h us refl)
ended_ends (Err c) e d h = refl

module _ (s : List ℕ) (at : ℕ) (p : ItemPlaces) (h : OfItem s at p) (vs : Values) where
  -- a property where its value does
  property_ends : (k : Kind) (seen : Bool) (us : Values) → property_by k seen vs s p ≡ Ok us → p.end ≡ (item_at 5 (items_at 5 s) s at).end
  unfolding property_by
  property_ends k seen us e = item_plain 5 s at p h (none_when p.inside (and_right (is_some p.value) (is_none p.inside) (shaped 445 _ seen (property_shape_by p) _ us e)))

  audited_ends : (seen : Bool) (us : Values) → audited_by seen s p ≡ Ok us → p.end ≡ (item_at 6 (items_at 6 s) s at).end
  unfolding audited_by
  audited_ends seen us e = item_plain 6 s at p h (none_when p.inside (and_right (is_none p.value) (is_none p.inside) (shaped 444 _ seen (bare_shape_by p) _ us e)))

  -- a descriptor where its braces do
  media_ends : (c stood : Descriptors) (us : Values) → media_by c stood vs s p ≡ Ok us → closed_end (λ i. (items_at 6 s i).end) s p.inside p.end ≡ (item_at 6 (items_at 6 s) s at).end
  unfolding media_by closed_end
  media_ends c stood us e = by p.inside refl
    where
      by : (o : Parsed) → p.inside ≡ o → closed_end (λ i. (items_at 6 s i).end) s p.inside p.end ≡ (item_at 6 (items_at 6 s) s at).end
      by None g = absurd (bare_wrong _ _ us (rw g at e))
      by (Some i) g = rw g (item_braced 6 s at p h i g false (rw (deeper 6 s at refl)) (past_sign right_brace s (items_at 6 s i).end) refl (items_at 6 s i).end refl refl)

  top_ends : (seen : Bool) (us : Values) → top_by seen vs s p ≡ Ok us → closed_end (λ i. (media_at s i).end) s p.inside p.end ≡ (top_item_at s at).end
  unfolding top_by top_item_at pick closed_end
  top_ends seen us e = by p.inside refl
    where
      b : called_by MediaToken s p ≡ true
      b = known 444 _ seen (is_none p.value) _ us e

      by : (o : Parsed) → p.inside ≡ o → closed_end (λ i. (media_at s i).end) s p.inside p.end ≡ (top_item_at s at).end
      by None g = absurd (bare_wrong _ _ us (rw g at e))
      by (Some i) g =
          let m : media_here s at ≡ true = sym (media_called s at p h) ∙ b in
          rw (m, g) (media_braced s at p h i g false (rw (media_filled s at p h b)) (past_sign right_brace s (media_at s i).end) refl (media_at s i).end refl refl)

  audit_ends : (seen : Bool) (us : Values) → audit_by seen vs s p ≡ Ok us → closed_end (λ i. (or_none_at true (items_at 7 s) s i).end) s p.inside p.end ≡ (top_item_at s at).end
  unfolding audit_by top_item_at pick closed_end
  audit_ends seen us e = by (media_here s at) refl p.inside refl
    where
      b : called_by AuditToken s p ≡ true
      b = known 447 _ seen (is_none p.value) _ us e

      by : (m : Bool) → media_here s at ≡ m → (o : Parsed) → p.inside ≡ o
          → closed_end (λ i. (or_none_at true (items_at 7 s) s i).end) s p.inside p.end ≡ pick m (item_at 7 (media_at s) s at).end (item_at 7 (items_at 7 s) s at).end
      by true i o g = absurd (false≢true (sym (media_no_audit s at p h i) ∙ b))
      by false i None g = absurd (bare_wrong _ _ us (rw g at e))
      by false i (Some n) g =
          rw g (item_closed 7 s at p h n g (or_none_at true (items_at 7 s) s n).end (past_sign right_brace s (or_none_at true (items_at 7 s) s n).end)
          (ap (λ (t : Bool). (or_none_at t (items_at 7 s) s n).end) (sym (empty_audit_lem s at p h ∙ b))) refl)

  -- ---- both

  pub property_judged : (k : Kind) (seen : Bool) → ended (property_by k seen vs s p) p.end ≡ ended (property_items k ((item_at 5 (items_at 5 s) s at).tree ∷ []) seen vs) (item_at 5 (items_at 5 s) s at).end
  property_judged k seen = ended_ends _ _ _ (property_ends k seen) ∙ ap (λ (j : Judged). ended j (item_at 5 (items_at 5 s) s at).end) (property_one s at p h vs k seen)

  pub audited_judged : (seen : Bool) → ended (audited_by seen s p) p.end ≡ ended (audited_items ((item_at 6 (items_at 6 s) s at).tree ∷ []) seen vs) (item_at 6 (items_at 6 s) s at).end
  audited_judged seen = ended_ends _ _ _ (audited_ends seen) ∙ ap (λ (j : Judged). ended j (item_at 6 (items_at 6 s) s at).end) (audited_one s at p h vs seen)

  media_judged : (c stood : Descriptors) → c ≡ called_as s p
      → ended (media_by c stood vs s p) (closed_end (λ i. (items_at 6 s i).end) s p.inside p.end) ≡ ended (media_items ((item_at 6 (items_at 6 s) s at).tree ∷ []) stood vs) (item_at 6 (items_at 6 s) s at).end
  media_judged c stood d = ended_ends _ _ _ (media_ends c stood) ∙ ap (λ (j : Judged). ended j (item_at 6 (items_at 6 s) s at).end) (media_one s at p h vs c stood d)

  pub top_judged : (seen : Bool) → ended (top_by seen vs s p) (closed_end (λ i. (media_at s i).end) s p.inside p.end) ≡ ended (top_items ((top_item_at s at).tree ∷ []) seen vs) (top_item_at s at).end
  top_judged seen = ended_ends _ _ _ (top_ends seen) ∙ ap (λ (j : Judged). ended j (top_item_at s at).end) (top_one s at p h vs seen)

  pub audit_judged : (seen : Bool)
      → ended (audit_by seen vs s p) (closed_end (λ i. (or_none_at true (items_at 7 s) s i).end) s p.inside p.end) ≡ ended (audit_items ((top_item_at s at).tree ∷ []) seen vs) (top_item_at s at).end
  audit_judged seen = ended_ends _ _ _ (audit_ends seen) ∙ ap (λ (j : Judged). ended j (top_item_at s at).end) (audit_one s at p h vs seen)

-- ---- one item of a list

module _ {S : Type 0} (j : Judged) (e : ℕ) (st : S) where
  pub next_wrong : (x : Result Reached ℕ) (c : ℕ) → x ≡ ended j e → x ≡ Err c → Err c ≡ ended_next j e st
  unfolding ended ended_next
  next_wrong x c f w = by j (sym f ∙ w)
    where
      by : (k : Judged) → ended k e ≡ Err c → Err c ≡ ended_next k e st
      by (Ok us) z = absurd (let w : ◌≡◌ {A = ℕ} 0 1 = cc in omega arith)
      by (Err d) z = let w : d ≡ c = cc in rw w

  pub next_right : (x : Result Reached ℕ) (r : Reached) → x ≡ ended j e → x ≡ Ok r → Ok (r, st) ≡ ended_next j e st
  unfolding ended ended_next
  next_right x r f w = by j (sym f ∙ w)
    where
      by : (k : Judged) → ended k e ≡ Ok r → Ok (r, st) ≡ ended_next k e st
      by (Ok us) z = let w : record { values = us; end = e } ≡ r = cc in rw w
      by (Err d) z = absurd (let w : ◌≡◌ {A = ℕ} 0 1 = cc in omega arith)

-- where the values alone are told
pub ended_wrong : (j k : Judged) (e : ℕ) (c : ℕ) → k ≡ j → k ≡ Err c → Err c ≡ ended j e
unfolding ended
ended_wrong j k e c f w = sym (rw (← f, w))

pub ended_right : (j k : Judged) (e : ℕ) (us : Values) → k ≡ j → k ≡ Ok us → Ok (record { values = us; end = e }) ≡ ended j e
unfolding ended
ended_right j k e us f w = sym (rw (← f, w))

-- ---- an item of Media

stood_item : (s : List ℕ) (at : ℕ) (p : ItemPlaces) (c stood : Descriptors) → OfItem s at p → c ≡ called_as s p → either c stood ≡ stood_next (item_at 6 (items_at 6 s) s at).tree stood
unfolding stood_next item_from
stood_item s at p c stood h d = sym (rw (item_filled 6 (items_at 6 s) s at p (deeper 6 s at refl) h, called_parts, ← d))

module _ (s : List ℕ) (at : ℕ) (p : SpeechPlaces) (h : OfSpeech s at p) (c stood : Descriptors) (e : c ≡ called_in (bytes_of s p.word) none) (vs : Values) where
  pub speech_judged : (t : List ℕ) → t ≡ bytes_of s p.text → ended (speech_by c stood vs t) p.end ≡ ended (media_items ((speech_at s at).tree ∷ []) stood vs) (speech_at s at).end
  unfolding media_items speech_by speech_from
  speech_judged t i =
      ended_ends _ _ _ (λ us r. speech_ends s at p h)
      ∙ ap (λ (j : Judged). ended j (speech_at s at).end) (sym (rw (speech_is s at p h, ← e, ← i, described_by (Item 5))
      (alone_shaped 444 (both c c) (both c stood) (c.local || c.remote) (speech_given (side_of c.local) (read_sdp t) vs))))

  pub speech_stood : either c stood ≡ stood_next (speech_at s at).tree stood
  unfolding stood_next speech_from
  speech_stood = sym (rw (speech_is s at p h, ← e))

-- an item by its word
module _ (s : List ℕ) (at : ℕ) (p : ItemPlaces) (h : OfItem s at p) (w : Descriptors) (e : w ≡ called_in (bytes_of s p.word) none) where
  pub word_means : w ≡ called_in (word_here s at) none
  unfolding word_here word_end
  word_means = e ∙ rw h.word.bytes

  called_is : called_unless p.second w ≡ called_as s p
  unfolding called_unless called_as called_by called_in called
  called_is = rw e

  module _ (x : Bool) (g : x ≡ speech_here s at) (n : x ≡ false) (c stood : Descriptors) (i : c ≡ called_unless p.second w) (vs : Values) where
    pub part_judged : ended (media_by c stood vs s p) (closed_end (λ i. (items_at 6 s i).end) s p.inside p.end) ≡ ended (media_items ((media_item_at s at).tree ∷ []) stood vs) (media_item_at s at).end
    unfolding media_item_at pick
    part_judged = media_judged s at p h vs c stood (i ∙ called_is) ∙ sym (rw (← g, n))

    pub part_stood : either c stood ≡ stood_next (media_item_at s at).tree stood
    unfolding media_item_at pick
    part_stood = stood_item s at p c stood h (i ∙ called_is) ∙ sym (rw (← g, n))

-- a text stands only where the word is Local or Remote
module _ (s : List ℕ) (at : ℕ) (w : Descriptors) (e : w ≡ called_in (word_here s at) none) where
  pub no_text : w.local || w.remote ≡ false → false ≡ speech_here s at
  unfolding speech_here called_in called
  no_text t = sym (rw (sym (ap (λ c. c.local || c.remote) e) ∙ t))

module _ (s : List ℕ) (at : ℕ) (x : Bool) (g : x ≡ speech_here s at) (stood : Descriptors) (vs : Values) (r : Result (Reached × Descriptors) ℕ) where
  pub part_text : x ≡ true → r ≡ ended_next (media_items ((speech_at s at).tree ∷ []) stood vs) (speech_at s at).end (stood_next (speech_at s at).tree stood)
      → r ≡ ended_next (media_items ((media_item_at s at).tree ∷ []) stood vs) (media_item_at s at).end (stood_next (media_item_at s at).tree stood)
  unfolding media_item_at pick
  part_text t h = rw (← g, t) h
