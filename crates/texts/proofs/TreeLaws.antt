-- The texts found by position are those of the tree.
use Rattle.std.specs.Prelude.{Some, None, Ok, Err}
use Prim.Native.Nat.{ℕ, zero, suc, ◌+◌}
use mathlib.Core.Path.{◌≡◌, refl, sym, ap, ◌∙◌}
use mathlib.Core.Bool.{Bool, true, false, not, ◌&&◌}
use mathlib.Core.List.{List, [], ◌∷◌, ◌++◌}
use mathlib.Core.Option.{Option, none, some}
use lib.ListN.{length}
use lib.Dec.{ltb}
use Rattle.base.specs.Pick.{pick}
use Rattle.base.specs.Lists.{is_at, part}
use Rattle.base.proofs.TestLaws.{and_right}
use Rattle.megaco.specs.Bytes.{comma, left_brace, slash}
use Rattle.megaco.specs.Keywords.{is_token, spells, meaning_of}
use Rattle.megaco.proofs.Meanings.{spelt_means, spells_means}
use Rattle.megaco.specs.Tokens.{row_at}
use Rattle.megaco.specs.Tree.{plain, quoted, item, Item, Part, request, acknowledge}
use Rattle.megaco.specs.Reading.{Read, unlimited, value_of, may_be_empty, word_here, media_here, speech_here, action_of}
use Rattle.megaco.specs.Items.{called, items_in}
use Rattle.protocol.specs.Types.{Side, AuditToken, MediaToken}
use Rattle.read_command.specs.declared.Rest.{Rest}
use Rattle.read_command.specs.declared.Fault.TheVariants.{Fault400, Fault403, WrongVersion406}
use Rattle.read_command.specs.Production.{Production, past_sign, word_end, list_of}
use Rattle.read_command.specs.Places.{second_at, value_item_at, braces_at, audit_at, empty_at, or_none_at, equal_place, head_end, item_at, items_at, octets_start, octets_end, speech_at, media_item_at, media_at, top_item_at, top_at, order_at, order_start, order_end, name_start, name_end, command_head_end, command_at, commands_at, context_start, body_start, rest_in, commands_in, action_at, actions_at}
use Rattle.read_command.specs.Messages.{actions_start, transaction_of, is_acknowledgement, acks_of, part_of, part_end, transactions_at, header_end, message_at, Verdict, verdict, message_of, message_by, message_law, verdict_is}
use Rattle.texts.specs.declared.Holder.{Holder}
use Rattle.texts.specs.Texts.{Text, Wanted, held_text, gather, side_called, part_texts, item_texts, command_texts, action_texts, transaction_texts, served_texts, message_texts, text_in, text_number, side_of, name_of, bytes_of, holders_in, media_item_holders, media_holders, top_item_holders, top_holders, command_holders, commands_holders, rest_holders, action_holders, actions_holders, served_holders, transactions_holders, sought, found_in, message_sought, where_text, holder_number, local_at, side_there, text_start, text_end, owner_start, owner_end}

module _ (s : List ℕ) where
  -- what a holder has
  unfoldable name_at : ℕ → List ℕ
  name_at c = part s (name_start s c) (name_end s c)

  unfoldable text_at : Holder → Text
  text_at h = record { side = side_called (local_at s h.item); name = name_at h.command; bytes = part s (octets_start s h.item) (octets_end s h.item) }

  unfoldable texts_at : List Holder → List Text
  texts_at [] = []
  texts_at (p ∷ ps) = text_at p ∷ texts_at ps

  texts_both : (xs ys : List Holder) → texts_at (xs ++ ys) ≡ texts_at xs ++ texts_at ys
  unfolding texts_at
  texts_both [] ys = refl
  texts_both (x ∷ xs) ys = ap (λ (l : List Text). text_at x ∷ l) (texts_both xs ys)

  texts_pick : (t : Bool) (xs : List Holder) (l : List Text) → texts_at xs ≡ l → texts_at (pick t xs []) ≡ pick t l []
  unfolding texts_at pick
  texts_pick true xs l h = h
  texts_pick false xs l h = refl

  module _ {A : Type 0} (one : ℕ → List Holder) (tree : ℕ → A) (end : ℕ → ℕ) (f : A → List Text) (same : (i : ℕ) → texts_at (one i) ≡ f (tree i)) where
    gather_pick : (t : Bool) (l : List A) → pick t (gather f l) [] ≡ gather f (pick t l [])
    unfolding gather pick
    gather_pick true l = refl
    gather_pick false l = refl

    list_texts : (k at : ℕ) → texts_at (holders_in one end s k at) ≡ gather f (list_of tree end s k at)
    unfolding holders_in list_of gather texts_at
    list_texts zero at = refl
    list_texts (suc k) at =
        let t = is_at s (end at) comma in
        let n = past_sign comma s (end at) in
        texts_both (one at) (pick t (holders_in one end s k n) [])
        ∙ ap (λ (l : List Text). l ++ texts_at (pick t (holders_in one end s k n) [])) (same at)
        ∙ ap (λ (l : List Text). f (tree at) ++ l) (texts_pick t (holders_in one end s k n) _ (list_texts k n) ∙ gather_pick t (list_of tree end s k n))

  -- ---- items

  no_text : (d : Side) (n : List ℕ) (a b : Bool) (x y : List ℕ) → held_text d n (pick a (some (pick b (quoted x) (plain y))) none) ≡ []
  unfolding held_text pick
  no_text d n true true x y = refl
  no_text d n true false x y = refl
  no_text d n false b x y = refl

  plain_texts : {A : Type 0} {r : ℕ → Read (List A)} (left : ℕ) (inner : (i : ℕ) → Production (r i)) (n : List ℕ) (i : ℕ)
      → part_texts n (item_at left inner s i).tree ≡ []
  unfolding part_texts item_at value_item_at value_of
  plain_texts left inner n i = no_text _ _ _ _ _ _

  speech_texts : (c i : ℕ) → texts_at (record { command = c; item = i } ∷ []) ≡ part_texts (name_at c) (speech_at s i).tree
  unfolding texts_at text_at part_texts held_text speech_at local_at called octets_start octets_end
  speech_texts c i = refl

  part_texts_lem : (c i : ℕ) → texts_at (media_item_holders s c i) ≡ part_texts (name_at c) (media_item_at s i).tree
  unfolding media_item_holders media_item_at
  part_texts_lem c i = by (speech_here s i)
    where
      by : (t : Bool) → texts_at (pick t (record { command = c; item = i } ∷ []) [])
          ≡ part_texts (name_at c) (pick t (speech_at s i).tree (item_at 6 (items_at 6 s) s i).tree)
      by true = unfold pick in speech_texts c i
      by false = unfold pick texts_at in sym (plain_texts 6 (items_at 6 s) (name_at c) i)

  media_texts : (c at : ℕ) → texts_at (media_holders s c at) ≡ gather (part_texts (name_at c)) (media_at s at).tree
  unfolding media_holders media_at
  media_texts c at =
      list_texts (media_item_holders s c) (λ j. (media_item_at s j).tree) (λ j. (media_item_at s j).end) (part_texts (name_at c)) (part_texts_lem c) (unlimited s) at

  -- an item called Media is not called Audit
  second_called : (b : Bool) (w x : List ℕ) → called MediaToken w (pick b (some x) none) ≡ (not b && spells MediaToken w)
  unfolding called pick
  second_called true w x = refl
  second_called false w x = refl

  audit_called : (b : Bool) (w x : List ℕ) → spells AuditToken w ≡ false → called AuditToken w (pick b (some x) none) ≡ false
  unfolding called pick
  audit_called true w x h = refl
  audit_called false w x h = h

  pub media_not_empty : (i : ℕ) → media_here s i ≡ true → empty_at 7 s i ≡ false
  unfolding media_here word_here empty_at audit_at second_at word_end is_token
  media_not_empty i h =
      let w : List ℕ = word_here s i in
      let m : meaning_of w ≡ some MediaToken = spelt_means MediaToken w (and_right (not (is_at s (row_at _ s i) slash)) (spells MediaToken w) h) in
      audit_called (is_at s (row_at _ s i) slash) w _ (spells_means AuditToken MediaToken w m)

  item_tree : {A : Type 0} {r : ℕ → Read (List A)} (inner : (i : ℕ) → Production (r i)) (i : ℕ) → (item_at 7 inner s i).tree
      ≡ item (part s i (word_end s i)) (pick (is_at s (word_end s i) slash) (some (part s (word_end s i + 1) (word_end s (word_end s i + 1)))) none) (value_item_at s (equal_place s i)).tree
      (pick (is_at s (head_end s i) left_brace) (some (or_none_at (empty_at 7 s i) inner s (past_sign left_brace s (head_end s i))).tree) none)
  unfolding item_at equal_place head_end empty_at audit_at may_be_empty second_at braces_at
  item_tree inner i = refl

  item_texts_lem : (c i : ℕ) → texts_at (top_item_holders s c i) ≡ item_texts (name_at c) (top_item_at s i).tree
  unfolding top_item_holders top_item_at
  item_texts_lem c i = by (media_here s i) refl
    where
      here : (b : Bool) → media_here s i ≡ b → (not (is_at s (word_end s i) slash) && spells MediaToken (part s i (word_end s i))) ≡ b
      here b h = unfold media_here word_here word_end in h

      inside : (b : Bool) (l : List (Item 7)) → texts_at (media_holders s c (past_sign left_brace s (head_end s i))) ≡ gather (part_texts (name_at c)) l
          → texts_at (pick (true && b) (media_holders s c (past_sign left_brace s (head_end s i))) []) ≡ gather (part_texts (name_at c)) (items_in (pick b (some l) none))
      inside true l h = unfold pick items_in in h
      inside false l h = unfold pick items_in texts_at gather in refl

      by : (t : Bool) → media_here s i ≡ t → texts_at (pick (t && is_at s (head_end s i) left_brace) (media_holders s c (past_sign left_brace s (head_end s i))) [])
          ≡ item_texts (name_at c) (pick t (item_at 7 (media_at s) s i).tree (item_at 7 (items_at 7 s) s i).tree)
      by true h = unfold item_texts or_none_at pick in (
          let e = media_not_empty i h in
          rw (item_tree (media_at s) i, second_called, here true h, e) (inside (is_at s (head_end s i) left_brace) _ (media_texts c (past_sign left_brace s (head_end s i)))))
      by false h = unfold item_texts pick texts_at in rw (item_tree (items_at 7 s) i, second_called, here false h)

  top_texts : (c at : ℕ) → texts_at (top_holders s c at) ≡ gather (item_texts (name_at c)) (top_at s at).tree
  unfolding top_holders top_at
  top_texts c at = list_texts (top_item_holders s c) (λ j. (top_item_at s j).tree) (λ j. (top_item_at s j).end) (item_texts (name_at c)) (item_texts_lem c) (unlimited s) at

  -- ---- commands, actions

  command_texts_lem : (i : ℕ) → texts_at (command_holders s i) ≡ command_texts (command_at s i).tree
  unfolding command_holders command_texts command_at braces_at order_at order_start order_end name_start name_end command_head_end name_at
  command_texts_lem i = by (is_at s (command_head_end s i) left_brace) (past_sign left_brace s (command_head_end s i))
    where
      by : (t : Bool) (p : ℕ) → texts_at (pick t (top_holders s i p) []) ≡ gather (item_texts (name_at i)) (items_in (pick t (some (top_at s p).tree) none))
      by true p = unfold pick items_in in top_texts i p
      by false p = unfold pick items_in texts_at gather in refl

  commands_texts : (at : ℕ) → texts_at (commands_holders s at) ≡ gather command_texts (commands_at s at).tree
  unfolding commands_holders commands_at
  commands_texts at = list_texts (command_holders s) (λ j. (command_at s j).tree) (λ j. (command_at s j).end) command_texts command_texts_lem 64 at

  rest_texts : (r : Rest) → texts_at (rest_holders s r) ≡ gather command_texts (commands_in s r)
  unfolding rest_holders commands_in
  rest_texts r = by r.commands
    where
      by : (t : Bool) → texts_at (pick t (commands_holders s r.at) []) ≡ gather command_texts (pick t (commands_at s r.at).tree [])
      by true = unfold pick in commands_texts r.at
      by false = unfold pick texts_at gather in refl

  action_texts_lem : (i : ℕ) → texts_at (action_holders s i) ≡ action_texts (action_at s i).tree
  unfolding action_holders action_texts action_at action_of rest_in body_start context_start
  action_texts_lem i = rest_texts (rest_in s i)

  actions_texts : (at : ℕ) → texts_at (actions_holders s at) ≡ gather action_texts (actions_at s at).tree
  unfolding actions_holders actions_at
  actions_texts at = list_texts (action_holders s) (λ j. (action_at s j).tree) (λ j. (action_at s j).end) action_texts action_texts_lem 16 at

  -- ---- the message

  served_texts_lem : (at : ℕ) → texts_at (served_holders s at) ≡ served_texts (part_of s at)
  unfolding served_holders part_of
  served_texts_lem at = by (is_acknowledgement s at)
    where
      by : (t : Bool) → texts_at (pick t [] (actions_holders s (actions_start s at))) ≡ served_texts (pick t (acknowledge (acks_of s at)) (request (transaction_of s at)))
      by true = unfold pick served_texts texts_at in refl
      by false = unfold pick served_texts transaction_of transaction_texts in actions_texts (actions_start s at)

  transactions_texts : (k at : ℕ) → texts_at (transactions_holders k s at) ≡ gather served_texts (transactions_at k s at).tree
  unfolding transactions_holders transactions_at gather texts_at
  transactions_texts zero at = refl
  transactions_texts (suc k) at =
      let t = ltb (part_end s at) (length s) in
      let p = transactions_holders k s (part_end s at) in
      texts_both (served_holders s at) (pick t p [])
      ∙ ap (λ (l : List Text). l ++ texts_at (pick t p [])) (served_texts_lem at)
      ∙ ap (λ (l : List Text). served_texts (part_of s at) ++ l) (texts_pick t p _ (transactions_texts k (part_end s at)) ∙ more t (transactions_at k s (part_end s at)).tree)
    where
      more : (t : Bool) (l : List Part) → pick t (gather served_texts l) [] ≡ gather served_texts (pick t l [])
      more true l = unfold pick in refl
      more false l = unfold pick in refl

  message_texts_lem : texts_at (transactions_holders 8 s (header_end s)) ≡ gather served_texts (message_of s)
  unfolding message_at header_end
  message_texts_lem = transactions_texts 8 (header_end s)

  -- ---- what is told of the text that is found

  module _ {A : Type 0} (there : Wanted → A) (told : Option Text → A) (nothing : there None ≡ told none)
      (same : (h : Holder) → there (Some h) ≡ told (some (text_at h))) where
    found_told : (ps : List Holder) (e k : ℕ) → there (found_in (sought ps e k)) ≡ told (text_in (texts_at ps) k)
    unfolding found_in sought text_in texts_at
    found_told [] e k = nothing
    found_told (p ∷ ps) e zero = same p
    found_told (p ∷ ps) e (suc k) = found_told ps e k

    there_told : (k : ℕ) → there (holder_number s k) ≡ told (text_number s k)
    unfolding holder_number text_number
    there_told k = rw (← verdict_is s, message_law s) (by (verdict s))
      where
        by : (v : Verdict) → there (where_text v s k) ≡ told (text_in (message_texts (message_by v (message_of s))) k)
        by (Ok tt) = unfold where_text message_sought message_by message_texts in (
            found_told (transactions_holders 8 s (header_end s)) 0 k ∙ ap (λ (l : List Text). told (text_in l k)) message_texts_lem)
        by (Err Fault400) = unfold where_text message_by message_texts text_in in nothing
        by (Err (Fault403 id)) = unfold where_text message_by message_texts text_in in nothing
        by (Err WrongVersion406) = unfold where_text message_by message_texts text_in in nothing

  pub there_side : (k : ℕ) → side_there s (holder_number s k) ≡ side_of (text_number s k)
  unfolding side_there side_of text_at
  there_side k = there_told (side_there s) side_of refl (λ h. refl) k

  pub there_name : (k : ℕ) → part s (owner_start s (holder_number s k)) (owner_end s (holder_number s k)) ≡ name_of (text_number s k)
  unfolding owner_start owner_end name_of text_at name_at
  there_name k = there_told (λ x. part s (owner_start s x) (owner_end s x)) name_of (unfold part in refl) (λ h. refl) k

  pub there_text : (k : ℕ) → part s (text_start s (holder_number s k)) (text_end s (holder_number s k)) ≡ bytes_of (text_number s k)
  unfolding text_start text_end bytes_of text_at
  there_text k = there_told (λ x. part s (text_start s x) (text_end s x)) bytes_of (unfold part in refl) (λ h. refl) k
