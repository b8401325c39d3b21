-- What the calls and the arms of a function tell of its result, in the form in which `search` uses it.
use Rattle.std.specs.Prelude.{Some, None, Ok, Err}
use Prim.Native.Nat.{ℕ}
use mathlib.Core.Path.{◌≡◌, refl, sym, ap, ◌∙◌}
use mathlib.Core.Bool.{Bool, false}
use mathlib.Core.List.{List}
use mathlib.Core.Option.{some}
use native.Mathlib.Omega.{arith}
use Rattle.megaco.specs.Bytes.{right_brace}
use Rattle.megaco.specs.Tree.{plain}
use Rattle.megaco.specs.Items.{mode_given, state_given, value_given, items_in, set_speech, speech_given, top_items, audit_items, audit_given, unchanged, media_given, no_items}
use Rattle.protocol.specs.Types.{Parsed, Given, Judged, Checked, Kind, InControl, InState, Side, Released, Session, SdpText, EmptyText, Described, NotInSubset, Values}
use Rattle.read_command.specs.Production.{past_sign}
use Rattle.read_command.specs.Places.{top_at}
use Rattle.command_places.specs.declared.CommandPlaces.{CommandPlaces}
use Rattle.command_places.specs.Found.{held_in, closed_end, items_from, command_end_from}
use Rattle.judge_items.specs.declared.Reached.{Reached}
use Rattle.std.specs.declared.result.Result.{Result}
use Rattle.std.specs.Option.{ok_or}
use Rattle.judge_items.proofs.ListLaws.{audit_given_lem}
use Rattle.judge_items.specs.Judging.{ended, item_checked, judged_by, inside_judged, closed_by}

-- ---- values

module _ (k : Kind) (w : List ℕ) (r : Given) where
  pub plain_mode : k ≡ InControl → r ≡ mode_given w → r ≡ value_given k (some (plain w))
  unfolding value_given
  plain_mode h e = rw h e

  pub plain_state : k ≡ InState → r ≡ state_given w → r ≡ value_given k (some (plain w))
  unfolding value_given
  plain_state h e = rw h e

-- ---- Local and Remote

module _ (d : Side) (x : SdpText) (vs us : Values) where
  pub speech_none : x ≡ EmptyText → us ≡ set_speech d Released vs → Ok us ≡ speech_given d x vs
  unfolding speech_given
  speech_none e h = rw (e, h)

  pub speech_some : (a p k : ℕ) → x ≡ Described a p k → us ≡ set_speech d (Session a p k) vs → Ok us ≡ speech_given d x vs
  unfolding speech_given
  speech_some a p k e h = rw (e, h)

pub speech_wrong : (d : Side) (x : SdpText) (vs : Values) → x ≡ NotInSubset → Err 449 ≡ speech_given d x vs
unfolding speech_given
speech_wrong d x vs e = rw e

-- ---- what stands in an item's braces

pub closed_ended : (s : List ℕ) (x r : Result Reached ℕ) (j : Judged) (e : ℕ) → x ≡ ended j e → r ≡ closed_by s x → r ≡ ended j (past_sign right_brace s e)
unfolding closed_by ended
closed_ended s x r j e h g = g ∙ rw h (by j)
  where
    by : (k : Judged) → closed_by s (ended k e) ≡ ended k (past_sign right_brace s e)
    by (Ok vs) = refl
    by (Err c) = refl

pub checked_by : (k : Checked) (code : ℕ) (x b t seen y n : Bool) → k ≡ item_checked code x t y → x ≡ b → t ≡ seen → y ≡ n → k ≡ item_checked code b seen n
checked_by k code x b t seen y n e f g h = rw (← f, ← g, ← h) e

-- where an item has braces, and where it has none
pub or_none : (o : Parsed) (code c : ℕ) (x : Result ℕ ℕ) → x ≡ ok_or o code → x ≡ Err c → (o ≡ None) × (c ≡ code)
or_none None code c x e w = (refl, let z : c ≡ code = cc in z)
or_none (Some i) code c x e w = absurd (let z : ◌≡◌ {A = ℕ} 0 1 = cc in omega arith)

pub or_some : (o : Parsed) (code i : ℕ) (x : Result ℕ ℕ) → x ≡ ok_or o code → x ≡ Ok i → o ≡ Some i
or_some None code i x e w = absurd (let z : ◌≡◌ {A = ℕ} 0 1 = cc in omega arith)
or_some (Some j) code i x e w = let z : j ≡ i = cc in rw z

module _ (k : Checked) (code : ℕ) (b seen n : Bool) (e : k ≡ item_checked code b seen n) (s : List ℕ) (o : Parsed) (f : ℕ → Judged) (end : ℕ → ℕ) (d : ℕ) where
  pub item_wrong : (c : ℕ) → k ≡ Err c → Err c ≡ ended (judged_by (item_checked code b seen n) (inside_judged o f)) (closed_end end s o d)
  unfolding judged_by ended
  item_wrong c z = rw (← e, z)

  pub item_bare : k ≡ Ok tt → o ≡ None → (c : ℕ) → c ≡ 442 → Err c ≡ ended (judged_by (item_checked code b seen n) (inside_judged o f)) (closed_end end s o d)
  unfolding judged_by inside_judged ended
  item_bare z w c m = rw (m, ← e, z, w)

  pub item_right : k ≡ Ok tt → (i : ℕ) → o ≡ Some i → (x r : Result Reached ℕ) → x ≡ ended (f i) (end i) → r ≡ closed_by s x → r ≡ ended (judged_by (item_checked code b seen n) (inside_judged o f)) (closed_end end s o d)
  unfolding judged_by inside_judged closed_end
  item_right z i w x r h g = closed_ended s x r (f i) (end i) h g ∙ sym (rw (← e, z, w))

-- ---- a command's items

module _ (s : List ℕ) (p : CommandPlaces) where
  module _ (j : Judged) (f : ℕ → Judged) (x r : Result Reached ℕ) (i : ℕ) (o : p.inside ≡ Some i) where
    pub all_inside : x ≡ ended (f i) (top_at s i).end → r ≡ closed_by s x → f i ≡ j → r ≡ ended j (command_end_from s p)
    unfolding command_end_from closed_end
    all_inside h g k = closed_ended s x r (f i) (top_at s i).end h g ∙ rw (o, k)

  pub command_bare : (vs : Values) (j : Judged) → p.inside ≡ None → Ok vs ≡ j → Ok (record { values = vs; end = p.end }) ≡ ended j (command_end_from s p)
  unfolding command_end_from closed_end ended
  command_bare vs j o k = rw (← k, o)

  pub media_some : (i : ℕ) → p.inside ≡ Some i → top_items (top_at s i).tree false unchanged ≡ media_given (items_from s p)
  unfolding media_given items_from held_in
  media_some i o = rw o

  pub media_none : p.inside ≡ None → Ok unchanged ≡ media_given (items_from s p)
  unfolding media_given items_from held_in
  media_none o = rw o

  pub none_wrong : (i : ℕ) → p.inside ≡ Some i → Err 447 ≡ ended (no_items (items_from s p)) (command_end_from s p)
  unfolding no_items items_from held_in ended
  none_wrong i o = rw o

  pub none_right : p.inside ≡ None → Ok unchanged ≡ no_items (items_from s p)
  unfolding no_items items_from held_in
  none_right o = rw o

  pub audit_some : (i : ℕ) → p.inside ≡ Some i → audit_items (top_at s i).tree false unchanged ≡ audit_given (items_in (items_from s p))
  unfolding items_in items_from held_in
  audit_some i o = sym (rw o (audit_given_lem s i))

  pub audit_none : p.inside ≡ None → Err 442 ≡ ended (audit_given (items_in (items_from s p))) (command_end_from s p)
  unfolding audit_given items_in items_from held_in ended
  audit_none o = rw o

-- a command's items are judged, and where it ends
module _ (j : Judged) (e : ℕ) (x : Result Reached ℕ) (h : x ≡ ended j e) where
  pub judged_right : (r : Reached) → x ≡ Ok r → (Ok r.values ≡ j) × (r.end ≡ e)
  unfolding ended
  judged_right r w = by j (sym h ∙ w)
    where
      by : (k : Judged) → ended k e ≡ Ok r → (Ok r.values ≡ k) × (r.end ≡ e)
      by (Ok us) z = let w : record { values = us; end = e } ≡ r = cc in (ap (λ (y : Reached). Ok y.values) (sym w), ap (λ (y : Reached). y.end) (sym w))
      by (Err c) z = absurd (let w : ◌≡◌ {A = ℕ} 0 1 = cc in omega arith)

  pub judged_wrong : (c : ℕ) → x ≡ Err c → Err c ≡ j
  unfolding ended
  judged_wrong c w = by j (sym h ∙ w)
    where
      by : (k : Judged) → ended k e ≡ Err c → Err c ≡ k
      by (Ok us) z = absurd (let w : ◌≡◌ {A = ℕ} 0 1 = cc in omega arith)
      by (Err d) z = let w : d ≡ c = cc in rw w
