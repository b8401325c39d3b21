-- The statements of specs/SubsetRead, from the theorems.
use Rattle.std.specs.Prelude.{Ok, Err}
use Prim.Native.Nat.{ℕ, zero, suc}
use mathlib.Core.Path.{◌≡◌, refl, sym, ap, ◌∙◌}
use mathlib.Core.Logic.{◌≢◌, ◌↔◌}
use mathlib.Core.Bool.{Bool, true, false}
use mathlib.Core.List.{List, [], ◌∷◌}
use mathlib.Core.Option.{some}
use native.Mathlib.Omega.{arith}
use lib.ListN.{length}
use lib.Dec.{eqb}
use borrow.Author.Tests.{eqb-true}
use Rattle.base.specs.Pick.{pick}
use Rattle.megaco.specs.Tree.{octets}
use Rattle.megaco.specs.Sdp.{stage_after, lines_of, sdp_finish, read_sdp}
use Rattle.megaco.specs.Items.{set_speech, speech_given, speech_item}
use Rattle.megaco.proofs.SdpSizes.{described_small}
use Rattle.protocol.specs.Types.{SdpStage, NoLine, AfterVersion, AfterConnection, AfterAudio, Broken, SdpText, EmptyText, Described, NotInSubset, Side, OfLocal, OfRemote, Speech, Released, Session, Values, Judged}
use Rattle.sdp_grammar.specs.Subset.{Subset}
use Rattle.sdp_grammar.specs.SubsetRead.{Outside, SubsetRead}
use Rattle.sdp_grammar.proofs.Theorems.{read_derives, complete, one_meaning}

-- ---- empty, and neither empty nor derived

no_bytes : (s : List ℕ) → length s ≡ 0 → s ≡ []
no_bytes [] e = refl
no_bytes (b ∷ s) e = absurd (omega arith)

finish_not_empty : (x : SdpStage) → sdp_finish x ≡ EmptyText → ⊥
finish_not_empty NoLine h = let z : ◌≡◌ {A = ℕ} 0 1 = cc in omega arith
finish_not_empty AfterVersion h = let z : ◌≡◌ {A = ℕ} 0 1 = cc in omega arith
finish_not_empty (AfterConnection a) h = let z : ◌≡◌ {A = ℕ} 0 1 = cc in omega arith
finish_not_empty (AfterAudio a p k) h = let z : ◌≡◌ {A = ℕ} 0 1 = cc in omega arith
finish_not_empty Broken h = let z : ◌≡◌ {A = ℕ} 0 1 = cc in omega arith

empty_none : (s : List ℕ) → read_sdp s ≡ EmptyText → s ≡ []
unfolding read_sdp pick
empty_none s h = by (eqb (length s) 0) refl h
  where
    by : (b : Bool) → eqb (length s) 0 ≡ b → pick b EmptyText (sdp_finish (stage_after NoLine (lines_of s))) ≡ EmptyText → s ≡ []
    by true e g = no_bytes s (eqb-true (length s) 0 e)
    by false e g = absurd (finish_not_empty (stage_after NoLine (lines_of s)) g)

none_empty : read_sdp [] ≡ EmptyText
unfolding read_sdp pick
none_empty = refl

is_empty : (s : List ℕ) → s ≡ [] → read_sdp s ≡ EmptyText
is_empty s e = rw e none_empty

empty_outside : (a p k : ℕ) → ¬ Subset [] a p k
empty_outside a p k d = let e : read_sdp [] ≡ Described a p k = complete d in let f = none_empty in let z : ◌≡◌ {A = ℕ} 0 1 = cc in omega arith

-- what a text is read as, in the grammar's words
data Says (s : List ℕ) : SdpText → Type 0 where
  nothing : s ≡ [] → Says s EmptyText
  derived : {a p k : ℕ} → Subset s a p k → Says s (Described a p k)
  neither : Outside s → Says s NotInSubset

says : (s : List ℕ) → Says s (read_sdp s)
says s = by (read_sdp s) refl
  where
    by : (x : SdpText) → read_sdp s ≡ x → Says s x
    by EmptyText e = nothing (empty_none s e)
    by (Described a p k) e = derived (read_derives s a p k e)
    by NotInSubset e =
        neither (
          (λ n. let f = is_empty s n in let z : ◌≡◌ {A = ℕ} 0 1 = cc in omega arith),
          (λ a p k d. let f : read_sdp s ≡ Described a p k = complete d in let z : ◌≡◌ {A = ℕ} 0 1 = cc in omega arith),
        )

outside_of : (s : List ℕ) → read_sdp s ≡ NotInSubset → Outside s
outside_of s e = by (rw e at (says s))
  where
    by : Says s NotInSubset → Outside s
    by (neither o) = o

is_outside_lem : (s : List ℕ) → Outside s → read_sdp s ≡ NotInSubset
is_outside_lem s o = by (read_sdp s) (says s)
  where
    by : (x : SdpText) → Says s x → x ≡ NotInSubset
    by EmptyText (nothing e) = absurd (o.0 e)
    by (Described a p k) (derived d) = absurd (o.1 a p k d)
    by NotInSubset (neither q) = refl

-- ---- what a Local or a Remote gives tells what its text was read as

-- what it sets for its side
abbrev side_in : Side → Values → Speech
side_in OfLocal vs = vs.local
side_in OfRemote vs = vs.remote

set_side : (d : Side) (x : Speech) (vs : Values) → side_in d (set_speech d x vs) ≡ x
unfolding set_speech
set_side OfLocal x vs = refl
set_side OfRemote x vs = refl

right_alike : (d : Side) (x y : Speech) (vs : Values) → ◌≡◌ {A = Judged} (Ok (set_speech d x vs)) (Ok (set_speech d y vs)) → x ≡ y
right_alike d x y vs h = let e : set_speech d x vs ≡ set_speech d y vs = cc in sym (set_side d x vs) ∙ ap (side_in d) e ∙ set_side d y vs

module _ (d : Side) (vs : Values) where
  gives_described : (r : SdpText) (a p k : ℕ) → speech_given d r vs ≡ Ok (set_speech d (Session a p k) vs) → r ≡ Described a p k
  unfolding speech_given
  gives_described EmptyText a p k h = let e = right_alike d Released (Session a p k) vs h in let z : ◌≡◌ {A = ℕ} 0 1 = cc in absurd (omega arith)
  gives_described (Described b q l) a p k h = let e = right_alike d (Session b q l) (Session a p k) vs h in cc
  gives_described NotInSubset a p k h = let z : ◌≡◌ {A = ℕ} 0 1 = cc in absurd (omega arith)

  releases_empty : (r : SdpText) → speech_given d r vs ≡ Ok (set_speech d Released vs) → r ≡ EmptyText
  unfolding speech_given
  releases_empty EmptyText h = refl
  releases_empty (Described b q l) h = let e = right_alike d (Session b q l) Released vs h in let z : ◌≡◌ {A = ℕ} 0 1 = cc in absurd (omega arith)
  releases_empty NotInSubset h = let z : ◌≡◌ {A = ℕ} 0 1 = cc in absurd (omega arith)

  refused_outside : (r : SdpText) → speech_given d r vs ≡ Err 449 → r ≡ NotInSubset
  unfolding speech_given
  refused_outside EmptyText h = let z : ◌≡◌ {A = ℕ} 0 1 = cc in absurd (omega arith)
  refused_outside (Described b q l) h = let z : ◌≡◌ {A = ℕ} 0 1 = cc in absurd (omega arith)
  refused_outside NotInSubset h = refl

pub subset_read : SubsetRead
unfolding speech_item speech_given
subset_read =
    record {
      described = λ s a p k. (read_derives s a p k, complete);
      one_meaning = λ s a b p q k l x y. one_meaning x y;
      in_range = λ s a p k x. described_small s a p k (complete x);
      empty = λ s. (empty_none s, is_empty s);
      empty_outside = empty_outside;
      outside = λ s. (outside_of s, is_outside_lem s);
      gives = λ d s vs a p k. (λ h. read_derives s a p k (gives_described d vs (read_sdp s) a p k h), λ x. rw (complete x));
      releases = λ d s vs. (λ h. empty_none s (releases_empty d vs (read_sdp s) h), λ e. rw (is_empty s e));
      refused = λ d s vs. (λ h. outside_of s (refused_outside d vs (read_sdp s) h), λ o. rw (is_outside_lem s o));
    }
