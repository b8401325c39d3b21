-- The lines of a text, one after another: what is asked for stands once and in order.
use Prim.Native.Nat.{ℕ, suc}
use mathlib.Core.Path.{◌≡◌, refl, sym, ap, ◌∙◌}
use mathlib.Core.Bool.{Bool, true, false}
use mathlib.Core.List.{List, [], ◌∷◌, ◌++◌}
use native.Mathlib.Omega.{arith}
use Rattle.base.specs.Pick.{pick}
use Rattle.megaco.specs.Bytes.{is_line_end}
use Rattle.megaco.specs.Sdp.{sdp_line_of, sdp_step, stage_after, on_first, lines_of}
use Rattle.sdp_grammar.specs.Subset.{asked}
use Rattle.protocol.specs.Types.{SdpLine, Skipped, Version, Connection, Audio, Strange, SdpStage, NoLine, AfterVersion, AfterConnection, AfterAudio, Broken}

-- the lines' kinds, and what has been seen behind them
unfoldable pub kinds : List (List ℕ) → List SdpLine
kinds [] = []
kinds (l ∷ ls) = sdp_line_of l ∷ kinds ls

unfoldable pub walk : SdpStage → List SdpLine → SdpStage
walk x [] = x
walk x (z ∷ zs) = walk (sdp_step x z) zs

pub seen_walk : (x : SdpStage) (ls : List (List ℕ)) → stage_after x ls ≡ walk x (kinds ls)
unfolding stage_after walk kinds
seen_walk x [] = refl
seen_walk x (l ∷ ls) = seen_walk (sdp_step x (sdp_line_of l)) ls

pub skip_step : (x : SdpStage) → sdp_step x Skipped ≡ x
skip_step NoLine = refl
skip_step AfterVersion = refl
skip_step (AfterConnection a) = refl
skip_step (AfterAudio a p k) = refl
skip_step Broken = refl

pub other_step : (x : SdpStage) → sdp_step x Strange ≡ Broken
other_step NoLine = refl
other_step AfterVersion = refl
other_step (AfterConnection a) = refl
other_step (AfterAudio a p k) = refl
other_step Broken = refl

broken_step : (z : SdpLine) → sdp_step Broken z ≡ Broken
broken_step Skipped = refl
broken_step Version = refl
broken_step (Connection a) = refl
broken_step (Audio p k) = refl
broken_step Strange = refl

broken_walk : (zs : List SdpLine) → walk Broken zs ≡ Broken
unfolding walk
broken_walk [] = refl
broken_walk (z ∷ zs) = rw (broken_step z) (broken_walk zs)

pub walk_asked : (x : SdpStage) (zs : List SdpLine) → walk x zs ≡ walk x (asked zs)
unfolding walk asked
walk_asked x [] = refl
walk_asked x (Skipped ∷ zs) = rw (skip_step x) (walk_asked x zs)
walk_asked x (Version ∷ zs) = walk_asked (sdp_step x Version) zs
walk_asked x (Connection a ∷ zs) = walk_asked (sdp_step x (Connection a)) zs
walk_asked x (Audio p k ∷ zs) = walk_asked (sdp_step x (Audio p k)) zs
walk_asked x (Strange ∷ zs) = walk_asked (sdp_step x Strange) zs

module _ (a p k : ℕ) where
  pub broken_not : (zs : List SdpLine) → walk Broken zs ≡ AfterAudio a p k → ⊥
  broken_not zs h = let b : walk Broken zs ≡ Broken = broken_walk zs in let z : ◌≡◌ {A = ℕ} 0 1 = cc in omega arith

  after_media : (b q l : ℕ) (zs : List SdpLine) → walk (AfterAudio b q l) zs ≡ AfterAudio a p k → (asked zs ≡ []) × (b ≡ a) × (q ≡ p) × (l ≡ k)
  unfolding walk asked
  after_media b q l [] h = (refl, (cc), (cc), (cc))
  after_media b q l (Skipped ∷ zs) h = after_media b q l zs h
  after_media b q l (Version ∷ zs) h = absurd (broken_not zs h)
  after_media b q l (Connection c ∷ zs) h = absurd (broken_not zs h)
  after_media b q l (Audio c d ∷ zs) h = absurd (broken_not zs h)
  after_media b q l (Strange ∷ zs) h = absurd (broken_not zs h)

  after_address : (b : ℕ) (zs : List SdpLine) → walk (AfterConnection b) zs ≡ AfterAudio a p k → (asked zs ≡ (Audio p k ∷ [])) × (b ≡ a)
  unfolding walk asked
  after_address b [] h = let z : ◌≡◌ {A = ℕ} 0 1 = cc in absurd (omega arith)
  after_address b (Skipped ∷ zs) h = after_address b zs h
  after_address b (Version ∷ zs) h = absurd (broken_not zs h)
  after_address b (Connection c ∷ zs) h = absurd (broken_not zs h)
  after_address b (Audio c d ∷ zs) h = let r = after_media b c d zs h in (rw (r.0, r.2, r.3), r.1)
  after_address b (Strange ∷ zs) h = absurd (broken_not zs h)

  after_version : (zs : List SdpLine) → walk AfterVersion zs ≡ AfterAudio a p k → asked zs ≡ (Connection a ∷ Audio p k ∷ [])
  unfolding walk asked
  after_version [] h = let z : ◌≡◌ {A = ℕ} 0 1 = cc in absurd (omega arith)
  after_version (Skipped ∷ zs) h = after_version zs h
  after_version (Version ∷ zs) h = absurd (broken_not zs h)
  after_version (Connection c ∷ zs) h = let r = after_address c zs h in rw (r.0, r.1)
  after_version (Audio c d ∷ zs) h = absurd (broken_not zs h)
  after_version (Strange ∷ zs) h = absurd (broken_not zs h)

  pub walk_session : (zs : List SdpLine) → walk NoLine zs ≡ AfterAudio a p k → asked zs ≡ (Version ∷ Connection a ∷ Audio p k ∷ [])
  unfolding walk asked
  walk_session [] h = let z : ◌≡◌ {A = ℕ} 0 1 = cc in absurd (omega arith)
  walk_session (Skipped ∷ zs) h = walk_session zs h
  walk_session (Version ∷ zs) h = rw (after_version zs h)
  walk_session (Connection c ∷ zs) h = absurd (broken_not zs h)
  walk_session (Audio c d ∷ zs) h = absurd (broken_not zs h)
  walk_session (Strange ∷ zs) h = absurd (broken_not zs h)

  pub session_walk : (zs : List SdpLine) → asked zs ≡ (Version ∷ Connection a ∷ Audio p k ∷ []) → walk NoLine zs ≡ AfterAudio a p k
  session_walk zs h = walk_asked NoLine zs ∙ rw h (unfold walk in refl)
