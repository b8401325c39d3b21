-- How large the numbers are that a text of SDP gives.
use Rattle.std.specs.Prelude.{Some, None}
use Prim.Native.Nat.{ℕ, ◌+◌, ◌*◌, ◌-◌, ◌^◌, ◌<◌, ◌≤◌}
use mathlib.Core.Path.{◌≡◌, refl, sym, ◌∙◌}
use mathlib.Core.Bool.{Bool, true, false}
use mathlib.Core.List.{List, [], ◌∷◌}
use native.Mathlib.Omega.{arith}
use lib.ListN.{length, drop}
use lib.Dec.{eqb, ltb, leb}
use borrow.Author.Tests.{ltb-false}
use Rattle.base.specs.Pick.{pick}
use Rattle.base.specs.Bytes.{text}
use Rattle.base.specs.Lists.{is_at, same}
use Rattle.megaco.specs.Bytes.{is_digit}
use Rattle.megaco.specs.Tokens.{number_at, number_from, number_end}
use Rattle.megaco.specs.Sdp.{lines_of, given_at, plus, joined, dotted_part_at, dotted_pair_at, dotted_at, ending, connection_of, payload_of, audio_of, is_skipped, sdp_line_of, sdp_step, stage_after, sdp_finish, read_sdp}
use Rattle.megaco.specs.Results.{Number, number}
use Rattle.megaco.proofs.NumberParts.{same_value, same_next}
use Rattle.megaco.specs.declared.SdpLine.{SdpLine}
use Rattle.megaco.specs.declared.SdpLine.TheVariants.{Skipped, Version, Connection, Audio, Strange}
use Rattle.megaco.specs.declared.SdpStage.{SdpStage}
use Rattle.megaco.specs.declared.SdpStage.TheVariants.{NoLine, AfterVersion, AfterConnection, AfterAudio, Broken}
use Rattle.megaco.specs.declared.SdpText.{SdpText}
use Rattle.megaco.specs.declared.SdpText.TheVariants.{EmptyText, Described, NotInSubset}

-- a number that was read is at most its limit
abbrev pub Small : ℕ → Number → Type 0
Small n r = (v p : ℕ) → r ≡ number v p → v ≤ n

bad_small : (n : ℕ) → Small n None
bad_small n v p e = let z : ◌≡◌ {A = ℕ} 0 1 = cc in absurd (omega arith)

got_small : (n w q : ℕ) → w ≤ n → Small n (number w q)
got_small n w q h v p e = let z : w ≡ v = same_value e in omega arith

pick_small : (n : ℕ) (t : Bool) (x y : Number) → (t ≡ true → Small n x) → (t ≡ false → Small n y) → Small n (pick t x y)
unfolding pick
pick_small n true x y h k = h refl
pick_small n false x y h k = k refl

number_small : (at most limit : ℕ) (t : List ℕ) (n v : ℕ) → v ≤ limit → Small limit (number_from at most limit t n v)
unfolding number_from number_end
number_small at most limit [] n v h = pick_small limit (ltb at n) _ _ (λ _. got_small limit v n h) (λ _. bad_small limit)
number_small at most limit (b ∷ t) n v h =
    let w : ℕ = v * 10 + (b - 48) in
    pick_small limit (is_digit b) _ _
    (λ _. pick_small limit (leb most (n - at)) _ _ (λ _. bad_small limit)
    (λ _. pick_small limit (ltb limit w) _ _ (λ _. bad_small limit) (λ k. number_small at most limit t (n + 1) w (ltb-false limit w k))))
    (λ _. pick_small limit (ltb at n) _ _ (λ _. got_small limit v n h) (λ _. bad_small limit))

pub part_least : (s : List ℕ) (at : ℕ) → Small 255 (dotted_part_at s at)
unfolding dotted_part_at number_at
part_least s at = number_small at 3 255 (drop at s) at 0 (omega arith)

plus_small : (n m a : ℕ) (r : Number) → Small n r → a + n ≤ m → Small m (plus a r)
unfolding plus
plus_small n m a (Some (w, e)) h l = got_small m (a + w) e (let k : w ≤ n = h w e refl in omega arith)
plus_small n m a None h l = bad_small m

joined_small : (k n m : ℕ) (x : Number) (form s : List ℕ) (f : ℕ → Number) → Small n x → ((p : ℕ) → Small n (f p)) → ((v : ℕ) → v ≤ n → v * k + n ≤ m) → Small m (joined k x form s f)
unfolding joined
joined_small k n m (Some (v, p)) form s f h g l =
    pick_small m (given_at form s p) _ _ (λ _. plus_small n m (v * k) (f (p + length form)) (g (p + length form)) (l v (h v p refl))) (λ _. bad_small m)
joined_small k n m None form s f h g l = bad_small m

pub pair_least : (s : List ℕ) (at : ℕ) → Small 65535 (dotted_pair_at s at)
unfolding dotted_pair_at
pair_least s at = joined_small 256 255 65535 (dotted_part_at s at) _ s (dotted_part_at s) (part_least s at) (part_least s) (λ v h. omega arith)

number_least : (s : List ℕ) (at most limit : ℕ) → Small limit (number_at s at most limit)
unfolding number_at
number_least s at most limit = number_small at most limit (drop at s) at 0 (omega arith)

pub address_least : (s : List ℕ) (at : ℕ) → Small 4294967295 (dotted_at s at)
unfolding dotted_at
address_least s at = joined_small 65536 65535 4294967295 (dotted_pair_at s at) _ s (dotted_pair_at s) (pair_least s at) (pair_least s) (λ v h. omega arith)

-- ---- lines

-- an address below 2^32, a port up to 65535, a payload type up to 127
abbrev LineSmall : SdpLine → Type 0
LineSmall Skipped = Unit {0}
LineSmall Version = Unit {0}
LineSmall (Connection a) = a ≤ 4294967295
LineSmall (Audio p k) = (p ≤ 65535) × (k ≤ 127)
LineSmall Strange = Unit {0}

pick_line : (t : Bool) (x y : SdpLine) → LineSmall x → LineSmall y → LineSmall (pick t x y)
unfolding pick
pick_line true x y h k = h
pick_line false x y h k = k

connection_ends : (x : Number) (n : ℕ) → Small 4294967295 x → LineSmall (ending x n Connection)
unfolding ending
connection_ends (Some (v, e)) n h = pick_line (leb n e) (Connection v) Strange (h v e refl) tt
connection_ends None n h = tt

audio_ends : (p : ℕ) (x : Number) (n : ℕ) → p ≤ 65535 → Small 127 x → LineSmall (ending x n (Audio p))
unfolding ending
audio_ends p (Some (v, e)) n k h = pick_line (leb n e) (Audio p v) Strange (k, h v e refl) tt
audio_ends p None n k h = tt

payload_line : (l : List ℕ) (x : Number) → Small 65535 x → LineSmall (payload_of l x)
unfolding payload_of
payload_line l (Some (p, q)) h = pick_line (given_at (text " RTP/AVP ") l q) _ Strange (audio_ends p (number_at l (q + 9) 3 127) (length l) (h p q refl) (number_least l (q + 9) 3 127)) tt
payload_line l None h = tt

line_small : (l : List ℕ) → LineSmall (sdp_line_of l)
unfolding sdp_line_of connection_of audio_of
line_small l =
    pick_line (is_skipped l) Skipped _ tt
    (pick_line (same l (text "v=0")) Version _ tt
    (pick_line (is_at l 0 0x63) _ _
    (pick_line (given_at (text "c=IN IP4 ") l 0) _ Strange (connection_ends (dotted_at l 9) (length l) (address_least l 9)) tt)
    (pick_line (given_at (text "m=audio ") l 0) _ Strange (payload_line l (number_at l 8 5 65535) (number_least l 8 5 65535)) tt)))

-- ---- the text

abbrev StageSmall : SdpStage → Type 0
StageSmall NoLine = Unit {0}
StageSmall AfterVersion = Unit {0}
StageSmall (AfterConnection a) = a ≤ 4294967295
StageSmall (AfterAudio a p k) = (a ≤ 4294967295) × (p ≤ 65535) × (k ≤ 127)
StageSmall Broken = Unit {0}

step_small : (x : SdpStage) (l : SdpLine) → StageSmall x → LineSmall l → StageSmall (sdp_step x l)
step_small NoLine Skipped h k = tt
step_small NoLine Version h k = tt
step_small NoLine (Connection a) h k = tt
step_small NoLine (Audio p q) h k = tt
step_small NoLine Strange h k = tt
step_small AfterVersion Skipped h k = tt
step_small AfterVersion Version h k = tt
step_small AfterVersion (Connection a) h k = k
step_small AfterVersion (Audio p q) h k = tt
step_small AfterVersion Strange h k = tt
step_small (AfterConnection b) Skipped h k = h
step_small (AfterConnection b) Version h k = tt
step_small (AfterConnection b) (Connection a) h k = tt
step_small (AfterConnection b) (Audio p q) h k = (h, k.0, k.1)
step_small (AfterConnection b) Strange h k = tt
step_small (AfterAudio b r u) Skipped h k = h
step_small (AfterAudio b r u) Version h k = tt
step_small (AfterAudio b r u) (Connection a) h k = tt
step_small (AfterAudio b r u) (Audio p q) h k = tt
step_small (AfterAudio b r u) Strange h k = tt
step_small Broken Skipped h k = tt
step_small Broken Version h k = tt
step_small Broken (Connection a) h k = tt
step_small Broken (Audio p q) h k = tt
step_small Broken Strange h k = tt

stage_small : (x : SdpStage) (ls : List (List ℕ)) → StageSmall x → StageSmall (stage_after x ls)
unfolding stage_after
stage_small x [] h = h
stage_small x (l ∷ ls) h = stage_small (sdp_step x (sdp_line_of l)) ls (step_small x (sdp_line_of l) h (line_small l))

abbrev pub TextSmall : SdpText → Type 0
TextSmall EmptyText = Unit {0}
TextSmall (Described a p k) = (a < 2 ^ 32) × (p ≤ 65535) × (k ≤ 127)
TextSmall NotInSubset = Unit {0}

finish_small : (x : SdpStage) → StageSmall x → TextSmall (sdp_finish x)
finish_small NoLine h = tt
finish_small AfterVersion h = tt
finish_small (AfterConnection a) h = tt
finish_small (AfterAudio a p k) h = (omega (arith, h.0), h.1, h.2)
finish_small Broken h = tt

pub text_small : (t : List ℕ) → TextSmall (read_sdp t)
unfolding read_sdp pick
text_small t = by (eqb (length t) 0)
  where
    by : (b : Bool) → TextSmall (pick b EmptyText (sdp_finish (stage_after NoLine (lines_of t))))
    by true = tt
    by false = finish_small (stage_after NoLine (lines_of t)) (stage_small NoLine (lines_of t) tt)

pub described_small : (t : List ℕ) (a p k : ℕ) → read_sdp t ≡ Described a p k → (a < 2 ^ 32) × (p ≤ 65535) × (k ≤ 127)
described_small t a p k e = rw e at (text_small t)
