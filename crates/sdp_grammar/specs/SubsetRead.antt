-- What reading a text of Local or Remote has to do with the subset's grammar (document 02, CR 11: "Take our SDP subset"). Proved in
-- proofs/Statements.antt: `subset_read`.
use Rattle.std.specs.Prelude.{ℕ, ◌^◌, ◌≤◌, ◌<◌, ◌≡◌, ◌≢◌, ◌↔◌, List, [], Ok, Err}
use Rattle.std.proofs.Math.Option.{some}
use Rattle.megaco.specs.Tree.{octets}
use Rattle.megaco.specs.Sdp.{read_sdp}
use Rattle.megaco.specs.Items.{set_speech, speech_item}
use Rattle.protocol.specs.Types.{EmptyText, Described, NotInSubset, Side, Released, Session, Values}
use Rattle.sdp_grammar.specs.Subset.{Subset}

-- a text that is not empty and that the grammar derives with no address, port and type
abbrev pub Outside : List ℕ → Type 0
Outside s = (s ≢ []) × ((a p k : ℕ) → ¬ Subset s a p k)

pub record SubsetRead : Type 0 where
  -- a text is read as an address, a port and a type exactly where the grammar derives it with them
  pub described : (s : List ℕ) (a p k : ℕ) → read_sdp s ≡ Described a p k ↔ Subset s a p k
  -- no text is derived with two
  pub one_meaning : (s : List ℕ) (a b p q k l : ℕ) → Subset s a p k → Subset s b q l → (a ≡ b) × (p ≡ q) × (k ≡ l)
  -- "first number highest", four of at most 255; "port 0..65535", "payload type 0..127"
  pub in_range : (s : List ℕ) (a p k : ℕ) → Subset s a p k → (a < 2 ^ 32) × (p ≤ 65535) × (k ≤ 127)
  -- a text is read as empty exactly where it has no byte; the grammar does not derive it
  pub empty : (s : List ℕ) → read_sdp s ≡ EmptyText ↔ s ≡ []
  pub empty_outside : (a p k : ℕ) → ¬ Subset [] a p k
  -- every other text is read as outside
  pub outside : (s : List ℕ) → read_sdp s ≡ NotInSubset ↔ Outside s
  -- so of the text of a Local or a Remote: it gives what the grammar derives; "empty text releases it"; "449 for text outside the subset"
  pub gives : (d : Side) (s : List ℕ) (vs : Values) (a p k : ℕ) → speech_item d (some (octets s)) vs ≡ Ok (set_speech d (Session a p k) vs) ↔ Subset s a p k
  pub releases : (d : Side) (s : List ℕ) (vs : Values) → speech_item d (some (octets s)) vs ≡ Ok (set_speech d Released vs) ↔ s ≡ []
  pub refused : (d : Side) (s : List ℕ) (vs : Values) → speech_item d (some (octets s)) vs ≡ Err 449 ↔ Outside s
