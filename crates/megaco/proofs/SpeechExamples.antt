-- Local and Remote on a few texts, computed: the readings of document 02, CR 11.
use Rattle.std.specs.Prelude.{Some, None, Ok, Err}
use Prim.Native.Nat.{ℕ}
use mathlib.Core.Path.{◌≡◌, refl}
use mathlib.Core.Bool.{false}
use mathlib.Core.List.{List}
use Rattle.base.specs.Bytes.{text}
use Rattle.megaco.specs.Tree.{Command, command}
use Rattle.megaco.specs.Reading.{Read, got, fault, command_r}
use Rattle.megaco.specs.Items.{judge_items}
use Rattle.megaco.specs.Sdp.{read_sdp}
use Rattle.megaco.specs.declared.Op.{Op}
use Rattle.megaco.specs.declared.Op.TheVariants.{Add, Modify, Subtract, AuditValue}
use Rattle.megaco.specs.Results.{Judged}
use Rattle.megaco.specs.declared.Speech.{Speech}
use Rattle.megaco.specs.declared.Speech.TheVariants.{Kept, Released, Session}
use Rattle.megaco.specs.declared.Values.{Values}
use Rattle.megaco.specs.declared.SdpText.{SdpText}
use Rattle.megaco.specs.declared.SdpText.TheVariants.{EmptyText, Described, NotInSubset}
use Rattle.megaco.proofs.Opened.{opened}

-- ---- our subset

pub record Texts : Type 0 where
  pub plain : read_sdp (text "v=0\r\nc=IN IP4 10.0.0.1\r\nm=audio 5000 RTP/AVP 8\r\n") ≡ Described 167772161 5000 8
  pub bounds : read_sdp (text "v=0\rc=IN IP4 255.255.255.255\rm=audio 65535 RTP/AVP 127") ≡ Described 4294967295 65535 127
  pub zeros : read_sdp (text "v=0\nc=IN IP4 0.00.000.0\nm=audio 00000 RTP/AVP 000") ≡ Described 0 0 0
  pub skipped : read_sdp (text "\nV=1\nv=0\no=- 1\n \t\nc=IN IP4 1.2.3.4\ns=\\}\nm=audio 1 RTP/AVP 0\nM=\n") ≡ Described 16909060 1 0
  pub empty : read_sdp (text "") ≡ EmptyText
  pub skipped_only : read_sdp (text "s=x\n") ≡ NotInSubset
  pub trailing_space : read_sdp (text "v=0\nc=IN IP4 1.2.3.4\nm=audio 1 RTP/AVP 0 ") ≡ NotInSubset
  pub two_types : read_sdp (text "v=0\nc=IN IP4 1.2.3.4\nm=audio 1 RTP/AVP 0 8") ≡ NotInSubset
  pub port65536 : read_sdp (text "v=0\nc=IN IP4 1.2.3.4\nm=audio 65536 RTP/AVP 0") ≡ NotInSubset
  pub type128 : read_sdp (text "v=0\nc=IN IP4 1.2.3.4\nm=audio 1 RTP/AVP 128") ≡ NotInSubset
  pub number256 : read_sdp (text "v=0\nc=IN IP4 1.2.3.256\nm=audio 1 RTP/AVP 0") ≡ NotInSubset
  pub other_order : read_sdp (text "v=0\nm=audio 1 RTP/AVP 0\nc=IN IP4 1.2.3.4\n") ≡ NotInSubset
  pub twice : read_sdp (text "v=0\nv=0\nc=IN IP4 1.2.3.4\nm=audio 1 RTP/AVP 0\n") ≡ NotInSubset
  pub small_letters : read_sdp (text "v=0\nc=in IP4 1.2.3.4\nm=audio 1 RTP/AVP 0\n") ≡ NotInSubset

pub texts : Texts
unfolding opened
texts =
    record {
      plain = refl;
      bounds = refl;
      zeros = refl;
      skipped = refl;
      empty = refl;
      skipped_only = refl;
      trailing_space = refl;
      two_types = refl;
      port65536 = refl;
      type128 = refl;
      number256 = refl;
      other_order = refl;
      twice = refl;
      small_letters = refl;
    }

-- ---- in a command

-- what the items of a command ask, or 403 where it does not read
unfoldable pub asked : Op → List ℕ → Judged
asked op s = by (command_r s 0)
  where
    by : Read Command → Judged
    by (got (command optional wild word name is) e) = judge_items op is
    by fault = Err 403

abbrev speech : Speech → Speech → Judged
speech l r = Ok (record { mode = None; state = None; audited = false; local = l; remote = r })

pub record Asked : Type 0 where
  pub both : asked Modify (text "MF=R/1{M{L{v=0\nc=IN IP4 1.2.3.4\nm=audio 9 RTP/AVP 0\n},Remote {}}}") ≡ speech (Session 16909060 9 0) Released
  -- white space behind the brace is not the text's, at its end it is
  pub blank : asked Add (text "A=$ { media { local { ;c\n } } }") ≡ speech Released Kept
  pub behind : asked Add (text "A=${M{L{v=0\nc=IN IP4 1.2.3.4\nm=audio 9 RTP/AVP 0 }}}") ≡ Err 449
  -- a brace behind a backslash does not end it, and braces in it do not count
  pub escaped : asked Add (text "A=${M{R{s=\\}{\nv=0\nc=IN IP4 1.2.3.4\nm=audio 9 RTP/AVP 0}}}") ≡ speech Kept (Session 16909060 9 0)
  pub unended : asked Add (text "A=${M{R{v=0\\}}}") ≡ Err 403
  pub comment : asked Add (text "A=${M{L{;c}}}") ≡ Err 403
  -- with a value, with a second word, without braces
  pub valued : asked Add (text "A=${M{L=5{x}}}") ≡ Err 442
  pub valued_empty : asked Add (text "A=${M{L=5{}}}") ≡ Err 403
  pub bare : asked Add (text "A=${M{R}}") ≡ Err 442
  pub named : asked Add (text "A=${M{L/x{y}}}") ≡ Err 444
  -- elsewhere they are items like any other
  pub top : asked Add (text "A=${L{}}") ≡ Err 403
  pub top_item : asked Add (text "A=${L{x}}") ≡ Err 444
  pub audited : asked AuditValue (text "AV=R/1{AT{M{L{}}}}") ≡ Err 403
  pub other_media : asked Add (text "A=${M/x{L{}}}") ≡ Err 403
  -- in reading order: unknown, repeated, shape, text
  pub repeated : asked Add (text "A=${M{L{},local=5}}") ≡ Err 448
  pub text_first : asked Add (text "A=${M{L{x},y}}") ≡ Err 449
  pub on_subtract : asked Subtract (text "S=R/1{M{L{\\}x}}}") ≡ Err 447
  pub on_audit : asked AuditValue (text "AV=R/1{M{L{\\}x}}}") ≡ Err 447
  -- beside the others
  pub with_mode : asked Modify (text "MF=R/1{M{R{},O{MO=SR}}}") ≡ Ok (record { mode = Some 3; state = None; audited = false; local = Kept; remote = Released })

pub asked_hold : Asked
unfolding opened asked
asked_hold =
    record {
      both = refl;
      blank = refl;
      behind = refl;
      escaped = refl;
      unended = refl;
      comment = refl;
      valued = refl;
      valued_empty = refl;
      bare = refl;
      named = refl;
      top = refl;
      top_item = refl;
      audited = refl;
      other_media = refl;
      repeated = refl;
      text_first = refl;
      on_subtract = refl;
      on_audit = refl;
      with_mode = refl;
    }
