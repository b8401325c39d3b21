-- The types that definitions, contracts and proofs share (crates/megaco/src/lib.rt) and their cases. A file of another crate names them from here; a facade
-- does not pass on what its own crate's file passes on, so this file stands in a crate of its own.
pub use Rattle.megaco.specs.Results.{Parsed, Number, number, Given, Judged, Checked}
pub use Rattle.megaco.specs.declared.Class.{Class}
pub use Rattle.megaco.specs.declared.Class.TheVariants.{WordByte, NameByte, SafeByte, QuotedByte, DomainByte}
pub use Rattle.megaco.specs.declared.Token.{Token}
pub use Rattle.megaco.specs.declared.Token.TheVariants.{AddToken, AuditToken, AuditValueToken, BothwayToken, CtxToken, EmergencyToken, ErrorToken, InactiveToken, IsolateToken, InSvcToken, LocalToken, LocalControlToken, LoopbackToken, MediaToken, MegacopToken, ModeToken, ModifyToken, MoveToken, OnewayToken, OutOfSvcToken, PriorityToken, RecvonlyToken, RemoteToken, ReplyToken, SendonlyToken, SendrecvToken, ServiceStatesToken, SubtractToken, TerminationStateToken, TestToken, TopologyToken, TransToken, ResponseAckToken}
pub use Rattle.megaco.specs.declared.Context.{Context}
pub use Rattle.megaco.specs.declared.Context.TheVariants.{Null, Numbered, Choose, All}
pub use Rattle.megaco.specs.declared.Property.{Property}
pub use Rattle.megaco.specs.declared.Property.TheVariants.{Priority, Emergency, Topology}
pub use Rattle.megaco.specs.declared.Direction.{Direction}
pub use Rattle.megaco.specs.declared.Direction.TheVariants.{Isolate, Oneway, Bothway}
pub use Rattle.megaco.specs.declared.Party.{Party}
pub use Rattle.megaco.specs.declared.Party.TheVariants.{Unfit, Absent, Outside, Member}
pub use Rattle.megaco.specs.declared.Op.{Op}
pub use Rattle.megaco.specs.declared.Op.TheVariants.{Add, Modify, Subtract, Move, AuditValue}
pub use Rattle.megaco.specs.declared.Range.{Range}
pub use Rattle.megaco.specs.declared.Range.TheVariants.{Everyone, EveryLine, EveryEphemeral, ChannelsOf}
pub use Rattle.megaco.specs.declared.Name.{Name}
pub use Rattle.megaco.specs.declared.Name.TheVariants.{Termination, Root, Chosen, Unchosen, Wildcard, Unmatched, Unknown}
pub use Rattle.megaco.specs.declared.Speech.{Speech}
pub use Rattle.megaco.specs.declared.Speech.TheVariants.{Kept, Released, Session}
pub use Rattle.megaco.specs.declared.Values.{Values}
pub use Rattle.megaco.specs.declared.Kind.{Kind}
pub use Rattle.megaco.specs.declared.Kind.TheVariants.{InControl, InState}
pub use Rattle.megaco.specs.declared.Ack.{Ack}
pub use Rattle.megaco.specs.declared.Descriptors.{Descriptors}
pub use Rattle.megaco.specs.declared.Side.{Side}
pub use Rattle.megaco.specs.declared.Side.TheVariants.{OfLocal, OfRemote}
pub use Rattle.megaco.specs.declared.SdpLine.{SdpLine}
pub use Rattle.megaco.specs.declared.SdpLine.TheVariants.{Skipped, Version, Connection, Audio, Strange}
pub use Rattle.megaco.specs.declared.SdpStage.{SdpStage}
pub use Rattle.megaco.specs.declared.SdpStage.TheVariants.{NoLine, AfterVersion, AfterConnection, AfterAudio, Broken}
pub use Rattle.megaco.specs.declared.SdpText.{SdpText}
pub use Rattle.megaco.specs.declared.SdpText.TheVariants.{EmptyText, Described, NotInSubset}
pub use Rattle.megaco.specs.declared.Seen.{Seen}
pub use Rattle.megaco.specs.declared.View.{View}
