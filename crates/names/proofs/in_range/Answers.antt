use Rattle.megaco.specs.Names.{in_range}
use Rattle.names.proofs.in_range.Goals as goal

pub returns-in-Everyone : goal.returns-in-Everyone
returns-in-Everyone c = unfold in_range in rw c.in-Everyone.is

pub returns-in-EveryLine : goal.returns-in-EveryLine
returns-in-EveryLine c = unfold in_range in rw (c.in-EveryLine.is, c.is_ephemeral.ensures)

pub returns-in-EveryEphemeral : goal.returns-in-EveryEphemeral
returns-in-EveryEphemeral c = unfold in_range in rw (c.in-EveryEphemeral.is, c.is_ephemeral-in-EveryEphemeral.ensures)

pub returns-in-ChannelsOf : goal.returns-in-ChannelsOf
returns-in-ChannelsOf c = unfold in_range in rw (c.in-ChannelsOf.is, c.is_ephemeral-in-ChannelsOf.ensures)
