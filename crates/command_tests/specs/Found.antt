-- What a command's word tells.
use Rattle.std.specs.declared.option.Option.{Option}
use Rattle.protocol.specs.Types.{Op}

-- the command that it is, or none where it is not built
abbrev pub Found : Type 0
Found = Option Op
