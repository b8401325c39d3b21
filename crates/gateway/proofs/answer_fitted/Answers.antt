use Rattle.std.proofs.Common.{arith}
use Rattle.megaco.specs.State.{state}
use Rattle.megaco.specs.Room.{room}
use Rattle.gateway.proofs.CallLaws.{sound_by, room_by, own_by, is_taken}
use Rattle.gateway.proofs.answer_fitted.Goals as goal

pub serve-requires : goal.serve-requires
serve-requires c = (sound_by _ _ _ _ c.state_fits.ensures c.if-not-state_fits.false, room_by _ _ _ c.is_sound.ensures c.if-not-is_sound.false, own_by _ _ c.is_mid.ensures c.if-not-is_mid.false, omega arith)

pub returns : goal.returns
returns c =
    is_taken c.args.lines c.args.message.now c.args.table.now c.args.blocks.now c.args.words.now c.args.bytes.now c.args.own.now c.args.reply.now c.requires (omega arith)
    c.state_fits.result c.state_fits.ensures c.if-not-state_fits.false c.is_sound.result c.is_sound.ensures c.if-not-is_sound.false c.is_mid.result c.is_mid.ensures c.if-not-is_mid.false
    (rw (← c.is_empty.ensures) c.if-is_empty-message.false) (state c.serve.new.table c.serve.new.blocks) (room c.serve.new.words c.serve.new.bytes) c.serve.new.reply c.serve.result c.serve.ensures
