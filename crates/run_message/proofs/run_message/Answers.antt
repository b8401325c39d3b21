use Rattle.std.proofs.Common.{◌≡◌, ◌∙◌, ap, Ok, Err}
use Rattle.read_command.specs.declared.Fault.TheVariants.{Fault400, Fault403, WrongVersion406}
use Rattle.run_message.proofs.ServeLaws.{reads_well, reads_400, reads_403, reads_406}
use Rattle.run_message.proofs.run_message.Goals as goal

pub returns-in-Ok : goal.returns-in-Ok
returns-in-Ok c =
    let f : c.verdict.result ≡ Ok tt = c.in-Ok.is in
    search reads_well

pub returns-in-Err-Fault400 : goal.returns-in-Err-Fault400
returns-in-Err-Fault400 c =
    let f : c.verdict.result ≡ Err Fault400 = c.in-Err-Fault400.is ∙ ap Err c.in-Err-Fault400.field-0-is in
    search reads_400

pub returns-in-Err-Fault403 : goal.returns-in-Err-Fault403
returns-in-Err-Fault403 c =
    let f : c.verdict.result ≡ Err (Fault403 c.in-Err-Fault403.id) = c.in-Err-Fault403.is ∙ ap Err c.in-Err-Fault403.field-0-is in
    search reads_403

pub returns-in-Err-WrongVersion406 : goal.returns-in-Err-WrongVersion406
returns-in-Err-WrongVersion406 c =
    let f : c.verdict.result ≡ Err WrongVersion406 = c.in-Err-WrongVersion406.is ∙ ap Err c.in-Err-WrongVersion406.field-0-is in
    search reads_406
