use Rattle.std.proofs.Common.{sym, ◌∙◌}
use Rattle.wdt_writer.proofs.InTheWay.{known_number_of, size_new}
use Rattle.wdt_writer.proofs.faults.size_fault.Goals as goal

pub returns-in_err-number : goal.returns-in_err-number
returns-in_err-number c = c.from_residual.ensures ∙ size_new c.args.files.now.known c.args.header.now (sym c.requires ∙ c.in_err-number.was)

pub file-size-requires : goal.file-size-requires
file-size-requires c = known_number_of c.args.files.now.known c.args.header.now.path c.in_ok-number.field-0 (sym c.requires ∙ c.in_ok-number.was)
