use Rattle.std.proofs.Common.{refl, arith}
use Rattle.wdt_units.proofs.Shared.{lawful-is}
use Rattle.wdt_good.specs.Good.{log_path}
use Rattle.wdt_tool.proofs.stored.stored_bytes.Goals as goal

pub of_lawful-requires : goal.of_lawful-requires
of_lawful-requires g c = lawful-is log_path (omega arith) (omega arith) ((refl, omega arith), ((refl, omega arith), ((refl, omega arith), ((refl, omega arith), ((refl, omega arith), tt)))))
