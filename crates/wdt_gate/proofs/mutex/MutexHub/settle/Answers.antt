use Rattle.std.proofs.Common.{sym, ap, ◌∙◌, length}
use Rattle.std.proofs.lemmas.List.{length-map}
use Rattle.wdt_gate.proofs.lemmas.Numbers.{upto_length}
use Rattle.wdt_gate.proofs.mutex.MutexHub.settle.Goals as goal

pub settle-requires : goal.settle-requires
settle-requires g c = sym (length-map c.args.passes.items _) ∙ (ap length c.requires ∙ upto_length 0 g.L.Ledger.parts)
