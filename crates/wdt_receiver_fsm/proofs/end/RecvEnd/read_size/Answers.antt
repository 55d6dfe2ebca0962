use Rattle.std.proofs.Common.{ℕ, Option, sym, ap, ◌∙◌}
use Rattle.wdt_receiver_fsm.specs.Frames.{size_fault}
use Rattle.wdt_receiver_fsm.specs.Turn.{sizes_with}
use Rattle.wdt_receiver_fsm.specs.End.{plain_with}
use Rattle.wdt_receiver_fsm.proofs.Results.{if_ok}
use Rattle.wdt_receiver_fsm.proofs.end.RecvEnd.read_size.Goals as goal

pub returns-in-Some-clause-ok : goal.returns-in-Some-clause-ok
returns-in-Some-clause-ok c =
    if_ok c.find_fault.result _ _ (λ act e books. ap (sizes_with (plain_with c.args.self.now books) c.args.lane c.args.files c.args.bytes)
    (ap (λ (s : Option (ℕ × ℕ)). size_fault s c.args.files c.args.bytes) (sym c.sized.ensures) ∙ sym c.size_fault.ensures ∙ c.in-Some.is) ∙ e books) c.find_fault.ensures.ok
