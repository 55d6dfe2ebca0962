use Rattle.std.proofs.Common.{subst, sym, ◌∙◌}
use Rattle.wdt_pact.specs.Pairs.{send_takes}
use Rattle.wdt_world.specs.Lines.{LinesView}
use Rattle.wdt_world.specs.Pairing.{ShowsLines}
use Rattle.wdt_world.proofs.Noting.{turned_on, turned_stop}
use Rattle.wdt_world.proofs.turning.turn_send.Goals as goal
use Rattle.wdt_world.proofs.turning.turn_send.Goals.{else-has_stopped, then-has_stopped}

pub returns-clause-turned : goal.returns-clause-turned
returns-clause-turned c = λ p has shows.
    record {
      step = c.in-Ok.ensures.ok;
      shows = λ g. elim c.if-has_stopped.branch [
        | then-has_stopped w ↦ turned_stop c.args.lines.now c.if-has_stopped.lines p c.args.input c.in-Ok.act (sym c.has_stopped.ensures ∙ w.if-has_stopped.true) shows (w.lines-is ∙ w.leave_down.ensures) g
        | else-has_stopped w ↦
            subst (λ (v : LinesView). ShowsLines v (send_takes p c.args.input g c.in-Ok.act)) (sym w.lines-is) (turned_on c.args.lines.now p c.args.input c.in-Ok.act (sym c.has_stopped.ensures ∙ w.if-has_stopped.false) has shows g)
      ];
    }
