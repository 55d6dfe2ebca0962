use Rattle.std.proofs.Common.{◌<◌, length, sym, ap, subst}
use Rattle.wdt_recv_lanes.specs.Turns.{put_of}
use Rattle.wdt_recv_lanes.proofs.Keeping.{kept_turn, lanes_so, legal_so, others_so, owned, turned_ok}
use Rattle.wdt_recv_lanes.proofs.kept_dock.KeptDockMachine.turn.Goals as goal

pub said-requires : goal.said-requires
said-requires g c =
    let s = c.self.inside.dock in
    let within = subst (λ v. c.args.lane.0 < length v.plain.lanes) (sym c.self.view_is) c.requires.lane in
    owned g.N.Run.told g.J.Start.started s.plain c.hear-answer.new.dock.plain c.args.lane (put_of s.plain c.args.lane.0 c.args.put) c.hear-answer.result (g.D.Depot.state s.depot) (g.D.Depot.state c.hear-answer.new.dock.depot) within c.hear-answer.ensures.turned c.self.invariant

pub invariant_of-self : goal.invariant_of-self
invariant_of-self g c =
    let s = c.self.inside.dock in
    kept_turn g.N.Run.told g.J.Start.started s.plain c.hear-answer.new.dock.plain c.args.lane (put_of s.plain c.args.lane.0 c.args.put) c.hear-answer.result (g.D.Depot.state s.depot) (g.D.Depot.state c.hear-answer.new.dock.depot) c.hear-answer.ensures.turned c.self.invariant

pub returns-clause-kept : goal.returns-clause-kept
returns-clause-kept g c =
    let s = c.self.inside.dock in
    kept_turn g.N.Run.told g.J.Start.started s.plain c.hear-answer.new.dock.plain c.args.lane (put_of s.plain c.args.lane.0 c.args.put) c.hear-answer.result (g.D.Depot.state s.depot) (g.D.Depot.state c.hear-answer.new.dock.depot) c.hear-answer.ensures.turned c.self.invariant

pub returns-clause-ok : goal.returns-clause-ok
returns-clause-ok g c =
    let s = c.self.inside.dock in
    turned_ok s.plain c.args.self.now.plain c.hear-answer.new.dock.plain c.args.lane (ap (λ v. v.plain) c.self.view_is) c.args.put c.hear-answer.result c.said.result c.said.ensures c.hear-answer.ensures.turned.came

pub returns-clause-others : goal.returns-clause-others
returns-clause-others g c =
    let s = c.self.inside.dock in
    others_so s.plain c.args.self.now.plain c.hear-answer.new.dock.plain c.args.lane (ap (λ v. v.plain) c.self.view_is) (put_of s.plain c.args.lane.0 c.args.put) c.hear-answer.result c.hear-answer.ensures.turned.came

pub returns-clause-lanes : goal.returns-clause-lanes
returns-clause-lanes g c =
    let s = c.self.inside.dock in
    lanes_so s.plain c.args.self.now.plain c.hear-answer.new.dock.plain c.args.lane (ap (λ v. v.plain) c.self.view_is) (put_of s.plain c.args.lane.0 c.args.put) c.hear-answer.result c.hear-answer.ensures.turned.came

pub returns-clause-legal : goal.returns-clause-legal
returns-clause-legal g c =
    let s = c.self.inside.dock in
    let within = subst (λ v. c.args.lane.0 < length v.plain.lanes) (sym c.self.view_is) c.requires.lane in
    legal_so s.plain c.hear-answer.new.dock.plain c.args.lane (put_of s.plain c.args.lane.0 c.args.put) c.hear-answer.result within c.hear-answer.ensures.turned.was c.hear-answer.ensures.turned.came
