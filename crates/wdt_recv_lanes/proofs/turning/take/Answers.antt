use Rattle.std.proofs.Common.{sym, ap, ◌∙◌, subst}
use Rattle.wdt_receiver_fsm.specs.Turn.{Bytes}
use Rattle.wdt_recv_lanes.specs.Turns.{Turned, bytes_put}
use Rattle.wdt_recv_lanes.proofs.Hearing.{came_of, leaves_of, wanted_piece}
use Rattle.wdt_recv_lanes.proofs.turning.take.Goals as goal

pub returns-in-Some : goal.returns-in-Some
returns-in-Some g c =
    let run = g.N.Run.told in
    let r = c.args.dock.now.plain in
    let t = c.piece.new.self.plain in
    let l = c.args.lane in
    let bytes = c.in-Some.bytes.now in
    let s0 = g.D.Depot.state c.args.dock.now.depot in
    let s1 = g.D.Depot.state c.piece.new.self.depot in
    let says = c.piece.ensures in
    let wanted = sym c.is_wanted.ensures ∙ c.if-is_wanted.true in
    let w = wanted_piece run r l c.args.said.now bytes wanted c.in-Some.ensures.value c.in-Some.ensures.said in
    subst (λ put. Turned run r l put c.piece.result t s0 s1) (sym (ap (λ b. bytes_put b c.args.said.now) wanted ∙ w.put)) record {
      was = says.was;
      said = tt;
      came = came_of r t l (Bytes bytes) c.piece.result s0 s1 says.turns says.memory;
      leaves = leaves_of r t l (Bytes bytes) s0 s1 run w.of (λ T. record { images = says.images T; good = says.good T; slips = says.slips T }) record { others = says.others; untouched = says.untouched; counts = says.counts };
    }
