use Rattle.std.proofs.Common.{◌∙◌, ap}
use Rattle.wdt_link.specs.Memory.{MemLinesView, talk_of}
use Rattle.wdt_link.specs.Talk.{hung_up}
use Rattle.wdt_link.proofs.Talking.{talk_behind}
use Rattle.wdt_link.proofs.mem_lines.MemLines.take_back.Goals as goal

pub returns-clause-talk : goal.returns-clause-talk
returns-clause-talk g c =
    ap talk_of c.push_reserved.ensures.items
    ∙ talk_behind c.self.inside.ended.items c.args.link
    ∙ ap (λ (v : MemLinesView). hung_up v.talk c.args.link.told) c.self.view_is
