use Rattle.std.proofs.Common.{ℕ, List, ◌++◌, ap, ◌∙◌}
use Rattle.wdt_codec.specs.Frames.{spell}
use Rattle.wdt_world.proofs.Telling.{says_up}
use Rattle.wdt_world.proofs.speaking.say_up.Goals as goal

pub returns-clause-said : goal.returns-clause-said
returns-clause-said c = λ p here there shows.
    says_up c.args.lines.now c.write_up.new.self p c.args.frame.now c.as_slice.result.now c.in_ok-works.works c.wrote_up.result c.requires here there shows
    (c.as_slice.ensures.value ∙ (c.in_ok-encode.ensures.spelled ∙ ap (λ (xs : List ℕ). xs ++ spell c.args.frame.now) c.clear.ensures.items)) c.in_ok-works.ensures.written c.in_ok-works.ensures.works c.wrote_up.ensures
