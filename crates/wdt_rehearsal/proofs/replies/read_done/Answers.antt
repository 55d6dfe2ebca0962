use Rattle.std.proofs.Common.{◌∙◌, ◌++◌, [], ap}
use Rattle.wdt_codec.specs.Stream.{Held}
use Rattle.wdt_codec.specs.Frames.{spell}
use Rattle.wdt_codec.specs.declared.frames.Frame.TheVariants as frames
use Rattle.wdt_rehearsal.proofs.Heard.{begins-unit, read-last}
use Rattle.wdt_rehearsal.proofs.replies.read_done.Goals as goal

pub returns : goal.returns
returns c =
    let fed = c.in_ok-feed.ensures.fed ∙ ap (λ (r : Held). r.untaken ++ c.args.up.now) c.new-reader.ensures in
    record {
      begins = begins-unit c.hear_done.result (spell frames.Done) _ c.args.up.now _ fed c.hear_done.ensures.found;
      read = λ spelled. read-last (tt {0}) c.hear_done.result _ (c.hear_done.ensures.taken [] (fed ∙ spelled));
    }
