use Rattle.std.proofs.Common.{◌∙◌, ◌++◌, List, [], sym, ap}
use Rattle.wdt_units.specs.Have.{HaveFile}
use Rattle.wdt_rehearsal.specs.Replies.{greeting}
use Rattle.std.proofs.lemmas.List.{append-nil}
use Rattle.wdt_codec.specs.declared.frames.Frame.TheVariants as frames
use Rattle.wdt_codec.specs.Frames.{spell}
use Rattle.wdt_codec.specs.Stream.{Held}
use Rattle.wdt_rehearsal.proofs.Heard.{begins-behind, read-last}
use Rattle.wdt_rehearsal.proofs.replies.read_greeting.Goals as goal

pub returns : goal.returns
returns c =
    let fed = c.in_ok-feed.ensures.fed ∙ ap (λ (r : Held). r.untaken ++ c.args.up.now) c.new-reader.ensures in
    record {
      begins = begins-behind c.hear_have.result (spell greeting) (λ (files : List HaveFile). spell (frames.Chunks files)) _ c.args.up.now _ (sym fed ∙ c.in_ok-hear_greeting.ensures.found) c.hear_have.ensures.found;
      read = λ files fits spelled.
          let have = spell (frames.Chunks files) in
          let taken = c.in_ok-hear_greeting.ensures.taken have (fed ∙ spelled) in
          read-last files c.hear_have.result _ (c.hear_have.ensures.taken files [] fits (taken.1 ∙ sym (append-nil have)));
    }
