use Rattle.std.proofs.Common.{◌≡◌, ◌++◌, ◌∙◌, ℕ, List, [], ap, sym, append_assoc, OnOk, Result, Ok, Err}
use Rattle.wdt_units.specs.declared.failures.NoMemory.{NoMemory}
use Rattle.wdt_units.specs.Have.{HaveFile}
use Rattle.wdt_codec.specs.Frames.{spell}
use Rattle.wdt_codec.specs.declared.frames.Frame.TheVariants.{Chunks}
use Rattle.wdt_rehearsal.specs.Replies.{greeting, said_at}
use Rattle.wdt_rehearsal.proofs.receiver.Receiver.answer.Goals as goal

-- the greeting and what it has, behind what was said before
behind : (r : Result (Unit {0}) NoMemory) (have : List HaveFile) (old mid new said : List ℕ) → have ≡ [] → said ≡ spell greeting ++ spell (Chunks []) → mid ≡ old ++ spell greeting → OnOk r (new ≡ mid ++ spell (Chunks have)) → OnOk r (new ≡ old ++ said)
behind (Ok u) have old mid new said none is first second =
    second ∙ ap (λ (fs : List HaveFile). mid ++ spell (Chunks fs)) none ∙ ap (λ x. x ++ spell (Chunks [])) first ∙ append_assoc old (spell greeting) (spell (Chunks [])) ∙ ap (λ x. old ++ x) (sym is)
behind (Err e) have old mid new said none is first second = tt {0}

pub returns-in_ok-encode-in-Size : goal.returns-in_ok-encode-in-Size
returns-in_ok-encode-in-Size c =
    behind c.encode-in-Size.result _ c.args.up.now.items _ c.encode-in-Size.new.into.items (said_at c.args.self.now.stage) c.none.ensures (ap said_at c.in-Size.is) c.in_ok-encode-in-Size.ensures.spelled c.encode-in-Size.ensures.spelled
