use Rattle.std.proofs.Common.{◌≡◌, List, length}
use Rattle.wdt_codec.specs.Stream.{Message, AreMessages, stream_of}
use Rattle.wdt_rehearsal.specs.Received.{progress}
use Rattle.wdt_rehearsal.proofs.Receiving.{Leaves}
use Rattle.wdt_rehearsal.proofs.receiver.Receiver.take.Given as goal

abbrev pub invariant-loop-frame : goal.invariant-loop-frame
invariant-loop-frame l = record {
  none : l.self.reader.owed ≡ 0;
  left : (ms : List Message) → AreMessages ms → l.initial.self.reader.untaken ≡ stream_of ms → Leaves ms (progress l.initial.self) l.self.reader.untaken (progress l.self);
}

abbrev pub decreases-loop-frame : goal.decreases-loop-frame
decreases-loop-frame l = length l.self.reader.untaken
