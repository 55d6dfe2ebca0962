use Rattle.wdt_logfmt.specs.Spelling.{written_version}
use Rattle.wdt_logfmt.specs.View.{named_files}
use Rattle.wdt_log.specs.Touched.{laid}
use Rattle.wdt_log.proofs.Laying.{can_enter, entered_next}
use Rattle.wdt_log.proofs.extending.touched.Goals as goal

pub touch-requires-clause-continues : goal.touch-requires-clause-continues
touch-requires-clause-continues c =
    can_enter written_version (named_files c.args.files.now) c.args.batch.now c.loop-entry.entry-index c.entry-item.result (laid (named_files c.loop-entry.touched.items) (named_files c.args.files.now)) c.loop-entry-test.true c.entry-item.is c.requires.view c.loop-entry.invariant.so_far
    c.requires.continues

pub loop-entry-preserved : goal.loop-entry-preserved
loop-entry-preserved c = record {
  rising = c.in_ok-touch.ensures.rising;
  so_far = entered_next written_version (named_files c.args.files.now) c.args.batch.now c.loop-entry.entry-index c.entry-item.result (laid (named_files c.loop-entry.touched.items) (named_files c.args.files.now)) (laid (named_files c.touch.new.touched.items) (named_files c.args.files.now))
      c.loop-entry-test.true c.entry-item.is c.loop-entry.invariant.so_far c.requires.continues c.in_ok-touch.ensures.files;
}
