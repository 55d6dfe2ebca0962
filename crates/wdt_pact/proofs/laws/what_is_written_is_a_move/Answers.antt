use Rattle.wdt_pact.proofs.Writing.{abort_write_keeps, done_write_keeps, settings_write_keeps, size_write_keeps}
use Rattle.wdt_pact.proofs.laws.what_is_written_is_a_move.Goals as goal

pub returns-clause-settings : goal.returns-clause-settings
returns-clause-settings c = settings_write_keeps

pub returns-clause-size : goal.returns-clause-size
returns-clause-size c = size_write_keeps

pub returns-clause-done : goal.returns-clause-done
returns-clause-done c = done_write_keeps

pub returns-clause-abort : goal.returns-clause-abort
returns-clause-abort c = abort_write_keeps
