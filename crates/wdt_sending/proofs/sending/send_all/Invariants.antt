use Rattle.wdt_sending.specs.Sending.{begun_of}
use Rattle.wdt_sending.proofs.sending.send_all.Given as goal

-- what the end is opened with
abbrev pub ghosts-send_since-B-Begin : goal.ghosts-send_since-B-Begin
ghosts-send_since-B-Begin g a = record { begun = begun_of a.sending.manifest a.sending.block }

abbrev pub ghosts-send_since-L-Ledger : goal.ghosts-send_since-L-Ledger
ghosts-send_since-L-Ledger g a = record { name = a.blank.name; parts = a.blank.parts }
