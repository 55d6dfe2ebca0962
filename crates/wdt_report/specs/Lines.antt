-- The lines of reports.
use Rattle.std.specs.Prelude.{ℕ, List, ◌++◌, length, sum_by, codes}
use Rattle.std.specs.Fmt.{decimal}
use Rattle.wdt_sender_fsm.specs.declared.events.SendEvent.{SendEvent}
use Rattle.wdt_receiver_fsm.specs.declared.events.RecvEvent.{RecvEvent}
use Rattle.wdt_report.specs.Received.{blocks_in, bytes_in, closed_in, taken_in}
use Rattle.wdt_report.specs.Sent.{connections_in, requeued_in, sure_blocks_in, sure_bytes_in}

-- the lines of these seven numbers
unfoldable pub seven_lines : (files blocks bytes connections requeued closed sessions : ℕ) → List ℕ
seven_lines files blocks bytes connections requeued closed sessions =
    codes "files " ++ decimal files ++ codes "\nblocks " ++ decimal blocks ++ codes "\nbytes " ++ decimal bytes ++ codes "\nconnections " ++ decimal connections
    ++ codes "\nrequeued " ++ decimal requeued ++ codes "\nclosed " ++ decimal closed ++ codes "\nsessions " ++ decimal sessions ++ codes "\n"

-- The report of a copy of so many files, by the histories of both ends in each session: how many blocks landed
-- and what bytes they have, how many connections were made, how many blocks were taken off lists to be sent
-- again, how many lanes were closed, and how many sessions there were.
abbrev pub copy_text : ℕ → List (List SendEvent) → List (List RecvEvent) → List ℕ
copy_text files sent received =
    seven_lines files (sum_by blocks_in received) (sum_by bytes_in received) (sum_by connections_in sent) (sum_by requeued_in sent) (sum_by closed_in received) (length sent)

-- the lines of these five numbers
unfoldable pub five_lines : (files blocks bytes connections requeued : ℕ) → List ℕ
five_lines files blocks bytes connections requeued =
    codes "files " ++ decimal files ++ codes "\nblocks " ++ decimal blocks ++ codes "\nbytes " ++ decimal bytes ++ codes "\nconnections " ++ decimal connections
    ++ codes "\nrequeued " ++ decimal requeued ++ codes "\n"

-- The report of a sender of so many files, by its history: how many blocks have surely landed and what bytes they
-- have, how many connections were made, and how many blocks were taken off lists to be sent again.
abbrev pub send_text : ℕ → List SendEvent → List ℕ
send_text files h = five_lines files (sure_blocks_in h) (sure_bytes_in h) (connections_in h) (requeued_in h)

-- the lines of these four numbers
unfoldable pub four_lines : (blocks bytes connections closed : ℕ) → List ℕ
four_lines blocks bytes connections closed =
    codes "blocks " ++ decimal blocks ++ codes "\nbytes " ++ decimal bytes ++ codes "\nconnections " ++ decimal connections
    ++ codes "\nclosed " ++ decimal closed ++ codes "\n"

-- The report of a receiver, by its history: how many blocks landed and what bytes they have, how many connections
-- were taken, and how many lanes were closed.
abbrev pub recv_text : List RecvEvent → List ℕ
recv_text g = four_lines (blocks_in g) (bytes_in g) (taken_in g) (closed_in g)
