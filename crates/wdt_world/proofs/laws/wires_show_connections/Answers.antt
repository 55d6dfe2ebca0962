use Rattle.wdt_world.proofs.Showing.{begins, cuts, found_down, found_piece, found_up, receiver_leaves, sender_leaves, works_down, works_up, wrote_down, wrote_up}
use Rattle.wdt_world.proofs.laws.wires_show_connections.Goals as goal

pub returns-clause-begins : goal.returns-clause-begins
returns-clause-begins c = begins

pub returns-clause-wrote_down : goal.returns-clause-wrote_down
returns-clause-wrote_down c = wrote_down

pub returns-clause-wrote_up : goal.returns-clause-wrote_up
returns-clause-wrote_up c = wrote_up

pub returns-clause-works_down : goal.returns-clause-works_down
returns-clause-works_down c = works_down

pub returns-clause-works_up : goal.returns-clause-works_up
returns-clause-works_up c = works_up

pub returns-clause-found_up : goal.returns-clause-found_up
returns-clause-found_up c = found_up c.streams_have_one_reading.ensures.frame

pub returns-clause-found_down : goal.returns-clause-found_down
returns-clause-found_down c = found_down c.streams_have_one_reading.ensures.frame

pub returns-clause-found_piece : goal.returns-clause-found_piece
returns-clause-found_piece c = found_piece

pub returns-clause-cuts : goal.returns-clause-cuts
returns-clause-cuts c = cuts

pub returns-clause-sender_leaves : goal.returns-clause-sender_leaves
returns-clause-sender_leaves c = sender_leaves

pub returns-clause-receiver_leaves : goal.returns-clause-receiver_leaves
returns-clause-receiver_leaves c = receiver_leaves
