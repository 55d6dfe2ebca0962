-- How a copy over connections ends, by how its two ends ended.
use Rattle.std.specs.Prelude.{ℕ, nat_lt, Bool, true, false, if◌then◌else◌, List, [], ◌∷◌}
use Rattle.wdt_units.specs.LanesOf.{lanes_of}
use Rattle.wdt_units.specs.declared.numbers.Lane.{Lane}
use Rattle.wdt_units.specs.declared.numbers.LaneSet.{LaneSet}
use Rattle.wdt_sender_fsm.specs.declared.answers.EndAnswer.{EndAnswer}
use Rattle.wdt_sender_fsm.specs.declared.answers.EndAnswer.TheVariants as answers
use Rattle.wdt_sender_fsm.specs.declared.peers.PeerKind.{PeerKind}
use Rattle.wdt_sender_fsm.specs.declared.peers.PeerKind.TheVariants.{BadFrame}
use Rattle.wdt_tool.specs.declared.status.Status.{Status}
use Rattle.wdt_tool.specs.declared.status.Status.TheVariants.{Done, Usage, SourceFault, DiskFault, LinkFault, Peer, Aborted, Refused, OutFault, NoMemory}

-- there is a lane among these
abbrev pub is_some_lane : List Lane → Bool
is_some_lane [] = false
is_some_lane (lane ∷ lanes) = true

-- there is a lane in the set
abbrev pub has_some : LaneSet → Bool
has_some set = is_some_lane (lanes_of set)

-- the status where a lane met what it comes of; or else memory ran out
abbrev pub if_met : Bool → Status → Status
if_met met status = if met then status else NoMemory

-- what the other end said that it may not say: bytes without a frame alarm the lane
abbrev pub met_fault : Bool → PeerKind → Status
met_fault alarmed (BadFrame at) = if_met alarmed (Peer (BadFrame at))
met_fault alarmed kind = Peer kind

-- The status that an end's answer comes to, by whether a lane of it lost its source, was cut, or was alarmed.
-- What no lane met can't have failed the end: there memory ran out. So it did where a lane still had something
-- to do, since its threads weren't made.
abbrev pub status_of : Bool → Bool → Bool → EndAnswer → Status
status_of lost cut alarmed answers.Going = NoMemory
status_of lost cut alarmed answers.Done = Done
status_of lost cut alarmed answers.Source = if_met lost SourceFault
status_of lost cut alarmed answers.Disk = DiskFault
status_of lost cut alarmed answers.Link = if_met cut LinkFault
status_of lost cut alarmed (answers.Peer kind) = met_fault alarmed kind
status_of lost cut alarmed (answers.Aborted code) = if_met alarmed (Aborted code)
status_of lost cut alarmed (answers.Refused kind) = Refused kind
status_of lost cut alarmed answers.NoMemory = NoMemory

-- the place of an end's status in the order in which they are told; no end has one of the last two
abbrev pub rank : Status → ℕ
rank NoMemory = 0
rank SourceFault = 1
rank DiskFault = 2
rank (Refused kind) = 3
rank (Peer kind) = 4
rank LinkFault = 5
rank (Aborted code) = 6
rank Done = 7
rank Usage = 7
rank OutFault = 7

-- the first of two ends' statuses, and the sender's where both are of one kind
abbrev pub first_of : Status → Status → Status
first_of sender receiver = if nat_lt (rank receiver) (rank sender) then receiver else sender
