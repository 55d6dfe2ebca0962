-- What contracts see of a folder as a depot.
use Rattle.std.specs.Prelude.{map}
use Rattle.wdt_depot.specs.Spots.{entered_view}
use Rattle.wdt_depot.specs.State.{State}
use Rattle.wdt_folder.specs.declared.depot.FolderDepot.{FolderDepot}
use Rattle.wdt_folder.specs.Untold.{untold}

-- its stop, its spots and its counts
abbrev pub folder_state : {R S File Dir : Type 0} → FolderDepot R S File Dir → State
folder_state d = untold d.health (map entered_view d.spots.items)
