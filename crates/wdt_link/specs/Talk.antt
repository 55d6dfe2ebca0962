-- What a dialer or acceptor tells of the connections that it gave.
use Rattle.std.specs.Prelude.{◌≡◌, ℕ, List, [], ◌∷◌, ◌++◌, Option, Some, None}
use Rattle.wdt_link.specs.Traffic.{Traffic}

-- what was received and sent on a connection
pub record Connection : Type 0 where
  pub received : List ℕ
  pub sent : List ℕ

-- the connection of a link that tells its bytes
abbrev pub connection_of : Traffic → Connection
connection_of traffic = record { received = traffic.received; sent = traffic.sent }

-- a link is hung up: its bytes are added where it tells them, and else nothing is told any more
abbrev pub HangsUp : Option (List Connection) → Option Traffic → Option (List Connection) → Type 0
HangsUp talk link None = Unit {0}
HangsUp (Some talk) (Some traffic) (Some new) = new ≡ talk ++ connection_of traffic ∷ []
HangsUp _ _ (Some new) = ⊥

-- a link's connection before others, where all are told
abbrev pub joined : Option Traffic → Option (List Connection) → Option (List Connection)
joined None talk = None
joined (Some traffic) None = None
joined (Some traffic) (Some talk) = Some (connection_of traffic ∷ talk)

-- a link's connection behind others, where all are told
abbrev pub hung_up : Option (List Connection) → Option Traffic → Option (List Connection)
hung_up None link = None
hung_up (Some talk) None = None
hung_up (Some talk) (Some traffic) = Some (talk ++ connection_of traffic ∷ [])
