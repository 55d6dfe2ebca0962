-- What a dialer or an acceptor over TCP is seen as, and what its calls make of it.
use Rattle.std.specs.Prelude.{ℕ, zero, suc, ◌+◌, ◌-◌, List, [], ◌∷◌, ◌++◌, None, Result, Ok, Err}
use Rattle.wdt_units.specs.Counts.{added}
use Rattle.wdt_link.specs.declared.fails.LinkFail.{LinkFail}
use Rattle.wdt_link.specs.declared.fails.LinkFail.TheVariants.{Failed, NoMemory}
use Rattle.wdt_link.specs.Links.{ByteLinkView, faults_of}

-- its port, how many of its links are out, and its counts
pub record EndView : Type 0 where
  pub port : ℕ
  pub out : ℕ
  pub faults : ℕ
  pub alarms : ℕ
  pub slips : ℕ

-- ---- one end

-- a link over which nothing was said
abbrev pub unused : ByteLinkView
unused = record { told = None; wire = 0; own = 0; alarms = 0; slips = 0; owing = record { block = None; owed = 0 } }

-- an end of which no call was made
abbrev pub new_end : ℕ → EndView
new_end port = record { port = port; out = 0; faults = 0; alarms = 0; slips = 0 }

-- behind a call that gives a link
abbrev pub giving : EndView → EndView
giving e = record { port = e.port; out = 1; faults = e.faults; alarms = e.alarms; slips = e.slips }

-- behind a call that fails
abbrev pub failing : EndView → EndView
failing e = record { port = e.port; out = e.out; faults = added e.faults 1; alarms = e.alarms; slips = e.slips }

-- behind a call for a link
abbrev pub called : {T : Type 0} → Result T LinkFail → EndView → EndView
called (Ok link) e = giving e
called (Err Failed) e = failing e
called (Err NoMemory) e = e

-- behind the return of a link
abbrev pub taking_back : ByteLinkView → EndView → EndView
taking_back link e =
    record {
      port = e.port;
      out = e.out - 1;
      faults = added e.faults (faults_of link);
      alarms = added e.alarms link.alarms;
      slips = added e.slips link.slips;
    }

-- ---- the ends of all lanes

-- an end for each of the first n lanes, in order: a lane's port is the first one and the lane's number
abbrev pub new_ends : ℕ → ℕ → List EndView
new_ends zero port = []
new_ends (suc n) port = new_ends n port ++ new_end (port + n) ∷ []
