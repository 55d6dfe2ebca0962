-- When the connections of a lane in bytes are those of a lane by messages.
use Rattle.std.specs.Prelude.{◌≡◌, true}
use Rattle.wdt_pact.specs.Pairs.{Pair, recv_stops, send_left, send_stops}
use Rattle.wdt_world.specs.Lines.{LinesView}
use Rattle.wdt_world.specs.Shown.{ShowsAll, ShowsBy}

-- each connection shows that of the lane, an end has left it where its lane stopped or, the sender, made a newer one,
-- and as many tries are to fail
pub record ShowsLines (v : LinesView) (p : Pair) : Type 0 where
  pub taken : ShowsBy (send_left p.newest p.send) (recv_stops p.recv) v.taken p.taken
  pub between : ShowsAll true (recv_stops p.recv) v.between p.between
  pub newest : ShowsBy (send_stops p.send) (recv_stops p.recv) v.newest p.newest
  pub denies : v.denies ≡ p.denies
  pub refusals : v.refusals ≡ p.refusals
