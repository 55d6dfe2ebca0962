-- What performing an act asks, and what comes of it.
use Rattle.std.specs.Prelude.{◌≡◌, ℕ, ◌≤◌, true, [], is_some, Option, None, IfSome}
use Rattle.wdt_units.specs.Headers.{FitsHeader}
use Rattle.wdt_units.specs.declared.limits.TheConstants.{PIECE}
use Rattle.wdt_codec.specs.Frames.{Fits}
use Rattle.wdt_sender_fsm.specs.declared.acts.SendAct.{SendAct}
use Rattle.wdt_sender_fsm.specs.declared.acts.SendAct.TheVariants as acts
use Rattle.wdt_receiver_fsm.specs.declared.acts.RecvAct.{RecvAct}
use Rattle.wdt_receiver_fsm.specs.declared.acts.RecvAct.TheVariants as recv_acts
use Rattle.wdt_wire.specs.Wires.{PlainWire}
use Rattle.wdt_pact.specs.Pairs.{Pair, recv_does, send_does, top}
use Rattle.wdt_world.specs.declared.hands.RecvHand.{RecvHand}
use Rattle.wdt_world.specs.declared.hands.SendHand.{SendHand}
use Rattle.wdt_world.specs.Finding.{BeginsOn, BeginsWithFrame, BeginsWithPiece}
use Rattle.wdt_world.specs.Hands.{recv_held, send_held}
use Rattle.wdt_world.specs.Lines.{LinesView}
use Rattle.wdt_world.specs.Pairing.{ShowsLines}
use Rattle.wdt_world.specs.Shown.{IsAnswer}

-- ---- the sender's lane

-- what it writes lies in the grammar's ranges, and where it reads no bytes of a block are owed
abbrev pub MaySend : SendAct → Option PlainWire → Type 0
MaySend (acts.Write frame) top = Fits frame
MaySend (acts.SendBlock header) top = FitsHeader header
MaySend acts.Read top = IfSome top (λ wire. wire.up.owed ≡ 0)
MaySend _ top = Unit {0}

-- where it writes it has a connection
abbrev pub HasTop : SendAct → Pair → Type 0
HasTop (acts.Write frame) p = is_some (top p) ≡ true
HasTop (acts.SendBlock header) p = is_some (top p) ≡ true
HasTop _ p = Unit {0}

-- It performed an act as the pair does, and holds what the pair holds; of a block the source may have failed, which
-- it did only for this reason.
pub record ActsSend (Fails : Type 0) (p : Pair) (act : SendAct) (hand : SendHand) (v : LinesView) : Type 0 where
  pub lost : Option ℕ
  pub cause : (lost ≡ None → ⊥) → Fails
  pub held : send_held hand ≡ (send_does p lost act).send
  pub shows : ShowsLines v (send_does p lost act)

-- ---- the receiver's lane

-- what it writes is its own, where it reads no bytes of a block are owed, and where it takes some as many are
abbrev pub MayReceive : RecvAct → Option PlainWire → Type 0
MayReceive (recv_acts.Write frame) taken = IsAnswer frame
MayReceive recv_acts.Read taken = IfSome taken (λ wire. wire.down.owed ≡ 0)
MayReceive (recv_acts.TakePiece n) taken = (1 ≤ n) × (n ≤ PIECE) × IfSome taken (λ wire. n ≤ wire.down.owed)
MayReceive _ taken = Unit {0}

-- where it writes it has taken a connection, what it reads or takes comes next there, and of those that wait one is
-- the sender's
abbrev pub HasTaken : RecvAct → Pair → Type 0
HasTaken recv_acts.Accept p = p.newest ≡ None → p.between ≡ []
HasTaken (recv_acts.Write frame) p = is_some p.taken ≡ true
HasTaken recv_acts.Read p = BeginsOn BeginsWithFrame p.taken
HasTaken (recv_acts.TakePiece n) p = BeginsOn (BeginsWithPiece n) p.taken
HasTaken _ p = Unit {0}

-- it performed an act as the pair does, and holds what the pair holds
pub record ActsRecv (p : Pair) (act : RecvAct) (hand : RecvHand) (v : LinesView) : Type 0 where
  pub held : recv_held hand ≡ (recv_does p act).recv
  pub shows : ShowsLines v (recv_does p act)
