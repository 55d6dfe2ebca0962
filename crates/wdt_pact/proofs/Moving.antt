-- In a sound world the readers listen and the writers have moves: so an end of each lane can move.
use Rattle.std.proofs.Common.{◌≡◌, inl, inr, ℕ, ◌<◌, Bool, true, false, length, subst, sym, refl}
use Rattle.wdt_codec.specs.declared.frames.Frame.{Frame}
use Rattle.wdt_codec.specs.declared.frames.Frame.TheVariants as frames
use Rattle.wdt_sender_fsm.specs.declared.acts.SendAct.TheVariants as acts
use Rattle.wdt_sender_fsm.specs.declared.states.SendLane.{SendLane}
use Rattle.wdt_sender_fsm.specs.declared.states.SendState.{SendState}
use Rattle.wdt_sender_fsm.specs.declared.states.SendState.TheVariants as states
use Rattle.wdt_sender_fsm.specs.Phases.{Met, Sending as SendingPhase, Asked, Over, phase_by}
use Rattle.wdt_sender_fsm.specs.PlainSender as sender
use Rattle.wdt_sender_fsm.specs.Rows.{is_reading}
use Rattle.wdt_receiver_fsm.specs.declared.acts.RecvAct.TheVariants as recv_acts
use Rattle.wdt_receiver_fsm.specs.declared.states.RecvLane.{RecvLane}
use Rattle.wdt_receiver_fsm.specs.declared.states.RecvState.{RecvState}
use Rattle.wdt_receiver_fsm.specs.declared.states.RecvState.TheVariants as recv_states
use Rattle.wdt_receiver_fsm.specs.Phases as recv_phases
use Rattle.wdt_receiver_fsm.specs.PlainReceiver as recv
use Rattle.wdt_receiver_fsm.specs.ReceiverHistory.{RecvPast}
use Rattle.wdt_receiver_fsm.specs.Rows as recv_rows
use Rattle.wdt_pact.specs.Belongs.{RecvBelongs, SendBelongs, SendFrameIn}
use Rattle.wdt_pact.specs.Conversation.{receives, receiving, sending, sends}
use Rattle.wdt_pact.specs.Fitting.{IsSound}
use Rattle.wdt_pact.specs.Pairs.{Pair, RecvHold, RecvDoes, SendHold, SendDoes}
use Rattle.wdt_pact.specs.Progress.{Holds, Listens, Moves, RecvReads, RecvWrites, SendReads, SendWrites, recv_listens, send_listens}
use Rattle.wdt_pact.specs.Stances.{Stance, recv_aborts, recv_stance, send_aborts, send_stance, stand}
use Rattle.wdt_pact.specs.World.{PlainWorld, pair_at}
use Rattle.wdt_pact.proofs.Progress.{can_move}
use Rattle.wdt_pact.proofs.RecvWriting.{talks_in}

-- ---- the sender

send_listens_in : (ask acked : Bool) (st : SendState) → is_reading st ≡ true → Listens send_listens (stand (send_aborts st) (phase_by ask acked st))
send_listens_in ask acked states.ReadLocalCheckpoint e = refl
send_listens_in ask acked states.ReadFileChunks e = refl
send_listens_in ask acked states.ReadReceiverCmd e = refl
send_listens_in ask acked st e = cc

send_reads : (lane : SendLane) (acked : Bool) (h : SendHold) → SendBelongs h lane → SendReads h (send_stance lane acked h)
send_reads lane acked (SendDoes acts.Read) b = send_listens_in lane.ask acked lane.state b
send_reads lane acked h b = tt

send_moves_in : (lane : SendLane) (acked : Bool) (st : SendState) (f : Frame) → SendFrameIn lane st f → SendWrites (SendDoes (acts.Write f)) (stand (send_aborts st) (phase_by lane.ask acked st))
send_moves_in lane acked states.SendSettings (frames.Settings s) e = (Met s.ask, refl)
send_moves_in lane acked states.SendSize (frames.Size files bytes) e = (SendingPhase, refl)
send_moves_in lane acked states.SendDone frames.Done e = (Asked, refl)
send_moves_in lane acked states.AnswerDone frames.Done e = (Over, refl)
send_moves_in lane acked states.SendAbort (frames.Abort code) e = refl
send_moves_in lane acked st f e = absurd e

send_writes : (lane : SendLane) (acked : Bool) (h : SendHold) → SendBelongs h lane → SendWrites h (send_stance lane acked h)
send_writes lane acked (SendDoes (acts.Write f)) b = send_moves_in lane acked lane.state f b
send_writes lane acked h b = tt

-- ---- the receiver

sized_listens : (b : Bool) → recv_listens (recv_phases.sized_by b) ≡ true
sized_listens true = refl
sized_listens false = refl

recv_listens_in : (lane : RecvLane) (idle acked : Bool) (st : RecvState) → recv_rows.is_reading st ≡ true → Listens recv_listens (stand (recv_aborts st) (recv_phases.phase_by lane idle acked st))
recv_listens_in lane idle acked recv_states.ReadSettings e = refl
recv_listens_in lane idle acked recv_states.ReadNextCmd e = sized_listens lane.is_sized
recv_listens_in lane idle acked recv_states.ReadAck e = refl
recv_listens_in lane idle acked st e = cc

recv_reads : (lane : RecvLane) (past : RecvPast) (h : RecvHold) → RecvBelongs h lane past → RecvReads h (recv_stance lane past.is_idle past.is_acked h)
recv_reads lane past (RecvDoes recv_acts.Read) b = recv_listens_in lane past.is_idle past.is_acked lane.state b
recv_reads lane past (RecvDoes (recv_acts.TakePiece n)) b = subst (λ (st : RecvState). Listens recv_listens (stand (recv_aborts st) (recv_phases.phase_by lane past.is_idle past.is_acked st))) (sym b.at) refl
recv_reads lane past h b = tt

recv_writes : (lane : RecvLane) (past : RecvPast) (h : RecvHold) → RecvBelongs h lane past → RecvWrites h (recv_stance lane past.is_idle past.is_acked h)
recv_writes lane past (RecvDoes (recv_acts.Write f)) (inl b) = subst (λ (st : RecvState). RecvWrites (RecvDoes (recv_acts.Write f)) (stand (recv_aborts st) (recv_phases.phase_by lane past.is_idle past.is_acked st))) (sym b.1) b.0
recv_writes lane past (RecvDoes (recv_acts.Write f)) (inr b) =
    subst (λ (x : Stance). RecvWrites (RecvDoes (recv_acts.Write f)) x) (sym (talks_in lane past.is_idle past.is_acked b.from b.to lane.state b.before b.after)) (b.to, b.moves)
recv_writes lane past h b = tt

-- ---- a lane

pub lane_holds : (w : PlainWorld) (l : ℕ) → IsSound w → l < length w.pairs → Holds (sends (sending w.sender l) (pair_at w l)) (receives (receiving w.receiver l) (pair_at w l)) (sender.state_at w.sender l) (recv.state_at w.receiver l) (pair_at w l)
lane_holds w l s within =
    record {
      send_reads = send_reads (sender.lane_at w.sender l) (sender.past_at w.sender l).is_acked (pair_at w l).send (s.belongs.send l within);
      recv_reads = recv_reads (recv.lane_at w.receiver l) (recv.past_at w.receiver l) (pair_at w l).recv (s.belongs.recv l within);
      send_writes = send_writes (sender.lane_at w.sender l) (sender.past_at w.sender l).is_acked (pair_at w l).send (s.belongs.send l within);
      recv_writes = recv_writes (recv.lane_at w.receiver l) (recv.past_at w.receiver l) (pair_at w l).recv (s.belongs.recv l within);
      accepts = λ is. subst (λ (h : RecvHold). RecvBelongs h (recv.lane_at w.receiver l) (recv.past_at w.receiver l)) is (s.belongs.recv l within);
      cut = s.cut l within;
    }

pub lane_moves : (w : PlainWorld) (l : ℕ) → IsSound w → l < length w.pairs → Moves (pair_at w l)
lane_moves w l s within =
    let p : Pair = pair_at w l in
    can_move (sends (sending w.sender l) p) (receives (receiving w.receiver l) p) (sender.state_at w.sender l) (recv.state_at w.receiver l) p.send p.recv p.taken p.between p.newest p.denies p.refusals (s.talk.lanes l within).agrees (lane_holds w l s within)
