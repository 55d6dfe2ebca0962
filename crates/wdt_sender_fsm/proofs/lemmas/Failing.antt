-- A step in which the end fails.
use Rattle.std.proofs.Common.{◌≡◌, ℕ, ◌≤◌, List, [], ◌∷◌, ◌++◌, length, Bool, true, false, None, inl, subst, sym, ap, ◌∙◌, refl, arith, is_some, ◌||◌}
use Rattle.std.proofs.lemmas.Bool.{or_from}
use Rattle.wdt_units.specs.declared.numbers.Lane.{Lane}
use Rattle.wdt_codec.specs.declared.frames.Frame.{Frame}
use Rattle.wdt_sender_fsm.specs.declared.answers.EndAnswer.{EndAnswer}
use Rattle.wdt_sender_fsm.specs.declared.answers.EndAnswer.TheVariants as answers
use Rattle.wdt_sender_fsm.specs.declared.answers.RefusedKind.{RefusedKind}
use Rattle.wdt_sender_fsm.specs.declared.events.SendEvent.{SendEvent}
use Rattle.wdt_sender_fsm.specs.declared.events.SendEvent.TheVariants as events
use Rattle.wdt_sender_fsm.specs.declared.peers.PeerKind.{PeerKind}
use Rattle.wdt_sender_fsm.specs.declared.peers.PeerKind.TheVariants as peers
use Rattle.wdt_sender_fsm.specs.declared.states.SendState.{SendState}
use Rattle.wdt_sender_fsm.specs.declared.states.SendState.TheVariants as states
use Rattle.wdt_sender_fsm.specs.Faults.{has_no_row}
use Rattle.wdt_sender_fsm.specs.Legal.{Fits, IsFault, needs_link, reads_in, MayRead}
use Rattle.wdt_sender_fsm.specs.PlainSender.{PlainSender, past_at, blocks_of, noted, failed, every_lane, is_done_with}
use Rattle.wdt_sender_fsm.specs.Rows.{Row, Aborted, SourceLost, place_of, command_of, is_mute}
use Rattle.wdt_sender_fsm.specs.Rules.{is_failure, code_of}
use Rattle.wdt_sender_fsm.specs.Sender.{GoesOn, IsSender, failure_in, failure_in-more, failure_after, noted_failure}
use Rattle.wdt_sender_fsm.specs.SenderHistory.{LanePast, EndPast, past_of, past_of-more, past_after, end_of, end_of-more, end_after, lane_of}
use Rattle.wdt_sender_fsm.specs.Turn.{Step, leaves, tells_failure, gives_up, faults, turn_row, fails_with}
use Rattle.wdt_sender_fsm.proofs.lemmas.Notes.{legal_more, others_more, ended_more}
use Rattle.wdt_sender_fsm.proofs.lemmas.Pasts.{is_finish}
use Rattle.wdt_sender_fsm.proofs.lemmas.Steps.{voiced}
use Rattle.wdt_sender_fsm.proofs.lemmas.Works.{Stays, Works, put, stays_failed, every_false, works_unfinished, in_state, no_failure}

abbrev pub Keeps : Step → Type 0
Keeps step = IsSender step.1

-- on a failed end the lane ends, or tells it on its connection
pub gave_up : (s : PlainSender) (l : Lane) (row : Row) → Stays s l → is_failure s.answer ≡ true → (is_mute row ≡ false → GoesOn (past_at s l.0) true) → Keeps (gives_up s l row)
gave_up s l row stays fails linked =
    voiced Keeps (is_mute row) (leaves s l) (tells_failure s l)
    (λ mute. put s l (in_state s l states.Ended) stays (inl fails))
    (λ voice. put s l (in_state s l states.SendAbort) stays record { goes_on = linked voice; failed = fails })

-- an entry that changes no lane's past
abbrev IsApart : SendEvent → Type 0
IsApart e = (j : ℕ) (p : LanePast) → past_after j p e ≡ p

apart_past : (h : List SendEvent) (e : SendEvent) → IsApart e → (j : ℕ) → past_of (h ++ e ∷ []) j ≡ past_of h j
apart_past h e apart j = past_of-more h e j ∙ apart j (past_of h j)

apart_unfinished : (s : PlainSender) (l : Lane) (e : SendEvent) → IsApart e → Works s l → every_lane (noted s (e ∷ [])) is_done_with ≡ false
apart_unfinished s l e apart w =
    every_false (length s.lanes) (is_done_with (noted s (e ∷ []))) l.0 w.stays.within
    (subst (λ (p : LanePast). (p.is_acked || is_some p.claims.closed) ≡ false) (sym (apart_past s.history e apart l.0))
    (or_from (past_at s l.0).is_acked (is_some (past_at s l.0).claims.closed) w.acked (ap is_some w.is_open)))

linked_now : (s : PlainSender) (l : Lane) → Works s l → (past_at s l.0).is_up ≡ true → GoesOn (past_at s l.0) true
linked_now s l w up = record { quit = w.quit; acked = w.acked; link = up }

apart_linked : (s : PlainSender) (l : Lane) (e : SendEvent) → IsApart e → Works s l → (past_at s l.0).is_up ≡ true → GoesOn (past_of (s.history ++ e ∷ []) l.0) true
apart_linked s l e apart w up = subst (λ (p : LanePast). GoesOn p true) (sym (apart_past s.history e apart l.0)) (linked_now s l w up)

-- the source failed, or the tree isn't sent
plain_fell : (s : PlainSender) (l : Lane) (a : EndAnswer) → is_failure a ≡ true → noted_failure a ≡ None → code_of a ≤ 255 → Works s l → Stays (failed s a) l
plain_fell s l a fails unnoted code w =
    stays_failed s l a fails (unnoted ∙ sym (no_failure s l w)) code (works_unfinished s l w) w.stays.within w.stays.legal w.stays.plan w.stays.others w.stays.ended

-- an entry tells of the failure
entry_fell : (s : PlainSender) (l : Lane) (e : SendEvent) (a : EndAnswer) → is_failure a ≡ true → noted_failure a ≡ failure_after (failure_in s.history) e → code_of a ≤ 255 → IsApart e → is_finish e ≡ false
    → (end_after (end_of s.history) e).is_listed ≡ (end_of s.history).is_listed → lane_of e ≡ l.0 → needs_link e ≡ true → Fits (length s.lanes) (blocks_of s) s.history e → Works s l → (past_at s l.0).is_up ≡ true → Stays (failed (noted s (e ∷ [])) a) l
entry_fell s l e a fails noted_is code apart other listed of needs fits w up =
    stays_failed (noted s (e ∷ [])) l a fails (noted_is ∙ sym (failure_in-more s.history e)) code (apart_unfinished s l e apart w) w.stays.within
    (legal_more s l e w of (up ∙ sym needs) fits)
    record {
      listed = w.stays.plan.listed ∙ sym (ap (λ (x : EndPast). x.is_listed) (end_of-more s.history e) ∙ listed);
      planned = w.stays.plan.planned;
      accepted = w.stays.plan.accepted;
    }
    (others_more s l.0 e of other w.stays.others) (ended_more s l.0 e of w.stays.ended)

-- the receiver has failed
pub abort_keeps : (s : PlainSender) (l : Lane) (code : ℕ) → Works s l → (past_at s l.0).is_up ≡ true → MayRead (past_at s l.0) → code ≤ 255 → Keeps (turn_row s l (Aborted code))
abort_keeps s l code w up reads most =
    gave_up (failed (noted s (events.Abort l code ∷ [])) (answers.Aborted code)) l (Aborted code)
    (entry_fell s l (events.Abort l code) (answers.Aborted code) refl refl most (λ j p. refl) refl refl refl refl (reads, most) w up) refl
    (λ voice. apart_linked s l (events.Abort l code) (λ j p. refl) w up)

-- the receiver said what it may not say
pub fault_keeps : (s : PlainSender) (l : Lane) (row : Row) (kind : PeerKind) → Works s l → (past_at s l.0).is_up ≡ true → IsFault (length s.lanes) (blocks_of s) s.history l.0 kind → Keeps (faults s l row kind)
fault_keeps s l row kind w up fault =
    gave_up (failed (noted s (events.Peer l kind ∷ [])) (answers.Peer kind)) l row
    (entry_fell s l (events.Peer l kind) (answers.Peer kind) refl refl (omega arith) (λ j p. refl) refl refl refl refl fault w up) refl
    (λ voice. apart_linked s l (events.Peer l kind) (λ j p. refl) w up)

-- a frame came that has no row
pub unexpected_keeps : (s : PlainSender) (l : Lane) (row : Row) (at : SendState) (frame : Frame) → Works s l → (past_at s l.0).is_up ≡ true → reads_in at (past_at s l.0).is_greeted ≡ true → has_no_row (length s.lanes) l.0 (end_of s.history).is_listed at frame ≡ true → Keeps (faults s l row (peers.Unexpected (place_of at) (command_of frame)))
unexpected_keeps s l row at frame w up reads no_row =
    fault_keeps s l row (peers.Unexpected (place_of at) (command_of frame)) w up record { at = at; frame = frame; reads = reads; place = refl; byte = refl; no_row = no_row }

pub source_keeps : (s : PlainSender) (l : Lane) (unwritten : Bool) → Works s l → (past_at s l.0).is_up ≡ true → Keeps (turn_row s l (SourceLost unwritten))
source_keeps s l unwritten w up = gave_up (failed s answers.Source) l (SourceLost unwritten) (plain_fell s l answers.Source refl refl (omega arith) w) refl (λ voice. linked_now s l w up)

pub refused_keeps : (s : PlainSender) (l : Lane) (row : Row) (kind : RefusedKind) → Works s l → (past_at s l.0).is_up ≡ true → Keeps (fails_with s l row (answers.Refused kind))
refused_keeps s l row kind w up = gave_up (failed s (answers.Refused kind)) l row (plain_fell s l (answers.Refused kind) refl refl (omega arith) w) refl (λ voice. linked_now s l w up)
