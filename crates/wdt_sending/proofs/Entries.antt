-- Entries of the histories of both ends.
use Rattle.std.proofs.Common.{◌≡◌, ℕ, List, sym, subst}
use Rattle.std.specs.List.{Contains}
use Rattle.wdt_units.specs.declared.numbers.Lane.{Lane}
use Rattle.wdt_sender_fsm.specs.declared.answers.EndAnswer.TheVariants as answers
use Rattle.wdt_sender_fsm.specs.declared.events.SendEvent.{SendEvent}
use Rattle.wdt_sender_fsm.specs.declared.events.SendEvent.TheVariants as sends
use Rattle.wdt_sender_fsm.specs.declared.peers.PeerKind.{PeerKind}
use Rattle.wdt_sender_fsm.specs.PlainSender.{PlainSender}
use Rattle.wdt_sender_fsm.specs.Sender.{IsSender}
use Rattle.wdt_receiver_fsm.specs.declared.events.RecvEvent.{RecvEvent}

-- an entry of a plain end's history stands in the end's
pub sent_entry : (history h : List SendEvent) (of : Lane → SendEvent) → h ≡ history → (l : Lane) × Contains history (of l) → (l : Lane) × Contains h (of l)
sent_entry history h of is found = (found.0, subst (λ (x : List SendEvent). Contains x (of found.0)) (sym is) found.1)

pub received_entry : (history g : List RecvEvent) (of : Lane → RecvEvent) → g ≡ history → (l : Lane) × Contains history (of l) → (l : Lane) × Contains g (of l)
received_entry history g of is found = (found.0, subst (λ (x : List RecvEvent). Contains x (of found.0)) (sym is) found.1)

-- a sender's end notes what its answer tells that it heard
abbrev pub NotesPeers : Type 0
NotesPeers = (s : PlainSender) (kind : PeerKind) → IsSender s → s.answer ≡ answers.Peer kind → (l : Lane) × Contains s.history (sends.Peer l kind)

abbrev pub NotesAborts : Type 0
NotesAborts = (s : PlainSender) (code : ℕ) → IsSender s → s.answer ≡ answers.Aborted code → (l : Lane) × Contains s.history (sends.Abort l code)
