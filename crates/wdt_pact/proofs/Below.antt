-- What is cited of the sender's proofs: how two ends speak in turn, and lists of which one item is set.
pub use Rattle.wdt_sender_fsm.proofs.Shared.{get_set, hears, if_has, lane_set, moved-first, one_talker, pieces_lead, says, served, set_other, turned, turned_talker}
