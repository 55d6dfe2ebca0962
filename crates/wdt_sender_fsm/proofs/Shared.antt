-- The laws of lanes' claims, of lists of files and of the queue that other crates cite, and how two ends
-- speak in turn.
pub use Rattle.wdt_sender_fsm.proofs.lemmas.Claimed.{claims_at, claims_finish, claims_length, claims_none, claims_one, tabulate_at, tabulate_one, tabulate_same, tabulate_set}
pub use Rattle.wdt_sender_fsm.proofs.lemmas.Counts.{dropped_count, kept_count, plan_rises, present}
pub use Rattle.wdt_sender_fsm.proofs.lemmas.Lists.{ordered}
pub use Rattle.wdt_sender_fsm.proofs.lemmas.Marking.{or_none}
pub use Rattle.wdt_sender_fsm.proofs.lemmas.Phases.{one_talker, pieces_lead}
pub use Rattle.wdt_sender_fsm.proofs.lemmas.Queue.{filter_all}
pub use Rattle.wdt_sender_fsm.proofs.lemmas.Steps.{get_set, if_has, lane_set, served}
pub use Rattle.wdt_sender_fsm.proofs.lemmas.Talk.{hears, moved-first, says, turned, turned_talker}
pub use Rattle.wdt_sender_fsm.proofs.lemmas.Works.{set_other}
