use Rattle.std.proofs.Common.{map, refl}
use Rattle.wdt_depot.specs.Spots.{entered_view}
use Rattle.wdt_depot.proofs.Entering.{counts_from, number_from, only_failed}
use Rattle.wdt_depot.proofs.memory.calls.MemDepotDepot.sync.Goals as goal

pub returns-in-Err-clause-exact : goal.returns-in-Err-clause-exact
returns-in-Err-clause-exact c quiet = (c.in-Err.ensures.outcome _ (map entered_view c.args.self.now.spots.items) c.place_at-place.ensures).exact c.in-Err.ensures.memory quiet

pub returns-in-Err-clause-stop : goal.returns-in-Err-clause-stop
returns-in-Err-clause-stop c = (c.in-Err.ensures.outcome _ (map entered_view c.args.self.now.spots.items) c.place_at-place.ensures).stop c.in-Err.ensures.memory

pub returns-in-Err-clause-counts : goal.returns-in-Err-clause-counts
returns-in-Err-clause-counts c = counts_from _ _ _ _ (λ h. only_failed c.in-Err.field-0 c.in-Err.ensures.memory) (λ h. refl) (c.in-Err.ensures.outcome _ (map entered_view c.args.self.now.spots.items) c.place_at-place.ensures).counts

pub returns-in-Err-clause-slips : goal.returns-in-Err-clause-slips
returns-in-Err-clause-slips c = (c.in-Err.ensures.outcome _ (map entered_view c.args.self.now.spots.items) c.place_at-place.ensures).slips.none refl

pub returns-in-Ok-clause-step : goal.returns-in-Ok-clause-step
returns-in-Ok-clause-step c = (c.in-Ok.ensures.outcome _ (map entered_view c.args.self.now.spots.items) c.place_at-place.ensures).step

pub returns-in-Ok-clause-exact : goal.returns-in-Ok-clause-exact
returns-in-Ok-clause-exact c quiet = (c.in-Ok.ensures.outcome _ (map entered_view c.args.self.now.spots.items) c.place_at-place.ensures).exact c.in-Ok.ensures.memory quiet

pub returns-in-Ok-clause-stop : goal.returns-in-Ok-clause-stop
returns-in-Ok-clause-stop c = (c.in-Ok.ensures.outcome _ (map entered_view c.args.self.now.spots.items) c.place_at-place.ensures).stop c.in-Ok.ensures.memory

pub returns-in-Ok-clause-up : goal.returns-in-Ok-clause-up
returns-in-Ok-clause-up c = (c.in-Ok.ensures.outcome _ (map entered_view c.args.self.now.spots.items) c.place_at-place.ensures).up

pub returns-in-Ok-clause-counts : goal.returns-in-Ok-clause-counts
returns-in-Ok-clause-counts c = counts_from _ _ _ _ (λ h. cc) (λ h. cc) (c.in-Ok.ensures.outcome _ (map entered_view c.args.self.now.spots.items) c.place_at-place.ensures).counts

pub returns-in-Ok-clause-slips : goal.returns-in-Ok-clause-slips
returns-in-Ok-clause-slips c = (c.in-Ok.ensures.outcome _ (map entered_view c.args.self.now.spots.items) c.place_at-place.ensures).slips.none refl

pub returns-in-Err-clause-number : goal.returns-in-Err-clause-number
returns-in-Err-clause-number c = number_from _ _ _ _ _ _ c.in-Err.ensures.memory (λ h. only_failed c.in-Err.field-0 c.in-Err.ensures.memory) (λ h. refl) (c.in-Err.ensures.outcome _ (map entered_view c.args.self.now.spots.items) c.place_at-place.ensures).number

pub returns-in-Ok-clause-number : goal.returns-in-Ok-clause-number
returns-in-Ok-clause-number c = number_from _ _ _ _ _ _ c.in-Ok.ensures.memory (λ h. cc) (λ h. cc) (c.in-Ok.ensures.outcome _ (map entered_view c.args.self.now.spots.items) c.place_at-place.ensures).number
