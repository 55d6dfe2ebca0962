use Rattle.std.proofs.Common.{[], ◌∷◌}
use Rattle.wdt_good.proofs.ForCallers.{batch_good, batch_grows, batch_says, good_holds, holds_more}
use Rattle.wdt_good.proofs.laws.a_batch_is_in_what_it_leads_to.Goals as goal

pub returns-clause-grows : goal.returns-clause-grows
returns-clause-grows c version fs gs es f view adds among = batch_grows version fs gs es view adds f among

pub returns-clause-says : goal.returns-clause-says
returns-clause-says c = batch_says

pub returns-clause-holds : goal.returns-clause-holds
returns-clause-holds c = good_holds

pub returns-clause-files : goal.returns-clause-files
returns-clause-files c version T i fs gs es view adds good holds = batch_good version T i fs gs es view good holds adds

pub returns-clause-more : goal.returns-clause-more
returns-clause-more c version T i fs gs es e adds holds entry = holds_more version T i fs gs es (e ∷ []) adds holds (entry, λ hs also. tt)
