use Rattle.std.proofs.lemmas.Bool.{and_from, and_parts}
use Rattle.wdt_funnel.specs.Happenings.{closes, is_closed, is_heard}
use Rattle.wdt_funnel.proofs.Histories.{any_stays, heard_stays}
use Rattle.wdt_funnel.proofs.laws.what_is_confirmed_stays.Goals as goal

pub returns-clause-closed : goal.returns-clause-closed
returns-clause-closed c = λ history more l h. any_stays (closes l) history more h

pub returns-clause-confirmed : goal.returns-clause-confirmed
returns-clause-confirmed c = λ history more l h.
    and_from _ _ (any_stays (closes l) history more (and_parts (is_closed history l) (is_heard history l) h).0) (heard_stays history more l (and_parts (is_closed history l) (is_heard history l) h).1)
