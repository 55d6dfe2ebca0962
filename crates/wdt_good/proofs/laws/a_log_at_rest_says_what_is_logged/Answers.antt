use Rattle.std.proofs.Common.{refl}
use Rattle.wdt_good.proofs.ForCallers.{fit_files, log_stays, logged_covers, logged_names, only_covers, only_names, rest_means}
use Rattle.wdt_good.proofs.laws.a_log_at_rest_says_what_is_logged.Goals as goal

pub returns-clause-means : goal.returns-clause-means
returns-clause-means c version fs end d i log image = rest_means version fs end d log d refl i image

pub returns-clause-names : goal.returns-clause-names
returns-clause-names c version fs end d path log sound = (only_names version fs end d log sound path, logged_names version fs end d log path)

pub returns-clause-covers : goal.returns-clause-covers
returns-clause-covers c version fs end d path k log sound = (only_covers version fs end d log sound path k, logged_covers version fs end d log path k)

pub returns-clause-files : goal.returns-clause-files
returns-clause-files c version T fs end d i log fit image = fit_files version fs end d log T fit i image

pub returns-clause-stays : goal.returns-clause-stays
returns-clause-stays c version fs end d e log same = log_stays version fs end d log e same
