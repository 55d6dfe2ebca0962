use Rattle.wdt_depot.proofs.Images.{synced_image_here, synced_images, synced_reads}
use Rattle.wdt_depot.proofs.laws.a_sync_leaves_what_is_read.Goals as goal

pub returns-clause-here : goal.returns-clause-here
returns-clause-here c = synced_image_here

pub returns-clause-nothing_new : goal.returns-clause-nothing_new
returns-clause-nothing_new c = synced_images

pub returns-clause-reads : goal.returns-clause-reads
returns-clause-reads c path other d = synced_reads path d other
