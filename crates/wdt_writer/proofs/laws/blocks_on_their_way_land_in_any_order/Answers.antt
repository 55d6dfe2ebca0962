use Rattle.wdt_writer.proofs.Settling.{settles}
use Rattle.wdt_writer.proofs.laws.blocks_on_their_way_land_in_any_order.Goals as goal

pub returns : goal.returns
returns c = λ known files parts l p sound there. settles known files parts sound.are_files sound.are_named sound.way l p there
