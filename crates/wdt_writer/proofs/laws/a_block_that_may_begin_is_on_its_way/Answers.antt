use Rattle.wdt_writer.proofs.Begun.{begun_now}
use Rattle.wdt_writer.proofs.laws.a_block_that_may_begin_is_on_its_way.Goals as goal

pub returns : goal.returns
returns c = λ known files parts h l fits sound lane idle none. begun_now known files parts h l fits sound.are_files sound.are_named sound.way lane idle none
