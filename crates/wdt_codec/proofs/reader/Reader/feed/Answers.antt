use Rattle.std.specs.Prelude.{is_ok}
use Rattle.wdt_codec.proofs.PartialFiles.{fed-stands}
use Rattle.wdt_codec.proofs.reader.Reader.feed.Goals as goal

pub invariant_of-self : goal.invariant_of-self
invariant_of-self c =
    let it = c.self.inside in
    let moved = c.compact-self-inside in
    fed-stands it.partial it.bytes.items moved.new.bytes.items c.extend_from_slice.new.self.items c.args.piece.now it.start moved.result (is_ok c.extend_from_slice.result) moved.ensures.within moved.ensures.left c.self.invariant.1 c.extend_from_slice.ensures.items
