use Rattle.wdt_codec.proofs.Untaken.{piece-is}
use Rattle.wdt_codec.proofs.reader.Reader.piece.Goals as goal

pub returns-in-Ok-clause-taken : goal.returns-in-Ok-clause-taken
returns-in-Ok-clause-taken c =
    let it = c.self.inside in
    piece-is c.args.self.now it.bytes.items c.deref.result.now c.in-Ok.piece.items it.start it.owed c.args.count c.self.view_is c.deref.ensures.value c.in-Ok.ensures
