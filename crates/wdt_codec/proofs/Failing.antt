-- A field's failure as a function that takes memory says it.
use Rattle.std.proofs.Common.{◌≡◌, Result, Err, OnOk, Ok}
use Rattle.wdt_codec.specs.declared.stop.Stop.{Stop}
use Rattle.wdt_codec.specs.declared.stop.Stop.TheVariants.{NotYet, Bad}
use Rattle.wdt_codec.specs.Reading.{Fails, failed}

pub fails-by : {Y : Type 0} (d : Stop) (read : Result Y Stop) → read ≡ Err d → Fails (failed d) read
fails-by NotYet read e = e
fails-by (Bad left) read e = e

pub on-ok : {X E : Type 0} {A B : Type 0} (r : Result X E) → (A → B) → OnOk r A → OnOk r B
on-ok (Ok x) f a = f a
on-ok (Err e) f a = tt
