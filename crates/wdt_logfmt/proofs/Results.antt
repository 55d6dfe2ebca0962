-- Facts that hold where a result is Ok.
use Rattle.std.proofs.Common.{Result, Ok, Err, OnOk}

pub on-ok : {A E : Type 0} {P Q : Type 0} (r : Result A E) → (P → Q) → OnOk r P → OnOk r Q
on-ok (Ok x) f h = f h
on-ok (Err e) f h = tt
