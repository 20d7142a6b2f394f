-- What is known after an error.
use Rattle.std.proofs.Common.{◌≡◌, Result, Ok, Err, subst}
use Rattle.std.specs.Prelude.{OnErr}

-- what holds in any case
pub on_err : {X E P : Type 0} (r : Result X E) → P → OnErr r P
on_err (Ok x) h = tt
on_err (Err e) h = h

-- what the contract of a call says about its error
pub from_err : {X E P : Type 0} {r : Result X E} {e : E} → r ≡ Err e → OnErr r P → P
from_err {P = P} is h = subst (λ r. OnErr r P) is h
