-- The final value of a variable to which units are added.
use Rattle.std.specs.Prelude.{Result, Ok, Err}
use Rattle.install_section.specs.declared.closed.ClosureFault.{ClosureFault}

-- the value at the end, unless there are too many units
abbrev pub grown : {X Y : Type 0} → (end : Result Y ClosureFault) → (after : X) → Result X ClosureFault
grown (Ok done) after = Ok after
grown (Err fault) after = Err fault
