-- The exit status of a program if its arguments are rejected.
use Rattle.std.specs.Prelude.{ℕ}
use Rattle.arguments.specs.declared.words.ArgumentError.{ArgumentError}
use Rattle.arguments.specs.declared.words.ArgumentError.TheVariants.{BadArguments, OutOfMemory}

abbrev pub status_of : ArgumentError → ℕ
status_of BadArguments = 2
status_of OutOfMemory = 1
