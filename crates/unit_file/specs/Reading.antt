-- How the bytes of a unit file are read.
use Rattle.std.specs.Prelude.{◌≡◌, ℕ, Bool, true, false, nat_lt, List, length, Result, Ok, Err}
use Rattle.std.specs.List.{list_any}
use Rattle.unit_file.specs.declared.fault.InstallFault.TheVariants.{LineTooLong}
use Rattle.unit_file.specs.declared.fault.InstallError.{InstallError}
use Rattle.unit_file.specs.declared.fault.InstallError.TheVariants as errors
use Rattle.unit_file.specs.declared.install.InstallText.{InstallText}
use Rattle.unit_file.specs.Lines.{joined_lines, logical_lines}
use Rattle.unit_file.specs.Install.{install_text}

-- What a file asks for.
unfoldable pub text_of : List ℕ → InstallText
text_of bytes = install_text (logical_lines bytes)

-- "The limit on line length is very large (currently 1 MB)": of a line as it is joined, and not yet
-- stripped.
abbrev pub is_too_long : List ℕ → Bool
is_too_long line = nat_lt 1048576 (length line)

unfoldable pub has_long_line : List ℕ → Bool
has_long_line bytes = list_any is_too_long (joined_lines bytes)

-- What `install_of` returns. Memory may run out.
abbrev pub Reads : List ℕ → Result InstallText InstallError → Type 0
Reads bytes (Ok text) = (text ≡ text_of bytes) × (has_long_line bytes ≡ false)
Reads bytes (Err (errors.Bad LineTooLong)) = has_long_line bytes ≡ true
Reads bytes (Err errors.OutOfMemory) = Unit {0}
