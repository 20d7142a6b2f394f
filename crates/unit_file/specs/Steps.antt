-- How one logical line changes what was read from the lines before it. The contracts of the
-- reader's own functions refer to this; it is proved that the changes add up to what a file asks
-- for, so this need not be trusted.
use Rattle.std.specs.Prelude.{ℕ, Bool, if◌then◌else◌, List, [], ◌++◌, Option, Some, None, codes}
use Rattle.std.specs.Str.{bytes_eq}
use Rattle.unit_file.specs.declared.install.InstallText.{InstallText}
use Rattle.unit_file.specs.Install.{is_empty, opens_section, is_install, assignment, words}

abbrev pub with_value : List (List ℕ) → List ℕ → List (List ℕ)
with_value list value = if is_empty value then [] else list ++ words value

abbrev pub with_words : List (List ℕ) → List ℕ → List (List ℕ)
with_words list value = list ++ words value

abbrev pub unless_empty : List ℕ → Option (List ℕ)
unless_empty value = if is_empty value then None else Some value

unfoldable pub with_assignment : InstallText → List ℕ → List ℕ → InstallText
with_assignment text key value = record {
  wanted_by = (if bytes_eq key (codes "WantedBy") then with_value text.wanted_by value else text.wanted_by);
  required_by = (if bytes_eq key (codes "RequiredBy") then with_value text.required_by value else text.required_by);
  upheld_by = (if bytes_eq key (codes "UpheldBy") then with_value text.upheld_by value else text.upheld_by);
  alias = (if bytes_eq key (codes "Alias") then with_value text.alias value else text.alias);
  also = (if bytes_eq key (codes "Also") then with_words text.also value else text.also);
  default_instance = (if bytes_eq key (codes "DefaultInstance") then unless_empty value else text.default_instance);
}

abbrev pub with_pair : InstallText → Option (List ℕ × List ℕ) → InstallText
with_pair text None = text
with_pair text (Some pair) = with_assignment text pair.0 pair.1

-- whether the lines after this one are those of [Install]
unfoldable pub inside_after : Bool → List ℕ → Bool
inside_after inside line = if opens_section line then is_install line else inside

-- what was read, after a line
unfoldable pub text_after : Bool → InstallText → List ℕ → InstallText
text_after inside text line =
    if opens_section line then text
    else if inside then with_pair text (assignment line)
    else text

abbrev pub nothing : InstallText
nothing = record { wanted_by = []; required_by = []; upheld_by = []; alias = []; also = []; default_instance = None }
