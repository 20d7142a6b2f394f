-- How systemctl completes the words that name units: systemctl(1), "Parameter Syntax";
-- systemd-escape(1), --mangle and --path.
use Rattle.std.specs.Prelude.{ℕ, Bool, false, not, ◌&&◌, ◌||◌, ◌==◌, if◌then◌else◌, List, [], ◌∷◌, ◌++◌, codes}
use Rattle.std.specs.List.{list_any, filter, flat_map, slice_split}
use Rattle.std.specs.Str.{bytes_eq}
use Rattle.unit_name.specs.Name.{is_unit_name, is_dot}
use Rattle.unit_name.specs.Parts.{is_name_byte}
use Rattle.unit_paths.specs.Paths.{is_slash}
use Rattle.root_runs.specs.declared.names.Suffix.{Suffix}
use Rattle.root_runs.specs.declared.names.Suffix.TheVariants.{Service, Target}
use Rattle.root_runs.specs.Escapes.{hex_text}
use Prim.Native.Char.{code}

-- what is added to a word without a type
abbrev pub suffix_text : Suffix → List ℕ
suffix_text Service = codes ".service"
suffix_text Target = codes ".target"

-- a byte of a word as a name may have it
abbrev pub name_byte_text : ℕ → List ℕ
name_byte_text b =
    if is_slash b then codes "-"
    else if is_name_byte b then b ∷ []
    else hex_text b

-- a word, with each byte that names may not have escaped
abbrev pub escaped_word : List ℕ → List ℕ
escaped_word word = flat_map name_byte_text word

-- a text, with the suffix unless it is a name without it
abbrev pub with_suffix : Suffix → List ℕ → List ℕ
with_suffix suffix text = if is_unit_name text then text else text ++ suffix_text suffix

-- the bytes that paths keep in names of units: a dash stands for a slash
abbrev pub is_path_byte : ℕ → Bool
is_path_byte b = is_name_byte b && not (b == code "-" || b == code "\\" || b == code "@")

abbrev pub path_byte_text : ℕ → List ℕ
path_byte_text b = if is_path_byte b then b ∷ [] else hex_text b

-- a part of a path in a name
abbrev pub part_text : List ℕ → List ℕ
part_text part = flat_map path_byte_text part

-- the first part of a path in a name: no name begins with a dot
abbrev pub first_part_text : List ℕ → List ℕ
first_part_text [] = []
first_part_text (b ∷ bs) = (if is_dot b then hex_text b else path_byte_text b) ++ part_text bs

-- the parts of a path in a name, with dashes between them; the root is one dash
abbrev pub parts_text : List (List ℕ) → List ℕ
parts_text [] = codes "-"
parts_text (part ∷ parts) = first_part_text part ++ flat_map (λ other. codes "-" ++ part_text other) parts

-- neither empty nor `.`
abbrev pub is_kept : List ℕ → Bool
is_kept [] = false
is_kept (b ∷ bs) = not (bytes_eq (b ∷ bs) (codes "."))

-- the parts between the slashes of a path, but for empty ones and `.`
abbrev pub parts_of : List ℕ → List (List ℕ)
parts_of path = filter is_kept (slice_split is_slash path)

abbrev pub is_upward : List ℕ → Bool
is_upward part = bytes_eq part (codes "..")

abbrev pub begins_with_slash : List ℕ → Bool
begins_with_slash [] = false
begins_with_slash (b ∷ bs) = is_slash b

-- an absolute path without `..`
abbrev pub is_plain_path : List ℕ → Bool
is_plain_path word = begins_with_slash word && not (list_any is_upward (slice_split is_slash word))

-- what is beneath /dev or /sys is a device, and any other path a mount point
abbrev pub path_suffix : List (List ℕ) → List ℕ
path_suffix [] = codes ".mount"
path_suffix (part ∷ []) = codes ".mount"
path_suffix (part ∷ other ∷ parts) =
    if bytes_eq part (codes "dev") || bytes_eq part (codes "sys") then codes ".device" else codes ".mount"

-- the unit of the parts of a path: systemd.mount(5), systemd.device(5)
abbrev pub unit_of_parts : List (List ℕ) → List ℕ
unit_of_parts parts = parts_text parts ++ path_suffix parts

-- The name that a word stands for. It is no valid name if there is none, as for the empty word,
-- `@`, or one that is too long.
unfoldable pub named : Suffix → List ℕ → List ℕ
named suffix word =
    if is_unit_name word then word
    else if is_plain_path word then unit_of_parts (parts_of word)
    else with_suffix suffix (escaped_word word)
