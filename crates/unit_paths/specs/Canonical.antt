-- Where a link leads: its target, resolved from the link's directory, as a path.
use Rattle.std.specs.Prelude.{ℕ, ◌+◌, take, drop, Bool, false, not, ◌||◌, ◌&&◌, nat_lt, nat_le, nat_eq, if◌then◌else◌, List, [], ◌∷◌, ◌++◌, length, Option, Some, None, codes}
use Rattle.std.specs.List.{slice_split, starts_with, position}
use Rattle.std.specs.Option.{option_map, option_map_or}
use Rattle.std.specs.Str.{bytes_eq}
use Rattle.unit_paths.specs.Paths.{is_part, is_slash, is_path, parent, name_at}
use Prim.Native.Char.{code}

-- what comes before the first slash and after it
abbrev pub cut_at_slash : List ℕ → Option (List ℕ × List ℕ)
cut_at_slash text = option_map (λ i. (take i text, drop (i + 1) text)) (position is_slash text)

-- one step: a part is added, an empty one and . are skipped, and .. removes the last part
unfoldable pub with_part : List ℕ → List ℕ → List ℕ
with_part text part =
    if is_part part then text ++ code "/" ∷ part
    else if bytes_eq part (codes "..") then parent text
    else text

-- a walk over the parts of a target; the root is the empty text
unfoldable pub walked : List ℕ → List (List ℕ) → List ℕ
walked text [] = text
walked text (part ∷ parts) = walked (with_part text part) parts

unfoldable pub begins_with_slash : List ℕ → Bool
begins_with_slash [] = false
begins_with_slash (b ∷ bs) = is_slash b

-- a target that begins with a slash is resolved on its own, another is joined to the link's
-- directory
unfoldable pub start_of : List ℕ → List ℕ → List ℕ
start_of link target = if begins_with_slash target then [] else parent link

-- /lib/systemd/ is read as /usr/lib/systemd/
unfoldable pub merged : List ℕ → List ℕ
merged text = if starts_with nat_eq text (codes "/lib/systemd/") then codes "/usr" ++ text else text

-- where a link at a path with a target leads, as a text of any length
abbrev pub canonical_text : List ℕ → List ℕ → List ℕ
canonical_text link target = merged (walked (start_of link target) (slice_split is_slash target))

-- the same as a path: none if it is the root or too long
abbrev pub canonical : List ℕ → List ℕ → Option (List ℕ)
canonical link target = if is_path (canonical_text link target) then Some (canonical_text link target) else None

-- it is neither the root nor too long
abbrev pub fits : List ℕ → Bool
fits text = nat_lt 0 (length text) && nat_le (length text) 4095

-- whether a link at a path with a target leads to /dev/null
unfoldable pub is_null_target : List ℕ → List ℕ → Bool
is_null_target link target = option_map_or (λ path. bytes_eq path (codes "/dev/null")) (canonical link target) false

-- used only by the code, no public contract refers to it: whether a walk over a target may end with
-- null, because its last part is null or is empty, . or ..
abbrev pub may_end_with_null : List ℕ → Bool
may_end_with_null target = not (is_part (name_at target)) || bytes_eq (name_at target) (codes "null")
