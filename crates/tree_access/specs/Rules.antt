-- What commands leave at a path, given what is there.
use Rattle.std.specs.Prelude.{◌≡◌, ℕ, Bool, false, if◌then◌else◌, List, Option, Some, None, Result, Ok, Err}
use Rattle.std.specs.Str.{bytes_eq}
use Rattle.std.specs.FinMap as map
use Rattle.link_tree.specs.declared.entry.Entry.{Entry}
use Rattle.link_tree.specs.declared.entry.Entry.TheVariants.{File, Link}
use Rattle.unit_paths.specs.Canonical.{canonical}
use Rattle.link_tree.specs.Trees.{Entries}
use Rattle.tree_access.specs.declared.refusal.Refusal.TheVariants.{Exists}
use Rattle.tree_access.specs.declared.refusal.Refusal.{Refusal}

-- what is left at a path, given what is there, or a refusal
abbrev pub Rule : Type 0
Rule = List ℕ → Option Entry → Result (Option Entry) Refusal

abbrev pub is_same_path : Option (List ℕ) → Option (List ℕ) → Bool
is_same_path (Some one) (Some other) = bytes_eq one other
is_same_path one other = false

-- whether links at a path with these targets lead to the same path; two targets that lead to no
-- path don't count as the same
abbrev pub leads_alike : (path one other : List ℕ) → Bool
leads_alike path one other = is_same_path (canonical path one) (canonical path other)

-- An empty slot gets a link to the target, and a link that leads to the same path stays; anything
-- else is in the way.
abbrev pub link_at : (target : List ℕ) → Rule
link_at target path None = Ok (Some (Link target))
link_at target path (Some (File contents)) = Err (Exists path)
link_at target path (Some (Link other)) = if leads_alike path other target then Ok (Some (Link other)) else Err (Exists path)

-- The same, but any other link is replaced.
abbrev pub relink_at : (target : List ℕ) → Rule
relink_at target path None = Ok (Some (Link target))
relink_at target path (Some (File contents)) = Err (Exists path)
relink_at target path (Some (Link other)) = if leads_alike path other target then Ok (Some (Link other)) else Ok (Some (Link target))

-- For the laws: at a path there is a link that leads where one with this target would.
abbrev pub LeadsAs : Entries → (path target : List ℕ) → Type 0
LeadsAs t path target = (text : List ℕ) × (map.get t path ≡ Some (Link text)) × (canonical path text ≡ canonical path target)
