-- Under which keys rows are listed, and which rows are found by the texts in a change.
use Rattle.std.specs.Prelude.{◌≡◌, ℕ, Bool, false, not, ◌&&◌, ◌||◌, List, Option, Some, None}
use Rattle.std.specs.List.{list_any, after_last}
use Rattle.std.specs.Ordering.{nat_cmp}
use Rattle.std.specs.BTreeMap.{is_at}
use Rattle.unit_name.specs.Parts.{kind_of}
use Rattle.unit_name.specs.Name.{instance_of}
use Rattle.link_tree.specs.declared.entry.Entry.{Entry}
use Rattle.link_tree.specs.declared.entry.Entry.TheVariants.{File, Link}
use Rattle.link_tree.specs.declared.change.Change.{Change}
use Rattle.unit_paths.specs.declared.place.Scope.{Scope}
use Rattle.unit_paths.specs.declared.place.Scope.TheVariants as scopes
use Rattle.unit_paths.specs.Paths.{is_slash, name_at}
use Rattle.unit_paths.specs.Canonical.{is_null_target}
use Rattle.unit_paths.specs.Slots.{slot_of}
use Rattle.unit_paths.specs.Kinds.{is_preset, is_dependency, scope_of}
use Rattle.tree_access.specs.declared.key.Key.{Key}
use Rattle.tree_access.specs.declared.key.Key.TheVariants.{Cell, Marked, Presets, Links}
use Rattle.tree_access.specs.declared.reading.Observation.{Observation}
use Rattle.readers.specs.declared.readers.Readers.{Readers}
use Rattle.link_tree.specs.Links.{is_instance}
use Rattle.tree_access.specs.Order.{key_cmp}
use Rattle.readers.specs.Numbers.{Lists, has, lists}

-- whether row i is listed under a key
abbrev pub reads : Readers → Key → ℕ → Bool
reads r (Cell path) i = lists r.cells path i
reads r (Marked scopes.Etc name) i = lists r.etc name i
reads r (Marked scopes.Run name) i = lists r.run name i
reads r Presets i = has r.presets i
reads r Links i = has r.links i

-- whether two keys are the same
abbrev pub is_key : Key → Key → Bool
is_key key other = is_at (key_cmp key) other

-- whether a key is one of a reading
abbrev pub is_read : List Observation → Key → Bool
is_read reading key = list_any (λ observation. is_key key observation.key) reading

-- Row n is listed under the keys of a reading; otherwise nothing changes.
abbrev pub IsListed : List Observation → ℕ → Readers → Readers → Type 0
IsListed reading n old new = (key : Key) (i : ℕ) → reads new key i ≡ ((is_read reading key && is_at (nat_cmp n) i) || reads old key i)

-- Row n is listed under none of the keys of a reading; otherwise nothing changes.
abbrev pub IsUnlisted : List Observation → ℕ → Readers → Readers → Type 0
IsUnlisted reading n old new = (key : Key) (i : ℕ) → reads new key i ≡ (not (is_read reading key && is_at (nat_cmp n) i) && reads old key i)

-- Under each key the same rows are listed as before.
abbrev pub AreAlike : Readers → Readers → Type 0
AreAlike old new = (key : Key) (i : ℕ) → reads new key i ≡ reads old key i

-- whether a row is listed under a link's file name, or under the last part of its target, unless
-- that is the name of an instance
abbrev pub is_named_in : Lists → (name last : List ℕ) → ℕ → Bool
is_named_in l name last i = lists l name i || (not (is_instance (kind_of (instance_of last))) && lists l last i)

-- the same in a scope, if there is one
abbrev pub is_marked_of : Readers → Option Scope → (name last : List ℕ) → ℕ → Bool
is_marked_of r None name last i = false
is_marked_of r (Some scopes.Etc) name last i = is_named_in r.etc name last i
is_marked_of r (Some scopes.Run) name last i = is_named_in r.run name last i

-- whether a row is listed under a name to which the entry at a path belongs; a file belongs to
-- none, nor does a link to /dev/null
abbrev pub is_marked_in : Readers → (path : List ℕ) → Option Entry → ℕ → Bool
is_marked_in r path None i = false
is_marked_in r path (Some (File contents)) i = false
is_marked_in r path (Some (Link target)) i = not (is_null_target path target) && is_marked_of r (scope_of (slot_of path)) (name_at path) (after_last is_slash target) i

-- whether a row is listed under a key that a change touches
abbrev pub is_touched_in : Readers → Change → ℕ → Bool
is_touched_in r change i =
    lists r.cells change.path i || (is_marked_in r change.path change.before i || (is_marked_in r change.path change.after i
    || ((is_preset (slot_of change.path) && has r.presets i) || (is_dependency (slot_of change.path) && has r.links i))))
