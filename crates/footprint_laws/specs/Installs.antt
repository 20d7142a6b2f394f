-- Which keys the commands that install units look at, each the contract of a public function.
use Rattle.std.specs.Prelude.{◌≡◌, ◌≢◌, ℕ, ◌↔◌, Bool, true, false, List, All, Contains, Some, Ok}
use Rattle.std.specs.FinMap as map
use Rattle.unit_file.specs.Notices.{NoticeMap}
use Rattle.unit_paths.specs.declared.place.Scope.{Scope}
use Rattle.link_tree.specs.declared.entry.Entry.{Entry}
use Rattle.link_tree.specs.declared.entry.Entry.TheVariants as entries
use Rattle.link_tree.specs.Trees.{Entries}
use Rattle.load_path.specs.Follow.{chain_from}
use Rattle.install_section.specs.declared.closed.Closed.{Closed}
use Rattle.install_section.specs.declared.wants.Wanted.{Wanted}
use Rattle.install_section.specs.Closure.{IsUnit, Reached, closure}
use Rattle.preset_rules.specs.Files.{presets_of, winners}
use Rattle.footprint.specs.declared.answer.Answer.TheVariants.{Refused}
use Rattle.tree_access.specs.declared.key.Key.{Key}
use Rattle.tree_access.specs.declared.key.Key.TheVariants.{Cell, Marked, Presets}
use Rattle.tree_access.specs.declared.refusal.Refusal.TheVariants.{TooMany}
use Rattle.footprint.specs.Commands.{carried_out}
use Rattle.footprint.specs.Operations.{is_refused}
use Rattle.footprint.specs.Units.{IsFound}
use Rattle.install_commands.specs.declared.check.Check.{Check}
use Rattle.install_commands.specs.declared.disable.Disable.{Disable}
use Rattle.install_commands.specs.declared.enable.Enable.{Enable}
use Rattle.install_commands.specs.declared.preset.Preset.{Preset}
use Rattle.install_commands.specs.declared.reenable.Reenable.{Reenable}
use Rattle.install_commands.specs.Check.{check_meaning}
use Rattle.install_commands.specs.CompositeLaws.{IsCleared}
use Rattle.install_commands.specs.Disable.{disable_meaning}
use Rattle.install_commands.specs.Enable.{checked_want, enable_meaning}
use Rattle.install_commands.specs.Laws.{IsGone, IsNamed, IsRemoved, IsWantedBy, Leaves}
use Rattle.install_commands.specs.Preset.{disabled_telling, preset_judges, preset_meaning}
use Rattle.install_commands.specs.Reenable.{reenable_disables, reenable_meaning}
use Rattle.footprint_laws.specs.Sets.{LooksAt, IsUpTo, IsLookedUp, IsLookedUpWith, IsNamedAt}

-- A closure: the paths at which one of its units is looked up, or a name that a word of its `Also=`
-- gives. If it is refused, it stops at some of these.
pub record ClosurePaths (given : List (List ℕ)) (t : Entries) (path : List ℕ) : Type 0 where
  pub only : Contains ((closure given).cells t) path → IsLookedUpWith t (Reached t given) path
  pub all : (closed : Closed) → (closure given).conclusion t ≡ Ok closed → IsLookedUpWith t (Reached t given) path → Contains ((closure given).cells t) path

abbrev pub ClosureLooks : Type 0
ClosureLooks = (given : List (List ℕ)) (t : Entries) (path : List ℕ) → ClosurePaths given t path

-- check: the paths at which each unit is looked up, up to the first that isn't found under its own
-- name.
pub data CheckKeys (units : List (List ℕ)) (t : Entries) : Key → Type 0 where
  Checked : (unit path : List ℕ) → IsUpTo (IsUnit t) units unit → IsLookedUp t unit path → CheckKeys units t (Cell path)

abbrev pub CheckLooks : Type 0
CheckLooks = (check : Check) (t : Entries) (key : Key) → LooksAt check_meaning check t key ↔ CheckKeys check.units t key

-- enable: the keys of a check; if all units pass it, the paths at which the units that they reach
-- by `Also=` are looked up, together with what those name; and, once it is settled which links are
-- wanted, the path of each, also if the link or something else is there.
pub data EnableKeys (scope : Scope) (skip : Bool) (units : List (List ℕ)) (t : Entries) : Key → Type 0 where
  Checked : (unit path : List ℕ) → IsUpTo (IsUnit t) units unit → IsLookedUp t unit path → EnableKeys scope skip units t (Cell path)
  Also : (path : List ℕ) → All (IsUnit t) units → IsLookedUpWith t (Reached t units) path → EnableKeys scope skip units t (Cell path)
  Link : (path file : List ℕ) (settled : Wanted) → (checked_want scope skip units).conclusion t ≡ Ok settled → IsWantedBy scope units t path file → EnableKeys scope skip units t (Cell path)

-- These are the keys, whatever the answer; only over 1,024 units are refused as soon as they are
-- too many.
pub record EnableLooksAt (enable : Enable) (t : Entries) (key : Key) : Type 0 where
  pub only : LooksAt enable_meaning enable t key → EnableKeys enable.scope false enable.units t key
  pub all : ((enable_meaning enable).conclusion t).answer ≢ Refused TooMany → EnableKeys enable.scope false enable.units t key → LooksAt enable_meaning enable t key

abbrev pub EnableLooks : Type 0
EnableLooks = (enable : Enable) (t : Entries) (key : Key) → EnableLooksAt enable t key

-- disable: the paths at which its names are looked up; and, unless it is refused, for each of the
-- names the links of the scope that belong to it, and the paths of those links.
pub data DisableKeys (disable : Disable) (t : Entries) : Key → Type 0 where
  Name : (path : List ℕ) → IsNamedAt t disable.units path → DisableKeys disable t (Cell path)
  Links : (name : List ℕ) → is_refused ((disable_meaning disable).conclusion t).answer ≡ false → IsNamed t disable.units name → DisableKeys disable t (Marked disable.scope name)
  Link : (path : List ℕ) (entry : Entry) → is_refused ((disable_meaning disable).conclusion t).answer ≡ false → map.get t path ≡ Some entry → IsRemoved disable t path entry → DisableKeys disable t (Cell path)

-- These are the keys, except that over 1,024 units are refused as soon as they are too many.
pub record DisableLooksAt (disable : Disable) (t : Entries) (key : Key) : Type 0 where
  pub only : LooksAt disable_meaning disable t key → DisableKeys disable t key
  pub all : is_refused ((disable_meaning disable).conclusion t).answer ≡ false → DisableKeys disable t key → LooksAt disable_meaning disable t key

abbrev pub DisableLooks : Type 0
DisableLooks = (disable : Disable) (t : Entries) (key : Key) → DisableLooksAt disable t key

-- The disable part of a reenable leaves this tree.
abbrev pub LeavesFirst : Reenable → (t v : Entries) → Type 0
LeavesFirst reenable t v = Leaves (carried_out (reenable_disables reenable)) t v

-- reenable: the keys of a check; if all units pass it, the paths at which the names of a disable
-- are looked up; unless that is refused, for each of the names the links of the scope that belong
-- to it, and the paths of those that are removed; and, in the tree that is left, the keys of an
-- enable.
pub data ReenableKeys (reenable : Reenable) (t : Entries) : Key → Type 0 where
  Checked : (unit path : List ℕ) → IsUpTo (IsUnit t) reenable.units unit → IsLookedUp t unit path → ReenableKeys reenable t (Cell path)
  Name : (path : List ℕ) → All (IsUnit t) reenable.units → IsNamedAt t reenable.units path → ReenableKeys reenable t (Cell path)
  Links : (v : Entries) (name : List ℕ) → LeavesFirst reenable t v → IsNamed t reenable.units name → ReenableKeys reenable t (Marked reenable.scope name)
  Link : (v : Entries) (path : List ℕ) (entry : Entry) → LeavesFirst reenable t v → map.get t path ≡ Some entry → IsCleared reenable t path entry → ReenableKeys reenable t (Cell path)
  Then : (v : Entries) (key : Key) → LeavesFirst reenable t v → EnableKeys reenable.scope false reenable.units v key → ReenableKeys reenable t key

-- These are the keys, whatever the answer, except that over 1,024 units are refused as soon as they
-- are too many.
pub record ReenableLooksAt (reenable : Reenable) (t : Entries) (key : Key) : Type 0 where
  pub only : LooksAt reenable_meaning reenable t key → ReenableKeys reenable t key
  pub all : ((reenable_meaning reenable).conclusion t).answer ≢ Refused TooMany → ReenableKeys reenable t key → LooksAt reenable_meaning reenable t key

abbrev pub ReenableLooks : Type 0
ReenableLooks = (reenable : Reenable) (t : Entries) (key : Key) → ReenableLooksAt reenable t key

-- A name is found as a unit, under its own name or another one.
abbrev pub IsSomeUnit : Entries → (name : List ℕ) → Type 0
IsSomeUnit t name = (real file : List ℕ) × IsFound t name real file

-- A path to which the link at a winning preset slot leads; of the slots with the same file name one
-- wins.
abbrev pub IsPresetEnd : Entries → (path : List ℕ) → Type 0
IsPresetEnd t path =
    (slot target : List ℕ) × Contains (map.values (winners (presets_of t))) slot × (map.get (presets_of t) slot ≡ Some (entries.Link target)) × Contains ((chain_from slot (entries.Link target)).cells t) path

-- A preset begins with these verdicts: the units to disable, and those to enable.
abbrev pub Judges : Preset → Entries → (disabled enabled : List (List ℕ)) → NoticeMap → Type 0
Judges preset t disabled enabled notices = (preset_judges preset).conclusion t ≡ Ok (record { disabled = disabled; enabled = enabled; notices = notices })

-- The disable part of a preset with these verdicts leaves this tree.
pub record Disables (preset : Preset) (t : Entries) (disabled enabled : List (List ℕ)) (v : Entries) : Type 0 where
  pub notices : NoticeMap
  pub judges : Judges preset t disabled enabled notices
  pub leaves : Leaves (carried_out (disabled_telling preset.scope disabled notices)) t v

-- preset: the paths at which each unit is looked up, up to the first that isn't found; if all are,
-- all slots of presets, and the paths to which links at the winning ones lead; the paths at which
-- the names of a disable of the units to disable are looked up; unless that is refused, for each of
-- the names the links of the scope that belong to it, and the paths of those links; and, in the
-- tree that is left, the keys of an enable of the units to enable, in which words that need an
-- instance ask for nothing.
pub data PresetKeys (preset : Preset) (t : Entries) : Key → Type 0 where
  Counted : (unit path : List ℕ) → IsUpTo (IsSomeUnit t) preset.units unit → IsLookedUp t unit path → PresetKeys preset t (Cell path)
  AllPresets : All (IsSomeUnit t) preset.units → PresetKeys preset t Presets
  Policy : (path : List ℕ) → All (IsSomeUnit t) preset.units → IsPresetEnd t path → PresetKeys preset t (Cell path)
  Name : (disabled enabled : List (List ℕ)) (notices : NoticeMap) (path : List ℕ) → Judges preset t disabled enabled notices → IsNamedAt t disabled path → PresetKeys preset t (Cell path)
  Links : (disabled enabled : List (List ℕ)) (v : Entries) (name : List ℕ) → Disables preset t disabled enabled v → IsNamed t disabled name → PresetKeys preset t (Marked preset.scope name)
  Link : (disabled enabled : List (List ℕ)) (v : Entries) (path : List ℕ) (entry : Entry)
      → Disables preset t disabled enabled v → map.get t path ≡ Some entry → IsGone preset.scope disabled t path entry → PresetKeys preset t (Cell path)
  Then : (disabled enabled : List (List ℕ)) (v : Entries) (key : Key) → Disables preset t disabled enabled v → EnableKeys preset.scope true enabled v key → PresetKeys preset t key

-- These are the keys, whatever the answer, except that over 1,024 units are refused as soon as they
-- are too many.
pub record PresetLooksAt (preset : Preset) (t : Entries) (key : Key) : Type 0 where
  pub only : LooksAt preset_meaning preset t key → PresetKeys preset t key
  pub all : ((preset_meaning preset).conclusion t).answer ≢ Refused TooMany → PresetKeys preset t key → LooksAt preset_meaning preset t key

abbrev pub PresetLooks : Type 0
PresetLooks = (preset : Preset) (t : Entries) (key : Key) → PresetLooksAt preset t key
