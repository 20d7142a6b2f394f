-- Laws of reenabling and of presets, each the contract of a public function: systemctl(1),
-- "reenable", "preset".
use Rattle.std.specs.Prelude.{◌≡◌, ℕ, Bool, ◌↔◌, ◌⊎◌, true, false, List, [], ◌∷◌, ◌++◌, All, Contains, Some, Ok, Err}
use Rattle.unit_file.specs.Listed.{is_template_name}
use Rattle.unit_paths.specs.Slots.{slot_of}
use Rattle.unit_paths.specs.Kinds.{is_unit_slot}
use Rattle.unit_paths.specs.declared.place.Place.{Place}
use Rattle.link_tree.specs.declared.entry.Entry.{Entry}
use Rattle.link_tree.specs.declared.entry.Entry.TheVariants.{Link}
use Rattle.link_tree.specs.Links.{belongs}
use Rattle.link_tree.specs.Trees.{Entries}
use Rattle.load_path.specs.declared.finding.Found.TheVariants.{Unit}
use Rattle.load_path.specs.Find.{find}
use Rattle.load_path.specs.RealNames.{put_in}
use Rattle.install_section.specs.Closure.{IsUnit}
use Rattle.preset_rules.specs.declared.rule.Rule.{Rule}
use Rattle.preset_rules.specs.declared.rule.Verdict.TheVariants as verdicts
use Rattle.preset_rules.specs.Files.{policy_of}
use Rattle.preset_rules.specs.Laws.{HasNoPresets, disable_all}
use Rattle.preset_rules.specs.Verdicts.{verdict}
use Rattle.footprint.specs.declared.answer.Answer.TheVariants.{Refused}
use Rattle.tree_access.specs.declared.refusal.Refusal.{Refusal}
use Rattle.footprint.specs.Commands.{Command, carried_out}
use Rattle.footprint.specs.Inquiry.{Inquiry}
use Rattle.tree_access.specs.Keys.{AgreeOn}
use Rattle.footprint.specs.Operations.{Effect}
use Rattle.tree_access.specs.Rules.{LeadsAs}
use Rattle.install_commands.specs.declared.judging.Judged.{Judged}
use Rattle.install_commands.specs.declared.preset.Preset.{Preset}
use Rattle.install_commands.specs.declared.reenable.Reenable.{Reenable}
use Rattle.install_commands.specs.Disable.{units_named, disable_meaning}
use Rattle.install_commands.specs.Enable.{checked_want, units_enabled}
use Rattle.install_commands.specs.Laws.{Leaves, ChangesNothing, IsNamed, IsWantedBy, Without}
use Rattle.install_commands.specs.Preset.{counts, counting_behind, preset_judges, judged_disabled, judged_enabled, preset_meaning}
use Rattle.install_commands.specs.Reenable.{reenable_disables, reenable_enables, reenable_meaning}

-- It leaves a tree exactly if the first command leaves one from which the second makes that tree.
abbrev pub LeavesInTurn : (whole : Inquiry Effect) → (first second : Command) → (t : Entries) → Type 0
LeavesInTurn whole first second t = (u : Entries) → Leaves whole t u ↔ ((v : Entries) × Leaves (carried_out first) t v × Leaves (carried_out second) v u)

-- It is refused exactly if the first command is, or the second in the tree that the first leaves.
abbrev pub IsRefusedInTurn : (whole : Inquiry Effect) → (first second : Command) → (t : Entries) → Type 0
IsRefusedInTurn whole first second t = (refusal : Refusal) → ((whole.conclusion t).answer ≡ Refused refusal)
    ↔ ((((carried_out first).conclusion t).answer ≡ Refused refusal) ⊎ ((v : Entries) × Leaves (carried_out first) t v × (((carried_out second).conclusion v).answer ≡ Refused refusal)))

-- A reenable is its disable part, and then an enable.
abbrev pub ReenableInTurn : Type 0
ReenableInTurn = (reenable : Reenable) (t : Entries)
    → LeavesInTurn (reenable_meaning reenable) (reenable_disables reenable) (reenable_enables reenable) t
    × IsRefusedInTurn (reenable_meaning reenable) (reenable_disables reenable) (reenable_enables reenable) t

-- A name is found as a unit whose file is in none of the four directories, and this is one of the
-- paths that were looked at.
abbrev pub IsWayOutside : Entries → (name path : List ℕ) → Type 0
IsWayOutside t name path = (real file : List ℕ) × (place : Place) × ((find name).conclusion t ≡ Unit real file place) × (is_unit_slot (slot_of file) ≡ false) × Contains ((find name).cells t) path

-- A link of the scope belongs to one of the names of a disable, and is not needed to find a file
-- outside the four directories.
abbrev pub IsCleared : Reenable → Entries → (path : List ℕ) → Entry → Type 0
IsCleared reenable t path entry =
    ((name : List ℕ) × IsNamed t reenable.units name × (belongs reenable.scope name path entry ≡ true)) × ¬ ((name : List ℕ) × IsNamed t reenable.units name × IsWayOutside t name path)

-- The disable part leaves the tree without these, and accepts only units that enable accepts.
abbrev pub ReenableClears : Type 0
ReenableClears = (reenable : Reenable) (t v : Entries) → Leaves (carried_out (reenable_disables reenable)) t v → Without (IsCleared reenable t) t v × All (IsUnit t) reenable.units

-- A reenable of units whose links are as enable makes them changes nothing. The conditions: enable
-- wants all links that are removed, all links that it wants exist with the right target, and what
-- it looks up is unchanged.
abbrev pub ReenableOfEnabled : Type 0
ReenableOfEnabled = (reenable : Reenable) (t u v : Entries) → Leaves (reenable_meaning reenable) t u → Leaves (carried_out (reenable_disables reenable)) t v
    → AgreeOn ((checked_want reenable.scope false reenable.units).keys t) t v
    → ((path : List ℕ) (entry : Entry) → IsCleared reenable t path entry → (file : List ℕ) × IsWantedBy reenable.scope reenable.units t path file × (entry ≡ Link file))
    → ((path file : List ℕ) → IsWantedBy reenable.scope reenable.units t path file → LeadsAs t path file)
    → ChangesNothing (reenable_meaning reenable) t

-- what the preset files of a tree say
abbrev pub rules_of : Entries → List Rule
rules_of t = (policy_of t).conclusion t

-- A unit is found, is no alias, and its section names a unit or asks for a link.
abbrev pub Counts : Entries → (unit : List ℕ) → Type 0
Counts t unit = (counts unit).conclusion t ≡ Ok true

-- A unit that will be enabled with these instances gives this one: a template gives each instance
-- that makes a valid name, and any other unit gives itself.
abbrev pub GivesUnit : (given : List ℕ) → (instances : List (List ℕ)) → (unit : List ℕ) → Type 0
GivesUnit given [] unit = unit ≡ given
GivesUnit given (first ∷ instances) unit =
    ((is_template_name given ≡ false) × (unit ≡ given)) ⊎ ((is_template_name given ≡ true) × (instance : List ℕ) × Contains (first ∷ instances) instance × (put_in given (Some instance) ≡ Some unit))

-- Disabled are those of the given units that count and that the preset files of the first tree
-- disable; enabled are those that are given by the ones that count and that these files enable. So
-- a unit that the files ignore is neither.
abbrev pub PresetJudges : Type 0
PresetJudges = (preset : Preset) (t : Entries) (judged : Judged) → ((preset_judges preset).conclusion t ≡ Ok judged)
    → ((unit : List ℕ) → Contains judged.disabled unit ↔ (Contains preset.units unit × Counts t unit × (verdict (rules_of t) unit ≡ verdicts.Disable)))
    × ((unit : List ℕ) → Contains judged.enabled unit
    ↔ ((given : List ℕ) × Contains preset.units given × Counts t given × (instances : List (List ℕ)) × (verdict (rules_of t) given ≡ verdicts.Enable instances) × GivesUnit given instances unit))

-- A unit isn't found, but all before it are.
abbrev pub IsFirstMissing : Entries → (units : List (List ℕ)) → Refusal → Type 0
IsFirstMissing t units refusal = (before after : List (List ℕ)) × (unit : List ℕ) × (units ≡ before ++ unit ∷ after)
    × All (λ unit. (here : Bool) × ((counts unit).conclusion t ≡ Ok here)) before × ((counts unit).conclusion t ≡ Err refusal)

-- A preset is a disable of the units to disable, and then an enable of the others; if there is no
-- verdict, it is refused for the first unit that isn't found.
abbrev pub PresetInTurn : Type 0
PresetInTurn = (preset : Preset) (t : Entries)
    → ((judged : Judged) → ((preset_judges preset).conclusion t ≡ Ok judged)
    → LeavesInTurn (preset_meaning preset) (judged_disabled preset.scope judged) (judged_enabled preset.scope judged) t
    × IsRefusedInTurn (preset_meaning preset) (judged_disabled preset.scope judged) (judged_enabled preset.scope judged) t)
    × ((refusal : Refusal) → ((preset_judges preset).conclusion t ≡ Err refusal) ↔ IsFirstMissing t preset.units refusal)
    × ((refusal : Refusal) → ((preset_judges preset).conclusion t ≡ Err refusal) → ((preset_meaning preset).conclusion t).answer ≡ Refused refusal)

-- If there is no preset file, a preset enables the units that count, except for words that need an
-- instance,
abbrev pub PresetEnablesAll : Type 0
PresetEnablesAll = (preset : Preset) (t : Entries) (units : List (List ℕ)) → HasNoPresets t → ((counting_behind [] preset.units).conclusion t ≡ Ok units)
    → (preset_meaning preset).conclusion t ≡ (carried_out (units_enabled preset.scope true units)).conclusion t

-- and if the only rule is to disable all, it disables them.
abbrev pub PresetDisablesAll : Type 0
PresetDisablesAll = (preset : Preset) (t : Entries) (units : List (List ℕ)) → (rules_of t ≡ disable_all ∷ []) → ((counting_behind [] preset.units).conclusion t ≡ Ok units)
    → (preset_meaning preset).conclusion t ≡ (disable_meaning (record { scope = preset.scope; units = units })).conclusion t

-- The same preset once more changes nothing, if for each of its parts what it looks up is
-- unchanged: the verdicts, the names that are disabled, and what the enable part looks up in the
-- tree that the disable part leaves this time.
abbrev pub PresetAgain : Type 0
PresetAgain = (preset : Preset) (judged : Judged) (t v u again : Entries) → ((preset_judges preset).conclusion t ≡ Ok judged)
    → Leaves (carried_out (judged_disabled preset.scope judged)) t v → Leaves (carried_out (judged_enabled preset.scope judged)) v u
    → Leaves (carried_out (judged_disabled preset.scope judged)) u again
    → AgreeOn ((preset_judges preset).keys t) t u → AgreeOn ((units_named judged.disabled).keys t) t u → AgreeOn ((checked_want preset.scope true judged.enabled).keys v) v again
    → ((preset_meaning preset).conclusion u).changes ≡ []
