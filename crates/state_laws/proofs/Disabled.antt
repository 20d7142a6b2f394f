-- Names that were disabled aren't reported as enabled.
use Rattle.std.proofs.Common.{ℕ, List}
use Rattle.unit_paths.specs.declared.place.Scope.{Scope}
use Rattle.unit_paths.specs.declared.place.Scope.TheVariants.{Etc, Run}
use Rattle.link_tree.specs.Trees.{Entries}
use Rattle.install_commands.proofs.Disabled.{disable_removes}
use Rattle.states.specs.Laws.{IsLinkedIn, Tells}
use Rattle.states.specs.Laws.Tells.{LinkedInEtc, LinkedInRun}
use Rattle.states.proofs.Words.{words_are_told}
use Rattle.state_laws.specs.Laws.{enabled_word, DisabledIsNotEnabled}

-- a unit that is reported as enabled has a link of the scope
linked : (scope : Scope) (t : Entries) (name : List ℕ) → Tells t name (enabled_word scope) → IsLinkedIn scope t name
linked Etc t name (LinkedInEtc unit link) = link
linked Run t name (LinkedInRun unit none link) = link

pub disabled_is_not_enabled : DisabledIsNotEnabled
disabled_is_not_enabled disable t u leaves name named told =
    let link = linked disable.scope u name ((words_are_told name u (enabled_word disable.scope)).0 told) in
    ((disable_removes disable t u leaves link.0 link.1).0 link.2).1 (name, named, link.3)
