-- With no units there is nothing to disable or enable.
use Rattle.std.proofs.Common.{◌≡◌, ℕ, Bool, List, [], Ok, refl, sym, ap, ◌∙◌}
use Rattle.std.specs.FinMap as map
use Rattle.std.specs.FinMap.Entries.{same_entries}
use Rattle.std.specs.Cmp.Lexicographic.{nat_list_cmp_total}
use Rattle.std.proofs.lemmas.Map.Lookups.{exact_bytes}
use Rattle.unit_paths.specs.declared.place.Scope.{Scope}
use Rattle.link_tree.specs.Trees.{path_cmp, Entries}
use Rattle.install_section.specs.declared.closed.Closed.{Closed}
use Rattle.install_section.specs.Closure.{closed_from, closure}
use Rattle.install_section.specs.Wanted.{wanted}
use Rattle.unit_file.proofs.NoticeMaps.{none-joined}
use Rattle.unit_file.specs.Notices.{joined}
use Rattle.footprint.specs.Commands.{carried_out, taken, unless_refused, effect}
use Rattle.footprint.specs.declared.answer.Answer.TheVariants.{Done}
use Rattle.tree_access.specs.Placing.{all_wanted}
use Rattle.install_section.specs.declared.wants.Wanted.{Wanted}
use Rattle.install_commands.specs.declared.disable.Named.{Named}
use Rattle.install_commands.specs.Check.{going_on}
use Rattle.install_commands.specs.Disable.{named_with, units_named}
use Rattle.install_commands.specs.Enable.{unless_too_many, unless_at_odds, closed_want, checked_want, links_made, with_links, units_enabled}
use Rattle.install_commands.proofs.Placed.{none_between}

none_listed : {X : Type 0} → map.entries (map.empty {K = List ℕ} {X = X} {R = path_cmp}) ≡ []
none_listed = same_entries path_cmp nat_list_cmp_total exact_bytes (map.entries map.empty) [] (map.entries_sorted map.empty) tt (λ q. sym (map.get-entries map.empty q) ∙ map.get-empty path_cmp q)

abbrev none_closed : Closed
none_closed = record { units = []; notices = map.empty }

closure_of_none : (t : Entries) → (closure []).conclusion t ≡ Ok none_closed
unfolding closure closed_from
closure_of_none t = refl

abbrev pub none_named : Named
none_named = record { names = []; notices = map.empty }

-- the list of names for no units is empty
pub named_of_none : (t : Entries) → (units_named []).conclusion t ≡ Ok none_named
named_of_none t = ap (λ closed. named_with [] (unless_too_many closed)) (closure_of_none t)

module _ (scope : Scope) (skip : Bool) (t : Entries) where
  wanted_of_none : (wanted [] scope skip).conclusion t ≡ Ok (record { links = map.empty; notices = map.empty })
  unfolding wanted
  wanted_of_none = refl

  abbrev none_wanted : Wanted
  none_wanted = record { links = map.empty; notices = joined map.empty map.empty }

  -- they want no links
  none_want : (checked_want scope skip []).conclusion t ≡ Ok none_wanted
  none_want = ap (λ closed. (going_on (closed_want scope skip) (unless_too_many closed)).conclusion t) (closure_of_none t) ∙ ap (unless_at_odds map.empty) wanted_of_none

  -- and so enabling them changes nothing
  pub enabled_of_none : (carried_out (units_enabled scope skip [])).conclusion t ≡ record { answer = Done map.empty; changes = [] }
  enabled_of_none =
      ap (λ given. (taken ((unless_refused links_made given).conclusion t)).conclusion t) none_want
      ∙ ap (λ links. effect t none_wanted.notices (all_wanted (map.entries (with_links map.empty links)) t)) none_listed
      ∙ ap (λ links. effect t none_wanted.notices (all_wanted links t)) none_listed
      ∙ (λ i. record { answer = Done (none-joined map.empty i); changes = none_between t i })
