use Rattle.std.proofs.Common.{◌≡◌, ℕ, Bool, true, false, if◌then◌else◌, List, Option, Some, None, Err, refl, sym, ◌∙◌, subst}
use Rattle.unit_name.specs.Name.{is_unit_name}
use Rattle.unit_paths.specs.Paths.{name_at}
use Rattle.unit_paths.specs.Kinds.{is_unit_slot}
use Rattle.unit_paths.specs.Slots.{unit_slot, slot_of}
use Rattle.link_tree.specs.declared.entry.Entry.{Entry}
use Rattle.link_tree.proofs.Stops.{returned}
use Rattle.tree_access.specs.declared.refusal.Refusal.TheVariants.{BadType}
use Rattle.tree_access.specs.declared.refusal.Subject.TheVariants.{Path}
use Rattle.tree_access.specs.Rules.{link_at}
use Rattle.footprint.specs.Steps.{nothing, refuse, ruled}
use Rattle.transaction.specs.Runs.{Runs, Gives, taking}
use Rattle.slot_commands.specs.LinkUnits.{link_file}
use Rattle.transaction.proofs.Running.{rule_stops}
use Rattle.slot_commands.proofs.link_units.link_file.Goals as goal

is_named : (text name : List ℕ) → Some name ≡ (if is_unit_name text then Some text else None) → (is_unit_name text ≡ true) × (name ≡ text)
is_named text name is =
    elim (is_unit_name text) as (λ b. Some name ≡ (if b then Some text else None) → (b ≡ true) × (name ≡ text)) [
      | true ↦ λ same. let here : name ≡ text = cc in (refl, here)
      | false ↦ λ same. absurd (cc)
    ]
    is

pub returns-in_err-entry : goal.returns-in_err-entry
returns-in_err-entry c =
    let path = c.args.path.now in
    let place = c.args.place in
    let old = c.args.txn.now in
    let mid = c.get.new.self in
    let slot = c.in_ok-slot.slot in
    let stop = c.in_err-entry.field-0.0 in
    let here = is_named (name_at path) c.in-Some.name (sym c.in-Some.is ∙ c.in_ok-name.ensures) in
    let given = subst (λ (there : Option Entry). Gives (link_at path slot there) (Err stop)) c.as_ref.ensures.value c.in_err-entry.ensures in
    let stops = subst (λ (slot : List ℕ). Runs (taking (ruled (link_at path) slot)) old mid (Err stop)) c.in_ok-slot.ensures.path
    (rule_stops (link_at path) slot old mid c.in_ok-there.there stop c.in_ok-there.ensures.ok given) in
    let P : Bool → Bool → List ℕ → Type 0 =
    λ unit slot name. Runs (taking (if unit then (if slot then nothing else ruled (link_at path) (unit_slot place name)) else refuse (BadType (Path path)))) old mid (Err stop) in
    subst (Runs (taking (link_file place path)) old mid) (sym (returned c.from_residual-in_err-entry.result stop c.from_residual-in_err-entry.ensures))
    (subst (λ (b : Bool). P b (is_unit_slot (slot_of path)) (name_at path)) (sym here.0)
    (subst (λ (b : Bool). P true b (name_at path)) c.if-is_of_unit.ensures (subst (λ (n : List ℕ). P true false n) here.1 stops)))
