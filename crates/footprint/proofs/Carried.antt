-- Commands that are carried out obey the laws of operations.
use Rattle.std.proofs.Common.{◌≡◌, true, false, List, [], ◌++◌, All, Contains, Ok, Err, refl, sym}
use Rattle.std.proofs.lemmas.Bool.{true≢false}
use Rattle.std.proofs.lemmas.List.Elements.{All-nil}
use Rattle.unit_file.specs.Notices.{NoticeMap}
use Rattle.link_tree.specs.Trees.{Entries}
use Rattle.link_tree.proofs.Leads.{changes_at}
use Rattle.tree_access.specs.declared.key.Key.{Key}
use Rattle.tree_access.specs.declared.key.Key.TheVariants.{Cell}
use Rattle.footprint.specs.Commands.{Command, silent, carried_out, effect}
use Rattle.footprint.specs.Operations.{AreChanges, OperationLaws, is_refused}
use Rattle.tree_access.specs.Placing.{Ruling, placed_in, IsLookedAt}
use Rattle.tree_access.proofs.PlacingLaws.{differs_at_key, looked_before}
use Rattle.footprint.specs.Steps.{Step}
use Rattle.footprint.proofs.ThenLaws.{no_changes, changes_between_are}

effect_confined : (keys : List Key) (t : Entries) (notices : NoticeMap) (ruling : Ruling) → IsLookedAt keys ruling → All (λ change. Contains keys (Cell change.path)) (effect t notices ruling).changes
effect_confined keys t notices (Ok placed) looked = changes_at t (placed_in placed t) (λ path. Contains keys (Cell path)) (differs_at_key keys placed t looked)
effect_confined keys t notices (Err refusal) looked = All-nil (λ change. Contains keys (Cell change.path))

effect_changes : (t : Entries) (notices : NoticeMap) (ruling : Ruling) → AreChanges t (effect t notices ruling).changes
effect_changes t notices (Ok placed) = changes_between_are t (placed_in placed t)
effect_changes t notices (Err refusal) = no_changes t

refused_changes : (t : Entries) (notices : NoticeMap) (ruling : Ruling) → is_refused (effect t notices ruling).answer ≡ true → (effect t notices ruling).changes ≡ []
refused_changes t notices (Ok placed) refused = absurd (true≢false (sym refused))
refused_changes t notices (Err refusal) refused = refl

module _ {C : Type 0} (command : C → Command) where
  pub laws_of : OperationLaws (λ c. false) (λ c. carried_out (command c))
  laws_of = record {
    confinement = λ c t. let told = (command c).conclusion t in
        effect_confined ((command c).keys t ++ told.1.keys t) t told.0 (told.1.conclusion t) (looked_before ((command c).keys t) (told.1.keys t) (told.1.conclusion t) (told.1.looked t));
    changes = λ c t. let told = (command c).conclusion t in effect_changes t told.0 (told.1.conclusion t);
    refusal = λ c t. let told = (command c).conclusion t in refused_changes t told.0 (told.1.conclusion t);
    question = λ c t asks. absurd (true≢false (sym asks));
  }

-- so do single steps
pub laws_of_steps : {C : Type 0} (steps : C → Step) → OperationLaws (λ c. false) (λ c. carried_out (silent (steps c)))
laws_of_steps steps = laws_of (λ c. silent (steps c))
