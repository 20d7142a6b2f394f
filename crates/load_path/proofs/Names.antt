-- The names of files and of units.
use Rattle.std.proofs.Common.{◌≡◌, ℕ, ◌+◌, ◌<◌, true, false, List, [], ◌∷◌, length, get_or, drop, Some, None, refl, sym, ap, subst, ◌∙◌, arith, suc}
use Rattle.std.specs.List.{list_any}
use Rattle.unit_name.specs.Parts.{kind_of, IsUnitName}
use Rattle.unit_name.specs.Name.{instance_of, type_of, name_fault}
use Rattle.unit_name.proofs.Names.{no_fault_in_name, name_from_no_fault}
use Rattle.unit_paths.specs.Paths.{is_slash, is_path, is_absolute, name_at}
use Rattle.unit_paths.proofs.PathFacts.{path_facts}
use Rattle.unit_paths.proofs.Slashes.{name-at}
use Rattle.load_path.specs.RealNames.{named, is_same_type, by_kinds, real_name}

pub not_named : (text : List ℕ) → ¬ IsUnitName text → None ≡ named text
not_named text other = elim (name_fault text) as (λ fault. name_fault text ≡ fault → None ≡ named text) [
  | None ↦ (λ none. absurd (other (name_from_no_fault text none)))
  | Some fault ↦ (λ faulty. rw faulty refl)
] refl

pub is_named : (name text : List ℕ) → name ≡ text → IsUnitName name → Some name ≡ named text
is_named name text same is = rw same (let is_text : IsUnitName text = subst IsUnitName same is in rw (no_fault_in_name text is_text) refl)

pub real_by_kinds : (name file text : List ℕ) → file ≡ text → IsUnitName text → is_same_type (type_of name) (type_of file) ≡ true
    → by_kinds (kind_of (instance_of name)) (kind_of (instance_of file)) name file ≡ real_name name text
unfolding real_name
real_by_kinds name file text e is same =
    let same_text : is_same_type (type_of name) (type_of text) ≡ true = ap (λ other. is_same_type (type_of name) (type_of other)) (sym e) ∙ same in
    rw e (rw (no_fault_in_name text is, same_text) refl)

-- what comes after a slash, if that is the last one
pub name-after : (text : List ℕ) (i : ℕ) → i < length text → get_or text i 0 ≡ 47 → list_any is_slash (drop (suc i) text) ≡ false → drop (i + 1) text ≡ name_at text
name-after text i within here none =
    let same : i + 1 ≡ suc i = omega arith in
    ap (λ n. drop n text) same ∙ name-at text i within here none

-- A path has a slash.
pub slash-in : (text : List ℕ) → is_path text ≡ true → list_any is_slash text ≡ false → ⊥
unfolding is_path is_absolute
slash-in [] path none = absurd (cc)
slash-in (b ∷ bs) path none = let e : true ≡ false = rw ((path_facts b bs path).slash) at none in absurd (cc)
