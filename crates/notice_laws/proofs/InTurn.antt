-- The notices of two commands, one after the other.
use Rattle.std.proofs.Common.{◌≡◌, List, ◌⊎◌, ◌↔◌, Ok, Err, refl, sym, ap, subst, ◌∙◌, inl, inr}
use Rattle.unit_file.specs.declared.notice.Notice.{Notice}
use Rattle.unit_file.specs.Notices.{joined}
use Rattle.link_tree.specs.Trees.{Entries}
use Rattle.footprint.specs.declared.answer.Answer.{Answer}
use Rattle.footprint.specs.Commands.{Command, carried_out, effect}
use Rattle.footprint.specs.Operations.{Effect}
use Rattle.tree_access.specs.Placing.{Placed, Ruling}
use Rattle.install_commands.specs.Laws.{Leaves}
use Rattle.install_commands.proofs.Composites.{leaves_placed}
use Rattle.install_commands.proofs.InTurn.{net_effect, whole, told, more, rules_first, rules_second, left, whole_comes, whole_refused}
use Rattle.notice_laws.specs.Reports.{Reports}
use Rattle.notice_laws.proofs.Told.{AreTold, reports_done, reports_refused, told_of, told_as, both_told}

module _ (first second : Command) (t : Entries) (One : Notice → Type 0) (Other : Entries → Notice → Type 0)
    (one : Reports ((carried_out first).conclusion t).answer One)
    (other : (v : Entries) → Leaves (carried_out first) t v → Reports ((carried_out second).conclusion v).answer (Other v)) where
  -- what the second reports in the tree that the first leaves
  abbrev pub Later : Notice → Type 0
  Later notice = (v : Entries) × Leaves (carried_out first) t v × Other v notice

  abbrev Both : Notice → Type 0
  Both notice = One notice ⊎ Later notice

  -- the first is accepted
  module _ (placed : List Placed) (at : rules_first first second t ≡ Ok placed) where
    abbrev v : Entries
    v = left first second t placed

    leaves : Leaves (carried_out first) t v
    leaves = leaves_placed first t placed at

    first_told : AreTold (told first second t) One
    first_told = told_of One (told first second t) (subst (λ (answer : Answer). Reports answer One) (ap (λ ruling. (effect t (told first second t) ruling).answer) at) one)

    -- no other tree is left
    here : (u : Entries) (notice : Notice) → Leaves (carried_out first) t u → Other u notice → Other v notice
    here u notice leaves_u says = subst (λ u. Other u notice) (leaves_u.2 ∙ sym leaves.2) says

    same : (notice : Notice) → (One notice ⊎ Other v notice) ↔ Both notice
    same notice = (
      λ so. elim so [ inl now ↦ inl now | inr then ↦ inr (v, leaves, then) ],
      λ so. elim so [ inl now ↦ inl now | inr later ↦ inr (here later.0 notice later.1 later.2) ],
    )

    by_second : (ruling : Ruling) → rules_second first second t v ≡ ruling → Reports (net_effect t v (told first second t) (more first second t v) ruling).answer Both
    by_second (Ok later) rules =
        let second_told = told_of (Other v) (more first second t v) (subst (λ (answer : Answer). Reports answer (Other v)) (ap (λ ruling. (effect v (more first second t v) ruling).answer) rules) (other v leaves)) in
        reports_done Both (joined (told first second t) (more first second t v))
        (told_as (joined (told first second t) (more first second t v)) (λ notice. One notice ⊎ Other v notice) Both same
        (both_told (told first second t) (more first second t v) One (Other v) first_told second_told))
    by_second (Err refusal) rules = reports_refused Both refusal

  by_first : (ruling : Ruling) → rules_first first second t ≡ ruling → Reports ((whole first second t).conclusion t).answer Both
  by_first (Ok placed) at = subst (λ (e : Effect). Reports e.answer Both) (sym (whole_comes first second t placed at)) (by_second placed at (rules_second first second t (left first second t placed)) refl)
  by_first (Err refusal) at = subst (λ (e : Effect). Reports e.answer Both) (sym (whole_refused first second t refusal at)) (reports_refused Both refusal)

  -- both report what the first does, and what the second does in the tree that the first leaves
  pub both_report : Reports ((whole first second t).conclusion t).answer (λ notice. One notice ⊎ Later notice)
  both_report = by_first (rules_first first second t) refl
