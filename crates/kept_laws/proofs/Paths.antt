-- A path that others leave alone.
use Rattle.std.proofs.Common.{◌≡◌, ℕ, List, refl, sym, ap, ◌∙◌, subst, inl, inr}
use Rattle.std.specs.FinMap as map
use Rattle.link_tree.specs.Trees.{Entries}
use Rattle.kept_history.specs.Roots.{KeptRoot, at_rest, after_all}
use Rattle.kept_history.specs.Recovery.{recovered}
use Rattle.kept_laws.specs.Found.{due_history, IsOneOf, IsKept, Begun, Ran, Changed}
use Rattle.kept_laws.specs.Laws.{KeptPathsAreRight}
use Rattle.kept_laws.proofs.Found.{mends_there, recovered_mended}
use Rattle.kept_laws.proofs.Parts.{found_runs_are_whole}

module _ (replay : List ℕ → Entries) (path : List ℕ) where
  -- at the path there is what the history says
  abbrev IsRight : KeptRoot → Type 0
  IsRight left = map.get left.entries path ≡ map.get (replay left.history) path

  changed_right : (root : KeptRoot) (entries : Entries) → map.get entries path ≡ map.get root.entries path → IsRight (recovered replay root)
      → IsRight (recovered replay (record { history = root.history; next = root.next; entries = entries }))
  changed_right root entries alike right =
      let now : KeptRoot = record { history = root.history; next = root.next; entries = entries } in
      let this = recovered_mended replay root in
      let that = recovered_mended replay now in
      mends_there (replay root.history) (replay (due_history root)) root.entries entries (recovered replay root).entries (recovered replay now).entries path this.mends that.mends alike
      ∙ right ∙ ap (λ text. map.get (replay text) path) (ap (λ w. w.history) this.rest ∙ sym (ap (λ w. w.history) that.rest))

  run_right : (found : KeptRoot) (noticed made : List ℕ) (left : KeptRoot) → IsRight (recovered replay found) → IsOneOf replay found noticed made left → IsRight left
  run_right found noticed made left right (inl is) = subst IsRight (sym is) right
  run_right found noticed made left right (inr (inl is)) = subst IsRight (sym is) refl
  run_right found noticed made left right (inr (inr is)) = subst IsRight (sym is) refl

  always_right : (root : KeptRoot) → IsKept replay path root → IsRight (recovered replay root)
  always_right root (Begun text) = refl
  always_right root (Ran found base noticed made events since before run reach) =
      run_right found noticed made (recovered replay (after_all since base)) (always_right found before)
      (found_runs_are_whole replay found noticed made events run base since reach).0
  always_right root (Changed earlier entries before alike) = changed_right earlier entries alike (always_right earlier before)

pub kept_paths_are_right : KeptPathsAreRight
kept_paths_are_right replay path root is =
    let this = recovered_mended replay root in (
      this.rest ∙ ap (λ text. at_rest text (recovered replay root).entries) (sym (ap (λ w. w.history) this.rest)),
      always_right replay path root is,
    )
