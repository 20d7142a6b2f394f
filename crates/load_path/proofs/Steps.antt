-- How much of a search the code has done.
use Rattle.std.proofs.Common.{◌≡◌, ℕ, List, ◌++◌}
use Rattle.link_tree.specs.Trees.{Entries}
use Rattle.load_path.specs.Search.{Search}

-- If `seen` are the cells looked at so far, `rest` is what is left to do of `whole`, which began
-- with the cells `before`.
abbrev pub Goes : {X : Type 0} → Entries → (seen : List (List ℕ)) (rest : Search X) (before : List (List ℕ)) (whole : Search X) → Type 0
Goes t seen rest before whole = (rest.conclusion t ≡ whole.conclusion t) × (seen ++ rest.cells t ≡ before ++ whole.cells t)
