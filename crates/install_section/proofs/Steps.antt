-- How far the code has evaluated a search.
use Rattle.std.proofs.Common.{◌≡◌, ℕ, List, sym, subst, ◌∙◌, append_assoc}
use Rattle.std.proofs.lemmas.List.{append-nil}
use Rattle.link_tree.specs.Trees.{Entries}
use Rattle.load_path.specs.Search.{Search, Finds, over, ◌>>=◌}
use Rattle.load_path.proofs.Steps.{Goes}

module _ {X : Type 0} (t : Entries) (before : List (List ℕ)) (whole : Search X) where
  -- a search has resulted in x, and the rest continues with that
  pub searched : {Y : Type 0} (seen after : List (List ℕ)) (s : Search Y) (rest : Y → Search X) (x : Y)
      → Goes t seen (s >>= rest) before whole → Finds t s seen after x → Goes t after (rest x) before whole
  searched seen after s rest x h found = rw (found.0, found.1) (h.0, append_assoc seen (s.cells t) ((rest (s.conclusion t)).cells t) ∙ h.1)

  -- nothing is left
  pub finished : (seen : List (List ℕ)) (x : X) → Goes t seen (over x) before whole → Finds t whole before seen x
  finished seen x h = (h.0, sym (append-nil seen) ∙ h.1)

  -- what is left is an equal search
  pub again : (seen : List (List ℕ)) (r s : Search X) → r ≡ s → Goes t seen r before whole → Goes t seen s before whole
  again seen r s is h = subst (λ s. Goes t seen s before whole) is h
