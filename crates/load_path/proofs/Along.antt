-- What is looked at while links are followed.
use Rattle.std.proofs.Common.{◌≡◌, ℕ, zero, suc, ◌<◌, ◌≤◌, true, false, cond, List, [], ◌∷◌, Option, Some, None, refl, sym, subst, arith}
use Rattle.std.specs.Prelude.{Contains}
use Rattle.std.specs.FinMap as map
use Rattle.unit_paths.specs.Canonical.{canonical}
use Rattle.link_tree.specs.Trees.{Entries}
use Rattle.link_tree.specs.declared.entry.Entry.{Entry}
use Rattle.link_tree.specs.declared.entry.Entry.TheVariants as entries
use Rattle.load_path.specs.declared.following.ChainEnd.TheVariants.{Null}
use Rattle.load_path.specs.Search.{over, look, ◌>>=◌}
use Rattle.load_path.specs.Follow.{is_null, by_entry, by_path, chain, followed, follow}
use Rattle.load_path.specs.Chains.{Leads}
use Rattle.load_path.specs.Chains.Leads.{Here, Onward}
use Rattle.load_path.specs.Laws.{FollowLooksAlongChain}

no_cell : {P : Type 0} (cell : List ℕ) → Contains [] cell → P
no_cell cell (k, within, is) = absurd (omega (arith, within))

pub first_cell : (cell : List ℕ) (cells : List (List ℕ)) → Contains (cell ∷ cells) cell
first_cell cell cells = (0, omega arith, refl)

pub later_cell : (first cell : List ℕ) (cells : List (List ℕ)) → Contains cells cell → Contains (first ∷ cells) cell
later_cell first cell cells (k, within, is) = (suc k, omega (arith, within), is)

module _ (t : Entries) (cell : List ℕ) where
  -- the cell is reached from a path by fewer links than this number
  abbrev Reached : ℕ → List ℕ → Type 0
  Reached most path = (links : ℕ) × (links < most) × Leads t path links cell

  -- the cells of a chain that has reached a link with this target
  abbrev Looked : (links : ℕ) (last link target : List ℕ) → Type 0
  Looked links last link target = Contains ((chain links last link target).cells t) cell

  abbrev OnChain : (links : ℕ) (link target : List ℕ) → Type 0
  OnChain links link target = (next : List ℕ) × (canonical link target ≡ Some next) × (is_null next ≡ false) × Reached links next

  -- at a path, and then after the link that is there
  entry_to : (links : ℕ) (link next : List ℕ) (o : Option Entry) → map.get t next ≡ o → Contains ((by_entry (chain links link next) next link o).cells t) cell
      → (target : List ℕ) × (map.get t next ≡ Some (entries.Link target)) × Looked links link next target
  entry_to links link next None is h = no_cell cell h
  entry_to links link next (Some (entries.File contents)) is h = no_cell cell h
  entry_to links link next (Some (entries.Link target)) is h = (target, is, h)

  at_path : (links : ℕ) (link next : List ℕ) → ((target : List ℕ) → Looked links link next target → OnChain links next target)
      → Contains (next ∷ (by_entry (chain links link next) next link (map.get t next)).cells t) cell → Reached (suc links) next
  at_path links link next further (zero, within, is) = (zero, omega arith, subst (λ last. Leads t next zero last) is (Here next))
  at_path links link next further (suc k, within, is) =
      let found = entry_to links link next (map.get t next) refl (k, omega (arith, within), is) in
      let on = further found.0 found.2 in
      let way = on.3 in
      (suc way.0, omega (arith, way.1), Onward next on.0 cell way.0 (found.0, found.1, on.1, on.2) way.2)

  path_to : (links : ℕ) (link target : List ℕ) → ((next other : List ℕ) → Looked links link next other → OnChain links next other)
      → (o : Option (List ℕ)) → canonical link target ≡ o → Contains ((by_path (chain links link) link o).cells t) cell → OnChain (suc links) link target
  path_to links link target further None leads h = no_cell cell h
  path_to links link target further (Some next) leads h =
      elim (is_null next) as (λ b. is_null next ≡ b → Contains ((cond b (over Null) (look next >>= by_entry (chain links link next) next link)).cells t) cell → OnChain (suc links) link target) [
        | true ↦ (λ null h. no_cell cell h)
        | false ↦ (λ other h. (next, leads, other, at_path links link next (further next) h))
      ] refl h

  chain_to : (links : ℕ) (last link target : List ℕ) → Looked links last link target → OnChain links link target
  unfolding chain
  chain_to zero last link target h = no_cell cell h
  chain_to (suc links) last link target h = path_to links link target (λ next other here. chain_to links link next other here) (canonical link target) refl h

  -- the other direction
  by_link : (links : ℕ) (link next target : List ℕ) → map.get t next ≡ Some (entries.Link target) → Looked links link next target
      → Contains (next ∷ (by_entry (chain links link next) next link (map.get t next)).cells t) cell
  by_link links link next target is here = later_cell next cell _ (subst (λ o. Contains ((by_entry (chain links link next) next link o).cells t) cell) (sym is) here)

  from_path : (links : ℕ) (link next : List ℕ) (k : ℕ) → k < suc links → Leads t next k cell
      → ((target : List ℕ) → OnChain links next target → Looked links link next target)
      → Contains (next ∷ (by_entry (chain links link next) next link (map.get t next)).cells t) cell
  from_path links link next zero less (Here here) further = first_cell cell _
  from_path links link next (suc k) less (Onward here onto end rest linked leads) further =
      by_link links link next linked.0 linked.1 (further linked.0 (onto, linked.2, linked.3, (k, omega (arith, less), leads)))

  chain_from : (links : ℕ) (last link target : List ℕ) → OnChain links link target → Looked links last link target
  unfolding chain
  chain_from zero last link target (next, leads, other, (k, less, way)) = absurd (omega (arith, less))
  chain_from (suc links) last link target (next, leads, other, (k, less, way)) =
      subst (λ o. Contains ((by_path (chain links link) link o).cells t) cell) (sym leads)
      (subst (λ b. Contains ((cond b (over Null) (look next >>= by_entry (chain links link next) next link)).cells t) cell) (sym other)
      (from_path links link next k less way (λ target on. chain_from links link next target on)))

  followed_cells : (path : List ℕ) (o : Option Entry) → (followed path o).cells t ≡ (by_entry (chain 8 path path) path path o).cells t
  followed_cells path None = refl
  followed_cells path (Some entry) = refl

  follow_to : (path : List ℕ) → Contains ((follow path).cells t) cell → (links : ℕ) × (links ≤ 8) × Leads t path links cell
  unfolding follow
  follow_to path h =
      let found = at_path 8 path path (λ target here. chain_to 8 path path target here) (subst (λ cells. Contains (path ∷ cells) cell) (followed_cells path (map.get t path)) h) in
      (found.0, omega (arith, found.1), found.2)

  follow_from : (path : List ℕ) → (links : ℕ) × (links ≤ 8) × Leads t path links cell → Contains ((follow path).cells t) cell
  unfolding follow
  follow_from path (links, few, way) =
      subst (λ cells. Contains (path ∷ cells) cell) (sym (followed_cells path (map.get t path)))
      (from_path 8 path path links (omega (arith, few)) way (λ target on. chain_from 8 path path target on))

pub follow_looks_along_chain : FollowLooksAlongChain
follow_looks_along_chain path cell t = (follow_to t cell path, follow_from t cell path)
