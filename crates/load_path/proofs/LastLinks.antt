-- The last link of a chain that ends at a file.
use Rattle.std.proofs.Common.{◌≡◌, ℕ, zero, suc, ◌<◌, true, false, cond, List, [], ◌∷◌, length, Option, Some, None, refl, sym, ap, subst, ◌∙◌, arith, inl, inr}
use Rattle.std.specs.FinMap as map
use Rattle.unit_paths.specs.Canonical.{canonical}
use Rattle.link_tree.specs.Trees.{Entries}
use Rattle.link_tree.specs.declared.entry.Entry.{Entry}
use Rattle.link_tree.specs.declared.entry.Entry.TheVariants as entries
use Rattle.load_path.specs.declared.following.ChainEnd.TheVariants.{Null, File}
use Rattle.load_path.specs.Search.{over, look, ◌>>=◌}
use Rattle.load_path.specs.Follow.{is_null, at_file, by_entry, by_path, chain, chain_from}
use Rattle.load_path.specs.Chains.{IsFileAt, LinksTo, Leads}
use Rattle.load_path.specs.Chains.Leads.{Here, Onward}
use Rattle.load_path.specs.Laws.{IsLastLink}
use Rattle.load_path.proofs.Chains.{same-link}

file_at : (contents next link : List ℕ) → 0 < length contents → at_file contents next link ≡ File next link
file_at [] next link some = absurd (omega (arith, some))
file_at (b ∷ bs) next link some = refl

module _ (t : Entries) (last file : List ℕ) where
  abbrev Ends : (links : ℕ) (before link target : List ℕ) → Type 0
  Ends links before link target = (chain links before link target).conclusion t ≡ File file last

  abbrev OnWay : (links : ℕ) (link : List ℕ) → Type 0
  OnWay links link = (k : ℕ) × (k < links) × Leads t link k last × LinksTo t last file × IsFileAt t file

  at_file-to : (contents next link : List ℕ) → map.get t next ≡ Some (entries.File contents) → at_file contents next link ≡ File file last → (next ≡ file) × (link ≡ last) × IsFileAt t next
  at_file-to [] next link at h = cc
  at_file-to (b ∷ bs) next link at h = (cc, cc, (b ∷ bs, at, omega arith))

  entry_to : (links : ℕ) (link next : List ℕ) → LinksTo t link next → ((other : List ℕ) → map.get t next ≡ Some (entries.Link other) → Ends links link next other → OnWay links next)
      → (o : Option Entry) → map.get t next ≡ o → (by_entry (chain links link next) next link o).conclusion t ≡ File file last → OnWay (suc links) link
  entry_to links link next linked further None at h = cc
  entry_to links link next linked further (Some (entries.File contents)) at h =
      let found = at_file-to contents next link at h in
      (zero, omega arith, subst (λ l. Leads t link zero l) found.1 (Here link), subst (λ l. LinksTo t l file) found.1 (subst (LinksTo t link) found.0 linked), subst (IsFileAt t) found.0 found.2)
  entry_to links link next linked further (Some (entries.Link other)) at h =
      let on = further other at h in
      (suc on.0, omega (arith, on.1), Onward link next last on.0 linked on.2, on.3, on.4)

  path_to : (links : ℕ) (link target : List ℕ) → map.get t link ≡ Some (entries.Link target) → ((next other : List ℕ) → map.get t next ≡ Some (entries.Link other) → Ends links link next other → OnWay links next)
      → (o : Option (List ℕ)) → canonical link target ≡ o → (by_path (chain links link) link o).conclusion t ≡ File file last → OnWay (suc links) link
  path_to links link target is further None leads h = cc
  path_to links link target is further (Some next) leads h =
      elim (is_null next) as (λ b. is_null next ≡ b → (cond b (over Null) (look next >>= by_entry (chain links link next) next link)).conclusion t ≡ File file last → OnWay (suc links) link) [
        | true ↦ (λ null h. let never : Null ≡ File file last = h in cc)
        | false ↦ (λ other h. entry_to links link next (target, is, leads, other) (further next) (map.get t next) refl h)
      ] refl h

  chain_to : (links : ℕ) (before link target : List ℕ) → map.get t link ≡ Some (entries.Link target) → Ends links before link target → OnWay links link
  unfolding chain
  chain_to zero before link target is h = cc
  chain_to (suc links) before link target is h = path_to links link target is (λ next other at here. chain_to links link next other at here) (canonical link target) refl h

  -- the other direction
  next_is : (links : ℕ) (before link target next : List ℕ) → map.get t link ≡ Some (entries.Link target) → LinksTo t link next
      → (chain (suc links) before link target).conclusion t ≡ (by_entry (chain links link next) next link (map.get t next)).conclusion t
  unfolding chain
  next_is links before link target next is linked =
      let same : linked.0 ≡ target = same-link linked.0 target (sym linked.1 ∙ is) in
      ap (λ o. (by_path (chain links link) link o).conclusion t) (ap (canonical link) (sym same) ∙ linked.2)
      ∙ ap (λ b. (cond b (over Null) (look next >>= by_entry (chain links link next) next link)).conclusion t) linked.3

  -- there is a link where a chain begins that goes on
  link_there : (path : List ℕ) (k : ℕ) → Leads t path k last → LinksTo t last file → (target : List ℕ) × (map.get t path ≡ Some (entries.Link target))
  link_there path zero (Here here) linked = (linked.0, linked.1)
  link_there path (suc k) (Onward here next end rest first way) linked = (first.0, first.1)

  chain_back : (links : ℕ) (before link target : List ℕ) → map.get t link ≡ Some (entries.Link target) → (k : ℕ) → k < links → Leads t link k last → LinksTo t last file → IsFileAt t file → Ends links before link target
  chain_back zero before link target is k less way linked stands = absurd (omega (arith, less))
  chain_back (suc links) before link target is zero less (Here here) linked stands =
      next_is links before link target file is linked ∙ ap (λ o. (by_entry (chain links link file) file link o).conclusion t) stands.1 ∙ file_at stands.0 file link stands.2
  chain_back (suc links) before link target is (suc k) less (Onward here next end rest first way) linked stands =
      let there = link_there next k way linked in
      next_is links before link target next is first ∙ ap (λ o. (by_entry (chain links link next) next link o).conclusion t) there.1
      ∙ chain_back links link next there.0 there.1 k (omega (arith, less)) way linked stands

  -- from the first entry
  pub last_to : (path : List ℕ) (entry : Entry) → map.get t path ≡ Some entry → (chain_from path entry).conclusion t ≡ File file last → IsFileAt t file × IsLastLink t path last file
  last_to path (entries.File contents) at h = let found = at_file-to contents path path at h in (subst (IsFileAt t) found.0 found.2, inl (sym found.1, sym found.0))
  last_to path (entries.Link target) at h = let way = chain_to 8 path path target at h in (way.4, inr (way.0, way.1, way.2, way.3))

  pub last_from : (path : List ℕ) (entry : Entry) → map.get t path ≡ Some entry → IsFileAt t file → IsLastLink t path last file → (chain_from path entry).conclusion t ≡ File file last
  last_from path entry at stands (inl itself) =
      let there : Some (entries.File stands.0) ≡ Some entry = sym stands.1 ∙ ap (map.get t) itself.1 ∙ at in
      let same : entries.File stands.0 ≡ entry = cc in
      subst (λ e. (chain_from path e).conclusion t ≡ File file last) same
      (file_at stands.0 path path stands.2 ∙ ap (λ f. File f path) (sym itself.1) ∙ ap (File file) (sym itself.0))
  last_from path (entries.File contents) at stands (inr (k, less, way, linked)) = let there = link_there path k way linked in cc
  last_from path (entries.Link target) at stands (inr (k, less, way, linked)) = chain_back 8 path path target at k less way linked stands
