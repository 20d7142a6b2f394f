-- For the proofs of this crate: no public contract cites it. What a walk over the entries of a tree
-- finds.
use Rattle.std.specs.Prelude.{◌≡◌, ℕ, List, [], ◌∷◌, Some, IsPermutation}
use Rattle.std.specs.FinMap as map
use Rattle.link_tree.specs.declared.entry.Entry.{Entry}
use Rattle.link_tree.specs.declared.change.Change.{Change}
use Rattle.link_tree.specs.Trees.{path_cmp, Entries, set_entry}
use Rattle.link_tree.specs.Differences.{differences}

-- an entry with its path
abbrev pub Standing : Type 0
Standing = List ℕ × Entry

-- a tree after the paths of these entries were given what they have in another tree
abbrev pub made_alike : List Standing → Entries → Entries → Entries
made_alike [] other t = t
made_alike (x ∷ xs) other t = made_alike xs other (set_entry t x.0 (map.get other x.0))

-- The differences of two trees at the paths of a tree were noted, in addition to those noted
-- before.
abbrev pub NotesAll : (walked old new : Entries) → (before after : map.FinMap path_cmp Change) → Type 0
NotesAll walked old new before after = (now : Entries) → before ≡ differences old now
    → (all : List Standing) × IsPermutation all (map.entries walked) × (after ≡ differences old (made_alike all new now))

-- Each entry of a tree is in the other.
abbrev pub AllStandIn : Entries → Entries → Type 0
AllStandIn t u = (path : List ℕ) (entry : Entry) → map.get t path ≡ Some entry → map.get u path ≡ Some entry
