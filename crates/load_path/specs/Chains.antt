-- Chains of links, as they are in a tree.
use Rattle.std.specs.Prelude.{◌≡◌, ◌+◌, ◌<◌, ℕ, zero, suc, true, false, List, [], length, Some, None}
use Rattle.std.specs.FinMap as map
use Rattle.unit_paths.specs.Canonical.{canonical}
use Rattle.link_tree.specs.Trees.{Entries}
use Rattle.link_tree.specs.declared.entry.Entry.TheVariants as entries
use Rattle.load_path.specs.declared.following.End.{End}
use Rattle.load_path.specs.declared.following.End.TheVariants.{Missing, Null, File, Dangling}
use Rattle.load_path.specs.Follow.{is_null}

-- a file of more than 0 bytes is there
abbrev pub IsFileAt : Entries → List ℕ → Type 0
IsFileAt t path = (contents : List ℕ) × (map.get t path ≡ Some (entries.File contents)) × (0 < length contents)

-- an empty file is there
abbrev pub IsEmptyAt : Entries → List ℕ → Type 0
IsEmptyAt t path = map.get t path ≡ Some (entries.File [])

-- a link is there
abbrev pub IsLinkAt : Entries → List ℕ → Type 0
IsLinkAt t path = (target : List ℕ) × (map.get t path ≡ Some (entries.Link target))

-- a link that leads to another path, which isn't /dev/null
abbrev pub LinksTo : Entries → (path next : List ℕ) → Type 0
LinksTo t path next = (target : List ℕ) × (map.get t path ≡ Some (entries.Link target)) × (canonical path target ≡ Some next) × (is_null next ≡ false)

-- a link that leads to /dev/null
abbrev pub LinksToNull : Entries → List ℕ → Type 0
LinksToNull t path = (target : List ℕ) × (next : List ℕ) × (map.get t path ≡ Some (entries.Link target)) × (canonical path target ≡ Some next) × (is_null next ≡ true)

-- a link whose target is no path
abbrev pub LinksNowhere : Entries → List ℕ → Type 0
LinksNowhere t path = (target : List ℕ) × (map.get t path ≡ Some (entries.Link target)) × (canonical path target ≡ None)

-- One path leads to another by this number of links; by 0 links it leads to itself.
pub data Leads (t : Entries) : List ℕ → ℕ → List ℕ → Type 0 where
  Here : (path : List ℕ) → Leads t path zero path
  Onward : (path next last : List ℕ) (links : ℕ) → LinksTo t path next → Leads t next links last → Leads t path (suc links) last

-- The end of a chain at a path, if this number of further links may be followed. A link dangles if
-- its target is no path, if nothing is at the path to which it leads, or if it is the eighth and
-- leads to another link. Only at the path where the chain began may there be nothing.
pub data EndsAt (t : Entries) (more : ℕ) (path : List ℕ) : End → Type 0 where
  AtNothing : more ≡ 8 → map.get t path ≡ None → EndsAt t more path Missing
  AtFile : IsFileAt t path → EndsAt t more path (File path)
  AtEmptyFile : IsEmptyAt t path → EndsAt t more path Null
  AtNullLink : 0 < more → LinksToNull t path → EndsAt t more path Null
  AtBadTarget : 0 < more → LinksNowhere t path → EndsAt t more path (Dangling path)
  BeforeNothing : (next : List ℕ) → 0 < more → LinksTo t path next → map.get t next ≡ None → EndsAt t more path (Dangling path)
  BeforeNinthLink : (next : List ℕ) → more ≡ 1 → LinksTo t path next → IsLinkAt t next → EndsAt t more path (Dangling path)

-- A path leads to an end by a chain of at most this number of links.
abbrev pub LeadsTo : Entries → ℕ → List ℕ → End → Type 0
LeadsTo t most path end = (links : ℕ) × (more : ℕ) × (last : List ℕ) × (links + more ≡ most) × Leads t path links last × EndsAt t more last end
