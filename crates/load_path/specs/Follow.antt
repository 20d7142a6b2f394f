-- Following links: systemd.unit(5), "Unit File Load Path".
use Rattle.std.specs.Prelude.{ℕ, zero, suc, Bool, if◌then◌else◌, List, [], ◌∷◌, Option, Some, None, codes}
use Rattle.std.specs.Str.{bytes_eq}
use Rattle.unit_paths.specs.Canonical.{canonical}
use Rattle.link_tree.specs.declared.entry.Entry.{Entry}
use Rattle.link_tree.specs.declared.entry.Entry.TheVariants as entries
use Rattle.load_path.specs.declared.following.End.{End}
use Rattle.load_path.specs.declared.following.End.TheVariants as ends
use Rattle.load_path.specs.declared.following.ChainEnd.{ChainEnd}
use Rattle.load_path.specs.declared.following.ChainEnd.TheVariants.{Null, File, Dangling}
use Rattle.load_path.specs.Search.{Search, over, look, giving, ◌>>=◌}

-- /dev/null counts as an empty file, and is not looked at
abbrev pub is_null : List ℕ → Bool
is_null path = bytes_eq path (codes "/dev/null")

-- a chain ends at a file
abbrev pub at_file : (contents path link : List ℕ) → ChainEnd
at_file [] path link = Null
at_file (b ∷ bs) path link = File path link

-- the chain goes on at a link; if there is no entry, it ends at the link before
abbrev pub by_entry : (on : List ℕ → Search ChainEnd) (path link : List ℕ) → Option Entry → Search ChainEnd
by_entry on path link None = over (Dangling link)
by_entry on path link (Some (entries.File contents)) = over (at_file contents path link)
by_entry on path link (Some (entries.Link target)) = on target

-- the chain goes on at the path to which a link leads
abbrev pub by_path : (on : List ℕ → List ℕ → Search ChainEnd) (link : List ℕ) → Option (List ℕ) → Search ChainEnd
by_path on link None = over (Dangling link)
by_path on link (Some path) =
    if is_null path then over Null
    else (do
      entry ← look path
      by_entry (on path) path link entry)

-- The end of a chain that has reached `link` from `last`, if this number of further links may be
-- followed.
unfoldable pub chain : (links : ℕ) (last link target : List ℕ) → Search ChainEnd
chain zero last link target = over (Dangling last)
chain (suc links) last link target = by_path (chain links link) link (canonical link target)

-- at most eight links are followed from an entry
abbrev pub chain_from : List ℕ → Entry → Search ChainEnd
chain_from path entry = by_entry (chain 8 path path) path path (Some entry)

-- what the end is, without the last link
abbrev pub end_of : ChainEnd → End
end_of Null = ends.Null
end_of (File path link) = ends.File path
end_of (Dangling link) = ends.Dangling link

-- the result, by what is at the path
abbrev pub followed : List ℕ → Option Entry → Search End
followed path None = over ends.Missing
followed path (Some entry) = giving (chain_from path entry) end_of

-- where a path leads
unfoldable pub follow : List ℕ → Search End
follow path = do
  entry ← look path
  followed path entry
