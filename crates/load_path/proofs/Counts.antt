-- The number of cells that are looked at.
use Rattle.std.proofs.Common.{ℕ, zero, suc, ◌≤◌, true, false, cond, List, [], ◌∷◌, length, length-append, Option, Some, None, arith}
use Rattle.std.specs.FinMap as map
use Rattle.unit_name.specs.declared.kind.Kind.{Kind}
use Rattle.unit_name.specs.declared.kind.Kind.TheVariants.{Plain, Template, Instance}
use Rattle.unit_name.specs.Parts.{kind_of}
use Rattle.unit_name.specs.Name.{instance_of, template_of}
use Rattle.unit_paths.specs.Canonical.{canonical}
use Rattle.unit_paths.specs.Places.{places}
use Rattle.unit_paths.specs.Slots.{unit_slot}
use Rattle.link_tree.specs.Trees.{Entries}
use Rattle.link_tree.specs.declared.entry.Entry.{Entry}
use Rattle.link_tree.specs.declared.entry.Entry.TheVariants as entries
use Rattle.unit_paths.specs.declared.place.Place.{Place}
use Rattle.load_path.specs.declared.following.ChainEnd.{ChainEnd}
use Rattle.load_path.specs.declared.following.ChainEnd.TheVariants.{Null}
use Rattle.load_path.specs.Search.{Search, over, look, ◌>>=◌}
use Rattle.load_path.specs.Follow.{is_null, by_entry, by_path, chain, chain_from, followed, follow}
use Rattle.load_path.specs.Find.{Standing, entry_or, first_in, first_of_template, or_template, first_entry, found_from, find}
use Rattle.load_path.specs.Laws.{FollowIsShort, FindIsShort}
use Rattle.load_path.proofs.Once.{once_short}

entry-short : (on : List ℕ → Search ChainEnd) (most : ℕ) (path link : List ℕ) (t : Entries) → ((target : List ℕ) → length ((on target).cells t) ≤ most) → (o : Option Entry) → length ((by_entry on path link o).cells t) ≤ most
entry-short on most path link t few None = omega arith
entry-short on most path link t few (Some (entries.File contents)) = omega arith
entry-short on most path link t few (Some (entries.Link target)) = few target

path-short : (on : List ℕ → List ℕ → Search ChainEnd) (most : ℕ) (link : List ℕ) (t : Entries) → ((path target : List ℕ) → length ((on path target).cells t) ≤ most) → (o : Option (List ℕ)) → length ((by_path on link o).cells t) ≤ suc most
path-short on most link t few None = omega arith
path-short on most link t few (Some path) = elim (is_null path) as (λ b. length ((cond b (over Null) (look path >>= by_entry (on path) path link)).cells t) ≤ suc most) [
  | true ↦ omega arith
  | false ↦ (let rest = entry-short (on path) most path link t (few path) (map.get t path) in omega (arith, rest))
]

chain-short : (links : ℕ) (last link target : List ℕ) (t : Entries) → length ((chain links last link target).cells t) ≤ links
unfolding chain
chain-short zero last link target t = omega arith
chain-short (suc links) last link target t = path-short (chain links link) links link t (λ path target. chain-short links link path target t) (canonical link target)

chain_from-short : (path : List ℕ) (entry : Entry) (t : Entries) → length ((chain_from path entry).cells t) ≤ 8
chain_from-short path entry t = entry-short (chain 8 path path) 8 path path t (λ target. chain-short 8 path path target t) (Some entry)

followed-short : (path : List ℕ) (t : Entries) (o : Option Entry) → length ((followed path o).cells t) ≤ 8
followed-short path t None = omega arith
followed-short path t (Some entry) = chain_from-short path entry t

follow-short : (path : List ℕ) (t : Entries) → length ((follow path).cells t) ≤ 9
unfolding follow
follow-short path t = let rest = followed-short path t (map.get t path) in omega (arith, rest)

entry_or-short : (rest : Search (Option Standing)) (most : ℕ) (place : Place) (path : List ℕ) (t : Entries) → length (rest.cells t) ≤ most → (o : Option Entry) → length ((entry_or rest place path o).cells t) ≤ most
entry_or-short rest most place path t few None = few
entry_or-short rest most place path t few (Some entry) = omega arith

first_in-short : (ps : List Place) (name : List ℕ) (t : Entries) → length ((first_in ps name).cells t) ≤ length ps
first_in-short [] name t = omega arith
first_in-short (place ∷ ps) name t =
    let rest = entry_or-short (first_in ps name) (length ps) place (unit_slot place name) t (first_in-short ps name t) (map.get t (unit_slot place name)) in
    omega (arith, rest)

template-short : (kind : Kind) (name : List ℕ) (t : Entries) → length ((first_of_template kind name).cells t) ≤ 4
template-short Plain name t = omega arith
template-short Template name t = omega arith
template-short Instance name t = first_in-short places (template_of name) t

or_template-short : (name : List ℕ) (t : Entries) (o : Option Standing) → length ((or_template name o).cells t) ≤ 4
or_template-short name t None = template-short (kind_of (instance_of name)) name t
or_template-short name t (Some first) = omega arith

first_entry-short : (name : List ℕ) (t : Entries) → length ((first_entry name).cells t) ≤ 8
unfolding first_entry
first_entry-short name t =
    let front = first_in-short places name t in
    let back = or_template-short name t ((first_in places name).conclusion t) in
    let both = length-append ((first_in places name).cells t) ((or_template name ((first_in places name).conclusion t)).cells t) in
    omega (arith, front, back, both)

found_from-short : (name : List ℕ) (t : Entries) (o : Option Standing) → length ((found_from name o).cells t) ≤ 8
found_from-short name t None = omega arith
found_from-short name t (Some first) = chain_from-short first.1 first.2 t

find-short : (name : List ℕ) (t : Entries) → length ((find name).cells t) ≤ 16
unfolding find
find-short name t =
    let front = first_entry-short name t in
    let back = found_from-short name t ((first_entry name).conclusion t) in
    let both = length-append ((first_entry name).cells t) ((found_from name ((first_entry name).conclusion t)).cells t) in
    omega (arith, front, back, both)

pub follow_is_short : FollowIsShort
follow_is_short = λ path t. once_short ((follow path).cells t) 9 (follow-short path t)

pub find_is_short : FindIsShort
find_is_short = λ name t. once_short ((find name).cells t) 16 (find-short name t)
