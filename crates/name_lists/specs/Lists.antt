-- Lists of paths by names. Contracts say which paths each name has (`listed`); where its list is
-- stored, by a hash, matters only to the code.
use Rattle.std.specs.Prelude.{◌+◌, ◌*◌, ◌^◌, ◌/◌, ◌%◌, ℕ, Bool, true, false, not, List, [], ◌∷◌, ◌++◌, map as list_map, slice_index_or, Option, Some, None}
use Rattle.std.specs.List.{filter}
use Rattle.std.specs.Map.{lookup}
use Rattle.std.specs.BTreeMap.{is_at}
use Rattle.std.specs.Ordering.{nat_cmp, is_eq, match_ordering}
use Rattle.std.specs.Cmp.Lexicographic.{slice_cmp}
use Rattle.std.specs.declared.cmp.Ordering.{Ordering}
use Rattle.name_lists.specs.declared.path_list.Listing.{Listing}
use Rattle.name_lists.specs.declared.path_list.Listing.TheVariants.{Whole, OneMore}

abbrev pub text_cmp : List ℕ → List ℕ → Ordering
text_cmp = slice_cmp nat_cmp

-- names, each with its list
abbrev pub Bucketful : Type 0
Bucketful = List (List ℕ × List (List ℕ))

-- all names with their lists: shelves of buckets
abbrev pub Shelves : Type 0
Shelves = List (List Bucketful)

-- pairs, with the text of each first part
abbrev pub by_texts : {K X : Type 0} → (K → List ℕ) → List (K × X) → List (List ℕ × X)
by_texts text ds = list_map (λ d. (text d.0, d.1)) ds

-- a list, or the empty one
abbrev pub or_none : Option (List (List ℕ)) → List (List ℕ)
or_none None = []
or_none (Some paths) = paths

-- the list of a name in a bucket; a name that isn't there has the empty list
abbrev pub list_in : Bucketful → List ℕ → List (List ℕ)
list_in bucket name = or_none (lookup (is_at (text_cmp name)) bucket)

-- the same, on a shelf
abbrev pub list_on : List Bucketful → ℕ → List ℕ → List (List ℕ)
list_on shelf bucket name = list_in (slice_index_or shelf bucket []) name

-- the same, on one of all shelves
abbrev pub list_at : Shelves → (shelf bucket : ℕ) → List ℕ → List (List ℕ)
list_at shelves shelf bucket name = list_on (slice_index_or shelves shelf []) bucket name

-- a hash of 64 bits with one more byte
abbrev pub mixed : ℕ → ℕ → ℕ
mixed hash byte = ((hash + byte) % 2 ^ 64 * 1099511628211) % 2 ^ 64

abbrev pub hash_from : ℕ → List ℕ → ℕ
hash_from hash [] = hash
hash_from hash (b ∷ bs) = hash_from (mixed hash b) bs

-- where a name is stored, by a hash of its bytes
abbrev pub shelf_of : List ℕ → ℕ
shelf_of name = hash_from 14695981039346656037 name / 2 ^ 32 / 32 % 32

abbrev pub bucket_of : List ℕ → ℕ
bucket_of name = hash_from 14695981039346656037 name / 2 ^ 32 % 32

-- the paths that are listed under a name
unfoldable pub listed : Shelves → List ℕ → List (List ℕ)
listed shelves name = list_at shelves (shelf_of name) (bucket_of name) name

-- a list that has been changed
abbrev pub changed : Listing → List (List ℕ) → List (List ℕ)
changed (Whole paths) before = paths.items
changed (OneMore path) before = before ++ path ∷ []

-- one more path, in its place, unless it is there
abbrev pub with_path : List ℕ → List (List ℕ) → List (List ℕ)
with_path path [] = path ∷ []
with_path path (p ∷ ps) = match_ordering (text_cmp path p) (path ∷ p ∷ ps) (p ∷ ps) (p ∷ with_path path ps)

-- the rest of a list, if the path has yet to come, or if it has come
abbrev pub still_with : Bool → List ℕ → List (List ℕ) → List (List ℕ)
still_with true path ps = ps
still_with false path ps = with_path path ps

-- one path less
abbrev pub without_path : List ℕ → List (List ℕ) → List (List ℕ)
without_path path ps = filter (λ p. not (is_eq (text_cmp path p))) ps

-- a list of paths in byte order that has a path or doesn't have it
abbrev pub relisted : Bool → List ℕ → List (List ℕ) → List (List ℕ)
relisted true path ps = with_path path ps
relisted false path ps = without_path path ps
