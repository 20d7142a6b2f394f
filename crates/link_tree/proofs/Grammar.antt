-- Bytes that are read as a tree are its inventory.
use Rattle.std.proofs.Common.{◌≡◌, ◌≢◌, ℕ, zero, suc, ◌+◌, ◌-◌, ◌<◌, ◌≤◌, Bool, true, false, List, [], ◌∷◌, ◌++◌, length, All, Option, None, Some, Result, Ok, Err, refl, sym, ap, ◌∙◌, inl, inr, arith, subst, append_assoc, append-nil}
use Rattle.std.specs.Prelude.{codes, is_some, if◌then◌else◌}
use Rattle.std.specs.List.{flat_map}
use Rattle.std.specs.Ordering.{eq_by_cmp}
use Rattle.std.specs.Cmp.Lexicographic.{nat_list_cmp_total}
use Rattle.std.specs.FinMap as map
use Rattle.std.specs.FinMap.{find, from_entries, from_entries_push, get-from_entries}
use Rattle.std.proofs.lemmas.Map.Lookups.{exact_bytes}
use Rattle.std.proofs.lemmas.Bool.{cases_Bool, false≢true}
use Rattle.std.proofs.lemmas.List.Elements.{All-nil, All-cons}
use Rattle.std.proofs.lemmas.List.Quantifiers.{all_pairs_push}
use Rattle.unit_paths.specs.Paths.{is_path}
use Rattle.unit_paths.specs.Shape.{is_bad_shape}
use Rattle.byte_streams.specs.Lines.{front_line}
use Rattle.byte_streams.specs.Blocks.{after_prefix}
use Rattle.link_tree.specs.Values.{is_entry}
use Rattle.link_tree.specs.Trees.{Entries, path_cmp, entry_line}
use Rattle.link_tree.specs.Shape.{IsTree, is_crowded}
use Rattle.link_tree.specs.Inventory.{◌>>=◌, line_of_front, contents_at, entry_of, end_of, entry_at, placed, in_entry, entries_at, header, header_of, inventory_of}
use Rattle.link_tree.specs.Grammar.{AreDistinct, IsInventory, InventoriesAreEntries}
use Rattle.link_tree.specs.declared.entry.Entry.{Entry}
use Rattle.link_tree.specs.declared.entry.Entry.TheVariants.{File}
use Rattle.link_tree.specs.declared.entry_line.EntryLine.{EntryLine}
use Rattle.link_tree.specs.declared.entry_line.EntryLine.TheVariants as lines
use Rattle.link_tree.specs.declared.inventory_fault.InventoryFault.{InventoryFault}
use Rattle.link_tree.specs.declared.inventory_fault.InventoryFault.TheVariants.{Duplicate, UnderEntry, BadShape}
use Rattle.link_tree.proofs.Keys.{same-found}
use Rattle.link_tree.proofs.Shapes.{empty_tree, grown_tree, fits_from}
use Rattle.link_tree.proofs.FileBytes.{contents_are, sized}
use Rattle.link_tree.proofs.Entries.{Next, has_room, next_of, entries_at-end, entries_at-bad, entries_at-refused, entries_at-more}
use Rattle.link_tree.proofs.Again.{link-bytes, file-bytes, inventory_read}
use Rattle.byte_streams.proofs.Fronts.{whole_is}
use Rattle.byte_streams.proofs.Prefixes.{prefix_is}
use Rattle.link_tree.proofs.Results.{both_ok, else_ok, no_ok, ok_is}
use Rattle.link_tree.proofs.Undecided.{front_is}
use Rattle.link_tree.proofs.GrammarLines.{line_is, line_text, IsSaid}

-- what is at the front of the bytes: an entry, if there is room for one, or the line `end`
abbrev pub IsNext : Bool → List ℕ → Option Next → List ℕ → Type 0
IsNext room bytes None rest = bytes ≡ codes "end\n" ++ rest
IsNext room bytes (Some entry) rest = (room ≡ true) × (bytes ≡ entry_line entry ++ rest) × (is_path entry.0 ≡ true) × (is_entry entry.1 ≡ true)

-- the entry that a line begins: for a file its bytes follow the line
said_is : (room : Bool) (said : EntryLine) (bytes after : List ℕ) (o : Option Next) (rest : List ℕ) → bytes ≡ line_text said ++ 10 ∷ after → IsSaid said → (if room then entry_of said after else end_of said after) ≡ Ok (o, rest) → IsNext room bytes o rest
said_is true lines.End bytes after o rest is good h = subst (λ x. IsNext true bytes x.0 x.1) (ok_is h) is
said_is true (lines.Link path target) bytes after o rest is good h = subst (λ x. IsNext true bytes x.0 x.1) (ok_is h) (refl, is ∙ sym (link-bytes path target after), good.0, good.1)
said_is true (lines.File path size) bytes after o rest is good h =
    let at = both_ok (contents_at size after) (λ found. Ok (Some (path, File found.0), found.1)) (o, rest) h in
    let held = contents_are size after at.0.0 at.0.1 at.1 in
    let lines_are : bytes ≡ entry_line (path, File at.0.0) ++ at.0.1 = is ∙ (λ i. line_text (lines.File path (sym held.0 i)) ++ 10 ∷ held.1 i) ∙ sym (file-bytes path at.0.0 at.0.1) in
    subst (λ x. IsNext true bytes x.0 x.1) (ok_is at.2) (refl, lines_are, good.0, sized size at.0.0 good.1 held.0)
said_is false lines.End bytes after o rest is good h = subst (λ x. IsNext false bytes x.0 x.1) (ok_is h) is
said_is false (lines.Link path target) bytes after o rest is good h = no_ok h
said_is false (lines.File path size) bytes after o rest is good h = no_ok h

-- what was read from the front of the bytes is there
pub next_is : (room : Bool) (bytes : List ℕ) (o : Option Next) (rest : List ℕ) → entry_at room (front_line 16384 bytes) ≡ Ok (o, rest) → IsNext room bytes o rest
next_is room bytes o rest h =
    let at = both_ok (line_of_front (front_line 16384 bytes)) (λ found. if room then entry_of found.0 found.1 else end_of found.0 found.1) (o, rest) h in
    let front = front_is (front_line 16384 bytes) at.0.0 at.0.1 at.1 in
    let line = whole_is 16384 bytes front.0 at.0.1 front.1 in
    let said = line_is front.0 at.0.0 front.2 in
    said_is room at.0.0 bytes at.0.1 o rest (line.0 ∙ ap (λ l. l ++ 10 ∷ at.0.1) said.0) said.1 at.2

not_some : (o : Option Entry) → is_some o ≡ false → o ≡ None
not_some None h = refl
not_some (Some e) h = absurd (false≢true (sym h))

-- An entry was added to the tree: nothing was at its path, and nothing above or beneath it.
pub record IsPlaced (m : Entries) (path : List ℕ) (entry : Entry) (m' : Entries) : Type 0 where
  pub free : map.get m path ≡ None
  pub apart : is_crowded m path ≡ false
  pub shape : is_bad_shape path ≡ false
  pub grown : map.insert m path entry ≡ m'

pub placed_is : (m : Entries) (path : List ℕ) (entry : Entry) (m' : Entries) → placed m (path, entry) ≡ Ok m' → IsPlaced m path entry m'
unfolding placed
placed_is m path entry m' h =
    let at = else_ok (is_some (map.get m path)) Duplicate (if is_crowded m path then Err UnderEntry else if is_bad_shape path then Err BadShape else Ok (map.insert m path entry)) m' h in
    let near = else_ok (is_crowded m path) UnderEntry (if is_bad_shape path then Err BadShape else Ok (map.insert m path entry)) m' at.1 in
    let shaped = else_ok (is_bad_shape path) BadShape (Ok (map.insert m path entry)) m' near.1 in
    record { free = not_some (map.get m path) at.0; apart = near.0; shape = shaped.0; grown = ok_is shaped.1 }

-- a path that isn't found is none of those done
pub not_among : (path : List ℕ) (done : List Next) → find path_cmp path done ≡ None → All (λ one. one.0 ≢ path) done
not_among path [] none = All-nil (λ one. one.0 ≢ path)
not_among path (d ∷ ds) none = elim (cases_Bool (eq_by_cmp path_cmp path d.0)) [
  | inl here ↦ absurd (cc (rw here at none))
  | inr away ↦ (let other : d.0 ≢ path = λ same. false≢true (sym away ∙ ap (eq_by_cmp path_cmp path) same ∙ same-found path) in
      All-cons (λ one. one.0 ≢ path) d ds other (not_among path ds (rw away at none)))
]

-- The form of bytes from which a tree was read: the remaining entries after those done, and the
-- line `end`.
record AreRead (more : ℕ) (done : List Next) (bytes : List ℕ) (m : Entries) (rest : List ℕ) : Type 0 where
  todo : List Next
  text : bytes ≡ flat_map entry_line todo ++ (codes "end\n" ++ rest)
  few : length todo ≤ more
  distinct : AreDistinct (done ++ todo)
  map : m ≡ from_entries (done ++ todo)
  tree : IsTree m

-- bytes from which a tree is read, if at most this many more entries are allowed, are entries and
-- the line `end`
abbrev Reads : ℕ → Type 0
Reads more = (number : ℕ) (done : List Next) (bytes : List ℕ) (m : Entries) (rest : List ℕ) → AreDistinct done → IsTree (from_entries done) → entries_at more number (from_entries done) bytes ≡ Ok (m, rest) → AreRead more done bytes m rest

pub some_room : (more : ℕ) → has_room more ≡ true → 0 < more
some_room zero h = absurd (false≢true h)
some_room (suc more) h = omega arith

module _ (more number : ℕ) (done : List Next) (bytes : List ℕ) (m : Entries) (rest : List ℕ) (distinct : AreDistinct done) (tree : IsTree (from_entries done)) (read : entries_at more number (from_entries done) bytes ≡ Ok (m, rest)) where
  at_end : (after : List ℕ) → next_of more bytes ≡ Ok (None, after) → AreRead more done bytes m rest
  at_end after is =
      let same : ◌≡◌ {A = Entries × List ℕ} (from_entries done, after) (m, rest) = ok_is (sym (entries_at-end more number (from_entries done) bytes after is) ∙ read) in
      let all = append-nil done in
      record {
        todo = [];
        text = next_is (has_room more) bytes None after is ∙ ap (λ x. codes "end\n" ++ x.1) same;
        few = omega arith;
        distinct = subst AreDistinct (sym all) distinct;
        map = sym (ap (λ x. x.0) same) ∙ ap from_entries (sym all);
        tree = subst IsTree (ap (λ x. x.0) same) tree;
      }

  at_entry : (0 < more → Reads (more - 1)) → (entry : Next) (after : List ℕ) → next_of more bytes ≡ Ok (Some entry, after) → (grown : Result Entries InventoryFault) → placed (from_entries done) entry ≡ grown → AreRead more done bytes m rest
  at_entry later entry after is (Err fault) refused =
      let here = next_is (has_room more) bytes (Some entry) after is in
      no_ok (sym (entries_at-refused more number (from_entries done) bytes after entry fault (some_room more here.0) is refused) ∙ read)
  at_entry later entry after is (Ok grown) place =
      let here = next_is (has_room more) bytes (Some entry) after is in
      let room = some_room more here.0 in
      let at = placed_is (from_entries done) entry.0 entry.1 grown place in
      let none : find path_cmp entry.0 done ≡ None = sym (get-from_entries nat_list_cmp_total done entry.0) ∙ at.free in
      let pushed : from_entries (done ++ entry ∷ []) ≡ map.insert (from_entries done) entry.0 entry.1 = from_entries_push nat_list_cmp_total exact_bytes done entry.0 entry.1 none in
      let fits = fits_from entry.0 entry.1 here.2 here.3 at.shape in
      let next = later room (number + 1) (done ++ entry ∷ []) after m rest
      (all_pairs_push (λ one other. one.0 ≢ other.0) done entry distinct (not_among entry.0 done none))
      (subst IsTree (sym pushed) (grown_tree (from_entries done) entry.0 entry.1 tree fits at.apart))
      (ap (λ t. entries_at (more - 1) (number + 1) t after) (pushed ∙ at.grown) ∙ sym (entries_at-more more number (from_entries done) grown bytes after entry room is place) ∙ read) in
      let all : (done ++ entry ∷ []) ++ next.todo ≡ done ++ entry ∷ next.todo = append_assoc done (entry ∷ []) next.todo in
      record {
        todo = entry ∷ next.todo;
        text = here.1 ∙ ap (λ l. entry_line entry ++ l) next.text ∙ sym (append_assoc (entry_line entry) (flat_map entry_line next.todo) (codes "end\n" ++ rest));
        few = omega (arith, next.few, room);
        distinct = subst AreDistinct all next.distinct;
        map = next.map ∙ ap from_entries all;
        tree = next.tree;
      }

-- one more entry, or the end: the rest of the bytes has room for one entry less
step : (more : ℕ) → (0 < more → Reads (more - 1)) → Reads more
step more later number done bytes m rest distinct tree read = one (next_of more bytes) refl
  where
    one : (next : Result (Option Next × List ℕ) InventoryFault) → next_of more bytes ≡ next → AreRead more done bytes m rest
    one (Err fault) is = no_ok (sym (entries_at-bad more number (from_entries done) bytes fault is) ∙ read)
    one (Ok (None, after)) is = at_end more number done bytes m rest distinct tree read after is
    one (Ok (Some entry, after)) is = at_entry more number done bytes m rest distinct tree read later entry after is (placed (from_entries done) entry) refl

entries_are : (more : ℕ) → Reads more
entries_are zero = step zero (λ some. absurd (omega arith))
entries_are (suc more) =
    let less : more ≡ suc more - 1 = omega arith in
    step (suc more) (λ some. subst Reads less (entries_are more))

-- Bytes that are read as a tree are an inventory.
inventory_is : (bytes : List ℕ) (m : Entries) (rest : List ℕ) → inventory_of bytes ≡ Ok (m, rest) → IsInventory bytes m rest
inventory_is bytes m rest h = go (after_prefix header bytes) refl h
  where
    go : (found : Option (List ℕ)) → after_prefix header bytes ≡ found → (in_entry 0 (header_of found) >>= λ x. entries_at 65536 1 map.empty x.1) ≡ Ok (m, rest) → IsInventory bytes m rest
    go None is read = no_ok read
    go (Some body) is read =
        let all = entries_are 65536 1 [] body m rest (λ i j d before within. absurd (omega arith)) empty_tree read in
        record {
          entries = all.todo;
          text = prefix_is header bytes body is ∙ ap (λ l. header ++ l) all.text;
          few = all.few;
          distinct = all.distinct;
          map = all.map;
          tree = all.tree;
        }

pub inventories_are_entries : InventoriesAreEntries
inventories_are_entries bytes m rest = (inventory_is bytes m rest, inventory_read bytes m rest)
