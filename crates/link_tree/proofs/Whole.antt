-- Pieces in order as a finite map.
use Rattle.std.proofs.Common.{◌≡◌, ℕ, ◌+◌, ◌-◌, ◌≤◌, Bool, true, false, not, cond, List, [], Option, Some, None, length, sym, ap, ◌∙◌, refl, arith}
use Rattle.std.specs.Prelude.{is_some}
use Rattle.std.specs.Option.{option_map}
use Rattle.std.specs.Cmp.{eq_by_cmp_equiv}
use Rattle.std.specs.Cmp.Lexicographic.{nat_list_cmp_total}
use Rattle.std.specs.Ordering.{eq_by_cmp}
use Rattle.std.specs.FinMap as map
use Rattle.std.specs.FinMap.{find, put}
use Rattle.std.specs.FinMap.Entries.{length-put, length_without, find-where_key}
use Rattle.std.proofs.lemmas.Map.Lookups.{exact_bytes}
use Rattle.link_tree.specs.Trees.{path_cmp, Entries}
use Rattle.link_tree.specs.Pieces.{Item, joined, others, AreInOrder}
use Rattle.link_tree.specs.declared.entry.Entry.{Entry}
use Rattle.link_tree.proofs.Maps.{is_equal}
use Rattle.link_tree.proofs.Spots.{holds}

-- the map of entries in order
abbrev pub whole : List Item → Entries
whole items = map.from_sorted {R = path_cmp} items

turned_round : (b : Bool) (x : Option Entry) → cond (not b) x None ≡ cond b None x
turned_round true x = refl
turned_round false x = refl

module _ (pieces : List (List Item)) (order : AreInOrder pieces) where
  pub entries_whole : map.entries (whole (joined pieces)) ≡ joined pieces
  entries_whole = map.entries-from_sorted path_cmp (joined pieces) (holds order.0)

  pub len_whole : map.len (whole (joined pieces)) ≡ length (joined pieces)
  len_whole = map.len-entries (whole (joined pieces)) ∙ ap length entries_whole

  pub get_whole : (path : List ℕ) → map.get (whole (joined pieces)) path ≡ find path_cmp path (joined pieces)
  get_whole path = map.get-from_sorted path_cmp (joined pieces) path (holds order.0)

  -- pieces that hold the wanted entries represent the wanted map
  pub put_whole : (path : List ℕ) (entry : Entry) (new : List (List Item)) → AreInOrder new × (joined new ≡ put path_cmp path entry (joined pieces)) → whole (joined new) ≡ map.insert (whole (joined pieces)) path entry
  put_whole path entry new become =
      map.same_entries_map _ _ (map.entries-from_sorted path_cmp (joined new) (holds become.0.0) ∙ become.1
      ∙ sym (map.entries-insert nat_list_cmp_total (whole (joined pieces)) path entry ∙ ap (put path_cmp path entry) entries_whole))

  pub others_whole : (path : List ℕ) (new : List (List Item)) → AreInOrder new × (joined new ≡ others path (joined pieces)) → whole (joined new) ≡ map.remove (whole (joined pieces)) path
  others_whole path new become = map.same_map nat_list_cmp_total exact_bytes _ _ (λ q.
      map.get-from_sorted path_cmp (joined new) q (holds become.0.0) ∙ ap (find path_cmp q) become.1
      ∙ find-where_key path_cmp (λ k. not (eq_by_cmp path_cmp path k)) q (λ k same. ap (λ p. not (eq_by_cmp path_cmp path p)) (sym (exact_bytes q k same))) (joined pieces)
      ∙ turned_round (eq_by_cmp path_cmp path q) (find path_cmp q (joined pieces))
      ∙ ap (λ b. cond b None (find path_cmp q (joined pieces))) ((eq_by_cmp_equiv nat_list_cmp_total).symm path q)
      ∙ sym (map.get-remove nat_list_cmp_total (whole (joined pieces)) path q ∙ ap (cond (eq_by_cmp path_cmp q path) None) (get_whole q)))

  -- the number of entries afterwards
  pub length_over : (path : List ℕ) (entry : Entry) → is_some (find path_cmp path (joined pieces)) ≡ true → length (put path_cmp path entry (joined pieces)) ≡ length (joined pieces)
  length_over path entry there =
      length-put path_cmp nat_list_cmp_total path entry (joined pieces) (holds order.0) ∙ ap (λ b. cond b (length (joined pieces)) (length (joined pieces) + 1)) there

  pub length_more : (path : List ℕ) (entry : Entry) → find path_cmp path (joined pieces) ≡ None → length (put path_cmp path entry (joined pieces)) ≡ length (joined pieces) + 1
  length_more path entry free =
      length-put path_cmp nat_list_cmp_total path entry (joined pieces) (holds order.0) ∙ ap (λ (o : Option Entry). cond (is_some o) (length (joined pieces)) (length (joined pieces) + 1)) free

  pub length_less : (path : List ℕ) → is_some (find path_cmp path (joined pieces)) ≡ true → 1 + length (others path (joined pieces)) ≡ length (joined pieces)
  length_less path there =
      ap (λ b. cond b 1 0 + length (others path (joined pieces))) (sym there) ∙ length_without path_cmp nat_list_cmp_total path (joined pieces) (holds order.0)

  -- removing what is not there changes nothing
  pub nothing_taken : (path : List ℕ) → find path_cmp path (joined pieces) ≡ None → whole (joined pieces) ≡ map.remove (whole (joined pieces)) path
  nothing_taken path free = map.same_map nat_list_cmp_total exact_bytes _ _ (λ q. sym (map.get-remove nat_list_cmp_total (whole (joined pieces)) path q ∙ away q (eq_by_cmp path_cmp q path) refl))
    where
      away : (q : List ℕ) (b : Bool) → eq_by_cmp path_cmp q path ≡ b → cond b None (map.get (whole (joined pieces)) q) ≡ map.get (whole (joined pieces)) q
      away q true same = sym (ap (map.get (whole (joined pieces))) (exact_bytes q path (is_equal (path_cmp q path) same)) ∙ get_whole path ∙ free)
      away q false other = refl

pub none_whole : whole [] ≡ map.empty
none_whole = map.empty_of_len (whole []) (map.len-entries (whole []) ∙ ap length (map.entries-from_sorted path_cmp [] tt))

pub one_back : (n m : ℕ) → 1 + m ≡ n → (1 ≤ n) × (n - 1 ≡ m)
one_back n m more = (omega arith, omega arith)

-- an entry found with its path is the one at that path
pub placed_is : (path : List ℕ) (there : Option Entry) (item : Item) → Some item ≡ option_map (λ entry. (path, entry)) there → (item.0 ≡ path) × (there ≡ Some item.1)
placed_is path None item is = cc
placed_is path (Some entry) item is = let same : item ≡ (path, entry) = cc in (ap (λ (x : Item). x.0) same, ap (λ (x : Item). Some x.1) (sym same))
