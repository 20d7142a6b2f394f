-- Reading the text written for a tree gives the tree again.
use Rattle.std.proofs.Common.{◌≡◌, ◌≢◌, ℕ, ◌+◌, ◌-◌, ◌<◌, ◌≤◌, Bool, true, false, cond, ◌&&◌, ◌||◌, not, List, [], ◌∷◌, ◌++◌, length, drop, get_or, All, Some, None, Ok, refl, sym, ◌∙◌, ap, arith, rules, zero, suc, subst, append_assoc, T, inl, inr, length-append, append-nil}
use Rattle.std.specs.List.{list_all, list_any, flat_map, position}
use Rattle.std.specs.Prelude.{codes, is_some, nat_le, nat_lt, ◌==◌}
use Rattle.std.specs.Char.{is_ascii_digit}
use Rattle.std.specs.Fmt.{decimal}
use Rattle.std.proofs.lemmas.Fmt.{length-decimal-le}
use Rattle.std.proofs.Math.Seq.{take-append_seam}
use Rattle.std.proofs.lemmas.Bool.Decides.{nat_tests}
use Rattle.std.specs.Option.{option_map}
use Rattle.std.specs.FinMap as map
use Rattle.std.specs.FinMap.{find, is_sorted, from_entries, from_entries_push, get-from_entries, get-entries, entries_sorted, len-entries, same_map, contains_key-keys}
use Rattle.std.specs.FinMap.Entries.{below_all}
use Rattle.std.specs.Ordering.{is_lt, is_eq, eq_by_cmp}
use Rattle.std.specs.declared.cmp.Ordering.{Ordering}
use Rattle.std.specs.declared.cmp.Ordering.TheVariants.{Less, Equal, Greater}
use Rattle.std.specs.Cmp.Lexicographic.{nat_list_cmp_total}
use Rattle.std.proofs.lemmas.Map.Lookups.{exact_bytes}
use Rattle.std.proofs.lemmas.Bool.{cases_Bool, and_parts, and_from, eqb-false, eq-eqb, not-true, false≢true, leb-true}
use Rattle.std.proofs.lemmas.Grind.{common_steps}
use Rattle.std.proofs.lemmas.List.Folds.{list_all-append}
use Rattle.unit_paths.specs.Paths.{is_path, is_target, is_text_byte}
use Rattle.byte_streams.specs.Lines.{Whole, front_line, after_byte}
use Rattle.link_tree.specs.Trees.{Entries, path_cmp, entry_line, inventory_text}
use Rattle.link_tree.specs.Files.{is_contents}
use Rattle.link_tree.specs.Values.{is_entry}
use Rattle.link_tree.specs.EntryLines.{fields_of, two_fields, cut_at_tab, is_tab, file_line, by_letter, line_of}
use Rattle.link_tree.specs.Inventory.{inventory_of, entries_at, entry_at, placed}
use Rattle.byte_streams.specs.Blocks.{after_prefix}
use Rattle.link_tree.specs.declared.entry_line.EntryLine.TheVariants as lines
use Rattle.link_tree.specs.Shape.{IsTree, fits_at, is_crowded}
use Rattle.unit_paths.specs.Shape.{is_close, is_bad_shape}
use Rattle.link_tree.specs.declared.entry.Entry.{Entry}
use Rattle.link_tree.specs.declared.entry.Entry.TheVariants.{File, Link}
use Rattle.link_tree.specs.Laws.{ReadsBack}
use Rattle.link_tree.specs.Grammar.{AreDistinct, IsInventory}
use Rattle.link_tree.proofs.Shapes.{same_key}
use Rattle.std.proofs.lemmas.List.Elements.{All-nil, All-cons}
use Rattle.std.proofs.lemmas.List.Kept.{AllPairs-cons}
use Rattle.std.proofs.lemmas.List.{get_or-append-add}
use Rattle.link_tree.proofs.Keys.{same-found, any-keys}
use Rattle.byte_streams.proofs.Pieces.{front_line-byte}
use Rattle.link_tree.proofs.Entries.{next_of, entries_at-end, entries_at-more}
use Rattle.link_tree.proofs.FileBytes.{contents_read}
use Rattle.link_tree.proofs.Lengths.{digit_bounds, decimal_digits, length_of_decimal}

abbrev pub is_line_byte : ℕ → Bool
is_line_byte b = not (b == 10)

-- a line and its end
pub whole : (room : ℕ) (line rest : List ℕ) → list_all is_line_byte line ≡ true → length line ≤ room → front_line room (line ++ 10 ∷ rest) ≡ Whole line rest
unfolding front_line
whole room [] rest all short = refl
whole room (b ∷ bs) rest all short =
    let parts = and_parts (is_line_byte b) (list_all is_line_byte bs) all in
    front_line-byte room b (bs ++ 10 ∷ rest) (eqb-false b 10 (not-true (b == 10) parts.0)) (omega arith) ∙ ap (after_byte b) (whole (room - 1) bs rest parts.1 (omega arith))

three : (x y z : Bool) → not (x || y || z) ≡ true → (y ≡ false) × (z ≡ false)
three true y z h = absurd (false≢true h)
three false true z h = absurd (false≢true h)
three false false true h = absurd (false≢true h)
three false false false h = (refl, refl)

text_byte : (b : ℕ) → is_text_byte b ≡ true → (is_tab b ≡ false) × (is_line_byte b ≡ true)
unfolding is_text_byte
text_byte b h = let x = three (b == 0) (b == 9) (b == 10) h in (x.0, ap not x.1)

text_line : (xs : List ℕ) → list_all is_text_byte xs ≡ true → list_all is_line_byte xs ≡ true
text_line [] all = refl
text_line (b ∷ bs) all = let parts = and_parts (is_text_byte b) (list_all is_text_byte bs) all in and_from _ _ (text_byte b parts.0).1 (text_line bs parts.1)

text_tabs : (xs : List ℕ) → list_all is_text_byte xs ≡ true → list_any is_tab xs ≡ false
text_tabs [] all = refl
text_tabs (b ∷ bs) all = let parts = and_parts (is_text_byte b) (list_all is_text_byte bs) all in rw ((text_byte b parts.0).0, text_tabs bs parts.1) refl

position-no : (x : ℕ) (xs : List ℕ) → is_tab x ≡ false → position is_tab (x ∷ xs) ≡ option_map (λ n. suc n) (position is_tab xs)
position-no x xs e = rw e (grind (arith, common_steps))

tab-at : (p t : List ℕ) → list_all is_text_byte p ≡ true → position is_tab (p ++ 9 ∷ t) ≡ Some (length p)
tab-at [] t all = grind (arith, common_steps)
tab-at (b ∷ bs) t all = let parts = and_parts (is_text_byte b) (list_all is_text_byte bs) all in position-no b (bs ++ 9 ∷ t) (text_byte b parts.0).0 ∙ ap (option_map (λ n. suc n)) (tab-at bs t parts.1)

drop-after : (p t : List ℕ) → drop (suc (length p)) (p ++ 9 ∷ t) ≡ t
drop-after [] t = refl
drop-after (b ∷ bs) t = drop-after bs t

same-letter : (b : ℕ) → (b == b) ≡ true
same-letter b = eq-eqb b b refl

cut : (p t : List ℕ) → list_all is_text_byte p ≡ true → cut_at_tab (p ++ 9 ∷ t) ≡ Some (p, t)
cut p t all =
    let more : length p + 1 ≡ suc (length p) = omega arith in
    rw (tab-at p t all, take-append_seam p (9 ∷ t), more, drop-after p t) refl

pub target-text : (t : List ℕ) → is_target t ≡ true → (list_all is_text_byte t ≡ true) × (length t ≤ 4095)
unfolding is_target
target-text t is =
    let x = and_parts (nat_lt 0 (length t)) (nat_le (length t) 4095 && list_all is_text_byte t) is in
    let y = and_parts (nat_le (length t) 4095) (list_all is_text_byte t) x.1 in
    (y.1, leb-true (length t) 4095 y.0)

pub path-text : (p : List ℕ) → is_path p ≡ true → (list_all is_text_byte p ≡ true) × (length p ≤ 4095)
unfolding is_path
path-text p is =
    let x = and_parts (nat_le (length p) 4095) _ is in
    ((and_parts (list_all is_text_byte p) _ x.1).0, leb-true (length p) 4095 x.0)

-- a digit is a byte that texts may have
digit_text : (b : ℕ) → is_ascii_digit b ≡ true → is_text_byte b ≡ true
unfolding is_text_byte
digit_text b digit = let bounds = digit_bounds b digit in grind (arith, nat_tests, bounds.0, bounds.1)

digits_text : (ds : List ℕ) → list_all is_ascii_digit ds ≡ true → list_all is_text_byte ds ≡ true
digits_text [] all = refl
digits_text (b ∷ bs) all = let parts = and_parts (is_ascii_digit b) (list_all is_ascii_digit bs) all in and_from _ _ (digit_text b parts.0) (digits_text bs parts.1)

-- a letter and two fields
abbrev pub fields_line : ℕ → List ℕ → List ℕ → List ℕ
fields_line letter first second = letter ∷ 9 ∷ first ++ 9 ∷ second

-- conditions on the text of a field
record IsField (text : List ℕ) : Type 0 where
  bytes : list_all is_text_byte text ≡ true
  short : length text ≤ 4095

fields-read : (letter : ℕ) (first second : List ℕ) → IsField first → IsField second → fields_of letter (fields_line letter first second) ≡ Some (first, second)
fields-read letter first second one two =
    rw (same-letter letter) (ap two_fields (cut first second one.bytes) ∙ rw (text_tabs second two.bytes) refl)

fields-front : (letter : ℕ) (first second rest : List ℕ) → is_line_byte letter ≡ true → IsField first → IsField second → front_line 16384 (fields_line letter first second ++ 10 ∷ rest) ≡ Whole (fields_line letter first second) rest
fields-front letter first second rest printed one two =
    let bytes : list_all is_line_byte (fields_line letter first second) ≡ true = list_all-append is_line_byte (letter ∷ 9 ∷ first) (9 ∷ second) ∙ and_from _ _ (and_from _ _ printed (text_line first one.bytes)) (text_line second two.bytes) in
    whole 16384 (fields_line letter first second) rest bytes (omega (arith, length-append first (9 ∷ second), one.short, two.short))

path-field : (p : List ℕ) → is_path p ≡ true → IsField p
path-field p is = let x = path-text p is in record { bytes = x.0; short = x.1 }

target-field : (t : List ℕ) → is_target t ≡ true → IsField t
target-field t is = let x = target-text t is in record { bytes = x.0; short = x.1 }

size-field : (n : ℕ) → n ≤ 1048576 → IsField (decimal n)
size-field n few = record {
  bytes = digits_text (decimal n) (decimal_digits n (omega (arith, few)));
  short = omega (arith, length-decimal-le 7 n (omega arith) (omega (arith, few)) (omega (arith, few)));
}

link-line : (p t : List ℕ) → is_path p ≡ true → is_target t ≡ true → line_of (fields_line 76 p t) ≡ Ok (lines.Link p t)
unfolding line_of
link-line p t path target = ap (by_letter None) (fields-read 76 p t (path-field p path) (target-field t target)) ∙ rw (path, target) refl

file-line : (n : ℕ) (p : List ℕ) → is_path p ≡ true → n ≤ 1048576 → line_of (fields_line 70 (decimal n) p) ≡ Ok (lines.File p n)
unfolding line_of
file-line n p path few =
    let large : nat_lt 1048576 n ≡ false = grind (arith, nat_tests) in
    ap (λ fields. by_letter fields None) (fields-read 70 (decimal n) p (size-field n few) (path-field p path))
    ∙ ap (λ size. file_line size p) (length_of_decimal n (omega (arith, few))) ∙ rw (path, large) refl

-- the bytes of an entry, as they are read: a line, and for a file its contents and a line end
pub link-bytes : (p t more : List ℕ) → entry_line (p, Link t) ++ more ≡ fields_line 76 p t ++ 10 ∷ more
link-bytes p t more = search (rules, append_assoc)

pub file-bytes : (p c more : List ℕ) → entry_line (p, File c) ++ more ≡ fields_line 70 (decimal (length c)) p ++ 10 ∷ (c ++ 10 ∷ more)
file-bytes p c more = search (rules, append_assoc)

entry-again : (p : List ℕ) (e : Entry) (more : List ℕ) → is_path p ≡ true → is_entry e ≡ true → entry_at true (front_line 16384 (entry_line (p, e) ++ more)) ≡ Ok (Some (p, e), more)
unfolding is_contents
entry-again p (Link t) more path target =
    ap (λ l. entry_at true (front_line 16384 l)) (link-bytes p t more) ∙ ap (entry_at true) (fields-front 76 p t more refl (path-field p path) (target-field t target)) ∙ rw (link-line p t path target) refl
entry-again p (File c) more path sized =
    let few : length c ≤ 1048576 = leb-true (length c) 1048576 sized in
    ap (λ l. entry_at true (front_line 16384 l)) (file-bytes p c more)
    ∙ ap (entry_at true) (fields-front 70 (decimal (length c)) p (c ++ 10 ∷ more) refl (size-field (length c) few) (path-field p path))
    ∙ rw (file-line (length c) p path few) (rw (contents_read c more) refl)

end-line : line_of (codes "end") ≡ Ok lines.End
unfolding line_of
end-line = refl

end-read : (more : ℕ) (rest : List ℕ) → next_of more (codes "end\n" ++ rest) ≡ Ok (None, rest)
end-read zero rest = ap (entry_at false) (whole 16384 (codes "end") rest refl (omega arith)) ∙ rw end-line refl
end-read (suc more) rest = ap (entry_at true) (whole 16384 (codes "end") rest refl (omega arith)) ∙ rw end-line refl

second : (a b : Bool) → T (a && b) → T b
second true b h = h
second false b h = absurd h

first : (a b : Bool) → T (a && b) → T a
first true b h = tt
first false b h = absurd h

less_apart : (r : Ordering) → T (is_lt r) → is_eq r ≡ false
less_apart Less h = refl
less_apart Equal h = absurd h
less_apart Greater h = absurd h

some_none : {P : Type 0} (e : Entry) → Some e ≡ None → P
some_none e h = cc

find-later : (q : List ℕ) (ds es : List (List ℕ × Entry)) → find path_cmp q ds ≡ None → find path_cmp q (ds ++ es) ≡ find path_cmp q es
find-later q [] es none = refl
find-later q (d ∷ ds) es none = elim (cases_Bool (eq_by_cmp path_cmp q d.0)) [
  | inl here ↦ some_none d.1 (rw here at none)
  | inr away ↦ rw away (find-later q ds es (rw away at none))
]

find-front : (q : List ℕ) (ds es : List (List ℕ × Entry)) → is_some (find path_cmp q ds) ≡ true → is_some (find path_cmp q (ds ++ es)) ≡ true
find-front q [] es some = absurd (false≢true some)
find-front q (d ∷ ds) es some = elim (cases_Bool (eq_by_cmp path_cmp q d.0)) [
  | inl here ↦ rw here refl
  | inr away ↦ rw away (find-front q ds es (rw away at some))
]

pub found-at : (done : List (List ℕ × Entry)) (e : List ℕ × Entry) (es : List (List ℕ × Entry)) → find path_cmp e.0 done ≡ None → map.get (from_entries {R = path_cmp} (done ++ e ∷ es)) e.0 ≡ Some e.1
found-at done e es none = get-from_entries nat_list_cmp_total (done ++ e ∷ es) e.0 ∙ find-later e.0 done (e ∷ es) none ∙ ap (λ (b : Bool). cond b (Some e.1) (find path_cmp e.0 es)) (same-found e.0)

-- paths in order are distinct
below-apart : (p : List ℕ) (es : List (List ℕ × Entry)) → T (below_all path_cmp p es) → All (λ other. p ≢ other.0) es
below-apart p [] below = All-nil (λ other. p ≢ other.0)
below-apart p (e ∷ es) below =
    let apart : p ≢ e.0 = λ same. false≢true (sym (less_apart (path_cmp p e.0) (first _ _ below)) ∙ ap (eq_by_cmp path_cmp p) (sym same) ∙ same-found p) in
    All-cons (λ other. p ≢ other.0) e es apart (below-apart p es (second _ _ below))

pub sorted-distinct : (es : List (List ℕ × Entry)) → T (is_sorted path_cmp es) → AreDistinct es
sorted-distinct [] sorted = λ i j d before within. absurd (omega arith)
sorted-distinct (e ∷ es) sorted = AllPairs-cons (λ one other. one.0 ≢ other.0) e es (below-apart e.0 es (first _ _ sorted)) (sorted-distinct es (second _ _ sorted))

-- a path that is distinct from all those done isn't found among them
pub none-alike : (done : List (List ℕ × Entry)) (e : List ℕ × Entry) (es : List (List ℕ × Entry)) → AreDistinct (done ++ e ∷ es) → find path_cmp e.0 done ≡ None
none-alike [] e es distinct = refl
none-alike (d ∷ ds) e es distinct =
    let here : length ds ≡ length ds + 0 = omega arith in
    let at : get_or (ds ++ e ∷ es) (length ds) e ≡ e = ap (λ n. get_or (ds ++ e ∷ es) n e) here ∙ get_or-append-add ds (e ∷ es) 0 e in
    let other : d.0 ≢ e.0 = rw at at (distinct 0 (suc (length ds)) e (omega arith) (omega (arith, length-append ds (e ∷ es)))) in
    elim (cases_Bool (eq_by_cmp path_cmp e.0 d.0)) [
      | inl same ↦ absurd (other (sym (same_key e.0 d.0 same)))
      | inr away ↦ rw (away, none-alike ds e es (λ i j x before within. distinct (suc i) (suc j) x (omega arith) (omega arith))) refl
    ]

-- the next is neither above nor beneath any of those done
pub not-crowded : (done : List (List ℕ × Entry)) (e : List ℕ × Entry) (es : List (List ℕ × Entry)) → find path_cmp e.0 done ≡ None → IsTree (from_entries (done ++ e ∷ es)) → is_crowded (from_entries done) e.0 ≡ false
unfolding is_crowded
not-crowded done e es none tree = any-keys (is_close e.0) (map.keys (from_entries {R = path_cmp} done)) (λ q some.
    let stood = contains_key-keys (from_entries {R = path_cmp} done) q ∙ some in
    let was = sym (ap is_some (get-from_entries nat_list_cmp_total done q)) ∙ stood in
    let stands = ap is_some (get-from_entries nat_list_cmp_total (done ++ e ∷ es) q) ∙ find-front q done (e ∷ es) was in
    tree.apart e.0 q (ap is_some (found-at done e es none)) stands)

pub entry-fits : (p : List ℕ) (e : Entry) → fits_at p e ≡ true → (is_path p ≡ true) × (is_entry e ≡ true) × (is_bad_shape p ≡ false)
unfolding fits_at
entry-fits p e h =
    let x = and_parts (is_path p && is_entry e) (not (is_bad_shape p)) h in
    let y = and_parts (is_path p) (is_entry e) x.0 in
    (y.0, y.1, not-true (is_bad_shape p) x.1)

pub placed-next : (m : Entries) (p : List ℕ) (e : Entry) → map.get m p ≡ None → is_crowded m p ≡ false → is_bad_shape p ≡ false → placed m (p, e) ≡ Ok (map.insert m p e)
unfolding placed
placed-next m p e none apart shape = rw (none, apart, shape) refl

pub next-read : (more : ℕ) (p : List ℕ) (e : Entry) (rest : List ℕ) → 0 < more → is_path p ≡ true → is_entry e ≡ true → next_of more (entry_line (p, e) ++ rest) ≡ Ok (Some (p, e), rest)
next-read zero p e rest some path entry = absurd (omega arith)
next-read (suc more) p e rest some path entry = entry-again p e rest path entry

-- the remaining entries, read after those done
again : (more number : ℕ) (done todo : List (List ℕ × Entry)) (rest : List ℕ) → AreDistinct (done ++ todo) → IsTree (from_entries (done ++ todo)) → length todo ≤ more
    → entries_at more number (from_entries done) (flat_map entry_line todo ++ (codes "end\n" ++ rest)) ≡ Ok (from_entries (done ++ todo), rest)
again more number done [] rest distinct tree few =
    entries_at-end more number (from_entries done) (codes "end\n" ++ rest) rest (end-read more rest) ∙ ap (λ (es : List (List ℕ × Entry)). Ok (from_entries es, rest)) (sym (append-nil done))
again more number done ((p, e) ∷ es) rest distinct tree few =
    let none = none-alike done (p, e) es distinct in
    let fits = entry-fits p e (tree.fits p e (found-at done (p, e) es none)) in
    let tail : List ℕ = flat_map entry_line es ++ (codes "end\n" ++ rest) in
    let grown = from_entries_push nat_list_cmp_total exact_bytes done p e none in
    let place : placed (from_entries done) (p, e) ≡ Ok (from_entries (done ++ (p, e) ∷ [])) =
    placed-next (from_entries done) p e (get-from_entries nat_list_cmp_total done p ∙ none) (not-crowded done (p, e) es none tree) fits.2 ∙ ap (λ (m : Entries). Ok m) (sym grown) in
    let whole_list : (done ++ (p, e) ∷ []) ++ es ≡ done ++ (p, e) ∷ es = append_assoc done ((p, e) ∷ []) es in
    let room : 0 < more = omega (arith, few) in
    let fewer : length es ≤ more - 1 = omega (arith, few) in
    let next = again (more - 1) (number + 1) (done ++ (p, e) ∷ []) es rest (subst AreDistinct (sym whole_list) distinct)
    (subst (λ (l : List (List ℕ × Entry)). IsTree (from_entries l)) (sym whole_list) tree) fewer in
    ap (entries_at more number (from_entries done)) (append_assoc (entry_line (p, e)) (flat_map entry_line es) (codes "end\n" ++ rest))
    ∙ entries_at-more more number (from_entries done) (from_entries (done ++ (p, e) ∷ [])) (entry_line (p, e) ++ tail) tail (p, e) room (next-read more p e tail room fits.0 fits.1) place
    ∙ next ∙ ap (λ (l : List (List ℕ × Entry)). Ok (from_entries l, rest)) whole_list

-- a tree is made of its entries
pub made_of : (m : Entries) → from_entries (map.entries m) ≡ m
made_of m = same_map nat_list_cmp_total exact_bytes _ _ (λ q. get-from_entries nat_list_cmp_total (map.entries m) q ∙ sym (get-entries m q))

pub header-read : (bytes : List ℕ) → inventory_of (codes "unitadm-inventory 1\n" ++ bytes) ≡ entries_at 65536 1 map.empty bytes
unfolding after_prefix
header-read bytes = refl

-- An inventory is read as its tree, in whatever order its entries are.
pub inventory_read : (bytes : List ℕ) (m : Entries) (rest : List ℕ) → IsInventory bytes m rest → inventory_of bytes ≡ Ok (m, rest)
inventory_read bytes m rest is =
    ap inventory_of is.text ∙ header-read (flat_map entry_line is.entries ++ (codes "end\n" ++ rest))
    ∙ again 65536 1 [] is.entries rest is.distinct (subst IsTree is.map is.tree) is.few
    ∙ ap (λ (n : Entries). Ok (n, rest)) (sym is.map)

-- The text of a tree is an inventory, with the entries in order.
pub reads_again : ReadsBack
reads_again m rest tree few = inventory_read (inventory_text m ++ rest) m rest (record {
  entries = map.entries m;
  text = ap (λ l. codes "unitadm-inventory 1\n" ++ l) (append_assoc (flat_map entry_line (map.entries m)) (codes "end\n") rest);
  few = omega (arith, few, len-entries m);
  distinct = sorted-distinct (map.entries m) (entries_sorted m);
  map = sym (made_of m);
  tree = tree;
})
