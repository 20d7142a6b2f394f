-- The number of bytes written for a tree can be counted without overflow.
use Rattle.std.proofs.Common.{◌≡◌, ℕ, ◌*◌, ◌^◌, ◌<◌, ◌≤◌, true, List, [], ◌∷◌, ◌++◌, length, codes, ap, sym, subst, arith, append_assoc, length-append}
use Rattle.std.specs.List.{flat_map}
use Rattle.std.specs.Fmt.{decimal}
use Rattle.std.proofs.lemmas.Fmt.{length-decimal-le}
use Rattle.std.proofs.lemmas.List.Concat.{flat_map-cons}
use Rattle.std.proofs.lemmas.Bool.{leb-true}
use Rattle.std.specs.FinMap as map
use Rattle.std.specs.FinMap.{from_entries, entries_sorted, len-entries}
use Rattle.unit_paths.specs.Paths.{is_path}
use Rattle.link_tree.specs.Files.{is_contents}
use Rattle.link_tree.specs.Values.{is_entry}
use Rattle.link_tree.specs.Trees.{Entries, entry_line, inventory_text}
use Rattle.link_tree.specs.Shape.{IsTree}
use Rattle.link_tree.specs.Grammar.{AreDistinct}
use Rattle.link_tree.specs.declared.entry.Entry.{Entry}
use Rattle.link_tree.specs.declared.entry.Entry.TheVariants.{File, Link}
use Rattle.link_tree.proofs.Again.{entry-fits, found-at, made_of, none-alike, path-text, sorted-distinct, target-text}

-- more bytes than the lines of an entry have
abbrev pub most_of_line : ℕ
most_of_line = 2097152

few_in_file : (c : List ℕ) → is_contents c ≡ true → length c ≤ 1048576
unfolding is_contents
few_in_file c is = leb-true (length c) 1048576 is

line_is_short : (p : List ℕ) (e : Entry) → is_path p ≡ true → is_entry e ≡ true → length (entry_line (p, e)) ≤ most_of_line
line_is_short p (File c) path entry =
    let few = few_in_file c entry in
    let short = (path-text p path).1 in
    let digits : length (decimal (length c)) ≤ 7 = length-decimal-le 7 (length c) (omega arith) (omega (arith, few)) (omega (arith, few)) in
    grind (arith, few, short, digits, length-append)
line_is_short p (Link t) path entry =
    let short = (path-text p path).1 in
    let target = (target-text t entry).1 in
    grind (arith, short, target, length-append)

lines_are_short : (done todo : List (List ℕ × Entry)) → AreDistinct (done ++ todo) → IsTree (from_entries (done ++ todo)) → length (flat_map entry_line todo) ≤ length todo * most_of_line
lines_are_short done [] distinct tree = omega arith
lines_are_short done ((p, e) ∷ es) distinct tree =
    let none = none-alike done (p, e) es distinct in
    let fits = entry-fits p e (tree.fits p e (found-at done (p, e) es none)) in
    let line = line_is_short p e fits.0 fits.1 in
    let whole_list : (done ++ (p, e) ∷ []) ++ es ≡ done ++ (p, e) ∷ es = append_assoc done ((p, e) ∷ []) es in
    let rest : length (flat_map entry_line es) ≤ length es * most_of_line = lines_are_short (done ++ (p, e) ∷ []) es (subst AreDistinct (sym whole_list) distinct)
    (subst (λ (l : List (List ℕ × Entry)). IsTree (from_entries l)) (sym whole_list) tree) in
    omega (arith, line, rest, length-append (entry_line (p, e)) (flat_map entry_line es), ap length (flat_map-cons entry_line (p, e) es))

pub text_is_counted : (text : List ℕ) (m : Entries) → IsTree m → map.len m ≤ 1099511627776 → length text ≤ 4611686018427387904 → length (text ++ inventory_text m) < 2 ^ 64
text_is_counted text m tree few short =
    let lines = lines_are_short [] (map.entries m) (sorted-distinct (map.entries m) (entries_sorted m)) (subst IsTree (sym (made_of m)) tree) in
    let body : List ℕ = flat_map entry_line (map.entries m) in
    omega (arith, lines, few, short, len-entries m, length-append text (codes "unitadm-inventory 1\n" ++ body ++ codes "end\n"), length-append body (codes "end\n"))
