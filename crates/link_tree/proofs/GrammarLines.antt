-- Which text a line was, if it was read without a fault.
use Rattle.std.proofs.Common.{◌≡◌, ℕ, ◌+◌, ◌<◌, ◌≤◌, ◌==◌, Bool, true, false, ◌&&◌, not, List, [], ◌∷◌, ◌++◌, length, get_or, take, drop, Option, None, Some, Ok, Err, refl, sym, ap, ◌∙◌, inl, inr, arith, subst, nat_lt}
use Rattle.std.specs.Prelude.{codes, if◌then◌else◌}
use Rattle.std.specs.Fmt.{decimal}
use Rattle.std.specs.List.{list_any, position}
use Rattle.std.specs.Option.{option_map}
use Rattle.std.specs.Str.{bytes_eq}
use Rattle.std.proofs.lemmas.Bool.{cases_Bool, and_parts, eqb-true, not-false, ltb-false}
use Rattle.std.proofs.lemmas.List.Quantifiers.{position-Some}
use Rattle.std.proofs.lemmas.List.{take-append-drop, drop_more}
use Rattle.std.proofs.lemmas.Slice.Eq.{bytes_eq-Decides}
use Rattle.unit_paths.specs.Paths.{is_path, is_target}
use Rattle.link_tree.specs.EntryLines.{fields_of, two_fields, cut_at_tab, is_tab, length_of, file_line, link_line, by_letter, line_of}
use Rattle.link_tree.specs.declared.entry_line.EntryLine.{EntryLine}
use Rattle.link_tree.specs.declared.entry_line.EntryLine.TheVariants as lines
use Rattle.link_tree.specs.declared.inventory_fault.InventoryFault.TheVariants.{BadPath, TooLarge}
use Rattle.link_tree.proofs.Maps.{none_some}
use Rattle.link_tree.proofs.Results.{else_ok, no_ok, ok_is, then_ok}
use Rattle.link_tree.proofs.Lengths.{lengths_are_decimals}
use Rattle.link_tree.proofs.Again.{fields_line}

some_is : {A : Type 0} {x y : A} → Some x ≡ Some y → x ≡ y
some_is h = cc

-- a value that passed a test
then_some : {A : Type 0} (test : Bool) (o : Option A) (x : A) → (if test then o else None) ≡ Some x → (test ≡ true) × (o ≡ Some x)
then_some true o x h = (refl, h)
then_some false o x h = none_some x h

else_some : {A : Type 0} (test : Bool) (o : Option A) (x : A) → (if test then None else o) ≡ Some x → o ≡ Some x
else_some true o x h = none_some x h
else_some false o x h = h

-- a list, split at one of its elements
cut_at : (xs : List ℕ) (i d : ℕ) → i < length xs → xs ≡ take i xs ++ get_or xs i d ∷ drop (i + 1) xs
cut_at xs i d within = sym (take-append-drop i xs) ∙ ap (λ l. take i xs ++ l) (drop_more xs i d within)

abbrev Fields : Type 0
Fields = List ℕ × List ℕ

-- a tab is between the two parts of a text that was split at a tab
cut_is : (text : List ℕ) (fields : Fields) → cut_at_tab text ≡ Some fields → text ≡ fields.0 ++ 9 ∷ fields.1
cut_is text fields h = cut (position is_tab text) refl h
  where
    cut : (place : Option ℕ) → position is_tab text ≡ place → option_map {U = Fields} (λ i. (take i text, drop (i + 1) text)) place ≡ Some fields → text ≡ fields.0 ++ 9 ∷ fields.1
    cut None at is = none_some fields is
    cut (Some i) at is =
        let found = position-Some is_tab text i 0 at in
        let tab = eqb-true (get_or text i 0) 9 found.1 in
        cut_at text i 0 found.0 ∙ (λ j. (some_is is j).0 ++ tab j ∷ (some_is is j).1)

two_are : (cut : Option Fields) (fields : Fields) → two_fields cut ≡ Some fields → cut ≡ Some fields
two_are None fields h = h
two_are (Some found) fields h = else_some (list_any is_tab found.1) (Some found) fields h

-- A letter and two fields can be read from only one text.
fields_are : (letter : ℕ) (line : List ℕ) (fields : Fields) → fields_of letter line ≡ Some fields → line ≡ fields_line letter fields.0 fields.1
fields_are letter [] fields h = none_some fields h
fields_are letter (a ∷ []) fields h = none_some fields h
fields_are letter (a ∷ b ∷ rest) fields h =
    let x = then_some (a == letter && is_tab b) (two_fields (cut_at_tab rest)) fields h in
    let front = and_parts (a == letter) (is_tab b) x.0 in
    let tail = cut_is rest fields (two_are (cut_at_tab rest) fields x.1) in
    λ i. eqb-true a letter front.0 i ∷ eqb-true b 9 front.1 i ∷ tail i

-- the unique text of a parsed line
abbrev pub line_text : EntryLine → List ℕ
line_text (lines.Link path target) = fields_line 76 path target
line_text (lines.File path size) = fields_line 70 (decimal size) path
line_text lines.End = codes "end"

-- what a parsed line of a link or a file may contain
abbrev pub IsSaid : EntryLine → Type 0
IsSaid (lines.Link path target) = (is_path path ≡ true) × (is_target target ≡ true)
IsSaid (lines.File path size) = (is_path path ≡ true) × (size ≤ 1048576)
IsSaid lines.End = Unit {0}

abbrev Says : List ℕ → EntryLine → Type 0
Says line said = (line ≡ line_text said) × IsSaid said

file_is : (text path : List ℕ) (said : EntryLine) → file_line (length_of text) path ≡ Ok said → Says (fields_line 70 text path) said
file_is text path said h = of (length_of text) refl h
  where
    of : (size : Option ℕ) → length_of text ≡ size → file_line size path ≡ Ok said → Says (fields_line 70 text path) said
    of None written is = no_ok is
    of (Some size) written is =
        let at = else_ok (not (is_path path)) BadPath (if nat_lt 1048576 size then Err TooLarge else Ok (lines.File path size)) said is in
        let fits = else_ok (nat_lt 1048576 size) TooLarge (Ok (lines.File path size)) said at.1 in
        let few : size ≤ 1048576 = ltb-false 1048576 size fits.0 in
        let digits : text ≡ decimal size = (lengths_are_decimals text size (omega arith)).0 written in
        subst (Says (fields_line 70 text path)) (ok_is fits.1) (ap (λ t. fields_line 70 t path) digits, (not-false (is_path path) at.0, few))

link_is : (path target : List ℕ) (said : EntryLine) → link_line path target ≡ Ok said → Says (fields_line 76 path target) said
link_is path target said h =
    let at = then_ok (is_path path && is_target target) BadPath (Ok (lines.Link path target)) said h in
    subst (Says (fields_line 76 path target)) (ok_is at.1) (refl, and_parts (is_path path) (is_target target) at.0)

by_letter_is : (line : List ℕ) (said : EntryLine) (file link : Option Fields) → fields_of 70 line ≡ file → fields_of 76 line ≡ link → by_letter file link ≡ Ok said → Says line said
by_letter_is line said (Some file) link f l h = subst (λ text. Says text said) (sym (fields_are 70 line file f)) (file_is file.0 file.1 said h)
by_letter_is line said None (Some link) f l h = subst (λ text. Says text said) (sym (fields_are 76 line link l)) (link_is link.0 link.1 said h)
by_letter_is line said None None f l h = no_ok h

-- A line that is parsed without a fault is the unique text of its meaning.
pub line_is : (line : List ℕ) (said : EntryLine) → line_of line ≡ Ok said → (line ≡ line_text said) × IsSaid said
unfolding line_of
line_is line said h = elim (cases_Bool (bytes_eq line (codes "end"))) [
  | inl end ↦ subst (Says line) (ok_is (rw end at h)) ((bytes_eq-Decides line (codes "end")).0 end, tt)
  | inr other ↦ by_letter_is line said (fields_of 70 line) (fields_of 76 line) refl refl (rw other at h)
]
