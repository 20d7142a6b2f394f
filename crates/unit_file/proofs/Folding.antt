-- The changes that the lines of a file make, one after another, add up to what the file asks for.
use Rattle.std.proofs.Common.{◌≡◌, refl, ℕ, ◌||◌, Bool, true, false, not, cond, List, [], ◌∷◌, ◌++◌, map, fold, Option, Some, None, codes, sym, ap, ◌∙◌, append_assoc, append-nil}
use Rattle.std.specs.List.{list_any, filter_map, cons_option, flat_map, take_while, after_last, last_or}
use Rattle.std.specs.Str.{bytes_eq}
use Rattle.std.specs.Option.{option_and_then}
use Rattle.std.proofs.lemmas.Slice.Eq.{bytes_eq-Decides}
use Rattle.std.proofs.lemmas.List.Sums.{take_while-cons}
use Rattle.unit_name.proofs.Cuts.{last_cut_of, last_seam, after_last-none}
use Rattle.unit_file.specs.declared.install.InstallText.{InstallText}
use Rattle.unit_file.specs.Lines.{begins_with, ends_with, stripped, onto_next, joined}
use Rattle.unit_file.specs.Install.{is_empty, opens_section, is_install, install_lines, assignment, value_of, values, words, list_of, install_text}
use Rattle.unit_file.specs.Steps.{with_value, with_words, unless_empty, with_assignment, with_pair, inside_after, text_after, nothing}
use Rattle.unit_file.proofs.Joining.{kept, onto_next-onto_next}

-- what was read after these lines, which aren't stripped yet
abbrev pub read_from : Bool → InstallText → List (List ℕ) → InstallText
read_from inside text [] = text
read_from inside text (line ∷ lines) = read_from (inside_after inside (stripped line)) (text_after inside text (stripped line)) lines

-- An empty line changes nothing.
text_after-nil : (inside : Bool) (text : InstallText) → text_after inside text (stripped []) ≡ text
unfolding text_after stripped opens_section begins_with assignment
text_after-nil true text = refl
text_after-nil false text = refl

pub read-none : (inside : Bool) (text : InstallText) (lines : List (List ℕ)) → read_from inside text (onto_next [] lines) ≡ read_from inside text lines
read-none inside text [] = text_after-nil inside text
read-none inside text (line ∷ lines) = refl

-- The carried text and then the lines left, one line later.
pub read-carried : (inside : Bool) (text : InstallText) (carried front line : List ℕ) (rest : List (List ℕ)) → joined (kept (line ∷ rest)) ≡ onto_next (front ++ 32 ∷ []) (joined (kept rest)) → read_from inside text (onto_next carried (joined (kept (line ∷ rest)))) ≡ read_from inside text (onto_next ((carried ++ front) ++ 32 ∷ []) (joined (kept rest)))
read-carried inside text carried front line rest is =
    ap (λ lines. read_from inside text (onto_next carried lines)) is
    ∙ ap (read_from inside text) (onto_next-onto_next carried (front ++ 32 ∷ []) (joined (kept rest)) ∙ ap (λ t. onto_next t (joined (kept rest))) (sym (append_assoc carried front (32 ∷ []))))

pub read-ended : (inside : Bool) (text : InstallText) (carried line : List ℕ) (rest : List (List ℕ)) → joined (kept (line ∷ rest)) ≡ line ∷ joined (kept rest) → read_from inside text (onto_next carried (joined (kept (line ∷ rest)))) ≡ read_from (inside_after inside (stripped (carried ++ line))) (text_after inside text (stripped (carried ++ line))) (onto_next [] (joined (kept rest)))
read-ended inside text carried line rest is =
    ap (λ lines. read_from inside text (onto_next carried lines)) is
    ∙ sym (read-none (inside_after inside (stripped (carried ++ line))) (text_after inside text (stripped (carried ++ line))) (joined (kept rest)))

pub read-end : (inside : Bool) (text : InstallText) (carried : List ℕ) → read_from inside text (onto_next carried (joined (kept []))) ≡ text_after inside text (stripped carried)
unfolding joined
read-end inside text carried = refl

-- The lines of [Install] among these, whether or not the first of them is in it.
abbrev pub no_section : List ℕ → Bool
no_section line = not (opens_section line)

abbrev chapter : Bool → List (List ℕ) → List (List ℕ)
chapter inside lines = cond inside (take_while no_section lines ++ install_lines lines) (install_lines lines)

install_opens : (line : List ℕ) → is_install line ≡ true → opens_section line ≡ true
unfolding opens_section begins_with ends_with
install_opens line install = let is : line ≡ codes "[Install]" = (bytes_eq-Decides line (codes "[Install]")).0 install in rw is refl

chapter-nil : (inside : Bool) → chapter inside [] ≡ []
unfolding install_lines
chapter-nil true = refl
chapter-nil false = refl

chapter-section : (inside : Bool) (line : List ℕ) (rest : List (List ℕ)) → opens_section line ≡ true → chapter inside (line ∷ rest) ≡ chapter (is_install line) rest
unfolding install_lines
chapter-section true line rest opens =
    let stops : take_while no_section (line ∷ rest) ≡ [] = rw (take_while-cons no_section line rest, opens) refl in
    ap (λ front. front ++ install_lines (line ∷ rest)) stops
chapter-section false line rest opens = refl

not_install : (line : List ℕ) → opens_section line ≡ false → is_install line ≡ false
not_install line none =
    elim (is_install line) as (λ t. is_install line ≡ t → t ≡ false) [
      | true ↦ λ install. let opens = install_opens line install in absurd (cc)
      | false ↦ λ _. refl
    ] refl

chapter-line : (line : List ℕ) (rest : List (List ℕ)) → opens_section line ≡ false → chapter true (line ∷ rest) ≡ line ∷ chapter true rest
unfolding install_lines
chapter-line line rest none =
    let other = not_install line none in
    rw (take_while-cons no_section line rest, none, other) refl

chapter-outside : (line : List ℕ) (rest : List (List ℕ)) → opens_section line ≡ false → chapter false (line ∷ rest) ≡ chapter false rest
unfolding install_lines
chapter-outside line rest none = let other = not_install line none in rw other refl

-- How one field changes.
module _ {A : Type 0} (key : List ℕ) (field : InstallText → A) (changed : A → List ℕ → A) (at_key : (text : InstallText) (name value : List ℕ) → field (with_assignment text name value) ≡ cond (bytes_eq name key) (changed (field text) value) (field text)) where
  fold-pair : (text : InstallText) (line : List ℕ) (more : List (List ℕ)) → fold changed (field (with_pair text (assignment line))) more ≡ fold changed (field text) (cons_option (value_of key line) more)
  unfolding value_of
  fold-pair text line more =
      elim (assignment line) as (λ o. fold changed (field (with_pair text o)) more ≡ fold changed (field text) (cons_option (option_and_then (λ pair. cond (bytes_eq pair.0 key) (Some pair.1) None) o) more)) [
        | None ↦ refl
        | Some pair ↦ ap (λ a. fold changed a more) (at_key text pair.0 pair.1)
            ∙ elim (bytes_eq pair.0 key) as (λ t. fold changed (cond t (changed (field text) pair.1) (field text)) more ≡ fold changed (field text) (cons_option (cond t (Some pair.1) None) more)) [ true ↦ refl | false ↦ refl ]
      ]

  field-read : (inside : Bool) (text : InstallText) (lines : List (List ℕ)) → field (read_from inside text lines) ≡ fold changed (field text) (filter_map (value_of key) (chapter inside (map stripped lines)))
  unfolding inside_after text_after
  field-read inside text [] = ap (λ ls. fold changed (field text) (filter_map (value_of key) ls)) (sym (chapter-nil inside))
  field-read inside text (line ∷ lines) =
      let l = stripped line in
      let ls = map stripped lines in
      let result : List (List ℕ) → A = λ ys. fold changed (field text) (filter_map (value_of key) ys) in
      elim (opens_section l) as (λ t. opens_section l ≡ t → field (read_from (cond t (is_install l) inside) (cond t text (cond inside (with_pair text (assignment l)) text)) lines) ≡ result (chapter inside (l ∷ ls))) [
        | true ↦ λ opens. field-read (is_install l) text lines ∙ ap result (sym (chapter-section inside l ls opens))
        | false ↦ λ none.
            elim inside as (λ i. field (read_from i (cond i (with_pair text (assignment l)) text) lines) ≡ result (chapter i (l ∷ ls))) [
              | true ↦ field-read true (with_pair text (assignment l)) lines ∙ fold-pair text l (filter_map (value_of key) (chapter true ls)) ∙ ap result (sym (chapter-line l ls none))
              | false ↦ field-read false text lines ∙ ap result (sym (chapter-outside l ls none))
            ]
      ] refl

-- The last value that empties the list, one value later.
after_last-later : (value : List ℕ) (rest : List (List ℕ)) → list_any is_empty rest ≡ true → after_last is_empty (value ∷ rest) ≡ after_last is_empty rest
after_last-later value rest any =
    let cut = last_cut_of is_empty rest any in
    let later = last_seam is_empty [] (value ∷ cut.before) cut.at cut.after cut.passes cut.none in
    let here = last_seam is_empty [] cut.before cut.at cut.after cut.passes cut.none in
    ap (λ vs. after_last is_empty (value ∷ vs)) cut.is ∙ later.2 ∙ sym (ap (after_last is_empty) cut.is ∙ here.2)

or-true : (b : Bool) → (b || true) ≡ true
or-true true = refl
or-true false = refl

pub list-fold : (list : List (List ℕ)) (values : List (List ℕ)) → fold with_value list values ≡ cond (list_any is_empty values) (flat_map words (after_last is_empty values)) (list ++ flat_map words values)
list-fold list [] = sym (append-nil list)
list-fold list (value ∷ rest) =
    list-fold (with_value list value) rest
    ∙ elim (list_any is_empty rest) as (λ t. list_any is_empty rest ≡ t → cond t (flat_map words (after_last is_empty rest)) (with_value list value ++ flat_map words rest) ≡ cond (is_empty value || t) (flat_map words (after_last is_empty (value ∷ rest))) (list ++ (words value ++ flat_map words rest))) [
      | true ↦ λ any. sym (ap (λ t. cond t (flat_map words (after_last is_empty (value ∷ rest))) (list ++ (words value ++ flat_map words rest))) (or-true (is_empty value)) ∙ ap (flat_map words) (after_last-later value rest any))
      | false ↦ λ none.
          elim (is_empty value) as (λ t. is_empty value ≡ t → cond t [] (list ++ words value) ++ flat_map words rest ≡ cond (t || false) (flat_map words (after_last is_empty (value ∷ rest))) (list ++ (words value ++ flat_map words rest))) [
            | true ↦ λ empty. sym (ap (flat_map words) (last_seam is_empty [] [] value rest empty none).2)
            | false ↦ λ _. append_assoc list (words value) (flat_map words rest)
          ] refl
    ] refl

pub list_of-fold : (values : List (List ℕ)) → fold with_value [] values ≡ list_of values
list_of-fold values =
    list-fold [] values
    ∙ elim (list_any is_empty values) as (λ t. list_any is_empty values ≡ t → cond t (flat_map words (after_last is_empty values)) (flat_map words values) ≡ list_of values) [
      | true ↦ λ any. refl
      | false ↦ λ none. ap (flat_map words) (sym (after_last-none is_empty [] values none))
    ] refl

words-fold : (list values : List (List ℕ)) → fold with_words list values ≡ list ++ flat_map words values
words-fold list [] = sym (append-nil list)
words-fold list (value ∷ rest) = words-fold (with_words list value) rest ∙ append_assoc list (words value) (flat_map words rest)

last-fold : (last : Option (List ℕ)) (values : List (List ℕ)) → fold (λ _ value. unless_empty value) (option_and_then unless_empty last) values ≡ option_and_then unless_empty (last_or last values)
last-fold last [] = refl
last-fold last (value ∷ rest) = last-fold (Some value) rest

-- All of it.
pub read-all : (lines : List (List ℕ)) → read_from false nothing lines ≡ install_text (map stripped lines)
unfolding install_text with_assignment
read-all lines =
    let ls = map stripped lines in
    let wanted_by = field-read (codes "WantedBy") (λ text. text.wanted_by) with_value (λ text name value. refl) false nothing lines ∙ list_of-fold (values (codes "WantedBy") ls) in
    let required_by = field-read (codes "RequiredBy") (λ text. text.required_by) with_value (λ text name value. refl) false nothing lines ∙ list_of-fold (values (codes "RequiredBy") ls) in
    let upheld_by = field-read (codes "UpheldBy") (λ text. text.upheld_by) with_value (λ text name value. refl) false nothing lines ∙ list_of-fold (values (codes "UpheldBy") ls) in
    let alias = field-read (codes "Alias") (λ text. text.alias) with_value (λ text name value. refl) false nothing lines ∙ list_of-fold (values (codes "Alias") ls) in
    let also = field-read (codes "Also") (λ text. text.also) with_words (λ text name value. refl) false nothing lines ∙ words-fold [] (values (codes "Also") ls) in
    let default_instance = field-read (codes "DefaultInstance") (λ text. text.default_instance) (λ _ value. unless_empty value) (λ text name value. refl) false nothing lines ∙ last-fold None (values (codes "DefaultInstance") ls) in
    λ i. record { wanted_by = wanted_by i; required_by = required_by i; upheld_by = upheld_by i; alias = alias i; also = also i; default_instance = default_instance i }
