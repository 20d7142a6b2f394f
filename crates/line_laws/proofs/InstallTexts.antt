-- What a unit file asks for, as a relation and as it is read.
use Rattle.std.proofs.Common.{◌≡◌, ◌≢◌, ◌⊎◌, inl, inr, refl, ℕ, ◌+◌, ◌==◌, Bool, true, false, cond, List, [], ◌∷◌, ◌++◌, length, take, drop, map, All, Option, Some, None, codes, sym, ap, ◌∙◌, subst, arith, append_assoc, append-nil, option_and_then}
use Rattle.std.specs.List.{list_any}
use Rattle.std.specs.Str.{bytes_eq}
use Rattle.std.specs.Option.{option_map}
use Rattle.std.proofs.lemmas.Bool.{and_parts, and_from, eqb-true, ne_eqb, false_from_ne_true, false≢true}
use Rattle.std.proofs.lemmas.Slice.Eq.{bytes_eq-Decides}
use Rattle.std.proofs.lemmas.List.Elements.{All-nil, All-head, All-tail, All-push}
use Rattle.std.proofs.Math.Seq.{take-append_seam, drop-append-add}
use Rattle.unit_name.proofs.Cuts.{first_cut_of}
use Rattle.unit_file.specs.declared.install.InstallText.{InstallText}
use Rattle.unit_file.specs.Lines.{begins_with, ends_with, stripped, joined_lines, logical_lines}
use Rattle.unit_file.specs.Install.{is_empty, opens_section, is_install, is_equals_sign, assignment, value_of, words}
use Rattle.unit_file.specs.Reading.{text_of}
use Rattle.unit_file.specs.Steps.{with_value, with_words, unless_empty, with_assignment, with_pair, inside_after, text_after, nothing}
use Rattle.unit_file.proofs.Folding.{read_from, read-all}
use Rattle.unit_file.proofs.Endings.{ends_with-cons, ends_with-one}
use Rattle.line_laws.specs.Blanks.{IsStrippedTo}
use Rattle.line_laws.specs.InstallLines.{OpensSection, AreInInstall, Assigns, Gives, HasWords, HasValue, AsksFor}
use Rattle.line_laws.specs.InstallLines.HasWords.{NoLines, Adds, Clears, Keeps, SaysNothing}
use Rattle.line_laws.specs.InstallLines.HasValue.{NoneYet, Gets, Loses, Stays}
use Rattle.line_laws.specs.FileLines.{AreLogicalLinesOf}
use Rattle.line_laws.proofs.Places.{position_none, position_at}
use Rattle.line_laws.proofs.Stripping.{stripped_from, stripped_is}
use Rattle.line_laws.proofs.WordLists.{words_are, words_same}
use Rattle.line_laws.proofs.PhysicalCuts.{ends-last, before_last}
use Rattle.line_laws.proofs.JoinedBlocks.{logical_are, logical_same}

-- Lines that open sections.
begins_cons : (b x : ℕ) (xs : List ℕ) → begins_with b (x ∷ xs) ≡ (x == b)
unfolding begins_with
begins_cons b x xs = refl

begins_nil : (b : ℕ) → begins_with b [] ≡ false
unfolding begins_with
begins_nil b = refl

bracketed : (first : ℕ) (rest : List ℕ) → first ≡ 91 → ends_with 93 (first ∷ rest) ≡ true → OpensSection (first ∷ rest)
bracketed first [] is ends =
    let one : (91 == 93) ≡ true = sym (ends_with-one 93 first ∙ ap (λ b. b == 93) is) ∙ ends in
    absurd (false≢true one)
bracketed first (c ∷ cs) is ends =
    let cut = before_last 93 (c ∷ cs) (sym (ends_with-cons 93 first c cs) ∙ ends) in
    record { name = cut.front; is = ap (λ b. b ∷ c ∷ cs) is ∙ ap (λ l. 91 ∷ l) cut.is }

opens_from : (line : List ℕ) → opens_section line ≡ true → OpensSection line
unfolding opens_section
opens_from [] opens = let parts = and_parts (begins_with 91 []) (ends_with 93 []) opens in absurd (let both = sym parts.0 ∙ begins_nil 91 in cc)
opens_from (b ∷ bs) opens =
    let parts = and_parts (begins_with 91 (b ∷ bs)) (ends_with 93 (b ∷ bs)) opens in
    bracketed b bs (eqb-true b 91 (sym (begins_cons 91 b bs) ∙ parts.0)) parts.1

opens_to : (line : List ℕ) → OpensSection line → opens_section line ≡ true
unfolding opens_section
opens_to line opens =
    let front = 91 ∷ opens.name in
    and_from (begins_with 91 line) (ends_with 93 line) (ap (begins_with 91) opens.is ∙ begins_cons 91 91 (opens.name ++ 93 ∷ [])) (ap (ends_with 93) opens.is ∙ ends-last 93 front 93)

opens_not : (line : List ℕ) → ¬ OpensSection line → opens_section line ≡ false
opens_not line none = false_from_ne_true (opens_section line) (λ opens. none (opens_from line opens))

not_opens : (line : List ℕ) → opens_section line ≡ false → ¬ OpensSection line
not_opens line none opens = let both = sym none ∙ opens_to line opens in cc

-- Assignments.
assigned_none : (line : List ℕ) → list_any is_equals_sign line ≡ false → assignment line ≡ None
unfolding assignment
assigned_none line none = ap (option_map (λ at. (stripped (take at line), stripped (drop (at + 1) line)))) (position_none is_equals_sign line none)

assigned_at : (left right : List ℕ) → list_any is_equals_sign left ≡ false → assignment (left ++ 61 ∷ right) ≡ Some (stripped left, stripped right)
unfolding assignment
assigned_at left right none =
    let line = left ++ 61 ∷ right in
    let front = take-append_seam left (61 ∷ right) in
    let back = drop-append-add left (61 ∷ right) 1 in
    ap (option_map (λ at. (stripped (take at line), stripped (drop (at + 1) line)))) (position_at is_equals_sign left 61 right none refl) ∙ (λ i. Some (stripped (front i), stripped (back i)))

same_value : (a b : List ℕ) → ◌≡◌ {A = Option (List ℕ)} (Some a) (Some b) → a ≡ b
same_value a b is = cc

chosen : (t : Bool) (a b : List ℕ) → cond t (Some a) None ≡ Some b → (t ≡ true) × (a ≡ b)
chosen true a b is = (refl, same_value a b is)
chosen false a b is = absurd (cc)

value_from : (key line value : List ℕ) → value_of key line ≡ Some value → Assigns line key value
unfolding value_of
value_from key line value is =
    let at_pair : Option (List ℕ × List ℕ) → Option (List ℕ) = option_and_then (λ pair. cond (bytes_eq pair.0 key) (Some pair.1) None) in
    elim (list_any is_equals_sign line) as (λ t. list_any is_equals_sign line ≡ t → Assigns line key value) [
      | true ↦ λ any.
          let cut = first_cut_of is_equals_sign line any in
          let here : line ≡ cut.before ++ 61 ∷ cut.after = cut.is ∙ ap (λ b. cut.before ++ b ∷ cut.after) (eqb-true cut.at 61 cut.passes) in
          let read : assignment line ≡ Some (stripped cut.before, stripped cut.after) = ap assignment here ∙ assigned_at cut.before cut.after cut.none in
          let found = chosen (bytes_eq (stripped cut.before) key) (stripped cut.after) value (sym (ap at_pair read) ∙ is) in
          let same_key = (bytes_eq-Decides (stripped cut.before) key).0 found.0 in
          record {
            left = cut.before;
            right = cut.after;
            is = here ∙ sym (append_assoc cut.before (61 ∷ []) cut.after);
            first = cut.none;
            key_is = subst (IsStrippedTo cut.before) same_key (stripped_is cut.before);
            value_is = subst (IsStrippedTo cut.after) found.1 (stripped_is cut.after);
          }
      | false ↦ λ none. absurd (let both = sym (ap at_pair (assigned_none line none)) ∙ is in cc)
    ] refl

value_to : (key line value : List ℕ) → Assigns line key value → value_of key line ≡ Some value
unfolding value_of
value_to key line value a =
    let at_pair : Option (List ℕ × List ℕ) → Option (List ℕ) = option_and_then (λ pair. cond (bytes_eq pair.0 key) (Some pair.1) None) in
    let here : line ≡ a.left ++ 61 ∷ a.right = a.is ∙ append_assoc a.left (61 ∷ []) a.right in
    let left = stripped_from a.left key a.key_is in
    let right = stripped_from a.right value a.value_is in
    ap at_pair (ap assignment here ∙ assigned_at a.left a.right a.first)
    ∙ (λ i. cond (bytes_eq (left i) key) (Some (right i)) None)
    ∙ ap (λ t. cond t (Some value) None) ((bytes_eq-Decides key key).1 refl)

-- The section that a line is in.
abbrev section_after : Bool → List (List ℕ) → Bool
section_after inside [] = inside
section_after inside (line ∷ lines) = section_after (inside_after inside line) lines

section-snoc : (inside : Bool) (lines : List (List ℕ)) (line : List ℕ) → section_after inside (lines ++ line ∷ []) ≡ inside_after (section_after inside lines) line
section-snoc inside [] line = refl
section-snoc inside (x ∷ lines) line = section-snoc (inside_after inside x) lines line

section-then : (inside : Bool) (lines more : List (List ℕ)) → section_after inside (lines ++ more) ≡ section_after (section_after inside lines) more
section-then inside [] more = refl
section-then inside (x ∷ lines) more = section-then (inside_after inside x) lines more

after_install : (inside : Bool) → inside_after inside (codes "[Install]") ≡ true
unfolding inside_after opens_section begins_with ends_with
after_install inside = refl

stays_inside : (lines : List (List ℕ)) → All (λ line. ¬ OpensSection line) lines → section_after true lines ≡ true
unfolding inside_after
stays_inside [] none = refl
stays_inside (line ∷ lines) none =
    ap (λ t. section_after (cond t (is_install line) true) lines) (opens_not line (All-head (λ l. ¬ OpensSection l) line lines none)) ∙ stays_inside lines (All-tail (λ l. ¬ OpensSection l) line lines none)

inside_to : (lines : List (List ℕ)) → AreInInstall lines → section_after false lines ≡ true
inside_to lines are =
    ap (section_after false) are.is
    ∙ section-then false are.before (codes "[Install]" ∷ are.after)
    ∙ ap (λ t. section_after t are.after) (after_install (section_after false are.before))
    ∙ stays_inside are.after are.none_opens

one_more_inside : (inside : Bool) (done : List (List ℕ)) (line : List ℕ) → (inside ≡ true → AreInInstall done) → inside_after inside line ≡ true → AreInInstall (done ++ line ∷ [])
unfolding inside_after
one_more_inside inside done line before is =
    elim (opens_section line) as (λ t. opens_section line ≡ t → cond t (is_install line) inside ≡ true → AreInInstall (done ++ line ∷ [])) [
      | true ↦ λ opens install.
          record { before = done; after = []; is = ap (λ l. done ++ l ∷ []) ((bytes_eq-Decides line (codes "[Install]")).0 install); none_opens = All-nil (λ l. ¬ OpensSection l) }
      | false ↦ λ none same.
          let are = before same in
          record {
            before = are.before;
            after = are.after ++ line ∷ [];
            is = ap (λ l. l ++ line ∷ []) are.is ∙ append_assoc are.before (codes "[Install]" ∷ are.after) (line ∷ []);
            none_opens = All-push (λ l. ¬ OpensSection l) are.after line are.none_opens (not_opens line none);
          }
    ] refl is

inside_on : (inside : Bool) (done lines : List (List ℕ)) → (inside ≡ true → AreInInstall done) → section_after inside lines ≡ true → AreInInstall (done ++ lines)
inside_on inside done [] before is = subst AreInInstall (sym (append-nil done)) (before is)
inside_on inside done (line ∷ lines) before is =
    subst AreInInstall (append_assoc done (line ∷ []) lines) (inside_on (inside_after inside line) (done ++ line ∷ []) lines (one_more_inside inside done line before) is)

inside_from : (lines : List (List ℕ)) → section_after false lines ≡ true → AreInInstall lines
inside_from lines is = inside_on false [] lines (λ never. absurd (false≢true never)) is

-- What a line gives a key, if anything.
unfoldable given : Bool → (key line : List ℕ) → Option (List ℕ)
given inside key line = cond (opens_section line) None (cond inside (value_of key line) None)

given_from : (before : List (List ℕ)) (line key value : List ℕ) → given (section_after false before) key line ≡ Some value → Gives before line key value
unfolding given
given_from before line key value is =
    elim (opens_section line) as (λ t. opens_section line ≡ t → cond t None (cond (section_after false before) (value_of key line) None) ≡ Some value → Gives before line key value) [
      | true ↦ λ opens never. absurd (cc)
      | false ↦ λ none here.
          elim (section_after false before) as (λ s. section_after false before ≡ s → cond s (value_of key line) None ≡ Some value → Gives before line key value) [
            | true ↦ λ inside gives. record { inside = inside_from before inside; no_section = not_opens line none; assigns = value_from key line value gives }
            | false ↦ λ outside never. absurd (cc)
          ] refl here
    ] refl is

given_to : (before : List (List ℕ)) (line key value : List ℕ) → Gives before line key value → given (section_after false before) key line ≡ Some value
unfolding given
given_to before line key value gives =
    ap (λ t. cond t None (cond (section_after false before) (value_of key line) None)) (opens_not line gives.no_section)
    ∙ ap (λ s. cond s (value_of key line) None) (inside_to before gives.inside)
    ∙ value_to key line value gives.assigns

given_none : (before : List (List ℕ)) (line key : List ℕ) → given (section_after false before) key line ≡ None → (value : List ℕ) → ¬ Gives before line key value
given_none before line key none value gives = let both = sym none ∙ given_to before line key value gives in cc

none_given : (before : List (List ℕ)) (line key : List ℕ) (o : Option (List ℕ)) → given (section_after false before) key line ≡ o → ((value : List ℕ) → ¬ Gives before line key value) → o ≡ None
none_given before line key None is none = refl
none_given before line key (Some value) is none = absurd (none value (given_from before line key value is))

-- What is read from lines, one after another.
abbrev reads : Bool → InstallText → List (List ℕ) → InstallText
reads inside text [] = text
reads inside text (line ∷ lines) = reads (inside_after inside line) (text_after inside text line) lines

reads-snoc : (inside : Bool) (text : InstallText) (lines : List (List ℕ)) (line : List ℕ) → reads inside text (lines ++ line ∷ []) ≡ text_after (section_after inside lines) (reads inside text lines) line
reads-snoc inside text [] line = refl
reads-snoc inside text (x ∷ lines) line = reads-snoc (inside_after inside x) (text_after inside text x) lines line

reads_from : (inside : Bool) (text : InstallText) (lines : List (List ℕ)) → read_from inside text lines ≡ reads inside text (map stripped lines)
reads_from inside text [] = refl
reads_from inside text (line ∷ lines) = reads_from (inside_after inside (stripped line)) (text_after inside text (stripped line)) lines

text_is : (bytes : List ℕ) → text_of bytes ≡ reads false nothing (logical_lines bytes)
unfolding text_of
text_is bytes = sym (read-all (joined_lines bytes)) ∙ reads_from false nothing (joined_lines bytes)

-- How one field is read.
abbrev applied : {A : Type 0} → (A → List ℕ → A) → A → Option (List ℕ) → A
applied changed old None = old
applied changed old (Some value) = changed old value

module _ {A : Type 0} (key : List ℕ) (field : InstallText → A) (changed : A → List ℕ → A) (at_key : (text : InstallText) (name value : List ℕ) → field (with_assignment text name value) ≡ cond (bytes_eq name key) (changed (field text) value) (field text)) where
  by_pair : (text : InstallText) (o : Option (List ℕ × List ℕ)) → field (with_pair text o) ≡ applied changed (field text) (option_and_then (λ pair. cond (bytes_eq pair.0 key) (Some pair.1) None) o)
  by_pair text None = refl
  by_pair text (Some pair) =
      at_key text pair.0 pair.1 ∙ elim (bytes_eq pair.0 key) as (λ t. cond t (changed (field text) pair.1) (field text) ≡ applied changed (field text) (cond t (Some pair.1) None)) [ true ↦ refl | false ↦ refl ]

  field_after : (inside : Bool) (text : InstallText) (line : List ℕ) → field (text_after inside text line) ≡ applied changed (field text) (given inside key line)
  unfolding text_after given value_of
  field_after inside text line =
      elim (opens_section line) as (λ t. field (cond t text (cond inside (with_pair text (assignment line)) text)) ≡ applied changed (field text) (cond t None (cond inside (option_and_then (λ pair. cond (bytes_eq pair.0 key) (Some pair.1) None) (assignment line)) None))) [
        | true ↦ refl
        | false ↦ elim inside as (λ s. field (cond s (with_pair text (assignment line)) text) ≡ applied changed (field text) (cond s (option_and_then (λ pair. cond (bytes_eq pair.0 key) (Some pair.1) None) (assignment line)) None)) [
          | true ↦ by_pair text (assignment line)
          | false ↦ refl
        ]
      ]

  -- the field after one more line
  field_read : (before : List (List ℕ)) (line : List ℕ) → field (reads false nothing (before ++ line ∷ [])) ≡ applied changed (field (reads false nothing before)) (given (section_after false before) key line)
  field_read before line = ap field (reads-snoc false nothing before line) ∙ field_after (section_after false before) (reads false nothing before) line

  field_at : (lines before : List (List ℕ)) (line : List ℕ) (o : Option (List ℕ)) → lines ≡ before ++ line ∷ [] → given (section_after false before) key line ≡ o → field (reads false nothing lines) ≡ applied changed (field (reads false nothing before)) o
  field_at lines before line o is here = ap (λ ls. field (reads false nothing ls)) is ∙ field_read before line ∙ ap (applied changed (field (reads false nothing before))) here

  -- A relation that holds of no lines, and of one more line if it held before, holds of all.
  module _ (P : List (List ℕ) → A → Type 0) (first : P [] (field nothing)) (next : (before : List (List ℕ)) (line : List ℕ) (old : A) → P before old → P (before ++ line ∷ []) (applied changed old (given (section_after false before) key line))) where
    after_these : (done lines : List (List ℕ)) → P done (field (reads false nothing done)) → P (done ++ lines) (field (reads false nothing (done ++ lines)))
    after_these done [] so_far = subst (λ ls. P ls (field (reads false nothing ls))) (sym (append-nil done)) so_far
    after_these done (line ∷ lines) so_far =
        let one : P (done ++ line ∷ []) (field (reads false nothing (done ++ line ∷ []))) = subst (P (done ++ line ∷ [])) (sym (field_read done line)) (next done line (field (reads false nothing done)) so_far) in
        subst (λ ls. P ls (field (reads false nothing ls))) (append_assoc done (line ∷ []) lines) (after_these (done ++ line ∷ []) lines one)

    after_all : (lines : List (List ℕ)) → P lines (field (reads false nothing lines))
    after_all lines = after_these [] lines first

-- Lists of words.
abbrev IsAlso : List ℕ → Type 0
IsAlso key = key ≡ codes "Also"

full_value : (value : List ℕ) → value ≢ [] → is_empty value ≡ false
full_value [] some = absurd (some refl)
full_value (b ∷ bs) some = ne_eqb (length (b ∷ bs)) 0 (λ zero. absurd (omega arith))

-- how a key's list changes
record IsList (key : List ℕ) (changed : List (List ℕ) → List ℕ → List (List ℕ)) : Type 0 where
  which : IsAlso key ⊎ (¬ IsAlso key)
  adds : (old : List (List ℕ)) (value : List ℕ) → value ≢ [] → changed old value ≡ old ++ words value
  clears : ¬ IsAlso key → (old : List (List ℕ)) → changed old [] ≡ []
  keeps : IsAlso key → (old : List (List ℕ)) → changed old [] ≡ old

module _ (key : List ℕ) (field : InstallText → List (List ℕ)) (changed : List (List ℕ) → List ℕ → List (List ℕ)) (at_key : (text : InstallText) (name value : List ℕ) → field (with_assignment text name value) ≡ cond (bytes_eq name key) (changed (field text) value) (field text)) (list : IsList key changed) (none : field nothing ≡ []) where
  one_value : (before : List (List ℕ)) (line value : List ℕ) (old : List (List ℕ)) → HasWords key before old → Gives before line key value → HasWords key (before ++ line ∷ []) (changed old value)
  one_value before line [] old so_far gives =
      elim list.which as (λ _. HasWords key (before ++ line ∷ []) (changed old [])) [
        | inl also ↦ subst (HasWords key (before ++ line ∷ [])) (sym (list.keeps also old)) (Keeps (before ++ line ∷ []) before line old refl gives also so_far)
        | inr other ↦ subst (HasWords key (before ++ line ∷ [])) (sym (list.clears other old)) (Clears (before ++ line ∷ []) before line refl gives other)
      ]
  one_value before line (b ∷ bs) old so_far gives =
      Adds (before ++ line ∷ []) before line (b ∷ bs) old (words (b ∷ bs)) (changed old (b ∷ bs)) refl gives (λ nil. cc) so_far (words_are (b ∷ bs)) (list.adds old (b ∷ bs) (λ nil. cc))

  one_line : (before : List (List ℕ)) (line : List ℕ) (old : List (List ℕ)) → HasWords key before old → HasWords key (before ++ line ∷ []) (applied changed old (given (section_after false before) key line))
  one_line before line old so_far =
      elim (given (section_after false before) key line) as (λ o. given (section_after false before) key line ≡ o → HasWords key (before ++ line ∷ []) (applied changed old o)) [
        | None ↦ λ nothing_here. SaysNothing (before ++ line ∷ []) before line old refl (given_none before line key nothing_here) so_far
        | Some value ↦ λ here. one_value before line value old so_far (given_from before line key value here)
      ] refl

  words_read : (lines : List (List ℕ)) → HasWords key lines (field (reads false nothing lines))
  words_read lines = after_all key field changed at_key (HasWords key) (subst (HasWords key []) (sym none) NoLines) one_line lines

  read_words : (lines : List (List ℕ)) (ws : List (List ℕ)) → HasWords key lines ws → field (reads false nothing lines) ≡ ws
  read_words lines ws NoLines = none
  read_words lines ws (Adds ls before line value old more all is gives some so_far are sum) =
      field_at key field changed at_key ls before line (Some value) is (given_to before line key value gives)
      ∙ list.adds (field (reads false nothing before)) value some
      ∙ ap (λ l. l ++ words value) (read_words before old so_far)
      ∙ ap (λ l. old ++ l) (words_same value more are)
      ∙ sym sum
  read_words lines ws (Clears ls before line is gives other) =
      field_at key field changed at_key ls before line (Some []) is (given_to before line key [] gives) ∙ list.clears other (field (reads false nothing before))
  read_words lines ws (Keeps ls before line old is gives also so_far) =
      field_at key field changed at_key ls before line (Some []) is (given_to before line key [] gives) ∙ list.keeps also (field (reads false nothing before)) ∙ read_words before old so_far
  read_words lines ws (SaysNothing ls before line old is never so_far) =
      field_at key field changed at_key ls before line None is (none_given before line key (given (section_after false before) key line) refl never) ∙ read_words before old so_far

-- The last value.
full_last : (value : List ℕ) → value ≢ [] → unless_empty value ≡ Some value
full_last value some = ap (λ t. cond t None (Some value)) (full_value value some)

module _ (key : List ℕ) (field : InstallText → Option (List ℕ)) (at_key : (text : InstallText) (name value : List ℕ) → field (with_assignment text name value) ≡ cond (bytes_eq name key) (unless_empty value) (field text)) (none : field nothing ≡ None) where
  abbrev last_of : Option (List ℕ) → List ℕ → Option (List ℕ)
  last_of old value = unless_empty value

  last_value : (before : List (List ℕ)) (line value : List ℕ) → Gives before line key value → HasValue key (before ++ line ∷ []) (unless_empty value)
  last_value before line [] gives = Loses (before ++ line ∷ []) before line refl gives
  last_value before line (b ∷ bs) gives =
      subst (HasValue key (before ++ line ∷ [])) (sym (full_last (b ∷ bs) (λ nil. cc))) (Gets (before ++ line ∷ []) before line (b ∷ bs) refl gives (λ nil. cc))

  last_line : (before : List (List ℕ)) (line : List ℕ) (old : Option (List ℕ)) → HasValue key before old → HasValue key (before ++ line ∷ []) (applied last_of old (given (section_after false before) key line))
  last_line before line old so_far =
      elim (given (section_after false before) key line) as (λ o. given (section_after false before) key line ≡ o → HasValue key (before ++ line ∷ []) (applied last_of old o)) [
        | None ↦ λ nothing_here. Stays (before ++ line ∷ []) before line old refl (given_none before line key nothing_here) so_far
        | Some value ↦ λ here. last_value before line value (given_from before line key value here)
      ] refl

  last_read : (lines : List (List ℕ)) → HasValue key lines (field (reads false nothing lines))
  last_read lines = after_all key field last_of at_key (HasValue key) (subst (HasValue key []) (sym none) NoneYet) last_line lines

  read_last : (lines : List (List ℕ)) (last : Option (List ℕ)) → HasValue key lines last → field (reads false nothing lines) ≡ last
  read_last lines last NoneYet = none
  read_last lines last (Gets ls before line value is gives some) =
      field_at key field last_of at_key ls before line (Some value) is (given_to before line key value gives) ∙ full_last value some
  read_last lines last (Loses ls before line is gives) = field_at key field last_of at_key ls before line (Some []) is (given_to before line key [] gives)
  read_last lines last (Stays ls before line old is never so_far) =
      field_at key field last_of at_key ls before line None is (none_given before line key (given (section_after false before) key line) refl never) ∙ read_last before old so_far

-- The keys.
value_list : (key : List ℕ) → ¬ IsAlso key → IsList key with_value
value_list key other = record {
  which = inr other;
  adds = λ old value some. ap (λ t. cond t [] (old ++ words value)) (full_value value some);
  clears = λ _ old. refl;
  keeps = λ also. absurd (other also);
}

words-none : words [] ≡ []
unfolding words
words-none = refl

also_list : IsList (codes "Also") with_words
also_list = record {
  which = inl refl;
  adds = λ old value some. refl;
  clears = λ other. absurd (other refl);
  keeps = λ _ old. ap (λ l. old ++ l) words-none ∙ append-nil old;
}

unlike : (key : List ℕ) → bytes_eq key (codes "Also") ≡ false → ¬ IsAlso key
unlike key differs is = let same = (bytes_eq-Decides key (codes "Also")).1 is in let both = sym differs ∙ same in cc

-- All of it.
asked : (bytes : List ℕ) (lines : List (List ℕ)) → AreLogicalLinesOf bytes lines → AsksFor bytes (reads false nothing lines)
unfolding with_assignment
asked bytes lines are = record {
  lines = lines;
  are_lines = are;
  wanted_by = words_read (codes "WantedBy") (λ text. text.wanted_by) with_value (λ text name value. refl) (value_list (codes "WantedBy") (unlike (codes "WantedBy") refl)) refl lines;
  required_by = words_read (codes "RequiredBy") (λ text. text.required_by) with_value (λ text name value. refl) (value_list (codes "RequiredBy") (unlike (codes "RequiredBy") refl)) refl lines;
  upheld_by = words_read (codes "UpheldBy") (λ text. text.upheld_by) with_value (λ text name value. refl) (value_list (codes "UpheldBy") (unlike (codes "UpheldBy") refl)) refl lines;
  alias = words_read (codes "Alias") (λ text. text.alias) with_value (λ text name value. refl) (value_list (codes "Alias") (unlike (codes "Alias") refl)) refl lines;
  also = words_read (codes "Also") (λ text. text.also) with_words (λ text name value. refl) also_list refl lines;
  default_instance = last_read (codes "DefaultInstance") (λ text. text.default_instance) (λ text name value. refl) refl lines;
}

same_text : (bytes : List ℕ) (text : InstallText) → (asks : AsksFor bytes text) → reads false nothing asks.lines ≡ text
unfolding with_assignment
same_text bytes text asks =
    let ls = asks.lines in
    let wanted_by = read_words (codes "WantedBy") (λ text. text.wanted_by) with_value (λ text name value. refl) (value_list (codes "WantedBy") (unlike (codes "WantedBy") refl)) refl ls text.wanted_by asks.wanted_by in
    let required_by = read_words (codes "RequiredBy") (λ text. text.required_by) with_value (λ text name value. refl) (value_list (codes "RequiredBy") (unlike (codes "RequiredBy") refl)) refl ls text.required_by asks.required_by in
    let upheld_by = read_words (codes "UpheldBy") (λ text. text.upheld_by) with_value (λ text name value. refl) (value_list (codes "UpheldBy") (unlike (codes "UpheldBy") refl)) refl ls text.upheld_by asks.upheld_by in
    let alias = read_words (codes "Alias") (λ text. text.alias) with_value (λ text name value. refl) (value_list (codes "Alias") (unlike (codes "Alias") refl)) refl ls text.alias asks.alias in
    let also = read_words (codes "Also") (λ text. text.also) with_words (λ text name value. refl) also_list refl ls text.also asks.also in
    let default_instance = read_last (codes "DefaultInstance") (λ text. text.default_instance) (λ text name value. refl) refl ls text.default_instance asks.default_instance in
    λ i. record { wanted_by = wanted_by i; required_by = required_by i; upheld_by = upheld_by i; alias = alias i; also = also i; default_instance = default_instance i }

pub text_asked : (bytes : List ℕ) (text : InstallText) → text_of bytes ≡ text → AsksFor bytes text
text_asked bytes text is = subst (AsksFor bytes) (sym (text_is bytes) ∙ is) (asked bytes (logical_lines bytes) (logical_are bytes))

pub asked_text : (bytes : List ℕ) (text : InstallText) → AsksFor bytes text → text_of bytes ≡ text
asked_text bytes text asks = text_is bytes ∙ ap (reads false nothing) (logical_same bytes asks.lines asks.are_lines) ∙ same_text bytes text asks
