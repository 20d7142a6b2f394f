-- The rule that is read from a line of a preset file is the one that the line has.
use Rattle.std.proofs.Common.{◌≡◌, ◌≢◌, ◌⊎◌, inl, inr, refl, ℕ, Bool, true, false, cond, List, [], ◌∷◌, ◌++◌, length, Option, Some, None, is_none, codes, sym, ap, ◌∙◌, subst, arith, append_assoc, append-nil}
use Rattle.std.specs.List.{list_any}
use Rattle.std.specs.Str.{bytes_eq}
use Rattle.std.proofs.lemmas.Bool.{and_parts, and_from, or_parts, or_from, ne_eqb}
use Rattle.std.proofs.lemmas.Slice.Eq.{bytes_eq-Decides}
use Rattle.std.proofs.Math.Seq.{take-append_seam, drop-append_seam}
use Rattle.unit_name.specs.declared.fault.NameFault.{NameFault}
use Rattle.unit_name.specs.Parts.{kind_of}
use Rattle.unit_name.specs.Name.{name_fault, is_unit_name, instance_of}
use Rattle.unit_name.proofs.Names.{name_from_no_fault, no_fault_in_name, parts_read}
use Rattle.unit_file.specs.Lines.{is_blank, stripped}
use Rattle.unit_file.specs.Identity.{is_template}
use Rattle.unit_file.specs.Install.{is_empty, words}
use Rattle.unit_file.specs.Listed.{is_template_name}
use Rattle.preset_rules.specs.declared.rule.Rule.{Rule}
use Rattle.preset_rules.specs.declared.rule.Rule.TheVariants.{Enable, Disable, Ignore}
use Rattle.preset_rules.specs.Lines.{cut_at, first_word, names_template, with_instances, enable_rule, disable_rule, ignore_rule, rule_from, rule_of}
use Rattle.line_laws.specs.Blanks.{AreBlanks, IsGap, IsWord, EndsWord, AreWordsOf, IsBare, IsStrippedTo}
use Rattle.line_laws.specs.Blanks.AreWordsOf.{NoWord, OneMore}
use Rattle.line_laws.specs.PresetLines.{IsTemplate, IsOfPattern, IsRuleOf, PresetLinesAreRead}
use Rattle.line_laws.specs.PresetLines.IsRuleOf.{Enables, Disables, Ignores}
use Rattle.line_laws.proofs.Places.{position_none, position_at}
use Rattle.line_laws.proofs.Stripping.{has_last, blanks-append, blanks-parts, bare-from, bare-nil, bare-last, stripped_from, stripped_is}
use Rattle.line_laws.proofs.WordLists.{cut_of, words_are, words_same, words-word, words-stripped}

-- The first word of a text.
first_alone : (word : List ℕ) → list_any is_blank word ≡ false → first_word word ≡ (word, [])
unfolding first_word
first_alone word none = ap (cut_at word) (position_none is_blank word none)

first_then : (word : List ℕ) (b : ℕ) (rest : List ℕ) → list_any is_blank word ≡ false → is_blank b ≡ true → first_word (word ++ b ∷ rest) ≡ (word, stripped (b ∷ rest))
unfolding first_word
first_then word b rest none blank =
    let front = take-append_seam word (b ∷ rest) in
    let back = drop-append_seam word (b ∷ rest) in
    ap (cut_at (word ++ b ∷ rest)) (position_at is_blank word b rest none blank) ∙ (λ i. (front i, stripped (back i)))

stripped-nil : stripped [] ≡ []
unfolding stripped
stripped-nil = refl

first_is : (word rest : List ℕ) → list_any is_blank word ≡ false → EndsWord rest → first_word (word ++ rest) ≡ (word, stripped rest)
first_is word [] none ends = ap first_word (append-nil word) ∙ first_alone word none ∙ ap (λ rest. (word, rest)) (sym stripped-nil)
first_is word (b ∷ rest) none ends = first_then word b rest none ends

-- A line that begins with a word has the rule of the word and of what is left, stripped.
no_blank_last : (front : List ℕ) (last : ℕ) → list_any is_blank (front ++ last ∷ []) ≡ false → is_blank last ≡ false
no_blank_last [] last none = (or_parts (is_blank last) false none).0
no_blank_last (b ∷ front) last none = no_blank_last front last (or_parts (is_blank b) (list_any is_blank (front ++ last ∷ [])) none).1

-- what is left is blanks
line_ends : (line before word rest : List ℕ) → line ≡ before ++ word ++ rest → AreBlanks before → IsWord word → AreBlanks rest → stripped line ≡ word
line_ends line before [] rest is are word_is blanks = absurd (let some = word_is.0 in omega arith)
line_ends line before (b ∷ bs) rest is are word_is blanks =
    let end = has_last b bs in
    let last : is_blank end.last ≡ false = no_blank_last end.front end.last (subst (λ l. list_any is_blank l ≡ false) end.is word_is.1) in
    let first = (or_parts (is_blank b) (list_any is_blank bs) word_is.1).0 in
    stripped_from line (b ∷ bs) (record { before = before; after = rest; is = is; blanks_before = are; blanks_after = blanks; bare = bare-from (b ∷ bs) b bs end.front end.last refl end.is first last })

-- what is left begins with a gap, if it isn't blanks
pub gap_is : (rest gap : List ℕ) (c : ℕ) (cs after : List ℕ) → rest ≡ gap ++ c ∷ cs ++ after → EndsWord rest → is_blank c ≡ false → AreBlanks gap → IsGap gap
gap_is rest [] c cs after is ends other are = absurd (let blank : is_blank c ≡ true = subst EndsWord is ends in let both = sym blank ∙ other in cc)
gap_is rest (b ∷ bs) c cs after is ends other are = (are, omega arith)

pub gap_ends : (gap rest : List ℕ) → IsGap gap → EndsWord (gap ++ rest)
gap_ends [] rest gap = absurd (let some = gap.1 in omega arith)
gap_ends (b ∷ bs) rest gap = (blanks-parts b bs gap.0).0

-- a text with blanks before it
stripped_gap : (gap core : List ℕ) → AreBlanks gap → IsBare core → stripped (gap ++ core) ≡ core
stripped_gap gap core are bare = stripped_from (gap ++ core) core (record { before = gap; after = []; is = sym (append-nil (gap ++ core)); blanks_before = are; blanks_after = refl; bare = bare })

rule_goes_on : (line before : List ℕ) (b : ℕ) (bs rest : List ℕ) (core : List ℕ) → line ≡ before ++ (b ∷ bs) ++ rest → AreBlanks before → IsWord (b ∷ bs) → EndsWord rest → IsStrippedTo rest core → first_word (stripped line) ≡ (b ∷ bs, core)
rule_goes_on line before b bs rest [] is are word_is ends w =
    let blanks : AreBlanks rest = subst AreBlanks (sym (w.is ∙ ap (λ l. l ++ w.after) (append-nil w.before))) (blanks-append w.before w.after w.blanks_before w.blanks_after) in
    ap first_word (line_ends line before (b ∷ bs) rest is are word_is blanks) ∙ first_alone (b ∷ bs) word_is.1
rule_goes_on line before b bs rest (c ∷ cs) is are word_is ends w =
    let word = b ∷ bs in
    let core = c ∷ cs in
    let end = has_last c cs in
    let gap = w.before in
    let is_gap = gap_is rest gap c cs w.after w.is ends (w.bare.begins c cs refl) w.blanks_before in
    let whole = word ++ (gap ++ core) in
    let first = (or_parts (is_blank b) (list_any is_blank bs) word_is.1).0 in
    let back : whole ≡ (word ++ (gap ++ end.front)) ++ end.last ∷ [] =
    ap (λ l. word ++ (gap ++ l)) end.is ∙ ap (λ l. word ++ l) (sym (append_assoc gap end.front (end.last ∷ []))) ∙ sym (append_assoc word (gap ++ end.front) (end.last ∷ [])) in
    let there : line ≡ before ++ whole ++ w.after =
    is ∙ ap (λ l. before ++ word ++ l) w.is ∙ append_assoc before word (gap ++ core ++ w.after) ∙ ap (λ l. before ++ l) (sym (append_assoc word (gap ++ core) w.after)) ∙ sym (append_assoc before whole w.after) in
    let left : stripped line ≡ whole = stripped_from line whole (record {
      before = before;
      after = w.after;
      is = there;
      blanks_before = are;
      blanks_after = w.blanks_after;
      bare = bare-from whole b (bs ++ (gap ++ core)) (word ++ (gap ++ end.front)) end.last refl back first (bare-last c cs w.bare);
    }) in
    ap first_word left ∙ first_is word (gap ++ core) word_is.1 (gap_ends gap core is_gap) ∙ ap (λ l. (word, l)) (stripped_gap gap core w.blanks_before w.bare)

rule_at : (line before word rest : List ℕ) → line ≡ before ++ word ++ rest → AreBlanks before → IsWord word → EndsWord rest → rule_of line ≡ rule_from word (stripped rest)
unfolding rule_of
rule_at line before [] rest is are word_is ends = absurd (let some = word_is.0 in omega arith)
rule_at line before (b ∷ bs) rest is are word_is ends = ap (λ cut. rule_from cut.0 cut.1) (rule_goes_on line before b bs rest (stripped rest) is are word_is ends (stripped_is rest))

-- A line is blank, or begins with a word.
record Begins (line : List ℕ) : Type 0 where
  before : List ℕ
  word : List ℕ
  rest : List ℕ
  is : line ≡ before ++ word ++ rest
  blanks_before : AreBlanks before
  word_is : IsWord word
  ends : EndsWord rest

begins_of : (line : List ℕ) → AreBlanks line ⊎ Begins line
begins_of [] = inl refl
begins_of (b ∷ bs) =
    elim (is_blank b) as (λ t. is_blank b ≡ t → AreBlanks (b ∷ bs) ⊎ Begins (b ∷ bs)) [
      | true ↦ λ blank. elim (begins_of bs) as (λ _. AreBlanks (b ∷ bs) ⊎ Begins (b ∷ bs)) [
        | inl are ↦ inl (and_from (is_blank b) _ blank are)
        | inr later ↦ inr (record { before = b ∷ later.before; word = later.word; rest = later.rest; is = ap (λ l. b ∷ l) later.is; blanks_before = and_from (is_blank b) _ blank later.blanks_before; word_is = later.word_is; ends = later.ends })
      ]
      | false ↦ λ other.
          let cut = cut_of bs in
          inr (record { before = []; word = b ∷ cut.first; rest = cut.rest; is = ap (λ l. b ∷ l) cut.is; blanks_before = refl; word_is = (omega arith, or_from (is_blank b) (list_any is_blank cut.first) other cut.no_blank); ends = cut.ends })
    ] refl

blank_line : (line : List ℕ) → AreBlanks line → rule_of line ≡ None
unfolding rule_of
blank_line line are =
    let none : stripped line ≡ [] = stripped_from line [] (record { before = line; after = []; is = sym (append-nil (line ++ []) ∙ append-nil line); blanks_before = are; blanks_after = refl; bare = bare-nil }) in
    ap (λ t. rule_from (first_word t).0 (first_word t).1) none ∙ ap (λ (cut : List ℕ × List ℕ). rule_from cut.0 cut.1) (first_alone [] refl)

-- The name of a template.
no_fault : (o : Option NameFault) → is_none o ≡ true → o ≡ None
no_fault None none = refl
no_fault (Some fault) none = absurd (cc)

by_kind : (o : Option (List ℕ)) → is_template (kind_of o) ≡ true → o ≡ Some []
by_kind None is = absurd (cc)
by_kind (Some []) is = refl
by_kind (Some (b ∷ bs)) is = absurd (cc)

template_from : (text : List ℕ) → names_template text ≡ true → IsTemplate text
unfolding names_template
template_from text is =
    let both = and_parts (is_unit_name text) (is_template_name text) is in
    let name = name_from_no_fault text (no_fault (name_fault text) both.0) in
    (name.0, name.1, sym (parts_read text name.0 name.1).1 ∙ by_kind (instance_of text) both.1)

template_to : (text : List ℕ) → IsTemplate text → names_template text ≡ true
unfolding names_template
template_to text (parts, spelled, empty) =
    and_from (is_unit_name text) (is_template_name text) (ap is_none (no_fault_in_name text (parts, spelled))) (ap (λ o. is_template (kind_of o)) ((parts_read text parts spelled).1 ∙ empty))

-- A line "enable", by its words.
abbrev by_words : List (List ℕ) → Option Rule
by_words [] = None
by_words (pattern ∷ instances) = with_instances pattern instances

enable_at : (text first rest : List ℕ) → IsBare text → text ≡ first ++ rest → list_any is_blank first ≡ false → EndsWord rest → enable_rule text ≡ by_words (words text)
enable_at text [] [] bare is none ends =
    ap (λ (cut : List ℕ × List ℕ). cond (is_empty cut.0) None (with_instances cut.0 (words cut.1))) (ap first_word is ∙ first_alone [] refl) ∙ sym (ap by_words (words_same text [] (NoWord text (subst AreBlanks (sym is) refl))))
enable_at text [] (b ∷ bs) bare is none ends = absurd (let both = sym ends ∙ bare.begins b bs is in cc)
enable_at text (b ∷ bs) rest bare is none ends =
    let first = b ∷ bs in
    let full : is_empty first ≡ false = ne_eqb (length first) 0 (λ zero. absurd (omega arith)) in
    ap (λ (cut : List ℕ × List ℕ). cond (is_empty cut.0) None (with_instances cut.0 (words cut.1))) (ap first_word is ∙ first_is first rest none ends)
    ∙ ap (λ t. cond t None (with_instances first (words (stripped rest)))) full
    ∙ ap (with_instances first) (words-stripped rest)
    ∙ sym (ap by_words (ap words is ∙ words-word first rest (omega arith, none) ends))

enable_words : (rest : List ℕ) → enable_rule (stripped rest) ≡ by_words (words rest)
enable_words rest =
    let text = stripped rest in
    let cut = cut_of text in
    enable_at text cut.first cut.rest (stripped_is rest).bare cut.is cut.no_blank cut.ends ∙ ap by_words (words-stripped rest)

-- The value that a test selected.
by_test : {A : Type 0} (c : Bool) (x y : Option A) (r : A) → cond c x y ≡ Some r → ((c ≡ true) × (x ≡ Some r)) ⊎ ((c ≡ false) × (y ≡ Some r))
by_test true x y r is = inl (refl, is)
by_test false x y r is = inr (refl, is)

same_rule : (one rule : Rule) → ◌≡◌ {A = Option Rule} (Some one) (Some rule) → one ≡ rule
same_rule one rule is = cc

-- The rule that is read is one that the line has.
enabled : (line rest : List ℕ) (ws : List (List ℕ)) (rule : Rule) → ((ws' : List (List ℕ)) → ws' ≡ ws → AreWordsOf line (codes "enable" ∷ ws')) → by_words ws ≡ Some rule → IsRuleOf line rule
enabled line rest [] rule are is = absurd (cc)
enabled line rest (pattern ∷ []) rule are is = subst (IsRuleOf line) (same_rule (Enable pattern []) rule is) (Enables line pattern [] (are (pattern ∷ []) refl) (λ some. absurd (some refl)))
enabled line rest (pattern ∷ instance ∷ instances) rule are is =
    elim (by_test (names_template pattern) (Some (Enable pattern (instance ∷ instances))) None rule is) [
      | inl template ↦ subst (IsRuleOf line) (same_rule (Enable pattern (instance ∷ instances)) rule template.1) (Enables line pattern (instance ∷ instances) (are (pattern ∷ instance ∷ instances) refl) (λ _. template_from pattern template.0))
      | inr no_template ↦ absurd (let never = no_template.1 in cc)
    ]

of_pattern : (word line before rest core : List ℕ) → line ≡ before ++ word ++ rest → AreBlanks before → EndsWord rest → IsStrippedTo rest core → core ≢ [] → IsOfPattern word line core
of_pattern word line before rest [] is are ends w some = absurd (some refl)
of_pattern word line before rest (c ∷ cs) is are ends w some = record {
  before = before;
  gap = w.before;
  after = w.after;
  is = is ∙ ap (λ l. before ++ word ++ l) (w.is ∙ append_assoc w.before (c ∷ cs) w.after) ∙ sym (append_assoc (before ++ word) w.before ((c ∷ cs) ++ w.after)) ∙ sym (append_assoc (before ++ word ++ w.before) (c ∷ cs) w.after);
  blanks_before = are;
  apart = gap_is rest w.before c cs w.after w.is ends (w.bare.begins c cs refl) w.blanks_before;
  some = some;
  bare = w.bare;
  blanks_after = w.blanks_after;
}

patterned : (rest : List ℕ) (make : List ℕ → Rule) (rule : Rule) → cond (is_empty rest) None (Some (make rest)) ≡ Some rule → (rest ≢ []) × (make rest ≡ rule)
patterned [] make rule is = absurd (cc)
patterned (b ∷ bs) make rule is =
    let full : is_empty (b ∷ bs) ≡ false = ne_eqb (length (b ∷ bs)) 0 (λ zero. absurd (omega arith)) in
    (λ none. cc, same_rule (make (b ∷ bs)) rule (sym (ap (λ t. cond t None (Some (make (b ∷ bs)))) full) ∙ is))

read_from : (line : List ℕ) (rule : Rule) → Begins line → rule_of line ≡ Some rule → IsRuleOf line rule
read_from line rule b is =
    let here : rule_from b.word (stripped b.rest) ≡ Some rule = sym (rule_at line b.before b.word b.rest b.is b.blanks_before b.word_is b.ends) ∙ is in
    let at : (word : List ℕ) → b.word ≡ word → line ≡ b.before ++ word ++ b.rest = λ word same. b.is ∙ ap (λ l. b.before ++ l ++ b.rest) same in
    elim (by_test (bytes_eq b.word (codes "enable")) (enable_rule (stripped b.rest)) _ rule here) [
      | inl enables ↦
          let same = (bytes_eq-Decides b.word (codes "enable")).0 enables.0 in
          enabled line b.rest (words b.rest) rule (λ ws ws_are. OneMore line b.before (codes "enable") b.rest ws (at (codes "enable") same) b.blanks_before (subst IsWord same b.word_is) b.ends (subst (AreWordsOf b.rest) (sym ws_are) (words_are b.rest)))
          (sym (enable_words b.rest) ∙ enables.1)
      | inr more ↦ elim (by_test (bytes_eq b.word (codes "disable")) (disable_rule (stripped b.rest)) _ rule more.1) [
        | inl disables ↦
            let same = (bytes_eq-Decides b.word (codes "disable")).0 disables.0 in
            let found = patterned (stripped b.rest) Disable rule disables.1 in
            subst (IsRuleOf line) found.1 (Disables line (stripped b.rest) (of_pattern (codes "disable") line b.before b.rest (stripped b.rest) (at (codes "disable") same) b.blanks_before b.ends (stripped_is b.rest) found.0))
        | inr still ↦ elim (by_test (bytes_eq b.word (codes "ignore")) (ignore_rule (stripped b.rest)) None rule still.1) [
          | inl ignores ↦
              let same = (bytes_eq-Decides b.word (codes "ignore")).0 ignores.0 in
              let found = patterned (stripped b.rest) Ignore rule ignores.1 in
              subst (IsRuleOf line) found.1 (Ignores line (stripped b.rest) (of_pattern (codes "ignore") line b.before b.rest (stripped b.rest) (at (codes "ignore") same) b.blanks_before b.ends (stripped_is b.rest) found.0))
          | inr none ↦ absurd (let never = none.1 in cc)
        ]
      ]
    ]

read_rule : (line : List ℕ) (rule : Rule) → rule_of line ≡ Some rule → IsRuleOf line rule
read_rule line rule is =
    elim (begins_of line) as (λ _. IsRuleOf line rule) [
      | inl are ↦ absurd (let none = blank_line line are in let both = sym none ∙ is in cc)
      | inr begins ↦ read_from line rule begins is
    ]

-- And the rule that the line has is read.
with_template : (pattern : List ℕ) (instances : List (List ℕ)) → (instances ≢ [] → IsTemplate pattern) → with_instances pattern instances ≡ Some (Enable pattern instances)
with_template pattern [] template = refl
with_template pattern (instance ∷ instances) template =
    ap (λ t. cond t (Some (Enable pattern (instance ∷ instances))) None) (template_to pattern (template (λ none. cc)))

enabling : (line pattern : List ℕ) (instances ws : List (List ℕ)) → AreWordsOf line ws → ws ≡ codes "enable" ∷ pattern ∷ instances → (instances ≢ [] → IsTemplate pattern) → rule_of line ≡ Some (Enable pattern instances)
enabling line pattern instances ws (NoWord all are) same template = absurd (cc)
enabling line pattern instances ws (OneMore all blanks word rest words is are word_is ends more) same template =
    let first : word ≡ codes "enable" = cc in
    let later : words ≡ pattern ∷ instances = cc in
    rule_at line blanks word rest is are word_is ends
    ∙ ap (λ w. rule_from w (stripped rest)) first
    ∙ enable_words rest
    ∙ ap by_words (words_same rest words more ∙ later)
    ∙ with_template pattern instances template

module _ (word line pattern : List ℕ) (word_is : IsWord word) (p : IsOfPattern word line pattern) where
  rest_of : List ℕ
  rest_of = p.gap ++ pattern ++ p.after

  pattern_at : rule_of line ≡ rule_from word pattern
  unfolding rest_of
  pattern_at =
      let is : line ≡ p.before ++ word ++ rest_of = p.is ∙ append_assoc (p.before ++ word ++ p.gap) pattern p.after ∙ append_assoc (p.before ++ word) p.gap (pattern ++ p.after) ∙ ap (λ l. p.before ++ word ++ l) (sym (append_assoc p.gap pattern p.after)) in
      let ends : EndsWord rest_of = subst EndsWord (sym (append_assoc p.gap pattern p.after)) (gap_ends p.gap (pattern ++ p.after) p.apart) in
      rule_at line p.before word rest_of is p.blanks_before word_is ends
      ∙ ap (rule_from word) (stripped_from rest_of pattern (record { before = p.gap; after = p.after; is = refl; blanks_before = p.apart.0; blanks_after = p.blanks_after; bare = p.bare }))

full_pattern : (pattern : List ℕ) → pattern ≢ [] → is_empty pattern ≡ false
full_pattern [] some = absurd (some refl)
full_pattern (b ∷ bs) some = ne_eqb (length (b ∷ bs)) 0 (λ zero. absurd (omega arith))

rule_read : (line : List ℕ) (rule : Rule) → IsRuleOf line rule → rule_of line ≡ Some rule
rule_read line rule (Enables all pattern instances are template) = enabling all pattern instances (codes "enable" ∷ pattern ∷ instances) are refl template
rule_read line rule (Disables all pattern p) =
    pattern_at (codes "disable") all pattern (omega arith, refl) p ∙ ap (λ t. cond t None (Some (Disable pattern))) (full_pattern pattern p.some)
rule_read line rule (Ignores all pattern p) =
    pattern_at (codes "ignore") all pattern (omega arith, refl) p ∙ ap (λ t. cond t None (Some (Ignore pattern))) (full_pattern pattern p.some)

never_none : (o : Option Rule) → ((rule : Rule) → o ≡ Some rule → ⊥) → o ≡ None
never_none None never = refl
never_none (Some rule) never = absurd (never rule refl)

pub preset_lines : PresetLinesAreRead
preset_lines = record {
  a_rule = λ line rule. (read_rule line rule, rule_read line rule);
  no_rule = λ line. (
    λ none rule has. (let some = rule_read line rule has in let both = sym none ∙ some in cc),
    λ never. never_none (rule_of line) (λ rule is. never rule (read_rule line rule is)),
  );
}
