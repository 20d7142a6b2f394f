-- Runs of the wanted rules, and the first fault of a text.
use Rattle.std.proofs.Common.{◌≡◌, ◌≢◌, ◌⊎◌, ◌+◌, ◌<◌, ◌≤◌, ℕ, suc, Bool, true, false, List, [], ◌∷◌, ◌++◌, length, take, drop, get_or, Ok, refl, sym, ap, subst, ◌∙◌, inl, inr, arith}
use Rattle.std.proofs.Math.Seq.{drop-cons}
use Rattle.std.proofs.lemmas.List.{take-append-drop, length-take-le}
use Rattle.std.specs.Prelude.{not}
use Rattle.std.specs.Str.{bytes_eq}
use Rattle.std.proofs.lemmas.Bool.{false≢true}
use Rattle.std.proofs.lemmas.Slice.Eq.{bytes_eq-Decides}
use Rattle.link_tree.specs.Trees.{Entries}
use Rattle.history.specs.declared.row.Row.{Row}
use Rattle.unit_script.specs.declared.action.Action.{Action}
use Rattle.unit_script.specs.Machine.{replay}
use Rattle.kept_texts.specs.declared.reading.Parts.{Parts}
use Rattle.kept_texts.specs.declared.runs.Run.{Run}
use Rattle.kept_texts.specs.declared.sums.Sum.{Sum}
use Rattle.kept_texts.specs.Readings.{read_text}
use Rattle.kept_runs.specs.declared.errors.KeptError.{KeptError}
use Rattle.kept_runs.specs.declared.errors.KeptError.TheVariants as keeps
use Rattle.kept_runs.specs.Readings.{AreOfRules, IsFirstOfOthers, LeftOtherSlots, HasRunsOf, IsInputFault, IsReadFault}
use Rattle.kept_runs.specs.Texts.{Says}

pub first_of_others : (rules : ℕ) (runs : List Run) (i : ℕ) (x : Run) → x ≡ get_or runs i x → i < length runs → AreOfRules rules (take i runs) → x.words.rules ≢ rules → IsFirstOfOthers rules runs (i + 1) x.words.rules
first_of_others rules runs i x is within before other =
    let size = length-take-le i runs (omega (arith, within)) in
    let number : i + 1 ≡ length (take i runs) + 1 = omega (arith, size) in (
      take i runs,
      x,
      drop (suc i) runs,
      sym (take-append-drop i runs) ∙ ap (λ rest. take i runs ++ rest) (drop-cons runs i x within ∙ ap (λ y. y ∷ drop (suc i) runs) (sym is)),
      before,
      number,
      refl,
      other,
    )

-- the fault of an input is the first one if the lines and the rules are right
pub input_is_first : (rules : ℕ) (e : KeptError) (text : List ℕ) → HasRunsOf rules text → IsInputFault e text → IsReadFault rules e text
input_is_first rules (keeps.Input fault) text has is = (has, is)
input_is_first rules keeps.Full text has is = (has, is)
input_is_first rules keeps.OutOfMemory text has is = tt
input_is_first rules (keeps.Text line fault) text has is = absurd is
input_is_first rules (keeps.RulesDiffer run others) text has is = absurd is
input_is_first rules (keeps.TreeDiffers row) text has is = absurd is

-- the fault of a tree that isn't the one that the last run left, unless memory ran out
abbrev pub IsTreeFault : KeptError → Entries → List (Row Action) → List Run → Type 0
IsTreeFault e first rows runs =
    (e ≡ keeps.OutOfMemory) ⊎ ((e ≡ keeps.TreeDiffers (length rows)) × (length rows ≤ 1000000) × LeftOtherSlots (replay first rows) runs)

pub tree_is_first : (rules : ℕ) (e : KeptError) (text : List ℕ) (parts : Parts) → read_text text ≡ Ok parts → AreOfRules rules parts.runs.all → (first : Entries) (rows : List (Row Action)) → Says text first rows
    → IsTreeFault e first rows parts.runs.all → IsReadFault rules e text
tree_is_first rules e text parts is of first rows says (inl none) = subst (λ e. IsReadFault rules e text) (sym none) tt
tree_is_first rules e text parts is of first rows says (inr other) =
    subst (λ e. IsReadFault rules e text) (sym other.0) ((parts, is, of), (parts, is, first, rows, says, other.1, refl, other.2))

-- equal sums pass the test of equality, and only these do
of_not : (b : Bool) → not b ≡ false → b ≡ true
of_not true h = refl
of_not false h = absurd (false≢true (sym h))

pub same_sums : (found kept : Sum) → not (bytes_eq found.bytes kept.bytes) ≡ false → kept ≡ found
same_sums found kept h =
    let same : found.bytes ≡ kept.bytes = (bytes_eq-Decides found.bytes kept.bytes).0 (of_not (bytes_eq found.bytes kept.bytes) h) in
    ap (λ bytes. record { bytes = bytes }) (sym same)

pub other_sums : (found kept : Sum) → not (bytes_eq found.bytes kept.bytes) ≡ true → kept ≡ found → ⊥
other_sums found kept h same =
    let itself : bytes_eq found.bytes found.bytes ≡ true = (bytes_eq-Decides found.bytes found.bytes).1 refl in
    absurd (false≢true (sym (ap not itself) ∙ ap (λ sum. not (bytes_eq found.bytes sum.bytes)) (sym same) ∙ h))
