-- Notices are equal if their lists are.
use Rattle.std.proofs.Common.{◌≡◌, ℕ, List, [], ◌∷◌, All, map, refl, sym, ap, ◌∙◌}
use Rattle.std.proofs.lemmas.List.Elements.{All-head, All-tail}
use Rattle.std.specs.FinMap as fin
use Rattle.std.specs.FinMap.{find}
use Rattle.unit_file.specs.declared.notice.Notice.{Notice}
use Rattle.unit_file.specs.Notices.{NoticeMap, AreAtTheirLines, line_cmp, notice_line}
use Rattle.unit_file.proofs.NoticeMaps.{same_notices, HasItsLine}

-- The rests of two lists of notices are equal exactly if the whole lists are.
pub record AreAlikeSoFar (rest others : List Notice) (all all_others : List Notice) : Type 0 where
  pub on : rest ≡ others → all ≡ all_others
  pub back : all ≡ all_others → rest ≡ others

-- the notices of entries
abbrev values_of : List (List ℕ × Notice) → List Notice
values_of = map (λ e. e.1)

-- entries at their lines are equal if their notices are
values_are : (es : List (List ℕ × Notice)) → All HasItsLine es → (fs : List (List ℕ × Notice)) → All HasItsLine fs → values_of es ≡ values_of fs → es ≡ fs
values_are [] lines [] others same = refl
values_are [] lines (f ∷ fs) others same = cc
values_are (e ∷ es) lines [] others same = cc
values_are (e ∷ es) lines (f ∷ fs) others same =
    let first : e.1 ≡ f.1 = cc in
    let later : values_of es ≡ values_of fs = cc in
    let line = All-head HasItsLine e es lines ∙ ap notice_line first ∙ sym (All-head HasItsLine f fs others) in
    λ i. (line i, first i) ∷ values_are es (All-tail HasItsLine e es lines) fs (All-tail HasItsLine f fs others) later i

-- notices at their lines are equal if they are equal one by one
pub values_alike : (notices others : NoticeMap) → AreAtTheirLines notices → AreAtTheirLines others → fin.values notices ≡ fin.values others → notices ≡ others
values_alike notices others lines other_lines same =
    same_notices notices others (λ q. fin.get-entries notices q ∙ ap (find line_cmp q) (values_are (fin.entries notices) lines (fin.entries others) other_lines same) ∙ sym (fin.get-entries others q))
