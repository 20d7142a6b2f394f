-- The target that a system starts: systemctl(1), "get-default".
use Rattle.std.specs.Prelude.{ℕ, List, Result, Ok, Err, codes}
use Rattle.load_path.specs.Find.{find}
use Rattle.footprint.specs.declared.answer.Answer.{Answer}
use Rattle.footprint.specs.declared.answer.Answer.TheVariants.{Name, Refused}
use Rattle.tree_access.specs.declared.refusal.Refusal.{Refusal}
use Rattle.footprint.specs.Inquiry.{Inquiry, by_cells, giving}
use Rattle.footprint.specs.Operations.{Effect}
use Rattle.footprint.specs.Units.{found_unit}
use Rattle.states.specs.declared.get_default.GetDefault.{GetDefault}
use Rattle.states.specs.Questions.{asked}

-- the unit's own name, or why there is none
abbrev pub named_by : Result (List ℕ × List ℕ) Refusal → Answer
named_by (Ok unit) = Name unit.0
named_by (Err refusal) = Refused refusal

abbrev pub default_target : List ℕ
default_target = codes "default.target"

-- What the question looks up in a tree, and what it answers.
abbrev pub get_default_answer : GetDefault → Inquiry Answer
get_default_answer c = giving (giving (by_cells (find default_target)) (found_unit default_target)) named_by

abbrev pub get_default_meaning : GetDefault → Inquiry Effect
get_default_meaning c = asked (get_default_answer c)
