-- What commands look up in a tree, and what effect that has.
use Rattle.std.proofs.Common.{ap, refl}
use Rattle.std.specs.Prelude.{Result, Ok, Err, []}
use Rattle.std.specs.FinMap as map
use Rattle.unit_file.specs.Notices.{NoticeMap}
use Rattle.tree_access.specs.declared.refusal.Refusal.{Refusal}
use Rattle.footprint.specs.Inquiry.{Inquiry, over, ◌>>=◌}
use Rattle.footprint.specs.Operations.{Effect}
use Rattle.tree_access.proofs.PlacingLaws.{effects_agree}
use Rattle.footprint.specs.Steps.{Step, refuse}
use Rattle.link_tree.specs.Trees.{Entries}
use Rattle.link_tree.specs.Differences.{changes_between}
use Rattle.footprint.specs.declared.answer.Answer.TheVariants.{Done, Refused}
use Rattle.tree_access.specs.Placing.{Ruling, placed_in}

-- A command looks things up, and from the result determines the notices of arguments that it
-- skipped and a step. If the step is refused, the notices are not reported.
abbrev pub Command : Type 0
Command = Inquiry (NoticeMap × Step)

-- a step, with the notices that are reported
abbrev pub telling : NoticeMap → Step → Command
telling notices step = over (notices, step)

-- a step without notices
abbrev pub silent : Step → Command
silent step = telling map.empty step

-- the command for what was found, unless that is a refusal
abbrev pub unless_refused : {X : Type 0} → (X → Command) → Result X Refusal → Command
unless_refused on (Ok x) = on x
unless_refused on (Err refusal) = silent (refuse refusal)

-- The answer and changes of a ruling on a tree, with the notices of skipped arguments: a refusal
-- changes nothing, and drops the notices.
abbrev pub effect : Entries → NoticeMap → Ruling → Effect
effect t notices (Ok placed) = record { answer = Done notices; changes = changes_between t (placed_in placed t) }
effect t notices (Err refusal) = record { answer = Refused refusal; changes = [] }

-- the effect of a step, with its notices
abbrev pub taken : NoticeMap × Step → Inquiry Effect
taken told = record {
  conclusion = λ t. effect t told.0 (told.1.conclusion t);
  keys = told.1.keys;
  agreement = effects_agree told.1.conclusion told.1.keys told.1.agreement told.1.looked (λ t. effect t told.0) (record {
    done = λ placed t u same. ap (λ changes. record { answer = Done told.0; changes = changes }) same;
    refused = λ refusal t u. refl;
  });
}

-- What a command looks up in a tree, and what effect that has.
abbrev pub carried_out : Command → Inquiry Effect
carried_out command = command >>= taken
