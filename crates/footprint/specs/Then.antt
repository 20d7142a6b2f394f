-- Two operations, one after the other.
use Rattle.std.specs.Prelude.{if◌then◌else◌, [], ◌++◌}
use Rattle.unit_file.specs.Notices.{joined}
use Rattle.link_tree.specs.Trees.{Entries}
use Rattle.footprint.specs.declared.answer.Answer.{Answer}
use Rattle.footprint.specs.declared.answer.Answer.TheVariants.{Done}
use Rattle.footprint.specs.declared.outcome.Outcome.{Outcome}
use Rattle.footprint.specs.Inquiry.{Inquiry, over, giving, after, ◌>>=◌}
use Rattle.footprint.specs.Net.{net}
use Rattle.footprint.specs.Operations.{Effect, is_refused}
use Rattle.tree_access.specs.Readings.{keys_of, reading_of}

-- the answer of the second, with the notices of both if both are done
abbrev pub answer_of_both : (first second : Answer) → Answer
answer_of_both (Done notices) (Done more) = Done (joined notices more)
answer_of_both first second = second

-- The effect of both: if the second is refused, the changes of the first are dropped.
abbrev pub effect_of_both : (first second : Effect) → Effect
effect_of_both first second = record {
  answer = answer_of_both first.answer second.answer;
  changes = if is_refused second.answer then [] else net first.changes second.changes;
}

-- What follows the first: nothing if it is refused, else the second on the tree after its changes.
abbrev pub continued : (second : Inquiry Effect) → (first : Effect) → Inquiry Effect
continued second first = if is_refused first.answer then over first else giving (after first.changes second) (effect_of_both first)

-- One after the other. All keys are looked at in the first tree.
abbrev pub followed_by : (first second : Inquiry Effect) → Inquiry Effect
followed_by first second = first >>= continued second

-- For functions that compute the outcome of both on a tree from that of the first there and that of
-- the second on the tree after it.
abbrev pub outcome_of_both : Entries → (first second : Outcome) → Outcome
outcome_of_both t first second = record {
  answer = answer_of_both first.answer second.answer;
  changes = if is_refused second.answer then [] else net first.changes second.changes;
  reading = reading_of (keys_of first.reading ++ keys_of second.reading) t;
}
