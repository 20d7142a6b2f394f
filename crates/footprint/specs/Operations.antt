-- What an operation means, and the laws that it obeys.
use Rattle.std.specs.Prelude.{◌≡◌, ◌≢◌, Bool, true, false, List, [], map as list_map, All, Contains}
use Rattle.std.specs.List.Sorted.{IsStrictlySortedBy}
use Rattle.link_tree.specs.declared.change.Change.{Change}
use Rattle.link_tree.specs.Trees.{path_cmp, Entries, AreFrom}
use Rattle.footprint.specs.declared.answer.Answer.{Answer}
use Rattle.footprint.specs.declared.answer.Answer.TheVariants.{Done, Refused}
use Rattle.tree_access.specs.declared.key.Key.TheVariants.{Cell}
use Rattle.footprint.specs.declared.outcome.Outcome.{Outcome}
use Rattle.footprint.specs.Inquiry.{Inquiry}
use Rattle.tree_access.specs.Readings.{reading_of}

-- what an operation answers, and what it changes
pub record Effect : Type 0 where
  pub answer : Answer
  pub changes : List Change

abbrev pub is_refused : Answer → Bool
is_refused (Refused refusal) = true
is_refused answer = false

abbrev pub is_question : Answer → Bool
is_question (Done notices) = false
is_question (Refused refusal) = false
is_question answer = true

-- The outcome of an operation in a tree, given its inquiry: its effect, and the reading of the tree
-- by its keys.
abbrev pub outcome_of : {O : Type 0} → (O → Inquiry Effect) → O → Entries → Outcome
outcome_of meaning c t = record {
  answer = ((meaning c).conclusion t).answer;
  changes = ((meaning c).conclusion t).changes;
  reading = reading_of ((meaning c).keys t) t;
}

-- Changes of a tree: each from what is there to something else, in byte order of their paths, each
-- path once.
pub record AreChanges (t : Entries) (changes : List Change) : Type 0 where
  pub from : AreFrom t changes
  pub real : All (λ change. change.before ≢ change.after) changes
  pub in_order : IsStrictlySortedBy path_cmp (list_map (λ change. change.path) changes)

-- The laws of operations, stated for what they look up in trees and for whether they are questions.
-- That each does the same in trees that agree on what it looks at is part of its inquiry.
pub record OperationLaws {O : Type 0} (asks_only : O → Bool) (meaning : O → Inquiry Effect) : Type 0 where
  -- it looks at each cell that it changes
  pub confinement : (c : O) (t : Entries) → All (λ change. Contains ((meaning c).keys t) (Cell change.path)) ((meaning c).conclusion t).changes
  -- its changes start from what is in the tree
  pub changes : (c : O) (t : Entries) → AreChanges t ((meaning c).conclusion t).changes
  -- a refusal changes nothing
  pub refusal : (c : O) (t : Entries) → is_refused ((meaning c).conclusion t).answer ≡ true → ((meaning c).conclusion t).changes ≡ []
  -- nor does a question
  pub question : (c : O) (t : Entries) → asks_only c ≡ true → ((meaning c).conclusion t).changes ≡ []
