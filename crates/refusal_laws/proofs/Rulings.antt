-- A command is refused exactly if what its step rules is.
use Rattle.std.proofs.Common.{◌≡◌, ℕ, List, Option, Ok, Err, Result, ap}
use Rattle.unit_file.specs.Notices.{NoticeMap}
use Rattle.link_tree.specs.declared.entry.Entry.{Entry}
use Rattle.link_tree.specs.Trees.{Entries}
use Rattle.footprint.specs.declared.answer.Answer.TheVariants.{Refused}
use Rattle.tree_access.specs.declared.refusal.Refusal.{Refusal}
use Rattle.tree_access.specs.Placing.{Ruling, ruled_at}
use Rattle.footprint.specs.Commands.{effect}

-- what a step rules if it is refused
abbrev pub refused : Refusal → Ruling
refused refusal = Err refusal

pub same_refusal : (one other : Refusal) → refused one ≡ refused other → one ≡ other
same_refusal one other is = cc

module _ (t : Entries) (notices : NoticeMap) (refusal : Refusal) where
  pub ruling_refused : (ruling : Ruling) → (effect t notices ruling).answer ≡ Refused refusal → ruling ≡ Err refusal
  ruling_refused (Ok placed) is = cc
  ruling_refused (Err other) is = let same : other ≡ refusal = cc in ap refused same

  pub refused_ruling : (ruling : Ruling) → ruling ≡ Err refusal → (effect t notices ruling).answer ≡ Refused refusal
  refused_ruling ruling is = ap (λ (ruling : Ruling). (effect t notices ruling).answer) is

-- a rule for one path
module _ (path : List ℕ) (refusal : Refusal) where
  pub rule_refused : (result : Result (Option Entry) Refusal) → ruled_at path result ≡ Err refusal → result ≡ Err refusal
  rule_refused (Ok entry) is = cc
  rule_refused (Err other) is = let same : other ≡ refusal = cc in ap (λ (why : Refusal). Err why) same

  pub refused_rule : (result : Result (Option Entry) Refusal) → result ≡ Err refusal → ruled_at path result ≡ Err refusal
  refused_rule result is = ap (ruled_at path) is
