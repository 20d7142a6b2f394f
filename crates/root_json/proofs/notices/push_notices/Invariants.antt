use Rattle.std.proofs.Common.{◌≡◌, ◌++◌, map}
use Rattle.serde_json.specs.View.{view}
use Rattle.root_json.specs.Answers.{notice_data}
use Rattle.root_json.proofs.notices.push_notices.Given as goal

-- with the notices that are left, the values are all that there will be
abbrev pub invariant-loop-notice : goal.invariant-loop-notice
invariant-loop-notice l = map view l.values.items ++ map notice_data l.notice-iterator ≡ map view l.initial.values.items ++ map notice_data l.initial.notice-iterator
