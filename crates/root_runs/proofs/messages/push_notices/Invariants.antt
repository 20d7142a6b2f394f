use Rattle.std.proofs.Common.{◌≡◌, ◌++◌}
use Rattle.std.specs.FinMap as map
use Rattle.std.specs.List.{flat_map}
use Rattle.root_runs.specs.Messages.{notice_text}
use Rattle.root_runs.proofs.messages.push_notices.Given as goal

-- the text so far, and that of what is left
abbrev pub invariant-loop-notice : goal.invariant-loop-notice
invariant-loop-notice l = l.out.items ++ flat_map notice_text l.notice-iterator ≡ l.fn.out.items ++ flat_map notice_text (map.values l.notices)
