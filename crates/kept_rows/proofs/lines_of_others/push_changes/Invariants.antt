use Rattle.std.proofs.Common.{◌≡◌, ◌++◌, drop}
use Rattle.script_words.specs.Words.{lines_text}
use Rattle.kept_rows.specs.Lines.{lines_of_others}
use Rattle.kept_rows.proofs.lines_of_others.push_changes.Given as goal

-- the text so far, and the lines of the changes that are left
abbrev pub invariant-loop-change : goal.invariant-loop-change
invariant-loop-change l = l.text.items ++ lines_text (lines_of_others (drop l.change-index l.changes)) ≡ l.fn.text.items ++ lines_text (lines_of_others l.changes)
