use Rattle.std.proofs.Common.{◌≡◌, ◌++◌, drop}
use Rattle.kept_texts.specs.Texts.{begun_text, begun_parts, runs_text, with_runs}
use Rattle.kept_texts.proofs.text.KeptText.with_first.Given as goal

-- the text so far, and the runs that are left
abbrev pub invariant-loop-run : goal.invariant-loop-run
invariant-loop-run l =
    (l.text.bytes.items ++ runs_text l.text.parts (drop l.run-index l.run-items)
    ≡ begun_text l.fn.first l.fn.self.parts.header ++ runs_text (begun_parts l.fn.first l.fn.self.parts.header) l.run-items)
    × (with_runs l.text.parts (drop l.run-index l.run-items)
    ≡ with_runs (begun_parts l.fn.first l.fn.self.parts.header) l.run-items)
