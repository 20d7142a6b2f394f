use Rattle.std.proofs.Common.{drop}
use Rattle.load_path.proofs.Steps.{Goes}
use Rattle.install_section.specs.Closure.{with_words}
use Rattle.install_section.proofs.closing.add_words.Given as goal

abbrev pub invariant-loop-word : goal.invariant-loop-word
invariant-loop-word l = Goes l.tree l.cells (with_words l.unit l.identity (drop l.word-index l.words) l.closed) l.fn.cells (with_words l.unit l.identity l.words l.fn.closed)
