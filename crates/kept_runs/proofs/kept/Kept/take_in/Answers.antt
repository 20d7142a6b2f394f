use Rattle.std.proofs.Common.{◌≡◌, ◌++◌, true, sym, ap, subst, ◌∙◌}
use Rattle.script_words.specs.Words.{lines_text}
use Rattle.kept_rows.specs.Lines.{lines_of_others}
use Rattle.kept_texts.specs.Texts.{are_call_lines}
use Rattle.kept_runs.proofs.Accepted.{lines_of_others_are_accepted}
use Rattle.kept_runs.proofs.kept.Kept.take_in.Goals as goal

pub make_run-requires : goal.make_run-requires
make_run-requires c = record {
  lines = subst (λ text. are_call_lines text ≡ true)
      (sym (c.deref.ensures.value ∙ c.in_ok-push_lines_of_others.ensures.ok ∙ ap (λ text. text ++ lines_text (lines_of_others c.args.changes.now)) c.new-lines.ensures.items))
      (lines_of_others_are_accepted c.args.changes.now c.requires.writable);
}
