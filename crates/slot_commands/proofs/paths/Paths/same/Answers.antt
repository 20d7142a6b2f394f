use Rattle.std.proofs.Common.{◌∙◌}
use Rattle.std.specs.Cmp.Lexicographic.{pointwise}
use Rattle.std.specs.Str.{bytes_eq}
use Rattle.std.proofs.lemmas.Slice.Eq.{slice_eq-Decides, bytes_eq-Decides}
use Rattle.slot_commands.proofs.paths.Paths.same.Goals as goal

pub returns : goal.returns
returns c = slice_eq-Decides bytes_eq-Decides c.args.self.now c.args.other.now c.eq.result (c.eq.ensures ∙ (λ i. pointwise bytes_eq (c.as_slice.ensures i) (c.as_slice-2.ensures i)))
