use Rattle.std.proofs.Common.{◌∙◌}
use Rattle.arguments.proofs.Readings.{flag_asked, error_unknown}
use Rattle.arguments.proofs.words.arguments_of.Goals as goal

-- if the arguments are read, the flag is what they request
pub returns-in-Ok-clause-asked : goal.returns-in-Ok-clause-asked
returns-in-Ok-clause-asked c =
    flag_asked _ _ c.in-Ok.matches c.get_flag.result c.in_ok-command.ensures c.in-Ok.ensures.matches c.in-Ok.ensures.kinds
    c.get_flag.ensures.value c.get_flag.ensures.other

-- an error other than out of memory occurs only for invalid arguments
pub returns : goal.returns
returns c =
    record {
      asked = tt;
      refused = λ _. error_unknown _ _ c.in-Err.e c.in_ok-command.ensures c.in-Err.ensures.kinds
          (λ memory. c.in_default.not-OutOfMemory (c.kind.ensures ∙ memory));
    }
