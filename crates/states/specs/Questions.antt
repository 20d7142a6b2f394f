-- Questions: operations that look things up in a tree and change nothing.
use Rattle.std.specs.Prelude.{[]}
use Rattle.footprint.specs.declared.answer.Answer.{Answer}
use Rattle.footprint.specs.Inquiry.{Inquiry, giving}
use Rattle.footprint.specs.Operations.{Effect}

-- what a question answers, as an effect
abbrev pub asked : Inquiry Answer → Inquiry Effect
asked question = giving question (λ answer. record { answer = answer; changes = [] })
