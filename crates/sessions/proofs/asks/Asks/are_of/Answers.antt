use Rattle.std.proofs.Common.{List, sym, subst}
use Rattle.sessions.specs.declared.asks.Ask.{Ask}
use Rattle.sessions.specs.Fed.{AreOf}
use Rattle.sessions.proofs.asks.Asks.are_of.Goals as goal

pub returns-clause-no : goal.returns-clause-no
returns-clause-no g c off all = c.are_of.ensures.no off (subst (λ (asks : List (Ask g.row.O.Denot)). AreOf c.args.operators.now asks) (sym c.as_slice.ensures) all)
