use Rattle.kept_runs.proofs.saying.says.Goals as goal

pub returns-in-Ok-clause-yes : goal.returns-in-Ok-clause-yes
returns-in-Ok-clause-yes c = λ yes. c.is_input_of.ensures.yes yes c.args.text.now (c.in-Ok.ensures.input c.args.text.now c.new.ensures.left)

pub returns-in-Ok-clause-no : goal.returns-in-Ok-clause-no
returns-in-Ok-clause-no c = λ says. c.is_input_of.ensures.no c.args.text.now (c.in-Ok.ensures.input c.args.text.now c.new.ensures.left) says
