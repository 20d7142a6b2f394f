use Rattle.unit_name.specs.Name.{is_unit_name}
use Rattle.unit_script.specs.declared.reason.Reason.TheVariants.{BadName}
use Rattle.unit_script.specs.Words.{name_of, names_of}
use Rattle.unit_script.proofs.WordLists.{reading_fails, reading_goes, reading_ends}
use Rattle.unit_script.proofs.words.names_of.Goals as goal

pub returns-in-Err : goal.returns-in-Err
unfolding name_of names_of
returns-in-Err c = reading_fails is_unit_name BadName (λ word. word.now) _ _ _ c.loop-word.invariant _ c.loop-word-test.true _ c.in-Err.ensures

pub loop-word-preserved : goal.loop-word-preserved
unfolding name_of
loop-word-preserved c = reading_goes is_unit_name BadName (λ word. word.now) _ _ _ c.loop-word.invariant _ c.loop-word-test.true _ _ c.in-Ok.ensures c.in_ok-push-in-Ok.ensures.ok

pub returns : goal.returns
unfolding names_of
returns c = reading_ends is_unit_name BadName (λ word. word.now) _ _ _ c.loop-word.invariant c.loop-word-test.false
