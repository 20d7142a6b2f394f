use Rattle.unit_paths.specs.Paths.{is_path}
use Rattle.unit_script.specs.declared.reason.Reason.TheVariants.{BadPath}
use Rattle.unit_script.specs.Words.{path_of, paths_of}
use Rattle.unit_script.proofs.WordLists.{reading_fails, reading_goes, reading_ends}
use Rattle.unit_script.proofs.words.paths_of.Goals as goal

pub returns-in-Err : goal.returns-in-Err
unfolding path_of paths_of
returns-in-Err c = reading_fails is_path BadPath (λ word. word.now) _ _ _ c.loop-word.invariant _ c.loop-word-test.true _ c.in-Err.ensures

pub loop-word-preserved : goal.loop-word-preserved
unfolding path_of
loop-word-preserved c = reading_goes is_path BadPath (λ word. word.now) _ _ _ c.loop-word.invariant _ c.loop-word-test.true _ _ c.in-Ok.ensures c.in_ok-push-in-Ok.ensures.ok

pub returns : goal.returns
unfolding paths_of
returns c = reading_ends is_path BadPath (λ word. word.now) _ _ _ c.loop-word.invariant c.loop-word-test.false
