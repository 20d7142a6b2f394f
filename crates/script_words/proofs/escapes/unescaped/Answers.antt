use Rattle.std.proofs.Common.{ap, sym, ◌∙◌}
use Rattle.script_words.proofs.EscapedTexts.{reading_fails, escape_read, backslash_read, other_read, reading_stays_open, reading_ends}
use Rattle.script_words.proofs.escapes.unescaped.Goals as goal
use Rattle.script_words.proofs.escapes.unescaped.Goals.{then-behind_backslash+in-Some+in_ok-push-in-Some, else-behind_backslash+then-is_backslash, else-behind_backslash+else-is_backslash+in_ok-push}

pub returns-in-None : goal.returns-in-None
returns-in-None c = reading_fails _ _ _ _ c.loop-b.invariant c.loop-b-test.true c.if-behind_backslash.true (sym c.meant.ensures ∙ c.in-None.is)

pub loop-b-preserved : goal.loop-b-preserved
loop-b-preserved c = elim c.if-behind_backslash.branch [
  | then-behind_backslash+in-Some+in_ok-push-in-Some w ↦ escape_read _ _ _ _ c.loop-b.invariant c.loop-b-test.true _ _ _ w.if-behind_backslash.true (sym w.meant.ensures ∙ w.in-Some.is) (ap (λ v. v.items) w.bytes-is ∙ w.in_ok-push-in-Some.ensures.items) w.behind_backslash-is
  | else-behind_backslash+then-is_backslash w ↦ backslash_read _ _ _ _ c.loop-b.invariant c.loop-b-test.true _ _ w.if-behind_backslash.false (sym w.is_backslash.ensures ∙ w.if-is_backslash.true) (ap (λ v. v.items) w.bytes-is) w.behind_backslash-is
  | else-behind_backslash+else-is_backslash+in_ok-push w ↦ other_read _ _ _ _ c.loop-b.invariant c.loop-b-test.true _ _ w.if-behind_backslash.false (sym w.is_backslash.ensures ∙ w.if-is_backslash.false) (ap (λ v. v.items) w.bytes-is ∙ w.in_ok-push.ensures.items) (w.behind_backslash-is ∙ w.if-behind_backslash.false)
]

pub returns-then-behind_backslash-2 : goal.returns-then-behind_backslash-2
returns-then-behind_backslash-2 c = reading_stays_open _ _ _ _ c.loop-b.invariant c.loop-b-test.false c.if-behind_backslash-2.true

pub returns : goal.returns
returns c = reading_ends _ _ _ _ c.loop-b.invariant c.loop-b-test.false c.if-behind_backslash-2.false
