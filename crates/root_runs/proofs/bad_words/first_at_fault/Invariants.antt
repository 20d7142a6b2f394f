use Rattle.std.proofs.Common.{◌≡◌, drop, map}
use Rattle.root_runs.specs.BadWords.{first_place, is_at_fault, bad_place}
use Rattle.root_runs.proofs.bad_words.first_at_fault.Given as goal

-- no word before the rest is at fault
abbrev pub invariant-loop-place : goal.invariant-loop-place
invariant-loop-place l =
    first_place (is_at_fault l.reason l.verb) l.place (map (λ word. word.now) (drop l.place l.words)) ≡ bad_place l.reason (map (λ word. word.now) l.words)
