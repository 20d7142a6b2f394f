use Rattle.std.proofs.Common.{◌≡◌, false, drop}
use Rattle.std.specs.List.{list_any}
use Rattle.unit_paths.specs.Paths.{is_slash}
use Rattle.unit_paths.proofs.text.cut_at_last_slash.Given as goal

-- no slash from here on
abbrev pub invariant-loop-i : goal.invariant-loop-i
invariant-loop-i l = list_any is_slash (drop l.i l.text) ≡ false
