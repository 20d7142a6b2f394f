use Rattle.std.proofs.Common.{◌≡◌, length, take, map}
use Rattle.kept_texts.specs.Values.{form_of}
use Rattle.kept_texts.proofs.time.form_of_all.Given as goal

-- the form of the bytes so far
abbrev pub invariant-loop-i : goal.invariant-loop-i
invariant-loop-i l = (length l.form ≡ 20) × (take l.i l.form ≡ map form_of (take l.i l.text))
