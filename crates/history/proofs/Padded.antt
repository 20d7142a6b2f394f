-- Names in fields of 32 bytes.
use Rattle.std.proofs.Common.{◌≡◌, ◌≤◌, ◌-◌, ℕ, List, ◌++◌, length, take, drop, replicate, ap, ◌∙◌, arith, length-append}
use Rattle.std.proofs.Math.Seq.{take-append_seam}
use Rattle.std.proofs.lemmas.List.{length-replicate, drop-replicate}
use Rattle.history.specs.Operators.{padded}

pub padded_front : (text : List ℕ) → take (length text) (padded text) ≡ text
padded_front text = take-append_seam text (replicate (32 - length text) 0)

pub length-padded : (text : List ℕ) → length text ≤ 32 → length (padded text) ≡ 32
length-padded text short = omega (arith, short, length-append text (replicate (32 - length text) 0), length-replicate {A = ℕ} (32 - length text) 0)

-- a name written over zeros
pub written_over : (text written : List ℕ) → written ≡ text → written ++ drop (length text) (replicate 32 0) ≡ padded text
written_over text written is = ap (λ (w : List ℕ). w ++ drop (length text) (replicate 32 0)) is ∙ ap (λ (zeros : List ℕ). text ++ zeros) (drop-replicate (length text) 32 0)
