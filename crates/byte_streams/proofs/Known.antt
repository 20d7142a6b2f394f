-- Known bytes across several calls.
use Rattle.std.proofs.Common.{◌≡◌, ℕ, ◌+◌, List, ◌++◌, Option, None, Some, refl, ap, ◌∙◌, take, drop, inl, inr, arith}
use Rattle.std.specs.Io.KnownBytes.{Keeps, Appends}
use Rattle.byte_streams.specs.Streams.{HasCause, IsCalm, one_more}
use Rattle.byte_streams.specs.declared.counters.Counters.{Counters}
use Rattle.std.proofs.Math.Seq.{take-add}
use Rattle.std.proofs.KnownBytes.{Keeps-refl, Keeps-trans, Appends-nil}

pub kept_then_appends : (a b c : Option (List ℕ)) (bs : List ℕ) → Keeps a b → Appends b c bs → Appends a c bs
kept_then_appends None b c bs p q = tt
kept_then_appends (Some x) None c bs p q = absurd p
kept_then_appends (Some x) (Some y) None bs p q = absurd q
kept_then_appends (Some x) (Some y) (Some z) bs p q = q ∙ ap (λ l. l ++ bs) p

pub appends_then_kept : (a b c : Option (List ℕ)) (bs : List ℕ) → Appends a b bs → Keeps b c → Appends a c bs
appends_then_kept None b c bs p q = tt
appends_then_kept (Some x) None c bs p q = absurd p
appends_then_kept (Some x) (Some y) None bs p q = absurd q
appends_then_kept (Some x) (Some y) (Some z) bs p q = q ∙ p

pub calm_refl : (c : Counters) → IsCalm c c
calm_refl c = record {
  failures = refl;
  interruptions = omega arith;
  longest_row = omega arith;
}

pub calm_trans : (a b c : Counters) → IsCalm a b → IsCalm b c → IsCalm a c
calm_trans a b c p q = record {
  failures = q.failures ∙ p.failures;
  interruptions = omega (arith, p.interruptions, q.interruptions);
  longest_row = omega (arith, p.interruptions, p.longest_row, q.longest_row);
}

pub cause_after_calm : (a b c : Counters) → IsCalm a b → HasCause b c → HasCause a c
cause_after_calm a b c p (inl failed) = inl (failed ∙ ap one_more p.failures)
cause_after_calm a b c p (inr interrupted) = inr interrupted

pub ruleset known = (Keeps-refl, Keeps-trans, kept_then_appends, appends_then_kept, Appends-nil, calm_refl, calm_trans, cause_after_calm)

pub take_on : (xs : List ℕ) (m n : ℕ) → take (m + n) xs ≡ take m xs ++ take n (drop m xs)
take_on xs m n = take-add m n xs
