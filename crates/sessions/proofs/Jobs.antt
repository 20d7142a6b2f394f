-- An answer that is accepted.
use Rattle.std.proofs.Common.{◌≡◌, ℕ, zero, suc, ◌-◌, ◌<◌, ◌≤◌, Bool, true, false, List, [], ◌∷◌, Some, None, length, slice_get, get_or, set, refl, sym, ap, subst, ◌∙◌, cond, arith}
use Rattle.std.proofs.lemmas.Option.{slice_get_read}
use Rattle.std.specs.Str.{bytes_eq}
use Rattle.sessions.specs.declared.desk.Issued.{Issued}
use Rattle.sessions.specs.declared.desk.AcceptError.TheVariants.{UnknownJob, Double}
use Rattle.sessions.specs.Desks.{Jobs, refusal, refusal_of, mark, answered_at}

abbrev answered : Issued → Issued
answered job = record { operator = job.operator; is_answered = true }

mark_is : (issued : List Issued) (k : ℕ) (job : Issued) → slice_get issued k ≡ Some job → set issued k (answered job) ≡ mark issued k
mark_is [] k job there = cc
mark_is (j ∷ js) zero job there = (let same : j ≡ job = cc in ap (λ x. answered x ∷ js) (sym same))
mark_is (j ∷ js) (suc k) job there = ap (λ rest. j ∷ rest) (mark_is js k job there)

pub taken : (issued : List Issued) (number : ℕ) (operator : List ℕ) (job : Issued) → 0 < number → number ≤ length issued → job ≡ get_or issued (number - 1) job
    → bytes_eq operator job.operator ≡ true → job.is_answered ≡ false → (refusal issued number operator ≡ None) × (set issued (number - 1) (answered job) ≡ answered_at issued number)
taken issued zero operator job some within is here pending = absurd (omega arith)
taken issued (suc k) operator job some within is here pending =
    let one : suc k - 1 ≡ k = omega arith in
    let there : slice_get issued k ≡ Some job = slice_get_read issued (length issued) k job refl (omega arith) (is ∙ ap (λ n. get_or issued n job) one) in (
      ap (λ o. refusal_of o operator) there ∙ ap (λ b. cond b (cond job.is_answered (Some Double) None) (Some UnknownJob)) here ∙ ap (λ b. cond b (Some Double) None) pending,
      ap (λ n. set issued n (answered job)) one ∙ mark_is issued k job there,
    )

abbrev pub jobs_of : List Issued → Bool → Jobs
jobs_of issued is_shut = record { issued = issued; is_shut = is_shut }

pub taken_seen : (issued : List Issued) (is_shut : Bool) (seen : Jobs) (number : ℕ) (operator : List ℕ) (job : Issued) → jobs_of issued is_shut ≡ seen → 0 < number → number ≤ length issued → job ≡ get_or issued (number - 1) job
    → bytes_eq operator job.operator ≡ true → job.is_answered ≡ false
    → (refusal seen.issued number operator ≡ None) × (jobs_of (set issued (number - 1) (answered job)) is_shut ≡ jobs_of (answered_at seen.issued number) seen.is_shut)
taken_seen issued is_shut seen number operator job view some within is here pending =
    let one = taken issued number operator job some within is here pending in
    subst (λ (jobs : Jobs). (refusal jobs.issued number operator ≡ None) × (jobs_of (set issued (number - 1) (answered job)) is_shut ≡ jobs_of (answered_at jobs.issued number) jobs.is_shut)) view
    (one.0, ap (λ js. jobs_of js is_shut) one.1)
