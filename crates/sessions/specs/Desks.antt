-- Jobs that were issued, and their answers.
use Rattle.std.specs.Prelude.{◌≡◌, ℕ, zero, suc, ◌+◌, Bool, true, if◌then◌else◌, List, [], ◌∷◌, Option, Some, None, slice_get, refl}
use Rattle.std.specs.Str.{bytes_eq}
use Rattle.sessions.specs.declared.desk.Answered.{Answered}
use Rattle.sessions.specs.declared.desk.Issued.{Issued}
use Rattle.sessions.specs.declared.desk.AcceptError.{AcceptError}
use Rattle.sessions.specs.declared.desk.AcceptError.TheVariants.{UnknownJob, Double}

-- the jobs in the order of their numbers, from 1 on, and whether the desk is closed
pub record Jobs : Type 0 where
  pub issued : List Issued
  pub is_shut : Bool

abbrev pub jobs_parts : Jobs → List Issued × Bool
jobs_parts jobs = (jobs.issued, jobs.is_shut)

abbrev pub of_jobs_parts : List Issued × Bool → Jobs
of_jobs_parts (issued, is_shut) = record { issued = issued; is_shut = is_shut }

pub of_own_jobs_parts : (jobs : Jobs) → of_jobs_parts (jobs_parts jobs) ≡ jobs
of_own_jobs_parts jobs = refl

-- the job with a number
abbrev pub job_at : List Issued → ℕ → Option Issued
job_at issued zero = None
job_at issued (suc k) = slice_get issued k

-- why an answer is rejected: its job was never issued, or was issued to another operator; or the
-- job has already been answered
abbrev pub refusal_of : Option Issued → List ℕ → Option AcceptError
refusal_of None operator = Some UnknownJob
refusal_of (Some job) operator = if bytes_eq operator job.operator then (if job.is_answered then Some Double else None) else Some UnknownJob

-- why an answer of this operator to the job of this number is rejected, if it is
abbrev pub refusal : List Issued → ℕ → List ℕ → Option AcceptError
refusal issued number operator = refusal_of (job_at issued number) operator

-- the jobs after the one at this index is answered
abbrev pub mark : List Issued → ℕ → List Issued
mark [] k = []
mark (job ∷ jobs) zero = record { operator = job.operator; is_answered = true } ∷ jobs
mark (job ∷ jobs) (suc k) = job ∷ mark jobs k

-- the jobs after the one of this number is answered
abbrev pub answered_at : List Issued → ℕ → List Issued
answered_at issued zero = issued
answered_at issued (suc k) = mark issued k

-- how many jobs have no answer yet
abbrev pub outstanding : List Issued → ℕ
outstanding [] = 0
outstanding (job ∷ jobs) = if job.is_answered then outstanding jobs else 1 + outstanding jobs

-- the operator of the first job without an answer
abbrev pub first_outstanding : List Issued → Option (List ℕ)
first_outstanding [] = None
first_outstanding (job ∷ jobs) = if job.is_answered then first_outstanding jobs else Some job.operator

-- the operator of an answer if it is rejected, or else the result of what follows
abbrev pub or_refused : Option AcceptError → List ℕ → Option (List ℕ) → Option (List ℕ)
or_refused None operator later = later
or_refused (Some why) operator later = Some operator

-- the operator of the first of these answers that is rejected, or else of the first job that has no
-- answer afterwards
abbrev pub first_amiss : List Issued → List Answered → Option (List ℕ)
first_amiss issued [] = first_outstanding issued
first_amiss issued (answer ∷ answers) = or_refused (refusal issued answer.number answer.operator) answer.operator (first_amiss (answered_at issued answer.number) answers)
