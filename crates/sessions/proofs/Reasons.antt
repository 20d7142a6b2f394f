-- Why a run isn't closed.
use Rattle.std.proofs.Common.{◌≡◌, ℕ, Bool, List, [], Result, Err, sym, subst}
use Rattle.std.specs.Result.{IfErr}
use Rattle.link_tree.specs.Trees.{Entries}
use Rattle.footprint.specs.Inquiry.{Inquiry}
use Rattle.footprint.specs.Operations.{Effect}
use Rattle.history.specs.Logs.{Log}
use Rattle.history.specs.Rows.{run, calls_of}
use Rattle.shared_admin.specs.declared.log.SessionLog.{SessionLog}
use Rattle.shared_admin.specs.declared.close.Unclosed.{Unclosed}
use Rattle.shared_admin.specs.declared.shared.OpenError.{OpenError}
use Rattle.shared_admin.specs.declared.shared.OpenError.TheVariants as opens
use Rattle.shared_admin.specs.Sharing.{MayShare, IsUnshared, Opening}
use Rattle.shared_admin.specs.Closing.{IsClosed, IsFault}
use Rattle.sessions.specs.declared.faults.RunError.{RunError}
use Rattle.sessions.specs.declared.faults.WorkFault.{WorkFault}
use Rattle.sessions.specs.declared.faults.WorkFault.TheVariants as faults
use Rattle.sessions.specs.Faults.{of_open, of_worker, IsRunError, IfUnclosed, IsUnclosed}

abbrev pub opening : Entries → List (List ℕ) → Opening
opening tree operators = record { first = tree; operators = operators }

module _ {O : Type 0} (asks : O → Bool) (meaning : O → Inquiry Effect) where
  -- what closing a shared history reports, given its tree and its operators
  pub unclosed : (given : Opening) (tree : Entries) (operators : List (List ℕ)) (logs : List (SessionLog O)) (left : Unclosed (Log O) (List (SessionLog O)))
      → given ≡ opening tree operators → left.logs ≡ logs
      → IsFault given.first given.operators logs left.history left.fault → (¬ IsClosed given.first given.operators logs left.history)
      → left.history.rows ≡ run asks meaning left.history.first [] (calls_of left.history.rows) → IsUnclosed asks meaning tree operators left
  unclosed given tree operators logs left opened same fault off legal =
      let here : IsFault tree operators logs left.history left.fault = subst (λ (o : Opening). IsFault o.first o.operators logs left.history left.fault) opened fault in
      let not_here : ¬ IsClosed tree operators logs left.history = subst (λ (o : Opening). ¬ IsClosed o.first o.operators logs left.history) opened off in record {
        unclosed = (
          subst (λ (ls : List (SessionLog O)). IsFault tree operators ls left.history left.fault) (sym same) here,
          subst (λ (ls : List (SessionLog O)). ¬ IsClosed tree operators ls left.history) (sym same) not_here,
        );
        legal = legal;
      }

module _ {H L : Type 0} where
  -- what an error means: when it is reported, and what is returned
  abbrev pub IsSaid : List (List ℕ) → (Unclosed H L → Type 0) → RunError H L → Type 0
  IsSaid operators P why = IsRunError operators why × IfUnclosed why P

  pub unopened : (operators : List (List ℕ)) (P : Unclosed H L → Type 0) (why : OpenError) → IsUnshared operators why → IsSaid operators P (of_open why)
  unopened operators P opens.TooManySessions said = (said, tt)
  unopened operators P opens.SameOperator said = (said, tt)
  unopened operators P opens.OutOfMemory said = (said, tt)

  pub unserved : (operators : List (List ℕ)) (P : Unclosed H L → Type 0) (fault : WorkFault) → MayShare operators → IsSaid operators P (of_worker fault)
  unserved operators P faults.NoWorker may = (may, tt)
  unserved operators P faults.Full may = (may, tt)
  unserved operators P faults.OutOfMemory may = (may, tt)

  -- an error made from the workers' error
  pub told_of_worker : {A : Type 0} → (operators : List (List ℕ)) (P : Unclosed H L → Type 0) (r : Result A (RunError H L)) (fault : WorkFault) → MayShare operators → r ≡ Err (of_worker fault) → IfErr r (λ why. IsRunError operators why) × IfErr r (λ why. IfUnclosed why P)
  told_of_worker operators P r fault may is = subst (λ r. IfErr r (λ why. IsRunError operators why) × IfErr r (λ why. IfUnclosed why P)) (sym is) (unserved operators P fault may)

  -- an error made from the reason why a history can't be shared
  pub told_of_open : {A : Type 0} → (operators : List (List ℕ)) (P : Unclosed H L → Type 0) (r : Result A (RunError H L)) (why : OpenError) → IsUnshared operators why → r ≡ Err (of_open why) → IfErr r (λ why. IsRunError operators why) × IfErr r (λ why. IfUnclosed why P)
  told_of_open operators P r why said is = subst (λ r. IfErr r (λ why. IsRunError operators why) × IfErr r (λ why. IfUnclosed why P)) (sym is) (unopened operators P why said)
