-- What workers serve, one after another.
use Rattle.std.proofs.Common.{◌≡◌, ℕ, true, false, List, [], ◌∷◌, ◌++◌, All, Result, Ok, IfOk, map, refl, sym, ap, subst, ◌∙◌, cond}
use Rattle.std.specs.List.{IsDistinct, AllByRecursion}
use Rattle.std.specs.Str.{bytes_eq}
use Rattle.std.specs.Cmp.Lexicographic.{nat_list_eq_equiv}
use Rattle.std.proofs.lemmas.List.Elements.{All-head, All-tail, All-nil, All-cons}
use Rattle.std.proofs.lemmas.Map.Keys.{IsDistinct-head, IsDistinct-tail}
use Rattle.std.proofs.lemmas.Slice.Eq.{bytes_eq-Decides}
use Rattle.link_tree.specs.Trees.{Entries}
use Rattle.history.specs.Logs.{Log}
use Rattle.history.specs.declared.row.Row.{Row}
use Rattle.shared_admin.specs.declared.log.LogEntry.{LogEntry}
use Rattle.shared_admin.specs.declared.log.SessionLog.{SessionLog}
use Rattle.shared_admin.specs.Sharing.{Opening}
use Rattle.shared_admin.specs.Closing.{Numbered, rows_of, entries_of, AreTold, IsTold, IsClosed}
use Rattle.sessions.specs.Sessions.{requests_of}
use Rattle.sessions.specs.declared.works.Work.{Work}
use Rattle.sessions.specs.Runs.{IsWorkOf, AreWorkOf, AreInOrder, operators_of, HoldsWork, HasRun}

module _ {O : Type 0} where
  one_more : (works : List (Work O)) (logs : List (SessionLog O)) (work : Work O) (log : SessionLog O) → AreWorkOf works logs → IsWorkOf work.operator work.requests log
      → AreWorkOf (works ++ work ∷ []) (logs ++ log ∷ [])
  one_more [] [] work log are is = (is, tt)
  one_more [] (l ∷ ls) work log are is = absurd are
  one_more (w ∷ ws) [] work log are is = absurd are
  one_more (w ∷ ws) (l ∷ ls) work log are is = (are.0, one_more ws ls work log are.1 is)

  -- the logs of all but the last worker, and the last worker's
  pub gathered_are : {E F : Type 0} (works all : List (Work O)) (work : Work O) (before : Result (List (SessionLog O)) E) (last : Result (SessionLog O) F) (logs : List (SessionLog O)) (log : SessionLog O) (after : List (SessionLog O))
      → all ≡ works ++ work ∷ [] → before ≡ Ok logs → last ≡ Ok log → IfOk before (λ ls. AreWorkOf works ls) → IfOk last (λ l. IsWorkOf work.operator work.requests l) → after ≡ logs ++ log ∷ []
      → AreWorkOf all after
  gathered_are works all work before last logs log after split is also front here added =
      let front' = subst (λ b. IfOk b (λ ls. AreWorkOf works ls)) is front in
      let here' = subst (λ l. IfOk l (λ l. IsWorkOf work.operator work.requests l)) also here in
      subst (λ (ls : List (SessionLog O)). AreWorkOf all ls) (sym added) (subst (λ (ws : List (Work O)). AreWorkOf ws (logs ++ log ∷ [])) (sym split) (one_more works logs work log front' here'))

  in_order : (works : List (Work O)) (logs : List (SessionLog O)) → AreWorkOf works logs → AreInOrder (operators_of works) logs
  in_order [] [] are = refl
  in_order [] (log ∷ logs) are = absurd are
  in_order (work ∷ works) [] are = absurd are
  in_order (work ∷ works) (log ∷ logs) are = λ i. are.0.0 i ∷ in_order works logs are.1 i

  -- the same for logs that are returned
  pub in_order_back : (works : List (Work O)) (served logs : List (SessionLog O)) → AreWorkOf works served → logs ≡ served → AreInOrder (operators_of works) logs
  in_order_back works served logs are same = subst (λ (ls : List (SessionLog O)). AreInOrder (operators_of works) ls) (sym same) (in_order works served are)

  pub told_requests : (entries : List (LogEntry O)) (rows : List (Numbered O)) → AreTold entries rows → requests_of entries ≡ map (λ row. row.1.request) rows
  told_requests [] [] told = refl
  told_requests [] (row ∷ rows) told = absurd told
  told_requests (entry ∷ entries) [] told = absurd told
  told_requests (entry ∷ entries) (row ∷ rows) told = λ i. told.0.request i ∷ told_requests entries rows told.1 i

  -- the entries of the operator's log match its requests
  abbrev IsFound : List (SessionLog O) → Work O → Type 0
  IsFound logs work = requests_of (entries_of logs work.operator) ≡ work.requests

  found_later : (log : SessionLog O) (logs : List (SessionLog O)) (works : List (Work O)) → AllByRecursion (λ other. bytes_eq log.operator other ≡ false) (operators_of works) → All (IsFound logs) works → All (IsFound (log ∷ logs)) works
  found_later log logs [] away found = All-nil (IsFound (log ∷ logs))
  found_later log logs (work ∷ works) away found =
      let off : bytes_eq work.operator log.operator ≡ false = nat_list_eq_equiv.symm work.operator log.operator ∙ away.0 in
      All-cons (IsFound (log ∷ logs)) work works
      (ap (λ b. requests_of (cond b log.entries (entries_of logs work.operator))) off ∙ All-head (IsFound logs) work works found)
      (found_later log logs works away.1 (All-tail (IsFound logs) work works found))

  found : (works : List (Work O)) (logs : List (SessionLog O)) → AreWorkOf works logs → IsDistinct bytes_eq (operators_of works) → All (IsFound logs) works
  found [] logs are once = All-nil (IsFound logs)
  found (work ∷ works) [] are once = absurd are
  found (work ∷ works) (log ∷ logs) are once =
      let here : bytes_eq work.operator log.operator ≡ true = (bytes_eq-Decides work.operator log.operator).1 (sym are.0.0) in
      let away = subst (λ (o : List ℕ). AllByRecursion (λ other. bytes_eq o other ≡ false) (operators_of works)) (sym are.0.0) (IsDistinct-head bytes_eq work.operator (operators_of works) once) in
      All-cons (IsFound (log ∷ logs)) work works
      (ap (λ b. requests_of (cond b log.entries (entries_of logs work.operator))) here ∙ are.0.1)
      (found_later log logs works away (found works logs are.1 (IsDistinct-tail bytes_eq work.operator (operators_of works) once)))

  both : (logs : List (SessionLog O)) (rows : List (Row O)) (works : List (Work O)) → All (IsFound logs) works → All (IsTold logs rows) (operators_of works) → All (HoldsWork rows) works
  both logs rows [] found told = All-nil (HoldsWork rows)
  both logs rows (work ∷ works) found told =
      All-cons (HoldsWork rows) work works
      (sym (told_requests (entries_of logs work.operator) (rows_of work.operator 1 rows) (All-head (IsTold logs rows) work.operator (operators_of works) told)) ∙ All-head (IsFound logs) work works found)
      (both logs rows works (All-tail (IsFound logs) work works found) (All-tail (IsTold logs rows) work.operator (operators_of works) told))

  -- a closed run of workers
  has_run : (tree : Entries) (works : List (Work O)) (history : Log O) (logs : List (SessionLog O)) → AreWorkOf works logs → IsDistinct bytes_eq (operators_of works) → IsClosed tree (operators_of works) logs history → HasRun tree works history logs
  has_run tree works history logs are once closed = record { closed = closed; work = both logs history.rows works (found works logs are once) closed.told }

  -- the same for a shared history with this tree and the work's operators
  pub has_run_of : (opening : Opening) (tree : Entries) (operators : List (List ℕ)) (works : List (Work O)) (history : Log O) (served logs : List (SessionLog O))
      → opening ≡ record { first = tree; operators = operators } → operators ≡ operators_of works → IsDistinct bytes_eq operators → AreWorkOf works served → logs ≡ served
      → IsClosed opening.first opening.operators served history → HasRun tree works history logs
  has_run_of opening tree operators works history served logs opened are once served_are same closed =
      let here : IsClosed tree (operators_of works) served history =
      subst (λ (os : List (List ℕ)). IsClosed tree os served history) are (subst (λ (o : Opening). IsClosed o.first o.operators served history) opened closed) in
      subst (λ (ls : List (SessionLog O)). HasRun tree works history ls) (sym same)
      (has_run tree works history served served_are (subst (λ (os : List (List ℕ)). IsDistinct bytes_eq os) are once) here)
