-- Logs in the order of their operators.
use Rattle.std.proofs.Common.{◌≡◌, ℕ, zero, suc, ◌+◌, ◌-◌, ◌<◌, List, [], ◌∷◌, ◌++◌, get_or, length, map, take, Result, Ok, Err, IfOk, refl, sym, ap, subst, ◌∙◌, arith}
use Rattle.shared_admin.specs.declared.log.SessionLog.{SessionLog}
use Rattle.sessions.specs.declared.checking.Fed.{Fed}
use Rattle.sessions.specs.declared.feeding.Served.{Served}
use Rattle.sessions.specs.Runs.{AreInOrder}

take_all : (operators : List (List ℕ)) → take (length operators) operators ≡ operators
take_all [] = refl
take_all (operator ∷ operators) = ap (λ os. operator ∷ os) (take_all operators)

take_one : (operators : List (List ℕ)) (n : ℕ) (operator : List ℕ) → n < length operators → operator ≡ get_or operators n operator → take (suc n) operators ≡ take n operators ++ operator ∷ []
take_one [] n operator within is = absurd (omega arith)
take_one (first ∷ operators) zero operator within is = ap (λ o. o ∷ []) (sym is)
take_one (first ∷ operators) (suc n) operator within is = ap (λ os. first ∷ os) (take_one operators n operator (omega (arith, within)) is)

module _ {O : Type 0} where
  names_then : (logs : List (SessionLog O)) (log : SessionLog O) → map (λ log. log.operator) (logs ++ log ∷ []) ≡ map (λ log. log.operator) logs ++ log.operator ∷ []
  names_then [] log = refl
  names_then (first ∷ logs) log = ap (λ os. first.operator ∷ os) (names_then logs log)

  -- the same logs
  pub in_order_as : (operators : List (List ℕ)) (served logs : List (SessionLog O)) → AreInOrder operators served → logs ≡ served → AreInOrder operators logs
  in_order_as operators served logs order same = subst (λ (ls : List (SessionLog O)). AreInOrder operators ls) (sym same) order

  -- no worker was started before
  pub in_order_from_none : {E : Type 0} (operators : List (List ℕ)) (n : ℕ) (fed : Result (Fed O) E) → n ≡ 0 → IfOk fed (λ fed. AreInOrder (take (length operators - n) operators) fed.logs)
      → IfOk fed (λ fed. AreInOrder operators fed.logs)
  in_order_from_none operators n fed none order =
      let whole : length operators - n ≡ length operators = omega (arith, none) in
      let all : take (length operators - n) operators ≡ operators = ap (λ k. take k operators) whole ∙ take_all operators in
      subst (λ (os : List (List ℕ)). IfOk fed (λ fed. AreInOrder os fed.logs)) all order

  -- all workers were started before
  pub in_order_at_last : {E : Type 0} (operators : List (List ℕ)) (n : ℕ) (fed : Result (Fed O) E) → length operators - n ≡ 0 → IfOk fed (λ fed. fed.logs ≡ [])
      → IfOk fed (λ fed. AreInOrder (take (length operators - n) operators) fed.logs)
  in_order_at_last operators n (Err e) none empty = tt
  in_order_at_last operators n (Ok fed) none empty = ap (map (λ (log : SessionLog O). log.operator)) empty ∙ sym (ap (λ k. take k operators) none)

  -- one more log, of the last operator that had no worker
  pub in_order_then : {E F : Type 0} (operators : List (List ℕ)) (n more left : ℕ) (operator : List ℕ) (first : Result (Fed O) E) (last : Result (Served O) F) (fed all : Fed O) (served : Served O)
      → length operators - n ≡ left → 0 < left → operator ≡ get_or operators (left - 1) operator → more ≡ n + 1 → first ≡ Ok fed → last ≡ Ok served
      → IfOk first (λ fed. AreInOrder (take (length operators - more) operators) fed.logs) → IfOk last (λ served. served.log.operator ≡ operator) → all.logs ≡ fed.logs ++ served.log ∷ []
      → AreInOrder (take (length operators - n) operators) all.logs
  in_order_then operators n more left operator first last fed all served is some at one front here before named added =
      let less : length operators - more ≡ left - 1 = omega (arith, is, some, one) in
      let whole : suc (left - 1) ≡ length operators - n = omega (arith, is, some) in
      let order : AreInOrder (take (length operators - more) operators) fed.logs = subst (λ r. IfOk r (λ fed. AreInOrder (take (length operators - more) operators) fed.logs)) front before in
      let own : served.log.operator ≡ operator = subst (λ r. IfOk r (λ served. served.log.operator ≡ operator)) here named in
      ap (map (λ (log : SessionLog O). log.operator)) added
      ∙ names_then fed.logs served.log
      ∙ ap (λ os. os ++ served.log.operator ∷ []) order
      ∙ ap (λ k. take k operators ++ served.log.operator ∷ []) less
      ∙ ap (λ o. take (left - 1) operators ++ o ∷ []) own
      ∙ sym (take_one operators (left - 1) operator (omega (arith, is, some)) at)
      ∙ ap (λ k. take k operators) whole
