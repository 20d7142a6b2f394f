-- Logs of the operators, at most one for each.
use Rattle.std.proofs.Common.{◌≡◌, ℕ, ◌+◌, ◌<◌, ◌≤◌, Bool, true, false, List, [], ◌∷◌, ◌++◌, map, All, length, take, drop, get_or, refl, sym, ap, subst, ◌∙◌}
use Rattle.std.specs.Prelude.{◌||◌}
use Rattle.std.specs.List.{list_any, IsDistinct, AllByRecursion}
use Rattle.std.specs.Str.{bytes_eq}
use Rattle.std.specs.Cmp.Lexicographic.{nat_list_eq_equiv}
use Rattle.std.proofs.lemmas.Bool.{cases_Bool, true≢false}
use Rattle.std.proofs.lemmas.List.{take_all}
use Rattle.std.proofs.lemmas.List.Elements.{All-nil, All-cons, All-append, All-head, All-tail}
use Rattle.std.proofs.lemmas.Map.Keys.{IsDistinct-head, IsDistinct-tail, IsDistinct-push}
use Rattle.shared_admin.specs.declared.log.SessionLog.{SessionLog}
use Rattle.shared_admin.specs.Sharing.{is_among}
use Rattle.shared_admin.specs.Closing.{operators_of, has_log, IsOwnLog, AreOwnLogs, IsFirstStrangeLog}
use Rattle.shared_admin.proofs.Firsts.{cut_at, one_taken, one_of_all}

-- if operators are distinct, none is among those before it
none_before : (before later : List (List ℕ)) (operator : List ℕ) → IsDistinct bytes_eq (before ++ operator ∷ later) → list_any (bytes_eq operator) before ≡ false
none_before [] later operator distinct = refl
none_before (first ∷ before) later operator distinct =
    ap (λ b. b || list_any (bytes_eq operator) before) (nat_list_eq_equiv.symm operator first ∙ there before (IsDistinct-head bytes_eq first (before ++ operator ∷ later) distinct))
    ∙ none_before before later operator (IsDistinct-tail bytes_eq first (before ++ operator ∷ later) distinct)
  where
    there : (between : List (List ℕ)) → AllByRecursion (λ other. bytes_eq first other ≡ false) (between ++ operator ∷ later) → bytes_eq first operator ≡ false
    there [] all = all.0
    there (x ∷ between) all = there between all.1

module _ {O : Type 0} where
  has_its_log : (logs : List (SessionLog O)) (operator : List ℕ) → list_any (bytes_eq operator) (operators_of logs) ≡ has_log logs operator
  has_its_log [] operator = refl
  has_its_log (log ∷ logs) operator = ap (λ b. bytes_eq operator log.operator || b) (has_its_log logs operator)

  of_both : (before later : List (SessionLog O)) → operators_of (before ++ later) ≡ operators_of before ++ operators_of later
  of_both [] later = refl
  of_both (log ∷ before) later = ap (λ os. log.operator ∷ os) (of_both before later)

  pub none_own : (operators : List (List ℕ)) → AreOwnLogs {O = O} operators []
  unfolding IsDistinct
  none_own operators = record { known = All-nil (λ (log : SessionLog O). is_among operators log.operator ≡ true); distinct = tt }

  own_and_one : (operators : List (List ℕ)) (before : List (SessionLog O)) (log : SessionLog O) → AreOwnLogs operators before → IsOwnLog operators before log → AreOwnLogs operators (before ++ log ∷ [])
  own_and_one operators before log own this =
      let P : SessionLog O → Type 0 = (λ (log : SessionLog O). is_among operators log.operator ≡ true) in record {
        known = All-append P before (log ∷ []) own.known (All-cons P log [] this.0 (All-nil P));
        distinct = subst (IsDistinct bytes_eq) (sym (of_both before (log ∷ []))) (IsDistinct-push nat_list_eq_equiv (operators_of before) log.operator own.distinct (has_its_log before log.operator ∙ this.1));
      }

  module _ (operators : List (List ℕ)) (logs : List (SessionLog O)) (place : ℕ) (log : SessionLog O) (is : log ≡ get_or logs place log) (within : place < length logs) (before : AreOwnLogs operators (take place logs)) where
    pub one_own : IsOwnLog operators (take place logs) log → AreOwnLogs operators (take (place + 1) logs)
    one_own this = subst (AreOwnLogs operators) (sym (one_taken logs place log is within)) (own_and_one operators (take place logs) log before this)

    pub first_strange : (¬ IsOwnLog operators (take place logs) log) → (operator : List ℕ) → operator ≡ log.operator → IsFirstStrangeLog operators logs operator
    first_strange off operator its = (take place logs, drop (place + 1) logs, log, cut_at logs place log is within, before, off, sym its)

  pub all_own : (operators : List (List ℕ)) (logs : List (SessionLog O)) (place : ℕ) → length logs ≤ place → AreOwnLogs operators (take place logs) → AreOwnLogs operators logs
  all_own operators logs place through before = subst (AreOwnLogs operators) (take_all place logs through) before

  -- each log is its operator's own among those before it
  pub own_at : (operators : List (List ℕ)) (logs before later : List (SessionLog O)) (log : SessionLog O) → logs ≡ before ++ log ∷ later → AreOwnLogs operators logs → IsOwnLog operators before log
  own_at operators logs before later log cut own =
      let P : SessionLog O → Type 0 = (λ (log : SessionLog O). is_among operators log.operator ≡ true) in (
        one_of_all P logs before later log cut own.known,
        sym (has_its_log before log.operator) ∙ none_before (operators_of before) (operators_of later) log.operator (subst (IsDistinct bytes_eq) (ap operators_of cut ∙ of_both before (log ∷ later)) own.distinct),
      )
