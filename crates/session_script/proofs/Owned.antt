-- Rows of sessions that served calls: each operator's rows are those of its calls, even if it has
-- none.
use Rattle.std.proofs.Common.{◌≡◌, ℕ, ◌+◌, Bool, true, false, ◌||◌, List, [], ◌∷◌, ◌++◌, map, All, refl, sym, ap, subst, ◌∙◌, cond, inl, inr}
use Rattle.std.specs.Prelude.{IsTrue}
use Rattle.std.specs.Str.{bytes_eq}
use Rattle.std.proofs.lemmas.Bool.{cases_Bool, true≢false}
use Rattle.std.proofs.lemmas.List.Elements.{All-nil, All-cons, All-head, All-tail}
use Rattle.std.proofs.lemmas.Slice.Eq.{bytes_eq-Decides}
use Rattle.link_tree.specs.Trees.{Entries}
use Rattle.history.specs.Logs.{Log}
use Rattle.history.specs.declared.row.Row.{Row}
use Rattle.shared_admin.specs.Closing.{rows_of, IsOwnRow}
use Rattle.shared_admin.specs.Sharing.{is_among}
use Rattle.shared_admin.specs.declared.log.SessionLog.{SessionLog}
use Rattle.sessions.specs.Fed.{AreOf, asked, HoldsAsked, HasFed}
use Rattle.sessions.specs.Runs.{requests_in}
use Rattle.sessions.specs.declared.asks.Ask.{Ask}
use Rattle.unit_script.specs.declared.action.Action.{Action}
use Rattle.unit_script.specs.declared.call.Call.{Call}
use Rattle.session_script.specs.Served.{operators_of, asks_of}

-- what holds for each operator holds for one of them
of_one : (P : List ℕ → Type 0) (operators : List (List ℕ)) (operator : List ℕ) → is_among operators operator ≡ true → All P operators → P operator
of_one P [] operator there all = absurd (true≢false (sym there))
of_one P (first ∷ operators) operator there all = elim (cases_Bool (bytes_eq operator first)) [
  | inl here ↦ subst P (sym ((bytes_eq-Decides operator first).0 here)) (All-head P first operators all)
  | inr away ↦ of_one P operators operator (sym (ap (λ b. b || is_among operators operator) away) ∙ there) (All-tail P first operators all)
]

module _ (operators : List (List ℕ)) (operator : List ℕ) (off : is_among operators operator ≡ false) where
  other : (one : List ℕ) → is_among operators one ≡ true → bytes_eq operator one ≡ false
  other one there = elim (cases_Bool (bytes_eq operator one)) [
    | inl here ↦ absurd (true≢false (sym there ∙ sym (ap (is_among operators) ((bytes_eq-Decides operator one).0 here)) ∙ off))
    | inr away ↦ away
  ]

  no_rows : (rows : List (Row Action)) (n : ℕ) → All (IsOwnRow operators) rows → rows_of operator n rows ≡ []
  no_rows [] n own = refl
  no_rows (row ∷ rows) n own =
      ap (λ b. cond b ((n, row) ∷ rows_of operator (n + 1) rows) (rows_of operator (n + 1) rows)) (other row.operator (All-head (IsOwnRow operators) row rows own))
      ∙ no_rows rows (n + 1) (All-tail (IsOwnRow operators) row rows own)

  none_asked : (asks : List (Ask Action)) → AreOf operators asks → asked operator asks ≡ []
  none_asked [] own = refl
  none_asked (ask ∷ asks) own =
      let P : Ask Action → Type 0 = (λ (ask : Ask Action). IsTrue (is_among operators ask.operator)) in
      ap (λ b. cond b (ask.request ∷ asked operator asks) (asked operator asks)) (other ask.operator (All-head P ask asks own))
      ∙ none_asked asks (All-tail P ask asks own)

pub each_own : (tree : Entries) (operators : List (List ℕ)) (asks : List (Ask Action)) (history : Log Action) (logs : List (SessionLog Action))
    → AreOf operators asks → HasFed tree operators asks history logs → (operator : List ℕ) → requests_in history.rows operator ≡ asked operator asks
each_own tree operators asks history logs own fed operator = elim (cases_Bool (is_among operators operator)) [
  | inl there ↦ of_one (HoldsAsked asks history.rows) operators operator there fed.asked
  | inr off ↦ ap (map (λ row. row.1.request)) (no_rows operators operator off history.rows 1 fed.closed.no_other_row) ∙ sym (none_asked operators operator off asks own)
]

-- the requests of calls belong to the operators of the calls
pub asks_are_of : (operators : List (List ℕ)) (calls : List Call) → All (λ operator. IsTrue (is_among operators operator)) (operators_of calls) → AreOf operators (asks_of calls)
asks_are_of operators [] all = All-nil (λ (ask : Ask Action). IsTrue (is_among operators ask.operator))
asks_are_of operators (call ∷ calls) all =
    let P : List ℕ → Type 0 = (λ operator. IsTrue (is_among operators operator)) in
    All-cons (λ (ask : Ask Action). IsTrue (is_among operators ask.operator)) (record { operator = call.operator; request = call.request }) (asks_of calls) (All-head P call.operator (operators_of calls) all) (asks_are_of operators calls (All-tail P call.operator (operators_of calls) all))

-- with one more call
pub one_asked : (calls : List Call) (call : Call) → asks_of (calls ++ call ∷ []) ≡ asks_of calls ++ record { operator = call.operator; request = call.request } ∷ []
one_asked [] call = refl
one_asked (first ∷ calls) call = ap (λ asks. record { operator = first.operator; request = first.request } ∷ asks) (one_asked calls call)
