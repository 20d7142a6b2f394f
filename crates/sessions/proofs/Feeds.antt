-- Operators' requests, and how the logs match them.
use Rattle.std.proofs.Common.{◌≡◌, ℕ, zero, suc, ◌+◌, ◌-◌, ◌<◌, ◌≤◌, true, false, ◌||◌, List, [], ◌∷◌, ◌++◌, All, Some, length, take, drop, get_or, refl, sym, ap, subst, ◌∙◌, cond, inl, inr, arith, append_assoc, append-nil, length-append}
use Rattle.std.specs.Prelude.{◌≢◌, slice_get}
use Rattle.std.specs.Str.{bytes_eq}
use Rattle.std.proofs.Math.Seq.{take-suc}
use Rattle.std.proofs.lemmas.Bool.{cases_Bool, true≢false}
use Rattle.std.proofs.lemmas.List.{drop_more, take_all}
use Rattle.std.proofs.lemmas.List.Elements.{All-head, All-tail, All-nil, All-cons}
use Rattle.std.proofs.lemmas.Slice.Eq.{bytes_eq-Decides}
use Rattle.link_tree.specs.Trees.{Entries}
use Rattle.history.specs.Logs.{Log}
use Rattle.history.specs.declared.row.Request.{Request}
use Rattle.history.specs.declared.row.Row.{Row}
use Rattle.history.specs.declared.row.RowReply.{RowReply}
use Rattle.shared_admin.specs.declared.log.LogEntry.{LogEntry}
use Rattle.shared_admin.specs.declared.log.SessionLog.{SessionLog}
use Rattle.shared_admin.specs.Closing.{has_log, HasLog, rows_of, entries_of, IsTold, IsClosed}
use Rattle.sessions.specs.Sessions.{Opened, IsServed, entry_of, requests_of}
use Rattle.sessions.specs.declared.asks.Ask.{Ask}
use Rattle.sessions.specs.declared.desk.Issued.{Issued}
use Rattle.sessions.specs.Desks.{Jobs}
use Rattle.sessions.specs.Fed.{AreOf, asked, jobs_of, IsAsked, DiffersFirstAt, HoldsAsked, HasFed}
use Rattle.shared_admin.specs.Sharing.{is_among}
use Rattle.sessions.proofs.Workers.{told_requests}

none_left : {X : Type 0} (xs : List X) (k : ℕ) → length xs ≤ k → drop k xs ≡ []
none_left [] zero h = refl
none_left [] (suc k) h = refl
none_left (x ∷ xs) zero h = absurd (omega arith)
none_left (x ∷ xs) (suc k) h = none_left xs k (omega arith)

pub last_is : {A : Type 0} (xs all : List A) (x y : A) → all ≡ xs ++ x ∷ [] → y ≡ get_or all (length all - 1) y → y ≡ x
last_is xs all x y is at = at ∙ ap (λ (ys : List _). get_or ys (length ys - 1) y) is ∙ ap (λ k. get_or (xs ++ x ∷ []) k y) (omega (arith, length-append xs (x ∷ []))) ∙ behind xs
  where
    behind : (front : List _) → get_or (front ++ x ∷ []) (length front) y ≡ x
    behind [] = refl
    behind (f ∷ front) = behind front

-- A desk that has issued a job isn't closed.
pub is_open : (new : Jobs) (issued : List Issued) → new ≡ record { issued = issued; is_shut = false } → new.is_shut ≡ false
is_open new issued is = ap (λ (jobs : Jobs). jobs.is_shut) is

module _ {A : Type 0} where
  one_taken : (xs : List A) (k : ℕ) (x : A) → slice_get xs k ≡ Some x → (k < length xs) × (take (k + 1) xs ≡ take k xs ++ x ∷ [])
  one_taken xs k x there = let on : suc k ≡ k + 1 = omega arith in (within xs k there, ap (λ n. take n xs) (sym on) ∙ taken xs k there)
    where
      within : (xs : List A) (k : ℕ) → slice_get xs k ≡ Some x → k < length xs
      within [] k there = cc
      within (y ∷ ys) zero there = omega arith
      within (y ∷ ys) (suc k) there = omega (arith, within ys k there)

      taken : (xs : List A) (k : ℕ) → slice_get xs k ≡ Some x → take (suc k) xs ≡ take k xs ++ x ∷ []
      taken [] k there = cc
      taken (y ∷ ys) zero there = ap (λ z. z ∷ []) (let same : y ≡ x = cc in same)
      taken (y ∷ ys) (suc k) there = ap (λ zs. y ∷ zs) (taken ys k there)

  front_same : (xs rest : List A) (k : ℕ) → k ≤ length xs → take k (take k xs ++ rest) ≡ take k xs
  front_same [] [] zero h = refl
  front_same [] (r ∷ rest) zero h = refl
  front_same [] rest (suc k) h = absurd (omega arith)
  front_same (x ∷ xs) [] zero h = refl
  front_same (x ∷ xs) (r ∷ rest) zero h = refl
  front_same (x ∷ xs) rest (suc k) h = ap (λ zs. x ∷ zs) (front_same xs rest k (omega arith))

  behind_front : (xs rest : List A) (k : ℕ) → k ≤ length xs → slice_get (take k xs ++ rest) k ≡ slice_get rest 0
  behind_front [] rest zero h = refl
  behind_front [] rest (suc k) h = absurd (omega arith)
  behind_front (x ∷ xs) rest zero h = refl
  behind_front (x ∷ xs) rest (suc k) h = behind_front xs rest k (omega arith)

  one_there : (xs : List A) (k : ℕ) → k < length xs → slice_get xs k ≡ slice_get [] 0 → ⊥
  one_there [] k h none = absurd (omega arith)
  one_there (x ∷ xs) zero h none = cc
  one_there (x ∷ xs) (suc k) h none = one_there xs k (omega arith) none

module _ {O : Type 0} where
  -- two lists that differ after an equal beginning differ there first
  differs : (requests wanted rest : List (Request O)) (place : ℕ) → place ≤ length requests → wanted ≡ take place requests ++ rest → (slice_get requests place ≢ slice_get rest 0) → DiffersFirstAt (place + 1) requests wanted
  differs requests wanted rest place within is off =
      let on : suc place ≡ place + 1 = omega arith in
      subst (λ n. DiffersFirstAt n requests wanted) on (
        sym (ap (take place) is ∙ front_same requests rest place within),
        (λ same. off (same ∙ ap (λ all. slice_get all place) is ∙ behind_front requests rest place within)),
      )

  -- lists that differ at a position aren't equal
  pub apart : (place : ℕ) (requests wanted : List (Request O)) → DiffersFirstAt place requests wanted → requests ≡ wanted → ⊥
  apart zero requests wanted differ same = differ
  apart (suc i) requests wanted differ same = differ.1 (ap (λ all. slice_get all i) same)

  -- the remaining requests without the next
  pub left_of : (operators : List (List ℕ)) (items : List (Ask O)) (ask : Ask O) (rest : List (Ask O)) → items ≡ ask ∷ rest → AreOf operators items → AreOf operators rest
  left_of operators items ask rest step all =
      All-tail (λ (ask : Ask O). is_among operators ask.operator ≡ true) ask rest (subst (λ (asks : List (Ask O)). AreOf operators asks) step all)

  -- the next of the remaining requests
  pub next_is_of : (operators : List (List ℕ)) (items : List (Ask O)) (ask : Ask O) (rest : List (Ask O)) → items ≡ ask ∷ rest → AreOf operators items → is_among operators ask.operator ≡ true
  next_is_of operators items ask rest step all =
      All-head (λ (ask : Ask O). is_among operators ask.operator ≡ true) ask rest (subst (λ (asks : List (Ask O)). AreOf operators asks) step all)

  -- none remains
  pub all_issued : (desk : Jobs) (all items : List (Ask O)) → items ≡ [] → desk.issued ++ jobs_of items ≡ jobs_of all → desk.issued ≡ jobs_of all
  all_issued desk all items none before = sym (append-nil desk.issued) ∙ sym (ap (λ (asks : List (Ask O)). desk.issued ++ jobs_of asks) none) ∙ before

  -- a job for the next
  pub issued_one : (desk new : Jobs) (all items : List (Ask O)) (ask : Ask O) (rest : List (Ask O))
      → new ≡ record { issued = desk.issued ++ record { operator = ask.operator; is_answered = false } ∷ []; is_shut = false } → items ≡ ask ∷ rest → desk.issued ++ jobs_of items ≡ jobs_of all → new.issued ++ jobs_of rest ≡ jobs_of all
  issued_one desk new all items ask rest is step before =
      ap (λ (jobs : Jobs). jobs.issued ++ jobs_of rest) is
      ∙ append_assoc desk.issued (record { operator = ask.operator; is_answered = false } ∷ []) (jobs_of rest)
      ∙ sym (ap (λ (asks : List (Ask O)). desk.issued ++ jobs_of asks) step)
      ∙ before

  -- one more request is served
  pub served_one : (old new : Opened O) (request : Request O) (items rest all : List (Request O)) → IsServed old request new → items ≡ request ∷ rest → requests_of old.entries ++ items ≡ all → requests_of new.entries ++ rest ≡ all
  served_one old new request items rest all served step before =
      ap (λ (session : Opened O). requests_of session.entries ++ rest) served.added
      ∙ ap (λ (requests : List (Request O)). requests ++ rest) (told-append old.entries (entry_of request old.front served.row))
      ∙ append_assoc (requests_of old.entries) (request ∷ []) rest
      ∙ sym (ap (λ (requests : List (Request O)). requests_of old.entries ++ requests) step)
      ∙ before
    where
      told-append : (entries : List (LogEntry O)) (entry : LogEntry O) → requests_of (entries ++ entry ∷ []) ≡ requests_of entries ++ entry.request ∷ []
      told-append [] entry = refl
      told-append (e ∷ es) entry = ap (λ (requests : List (Request O)). e.request ∷ requests) (told-append es entry)

  -- none remains
  pub all_served : (session : Opened O) (items all : List (Request O)) → items ≡ [] → requests_of session.entries ++ items ≡ all → requests_of session.entries ≡ all
  all_served session items all none before = sym (append-nil (requests_of session.entries)) ∙ sym (ap (λ (requests : List (Request O)). requests_of session.entries ++ requests) none) ∙ before

  -- one more is copied
  pub one_copied : (items : List (Ask O)) (index : ℕ) (item copied : Ask O) (so_far more : List (Ask O)) → item ≡ get_or items index item → index < length items → copied ≡ item → more ≡ so_far ++ copied ∷ [] → so_far ≡ take index items → more ≡ take (index + 1) items
  one_copied items index item copied so_far more is within same added before =
      let next : index + 1 ≡ suc index = omega arith in
      added
      ∙ ap (λ (ask : Ask O). so_far ++ ask ∷ []) (same ∙ is)
      ∙ ap (λ (asks : List (Ask O)). asks ++ get_or items index item ∷ []) before
      ∙ sym (take-suc items index item within)
      ∙ sym (ap (λ n. take n items) next)

  -- the reply of the last entry is that of the row
  pub reply_is : (old new : Opened O) (request : Request O) (served : IsServed old request new) (entries : List (LogEntry O)) (entry : LogEntry O) (reply : RowReply)
      → entries ≡ new.entries → entry ≡ get_or entries (length entries - 1) entry → reply ≡ (get_or entries (length entries - 1) entry).reply → reply ≡ served.row.reply
  reply_is old new request served entries entry reply are is copied =
      copied
      ∙ ap (λ (entry : LogEntry O). entry.reply) (sym is ∙ last_is old.entries entries (entry_of request old.front served.row) entry (are ∙ ap (λ (session : Opened O). session.entries) served.added) is)

  -- The requests before the position are the operator's requests before the ask of this index.
  pub record HasAsked (operator : List ℕ) (entries : List (LogEntry O)) (asks : List (Ask O)) (place index : ℕ) : Type 0 where
    pub within : place ≤ length entries
    pub so_far : asked operator asks ≡ take place (requests_of entries) ++ asked operator (drop index asks)

  pub begun : (operator : List ℕ) (entries : List (LogEntry O)) (asks : List (Ask O)) → HasAsked operator entries asks 0 0
  begun operator [] asks = record { within = omega arith; so_far = refl }
  begun operator (entry ∷ entries) asks = record { within = omega arith; so_far = refl }

  as_many : (entries : List (LogEntry O)) → length (requests_of entries) ≡ length entries
  as_many [] = refl
  as_many (entry ∷ entries) = ap suc (as_many entries)

  -- the request of an entry is one of the requests
  request_there : (entries : List (LogEntry O)) (k : ℕ) (entry : LogEntry O) → slice_get entries k ≡ Some entry → slice_get (requests_of entries) k ≡ Some entry.request
  request_there [] k entry there = cc
  request_there (e ∷ es) zero entry there = ap (λ (e : LogEntry O). Some e.request) (let same : e ≡ entry = cc in same)
  request_there (e ∷ es) (suc k) entry there = request_there es k entry there

  entry_there : (entries : List (LogEntry O)) (k : ℕ) (request : Request O) → slice_get (requests_of entries) k ≡ Some request → (entry : LogEntry O) × (slice_get entries k ≡ Some entry) × (entry.request ≡ request)
  entry_there [] k request there = cc
  entry_there (e ∷ es) zero request there = (e, refl, (let same : e.request ≡ request = cc in same))
  entry_there (e ∷ es) (suc k) request there = entry_there es k request there

  module _ (operator : List ℕ) (entries : List (LogEntry O)) (asks : List (Ask O)) (place index : ℕ) (ask : Ask O) (is : ask ≡ get_or asks index ask) (in_asks : index < length asks) (before : HasAsked operator entries asks place index) where
    left : asked operator (drop index asks) ≡ cond (bytes_eq operator ask.operator) (ask.request ∷ asked operator (drop (index + 1) asks)) (asked operator (drop (index + 1) asks))
    left = ap (asked operator) (drop_more asks index ask in_asks ∙ ap (λ a. a ∷ drop (index + 1) asks) (sym is))

    -- the next request is another operator's
    left_without : bytes_eq operator ask.operator ≡ false → asked operator (drop index asks) ≡ asked operator (drop (index + 1) asks)
    left_without away = left ∙ ap (λ b. cond b (ask.request ∷ asked operator (drop (index + 1) asks)) (asked operator (drop (index + 1) asks))) away

    -- the next request is this operator's
    left_with : bytes_eq operator ask.operator ≡ true → asked operator (drop index asks) ≡ ask.request ∷ asked operator (drop (index + 1) asks)
    left_with here = left ∙ ap (λ b. cond b (ask.request ∷ asked operator (drop (index + 1) asks)) (asked operator (drop (index + 1) asks))) here

    pub passed : bytes_eq operator ask.operator ≡ false → HasAsked operator entries asks place (index + 1)
    passed away = record { within = before.within; so_far = before.so_far ∙ ap (λ rest. take place (requests_of entries) ++ rest) (left_without away) }

    with_next : bytes_eq operator ask.operator ≡ true → asked operator asks ≡ take place (requests_of entries) ++ ask.request ∷ asked operator (drop (index + 1) asks)
    with_next here = before.so_far ∙ ap (λ rest. take place (requests_of entries) ++ rest) (left_with here)

    pub asked_one : bytes_eq operator ask.operator ≡ true → (entry : LogEntry O) → slice_get entries place ≡ Some entry → entry.request ≡ ask.request → HasAsked operator entries asks (place + 1) (index + 1)
    asked_one here entry there same =
        let here_too : slice_get (requests_of entries) place ≡ Some ask.request = request_there entries place entry there ∙ ap (λ (r : Request O). Some r) same in
        let more = one_taken (requests_of entries) place ask.request here_too in record {
          within = omega (arith, more.0, as_many entries);
          so_far =
              with_next here
              ∙ sym (append_assoc (take place (requests_of entries)) (ask.request ∷ []) (asked operator (drop (index + 1) asks)))
              ∙ ap (λ front. front ++ asked operator (drop (index + 1) asks)) (sym more.1);
        }

    -- there is no entry for the next request, or it is of another request
    pub asked_off : bytes_eq operator ask.operator ≡ true → ((entry : LogEntry O) → slice_get entries place ≡ Some entry → ¬ (entry.request ≡ ask.request)) → DiffersFirstAt (place + 1) (requests_of entries) (asked operator asks)
    asked_off here off =
        differs (requests_of entries) (asked operator asks) (ask.request ∷ asked operator (drop (index + 1) asks)) place (omega (arith, before.within, as_many entries)) (with_next here)
        (λ same. let found = entry_there entries place ask.request same in off found.0 found.1 found.2)

  module _ (operator : List ℕ) (entries : List (LogEntry O)) (asks : List (Ask O)) (place index : ℕ) (through : length asks ≤ index) (before : HasAsked operator entries asks place index) where
    none_asked : asked operator asks ≡ take place (requests_of entries) ++ []
    none_asked = before.so_far ∙ ap (λ rest. take place (requests_of entries) ++ asked operator rest) (none_left asks index through)

    pub all_asked : length entries ≤ place → requests_of entries ≡ asked operator asks
    all_asked none = sym (none_asked ∙ append-nil (take place (requests_of entries)) ∙ take_all place (requests_of entries) (omega (arith, none, as_many entries)))

    -- entries remain
    pub more_told : place < length entries → DiffersFirstAt (place + 1) (requests_of entries) (asked operator asks)
    more_told some = differs (requests_of entries) (asked operator asks) [] place (omega (arith, before.within, as_many entries)) none_asked (one_there (requests_of entries) place (omega (arith, some, as_many entries)))

  -- the log of an operator is one of the logs
  found : (asks : List (Ask O)) (logs : List (SessionLog O)) (operator : List ℕ) → has_log logs operator ≡ true → All (IsAsked asks) logs → requests_of (entries_of logs operator) ≡ asked operator asks
  found asks [] operator has all = absurd (true≢false (sym has))
  found asks (log ∷ logs) operator has all = elim (cases_Bool (bytes_eq operator log.operator)) [
    | inl here ↦ (
        ap (λ b. requests_of (cond b log.entries (entries_of logs operator))) here
        ∙ All-head (IsAsked asks) log logs all
        ∙ ap (λ (o : List ℕ). asked o asks) (sym ((bytes_eq-Decides operator log.operator).0 here)))
    | inr away ↦ (
        ap (λ b. requests_of (cond b log.entries (entries_of logs operator))) away
        ∙ found asks logs operator (sym (ap (λ b. b || has_log logs operator) away) ∙ has) (All-tail (IsAsked asks) log logs all))
  ]

  each : (asks : List (Ask O)) (logs : List (SessionLog O)) (rows : List (Row O)) (operators : List (List ℕ)) → All (HasLog logs) operators → All (IsAsked asks) logs → All (IsTold logs rows) operators → All (HoldsAsked asks rows) operators
  each asks logs rows [] have all told = All-nil (HoldsAsked asks rows)
  each asks logs rows (operator ∷ operators) have all told =
      All-cons (HoldsAsked asks rows) operator operators
      (sym (told_requests (entries_of logs operator) (rows_of operator 1 rows) (All-head (IsTold logs rows) operator operators told)) ∙ found asks logs operator (All-head (HasLog logs) operator operators have) all)
      (each asks logs rows operators (All-tail (HasLog logs) operator operators have) all (All-tail (IsTold logs rows) operator operators told))

  -- a closed run of these requests
  has_fed : (tree : Entries) (operators : List (List ℕ)) (asks : List (Ask O)) (history : Log O) (logs : List (SessionLog O)) → IsClosed tree operators logs history → All (IsAsked asks) logs → HasFed tree operators asks history logs
  has_fed tree operators asks history logs closed all = record { closed = closed; asked = each asks logs history.rows operators closed.each_has_a_log all closed.told }

  -- the same for the logs that are returned, which were checked
  pub has_fed_back : (tree : Entries) (operators : List (List ℕ)) (asks : List (Ask O)) (history : Log O) (given back seen : List (SessionLog O))
      → IsClosed tree operators given history → back ≡ given → seen ≡ back → All (IsAsked asks) seen → HasFed tree operators asks history back
  has_fed_back tree operators asks history given back seen closed same looked all =
      has_fed tree operators asks history back
      (subst (λ (logs : List (SessionLog O)). IsClosed tree operators logs history) (sym same) closed)
      (subst (λ (logs : List (SessionLog O)). All (IsAsked asks) logs) looked all)
