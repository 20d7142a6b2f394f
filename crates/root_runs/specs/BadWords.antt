-- Which word of a line of a script is at fault, and what would be right. The words are OPERATOR
-- VERB ARGUMENTS..
use Rattle.std.specs.Prelude.{◌≡◌, ℕ, ◌+◌, ◌<◌, Bool, true, false, not, ◌&&◌, ◌||◌, ◌==◌, nat_lt, nat_eq, if◌then◌else◌, List, [], ◌∷◌, ◌++◌, length, Option, Some, None, codes}
use Rattle.std.specs.List.{starts_with, slice_index_or}
use Rattle.std.specs.Str.{bytes_eq}
use Rattle.unit_name.specs.Name.{is_unit_name}
use Rattle.unit_paths.specs.Paths.{is_path}
use Rattle.unit_script.specs.declared.reason.Reason.{Reason}
use Rattle.unit_script.specs.declared.reason.Reason.TheVariants as reasons
use Rattle.unit_script.specs.Requests.{is_runtime, is_reverse}
use Rattle.root_runs.specs.declared.bad_words.Hint.{Hint}
use Rattle.root_runs.specs.declared.bad_words.Hint.TheVariants as hints
use Rattle.root_runs.specs.Escapes.{shown}

-- the verbs that take the option --runtime
unfoldable pub takes_runtime : List ℕ → Bool
takes_runtime word = bytes_eq word (codes "enable") || bytes_eq word (codes "disable") || bytes_eq word (codes "reenable") || bytes_eq word (codes "preset") || bytes_eq word (codes "mask") || bytes_eq word (codes "unmask") || bytes_eq word (codes "link") || bytes_eq word (codes "add-wants") || bytes_eq word (codes "add-requires")

-- the other verbs of scripts
unfoldable pub is_other_verb : List ℕ → Bool
is_other_verb word = bytes_eq word (codes "set-default") || bytes_eq word (codes "place") || bytes_eq word (codes "remove") || bytes_eq word (codes "is-enabled") || bytes_eq word (codes "get-default") || bytes_eq word (codes "dependencies") || bytes_eq word (codes "undo") || bytes_eq word (codes "redo")

-- verbs of systemctl that work on a running machine: systemctl(1), "Unit Commands"
unfoldable pub is_running_verb : List ℕ → Bool
is_running_verb word = bytes_eq word (codes "start") || bytes_eq word (codes "stop") || bytes_eq word (codes "restart") || bytes_eq word (codes "try-restart") || bytes_eq word (codes "reload") || bytes_eq word (codes "reload-or-restart") || bytes_eq word (codes "kill") || bytes_eq word (codes "isolate") || bytes_eq word (codes "is-active") || bytes_eq word (codes "is-failed") || bytes_eq word (codes "reset-failed") || bytes_eq word (codes "daemon-reload") || bytes_eq word (codes "daemon-reexec") || bytes_eq word (codes "list-units")

abbrev pub is_verb : List ℕ → Bool
is_verb word = takes_runtime word || is_other_verb word

-- the verb, or nothing
abbrev pub verb_in : List (List ℕ) → List ℕ
verb_in [] = []
verb_in (operator ∷ []) = []
verb_in (operator ∷ verb ∷ words) = verb

-- whether a word after this verb is its option
abbrev pub is_option : List ℕ → List ℕ → Bool
is_option verb word = is_runtime word && takes_runtime verb || is_reverse word && bytes_eq verb (codes "dependencies")

-- whether the word at this place is an argument of the verb
abbrev pub is_argument : List ℕ → ℕ → List ℕ → Bool
is_argument verb place word = nat_lt 2 place || (place == 2 && not (is_option verb word))

-- whether the word at this place can be what a line with this verb is refused for
abbrev pub is_at_fault : Reason → List ℕ → ℕ → List ℕ → Bool
is_at_fault reasons.TooManyLines verb place word = false
is_at_fault reasons.LineTooLong verb place word = false
is_at_fault reasons.BadOperator verb place word = place == 0
is_at_fault reasons.UnknownVerb verb place word = place == 1
is_at_fault reasons.WrongArguments verb place word = false
is_at_fault reasons.BadName verb place word = is_argument verb place word && not (is_unit_name word)
is_at_fault reasons.BadPath verb place word = is_argument verb place word && not (is_path word)
is_at_fault reasons.BadTarget verb place word = place == 4
is_at_fault reasons.BadText verb place word = place == 4
is_at_fault reasons.BadNumber verb place word = place == 2

-- the first of the words that passes a test, if the first of them is at this place
unfoldable pub first_place : (ℕ → List ℕ → Bool) → ℕ → List (List ℕ) → Option ℕ
first_place test place [] = None
first_place test place (word ∷ words) = if test place word then Some place else first_place test (place + 1) words

-- the place of the word for which a line is refused, from 0, if there is one
abbrev pub bad_place : Reason → List (List ℕ) → Option ℕ
bad_place reason words = first_place (is_at_fault reason (verb_in words)) 0 words

-- the word at this place passes the test, and no word before it
pub record IsFirstPlace (test : ℕ → List ℕ → Bool) (words : List (List ℕ)) (place : ℕ) : Type 0 where
  pub within : place < length words
  pub passes : test place (slice_index_or words place []) ≡ true
  pub least : (n : ℕ) → n < place → test n (slice_index_or words n []) ≡ false

-- no word passes the test
abbrev pub NoPlace : (ℕ → List ℕ → Bool) → List (List ℕ) → Type 0
NoPlace test words = (n : ℕ) → n < length words → test n (slice_index_or words n []) ≡ false

-- the least place of a word that passes the test, or there is none
abbrev pub IsLeastPlace : (ℕ → List ℕ → Bool) → List (List ℕ) → Option ℕ → Type 0
IsLeastPlace test words None = NoPlace test words
IsLeastPlace test words (Some place) = IsFirstPlace test words place

-- the least place of a word for which a line can be refused, or there is none
abbrev pub IsBadPlace : Reason → List (List ℕ) → Option ℕ → Type 0
IsBadPlace reason words place = IsLeastPlace (is_at_fault reason (verb_in words)) words place

abbrev pub is_dashed : List ℕ → Bool
is_dashed word = starts_with nat_eq word (codes "-")

-- what is known of a word that is no verb
abbrev pub verb_hint : List ℕ → List ℕ → Hint
verb_hint operator verb =
    if is_running_verb verb then hints.RunningVerb
    else if is_verb operator then hints.NoOperator
    else if is_dashed verb then hints.UnknownOption
    else hints.Nothing

-- what is known of a word that is no name
abbrev pub name_hint : List ℕ → Hint
name_hint word =
    if is_dashed word then hints.UnknownOption
    else if is_unit_name (word ++ codes ".service") then hints.NoSuffix
    else hints.Nothing

-- what is known of a word that is no path
abbrev pub path_hint : List ℕ → Hint
path_hint word = if is_dashed word then hints.UnknownOption else hints.Nothing

-- What would be right, of a line with this operator that is refused for this word.
abbrev pub hint_of : Reason → List ℕ → List ℕ → Hint
hint_of reasons.TooManyLines operator word = hints.Nothing
hint_of reasons.LineTooLong operator word = hints.Nothing
hint_of reasons.BadOperator operator word = hints.Nothing
hint_of reasons.UnknownVerb operator word = verb_hint operator word
hint_of reasons.WrongArguments operator word = hints.Nothing
hint_of reasons.BadName operator word = name_hint word
hint_of reasons.BadPath operator word = path_hint word
hint_of reasons.BadTarget operator word = hints.Nothing
hint_of reasons.BadText operator word = hints.Nothing
hint_of reasons.BadNumber operator word = hints.Nothing

-- the three parts of a hint as a text, which follows the fault of a line
abbrev pub before_hint : Hint → List ℕ
before_hint hints.Nothing = []
before_hint hints.NoSuffix = codes ": names have a suffix, "
before_hint hints.NoOperator = codes ": "
before_hint hints.UnknownOption = codes ": unknown option"
before_hint hints.RunningVerb = codes ": a verb of running machines"

abbrev pub hinted : Hint → List ℕ → List ℕ → List ℕ
hinted hints.Nothing operator word = []
hinted hints.NoSuffix operator word = word
hinted hints.NoOperator operator word = operator
hinted hints.UnknownOption operator word = []
hinted hints.RunningVerb operator word = []

abbrev pub after_hint : Hint → List ℕ
after_hint hints.Nothing = []
after_hint hints.NoSuffix = codes ".service?"
after_hint hints.NoOperator = codes " is a verb: the operator is missing"
after_hint hints.UnknownOption = []
after_hint hints.RunningVerb = []

abbrev pub hint_text : Hint → List ℕ → List ℕ → List ℕ
hint_text hint operator word = before_hint hint ++ shown (hinted hint operator word) ++ after_hint hint
