-- What clap makes of the arguments of the program's command.
use Rattle.std.proofs.Common.{◌≡◌, ◌∙◌, ◌==◌, ℕ, Bool, ◌⊎◌, inl, inr, true, false, zero, suc, List, [], ◌∷◌, length, Option, Some, None, codes, refl, sym, ap, ap₂, subst, arith, take, not, ◌+◌}
use Rattle.std.specs.Prelude.{slice_get, unwrap_or}
use Rattle.std.specs.Option.{option_map_or}
use Rattle.std.specs.Str.{bytes_eq, chars}
use Rattle.std.specs.List.{after_first, before_first, list_any, prefix_len}
use Rattle.std.proofs.lemmas.Slice.Eq.{bytes_eq-Decides}
use Rattle.std.proofs.lemmas.Bool.Decides.{nat_tests}
use Rattle.clap.specs.Lexer.{long_of, long_of_rest, name_and_value, short_of, has_byte}
use Rattle.clap.specs.Walk.{Held, Row, Text, rows_of, Walk, idle, one_of, walked, bundle_met, bundle_step, after_flag, plain, Outcome, short_or_plain, long_or_other, arg_by_long}
use Rattle.clap.specs.Simple.{App, HasMatchesOf, Shape, built, is_simple, matches_of}
use Rattle.clap.specs.Kinds.{HasKind, Kinds, or_else}
use Rattle.clap.specs.Faults.{fault_of, is_simple_and_free, flags_fault, turn_fault, walk_fault, long_fault, flag_word_fault, bundle_fault, bundle_step_fault, step_fault}
use Rattle.clap.proofs.OnLiterals.{clap_on_literals}
use Rattle.clap.proofs.WalkLemmas.{both, one_text-rows}
use Rattle.clap.specs.Matches.{found_of, one_text}
use Rattle.clap.specs.Values.{kind_of}
use Rattle.clap.specs.declared.error.Error.{Error}
use Rattle.clap.specs.declared.error.kind.ErrorKind.TheVariants.{OutOfMemory}
use Rattle.clap.specs.declared.parser.matches.ArgMatches.{ArgMatches}
use Rattle.arguments.specs.Asked.{is_end, is_flag, sessions_of, asked_by}
use Rattle.arguments.specs.Commands.{unitadm_app}

pub is_simple_command : is_simple_and_free unitadm_app ≡ true
unfolding clap_on_literals
is_simple_command = refl

is_simple_app : is_simple unitadm_app ≡ true
unfolding clap_on_literals
is_simple_app = refl

-- the command as clap builds it
abbrev shape : Shape
shape = (built unitadm_app).top

-- some kind of error occurs
abbrev fails : Kinds → Bool
fails [] = false
fails (k ∷ ks) = true

fails_first : (a b : Kinds) → fails a ≡ true → fails (or_else a b) ≡ true
fails_first [] b h = cc
fails_first (k ∷ ks) b h = refl

-- between two arguments
abbrev at : List Row → Bool → Walk
at rows is_trailing = record {
  held = record { rows = rows; pending = None; skip = 0 };
  waiting = idle;
  position = 1;
  is_trailing = is_trailing;
  stopped = None;
}

-- ---- a long name

take_next : (x n : ℕ) (xs ys : Text) → take n xs ≡ ys → take (1 + n) (x ∷ xs) ≡ x ∷ ys
take_next x n xs ys e =
    let next : 1 + n ≡ suc n = omega arith in
    ap (λ k. take k (x ∷ xs)) next ∙ ap (λ zs. x ∷ zs) e

before_none : (c : ℕ) (text : Text) → list_any (λ x. x == c) text ≡ false → before_first (λ x. x == c) text ≡ text
before_none c [] none = refl
before_none c (x ∷ xs) none = go (x == c) refl (before_none c xs)
  where
    go : (b : Bool) → (x == c) ≡ b → (list_any (λ y. y == c) xs ≡ false → before_first (λ y. y == c) xs ≡ xs)
        → before_first (λ y. y == c) (x ∷ xs) ≡ x ∷ xs
    go true here next = let bad : true ≡ false = rw here at none in cc
    go false here next =
        let rest : list_any (λ y. y == c) xs ≡ false = rw here at none in
        rw here (take_next x (prefix_len (λ y. not (y == c)) xs) xs xs (next rest))

plain_name : (text : Text) (p : Text × Option Text) → long_of_rest text ≡ Some p → p.1 ≡ None → text ≡ p.0
plain_name [] p is none = cc
plain_name (x ∷ xs) p is none = go (has_byte 61 (x ∷ xs)) refl
  where
    same : name_and_value (x ∷ xs) ≡ p
    same = ap (λ o. unwrap_or o p) is

    go : (b : Bool) → has_byte 61 (x ∷ xs) ≡ b → x ∷ xs ≡ p.0
    go true here =
        let bad : Some (after_first (λ y. y == 61) (x ∷ xs)) ≡ None = rw here at (ap (λ q. q.1) same ∙ none) in
        cc
    go false here = sym (before_none 61 (x ∷ xs) here) ∙ ap (λ q. q.0) same

-- a long name without a value is the argument after two hyphens
long_text : (word : Text) (p : Text × Option Text) → long_of word ≡ Some p → p.1 ≡ None → word ≡ 45 ∷ 45 ∷ p.0
long_text [] p is none = cc
long_text (x ∷ []) p is none = go (x == 45) refl
  where
    go : (b : Bool) → (x == 45) ≡ b → x ∷ [] ≡ 45 ∷ 45 ∷ p.0
    go true here = let bad : None ≡ Some p = rw here at is in cc
    go false here = let bad : None ≡ Some p = rw here at is in cc
long_text (x ∷ y ∷ rest) p is none = go (x == 45) refl (y == 45) refl
  where
    go : (a : Bool) → (x == 45) ≡ a → (b : Bool) → (y == 45) ≡ b → x ∷ y ∷ rest ≡ 45 ∷ 45 ∷ p.0
    go true first true second =
        let text : long_of_rest rest ≡ Some p = rw (first, second) at is in
        let name = plain_name rest p text none in
        let first_is : x ≡ 45 = grind (arith, nat_tests) in
        let second_is : y ≡ 45 = grind (arith, nat_tests) in
        cc
    go false first b second = let bad : None ≡ Some p = rw first at is in cc
    go true first false second = let bad : None ≡ Some p = rw (first, second) at is in cc

-- ---- an argument that is neither `--` nor `--sessions`

abbrev held : List Row → Held
held rows = (at rows false).held

long_fails : (rows : List Row) (name : Text) (v : Option Text) → (bytes_eq (codes "sessions") name ≡ true → v ≡ None → ⊥)
    → fails (long_fault shape.rules false (arg_by_long shape.rules name) v (held rows)) ≡ true
long_fails rows name v other = go (bytes_eq (codes "sessions") name) refl v other
  where
    go : (b : Bool) → bytes_eq (codes "sessions") name ≡ b → (o : Option Text) → (bytes_eq (codes "sessions") name ≡ true → o ≡ None → ⊥)
        → fails (long_fault shape.rules false (arg_by_long shape.rules name) o (held rows)) ≡ true
    go false here o none = rw here refl
    go true here None none = absurd (none here refl)
    go true here (Some t) none = rw here refl

-- the step for an argument that is not `--`, by its form
abbrev turn_of : List Row → Text → Option (Text × Option Text) → Kinds
turn_of rows word o =
    let met = long_or_other shape.rules idle word o (held rows) in
    or_else (flag_word_fault shape.rules false o word (held rows)) (step_fault shape 1 met.0 met.1)

abbrev short_turn : List Row → Text → Option Text → Kinds
short_turn rows word o =
    let met = short_or_plain shape.rules idle word o (held rows) in
    or_else (option_map_or (λ flags. bundle_fault shape.rules false flags (held rows)) o []) (step_fault shape 1 met.0 met.1)

-- the step for a bundle of short flags, by how it is parsed
abbrev bundle_turn : Text → Kinds → Held × Outcome → Kinds
bundle_turn word faults met =
    let after = after_flag shape.rules idle word met.0 met.1 in
    or_else faults (step_fault shape 1 after.0 after.1)

-- the first character is no flag, or there is none
first_fails : (rows : List Row) (word flags : Text) (k : ℕ) (x : Option ℕ)
    → fails (bundle_turn word (bundle_step_fault shape.rules false x flags 0 (held rows) (flags_fault shape.rules false k))
    (bundle_step shape.rules x flags 0 plain (held rows) (bundle_met shape.rules k))) ≡ true
first_fails rows word flags k None = refl
first_fails rows word flags k (Some x) = refl

bundle_fails : (rows : List Row) (word flags : Text) (n : ℕ)
    → fails (bundle_turn word (flags_fault shape.rules false n flags 0 (held rows)) (bundle_met shape.rules n flags 0 plain (held rows))) ≡ true
unfolding flags_fault bundle_met
bundle_fails rows word flags zero = refl
bundle_fails rows word flags (suc k) = first_fails rows word flags k (slice_get (chars flags) 0)

short_fails : (rows : List Row) (word : Text) (o : Option Text) → fails (short_turn rows word o) ≡ true
short_fails rows word None = refl
short_fails rows word (Some flags) = bundle_fails rows word flags (length flags)

turn_fails : (rows : List Row) (word : Text) (o : Option (Text × Option Text)) → long_of word ≡ o → bytes_eq word (codes "--sessions") ≡ false
    → fails (turn_of rows word o) ≡ true
turn_fails rows word None is other = short_fails rows word (short_of word)
turn_fails rows word (Some p) is other = fails_first _ _ (long_fails rows p.0 p.1 (λ named bare.
    let name : codes "sessions" ≡ p.0 = (bytes_eq-Decides _ _).0 named in
    let whole : word ≡ codes "--sessions" = long_text word p is bare ∙ ap (λ t. 45 ∷ 45 ∷ t) (sym name) in
    let same : bytes_eq word (codes "--sessions") ≡ true = ap (λ t. bytes_eq t (codes "--sessions")) whole in
    let bad : true ≡ false = sym same ∙ other in
    cc))

other_fails : (rows : List Row) (word : Text) → bytes_eq word (codes "--") ≡ false → bytes_eq word (codes "--sessions") ≡ false
    → fails (turn_fault shape [] (at rows false) word) ≡ true
other_fails rows word no_end no_flag = rw no_end (turn_fails rows word (long_of word) refl no_flag)

-- ---- all arguments together

abbrev flag_rows : List Row
flag_rows = (walked shape.rules [] (at [] false) (codes "--sessions")).held.rows

abbrev told : Bool → Text
told true = codes "true"
told false = codes "false"

-- what clap finds if the arguments request sessions, or none
abbrev Takes : List Text → Bool → Type 0
Takes words sessions = (fault_of unitadm_app words ≡ [])
    × (one_of (codes "sessions") (matches_of unitadm_app words) ≡ Some (told sessions))

nothing_taken : Takes (codes "unitadm" ∷ []) false
unfolding clap_on_literals
nothing_taken = (refl, refl)

end_taken : Takes (codes "unitadm" ∷ codes "--" ∷ []) false
unfolding clap_on_literals
end_taken = (refl, refl)

flag_taken : Takes (codes "unitadm" ∷ codes "--sessions" ∷ []) true
unfolding clap_on_literals
flag_taken = (refl, refl)

flag_and_end_taken : Takes (codes "unitadm" ∷ codes "--sessions" ∷ codes "--" ∷ []) true
unfolding clap_on_literals
flag_and_end_taken = (refl, refl)

none_taken : Takes [] false
unfolding clap_on_literals
none_taken = (refl, refl)

no_more : (xs : List Text) → (length xs == 0) ≡ true → xs ≡ []
no_more [] e = refl
no_more (x ∷ xs) e = absurd (grind (arith, nat_tests))

-- the arguments that are accepted
end_is : (words : List Text) → is_end words ≡ true → (words ≡ []) ⊎ (words ≡ codes "--" ∷ [])
end_is [] e = inl refl
end_is (word ∷ rest) e =
    let parts = both (bytes_eq word (codes "--")) (length rest == 0) e in
    inr (ap₂ (λ w ws. w ∷ ws) ((bytes_eq-Decides word (codes "--")).0 parts.0) (no_more rest parts.1))

flag_is : (words : List Text) → is_flag words ≡ true → (rest : List Text) × (words ≡ codes "--sessions" ∷ rest) × (is_end rest ≡ true)
flag_is [] e = cc
flag_is (word ∷ rest) e =
    let parts = both (bytes_eq word (codes "--sessions")) (is_end rest) e in
    (rest, ap (λ w. w ∷ rest) ((bytes_eq-Decides word (codes "--sessions")).0 parts.0), parts.1)

from_some : {X : Type 0} (x y : X) → Some x ≡ Some y → x ≡ y
from_some x y e = cc

given_taken : (given : List Text) (sessions : Bool) → asked_by given ≡ Some sessions → Takes (codes "unitadm" ∷ given) sessions
given_taken given sessions asked = go (is_end given) refl (is_flag given) refl
  where
    at_end : (e : (given ≡ []) ⊎ (given ≡ codes "--" ∷ [])) → Takes (codes "unitadm" ∷ given) false
    at_end (inl none) = subst (λ ws. Takes (codes "unitadm" ∷ ws) false) (sym none) nothing_taken
    at_end (inr end) = subst (λ ws. Takes (codes "unitadm" ∷ ws) false) (sym end) end_taken

    at_flag : (rest : List Text) → given ≡ codes "--sessions" ∷ rest → (rest ≡ []) ⊎ (rest ≡ codes "--" ∷ []) → Takes (codes "unitadm" ∷ given) true
    at_flag rest is (inl none) =
        subst (λ ws. Takes (codes "unitadm" ∷ ws) true) (sym (is ∙ ap (λ ws. codes "--sessions" ∷ ws) none)) flag_taken
    at_flag rest is (inr end) =
        subst (λ ws. Takes (codes "unitadm" ∷ ws) true) (sym (is ∙ ap (λ ws. codes "--sessions" ∷ ws) end)) flag_and_end_taken

    go : (a : Bool) → is_end given ≡ a → (b : Bool) → is_flag given ≡ b → Takes (codes "unitadm" ∷ given) sessions
    go true end b flag =
        let is : Some false ≡ Some sessions = rw end at asked in
        subst (Takes (codes "unitadm" ∷ given)) (from_some false sessions is) (at_end (end_is given end))
    go false end true flag =
        let is : Some true ≡ Some sessions = rw (end, flag) at asked in
        let found = flag_is given flag in
        subst (Takes (codes "unitadm" ∷ given)) (from_some true sessions is) (at_flag found.0 found.1 (end_is found.0 found.2))
    go false end false flag =
        let bad : None ≡ Some sessions = rw (end, flag) at asked in
        cc

-- arguments that are valid are accepted, with the request that they specify
pub asked_taken : (words : List Text) (sessions : Bool) → sessions_of words ≡ Some sessions → Takes words sessions
asked_taken [] sessions asked = subst (Takes []) (from_some false sessions asked) none_taken
asked_taken (own ∷ given) sessions asked = given_taken given sessions asked

-- ---- the arguments that are rejected

-- after `--` no argument is accepted
after_end : (rows : List Row) (word : Text) (rest : List Text) → fails (walk_fault shape [] (at rows true) (word ∷ rest)) ≡ true
unfolding walk_fault
after_end rows word rest = refl

ended_fails : (rows : List Row) (word : Text) (rest : List Text) → word ≡ codes "--" → is_end (word ∷ rest) ≡ false
    → fails (walk_fault shape [] (at rows false) (word ∷ rest)) ≡ true
unfolding walk_fault walked
ended_fails rows word [] is more = let bad : true ≡ false = rw is at more in cc
ended_fails rows word (x ∷ rest) is more =
    subst (λ w. fails (walk_fault shape [] (at rows false) (w ∷ x ∷ rest)) ≡ true) (sym is) (after_end rows x rest)

unknown_fails : (rows : List Row) (word : Text) (rest : List Text) → bytes_eq word (codes "--") ≡ false → bytes_eq word (codes "--sessions") ≡ false
    → fails (walk_fault shape [] (at rows false) (word ∷ rest)) ≡ true
unfolding walk_fault
unknown_fails rows word rest no_end no_flag =
    fails_first (turn_fault shape [] (at rows false) word) (walk_fault shape [] (walked shape.rules [] (at rows false) word) rest) (other_fails rows word no_end no_flag)

twice_fails : (rest : List Text) → fails (walk_fault shape [] (at flag_rows false) (codes "--sessions" ∷ rest)) ≡ true
unfolding walk_fault walked
twice_fails rest = refl

-- after the flag, only the end is accepted
after_flag_fails : (rest : List Text) → is_end rest ≡ false → fails (walk_fault shape [] (at flag_rows false) rest) ≡ true
after_flag_fails [] more = cc
after_flag_fails (word ∷ rest) more = go (bytes_eq word (codes "--")) refl (bytes_eq word (codes "--sessions")) refl
  where
    go : (a : Bool) → bytes_eq word (codes "--") ≡ a → (b : Bool) → bytes_eq word (codes "--sessions") ≡ b
        → fails (walk_fault shape [] (at flag_rows false) (word ∷ rest)) ≡ true
    go true end b flag = ended_fails flag_rows word rest ((bytes_eq-Decides word (codes "--")).0 end) more
    go false end true flag =
        subst (λ w. fails (walk_fault shape [] (at flag_rows false) (w ∷ rest)) ≡ true) (sym ((bytes_eq-Decides word (codes "--sessions")).0 flag)) (twice_fails rest)
    go false end false flag = unknown_fails flag_rows word rest end flag

flagged_fails : (word : Text) (rest : List Text) → word ≡ codes "--sessions" → is_end rest ≡ false
    → fails (walk_fault shape [] (at [] false) (word ∷ rest)) ≡ true
unfolding walk_fault walked
flagged_fails word rest is more =
    subst (λ w. fails (walk_fault shape [] (at [] false) (w ∷ rest)) ≡ true) (sym is) (after_flag_fails rest more)

walk_fails : (given : List Text) → is_end given ≡ false → is_flag given ≡ false → fails (walk_fault shape [] (at [] false) given) ≡ true
walk_fails [] end flag = cc
walk_fails (word ∷ rest) end flag = go (bytes_eq word (codes "--")) refl (bytes_eq word (codes "--sessions")) refl
  where
    go : (a : Bool) → bytes_eq word (codes "--") ≡ a → (b : Bool) → bytes_eq word (codes "--sessions") ≡ b
        → fails (walk_fault shape [] (at [] false) (word ∷ rest)) ≡ true
    go true is b named = ended_fails [] word rest ((bytes_eq-Decides word (codes "--")).0 is) end
    go false is true named =
        let more : is_end rest ≡ false = rw named at flag in
        flagged_fails word rest ((bytes_eq-Decides word (codes "--sessions")).0 named) more
    go false is false named = unknown_fails [] word rest is named

given_fails : (given : List Text) → asked_by given ≡ None → fails (fault_of unitadm_app (codes "unitadm" ∷ given)) ≡ true
given_fails given unknown = go (is_end given) refl (is_flag given) refl
  where
    go : (a : Bool) → is_end given ≡ a → (b : Bool) → is_flag given ≡ b → fails (fault_of unitadm_app (codes "unitadm" ∷ given)) ≡ true
    go true end b flag = let bad : Some false ≡ None = rw end at unknown in cc
    go false end true flag = let bad : Some true ≡ None = rw (end, flag) at unknown in cc
    go false end false flag = fails_first _ _ (walk_fails given end flag)

-- invalid arguments are rejected
pub unknown_refused : (words : List Text) → sessions_of words ≡ None → fault_of unitadm_app words ≡ [] → ⊥
unknown_refused [] unknown none = cc
unknown_refused (own ∷ given) unknown none =
    let bad : false ≡ true = ap fails (sym none) ∙ given_fails given unknown in
    cc

-- ---- what the caller concludes

-- the flag, as it is read, is what the arguments request
pub flag_asked : (app : App) (words : List Text) (m : ArgMatches) (flag : Bool) → app ≡ unitadm_app
    → HasMatchesOf app words m → (is_simple_and_free app ≡ true → fault_of app words ≡ [])
    → (one_text (found_of m) (codes "sessions") ≡ Some (codes "true") → flag ≡ true)
    → (one_text (found_of m) (codes "sessions") ≡ Some (codes "false") → flag ≡ false)
    → sessions_of words ≡ Some flag
flag_asked app words m flag is has passes yes_flag no_flag = go (sessions_of words) refl
  where
    fault : fault_of unitadm_app words ≡ []
    fault = subst (λ a. is_simple_and_free a ≡ true → fault_of a words ≡ []) is passes is_simple_command

    rows : rows_of (found_of m) ≡ matches_of unitadm_app words
    rows = (subst (λ a. HasMatchesOf a words m) is has is_simple_app).0

    read : (sessions : Bool) → Takes words sessions → one_text (found_of m) (codes "sessions") ≡ Some (told sessions)
    read sessions takes = one_text-rows (found_of m) (codes "sessions") ∙ ap (one_of (codes "sessions")) rows ∙ takes.1

    is_read : (sessions : Bool) → Takes words sessions → flag ≡ sessions
    is_read true takes = yes_flag (read true takes)
    is_read false takes = no_flag (read false takes)

    go : (o : Option Bool) → sessions_of words ≡ o → sessions_of words ≡ Some flag
    go None asked = absurd (unknown_refused words asked fault)
    go (Some sessions) asked = asked ∙ ap (λ b. Some b) (sym (is_read sessions (asked_taken words sessions asked)))

-- an error other than out of memory occurs only for invalid arguments
pub error_unknown : (app : App) (words : List Text) (e : Error) → app ≡ unitadm_app
    → (is_simple_and_free app ≡ true → HasKind (fault_of app words) e) → (kind_of e ≡ OutOfMemory → ⊥)
    → sessions_of words ≡ None
error_unknown app words e is fails_by other = go (sessions_of words) refl
  where
    kinds : HasKind (fault_of unitadm_app words) e
    kinds = subst (λ a. is_simple_and_free a ≡ true → HasKind (fault_of a words) e) is fails_by is_simple_command

    go : (o : Option Bool) → sessions_of words ≡ o → sessions_of words ≡ None
    go None asked = asked
    go (Some sessions) asked =
        let known : HasKind [] e = subst (λ k. HasKind k e) (asked_taken words sessions asked).0 kinds in
        elim known [ inl memory ↦ absurd (other memory) | inr none ↦ absurd none ]
