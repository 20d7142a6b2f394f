-- The units that are enabled and disabled together: systemd.unit(5), "[Install] Section Options",
-- `Also=`. First they are a set, by its rules; the walk that lists them, with the notices, follows.
-- `closure_is_least` says that both are the same.
use Rattle.std.specs.Prelude.{◌≡◌, ℕ, zero, suc, ◌+◌, nat_lt, if◌then◌else◌, List, [], ◌∷◌, ◌++◌, Contains, Option, Some, None, Result, Ok, Err, length, slice_get}
use Rattle.std.specs.List.{list_any}
use Rattle.std.specs.Str.{bytes_eq}
use Rattle.std.specs.FinMap as map
use Rattle.unit_file.specs.declared.notice.NoticeKey.TheVariants.{Also}
use Rattle.unit_file.specs.declared.notice.Reason.{Reason}
use Rattle.unit_file.specs.declared.notice.Reason.TheVariants as reasons
use Rattle.unit_file.specs.Notices.{NoticeMap, with_notice}
use Rattle.unit_paths.specs.declared.place.Place.{Place}
use Rattle.link_tree.specs.Trees.{Entries}
use Rattle.load_path.specs.declared.finding.Found.{Found}
use Rattle.load_path.specs.declared.finding.Found.TheVariants.{Missing, Masked, Dangling, Unit}
use Rattle.load_path.specs.Search.{Search, over, giving, ◌>>=◌}
use Rattle.load_path.specs.Find.{find}
use Rattle.install_section.specs.declared.section.Section.{Section}
use Rattle.install_section.specs.declared.closed.Closed.{Closed}
use Rattle.install_section.specs.declared.closed.ClosureFault.{ClosureFault}
use Rattle.install_section.specs.declared.closed.ClosureFault.TheVariants.{TooMany}
use Rattle.install_section.specs.Words.{named_by, skipped}
use Rattle.install_section.specs.Sections.{section_of, identity_in}

-- A name is found as a unit with that own name.
abbrev pub IsUnit : Entries → (name : List ℕ) → Type 0
IsUnit t name = (file : List ℕ) × (place : Place) × ((find name).conclusion t ≡ Unit name file place)

-- A word of a unit's `Also=`, as it is written.
abbrev pub HasWord : Entries → (unit word : List ℕ) → Section → Type 0
HasWord t unit word section = ((section_of unit).conclusion t ≡ Some section) × Contains section.text.also word

-- A unit names another one: a word of it, expanded with its identity, is the name of a unit found
-- under its own name.
abbrev pub Names : Entries → (unit name : List ℕ) → Type 0
Names t unit name = (word : List ℕ) × (section : Section) × HasWord t unit word section × (named_by (identity_in unit section) word ≡ Ok name) × IsUnit t name

-- The least set that contains the given names and, with each name, those that its unit names.
pub data Reached (t : Entries) (given : List (List ℕ)) : List ℕ → Type 0 where
  Given : (name : List ℕ) → Contains given name → Reached t given name
  Named : (unit name : List ℕ) → Reached t given unit → Names t unit name → Reached t given name

-- From here on the walk: why what a name is found as doesn't join. It isn't a unit found under its
-- own name.
abbrev pub why_not : (name : List ℕ) → Found → Option Reason
why_not name Missing = Some reasons.NotFound
why_not name (Masked place) = Some reasons.Masked
why_not name (Dangling link) = Some reasons.Dangling
why_not name (Unit real file place) = if bytes_eq real name then None else Some reasons.IsAlias

-- the units with one more at the end; over 1,024 are too many
unfoldable pub joined : List (List ℕ) → List ℕ → Result (List (List ℕ)) ClosureFault
joined units name =
    if list_any (bytes_eq name) units then Ok units
    else if nat_lt (length units) 1024 then Ok (units ++ name ∷ [])
    else Err TooMany

-- continues with the units, unless there are too many
abbrev pub and_then : {X Y : Type 0} → (X → Result Y ClosureFault) → Result X ClosureFault → Result Y ClosureFault
and_then next (Ok x) = next x
and_then next (Err fault) = Err fault

abbrev pub all_joined : (names units : List (List ℕ)) → Result (List (List ℕ)) ClosureFault
all_joined [] units = Ok units
all_joined (name ∷ names) units = and_then (all_joined names) (joined units name)

-- these units, with these notices
abbrev pub closed_with : NoticeMap → List (List ℕ) → Result Closed ClosureFault
closed_with notices units = Ok (record { units = units; notices = notices })

-- skips a word, with a notice
abbrev pub skipping : (unit word : List ℕ) → Closed → Reason → Result Closed ClosureFault
skipping unit word closed reason = closed_with (with_notice closed.notices (skipped unit Also word reason)) closed.units

-- adds a name, unless there is a reason not to
abbrev pub joined_unless : (unit word name : List ℕ) → Closed → Option Reason → Result Closed ClosureFault
joined_unless unit word name closed None = and_then (closed_with closed.notices) (joined closed.units name)
joined_unless unit word name closed (Some reason) = skipping unit word closed reason

-- looks a name up, even if its unit is there already, and adds it
abbrev pub with_name : (unit word : List ℕ) → Closed → Result (List ℕ) Reason → Search (Result Closed ClosureFault)
with_name unit word closed (Ok name) = giving (find name) (λ found. joined_unless unit word name closed (why_not name found))
with_name unit word closed (Err reason) = over (skipping unit word closed reason)

abbrev pub unless_too_many : {X : Type 0} → (X → Search (Result Closed ClosureFault)) → Result X ClosureFault → Search (Result Closed ClosureFault)
unless_too_many next (Ok x) = next x
unless_too_many next (Err fault) = over (Err fault)

-- the words of a unit's `Also=`, as they are written
abbrev pub with_words : (unit identity : List ℕ) → (words : List (List ℕ)) → Closed → Search (Result Closed ClosureFault)
with_words unit identity [] closed = over (Ok closed)
with_words unit identity (word ∷ words) closed = do
  grown ← with_name unit word closed (named_by identity word)
  unless_too_many (with_words unit identity words) grown

abbrev pub with_section : (unit : List ℕ) → Closed → Option Section → Search (Result Closed ClosureFault)
with_section unit closed None = over (Ok closed)
with_section unit closed (Some section) = with_words unit (identity_in unit section) section.text.also closed

-- adds what a unit names
unfoldable pub with_unit : (unit : List ℕ) → Closed → Search (Result Closed ClosureFault)
with_unit unit closed = do
  section ← section_of unit
  with_section unit closed section

abbrev pub with_unit_at : (Closed → Search (Result Closed ClosureFault)) → Closed → Option (List ℕ) → Search (Result Closed ClosureFault)
with_unit_at next closed None = over (Ok closed)
with_unit_at next closed (Some unit) = do
  grown ← with_unit unit closed
  unless_too_many next grown

-- from the unit at this position on, at most `more` units
unfoldable pub closed_from : (more place : ℕ) → Closed → Search (Result Closed ClosureFault)
closed_from zero place closed = over (Ok closed)
closed_from (suc more) place closed = with_unit_at (closed_from more (place + 1)) closed (slice_get closed.units place)

-- The given units, and then, unit after unit in the order in which they are found, what each names.
unfoldable pub closure : (given : List (List ℕ)) → Search (Result Closed ClosureFault)
closure given = unless_too_many (closed_from 1024 0) (and_then (closed_with map.empty) (all_joined given []))
