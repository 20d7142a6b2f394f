-- Laws of closures, each the contract of a public function.
use Rattle.std.specs.Prelude.{◌≡◌, ℕ, ◌↔◌, ◌⊎◌, List, All, Contains, true, Some, is_some, Result, Ok, Err, length}
use Rattle.std.specs.List.{IsDistinct}
use Rattle.std.specs.Str.{bytes_eq}
use Rattle.std.specs.FinMap as map
use Rattle.unit_file.specs.declared.notice.Notice.{Notice}
use Rattle.unit_file.specs.declared.notice.NoticeKey.TheVariants.{Also}
use Rattle.unit_file.specs.declared.notice.Reason.{Reason}
use Rattle.unit_file.specs.Notices.{notice_line}
use Rattle.link_tree.specs.Trees.{Entries}
use Rattle.load_path.specs.Find.{find}
use Rattle.install_section.specs.declared.section.Section.{Section}
use Rattle.install_section.specs.declared.closed.Closed.{Closed}
use Rattle.install_section.specs.declared.closed.ClosureFault.{ClosureFault}
use Rattle.install_section.specs.declared.closed.ClosureFault.TheVariants.{TooMany}
use Rattle.install_section.specs.Words.{named_by, skipped}
use Rattle.install_section.specs.Sections.{identity_in}
use Rattle.install_section.specs.Closure.{HasWord, Reached, why_not, closure}

-- why a word names no unit that is found under its own name: it is not a name, or the reason that
-- its unit isn't found so
abbrev pub IsNone : Entries → (identity word : List ℕ) → Reason → Type 0
IsNone t identity word reason =
    (named_by identity word ≡ Err reason) ⊎ ((name : List ℕ) × (named_by identity word ≡ Ok name) × (why_not name ((find name).conclusion t) ≡ Some reason))

-- A word of a unit is skipped for a reason, and this is its notice.
abbrev pub IsSkipped : Entries → (unit : List ℕ) → Notice → Type 0
IsSkipped t unit notice =
    (word : List ℕ) × (section : Section) × (reason : Reason) × HasWord t unit word section × IsNone t (identity_in unit section) word reason × (notice ≡ skipped unit Also word reason)

-- The walk lists the units of the closure, each once, and no others.
abbrev pub ClosureIsLeast : Type 0
ClosureIsLeast = (given : List (List ℕ)) (t : Entries) (closed : Closed) → (closure given).conclusion t ≡ Ok closed
    → IsDistinct bytes_eq closed.units × ((name : List ℕ) → Contains closed.units name ↔ Reached t given name)

-- It is refused exactly if that set has over 1,024 names.
abbrev pub RefusedWhereTooMany : Type 0
RefusedWhereTooMany = (given : List (List ℕ)) (t : Entries) → ((closure given).conclusion t ≡ Err TooMany)
    ↔ ((names : List (List ℕ)) × IsDistinct bytes_eq names × (length names ≡ 1025) × All (Reached t given) names)

-- Each skipped word of each unit is reported, in a line of its own, and nothing else is.
pub record TellsOfSkipped (t : Entries) (closed : Closed) : Type 0 where
  pub all_told : (unit : List ℕ) (notice : Notice) → Contains closed.units unit → IsSkipped t unit notice → is_some (map.get closed.notices (notice_line notice)) ≡ true
  pub only : (line : List ℕ) (notice : Notice) → map.get closed.notices line ≡ Some notice
      → ((unit : List ℕ) × Contains closed.units unit × IsSkipped t unit notice) × (line ≡ notice_line notice)

abbrev pub NoticesAreOfSkippedWords : Type 0
NoticesAreOfSkippedWords = (given : List (List ℕ)) (t : Entries) (closed : Closed) → (closure given).conclusion t ≡ Ok closed → TellsOfSkipped t closed

-- the same units, in whatever order, and the same lines of notices
pub record AreSame (one other : Closed) : Type 0 where
  pub units : (name : List ℕ) → Contains one.units name ↔ Contains other.units name
  pub lines : (line : List ℕ) → is_some (map.get one.notices line) ≡ is_some (map.get other.notices line)

-- both results are the same in this sense
abbrev pub ComeToSame : (one other : Result Closed ClosureFault) → Type 0
ComeToSame (Ok one) (Ok other) = AreSame one other
ComeToSame (Err TooMany) (Err TooMany) = Unit {0}
ComeToSame one other = ⊥

-- The order of the given units, and how often one is given, doesn't matter.
abbrev pub AnyOrder : Type 0
AnyOrder = (given other : List (List ℕ)) (t : Entries) → ((name : List ℕ) → Contains given name ↔ Contains other name)
    → ComeToSame ((closure given).conclusion t) ((closure other).conclusion t)
