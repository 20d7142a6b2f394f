-- The links that units want when they are enabled: systemd.unit(5), "[Install] Section Options".
use Rattle.std.specs.Prelude.{ℕ, Bool, if◌then◌else◌, List, [], ◌∷◌, Option, Some, None, Result, Ok, Err}
use Rattle.std.specs.Ordering.{is_lt}
use Rattle.std.specs.Str.{bytes_eq}
use Rattle.std.specs.FinMap as map
use Rattle.unit_file.specs.Notices.{with_notice}
use Rattle.unit_paths.specs.declared.place.Place.{Place}
use Rattle.unit_paths.specs.declared.place.Scope.{Scope}
use Rattle.unit_paths.specs.Places.{scope_place}
use Rattle.link_tree.specs.Trees.{path_cmp}
use Rattle.load_path.specs.Search.{Search, over, giving, ◌>>=◌}
use Rattle.install_section.specs.declared.section.Section.{Section}
use Rattle.install_section.specs.declared.wish.LinkKey.{LinkKey}
use Rattle.install_section.specs.declared.wish.LinkKey.TheVariants.{WantedBy, RequiredBy, UpheldBy, Alias}
use Rattle.install_section.specs.declared.wish.Wish.{Wish}
use Rattle.install_section.specs.declared.wish.Wish.TheVariants.{Link, Skip, NoInstance}
use Rattle.install_section.specs.declared.wants.Wants.{Wants}
use Rattle.install_section.specs.declared.wants.Wanted.{Wanted}
use Rattle.install_section.specs.declared.wants.WantedFault.{WantedFault}
use Rattle.install_section.specs.declared.wants.WantedFault.TheVariants.{NeedsInstance, Clash}
use Rattle.install_section.specs.Words.{skipped}
use Rattle.install_section.specs.Sections.{section_of, identity_in}
use Rattle.install_section.specs.Wishes.{wish, words_for, notice_key}

-- the least of the texts so far, if there are any, and of another one
abbrev pub least_with : Option (List ℕ) → List ℕ → Option (List ℕ)
least_with None text = Some text
least_with (Some least) text = if is_lt (path_cmp text least) then Some text else Some least

-- Adds a wanted link at a path, given what is wanted there already. The first target stays, and the
-- least path with a second, different one is recorded.
abbrev pub with_link : (path file : List ℕ) → Wants → (there : Option (List ℕ)) → Wants
with_link path file wants None = record wants { links = map.insert wants.links path file }
with_link path file wants (Some other) = if bytes_eq other file then wants else record wants { clash = least_with wants.clash path }

-- records a template that needs an instance, if it is the least one, unless such words are left out
abbrev pub with_nameless : (skip : Bool) → (unit : List ℕ) → Wants → Wants
with_nameless skip unit wants = if skip then wants else record wants { nameless = least_with wants.nameless unit }

-- what one word of a unit with this file asks for
abbrev pub with_wish : (skip : Bool) → (unit file : List ℕ) → LinkKey → (word : List ℕ) → Wants → Wish → Wants
with_wish skip unit file key word wants (Link path) = with_link path file wants (map.get wants.links path)
with_wish skip unit file key word wants (Skip reason) = record wants { notices = with_notice wants.notices (skipped unit (notice_key key) word reason) }
with_wish skip unit file key word wants NoInstance = with_nameless skip unit wants

-- adds the words of a list
abbrev pub with_words : Place → (skip : Bool) → (unit identity file : List ℕ) → LinkKey → (words : List (List ℕ)) → Wants → Wants
with_words place skip unit identity file key [] wants = wants
with_words place skip unit identity file key (word ∷ words) wants =
    with_words place skip unit identity file key words (with_wish skip unit file key word wants (wish place key unit identity word))

-- adds one of the lists of a section
abbrev pub with_list : Place → (skip : Bool) → (unit : List ℕ) → Section → LinkKey → Wants → Wants
with_list place skip unit section key wants = with_words place skip unit (identity_in unit section) section.file key (words_for key section.text) wants

abbrev pub with_section : Place → (skip : Bool) → (unit : List ℕ) → Wants → Option Section → Wants
with_section place skip unit wants None = wants
with_section place skip unit wants (Some section) =
    with_list place skip unit section Alias (with_list place skip unit section UpheldBy (with_list place skip unit section RequiredBy (with_list place skip unit section WantedBy wants)))

-- unit after unit
abbrev pub all_wants : Place → (skip : Bool) → (units : List (List ℕ)) → Wants → Search Wants
all_wants place skip [] wants = over wants
all_wants place skip (unit ∷ units) wants = do
  section ← section_of unit
  all_wants place skip units (with_section place skip unit wants section)

abbrev pub no_wants : Wants
no_wants = record { links = map.empty; notices = map.empty; nameless = None; clash = None }

-- A template that needs an instance is reported before a path that is wanted twice.
abbrev pub settled : Wants → (nameless clash : Option (List ℕ)) → Result Wanted WantedFault
settled wants (Some unit) clash = Err (NeedsInstance unit)
settled wants None (Some path) = Err (Clash path)
settled wants None None = Ok (record { links = wants.links; notices = wants.notices })

abbrev pub verdict : Wants → Result Wanted WantedFault
verdict wants = settled wants wants.nameless wants.clash

-- The links that the units want in a scope, with the notices about skipped words; with `skip` a
-- word that would need an instance asks for nothing.
unfoldable pub wanted : (units : List (List ℕ)) → Scope → (skip : Bool) → Search (Result Wanted WantedFault)
wanted units scope skip = giving (all_wants (scope_place scope) skip units no_wants) verdict
