-- What link, add-wants, add-requires and set-default leave.
use Rattle.std.proofs.Common.{◌≡◌, ℕ, true, false, cond, List, [], ◌∷◌, Option, Some, None, Result, Ok, Err, All, Contains, refl, sym, ap, subst, ◌∙◌, inl, inr}
use Rattle.std.specs.Str.{bytes_eq}
use Rattle.std.specs.FinMap as map
use Rattle.std.proofs.lemmas.Bool.{cases_Bool, false≢true}
use Rattle.std.proofs.lemmas.List.Elements.{All-nil, All-cons, Contains-append_left, Contains-append_right, Contains-push}
use Rattle.std.proofs.lemmas.Slice.Eq.{bytes_eq-Decides}
use Rattle.unit_name.specs.Name.{is_unit_name, type_of}
use Rattle.link_tree.specs.declared.entry.Entry.{Entry}
use Rattle.link_tree.specs.declared.entry.Entry.TheVariants.{File, Link}
use Rattle.unit_paths.specs.declared.place.Place.{Place}
use Rattle.unit_paths.specs.declared.slot.Dependency.{Dependency}
use Rattle.unit_paths.specs.Canonical.{canonical}
use Rattle.unit_paths.specs.Slots.{unit_slot, dependency_slot, slot_of}
use Rattle.unit_paths.specs.Kinds.{is_unit_slot}
use Rattle.unit_paths.specs.Places.{scope_place}
use Rattle.unit_paths.specs.Paths.{name_at}
use Rattle.link_tree.specs.Trees.{Entries, set_entry, after_changes}
use Rattle.link_tree.proofs.Changed.{same_bytes, get-set}
use Rattle.load_path.specs.declared.following.End.{End}
use Rattle.load_path.specs.declared.following.End.TheVariants as ends
use Rattle.load_path.specs.declared.finding.Found.{Found}
use Rattle.load_path.specs.declared.finding.Found.TheVariants as founds
use Rattle.load_path.specs.Follow.{follow}
use Rattle.load_path.specs.Find.{find}
use Rattle.footprint.specs.declared.answer.Answer.TheVariants.{Done}
use Rattle.tree_access.specs.declared.refusal.Refusal.{Refusal}
use Rattle.tree_access.specs.declared.refusal.Refusal.TheVariants.{Exists, NeedsInstance, BadType}
use Rattle.tree_access.specs.declared.refusal.Subject.TheVariants as subjects
use Rattle.tree_access.specs.Placing.{Ruling, ruled_at}
use Rattle.footprint.specs.Commands.{effect}
use Rattle.footprint.specs.Steps.{Step, ruled, unless_refused, each_in_turn}
use Rattle.tree_access.specs.Rules.{is_same_path, leads_alike, link_at, relink_at, LeadsAs}
use Rattle.slot_commands.specs.LinkUnits.{link_file, link_end, link_unit, IsLinked, FilesAreLinked}
use Rattle.footprint.specs.Units.{found_unit, IsFound}
use Rattle.unit_file.specs.Listed.{is_template_name}
use Rattle.slot_commands.specs.AddTo.{as_dependency, default_of, name_listed, add_listed, add_file, add_unit, add_units, IsListedBetween, DependenciesAreAdded}
use Rattle.slot_commands.specs.SetDefault.{default_slot, is_target_type, default_file, IsRelinked, DefaultIsSet}
use Rattle.slot_commands.specs.Effects.{Keeps, AddsOnly}
use Rattle.footprint.proofs.Turns.{left_by, leaves, goes_on, in_turn, all_turns}
use Rattle.slot_commands.proofs.Outcomes.{placed_leads}

some_none : {P : Type 0} (entry : Entry) → None ≡ Some entry → P
some_none entry h = cc

same_path : (one other : Option (List ℕ)) → is_same_path one other ≡ true → one ≡ other
same_path (Some one) (Some other) h = ap (λ path. Some path) (same_bytes one other h)
same_path (Some one) None h = absurd (false≢true h)
same_path None (Some other) h = absurd (false≢true h)
same_path None None h = absurd (false≢true h)

-- an entry has been placed at a slot
module _ (u : Entries) (slot : List ℕ) (entry : Entry) where
  abbrev set : Entries
  set = set_entry u slot (Some entry)

  set_here : map.get set slot ≡ Some entry
  set_here = get-set u slot (Some entry) slot ∙ ap (λ b. cond b (Some entry) (map.get u slot)) ((bytes_eq-Decides slot slot).1 refl)

  set_away : (path : List ℕ) → bytes_eq path slot ≡ false → map.get set path ≡ map.get u path
  set_away path away = get-set u slot (Some entry) path ∙ ap (λ b. cond b (Some entry) (map.get u path)) away

  kept_where : ((other : Entry) → map.get u slot ≡ Some other → other ≡ entry) → Keeps u set
  kept_where free = λ path other there. elim (cases_Bool (bytes_eq path slot)) [
    | inl here ↦ (let at = same_bytes path slot here in
        ap (map.get set) at ∙ set_here ∙ ap (λ e. Some e) (sym (free other (ap (map.get u) (sym at) ∙ there))))
    | inr away ↦ set_away path away ∙ there
  ]

  only_here : AddsOnly (λ path other. (path ≡ slot) × (other ≡ entry)) u set
  only_here = λ path other none there. elim (cases_Bool (bytes_eq path slot)) [
    | inl here ↦ (let at = same_bytes path slot here in
        (at, (let same : Some other ≡ Some entry = sym there ∙ ap (map.get set) at ∙ set_here in cc)))
    | inr away ↦ some_none other (sym none ∙ sym (set_away path away) ∙ there)
  ]

-- What the tree is like after a link to a target was made at a slot.
pub record Makes (slot target : List ℕ) (u v : Entries) : Type 0 where
  pub kept : Keeps u v
  pub only : AddsOnly (λ path entry. (path ≡ slot) × (entry ≡ Link target)) u v
  pub leads : LeadsAs v slot target

-- a link is made at a slot
module _ (slot target : List ℕ) (u : Entries) where
  made : map.get u slot ≡ None → Makes slot target u (set_entry u slot (Some (Link target)))
  made none = record {
    kept = kept_where u slot (Link target) (λ other there. some_none other (sym none ∙ there));
    only = only_here u slot (Link target);
    leads = (target, set_here u slot (Link target), refl);
  }

  stays : (text : List ℕ) → map.get u slot ≡ Some (Link text) → leads_alike slot text target ≡ true → Makes slot target u (set_entry u slot (Some (Link text)))
  stays text at alike = record {
    kept = kept_where u slot (Link text) (λ other there. (let same : Some (Link text) ≡ Some other = sym at ∙ there in cc));
    only = λ path other none there. (let where_is = only_here u slot (Link text) path other none there in some_none (Link text) (sym none ∙ ap (map.get u) where_is.0 ∙ at));
    leads = (text, set_here u slot (Link text), same_path (canonical slot text) (canonical slot target) alike);
  }

  linked_at : (there : Option Entry) (v : Entries) → map.get u slot ≡ there → left_by (ruled_at slot (link_at target slot there)) u ≡ Ok v → Makes slot target u v
  linked_at None v at is = let same : set_entry u slot (Some (Link target)) ≡ v = cc in subst (Makes slot target u) same (made at)
  linked_at (Some (File contents)) v at is = cc
  linked_at (Some (Link text)) v at is = elim (cases_Bool (leads_alike slot text target)) [
    | inl alike ↦ (let left : Ok (set_entry u slot (Some (Link text))) ≡ Ok v = rw alike at is in
        let same : set_entry u slot (Some (Link text)) ≡ v = cc in subst (Makes slot target u) same (stays text at alike))
    | inr other ↦ (let left : left_by (Err (Exists slot)) u ≡ Ok v = rw other at is in cc)
  ]

  linked : (v : Entries) → left_by ((ruled (link_at target) slot).conclusion u) u ≡ Ok v → Makes slot target u v
  linked v is = linked_at (map.get u slot) v refl is

-- what steps do one after another, starting from a first tree, if each keeps what is there
module _ {A : Type 0} (first : Entries) (step : A → Step) (IsNew : Entries → A → List ℕ → Entry → Type 0) (IsDone : Entries → A → Type 0)
    (stays_new : (a : A) (u v : Entries) (path : List ℕ) (entry : Entry) → Keeps u v → IsNew u a path entry → IsNew v a path entry)
    (stays_done : (a : A) (u v : Entries) → Keeps u v → IsDone u a → IsDone v a) where
  abbrev One : A → Entries → Entries → Type 0
  One a u v = Keeps u v × (AddsOnly (IsNew v a) u v × IsDone v a)

  abbrev IsNewOfOne : Entries → List A → List ℕ → Entry → Type 0
  IsNewOfOne v args path entry = (a : A) × Contains args a × IsNew v a path entry

  abbrev Every : List A → Entries → Entries → Type 0
  Every args u v = Keeps u v × (AddsOnly (IsNewOfOne v args) u v × All (IsDone v) args)

  new_of_one : (a : A) (rest : List A) (u w v : Entries) → One a u w → Every rest w v → (path : List ℕ) (entry : Entry) (there : Option Entry) → map.get w path ≡ there → map.get u path ≡ None → map.get v path ≡ Some entry → IsNewOfOne v (a ∷ rest) path entry
  new_of_one a rest u w v one later path entry None at none is =
      let found = later.1.0 path entry at is in
      (found.0, Contains-append_right (a ∷ []) rest found.0 found.1, found.2)
  new_of_one a rest u w v one later path entry (Some other) at none is =
      let same : other ≡ entry = (let both : Some other ≡ Some entry = sym (later.0 path other at) ∙ is in cc) in
      (a, Contains-append_left (a ∷ []) rest a (Contains-push [] a), stays_new a w v path entry later.0 (subst (IsNew w a path) same (one.1.0 path other none at)))

  module _ (one : (a : A) (u v : Entries) → Keeps first u → leaves (step a) u ≡ Ok v → One a u v) where
    one_more : (a : A) (rest : List A) (u v : Entries) → Keeps first u → ((w : Entries) → Keeps first w → in_turn step rest w ≡ Ok v → Every rest w v) → (r : Result Entries Refusal) → leaves (step a) u ≡ r → goes_on (in_turn step rest) r ≡ Ok v → Every (a ∷ rest) u v
    one_more a rest u v since every_rest (Ok w) at is =
        let done = one a u w since at in
        let later = every_rest w (λ path entry there. done.0 path entry (since path entry there)) is in (
          λ path entry there. later.0 path entry (done.0 path entry there),
          (
            λ path entry none there. new_of_one a rest u w v done later path entry (map.get w path) refl none there,
            All-cons (IsDone v) a rest (stays_done a w v later.0 done.1.1) later.1.1,
          ),
        )
    one_more a rest u v since every_rest (Err refusal) at is = cc

    every_since : (args : List A) (u v : Entries) → Keeps first u → in_turn step args u ≡ Ok v → Every args u v
    every_since [] u v since is =
        let same : u ≡ v = cc in
        subst (Every [] u) same (λ path entry there. there, (λ path entry none there. some_none entry (sym none ∙ there), All-nil (IsDone u)))
    every_since (a ∷ rest) u v since is = one_more a rest u v since (λ w kept left. every_since rest w v kept left) (leaves (step a) u) refl is

    every : (args : List A) (v : Entries) → in_turn step args first ≡ Ok v → Every args first v
    every args v is = every_since args first v (λ path entry there. there) is

-- an accepted command leaves the tree with everything placed
left_tree : (t : Entries) (ruling : Ruling) → (effect t map.empty ruling).answer ≡ Done map.empty → left_by ruling t ≡ Ok (after_changes (effect t map.empty ruling).changes t)
left_tree t (Ok placed) is = ap (λ m. Ok m) (sym (placed_leads t placed))
left_tree t (Err refusal) is = cc

leads_kept : (path target : List ℕ) (u v : Entries) → Keeps u v → LeadsAs u path target → LeadsAs v path target
leads_kept path target u v kept leads = (leads.0, kept path (Link leads.0) leads.1, leads.2)

-- one path is linked
module _ (place : Place) where
  abbrev IsNewLink : List ℕ → List ℕ → Entry → Type 0
  IsNewLink file path entry = (path ≡ unit_slot place (name_at file)) × (entry ≡ Link file)

  linked_kept : (file : List ℕ) (u v : Entries) → Keeps u v → IsLinked place u file → IsLinked place v file
  linked_kept file u v kept (inl unit) = inl unit
  linked_kept file u v kept (inr leads) = inr (leads_kept (unit_slot place (name_at file)) file u v kept leads)

  abbrev OneLink : List ℕ → Entries → Entries → Type 0
  OneLink file u v = Keeps u v × (AddsOnly (IsNewLink file) u v × IsLinked place v file)

  file_linked : (file : List ℕ) (u v : Entries) → left_by ((link_file place file).conclusion u) u ≡ Ok v → OneLink file u v
  file_linked file u v is = elim (cases_Bool (is_unit_name (name_at file))) [
    | inl named ↦ elim (cases_Bool (is_unit_slot (slot_of file))) [
      | inl unit ↦ (let left : Ok u ≡ Ok v = rw (named, unit) at is in
          let same : u ≡ v = cc in
          subst (OneLink file u) same (λ path entry there. there, (λ path entry none there. some_none entry (sym none ∙ there), inl unit)))
      | inr other ↦ (let makes = linked (unit_slot place (name_at file)) file u v (rw (named, other) at is) in (makes.kept, (makes.only, inr makes.leads)))
    ]
    | inr bad ↦ (let left : Err _ ≡ Ok v = rw bad at is in cc)
  ]

  end_linked : (file : List ℕ) (u v : Entries) (end : End) → left_by ((link_end place file end).conclusion u) u ≡ Ok v → OneLink file u v
  end_linked file u v ends.Missing is = cc
  end_linked file u v ends.Null is = cc
  end_linked file u v (ends.Dangling link) is = cc
  end_linked file u v (ends.File end) is = file_linked file u v is

  one_linked : (file : List ℕ) (u v : Entries) → leaves (link_unit place file) u ≡ Ok v → OneLink file u v
  unfolding link_unit
  one_linked file u v is = end_linked file u v ((follow file).conclusion u) is

pub files_are_linked : FilesAreLinked
files_are_linked = λ link t done.
    let place = scope_place link.scope in
    let ruling = (each_in_turn (link_unit place) link.paths).conclusion t in
    let all = every t (link_unit place) (λ u. IsNewLink place) (IsLinked place) (λ file u v path entry kept new. new) (linked_kept place) (λ file u v since is. one_linked place file u v is) link.paths (after_changes (effect t map.empty ruling).changes t) (sym (all_turns (link_unit place) link.paths t) ∙ left_tree t ruling done) in
    record { kept = all.0; only = all.1.0; linked = all.1.1 }

-- one unit is listed by another
module _ (first : Entries) (place : Place) (dependency : Dependency) (by : List ℕ) where
  abbrev IsNewListing : Entries → List ℕ → List ℕ → Entry → Type 0
  IsNewListing v unit path entry = (name file : List ℕ) × IsListedBetween first v by unit name file × (path ≡ dependency_slot place dependency by name) × (entry ≡ Link file)

  abbrev IsListing : Entries → List ℕ → Type 0
  IsListing v unit = (name file : List ℕ) × IsListedBetween first v by unit name file × LeadsAs v (dependency_slot place dependency by name) file

  between_kept : (unit name file : List ℕ) (u v : Entries) → Keeps u v → IsListedBetween first u by unit name file → IsListedBetween first v by unit name file
  between_kept unit name file u v kept (m, since, until, listed) = (m, since, (λ path entry there. kept path entry (until path entry there)), listed)

  new_kept : (unit : List ℕ) (u v : Entries) (path : List ℕ) (entry : Entry) → Keeps u v → IsNewListing u unit path entry → IsNewListing v unit path entry
  new_kept unit u v path entry kept (name, file, between, at, is) = (name, file, between_kept unit name file u v kept between, at, is)

  listing_kept : (unit : List ℕ) (u v : Entries) → Keeps u v → IsListing u unit → IsListing v unit
  listing_kept unit u v kept (name, file, between, leads) = (name, file, between_kept unit name file u v kept between, leads_kept (dependency_slot place dependency by name) file u v kept leads)

  abbrev OneListing : List ℕ → Entries → Entries → Type 0
  OneListing unit u v = Keeps u v × (AddsOnly (IsNewListing v unit) u v × IsListing v unit)

  module _ (unit real file : List ℕ) (u : Entries) (since : Keeps first u) (found : IsFound u unit real file) where
    option_listed : (v : Entries) (name : Option (List ℕ)) → name_listed by real (default_of (map.get u file)) ≡ name → left_by ((add_listed place dependency by real file name).conclusion u) u ≡ Ok v → OneListing unit u v
    option_listed v None listed is = cc
    option_listed v (Some name) listed is =
        let makes = linked (dependency_slot place dependency by name) file u v is in
        let between : IsListedBetween first v by unit name file = (u, since, makes.kept, (real, found, listed)) in
        (makes.kept, (λ path entry none there. (let new = makes.only path entry none there in (name, file, between, new.0, new.1)), (name, file, between, makes.leads)))

    file_listed : (v : Entries) → leaves (add_file place dependency by real file) u ≡ Ok v → OneListing unit u v
    unfolding add_file
    file_listed v is = option_listed v (name_listed by real (default_of (map.get u file))) refl is

  found_listed : (unit : List ℕ) (u v : Entries) → Keeps first u → (found : Found) → (find unit).conclusion u ≡ found → left_by ((unless_refused (λ (unit : List ℕ × List ℕ). add_file place dependency by unit.0 unit.1) (found_unit unit found)).conclusion u) u ≡ Ok v → OneListing unit u v
  found_listed unit u v since founds.Missing at is = cc
  found_listed unit u v since (founds.Masked place) at is = cc
  found_listed unit u v since (founds.Dangling link) at is = cc
  found_listed unit u v since (founds.Unit real file where_is) at is = file_listed unit real file u since (where_is, at) v is

  one_listed : (unit : List ℕ) (u v : Entries) → Keeps first u → leaves (add_unit place dependency by unit) u ≡ Ok v → OneListing unit u v
  unfolding add_unit
  one_listed unit u v since is = found_listed unit u v since ((find unit).conclusion u) refl is

-- the unit that is found
module _ (name : List ℕ) (t : Entries) (on : (real file : List ℕ) → Step) where
  abbrev ruling_of : Found → Ruling
  ruling_of found = (unless_refused (λ (unit : List ℕ × List ℕ). on unit.0 unit.1) (found_unit name found)).conclusion t

  -- an accepted command has found the unit
  was_found : (found : Found) → (find name).conclusion t ≡ found → (effect t map.empty (ruling_of found)).answer ≡ Done map.empty
      → (real : List ℕ) × (file : List ℕ) × IsFound t name real file × (ruling_of found ≡ (on real file).conclusion t)
  was_found founds.Missing at is = cc
  was_found (founds.Masked place) at is = cc
  was_found (founds.Dangling link) at is = cc
  was_found (founds.Unit real file place) at is = (real, file, (place, at), refl)

pub dependencies_are_added : DependenciesAreAdded
dependencies_are_added = λ add t done.
    let place = scope_place add.scope in
    let dependency = as_dependency add.dependency in
    let on : List ℕ → List ℕ → Step = λ real file. add_units place dependency add.units real in
    let unit = was_found add.target t on ((find add.target).conclusion t) refl done in
    let by = unit.0 in
    let ruling = ruling_of add.target t on ((find add.target).conclusion t) in
    let left : left_by ((add_units place dependency add.units by).conclusion t) t ≡ Ok (after_changes (effect t map.empty ruling).changes t) = ap (λ v. left_by v t) (sym unit.3) ∙ left_tree t ruling done in
    let all = every t (add_unit place dependency by) (IsNewListing t place dependency by) (IsListing t place dependency by) (new_kept t place dependency by) (listing_kept t place dependency by) (one_listed t place dependency by) add.units (after_changes (effect t map.empty ruling).changes t) (sym (all_turns (add_unit place dependency by) add.units t) ∙ left) in
    record {
      by = by;
      file = unit.1;
      found = unit.2;
      kept = all.0;
      only = λ path entry none there. (let new = all.1.0 path entry none there in (new.0, new.2.0, new.2.1, new.1, new.2.2, new.2.3, new.2.4));
      added = all.1.1;
    }

-- the link of default.target is made
module _ (t : Entries) (file : List ℕ) where
  abbrev Relinks : Entries → Type 0
  Relinks u = LeadsAs u default_slot file × IsRelinked t u default_slot file × ((path : List ℕ) → bytes_eq path default_slot ≡ false → map.get u path ≡ map.get t path)

  abbrev Leaves : List ℕ → Type 0
  Leaves text = IsRelinked t (set_entry t default_slot (Some (Link text))) default_slot file

  relinked : (text : List ℕ) (u : Entries) → canonical default_slot text ≡ canonical default_slot file → Leaves text → set_entry t default_slot (Some (Link text)) ≡ u → Relinks u
  relinked text u leads how same = subst Relinks same ((text, set_here t default_slot (Link text), leads), how, set_away t default_slot (Link text))

  -- no link at the slot leads to the file
  replaced : ((text : List ℕ) → map.get t default_slot ≡ Some (Link text) → leads_alike default_slot text file ≡ false) → Leaves file
  replaced none = inr (none, set_here t default_slot (Link file))

  no_other : (text other : List ℕ) → map.get t default_slot ≡ Some (Link text) → leads_alike default_slot text file ≡ false → map.get t default_slot ≡ Some (Link other) → leads_alike default_slot other file ≡ false
  no_other text other at unlike there =
      let both : Some (Link text) ≡ Some (Link other) = sym at ∙ there in
      let same : text ≡ other = cc in
      subst (λ one. leads_alike default_slot one file ≡ false) same unlike

  relinked_at : (there : Option Entry) (u : Entries) → map.get t default_slot ≡ there → left_by (ruled_at default_slot (relink_at file default_slot there)) t ≡ Ok u → Relinks u
  relinked_at None u at is = relinked file u refl (replaced (λ text there. some_none (Link text) (sym at ∙ there))) (let same : set_entry t default_slot (Some (Link file)) ≡ u = cc in same)
  relinked_at (Some (File contents)) u at is = cc
  relinked_at (Some (Link text)) u at is = elim (cases_Bool (leads_alike default_slot text file)) [
    | inl alike ↦ (let left : Ok (set_entry t default_slot (Some (Link text))) ≡ Ok u = rw alike at is in
        relinked text u (same_path (canonical default_slot text) (canonical default_slot file) alike) (inl (text, at, alike, set_here t default_slot (Link text))) (let same : set_entry t default_slot (Some (Link text)) ≡ u = cc in same))
    | inr unlike ↦ (let left : Ok (set_entry t default_slot (Some (Link file))) ≡ Ok u = rw unlike at is in
        relinked file u refl (replaced (λ other there. no_other text other at unlike there)) (let same : set_entry t default_slot (Some (Link file)) ≡ u = cc in same))
  ]

  file_set : (name real : List ℕ) (u : Entries) → left_by ((default_file name real file).conclusion t) t ≡ Ok u → Relinks u
  unfolding default_file
  file_set name real u is = elim (cases_Bool (is_target_type (type_of name))) [
    | inl target ↦ elim (cases_Bool (is_template_name real)) [
      | inl template ↦ (let left : left_by (Err (NeedsInstance real)) t ≡ Ok u = rw (target, template) at is in cc)
      | inr whole ↦ relinked_at (map.get t default_slot) u refl (rw (target, whole) at is)
    ]
    | inr other ↦ (let left : left_by (Err (BadType (subjects.Unit name))) t ≡ Ok u = rw other at is in cc)
  ]

pub default_is_set : DefaultIsSet
default_is_set = λ set_default t done.
    let on = default_file set_default.unit in
    let unit = was_found set_default.unit t on ((find set_default.unit).conclusion t) refl done in
    let ruling = ruling_of set_default.unit t on ((find set_default.unit).conclusion t) in
    let set = file_set t unit.1 set_default.unit unit.0 (after_changes (effect t map.empty ruling).changes t) (ap (λ v. left_by v t) (sym unit.3) ∙ left_tree t ruling done) in
    (unit.0, unit.1, unit.2, set.0, set.1, set.2)
