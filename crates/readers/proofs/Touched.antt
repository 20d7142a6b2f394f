-- What is listed at the keys that a change touches, by the readings of rows.
use Rattle.std.proofs.Common.{◌≡◌, ℕ, Bool, true, false, ◌&&◌, ◌||◌, List, [], ◌∷◌, Option, Some, None, refl, sym, ap, subst, ◌∙◌, inl, inr}
use Rattle.std.specs.Prelude.{not}
use Rattle.std.specs.Str.{bytes_eq}
use Rattle.std.specs.List.{list_any, after_last}
use Rattle.std.specs.BTreeMap.{is_at}
use Rattle.std.proofs.lemmas.Bool.{cases_Bool, false≢true}
use Rattle.std.proofs.lemmas.Slice.Eq.{bytes_eq-Decides}
use Rattle.unit_name.specs.Parts.{kind_of}
use Rattle.unit_name.specs.Name.{instance_of}
use Rattle.link_tree.specs.declared.entry.Entry.{Entry}
use Rattle.link_tree.specs.declared.entry.Entry.TheVariants.{File, Link}
use Rattle.link_tree.specs.declared.change.Change.{Change}
use Rattle.unit_paths.specs.declared.place.Scope.{Scope}
use Rattle.unit_paths.specs.declared.place.Scope.TheVariants.{Etc, Run}
use Rattle.unit_paths.specs.Paths.{is_slash, name_at}
use Rattle.unit_paths.specs.Canonical.{is_null_target}
use Rattle.unit_paths.specs.Slots.{slot_of}
use Rattle.link_tree.specs.Trees.{path_cmp}
use Rattle.link_tree.proofs.Changed.{same_bytes}
use Rattle.tree_access.specs.declared.key.Key.{Key}
use Rattle.tree_access.specs.declared.key.Key.TheVariants.{Cell, Marked, Presets, Links}
use Rattle.tree_access.specs.declared.reading.Observation.{Observation}
use Rattle.readers.specs.declared.readers.Readers.{Readers}
use Rattle.link_tree.specs.Links.{is_instance, is_scope, belongs}
use Rattle.tree_access.specs.Keys.{is_marked, touches}
use Rattle.unit_paths.specs.Kinds.{is_preset, is_dependency, scope_of}
use Rattle.readers.specs.Readers.{reads, is_key, is_read, is_marked_of, is_marked_in, is_touched_in}
use Rattle.readers.proofs.Listings.{same_text, text_itself}

-- a test of keys, applied to the names of a link
abbrev named : (Key → Bool) → Scope → (name last : List ℕ) → Bool
named f s name last = f (Marked s name) || (not (is_instance (kind_of (instance_of last))) && f (Marked s last))

abbrev named_of : (Key → Bool) → Option Scope → (name last : List ℕ) → Bool
named_of f None name last = false
named_of f (Some s) name last = named f s name last

abbrev marked : (Key → Bool) → (path : List ℕ) → Option Entry → Bool
marked f path None = false
marked f path (Some (File contents)) = false
marked f path (Some (Link target)) = not (is_null_target path target) && named_of f (scope_of (slot_of path)) (name_at path) (after_last is_slash target)

-- whether a test of keys passes for a key that a change touches
abbrev pub touched : (Key → Bool) → Change → Bool
touched f change =
    f (Cell change.path) || (marked f change.path change.before || (marked f change.path change.after
    || ((is_preset (slot_of change.path) && f Presets) || (is_dependency (slot_of change.path) && f Links))))

same_of : (r : Readers) (s : Option Scope) (name last : List ℕ) (i : ℕ) → is_marked_of r s name last i ≡ named_of (λ k. reads r k i) s name last
same_of r None name last i = refl
same_of r (Some Etc) name last i = refl
same_of r (Some Run) name last i = refl

same_marked : (r : Readers) (path : List ℕ) (entry : Option Entry) (i : ℕ) → is_marked_in r path entry i ≡ marked (λ k. reads r k i) path entry
same_marked r path None i = refl
same_marked r path (Some (File contents)) i = refl
same_marked r path (Some (Link target)) i = ap (λ b. not (is_null_target path target) && b) (same_of r (scope_of (slot_of path)) (name_at path) (after_last is_slash target) i)

-- a test of what is listed is a test of keys
pub same_touched : (r : Readers) (change : Change) (i : ℕ) → is_touched_in r change i ≡ touched (λ k. reads r k i) change
same_touched r change i =
    ap (λ b. lists_cell || (b || (is_marked_in r change.path change.after i || rest))) (same_marked r change.path change.before i)
    ∙ ap (λ b. lists_cell || (marked (λ k. reads r k i) change.path change.before || (b || rest))) (same_marked r change.path change.after i)
  where
    lists_cell : Bool
    lists_cell = reads r (Cell change.path) i

    rest : Bool
    rest = (is_preset (slot_of change.path) && reads r Presets i) || (is_dependency (slot_of change.path) && reads r Links i)

-- ---- a test that never passes, and one that passes if one of two does
and_false : (b : Bool) → (b && false) ≡ false
and_false true = refl
and_false false = refl

mixed : (a b c d : Bool) → ((a || b) || (c || d)) ≡ ((a || c) || (b || d))
mixed true b c d = refl
mixed false true true d = refl
mixed false true false d = refl
mixed false false true d = refl
mixed false false false d = refl

and_or : (x a b : Bool) → (x && (a || b)) ≡ ((x && a) || (x && b))
and_or true a b = refl
and_or false a b = refl

named_none : (s : Option Scope) (name last : List ℕ) → named_of (λ k. false) s name last ≡ false
named_none None name last = refl
named_none (Some s) name last = and_false (not (is_instance (kind_of (instance_of last))))

marked_none : (path : List ℕ) (entry : Option Entry) → marked (λ k. false) path entry ≡ false
marked_none path None = refl
marked_none path (Some (File contents)) = refl
marked_none path (Some (Link target)) =
    ap (λ b. not (is_null_target path target) && b) (named_none (scope_of (slot_of path)) (name_at path) (after_last is_slash target)) ∙ and_false (not (is_null_target path target))

none_none : (a b c d : Bool) → a ≡ false → b ≡ false → c ≡ false → d ≡ false → (a || (b || (c || d))) ≡ false
none_none a b c d h i j k = ap (λ x. x || (b || (c || d))) h ∙ ap (λ x. x || (c || d)) i ∙ ap (λ x. x || d) j ∙ k

pub touched_none : (change : Change) → touched (λ k. false) change ≡ false
touched_none change =
    none_none (marked (λ k. false) change.path change.before) (marked (λ k. false) change.path change.after) (is_preset (slot_of change.path) && false) (is_dependency (slot_of change.path) && false)
    (marked_none change.path change.before) (marked_none change.path change.after) (and_false (is_preset (slot_of change.path))) (and_false (is_dependency (slot_of change.path)))

named_or : (f g : Key → Bool) (s : Option Scope) (name last : List ℕ) → named_of (λ k. f k || g k) s name last ≡ (named_of f s name last || named_of g s name last)
named_or f g None name last = refl
named_or f g (Some s) name last =
    let x = not (is_instance (kind_of (instance_of last))) in
    ap (λ b. (f (Marked s name) || g (Marked s name)) || b) (and_or x (f (Marked s last)) (g (Marked s last)))
    ∙ mixed (f (Marked s name)) (g (Marked s name)) (x && f (Marked s last)) (x && g (Marked s last))

marked_or : (f g : Key → Bool) (path : List ℕ) (entry : Option Entry) → marked (λ k. f k || g k) path entry ≡ (marked f path entry || marked g path entry)
marked_or f g path None = refl
marked_or f g path (Some (File contents)) = refl
marked_or f g path (Some (Link target)) =
    let x = not (is_null_target path target) in
    let s = scope_of (slot_of path) in
    let last = after_last is_slash target in
    ap (λ b. x && b) (named_or f g s (name_at path) last) ∙ and_or x (named_of f s (name_at path) last) (named_of g s (name_at path) last)

pub touched_or : (f g : Key → Bool) (change : Change) → touched (λ k. f k || g k) change ≡ (touched f change || touched g change)
touched_or f g change =
    let path = change.path in
    let p = is_preset (slot_of path) in
    let d = is_dependency (slot_of path) in
    let h : Key → Bool = λ k. f k || g k in
    let b = marked f path change.before in
    let b' = marked g path change.before in
    let a = marked f path change.after in
    let a' = marked g path change.after in
    let e = (p && f Presets) || (d && f Links) in
    let e' = (p && g Presets) || (d && g Links) in
    ap (λ x. (f (Cell path) || g (Cell path)) || (x || (marked h path change.after || ((p && h Presets) || (d && h Links))))) (marked_or f g path change.before)
    ∙ ap (λ x. (f (Cell path) || g (Cell path)) || ((b || b') || (x || ((p && h Presets) || (d && h Links))))) (marked_or f g path change.after)
    ∙ ap (λ x. (f (Cell path) || g (Cell path)) || ((b || b') || ((a || a') || x)))
    (ap (λ x. x || (d && h Links)) (and_or p (f Presets) (g Presets)) ∙ ap (λ x. ((p && f Presets) || (p && g Presets)) || x) (and_or d (f Links) (g Links)) ∙ mixed (p && f Presets) (p && g Presets) (d && f Links) (d && g Links))
    ∙ ap (λ x. (f (Cell path) || g (Cell path)) || ((b || b') || x)) (mixed a a' e e')
    ∙ ap (λ x. (f (Cell path) || g (Cell path)) || x) (mixed b b' (a || e) (a' || e'))
    ∙ mixed (f (Cell path)) (g (Cell path)) (b || (a || e)) (b' || (a' || e'))

-- a test that never passes finds nothing
pub touched_and : (x : Bool) (f : Key → Bool) (change : Change) → touched (λ k. x && f k) change ≡ (x && touched f change)
touched_and true f change = refl
touched_and false f change = touched_none change

-- ---- one key
same_test : (t u : List ℕ) → is_at (path_cmp t) u ≡ bytes_eq t u
same_test t u = elim (cases_Bool (is_at (path_cmp t) u)) [
  | inl here ↦ here ∙ sym (subst (λ v. bytes_eq t v ≡ true) (same_text t u here) ((bytes_eq-Decides t t).1 refl))
  | inr away ↦ elim (cases_Bool (bytes_eq t u)) [
    | inl here ↦ absurd (false≢true (sym away ∙ subst (λ v. is_at (path_cmp t) v ≡ true) (same_bytes t u here) (text_itself t)))
    | inr other ↦ away ∙ sym other
  ]
]

unmarked : (key : Key) (path : List ℕ) (entry : Option Entry) → ((s : Scope) (t : List ℕ) → is_key (Marked s t) key ≡ false) → marked (λ k. is_key k key) path entry ≡ false
unmarked key path None away = refl
unmarked key path (Some (File contents)) away = refl
unmarked key path (Some (Link target)) away =
    ap (λ b. not (is_null_target path target) && b) (none (scope_of (slot_of path)) (name_at path) (after_last is_slash target)) ∙ and_false (not (is_null_target path target))
  where
    none : (s : Option Scope) (name last : List ℕ) → named_of (λ k. is_key k key) s name last ≡ false
    none None name last = refl
    none (Some s) name last =
        ap (λ b. b || (not (is_instance (kind_of (instance_of last))) && is_key (Marked s last) key)) (away s name)
        ∙ ap (λ b. not (is_instance (kind_of (instance_of last))) && b) (away s last) ∙ and_false (not (is_instance (kind_of (instance_of last))))

same_cell : (path cell : List ℕ) → is_key (Cell path) (Cell cell) ≡ bytes_eq path cell
same_cell path cell = same_test path cell

or_false : (b : Bool) → (b || false) ≡ b
or_false true = refl
or_false false = refl

-- whether a name is a link's file name, or the last part of its target
abbrev is_of : (name last key : List ℕ) → Bool
is_of name last key = bytes_eq name key || (not (is_instance (kind_of (instance_of key))) && bytes_eq last key)

one_named : (name last key : List ℕ) (s : Scope) → ((t : List ℕ) → is_key (Marked s t) (Marked s key) ≡ bytes_eq t key) → named (λ k. is_key k (Marked s key)) s name last ≡ is_of name last key
one_named name last key s same =
    ap (λ b. b || (x last && is_key (Marked s last) (Marked s key))) (same name) ∙ ap (λ b. bytes_eq name key || (x last && b)) (same last)
    ∙ ap (λ b. bytes_eq name key || b) (elim (cases_Bool (bytes_eq last key)) [
      | inl here ↦ ap (λ t. x t && bytes_eq last key) (same_bytes last key here)
      | inr away ↦ ap (λ b. x last && b) away ∙ and_false (x last) ∙ sym (ap (λ b. x key && b) away ∙ and_false (x key))
    ])
  where
    x : List ℕ → Bool
    x t = not (is_instance (kind_of (instance_of t)))

one_etc : (name last key : List ℕ) (o : Option Scope) → named_of (λ k. is_key k (Marked Etc key)) o name last ≡ (is_scope Etc o && is_of name last key)
one_etc name last key None = refl
one_etc name last key (Some Etc) = one_named name last key Etc (λ t. same_test t key)
one_etc name last key (Some Run) = and_false (not (is_instance (kind_of (instance_of last))))

one_run : (name last key : List ℕ) (o : Option Scope) → named_of (λ k. is_key k (Marked Run key)) o name last ≡ (is_scope Run o && is_of name last key)
one_run name last key None = refl
one_run name last key (Some Etc) = and_false (not (is_instance (kind_of (instance_of last))))
one_run name last key (Some Run) = one_named name last key Run (λ t. same_test t key)

turn : (a b c : Bool) → (not a && (b && c)) ≡ ((b && not a) && c)
turn true true c = refl
turn true false c = refl
turn false true c = refl
turn false false c = refl

one_marked : (s : Scope) (key path : List ℕ) (entry : Option Entry)
    → ((name last : List ℕ) (o : Option Scope) → named_of (λ k. is_key k (Marked s key)) o name last ≡ (is_scope s o && is_of name last key))
    → marked (λ k. is_key k (Marked s key)) path entry ≡ is_marked s key path entry
unfolding belongs
one_marked s key path None one = refl
one_marked s key path (Some (File contents)) one = refl
one_marked s key path (Some (Link target)) one =
    let null = is_null_target path target in
    let of = is_of (name_at path) (after_last is_slash target) key in
    ap (λ b. not null && b) (one (name_at path) (after_last is_slash target) (scope_of (slot_of path)))
    ∙ turn null (is_scope s (scope_of (slot_of path))) of

both_marked : (f : Key → Bool) (change : Change) (b a : Bool) → f (Cell change.path) ≡ false → f Presets ≡ false → f Links ≡ false
    → marked f change.path change.before ≡ b → marked f change.path change.after ≡ a → touched f change ≡ (b || a)
both_marked f change b a cell presets links before after =
    let p = is_preset (slot_of change.path) in
    let d = is_dependency (slot_of change.path) in
    ap (λ x. x || (marked f change.path change.before || (marked f change.path change.after || ((p && f Presets) || (d && f Links))))) cell
    ∙ ap (λ x. x || (marked f change.path change.after || ((p && f Presets) || (d && f Links)))) before
    ∙ ap (λ x. b || (x || ((p && f Presets) || (d && f Links)))) after
    ∙ ap (λ x. b || (a || (x || (d && f Links)))) (ap (λ x. p && x) presets ∙ and_false p)
    ∙ ap (λ x. b || (a || x)) (ap (λ x. d && x) links ∙ and_false d)
    ∙ ap (λ x. b || x) (or_false a)

neither_marked : (f : Key → Bool) (change : Change) → f (Cell change.path) ≡ false → marked f change.path change.before ≡ false → marked f change.path change.after ≡ false
    → touched f change ≡ ((is_preset (slot_of change.path) && f Presets) || (is_dependency (slot_of change.path) && f Links))
neither_marked f change cell before after =
    let rest = (is_preset (slot_of change.path) && f Presets) || (is_dependency (slot_of change.path) && f Links) in
    ap (λ x. x || (marked f change.path change.before || (marked f change.path change.after || rest))) cell
    ∙ ap (λ x. x || (marked f change.path change.after || rest)) before ∙ ap (λ x. x || rest) after

and_true : (b : Bool) → (b && true) ≡ b
and_true true = refl
and_true false = refl

-- a key is touched exactly if the test for it passes
pub touched_one : (key : Key) (change : Change) → touched (λ k. is_key k key) change ≡ touches change key
touched_one (Cell cell) change =
    ap (λ b. b || (marked is change.path change.before || (marked is change.path change.after || ((p && false) || (d && false))))) (same_cell change.path cell)
    ∙ ap (λ b. bytes_eq change.path cell || b) (none_none (marked is change.path change.before) (marked is change.path change.after) (p && false) (d && false)
    (unmarked (Cell cell) change.path change.before none) (unmarked (Cell cell) change.path change.after none) (and_false p) (and_false d))
    ∙ or_false (bytes_eq change.path cell)
  where
    is : Key → Bool
    is k = is_key k (Cell cell)

    p : Bool
    p = is_preset (slot_of change.path)

    d : Bool
    d = is_dependency (slot_of change.path)

    none : (s : Scope) (t : List ℕ) → is_key (Marked s t) (Cell cell) ≡ false
    none Etc t = refl
    none Run t = refl
touched_one (Marked Etc name) change =
    both_marked (λ k. is_key k (Marked Etc name)) change _ _ refl refl refl
    (one_marked Etc name change.path change.before (λ n l o. one_etc n l name o)) (one_marked Etc name change.path change.after (λ n l o. one_etc n l name o))
touched_one (Marked Run name) change =
    both_marked (λ k. is_key k (Marked Run name)) change _ _ refl refl refl
    (one_marked Run name change.path change.before (λ n l o. one_run n l name o)) (one_marked Run name change.path change.after (λ n l o. one_run n l name o))
touched_one Presets change =
    neither_marked (λ k. is_key k Presets) change refl (unmarked Presets change.path change.before none) (unmarked Presets change.path change.after none)
    ∙ ap (λ x. x || (is_dependency (slot_of change.path) && false)) (and_true (is_preset (slot_of change.path)))
    ∙ ap (λ x. is_preset (slot_of change.path) || x) (and_false (is_dependency (slot_of change.path))) ∙ or_false (is_preset (slot_of change.path))
  where
    none : (s : Scope) (t : List ℕ) → is_key (Marked s t) Presets ≡ false
    none Etc t = refl
    none Run t = refl
touched_one Links change =
    neither_marked (λ k. is_key k Links) change refl (unmarked Links change.path change.before none) (unmarked Links change.path change.after none)
    ∙ ap (λ x. x || (is_dependency (slot_of change.path) && true)) (and_false (is_preset (slot_of change.path)))
    ∙ and_true (is_dependency (slot_of change.path))
  where
    none : (s : Scope) (t : List ℕ) → is_key (Marked s t) Links ≡ false
    none Etc t = refl
    none Run t = refl

-- A change touches a key of a reading exactly if the test for these keys passes.
pub touched_read : (reading : List Observation) (change : Change) → touched (is_read reading) change ≡ list_any (λ o. touches change o.key) reading
touched_read [] change = touched_none change
touched_read (o ∷ os) change =
    touched_or (λ k. is_key k o.key) (is_read os) change ∙ ap (λ b. b || touched (is_read os) change) (touched_one o.key change) ∙ ap (λ b. touches change o.key || b) (touched_read os change)
