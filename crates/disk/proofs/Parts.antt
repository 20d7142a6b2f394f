-- Capturing parts of what a disk holds.
use Rattle.std.proofs.Common.{◌≡◌, ℕ, zero, suc, ◌<◌, length, get_or, true, false, cond, List, [], ◌∷◌, ◌++◌, Option, Some, None, Result, Ok, Err, All, Contains, refl, sym, ap, subst, ◌∙◌, inl, inr, ◌⊎◌, arith}
use Rattle.std.specs.Prelude.{is_some, IfSome, IfOk, IfErr, OnOk}
use Rattle.std.specs.Cmp.Lexicographic.{nat_list_cmp_total}
use Rattle.std.specs.FinMap as map
use Rattle.std.proofs.lemmas.Bool.{cases_Bool, false≢true}
use Rattle.std.proofs.lemmas.List.Elements.{All-head, All-tail, All-nil, All-cons, All-append, All-weaker, Contains-append_left, Contains-append_right, Contains-push}
use Rattle.unit_paths.specs.Slots.{is_slot}
use Rattle.link_tree.specs.declared.entry.Entry.{Entry}
use Rattle.link_tree.specs.Shape.{IsTree}
use Rattle.link_tree.specs.Trees.{Entries, path_cmp}
use Rattle.link_tree.proofs.Changed.{is_at}
use Rattle.link_tree.proofs.Shapes.{same_key}
use Rattle.disk.specs.Disks.{Held}
use Rattle.disk.specs.Captures.{leads_to, IsReached, IsReasonAgainst, AtSlot, Asked, Led}
use Rattle.disk.specs.Capturing.{Paths, IsCaptured, IsSettled, IsBegun, IsShapeError, Takes, IsSlotAt, optional}
use Rattle.disk.specs.Partials.{IsIn, AreCaptured, IsPartial, IsTakenFrom, IsReasonAgainstPart, TakesMore, TakesMoreOrStops}
use Rattle.disk.specs.declared.capture_error.CaptureError.{CaptureError}
use Rattle.disk.specs.declared.capture_error.CaptureError.TheVariants as captures
use Rattle.disk.specs.declared.partial.Area.{Area}
use Rattle.disk.specs.declared.partial.Partial.{Partial}
use Rattle.disk.specs.declared.taking.Taken.{Taken}
use Rattle.disk.proofs.Going.{IsNoRoom, in_cons, found_captured, none_captured, stays, here_captured, one_more, no_room}
use Rattle.disk.proofs.Whole.{begins}

first_of : {X : Type 0} (x : X) (xs : List X) → Contains (x ∷ xs) x
first_of x xs = Contains-append_left (x ∷ []) xs x (Contains-push [] x)

later_of : {X : Type 0} (x : X) (xs : List X) (y : X) → Contains xs y → Contains (x ∷ xs) y
later_of x xs y there = Contains-append_right (x ∷ []) xs y there

-- a reached path is still reached if one more path is requested
more_reached : (t : Entries) (asked : Paths) (more path : List ℕ) → IsReached t asked path → IsReached t (more ∷ asked) path
more_reached t asked more path (AtSlot _ slot) = AtSlot path slot
more_reached t asked more path (Asked _ given) = Asked path (later_of more asked path given)
more_reached t asked more path (Led from _ entry reached there leads) = Led from path entry (more_reached t asked more from reached) there leads

-- a reason why nothing was captured is also a reason why a part was not
pub part_reason : (t : Held) (asked : Paths) (e : CaptureError) → IsReasonAgainst t asked e → IsReasonAgainstPart t e
part_reason t asked (captures.Odd slot oddity) reason = reason
part_reason t asked (captures.NoDirectory directory) reason = reason.0
part_reason t asked captures.TooMany reason = (reason.0, reason.1, λ path entry there. (reason.2 path entry there).1)
part_reason t asked captures.BadShape reason = reason
part_reason t asked captures.Failed reason = tt
part_reason t asked captures.OutOfMemory reason = tt

module _ (t : Held) (asked : Paths) where
  -- one more path is requested, and wanted
  asked_too : (found : Entries) (wanted : Paths) (path : List ℕ) → IsBegun t asked found wanted → IsBegun t (path ∷ asked) found (path ∷ wanted)
  asked_too found wanted path begun = record {
    right = λ q e here. let was = begun.right q e here in (more_reached t.entries asked path q was.0, was.1);
    reached = λ q there. elim (in_cons path wanted q there) [
      | inl same ↦ Asked q (subst (Contains (path ∷ asked)) same (first_of path asked))
      | inr was ↦ more_reached t.entries asked path q (begun.reached q was)
    ];
    given = λ q there. elim (in_cons path asked q there) [
      | inl same ↦ inl (subst (Contains (path ∷ wanted)) same (first_of path wanted))
      | inr was ↦ elim (begun.given q was) [ inl w ↦ inl (later_of path wanted q w) | inr done ↦ inr done ]
    ];
    followed = λ q next e here leads. elim (begun.followed q next e here leads) [ inl w ↦ inl (later_of path wanted next w) | inr done ↦ inr done ];
  }

  -- a path that was captured need not be wanted any more
  forgotten : (found : Entries) (wanted : Paths) (path : List ℕ) → IsCaptured t found path → IsBegun t asked found (path ∷ wanted) → IsBegun t asked found wanted
  forgotten found wanted path captured begun = record {
    right = begun.right;
    reached = λ q there. begun.reached q (later_of path wanted q there);
    given = λ q there. elim (begun.given q there) [ inl w ↦ still q w | inr done ↦ inr done ];
    followed = λ q next e here leads. elim (begun.followed q next e here leads) [ inl w ↦ still next w | inr done ↦ inr done ];
  }
    where
      still : (q : List ℕ) → Contains (path ∷ wanted) q → Contains wanted q ⊎ IsSettled t found q
      still q there = elim (in_cons path wanted q there) [ inl same ↦ inr (inr (subst (IsCaptured t found) same captured)) | inr was ↦ inl was ]

-- an entry at a path that is requested now
module _ (t : Held) (old new : Taken) (path : List ℕ) (entry : Entry) (free : map.get old.found path ≡ None) (there : map.get t.entries path ≡ Some entry) where
  entry_taken : new.found ≡ map.insert old.found path entry → new.wanted.items ≡ old.wanted.items ++ optional (leads_to path entry) → TakesMore t old new (λ q. q ≡ path)
  entry_taken adds wants begun =
      let asked = path ∷ begun.0 in
      let wanted = old.wanted.items in
      let reached : IsReached t.entries asked path = Asked path (first_of path begun.0) in
      let one = asked_too t begun.0 old.found wanted path begun.1 in
      let captured = here_captured t asked old.found (path ∷ wanted) path entry free there reached in
      let more = forgotten t asked (map.insert old.found path entry) (wanted ++ optional (leads_to path entry)) path captured (one_more t asked old.found (path ∷ wanted) path entry free there reached one) in (
        (asked, subst (λ w. IsBegun t asked new.found w) (sym wants) (subst (λ f. IsBegun t asked f (wanted ++ optional (leads_to path entry))) (sym adds) more)),
        λ q case. subst (λ f. IsCaptured t f q) (sym adds) (elim case [
          | inl this ↦ subst (IsCaptured t (map.insert old.found path entry)) (sym this) captured
          | inr was ↦ stays t asked old.found (path ∷ wanted) path entry free there reached q was
        ]),
      )

  no_part_room : (e : CaptureError) → IsNoRoom old.found e → IsTakenFrom t old → IsReasonAgainstPart t e
  no_part_room e room begun =
      let asked = path ∷ begun.0 in
      part_reason t asked e (no_room t asked old.found (path ∷ old.wanted.items) path entry e free there (Asked path (first_of path begun.0)) room (asked_too t begun.0 old.found old.wanted.items path begun.1))

pub took_other : (tree : Option Held) (old new : Taken) (path : List ℕ) (entry : Entry) (result : Result (Unit {0}) CaptureError)
    → map.get old.found path ≡ None → IfSome tree (λ t. map.get t.entries path ≡ Some entry)
    → OnOk result (new.found ≡ map.insert old.found path entry) → IfErr result (IsNoRoom old.found) → OnOk result (new.wanted.items ≡ old.wanted.items ++ optional (leads_to path entry))
    → TakesMoreOrStops tree old new result (λ q. q ≡ path)
took_other None old new path entry (Ok done) free there adds room wants = tt
took_other None old new path entry (Err e) free there adds room wants = tt
took_other (Some t) old new path entry (Ok done) free there adds room wants = entry_taken t old new path entry free there adds wants
took_other (Some t) old new path entry (Err e) free there adds room wants = no_part_room t old new path entry free there e room

-- nothing is at a path, which is no slot
pub nothing_other : (tree : Option Held) (old : Taken) (path : List ℕ) → is_slot path ≡ false → IfSome tree (λ t. map.get t.entries path ≡ None) → IfSome tree (λ t. TakesMore t old old (λ q. q ≡ path))
nothing_other None old path off none = tt
nothing_other (Some t) old path off none = λ begun. (
  begun,
  λ q case. elim case [
    | inl this ↦ subst (IsCaptured t old.found) (sym this) (none_captured t begun.0 old.found old.wanted.items path none (λ slot. absurd (false≢true (sym off ∙ slot))) begun.1)
    | inr was ↦ was
  ],
)

-- an entry that was found before
pub found_other : (tree : Option Held) (old : Taken) (path : List ℕ) → is_some (map.get old.found path) ≡ true → IfSome tree (λ t. TakesMore t old old (λ q. q ≡ path))
found_other None old path some = tt
found_other (Some t) old path some = λ begun. (
  begun,
  λ q case. elim case [
    | inl this ↦ subst (IsCaptured t old.found) (sym this) (found_captured t begun.0 old.found old.wanted.items path some begun.1)
    | inr was ↦ was
  ],
)

-- a step of a capture that holds whichever paths were requested also takes more of a part
pub takes_more : (tree : Option Held) (old new : Taken) (result : Result (Unit {0}) CaptureError) (P Q : List ℕ → Type 0) → ((q : List ℕ) → Q q → P q) → Takes tree old new result P → TakesMoreOrStops tree old new result Q
takes_more None old new (Ok done) P Q all goes = tt
takes_more None old new (Err e) P Q all goes = tt
takes_more (Some t) old new (Ok done) P Q all goes = λ begun.
    let gone = goes begun.0 begun.1 in
    ((begun.0, gone.0), λ q case. gone.1 q (elim case [ inl this ↦ inl (all q this) | inr was ↦ inr was ]))
takes_more (Some t) old new (Err e) P Q all goes = λ begun. part_reason t begun.0 e (goes begun.0 begun.1)

-- taking a slot
pub slot_taken : (tree : Option Held) (old new : Taken) (result : Result (Unit {0}) CaptureError) (path : List ℕ) → is_slot path ≡ true → Takes tree old new result (IsSlotAt path)
    → TakesMoreOrStops tree old new result (λ q. q ≡ path)
slot_taken tree old new result path slot goes = takes_more tree old new result (IsSlotAt path) (λ q. q ≡ path) (λ q same. (ap is_slot same ∙ slot, same)) goes

module _ (t : Held) where
  abbrev Areas : Entries → List Area → Type 0
  Areas found areas = All (λ area. AreCaptured t found (IsIn area)) areas

  areas_stay : (found found_then : Entries) (areas : List Area) → ((q : List ℕ) → IsCaptured t found q → IsCaptured t found_then q) → Areas found areas → Areas found_then areas
  areas_stay found found_then areas all before =
      All-weaker (λ area. AreCaptured t found (IsIn area)) (λ area. AreCaptured t found_then (IsIn area)) (λ area captured q there. all q (captured q there)) areas before

  path_taken : (old new : Partial) (path : List ℕ) → TakesMore t old.taken new.taken (λ q. q ≡ path) → new.paths ≡ map.insert old.paths path tt → new.areas.items ≡ old.areas.items
      → IsPartial t old → IsPartial t new
  path_taken old new path takes paths areas partial =
      let gone = takes partial.right in
      let stay : (q : List ℕ) → IsCaptured t old.taken.found q → IsCaptured t new.taken.found q = λ q was. gone.1 q (inr was) in
      record {
        right = gone.0;
        paths = λ q some. by_place q (cases_Bool (is_at q path)) some stay gone.1;
        areas = subst (Areas new.taken.found) (sym areas) (areas_stay old.taken.found new.taken.found old.areas.items stay partial.areas);
      }
    where
      there : (q : List ℕ) → map.get new.paths q ≡ cond (is_at q path) (Some tt) (map.get old.paths q)
      there q = ap (λ m. map.get m q) paths ∙ map.get-insert nat_list_cmp_total old.paths path tt q

      by_place : (q : List ℕ) → (is_at q path ≡ true) ⊎ (is_at q path ≡ false) → is_some (map.get new.paths q) ≡ true
          → ((q : List ℕ) → IsCaptured t old.taken.found q → IsCaptured t new.taken.found q)
          → ((q : List ℕ) → (q ≡ path) ⊎ IsCaptured t old.taken.found q → IsCaptured t new.taken.found q)
          → IsCaptured t new.taken.found q
      by_place q (inl at) some stay all = all q (inl (same_key q path at))
      by_place q (inr off) some stay all =
          stay q (partial.paths q (sym (ap is_some (there q ∙ ap (λ b. cond b (Some tt) (map.get old.paths q)) off)) ∙ some))

  area_taken : (old new : Partial) (area : Area) → TakesMore t old.taken new.taken (IsIn area) → new.paths ≡ old.paths → new.areas.items ≡ old.areas.items ++ area ∷ []
      → IsPartial t old → IsPartial t new
  area_taken old new area takes paths areas partial =
      let gone = takes partial.right in
      let stay : (q : List ℕ) → IsCaptured t old.taken.found q → IsCaptured t new.taken.found q = λ q was. gone.1 q (inr was) in
      let P : Area → Type 0 = λ area. AreCaptured t new.taken.found (IsIn area) in
      record {
        right = gone.0;
        paths = λ q some. stay q (partial.paths q (sym (ap (λ m. is_some (map.get m q)) paths) ∙ some));
        areas = subst (All P) (sym areas)
            (All-append P old.areas.items (area ∷ []) (areas_stay old.taken.found new.taken.found old.areas.items stay partial.areas) (All-cons P area [] (λ q there. gone.1 q (inl there)) (All-nil P)));
      }

  -- one of the captured areas
  pub area_at : (partial : Partial) → IsPartial t partial → (items : List Area) → items ≡ partial.areas.items → (i : ℕ) (d area : Area) → get_or items i d ≡ area → i < length items
      → AreCaptured t partial.taken.found (IsIn area)
  area_at partial is items all i d area here within =
      subst (λ a. AreCaptured t partial.taken.found (IsIn a)) here (at items i within (subst (Areas partial.taken.found) (sym all) is.areas))
    where
      at : (areas : List Area) (i : ℕ) → i < length areas → Areas partial.taken.found areas → AreCaptured t partial.taken.found (IsIn (get_or areas i d))
      at [] i within all = absurd (omega (arith, within))
      at (first ∷ rest) zero within all = All-head (λ a. AreCaptured t partial.taken.found (IsIn a)) first rest all
      at (first ∷ rest) (suc i) within all = at rest i (omega (arith, within)) (All-tail (λ a. AreCaptured t partial.taken.found (IsIn a)) first rest all)

  -- the captured part of a tree is a tree
  pub partial_tree : (partial : Partial) → IsPartial t partial → IsTree t.entries → IsTree partial.taken.found
  partial_tree partial is shape = record {
    fits = λ path entry here. shape.fits path entry (stands path entry here);
    apart = λ path other here there. shape.apart path other (some path here) (some other there);
  }
    where
      stands : (path : List ℕ) (entry : Entry) → map.get partial.taken.found path ≡ Some entry → map.get t.entries path ≡ Some entry
      stands path entry here = (is.right.1.right path entry here).1

      some : (path : List ℕ) → is_some (map.get partial.taken.found path) ≡ true → is_some (map.get t.entries path) ≡ true
      some path here = by_entry (map.get partial.taken.found path) refl here
        where
          by_entry : (o : Option Entry) → map.get partial.taken.found path ≡ o → is_some o ≡ true → is_some (map.get t.entries path) ≡ true
          by_entry None there h = absurd (false≢true h)
          by_entry (Some entry) there h = ap is_some (stands path entry there)

pub if_path_taken : (tree : Option Held) (old new : Partial) (path : List ℕ) → IfSome tree (λ t. TakesMore t old.taken new.taken (λ q. q ≡ path)) → new.paths ≡ map.insert old.paths path tt → new.areas.items ≡ old.areas.items
    → IfSome tree (λ t. IsPartial t old → IsPartial t new)
if_path_taken None old new path takes paths areas = tt
if_path_taken (Some t) old new path takes paths areas = path_taken t old new path takes paths areas

pub if_area_taken : (tree : Option Held) (old new : Partial) (area : Area) → IfSome tree (λ t. TakesMore t old.taken new.taken (IsIn area)) → new.paths ≡ old.paths → new.areas.items ≡ old.areas.items ++ area ∷ []
    → IfSome tree (λ t. IsPartial t old → IsPartial t new)
if_area_taken None old new area takes paths areas = tt
if_area_taken (Some t) old new area takes paths areas = area_taken t old new area takes paths areas

-- what was taken is captured, and what was captured before still is
pub if_captured : (tree : Option Held) (old : Partial) (new : Taken) (P : List ℕ → Type 0) → IfSome tree (λ t. TakesMore t old.taken new P)
    → IfSome tree (λ t. IsPartial t old → AreCaptured t new.found (λ q. P q ⊎ IsCaptured t old.taken.found q))
if_captured None old new P takes = tt
if_captured (Some t) old new P takes = λ partial. (takes partial.right).1

-- the reason why no more of a part was taken
pub if_stopped : (tree : Option Held) (old : Partial) (e : CaptureError) → IfSome tree (λ t. IsTakenFrom t old.taken → IsReasonAgainstPart t e) → IfSome tree (λ t. IsPartial t old → IsReasonAgainstPart t e)
if_stopped None old e stops = tt
if_stopped (Some t) old e stops = λ partial. stops partial.right

pub part_tree : (partial : Partial) (result : Result Entries CaptureError) → IfOk result (λ tree. IsTree partial.taken.found → tree ≡ partial.taken.found)
    → IfOk result (λ tree. (t : Held) → IsPartial t partial → IsTree t.entries → tree ≡ partial.taken.found)
part_tree partial (Err e) is = tt
part_tree partial (Ok tree) is = λ t part shape. is (partial_tree t partial part shape)

-- if the part has a bad shape, what the disk holds has a bad shape too
pub part_shape : (partial : Partial) (result : Result Entries CaptureError) → IfErr result (IsShapeError partial.taken.found)
    → IfErr result (λ e. (t : Held) → IsPartial t partial → IsReasonAgainstPart t e)
part_shape partial (Ok tree) error = tt
part_shape partial (Err captures.BadShape) error = λ t part shape. error (partial_tree t partial part shape)
part_shape partial (Err captures.OutOfMemory) error = λ t part. tt
part_shape partial (Err captures.TooMany) error = absurd error
part_shape partial (Err captures.Failed) error = absurd error
part_shape partial (Err (captures.Odd slot oddity)) error = absurd error
part_shape partial (Err (captures.NoDirectory directory)) error = absurd error

-- nothing was captured yet
pub none_yet : (t : Held) (partial : Partial) → partial.taken.found ≡ map.empty → partial.taken.wanted.items ≡ [] → partial.paths ≡ map.empty → partial.areas.items ≡ [] → IsPartial t partial
none_yet t partial found wanted paths areas = record {
  right = ([], begins (Some t) [] partial.taken.found partial.taken.wanted.items found wanted);
  paths = λ q some. absurd (false≢true (sym (ap is_some (ap (λ m. map.get m q) paths ∙ map.get-empty path_cmp q)) ∙ some));
  areas = subst (All (λ area. AreCaptured t partial.taken.found (IsIn area))) (sym areas) (All-nil (λ area. AreCaptured t partial.taken.found (IsIn area)));
}
