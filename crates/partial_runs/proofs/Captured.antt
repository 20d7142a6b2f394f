-- More was captured, once or several times.
use Rattle.std.proofs.Common.{◌≡◌, ◌≤◌, ℕ, List, Option, Some, None, Result, Ok, Err, refl, subst, sym, ◌∙◌, inl, inr, ◌⊎◌, arith}
use Rattle.std.specs.Prelude.{IfErr, IfSome, OnOk}
use Rattle.std.specs.FinMap as map
use Rattle.link_tree.specs.declared.entry.Entry.{Entry}
use Rattle.link_tree.specs.Trees.{Entries, path_cmp}
use Rattle.disk.specs.Captures.{failures_after_capture}
use Rattle.disk.specs.Capturing.{IsCaptured}
use Rattle.disk.specs.Disks.{Held}
use Rattle.disk.specs.Partials.{AreCaptured, IsPartial, IsReasonAgainstPart, found_in}
use Rattle.disk.specs.declared.capture_error.CaptureError.{CaptureError}
use Rattle.disk.specs.declared.capture_error.CaptureError.TheVariants as captures
use Rattle.disk.specs.declared.partial.Partial.{Partial}
use Rattle.partial_runs.specs.Captures.{Captures}
use Rattle.partial_runs.specs.Runs.{IsWithin}
use Rattle.partial_runs.proofs.Within.{len_within}

no_some : {X P : Type 0} (x : X) → None ≡ Some x → P
no_some x h = cc

-- what was found is held
pub is_held : (t : Held) (partial : Partial) → IsPartial t partial → IsWithin (found_in partial) t.entries
is_held t partial is path entry here = (is.right.1.right path entry here).1

-- what was captured of a part was captured of a larger one
pub captured_stay : (t : Held) (f g : Entries) → IsWithin f g → IsWithin g t.entries → (path : List ℕ) → IsCaptured t f path → IsCaptured t g path
captured_stay t f g grows within path captured = (at (map.get t.entries path) refl (map.get g path) refl, captured.1)
  where
    at : (there : Option Entry) → map.get t.entries path ≡ there → (here : Option Entry) → map.get g path ≡ here → map.get g path ≡ map.get t.entries path
    at (Some entry) there here is = grows path entry (captured.0 ∙ there) ∙ sym there
    at None there (Some entry) is = no_some entry (sym there ∙ within path entry is)
    at None there None is = is ∙ sym there

-- nothing more was captured
pub captured_before : (tree : Option Held) (old : Partial) (P : Held → Entries → Type 0) → ((t : Held) → IsPartial t old → P t (found_in old)) → Captures tree old old (Ok tt) P
captured_before None old P holds = tt
captured_before (Some t) old P holds = λ is. (is, λ path entry here. here, holds t is)

-- some paths were
pub captured_now : (tree : Option Held) (old new : Partial) (result : Result (Unit {0}) CaptureError) (P : List ℕ → Type 0)
    → OnOk result (IfSome tree (λ t. IsPartial t old → IsPartial t new))
    → OnOk result (IfSome tree (λ t. IsPartial t old → AreCaptured t (found_in new) (λ q. P q ⊎ IsCaptured t (found_in old) q)))
    → IfErr result (λ e. IfSome tree (λ t. IsPartial t old → IsReasonAgainstPart t e))
    → Captures tree old new result (λ t found. AreCaptured t found P)
captured_now None old new (Ok done) P goes captured reason = tt
captured_now None old new (Err e) P goes captured reason = tt
captured_now (Some t) old new (Err e) P goes captured reason = reason
captured_now (Some t) old new (Ok done) P goes captured reason = λ is. (goes is, kept is, λ q this. captured is q (inl this))
  where
    kept : IsPartial t old → IsWithin (found_in old) (found_in new)
    kept is path entry here =
        let there : map.get t.entries path ≡ Some entry = is_held t old is path entry here in
        (captured is path (inr (here ∙ sym there, λ slot none. no_some entry (sym none ∙ there)))).0 ∙ there

-- what holds of a part, so that this does
pub captures_so : (tree : Option Held) (old new : Partial) (result : Result (Unit {0}) CaptureError) (P Q : Held → Entries → Type 0)
    → ((t : Held) → IsPartial t new → P t (found_in new) → Q t (found_in new)) → Captures tree old new result P → Captures tree old new result Q
captures_so None old new (Ok done) P Q so captures = tt
captures_so None old new (Err e) P Q so captures = tt
captures_so (Some t) old new (Ok done) P Q so captures = λ is. let more = captures is in (more.0, more.1, so t more.0 more.2)
captures_so (Some t) old new (Err e) P Q so captures = captures

-- What holds of a part of what is held, holds of a larger one too.
abbrev pub Stays : (Held → Entries → Type 0) → Type 0
Stays P = (t : Held) (f g : Entries) → IsWithin f g → IsWithin g t.entries → P t f → P t g

-- more was captured, and then more
pub captures_then : (tree : Option Held) (a b c : Partial) (result : Result (Unit {0}) CaptureError) (P Q : Held → Entries → Type 0) → Stays P
    → Captures tree a b (Ok tt) P → Captures tree b c result Q → Captures tree a c result (λ t found. P t found × Q t found)
captures_then None a b c (Ok done) P Q stays one two = tt
captures_then None a b c (Err e) P Q stays one two = tt
captures_then (Some t) a b c (Ok done) P Q stays one two = λ is.
    let before = one is in
    let now = two before.0 in
    (now.0, λ path entry here. now.1 path entry (before.1 path entry here), (stays t (found_in b) (found_in c) now.1 (is_held t c now.0) before.2, now.2))
captures_then (Some t) a b c (Err e) P Q stays one two = λ is. two (one is).0

-- the same, of what was captured then alone
pub captures_last : (tree : Option Held) (a b c : Partial) (result : Result (Unit {0}) CaptureError) (P Q : Held → Entries → Type 0)
    → Captures tree a b (Ok tt) P → Captures tree b c result Q → Captures tree a c result Q
captures_last None a b c (Ok done) P Q one two = tt
captures_last None a b c (Err e) P Q one two = tt
captures_last (Some t) a b c (Ok done) P Q one two = λ is.
    let before = one is in
    let now = two before.0 in
    (now.0, λ path entry here. now.1 path entry (before.1 path entry here), now.2)
captures_last (Some t) a b c (Err e) P Q one two = λ is. two (one is).0

-- if it is a part of whatever is held, nothing was found
pub nothing_found : (partial : Partial) → ((t : Held) → IsPartial t partial) → map.len (found_in partial) ≤ 65536
nothing_found partial is =
    let nothing : Held = record { entries = map.empty; odd = λ path. None } in
    let none : map.len (found_in partial) ≤ map.len nothing.entries = len_within (found_in partial) nothing.entries (is_held nothing partial (is nothing)) in
    omega (arith, none, map.len-empty path_cmp Entry)

-- an error counts the same, whatever the result would be
pub counted_error : {B : Type 0} (old new : ℕ) (e : CaptureError) (r : Result B CaptureError) → r ≡ Err e → new ≡ failures_after_capture {A = Unit {0}} old (Err e) → new ≡ failures_after_capture old r
counted_error {B} old new e r is counted = subst (λ r. new ≡ failures_after_capture old r) (sym is) (by_error e counted)
  where
    by_error : (e : CaptureError) → new ≡ failures_after_capture {A = Unit {0}} old (Err e) → new ≡ failures_after_capture {A = B} old (Err e)
    by_error captures.Failed counted = counted
    by_error (captures.Odd slot oddity) counted = counted
    by_error (captures.NoDirectory directory) counted = counted
    by_error captures.TooMany counted = counted
    by_error captures.BadShape counted = counted
    by_error captures.OutOfMemory counted = counted
