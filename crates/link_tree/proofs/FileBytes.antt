-- The bytes of a file, one after another.
use Rattle.std.proofs.Common.{take-append-drop, ◌≡◌, ◌≢◌, ◌==◌, nat_lt, true, false, Ok, Err, ℕ, ◌<◌, ◌≤◌, List, [], ◌∷◌, ◌++◌, length, take, drop, Option, None, Some, refl, sym, ap, subst, ◌∙◌, arith, length-append}
use Rattle.std.proofs.Math.Seq.{take-append_seam, drop-append_seam}
use Rattle.std.proofs.lemmas.List.{drop_all}
use Rattle.std.proofs.lemmas.Bool.Decides.{nat_tests}
use Rattle.link_tree.specs.Files.{is_contents}
use Rattle.link_tree.specs.Inventory.{contents_at, ended}
use Rattle.byte_streams.specs.Blocks.{IsBytes}
use Rattle.link_tree.specs.declared.contents.TheConstants.{MAX_FILE}
use Rattle.link_tree.specs.declared.inventory_fault.InventoryFault.TheVariants.{Truncated, BadLine}
use Rattle.byte_streams.specs.Streams.{GivesNext}
use Rattle.std.proofs.lemmas.Bool.{eqb-true, ltb-false}
use Rattle.std.proofs.lemmas.List.{length-take-le}
use Rattle.link_tree.proofs.Results.{else_ok, no_ok, ok_is, then_ok}
use Rattle.byte_streams.proofs.Given.{gave_end, gave_byte}

pub contents_short : (size : ℕ) (bytes : List ℕ) → length bytes < size → contents_at size bytes ≡ Err Truncated
unfolding contents_at
contents_short size bytes few = let short : nat_lt (length bytes) size ≡ true = grind (arith, nat_tests) in rw short refl

pub contents_long : (size : ℕ) (bytes : List ℕ) → size ≤ length bytes → contents_at size bytes ≡ ended (take size bytes) (drop size bytes)
unfolding contents_at
contents_long size bytes all = let long : nat_lt (length bytes) size ≡ false = grind (arith, nat_tests) in rw long refl

-- a file's bytes and the line end
pub contents_read : (bytes more : List ℕ) → contents_at (length bytes) (bytes ++ 10 ∷ more) ≡ Ok (bytes, more)
unfolding contents_at
contents_read bytes more =
    let long : nat_lt (length (bytes ++ 10 ∷ more)) (length bytes) ≡ false = grind (arith, nat_tests, length-append bytes (10 ∷ more)) in
    rw (long, take-append_seam bytes (10 ∷ more), drop-append_seam bytes (10 ∷ more)) refl

-- without the line end nothing is decided
pub contents_undecided : (size : ℕ) (items : List ℕ) → length items ≡ size → contents_at size items ≡ Err Truncated
contents_undecided size items all =
    let none : drop size items ≡ [] = drop_all size items (omega (arith, all)) in
    contents_long size items (omega (arith, all)) ∙ ap (ended (take size items)) none

-- the size of an allowed file
pub sized : (size : ℕ) (items : List ℕ) → size ≤ MAX_FILE → length items ≡ size → is_contents items ≡ true
unfolding is_contents
sized size items few all = grind (arith, nat_tests)

module _ (size : ℕ) (bytes items : List ℕ) (mid new : Option (List ℕ)) (is : IsBytes size bytes mid (Some items)) (o : Option ℕ) (gives : GivesNext mid new o) where
  next : (b : ℕ) → o ≡ Some b → (rest : List ℕ) × (new ≡ Some rest) × (contents_at size bytes ≡ ended items (b ∷ rest))
  next b some =
      let gave = gave_byte mid new b (subst (GivesNext mid new) some gives) (drop size bytes) is.2 in
      (gave.0, gave.1, contents_long size bytes is.0 ∙ (λ i. ended (sym is.1 i) (gave.2 i)))

  pub contents_whole : (b : ℕ) → o ≡ Some b → b ≡ 10 → (rest : List ℕ) × (new ≡ Some rest) × (contents_at size bytes ≡ Ok (items, rest))
  contents_whole b some lf = let at = next b some in (at.0, at.1, at.2 ∙ ap (λ c. ended items (c ∷ at.0)) lf)

  pub contents_other : (b : ℕ) → o ≡ Some b → b ≢ 10 → contents_at size bytes ≡ Err BadLine
  contents_other b some other =
      let at = next b some in
      let away : (b == 10) ≡ false = grind (arith, nat_tests) in
      at.2 ∙ rw away refl

  pub contents_end : o ≡ None → contents_at size bytes ≡ Err Truncated
  contents_end none =
      let here = subst (GivesNext mid new) none gives in
      let ended_at = gave_end mid new here.0 here.1 (drop size bytes) is.2 in
      contents_long size bytes is.0 ∙ ap (ended (take size bytes)) ended_at.1

-- a line end follows a file's bytes
ended_is : (contents found after rest : List ℕ) → ended contents after ≡ Ok (found, rest) → (contents ≡ found) × (after ≡ 10 ∷ rest)
ended_is contents found [] rest h = no_ok h
ended_is contents found (b ∷ bs) rest h =
    let at = then_ok (b == 10) BadLine (Ok (contents, bs)) (found, rest) h in
    let parts : (contents, bs) ≡ (found, rest) = ok_is at.1 in
    (ap (λ x. x.0) parts, λ i. eqb-true b 10 at.0 i ∷ (parts i).1)

-- The file has the stated number of bytes, and a line end follows them.
pub contents_are : (size : ℕ) (bytes found rest : List ℕ) → contents_at size bytes ≡ Ok (found, rest) → (length found ≡ size) × (bytes ≡ found ++ 10 ∷ rest)
unfolding contents_at
contents_are size bytes found rest h =
    let long = else_ok (nat_lt (length bytes) size) Truncated (ended (take size bytes) (drop size bytes)) (found, rest) h in
    let end = ended_is (take size bytes) found (drop size bytes) rest long.1 in
    let all = ltb-false (length bytes) size long.0 in
    (ap length (sym end.0) ∙ length-take-le size bytes all, sym (take-append-drop size bytes) ∙ (λ i. end.0 i ++ end.1 i))
