-- The keys of a map of paths.
use Rattle.std.proofs.Common.{◌≡◌, ℕ, Bool, true, false, ◌||◌, List, [], ◌∷◌, refl}
use Rattle.std.specs.List.{list_any}
use Rattle.std.specs.Ordering.{eq_by_cmp}
use Rattle.std.specs.Cmp.{eq_by_cmp_equiv}
use Rattle.std.specs.Cmp.Lexicographic.{nat_list_cmp_total}
use Rattle.link_tree.specs.Trees.{path_cmp}

pub same-found : (k : List ℕ) → eq_by_cmp path_cmp k k ≡ true
same-found k = (eq_by_cmp_equiv nat_list_cmp_total).refl k

pub or_true : (x : Bool) → (x || true) ≡ true
or_true true = refl
or_true false = refl

-- a test that no key passes
pub any-keys : (f : List ℕ → Bool) (ks : List (List ℕ)) → ((q : List ℕ) → list_any (eq_by_cmp path_cmp q) ks ≡ true → f q ≡ false) → list_any f ks ≡ false
any-keys f [] h = refl
any-keys f (k ∷ ks) h =
    let here : f k ≡ false = h k (rw (same-found k) refl) in
    let there = any-keys f ks (λ q some. h q (rw some (or_true (eq_by_cmp path_cmp q k)))) in
    rw (here, there) refl
