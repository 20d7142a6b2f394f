-- One after another is captured.
use Rattle.std.proofs.Common.{◌≡◌, ℕ, ◌+◌, ◌<◌, ◌≤◌, List, [], ◌∷◌, ◌++◌, Option, Ok, All, length, take, get_or, suc, sym, ap, subst, ◌∙◌, arith}
use Rattle.std.proofs.Math.Seq.{take-suc}
use Rattle.std.proofs.lemmas.List.{take_all}
use Rattle.std.proofs.lemmas.List.Elements.{All-nil, All-cons, All-append, All-map, All-weaker}
use Rattle.link_tree.specs.Trees.{Entries}
use Rattle.tree_access.specs.declared.reading.Observation.{Observation}
use Rattle.tree_access.specs.Keys.{Agree, AgreeOn}
use Rattle.tree_access.specs.Readings.{keys_of}
use Rattle.disk.specs.Disks.{Held}
use Rattle.disk.specs.Partials.{found_in}
use Rattle.disk.specs.declared.partial.Partial.{Partial}
use Rattle.partial_runs.specs.Captures.{AgreesOnReading, Captures}
use Rattle.partial_runs.specs.Runs.{IsWithin}
use Rattle.partial_runs.proofs.Captured.{captured_before, captures_so, captures_then}

-- the first calls, with one more
pub one_longer : {X : Type 0} (xs : List X) (i : ℕ) (x : X) → x ≡ get_or xs i x → i < length xs → take (i + 1) xs ≡ take i xs ++ x ∷ []
one_longer xs i x is within = let next : i + 1 ≡ suc i = omega arith in ap (λ n. take n xs) next ∙ take-suc xs i x within ∙ ap (λ y. take i xs ++ y ∷ []) (sym is)

-- trees that agree on each observation agree on its key
pub on_keys : (t u : Entries) (reading : List Observation) → AgreesOnReading t u reading → AgreeOn (keys_of reading) t u
on_keys t u reading agree = All-map (λ key. Agree key t u) (λ (o : Observation). o.key) reading agree

module _ {X : Type 0} (xs : List X) (P : Held → Entries → X → Type 0) where
  -- it holds of each of these
  abbrev pub OfEach : List X → Held → Entries → Type 0
  OfEach some t found = All (P t found) some

  pub none_yet : (tree : Option Held) (old : Partial) → Captures tree old old (Ok tt) (OfEach (take 0 xs))
  none_yet tree old = captured_before tree old (OfEach (take 0 xs)) (λ t is. All-nil (P t (found_in old)))

  -- of one more
  pub one_turn : ((t : Held) (f g : Entries) → IsWithin f g → IsWithin g t.entries → (x : X) → P t f x → P t g x) → (tree : Option Held) (a b c : Partial) (i : ℕ) (x : X) → x ≡ get_or xs i x → i < length xs
      → Captures tree a b (Ok tt) (OfEach (take i xs)) → Captures tree b c (Ok tt) (λ t found. P t found x) → Captures tree a c (Ok tt) (OfEach (take (i + 1) xs))
  one_turn stays tree a b c i x is within before now =
      captures_so tree a c (Ok tt) (λ t found. OfEach (take i xs) t found × P t found x) (OfEach (take (i + 1) xs)) (λ t part both.
      subst (All (P t (found_in c))) (sym (one_longer xs i x is within))
      (All-append (P t (found_in c)) (take i xs) (x ∷ []) both.0 (All-cons (P t (found_in c)) x [] both.1 (All-nil (P t (found_in c))))))
      (captures_then tree a b c (Ok tt) (OfEach (take i xs)) (λ t found. P t found x)
      (λ t f g grows inside all. All-weaker (P t f) (P t g) (λ y. stays t f g grows inside y) (take i xs) all) before now)

  -- of all
  pub all_turns : (tree : Option Held) (a b : Partial) (i : ℕ) → length xs ≤ i → Captures tree a b (Ok tt) (OfEach (take i xs)) → Captures tree a b (Ok tt) (OfEach xs)
  all_turns tree a b i through before = subst (λ some. Captures tree a b (Ok tt) (OfEach some)) (take_all i xs through) before
