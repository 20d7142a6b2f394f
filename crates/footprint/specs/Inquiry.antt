-- What is looked up in a tree by keys.
use Rattle.std.specs.Prelude.{◌≡◌, ℕ, List, [], ◌∷◌, ◌++◌, map as list_map, Option}
use Rattle.link_tree.specs.declared.change.Change.{Change}
use Rattle.link_tree.specs.declared.entry.Entry.{Entry}
use Rattle.link_tree.specs.Trees.{Entries, after_changes}
use Rattle.link_tree.proofs.Agreeing.{nothing_agrees, one_agrees, given_agrees, both_agree}
use Rattle.load_path.specs.Search.{Search, look as look_at_cell}
use Rattle.tree_access.specs.declared.key.Key.{Key}
use Rattle.tree_access.specs.declared.key.Key.TheVariants.{Cell}
use Rattle.tree_access.specs.declared.reading.Seen.{Seen}
use Rattle.tree_access.specs.Keys.{seen, those, any_selects, part, Agree, AgreeOn}
use Rattle.tree_access.proofs.KeyLaws.{keys_agree, by_cells_agree, with_cells_agree, part_agrees, parts_agree, after_agrees}

-- The result of an inquiry in a tree; the keys that it looks at, in order; and a proof that the
-- result and the keys are the same in each tree that agrees on the keys.
pub record Inquiry (X : Type 0) : Type 0 where
  pub conclusion : Entries → X
  pub keys : Entries → List Key
  pub agreement : (t u : Entries) → AgreeOn (keys t) t u → (conclusion t ≡ conclusion u) × (keys t ≡ keys u)

-- nothing is looked at
abbrev pub over : {X : Type 0} → X → Inquiry X
over x = record { conclusion = λ t. x; keys = λ t. []; agreement = nothing_agrees Agree x }

-- what a key sees
abbrev pub look : Key → Inquiry Seen
look key = record {
  conclusion = seen key;
  keys = λ t. key ∷ [];
  agreement = one_agrees Agree (seen key) key (λ t u same. same);
}

-- the entries at which a key looks
abbrev pub entries_seen : Key → Inquiry Entries
entries_seen key = record {
  conclusion = part key;
  keys = λ t. key ∷ [];
  agreement = part_agrees key;
}

-- the entries at which at least one of several keys looks
abbrev pub entries_of_all : List Key → Inquiry Entries
entries_of_all keys = record {
  conclusion = those (any_selects keys);
  keys = λ t. keys;
  agreement = parts_agree keys;
}

-- the result is nothing, but these keys are looked at too
abbrev pub beside : List Key → Inquiry (Unit {0})
beside keys = record { conclusion = λ t. tt; keys = λ t. keys; agreement = keys_agree keys }

-- a search that looks at cells
abbrev pub by_cells : {X : Type 0} → Search X → Inquiry X
by_cells s = record {
  conclusion = s.conclusion;
  keys = λ t. list_map Cell (s.cells t);
  agreement = by_cells_agree s.conclusion s.cells s.agreement;
}

-- the same, and the cells with the result
abbrev pub with_cells : {X : Type 0} → Search X → Inquiry (X × List (List ℕ))
with_cells s = record {
  conclusion = λ t. (s.conclusion t, s.cells t);
  keys = λ t. list_map Cell (s.cells t);
  agreement = with_cells_agree s.conclusion s.cells s.agreement;
}

-- the entry at a path
abbrev pub stands_at : List ℕ → Inquiry (Option Entry)
stands_at path = by_cells (look_at_cell path)

-- a function of the result
abbrev pub giving : {X Y : Type 0} → Inquiry X → (X → Y) → Inquiry Y
giving q f = record {
  conclusion = λ t. f (q.conclusion t);
  keys = q.keys;
  agreement = given_agrees Agree f q.conclusion q.keys q.agreement;
}

-- the same on the tree after changes, by what is looked at in the tree before them
abbrev pub after : {X : Type 0} → List Change → Inquiry X → Inquiry X
after changes q = record {
  conclusion = λ t. q.conclusion (after_changes changes t);
  keys = λ t. q.keys (after_changes changes t);
  agreement = after_agrees q.conclusion q.keys changes q.agreement;
}

-- an inquiry, and then another that depends on the result of the first
infixl 10 ◌>>=◌
abbrev pub ◌>>=◌ : {X Y : Type 0} → Inquiry X → (X → Inquiry Y) → Inquiry Y
q >>= f = record {
  conclusion = λ t. (f (q.conclusion t)).conclusion t;
  keys = λ t. q.keys t ++ (f (q.conclusion t)).keys t;
  agreement = both_agree Agree q.conclusion q.keys (λ x. (f x).conclusion) (λ x. (f x).keys) q.agreement (λ x. (f x).agreement);
}
