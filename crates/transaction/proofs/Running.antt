-- Commands and steps in a transaction, after what was asked in it before.
use Rattle.std.proofs.Common.{◌≡◌, ◌++◌, ℕ, List, Option, Result, Ok, Err, refl, sym, ap, ◌∙◌}
use Rattle.std.proofs.lemmas.List.{append_assoc}
use Rattle.unit_file.specs.Notices.{NoticeMap}
use Rattle.link_tree.specs.declared.entry.Entry.{Entry}
use Rattle.link_tree.specs.Trees.{Entries}
use Rattle.tree_access.specs.declared.refusal.Refusal.{Refusal}
use Rattle.footprint.specs.Commands.{Command, telling, unless_refused}
use Rattle.footprint.specs.Inquiry.{Inquiry, stands_at, ◌>>=◌}
use Rattle.tree_access.specs.Placing.{Ruling, ruled_at}
use Rattle.tree_access.specs.Rules.{Rule}
use Rattle.footprint.specs.Steps.{Step, ruled}
use Rattle.transaction.specs.declared.stop.Stop.{Stop}
use Rattle.transaction.specs.declared.stop.Stop.TheVariants.{Refused, OutOfMemory}
use Rattle.transaction.specs.Runs.{Runs, Gives, asking, asking_for, doing, taking, with_tree, placed_by, reported_by}
use Rattle.transaction.specs.Seen.{Transacted}

-- a value with a tree
abbrev came : {X : Type 0} → X → Entries → Result (X × Entries) Refusal
came x t = Ok (x, t)

came_parts : {X : Type 0} (x y : X) (t u : Entries) → came x t ≡ came y u → (x ≡ y) × (t ≡ u)
came_parts {X} x y t u is = let both : (x, t) ≡ (y, u) = cc in (ap (λ (p : X × Entries). p.0) both, ap (λ (p : X × Entries). p.1) both)

found_parts : {X : Type 0} (r : Result X Refusal) (x : X) (t u : Entries) → with_tree t r ≡ came x u → (r ≡ Ok x) × (t ≡ u)
found_parts (Ok y) x t u is = let parts = came_parts y x t u is in (ap Ok parts.0, parts.1)
found_parts {X} (Err refusal) x t u is = absurd (no is)
  where
    no : Err refusal ≡ came x u → ⊥
    no is = cc

-- what was asked resulted in x, in the tree that is still there
module _ {X : Type 0} (q : Inquiry X) (next : X → Command) (old mid new : Transacted) (x : X) (is : q.conclusion old.tree ≡ x) (there : old.tree ≡ mid.tree) (looked : mid.keys ≡ old.keys ++ q.keys old.tree) (first : mid.first ≡ old.first) where
  concludes : (doing (q >>= next)).conclusion old.tree ≡ (doing (next x)).conclusion mid.tree
  concludes = λ i. (doing (next (is i))).conclusion (there i)

  looks : new.keys ≡ mid.keys ++ (doing (next x)).keys mid.tree → new.keys ≡ old.keys ++ (doing (q >>= next)).keys old.tree
  looks on =
      let y = q.conclusion old.tree in
      on ∙ ap (λ keys. keys ++ (doing (next x)).keys mid.tree) looked ∙ append_assoc old.keys (q.keys old.tree) ((doing (next x)).keys mid.tree)
      ∙ (λ i. old.keys ++ (q.keys old.tree ++ (doing (next (sym is i))).keys (sym there i)))
      ∙ ap (λ keys. old.keys ++ keys) (sym (append_assoc (q.keys old.tree) ((next y).keys old.tree) (((next y).conclusion old.tree).1.keys old.tree)))

  follows : (r : Result NoticeMap Stop) → Runs (doing (next x)) mid new r → Runs (doing (q >>= next)) old new r
  follows (Ok notices) on = (concludes ∙ on.0, looks on.1, on.2 ∙ first)
  follows (Err (Refused refusal)) on = (concludes ∙ on.0, looks on.1, on.2 ∙ first)
  follows (Err OutOfMemory) on = on ∙ first

-- A command that an inquiry decides: the inquiry, and then what it decides.
pub done_after : {X : Type 0} (q : Inquiry X) (next : X → Command) (old mid new : Transacted) (x : X) → Runs (asking q) old mid (Ok x)
    → (r : Result NoticeMap Stop) → Runs (doing (next x)) mid new r → Runs (doing (q >>= next)) old new r
done_after q next old mid new x asked =
    let parts = came_parts (q.conclusion old.tree) x old.tree mid.tree asked.0 in follows q next old mid new x parts.0 parts.1 asked.1 asked.2

-- The same if the inquiry may result in a refusal, and didn't.
pub done_unless_refused : {X : Type 0} (q : Inquiry (Result X Refusal)) (next : X → Command) (old mid new : Transacted) (x : X) → Runs (asking_for q) old mid (Ok x)
    → (r : Result NoticeMap Stop) → Runs (doing (next x)) mid new r → Runs (doing (q >>= unless_refused next)) old new r
done_unless_refused q next old mid new x asked =
    let parts = found_parts (q.conclusion old.tree) x old.tree mid.tree asked.0 in follows q (unless_refused next) old mid new (Ok x) parts.0 parts.1 asked.1 asked.2

-- The entry at a path was looked up, and the rule stopped for it.
pub rule_stops : (rule : Rule) (path : List ℕ) (old mid : Transacted) (there : Option Entry) (stop : Stop) → Runs (asking (stands_at path)) old mid (Ok there)
    → Gives (rule path there) (Err stop) → Runs (taking (ruled rule path)) old mid (Err stop)
rule_stops rule path old mid there (Refused refusal) looked given = (
  ap (λ r. placed_by (ruled_at path r) old.tree) (ap (rule path) (came_parts ((stands_at path).conclusion old.tree) there old.tree mid.tree looked.0).0 ∙ given),
  looked.1,
  looked.2,
)
rule_stops rule path old mid there OutOfMemory looked given = looked.2

-- the result of a step, with notices
abbrev told_by : NoticeMap → Result (Unit {0} × Entries) Refusal → Result (NoticeMap × Entries) Refusal
told_by notices (Ok done) = Ok (notices, done.1)
told_by notices (Err refusal) = Err refusal

tells : (notices : NoticeMap) (ruling : Ruling) (t : Entries) → reported_by notices ruling t ≡ told_by notices (placed_by ruling t)
tells notices (Ok placed) t = refl
tells notices (Err refusal) t = refl

-- A step that stopped, and so the command that is this step.
pub step_stops : (notices : NoticeMap) (step : Step) (old new : Transacted) (stop : Stop) → Runs (taking step) old new (Err stop) → Runs (doing (telling notices step)) old new (Err stop)
step_stops notices step old new (Refused refusal) taken = (tells notices (step.conclusion old.tree) old.tree ∙ ap (told_by notices) taken.0, taken.1, taken.2)
step_stops notices step old new OutOfMemory taken = taken
