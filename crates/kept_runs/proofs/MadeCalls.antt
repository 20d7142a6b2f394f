-- Calls that are made one after another.
use Rattle.std.proofs.Common.{◌≡◌, ◌+◌, List, [], ◌∷◌, ◌++◌, length, length-append, refl, sym, ap, ◌∙◌, arith}
use Rattle.link_tree.specs.Trees.{Entries}
use Rattle.history.specs.declared.row.Row.{Row}
use Rattle.history.specs.Rows as histories
use Rattle.unit_script.specs.declared.action.Action.{Action}
use Rattle.unit_script.specs.declared.call.Call.{Call}
use Rattle.unit_script.specs.Actions.{asks, meaning}
use Rattle.unit_script.specs.Machine.{asked}
use Rattle.unit_script.proofs.Histories.{length-rows_after}
use Rattle.kept_rows.specs.Others.{rows_with}

rows-push : (first : Entries) (calls : List Call) (call : Call) (rows : List (Row Action))
    → rows_with first rows (calls ++ call ∷ []) ≡ histories.rows_after asks meaning first (rows_with first rows calls) (asked call)
rows-push first [] call rows = refl
rows-push first (c ∷ calls) call rows = rows-push first calls call (histories.rows_after asks meaning first rows (asked c))

module _ (first : Entries) (old : List (Row Action)) where
  -- These calls were made: the first tree is as it was, and the rows have grown by theirs.
  abbrev pub WereMade : List Call → Entries → List (Row Action) → Type 0
  WereMade calls now rows = (now ≡ first) × (rows ≡ rows_with first old calls) × (length rows ≡ length old + length calls)

  pub one_made : (calls : List Call) (call : Call) (now next : Entries) (rows new : List (Row Action)) → WereMade calls now rows → next ≡ now
      → new ≡ histories.rows_after asks meaning now rows (asked call) → WereMade (calls ++ call ∷ []) next new
  one_made calls call now next rows new made same is =
      let longer : length new ≡ length rows + 1 = ap length is ∙ length-rows_after now rows (asked call) in
      let long : length rows ≡ length old + length calls = made.2 in
      let more : length (calls ++ call ∷ []) ≡ length calls + length (call ∷ []) = length-append calls (call ∷ []) in (
        same ∙ made.0,
        is ∙ (λ i. histories.rows_after asks meaning (made.0 i) (made.1 i) (asked call)) ∙ sym (rows-push first calls call old),
        omega (arith, longer, long, more),
      )
