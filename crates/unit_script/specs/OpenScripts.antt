-- Which bytes of a script decide nothing yet, so that more are read: a read fault occurs only after
-- such bytes.
use Rattle.std.specs.Prelude.{◌≡◌, ◌⊎◌, ℕ, List, [], ◌∷◌, ◌++◌, Option, Ok, IsOk}
use Rattle.byte_streams.specs.Lines.{front_line, Last}
use Rattle.byte_streams.specs.Streams.{Takes}
use Rattle.link_tree.specs.Inventory.{inventory_of}
use Rattle.link_tree.specs.Reads.{IsUndecided}
use Rattle.link_tree.specs.Trees.{Entries}
use Rattle.unit_script.specs.Script.{script_of}
use Rattle.unit_script.specs.declared.run_fault.RunFault.{RunFault}
use Rattle.unit_script.specs.declared.run_fault.RunFault.TheVariants as runs
use Prim.Native.Char.{code}

-- up to and including a line end
abbrev pub EndsLine : List ℕ → Type 0
EndsLine text = (before : List ℕ) × (text ≡ before ++ code "\n" ∷ [])

-- Whole lines that are a script, followed by the beginning of a line, if one more line is allowed.
pub record IsCutInLine (taken : List ℕ) : Type 0 where
  pub lines : List ℕ
  pub part : List ℕ
  pub is : taken ≡ lines ++ part
  pub whole : EndsLine lines × IsOk (script_of lines)
  pub short : front_line 65536 part ≡ Last part
  pub room : (part ≡ []) ⊎ IsOk (script_of (lines ++ code "\n" ∷ []))

-- The bytes decide nothing yet: at most 8 of the first line, without its line end, or a script that
-- is cut in a later line.
abbrev pub IsOpenScript : List ℕ → Type 0
IsOpenScript taken = (front_line 8 taken ≡ Last taken) ⊎ IsCutInLine taken

-- The bytes are an inventory followed by a script, and the script decides nothing yet.
abbrev pub IsOpenInput : List ℕ → Type 0
IsOpenInput taken = (tree : Entries) × (script : List ℕ) × (inventory_of taken ≡ Ok (tree, script)) × IsOpenScript script

-- The two read faults of a run: the bytes read decide nothing, in this entry of the inventory, or
-- in the script after a whole inventory.
abbrev pub RunStops : RunFault → (old new : Option (List ℕ)) → Type 0
RunStops (runs.InventoryRead n) old new = Takes old new (λ taken rest. IsUndecided n taken)
RunStops runs.ReadFault old new = Takes old new (λ taken rest. IsOpenInput taken)
RunStops e old new = Unit {0}
