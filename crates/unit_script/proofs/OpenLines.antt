-- Where the reading of a script stops.
use Rattle.std.proofs.Common.{◌≡◌, ℕ, ◌+◌, ◌-◌, ◌<◌, ◌≤◌, ◌⊎◌, zero, suc, List, [], ◌∷◌, ◌++◌, length, Option, None, Some, Result, Ok, Err, refl, sym, ap, ◌∙◌, subst, inl, inr, arith, append_assoc, append-nil}
use Rattle.std.specs.Prelude.{IsOk, codes, is_ok}
use Rattle.std.specs.Option.{option_map_or}
use Rattle.byte_streams.specs.Lines.{Front, Whole, Last, Long, front_line}
use Rattle.byte_streams.specs.Reads.{StopsInTime}
use Rattle.byte_streams.specs.Streams.{StopsAt, Takes}
use Rattle.byte_streams.specs.declared.read_error.ReadError.{ReadError}
use Rattle.byte_streams.specs.declared.read_error.ReadError.TheVariants as reads
use Rattle.byte_streams.proofs.Fronts.{last_is, whole_is}
use Rattle.byte_streams.proofs.Pieces.{front_line-end, front_line-line_end, line_is_whole}
use Rattle.byte_streams.proofs.Taken.{failed_later, failed_sooner, stops_later, takes_behind}
use Rattle.std.proofs.lemmas.Slice.Eq.{bytes_eq-Decides}
use Rattle.std.specs.List.{flat_map}
use Rattle.link_tree.specs.Trees.{entry_line}
use Rattle.link_tree.proofs.Results.{no_ok, ok_is, then_ok}
use Rattle.unit_script.specs.declared.reason.ScriptFault.TheVariants.{Bad, NoCalls}
use Rattle.link_tree.specs.Inventory.{◌>>=◌, inventory_of}
use Rattle.link_tree.specs.Grammar.{IsInventory}
use Rattle.link_tree.specs.Trees.{Entries}
use Rattle.link_tree.proofs.Grammar.{inventories_are_entries}
use Rattle.unit_script.specs.declared.call.Call.{Call}
use Rattle.unit_script.specs.declared.reason.Reason.{Reason}
use Rattle.unit_script.specs.declared.reason.ScriptFault.{ScriptFault}
use Rattle.unit_script.specs.OpenScripts.{EndsLine, IsOpenInput, IsOpenScript, RunStops}
use Rattle.unit_script.specs.Script.{call_of_front, calls_at, after_calls_line, is_calls_line, script_of}
use Rattle.unit_script.specs.ScriptReads.{IsOpenCalls, script_error_of}
use Rattle.link_tree.specs.declared.inventory_fault.InventoryFault.{InventoryFault}
use Rattle.unit_script.specs.Runs.{InputStops, ScriptStops, in_inventory, run_fault_of}
use Rattle.unit_script.specs.declared.run_fault.InputError.{InputError}
use Rattle.unit_script.specs.declared.run_fault.InputError.TheVariants as inputs
use Rattle.unit_script.specs.declared.run_fault.InputFault.TheVariants.{Inventory, Script, Full}
use Rattle.unit_script.proofs.Calls.{LinesTaken, Reached, calls_at-step}
use Rattle.unit_script.proofs.ScriptLines.{calls_behind, empty_line, no_line}

ok_is_ok : {X E : Type 0} (r : Result X E) (x : X) → r ≡ Ok x → IsOk r
ok_is_ok r x is = ap is_ok is

-- no more bytes than a line may have
pub none_open : (taken : List ℕ) → front_line 0 taken ≡ Last taken → taken ≡ []
none_open taken is = none taken (last_is 0 taken taken is).1.few
  where
    none : (taken : List ℕ) → length taken ≤ 0 → taken ≡ []
    none [] few = refl
    none (b ∷ bs) few = absurd (omega (arith, few))

-- a reader that read nothing, and failed
abbrev failed : {F : Type 0} → ReadError F → Result (Unit {0}) (ReadError F)
failed e = Err e

module _ (number : ℕ) (calls : List Call) (taken : List ℕ) (lines : LinesTaken number calls taken) where
  whole : IsOk (calls_at 2000000 1 [] taken)
  whole = ok_is_ok _ calls (ap (calls_at 2000000 1 []) (sym (append-nil taken)) ∙ sym (lines.gives []) ∙ no_line (2000001 - number) number calls)

  -- nothing is decided after whole lines
  at_line_end : IsOpenCalls taken
  at_line_end = record {
    lines = taken;
    part = [];
    is = sym (append-nil taken);
    ends = lines.ends;
    whole = whole;
    short = front_line-end 65536;
    room = inl refl;
  }

  pub open_at_limit : (more : List ℕ) → more ≡ [] → IsOpenCalls (taken ++ more)
  open_at_limit more none = subst IsOpenCalls (sym (ap (λ l. taken ++ l) none ∙ append-nil taken)) at_line_end

  -- nor within the next line
  pub open_in_line : number ≤ 2000000 → (part : List ℕ) → front_line 65536 part ≡ Last part → IsOpenCalls (taken ++ part)
  open_in_line few part short = record {
    lines = taken;
    part = part;
    is = refl;
    ends = lines.ends;
    whole = whole;
    short = short;
    room = inr (ok_is_ok _ calls (
        sym (lines.gives (10 ∷ []))
        ∙ calls_at-step (2000001 - number) number calls None (10 ∷ []) [] (omega arith)
        (ap call_of_front (front_line-line_end 65536 []) ∙ ap (λ (r : Result (Option Call) Reason). r >>= λ call. Ok (call, Some [])) empty_line)
        ∙ no_line (2000001 - number - 1) (number + 1) calls));
  }

module _ (first mid new : Option (List ℕ)) (number : ℕ) (calls : List Call) (so_far : Reached first mid number calls) where
  -- after the last line that is allowed
  pub stops_at_limit : (r : Result (Unit {0}) (ReadError ScriptFault)) (e : ReadError ScriptFault) → r ≡ Err e → StopsInTime (λ taken. taken ≡ []) r mid new → StopsInTime {X = Unit {0}} IsOpenCalls (Err e) first new
  stops_at_limit r e is stops =
      failed_later first mid new (λ taken. taken ≡ []) IsOpenCalls (λ bytes e. let at = so_far bytes e in (at.0, at.1, at.2, at.3, open_at_limit number calls at.0 at.4)) r (failed e) e is refl stops

  module _ (few : number ≤ 2000000) where
    behind_lines : Takes first mid (λ front rest. (taken : List ℕ) → front_line 65536 taken ≡ Last taken → IsOpenCalls (front ++ taken))
    behind_lines bytes e = let at = so_far bytes e in (at.0, at.1, at.2, at.3, open_in_line number calls at.0 at.4 few)

    -- within a line that could not be read
    pub stops_in_line : {X : Type 0} (r : Result X (ReadError Reason)) (e : ReadError Reason) → r ≡ Err e → StopsInTime (λ taken. front_line 65536 taken ≡ Last taken) r mid new → StopsInTime {X = List Call} IsOpenCalls (Err (script_error_of number e)) first new
    stops_in_line r e is stops = as_script e (failed_later first mid new (λ taken. front_line 65536 taken ≡ Last taken) IsOpenCalls behind_lines r (failed e) e is refl stops)
      where
        as_script : (e : ReadError Reason) → StopsInTime {X = Unit {0}} IsOpenCalls (Err e) first new → StopsInTime {X = List Call} IsOpenCalls (Err (script_error_of number e)) first new
        as_script (reads.Fault reason) stops = stops
        as_script reads.ReadFault stops = stops
        as_script reads.OutOfMemory stops = tt

-- within the first line
pub stops_in_first_line : {X : Type 0} (r : Result X (ReadError ScriptFault)) (e : ReadError ScriptFault) (old new : Option (List ℕ)) → r ≡ Err e → StopsInTime (λ taken. front_line 8 taken ≡ Last taken) r old new → StopsInTime {X = Unit {0}} IsOpenScript (Err e) old new
stops_in_first_line r e old new is stops = failed_sooner (λ taken. front_line 8 taken ≡ Last taken) IsOpenScript (λ taken still. inl still) r (failed e) e old new is refl stops

-- the line before all calls
module _ (first mid new : Option (List ℕ)) (begins : (bytes : List ℕ) → first ≡ Some bytes → (rest : List ℕ) × (mid ≡ Some rest) × (after_calls_line (front_line 8 bytes) ≡ Ok (Some rest))) where
  calls_line_is : (bytes rest : List ℕ) → after_calls_line (front_line 8 bytes) ≡ Ok (Some rest) → bytes ≡ codes "== calls\n" ++ rest
  calls_line_is bytes rest is = of_front (front_line 8 bytes) refl is
    where
      of_front : (front : Front) → front_line 8 bytes ≡ front → after_calls_line front ≡ Ok (Some rest) → bytes ≡ codes "== calls\n" ++ rest
      of_front (Whole line after) front is =
          let passed = then_ok (is_calls_line line) NoCalls (Ok (Some after)) (Some rest) is in
          let left : after ≡ rest = cc (ok_is passed.1) in
          (whole_is 8 bytes line after front).0 ∙ (λ i. (bytes_eq-Decides line (codes "== calls")).0 passed.0 i ++ 10 ∷ left i)
      of_front (Last line) front is =
          let passed = then_ok (is_calls_line line) NoCalls (Ok None) (Some rest) is in
          absurd (none_some (ok_is passed.1))
        where
          none_some : {A : Type 0} {x : A} → None ≡ Some x → ⊥
          none_some is = cc
      of_front Long front is = no_ok is

  open_behind : (taken : List ℕ) → IsOpenCalls taken → IsOpenScript (codes "== calls\n" ++ taken)
  open_behind taken calls = inr (record {
    lines = codes "== calls\n" ++ calls.lines;
    part = calls.part;
    is = ap (λ l. codes "== calls\n" ++ l) calls.is;
    whole = (ends calls.lines calls.ends, subst IsOk (sym (calls_behind calls.lines)) calls.whole);
    short = calls.short;
    room = more calls.room;
  })
    where
      ends : (lines : List ℕ) → (lines ≡ []) ⊎ EndsLine lines → EndsLine (codes "== calls\n" ++ lines)
      ends lines (inl none) = (codes "== calls", ap (λ l. codes "== calls\n" ++ l) none)
      ends lines (inr end) = (codes "== calls\n" ++ end.0, ap (λ l. codes "== calls\n" ++ l) end.1)

      more : (calls.part ≡ []) ⊎ IsOk (calls_at 2000000 1 [] (calls.lines ++ 10 ∷ [])) → (calls.part ≡ []) ⊎ IsOk (script_of ((codes "== calls\n" ++ calls.lines) ++ 10 ∷ []))
      more (inl none) = inl none
      more (inr room) = inr (subst IsOk (sym (calls_behind (calls.lines ++ 10 ∷ []))) room)

  pub stops_in_calls : {X : Type 0} (r : Result X (ReadError ScriptFault)) → StopsInTime IsOpenCalls r mid new → StopsInTime IsOpenScript r first new
  stops_in_calls r stops =
      stops_later first mid new IsOpenCalls IsOpenScript (λ bytes e.
      let at = begins bytes e in
      (codes "== calls\n", at.0, calls_line_is bytes at.0 at.2, at.1, open_behind)) r stops

-- a script after an inventory
pub input_behind : (first mid new : Option (List ℕ)) (tree : Entries) → ((bytes : List ℕ) → first ≡ Some bytes → (rest : List ℕ) × (mid ≡ Some rest) × (inventory_of bytes ≡ Ok (tree, rest))) → Takes mid new (λ taken rest. IsOpenScript taken) → Takes first new (λ taken rest. IsOpenInput taken)
input_behind first mid new tree reads stops =
    takes_behind first mid new (λ taken rest. IsOpenScript taken) (λ taken rest. IsOpenInput taken) (λ bytes e.
    let at = reads bytes e in
    let inventory = (inventories_are_entries bytes tree at.0).0 at.2 in
    let front : List ℕ = codes "unitadm-inventory 1\n" ++ (flat_map entry_line inventory.entries ++ codes "end\n") in
    let behind : (rest : List ℕ) → front ++ rest ≡ codes "unitadm-inventory 1\n" ++ (flat_map entry_line inventory.entries ++ (codes "end\n" ++ rest)) = λ rest.
    ap (λ l. codes "unitadm-inventory 1\n" ++ l) (append_assoc (flat_map entry_line inventory.entries) (codes "end\n") rest) in (
      front,
      at.0,
      inventory.text ∙ sym (behind at.0),
      at.1,
      λ taken after still. (
        tree,
        taken,
        (inventories_are_entries (front ++ taken) tree taken).1 (record {
          entries = inventory.entries;
          text = behind taken;
          few = inventory.few;
          distinct = inventory.distinct;
          map = inventory.map;
          tree = inventory.tree;
        }),
        still,
      ),
    ))
    stops

pub script_input_stops : (first mid new : Option (List ℕ)) (tree : Entries) → ((bytes : List ℕ) → first ≡ Some bytes → (rest : List ℕ) × (mid ≡ Some rest) × (in_inventory (inventory_of bytes) ≡ Ok (tree, rest))) → (e : InputError) → ScriptStops e mid new → InputStops e first new
script_input_stops first mid new tree reads (inputs.InventoryRead n) stops = absurd stops
script_input_stops first mid new tree reads inputs.ReadFault stops =
    input_behind first mid new tree (λ bytes e. let at = reads bytes e in (at.0, at.1, read_whole (inventory_of bytes) (tree, at.0) at.2)) stops
  where
    read_whole : (read : Result (Entries × List ℕ) (InventoryFault × ℕ)) (x : Entries × List ℕ) → in_inventory read ≡ Ok x → read ≡ Ok x
    read_whole (Ok y) x is = ap (λ z. Ok z) (ok_is is)
    read_whole (Err e) x is = no_ok is
script_input_stops first mid new tree reads (inputs.Fault fault) stops = tt
script_input_stops first mid new tree reads inputs.OutOfMemory stops = tt

pub run_stops : (e : InputError) (old new : Option (List ℕ)) → InputStops e old new → RunStops (run_fault_of e) old new
run_stops (inputs.Fault (Inventory fault n)) old new stops = tt
run_stops (inputs.Fault (Script NoCalls)) old new stops = tt
run_stops (inputs.Fault (Script (Bad line reason))) old new stops = tt
run_stops (inputs.Fault Full) old new stops = tt
run_stops (inputs.InventoryRead n) old new stops = stops
run_stops inputs.ReadFault old new stops = stops
run_stops inputs.OutOfMemory old new stops = tt
