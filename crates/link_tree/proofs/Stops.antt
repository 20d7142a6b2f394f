-- Where reading an inventory stops.
use Rattle.std.proofs.Common.{if◌then◌else◌, true, ◌≡◌, ℕ, zero, suc, ◌-◌, ◌≤◌, Bool, List, [], ◌∷◌, ◌++◌, length, drop, Option, Some, None, Result, Ok, Err, refl, sym, ap, ◌∙◌, subst, inl, inr, arith, append_assoc, nat_le, take-append-drop}
use Rattle.std.proofs.lemmas.List.{length-take-le}
use Rattle.std.specs.Prelude.{IsErr, IsErrAnd}
use Rattle.std.specs.Io.KnownBytes.{Keeps}
use Rattle.std.specs.FinMap as map
use Rattle.byte_streams.specs.Blocks.{IsBytes, after_prefix}
use Rattle.byte_streams.specs.Lines.{front_line}
use Rattle.byte_streams.specs.Reads.{IsFaultOf, ReadsFront, StopsInTime}
use Rattle.byte_streams.specs.Streams.{GivesNext, StopsAt, Takes}
use Rattle.byte_streams.specs.declared.read_error.ReadError.{ReadError}
use Rattle.byte_streams.specs.declared.read_error.ReadError.TheVariants as errors
use Rattle.byte_streams.proofs.Given.{gave_byte, gave_end, kept_bytes}
use Rattle.byte_streams.proofs.Prefixes.{prefix_is}
use Rattle.byte_streams.proofs.Taken.{failed_later, stops_behind, takes_behind}
use Rattle.link_tree.specs.Inventory.{◌>>=◌, contents_at, end_of, entries_at, entry_at, entry_of, header, header_at, header_of, line_of_front}
use Rattle.link_tree.specs.Pending.{IsDuplicateOrAt}
use Rattle.link_tree.specs.Reads.{IsUndecided, StopsInEntry, numbered}
use Rattle.link_tree.specs.Trees.{Entries}
use Rattle.link_tree.specs.declared.inventory_fault.InventoryError.{InventoryError}
use Rattle.link_tree.specs.declared.inventory_fault.InventoryError.TheVariants as inventories
use Rattle.link_tree.specs.declared.inventory_fault.InventoryFault.{InventoryFault}
use Rattle.link_tree.specs.declared.inventory_fault.InventoryFault.TheVariants.{Truncated}
use Rattle.link_tree.proofs.Entries.{Next, Reached, Read, came_next, entries_at-bad, next_of, room_of}
use Rattle.link_tree.proofs.Again.{header-read}
use Rattle.link_tree.specs.declared.entry_line.EntryLine.{EntryLine}
use Rattle.link_tree.proofs.Undecided.{line_taken, line_undecided, reads_behind}
use Rattle.link_tree.proofs.Results.{no_ok, ok_parts}
use Rattle.link_tree.proofs.FileBytes.{contents_undecided}

-- what `?` returns
pub returned : {A E : Type 0} (r : Result A E) (f : E) → IsErr r × IsErrAnd r (λ e. e ≡ f) → r ≡ Err f
returned (Ok x) f both = absurd both.1
returned (Err e) f both = ap (λ x. Err x) both.1

pub in_number : (Open : ℕ → List ℕ → Type 0) (number : ℕ) (f : ReadError InventoryFault) (old new : Option (List ℕ)) → StopsInTime {X = Unit {0}} (Open number) (Err f) old new → StopsInEntry Open (Err (numbered number f)) old new
in_number Open number (errors.Fault fault) old new stops = λ other. stops
in_number Open number errors.ReadFault old new stops = stops
in_number Open number errors.OutOfMemory old new stops = tt

-- a failed result without a value
abbrev failed : ReadError InventoryFault → Result (Unit {0}) (ReadError InventoryFault)
failed f = Err f

-- what comes after a line
module _ (room : Bool) (said : EntryLine) (first mid : Option (List ℕ)) (reads : (bytes : List ℕ) → first ≡ Some bytes → (rest : List ℕ) × (mid ≡ Some rest) × (line_of_front (front_line 16384 bytes) ≡ Ok (said, rest))) where
  pub line_stopped : Takes first mid (StopsAt (λ taken. entry_at room (front_line 16384 taken) ≡ Err Truncated))
  line_stopped bytes e =
      let at = reads bytes e in
      let line = line_taken bytes said at.0 at.2 in
      (line.before ++ 10 ∷ [], at.0, line.is ∙ sym (append_assoc line.before (10 ∷ []) at.0), at.1, inr (line.before, 10, refl, line_undecided room bytes said at.0 line))

  pub behind_line : room ≡ true → Takes first mid (λ front rest. (taken : List ℕ) → entry_of said taken ≡ Err Truncated → entry_at room (front_line 16384 (front ++ taken)) ≡ Err Truncated)
  behind_line some bytes e =
      let at = reads bytes e in
      let line = line_taken bytes said at.0 at.2 in (
        line.before ++ 10 ∷ [],
        at.0,
        line.is ∙ sym (append_assoc line.before (10 ∷ []) at.0),
        at.1,
        λ taken cut.
            ap (λ l. entry_at room (front_line 16384 l)) (append_assoc line.before (10 ∷ []) taken)
            ∙ reads_behind room bytes said at.0 line taken
            ∙ ap (λ (t : Bool). if t then entry_of said taken else end_of said taken) some ∙ cut,
      )

-- if an entry can't be added to the tree, all before it were added
pub place_refused : (e : ReadError InventoryFault) (number : ℕ) (before : Read) (m : Entries) {X : Type 0} (placed : Result X InventoryFault) → IsFaultOf e placed → Ok m ≡ before → IsDuplicateOrAt number before (numbered number e)
place_refused (errors.Fault fault) number before m placed is all = λ other. (refl, (m, sym all))
place_refused errors.ReadFault number before m placed is all = absurd is
place_refused errors.OutOfMemory number before m placed is all = tt

-- the bytes of a file
module _ (size : ℕ) (old mid : Option (List ℕ)) (items : List ℕ) (is : (bytes : List ℕ) → old ≡ Some bytes → IsBytes size bytes mid (Some items)) where
  items_sized : (bytes : List ℕ) → old ≡ Some bytes → length items ≡ size
  items_sized bytes e = let at = is bytes e in ap length at.1 ∙ length-take-le size bytes at.0

  items_all : (bytes : List ℕ) → old ≡ Some bytes → bytes ≡ items ++ drop size bytes
  items_all bytes e = let at = is bytes e in sym (take-append-drop size bytes) ∙ ap (λ l. l ++ drop size bytes) (sym at.1)

  pub items_kept : (new : Option (List ℕ)) → Keeps mid new → Takes old new (λ taken rest. contents_at size taken ≡ Err Truncated)
  items_kept new kept bytes e =
      let at = is bytes e in
      (items, drop size bytes, items_all bytes e, kept_bytes mid new kept (drop size bytes) at.2, contents_undecided size items (items_sized bytes e))

  module _ (new : Option (List ℕ)) (o : Option ℕ) (gives : GivesNext mid new o) where
    pub items_then : (b : ℕ) → o ≡ Some b → Takes old new (StopsAt (λ taken. contents_at size taken ≡ Err Truncated))
    items_then b some bytes e =
        let at = is bytes e in
        let gave = gave_byte mid new b (subst (GivesNext mid new) some gives) (drop size bytes) at.2 in
        (items ++ b ∷ [], gave.0, items_all bytes e ∙ ap (λ l. items ++ l) gave.2 ∙ sym (append_assoc items (b ∷ []) gave.0), gave.1, inr (items, b, refl, contents_undecided size items (items_sized bytes e)))

    pub items_ended : o ≡ None → Takes old new (StopsAt (λ taken. contents_at size taken ≡ Err Truncated))
    items_ended none bytes e =
        let at = is bytes e in
        let here = subst (GivesNext mid new) none gives in
        let end = gave_end mid new here.0 here.1 (drop size bytes) at.2 in
        (items, [], items_all bytes e ∙ ap (λ l. items ++ l) end.1, end.0, inl (contents_undecided size items (items_sized bytes e), refl))

-- nothing is decided in the entry of this number
abbrev pub IsOpen : ℕ → List ℕ → Type 0
IsOpen number taken = (1 ≤ number) × (entries_at 65536 1 map.empty taken ≡ Err (Truncated, number))

module _ (first mid new : Option (List ℕ)) (number : ℕ) (read : Read) (so_far : Reached first mid number read) (from : 1 ≤ number) where
  -- nothing is decided after the bytes taken before
  open_behind : (m : Entries) → Ok m ≡ read → Takes first mid (λ front rest. (taken : List ℕ) → next_of (65537 - number) taken ≡ Err Truncated → IsOpen number (front ++ taken))
  open_behind m all bytes e =
      let at = so_far bytes e in (
        at.0,
        at.1,
        at.2,
        at.3,
        λ taken cut.
            (from, sym (at.4 taken) ∙ ap (λ (x : Read). x >>= λ m. entries_at (65537 - number) number m taken) (sym all) ∙ entries_at-bad (65537 - number) number m taken Truncated cut),
      )

  module _ (r : Result (Option Next) (ReadError InventoryFault)) where
    -- the entry was not read
    pub stops_bad : (f : ReadError InventoryFault) (m : Entries) → r ≡ Err f → Ok m ≡ read → StopsInTime (λ taken. entry_at (nat_le number 65536) (front_line 16384 taken) ≡ Err Truncated) r mid new → StopsInEntry IsOpen (Err (numbered number f)) first new
    stops_bad f m is all stops =
        let behind = subst (λ (room : Bool). Takes first mid (λ front rest. (taken : List ℕ) → entry_at room (front_line 16384 taken) ≡ Err Truncated → IsOpen number (front ++ taken))) (sym (room_of number (65537 - number) refl)) (open_behind m all) in
        in_number IsOpen number f first new (failed_later first mid new (λ taken. entry_at (nat_le number 65536) (front_line 16384 taken) ≡ Err Truncated) (IsOpen number) behind r (failed f) f is refl stops)

    -- it was read, and can't be added to the tree
    module _ (reads : (bytes : List ℕ) → mid ≡ Some bytes → ReadsFront (λ o. o) new r (entry_at (nat_le number 65536) (front_line 16384 bytes))) (o : Option Next) (entry : Next) (is : r ≡ Ok o) (some : o ≡ Some entry) where
      pub stops_refused : (f : InventoryError) → IsDuplicateOrAt number read f → StopsInEntry IsOpen (Err f) first new
      stops_refused (inventories.Fault fault k) refused = λ other bytes e.
          let before = refused other in
          let at = open_behind before.1.0 (sym before.1.1) bytes e in
          let came = came_next first mid new number read so_far r reads bytes e o entry is some at.1 at.3 in (
            at.0 ++ (came.2.before ++ 10 ∷ []),
            came.0,
            at.2 ∙ ap (λ l. at.0 ++ l) (came.2.is ∙ sym (append_assoc came.2.before (10 ∷ []) came.0)) ∙ sym (append_assoc at.0 (came.2.before ++ 10 ∷ []) came.0),
            came.1,
            inr (at.0 ++ came.2.before, 10, sym (append_assoc at.0 came.2.before (10 ∷ [])), subst (λ (n : ℕ). IsOpen n (at.0 ++ came.2.before)) (sym before.0) (at.4 came.2.before came.2.undecided)),
          )
      stops_refused (inventories.ReadFault k) refused = absurd refused
      stops_refused inventories.OutOfMemory refused = tt

-- the whole inventory
module _ (first mid new : Option (List ℕ)) (begins : (bytes : List ℕ) → first ≡ Some bytes → (rest : List ℕ) × (mid ≡ Some rest) × (header_at bytes ≡ Ok (tt, rest))) where
  header_is : (bytes rest : List ℕ) → header_at bytes ≡ Ok (tt, rest) → bytes ≡ header ++ rest
  header_is bytes rest is = found (after_prefix header bytes) refl is
    where
      found : (after : Option (List ℕ)) → after_prefix header bytes ≡ after → header_of after ≡ Ok (tt, rest) → bytes ≡ header ++ rest
      found None after is = no_ok is
      found (Some left) after is = prefix_is header bytes left after ∙ ap (λ l. header ++ l) (ok_parts is).1

  behind_header : (number : ℕ) → Takes first mid (λ front rest. (taken : List ℕ) → IsOpen number taken → IsUndecided number (front ++ taken))
  behind_header number bytes e =
      let at = begins bytes e in
      (header, at.0, header_is bytes at.0 at.2, at.1, still_open number)
    where
      still_open : (number : ℕ) (taken : List ℕ) → IsOpen number taken → IsUndecided number (header ++ taken)
      still_open zero taken still = absurd (omega (arith, still.0))
      still_open (suc n) taken still = header-read taken ∙ still.1

  pub stops_whole : (r : Result Entries InventoryError) → StopsInEntry IsOpen r mid new → StopsInEntry IsUndecided r first new
  stops_whole (Ok m) stops = tt
  stops_whole (Err (inventories.Fault fault k)) stops = λ other.
      takes_behind first mid new (StopsAt (IsOpen k)) (StopsAt (IsUndecided k)) (λ bytes e. let at = behind_header k bytes e in (at.0, at.1, at.2, at.3, λ taken after stopped. stops_behind (IsOpen k) (IsUndecided k) at.0 taken after at.4 stopped)) (stops other)
  stops_whole (Err (inventories.ReadFault k)) stops =
      takes_behind first mid new (λ taken rest. IsOpen k taken) (λ taken rest. IsUndecided k taken) (λ bytes e. let at = behind_header k bytes e in (at.0, at.1, at.2, at.3, λ taken after still. at.4 taken still)) stops
  stops_whole (Err inventories.OutOfMemory) stops = tt
