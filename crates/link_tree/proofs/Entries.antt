-- One more entry of an inventory.
use Rattle.std.proofs.Common.{append_assoc, [], ◌∷◌, ◌++◌, ◌≡◌, ℕ, ◌+◌, ◌-◌, ◌<◌, ◌≤◌, Bool, true, false, List, Option, None, Some, Result, Ok, Err, refl, sym, ap, ◌∙◌, arith, zero, suc, subst, nat_le}
use Rattle.std.specs.Option.{is_some}
use Rattle.std.proofs.lemmas.Bool.{leb-true}
use Rattle.std.proofs.lemmas.Bool.Decides.{nat_tests}
use Rattle.std.specs.FinMap as map
use Rattle.byte_streams.specs.Reads.{ReadsFront}
use Rattle.link_tree.specs.Reads.{TreeOf, numbered}
use Rattle.link_tree.specs.declared.entry.Entry.{Entry}
use Rattle.byte_streams.specs.declared.read_error.ReadError.{ReadError}
use Rattle.byte_streams.specs.declared.read_error.ReadError.TheVariants as errors
use Rattle.link_tree.specs.declared.inventory_fault.InventoryError.{InventoryError}
use Rattle.link_tree.specs.declared.inventory_fault.InventoryError.TheVariants as inventories
use Rattle.byte_streams.specs.Lines.{front_line}
use Rattle.byte_streams.specs.Blocks.{SkipsPrefix}
use Rattle.link_tree.specs.Trees.{Entries}
use Rattle.link_tree.specs.Inventory.{◌>>=◌, entry_at, placed, in_entry, entries_at, header_of}
use Rattle.link_tree.specs.Pending.{GivesOn, with_entry}
use Rattle.link_tree.specs.declared.inventory_fault.InventoryFault.{InventoryFault}
use Rattle.link_tree.specs.declared.inventory_fault.InventoryFault.TheVariants.{BadHeader}
use Rattle.byte_streams.specs.Streams.{Takes}
use Rattle.link_tree.proofs.Undecided.{Taken, entry_taken}

abbrev pub Next : Type 0
Next = List ℕ × Entry

abbrev pub has_room : ℕ → Bool
has_room zero = false
has_room (suc more) = true

-- the next entry, if at most this number of entries may still follow
abbrev pub next_of : ℕ → List ℕ → Result (Option Next × List ℕ) InventoryFault
next_of more bytes = entry_at (has_room more) (front_line 16384 bytes)

pub entries_at-end : (more number : ℕ) (m : Entries) (bytes rest : List ℕ) → next_of more bytes ≡ Ok (None, rest) → entries_at more number m bytes ≡ Ok (m, rest)
unfolding entries_at
entries_at-end zero number m bytes rest e = rw e refl
entries_at-end (suc more) number m bytes rest e = rw e refl

pub entries_at-bad : (more number : ℕ) (m : Entries) (bytes : List ℕ) (fault : InventoryFault) → next_of more bytes ≡ Err fault → entries_at more number m bytes ≡ Err (fault, number)
unfolding entries_at
entries_at-bad zero number m bytes fault e = rw e refl
entries_at-bad (suc more) number m bytes fault e = rw e refl

pub entries_at-refused : (more number : ℕ) (m : Entries) (bytes rest : List ℕ) (entry : Next) (fault : InventoryFault) → 0 < more → next_of more bytes ≡ Ok (Some entry, rest) → placed m entry ≡ Err fault → entries_at more number m bytes ≡ Err (fault, number)
unfolding entries_at
entries_at-refused zero number m bytes rest entry fault room e p = absurd (omega arith)
entries_at-refused (suc more) number m bytes rest entry fault room e p = rw (e, p) refl

pub entries_at-more : (more number : ℕ) (m m' : Entries) (bytes rest : List ℕ) (entry : Next) → 0 < more → next_of more bytes ≡ Ok (Some entry, rest) → placed m entry ≡ Ok m' → entries_at more number m bytes ≡ entries_at (more - 1) (number + 1) m' rest
unfolding entries_at
entries_at-more zero number m m' bytes rest entry room e p = absurd (omega arith)
entries_at-more (suc more) number m m' bytes rest entry room e p =
    let less : suc more - 1 ≡ more = omega arith in
    rw (less, e, p) refl

abbrev pub Read : Type 0
Read = Result Entries (InventoryFault × ℕ)

-- the entries read, with whatever follows the bytes taken, give the result of the whole input
abbrev pub Reached : Option (List ℕ) → Option (List ℕ) → ℕ → Read → Type 0
Reached first now number read = Takes first now (λ taken rest. (more : List ℕ) → (read >>= λ m. entries_at (65537 - number) number m more) ≡ entries_at 65536 1 map.empty (taken ++ more))

reached_rest : (first now : Option (List ℕ)) (number : ℕ) (read : Read) → Reached first now number read → (bytes : List ℕ) → first ≡ Some bytes → (rest : List ℕ) × (now ≡ Some rest) × ((read >>= λ m. entries_at (65537 - number) number m rest) ≡ entries_at 65536 1 map.empty bytes)
reached_rest first now number read so_far bytes e =
    let at = so_far bytes e in
    (at.1, at.3, at.4 at.1 ∙ ap (entries_at 65536 1 map.empty) (sym at.2))

-- there is room for an entry of this number
pub room_of : (number more : ℕ) → 65537 - number ≡ more → nat_le number 65536 ≡ has_room more
room_of number zero h = grind (arith, nat_tests)
room_of number (suc more) h = grind (arith, nat_tests)

-- there was room if an entry was read
pub has_come : (number : ℕ) (o : Option Next) (entry : Next) → o ≡ Some entry → (is_some o ≡ true → nat_le number 65536 ≡ true) → number ≤ 65536
has_come number o entry some room = leb-true number 65536 (room (ap is_some some))

-- the step that reads one more entry
step : (more number : ℕ) (read : Read) (bytes rest : List ℕ) (entry : Next) → 0 < more → next_of more bytes ≡ Ok (Some entry, rest) → (read >>= λ m. entries_at more number m bytes) ≡ (with_entry read number entry >>= λ m. entries_at (more - 1) (number + 1) m rest)
step more number (Err f) bytes rest entry room e = refl
step more number (Ok m) bytes rest entry room e = one (placed m entry) refl
  where
    one : (p : Result Entries InventoryFault) → placed m entry ≡ p → entries_at more number m bytes ≡ (in_entry number p >>= λ m. entries_at (more - 1) (number + 1) m rest)
    one (Ok grown) p = entries_at-more more number m grown bytes rest entry room e p
    one (Err fault) p = entries_at-refused more number m bytes rest entry fault room e p

module _ (first mid new : Option (List ℕ)) (number : ℕ) (read : Read) (so_far : Reached first mid number read) (r : Result (Option Next) (ReadError InventoryFault)) (reads : (bytes : List ℕ) → mid ≡ Some bytes → ReadsFront (λ o. o) new r (entry_at (nat_le number 65536) (front_line 16384 bytes))) (bytes : List ℕ) (e : first ≡ Some bytes) where
  seen : (x : Result (Option Next) (ReadError InventoryFault)) → r ≡ x → (rest : List ℕ) × ReadsFront (λ o. o) new x (next_of (65537 - number) rest) × ((read >>= λ m. entries_at (65537 - number) number m rest) ≡ entries_at 65536 1 map.empty bytes)
  seen x is =
      let at = reached_rest first mid number read so_far bytes e in
      let here = subst (λ (room : Bool). ReadsFront (λ o. o) new r (entry_at room (front_line 16384 at.0))) (room_of number (65537 - number) refl) (reads at.0 at.1) in
      (at.0, subst (λ (y : Result (Option Next) (ReadError InventoryFault)). ReadsFront (λ o. o) new y (next_of (65537 - number) at.0)) is here, at.2)

  -- the entry that was read, after the bytes taken before
  pub came_next : (o : Option Next) (entry : Next) → r ≡ Ok o → o ≡ Some entry → (left : List ℕ) → mid ≡ Some left → (rest : List ℕ) × (new ≡ Some rest) × Taken (next_of (65537 - number)) left (Some entry) rest
  came_next o entry is some left e =
      let here = subst (λ (room : Bool). ReadsFront (λ o. o) new r (entry_at room (front_line 16384 left))) (room_of number (65537 - number) refl) (reads left e) in
      let at = subst (λ (y : Result (Option Next) (ReadError InventoryFault)). ReadsFront (λ o. o) new y (next_of (65537 - number) left)) (is ∙ ap (λ (x : Option Next). Ok x) some) here in
      (at.0, at.1, entry_taken (has_room (65537 - number)) left (Some entry) at.0 at.2)

  -- if the pending entries can't be placed, neither can all
  pub reached_stop : (f : InventoryError) (now : Read) → GivesOn (Err f) now read → TreeOf new (Err f) (entries_at 65536 1 map.empty bytes)
  reached_stop (inventories.Fault fault k) now stop =
      let at = reached_rest first mid number read so_far bytes e in
      sym at.2 ∙ ap (λ (x : Read). x >>= λ m. entries_at (65537 - number) number m at.0) stop
  reached_stop (inventories.ReadFault k) now stop = absurd stop
  reached_stop inventories.OutOfMemory now stop = tt

  pub reached_end : (o : Option Next) (m : Entries) → r ≡ Ok o → o ≡ None → Ok m ≡ read → TreeOf new (Ok m) (entries_at 65536 1 map.empty bytes)
  reached_end o m is none all =
      let at = seen (Ok None) (is ∙ ap (λ (x : Option Next). Ok x) none) in
      (at.1.0, at.1.1, sym at.2 ∙ ap (λ (x : Read). x >>= λ m. entries_at (65537 - number) number m at.0) (sym all) ∙ entries_at-end (65537 - number) number m at.0 at.1.0 at.1.2)

  pub reached_bad : (f : ReadError InventoryFault) (m : Entries) → r ≡ Err f → Ok m ≡ read → TreeOf new (Err (numbered number f)) (entries_at 65536 1 map.empty bytes)
  reached_bad (errors.Fault fault) m is all =
      let at = seen (Err (errors.Fault fault)) is in
      sym at.2 ∙ ap (λ (x : Read). x >>= λ m. entries_at (65537 - number) number m at.0) (sym all) ∙ entries_at-bad (65537 - number) number m at.0 fault at.1
  reached_bad errors.ReadFault m is all = tt
  reached_bad errors.OutOfMemory m is all = tt

  -- with one more entry
  one_more : (o : Option Next) (entry : Next) → r ≡ Ok o → o ≡ Some entry → number ≤ 65536 → (rest : List ℕ) × (new ≡ Some rest) × ((with_entry read number entry >>= λ m. entries_at (65537 - (number + 1)) (number + 1) m rest) ≡ entries_at 65536 1 map.empty bytes)
  one_more o entry is some room =
      let at = seen (Ok (Some entry)) (is ∙ ap (λ (x : Option Next). Ok x) some) in
      let less : 65537 - (number + 1) ≡ 65537 - number - 1 = omega arith in
      (at.1.0, at.1.1, ap (λ (k : ℕ). with_entry read number entry >>= λ m. entries_at k (number + 1) m at.1.0) less ∙ sym (step (65537 - number) number read at.0 at.1.0 entry (omega arith) at.1.2) ∙ at.2)

  pub reached_refused : (o : Option Next) (entry : Next) (f : InventoryError) (now : Read) → r ≡ Ok o → o ≡ Some entry → number ≤ 65536 → GivesOn (Err f) now (with_entry read number entry) → TreeOf new (Err f) (entries_at 65536 1 map.empty bytes)
  reached_refused o entry (inventories.Fault fault k) now is some room stop =
      let at = one_more o entry is some room in
      sym at.2 ∙ ap (λ (x : Read). x >>= λ m. entries_at (65537 - (number + 1)) (number + 1) m at.0) stop
  reached_refused o entry (inventories.ReadFault k) now is some room stop = absurd stop
  reached_refused o entry inventories.OutOfMemory now is some room stop = tt

  pub reached_more : (o : Option Next) (entry : Next) (now : Read) → r ≡ Ok o → o ≡ Some entry → number ≤ 65536 → now ≡ with_entry read number entry → (taken rest : List ℕ) × (bytes ≡ taken ++ rest) × (new ≡ Some rest) × ((more : List ℕ) → (now >>= λ m. entries_at (65537 - (number + 1)) (number + 1) m more) ≡ entries_at 65536 1 map.empty (taken ++ more))
  reached_more o entry now is some room goes_on =
      let at = so_far bytes e in
      let came = came_next o entry is some at.1 at.3 in
      let less : 65537 - (number + 1) ≡ 65537 - number - 1 = omega arith in (
        at.0 ++ (came.2.before ++ 10 ∷ []),
        came.0,
        at.2 ∙ ap (λ l. at.0 ++ l) (came.2.is ∙ sym (append_assoc came.2.before (10 ∷ []) came.0)) ∙ sym (append_assoc at.0 (came.2.before ++ 10 ∷ []) came.0),
        came.1,
        λ more.
            ap (λ (x : Read). x >>= λ m. entries_at (65537 - (number + 1)) (number + 1) m more) goes_on
            ∙ ap (λ (k : ℕ). with_entry read number entry >>= λ m. entries_at k (number + 1) m more) less
            ∙ sym (step (65537 - number) number read (came.2.before ++ 10 ∷ more) more entry (omega arith) (came.2.again more))
            ∙ at.4 (came.2.before ++ 10 ∷ more)
            ∙ ap (entries_at 65536 1 map.empty) (ap (λ l. at.0 ++ l) (sym (append_assoc came.2.before (10 ∷ []) more)) ∙ sym (append_assoc at.0 (came.2.before ++ 10 ∷ []) more)),
      )

-- whether the header was there
pub header_found : (left : Option (List ℕ)) (found : Bool) (after : Option (List ℕ)) → SkipsPrefix left found after → found ≡ true → (rest : List ℕ) × (left ≡ Some rest) × (header_of after ≡ Ok (tt, rest))
header_found left true (Some rest) is e = (rest, is, refl)
header_found left true None is e = absurd is
header_found left false after is e = cc

pub header_missed : (left : Option (List ℕ)) (found : Bool) (after : Option (List ℕ)) → SkipsPrefix left found after → found ≡ false → header_of after ≡ Err BadHeader
header_missed left false after is e = ap header_of is
header_missed left true after is e = cc
