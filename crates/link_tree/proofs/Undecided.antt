-- The bytes taken while nothing was decided yet.
use Rattle.std.proofs.Common.{if◌then◌else◌, ◌≡◌, ℕ, Bool, true, false, List, ◌∷◌, ◌++◌, Option, Some, Result, Ok, Err, refl, sym, ap, ◌∙◌, append_assoc}
use Rattle.byte_streams.specs.Lines.{Front, Whole, Last, Long, front_line}
use Rattle.byte_streams.proofs.Pieces.{line_is_open, line_is_whole}
use Rattle.byte_streams.proofs.Fronts.{whole_is}
use Rattle.link_tree.specs.Inventory.{◌>>=◌, contents_at, end_of, entry_at, entry_of, line_of_front}
use Rattle.link_tree.specs.EntryLines.{line_of}
use Rattle.link_tree.specs.declared.entry.Entry.{Entry}
use Rattle.link_tree.specs.declared.entry.Entry.TheVariants.{File}
use Rattle.link_tree.specs.declared.entry_line.EntryLine.{EntryLine}
use Rattle.link_tree.specs.declared.entry_line.EntryLine.TheVariants as lines
use Rattle.link_tree.specs.declared.inventory_fault.InventoryFault.{InventoryFault}
use Rattle.link_tree.specs.declared.inventory_fault.InventoryFault.TheVariants.{Truncated}
use Rattle.link_tree.proofs.Results.{both_ok, no_ok, ok_is, ok_parts}
use Rattle.link_tree.proofs.FileBytes.{contents_are, contents_read, contents_undecided}

-- The bytes that a reader took, up to a line end. They are read the same whatever follows, and
-- without that line end nothing is decided.
pub record Taken {X : Type 0} (read : List ℕ → Result (X × List ℕ) InventoryFault) (bytes : List ℕ) (x : X) (rest : List ℕ) : Type 0 where
  pub before : List ℕ
  pub is : bytes ≡ before ++ 10 ∷ rest
  pub again : (more : List ℕ) → read (before ++ 10 ∷ more) ≡ Ok (x, more)
  pub undecided : read before ≡ Err Truncated

abbrev pub read_line : List ℕ → Result (EntryLine × List ℕ) InventoryFault
read_line bytes = line_of_front (front_line 16384 bytes)

-- what a line means, and what follows it
pub front_is : (front : Front) (said : EntryLine) (after : List ℕ) → line_of_front front ≡ Ok (said, after) → (line : List ℕ) × (front ≡ Whole line after) × (line_of line ≡ Ok said)
front_is Long said after h = no_ok h
front_is (Last line) said after h = no_ok h
front_is (Whole line rest) said after h =
    let at = both_ok (line_of line) (λ said. Ok (said, rest)) (said, after) h in
    let same = ok_is at.2 in
    (line, ap (λ x. Whole line x.1) same, at.1 ∙ ap (λ x. Ok x.0) same)

pub line_taken : (bytes : List ℕ) (said : EntryLine) (rest : List ℕ) → read_line bytes ≡ Ok (said, rest) → Taken read_line bytes said rest
line_taken bytes said rest is =
    let front = front_is (front_line 16384 bytes) said rest is in
    let found = whole_is 16384 bytes front.0 rest front.1 in
    record {
      before = front.0;
      is = found.0;
      again = λ more.
          ap line_of_front (line_is_whole 16384 front.0 found.1.clean more found.1.few)
          ∙ ap (λ r. ◌>>=◌ {B = EntryLine × List ℕ} r (λ said. Ok (said, more))) front.2;
      undecided = ap line_of_front (line_is_open 16384 front.0 found.1.clean found.1.few);
    }

pub contents_taken : (size : ℕ) (bytes contents rest : List ℕ) → contents_at size bytes ≡ Ok (contents, rest) → Taken (contents_at size) bytes contents rest
contents_taken size bytes contents rest is =
    let found = contents_are size bytes contents rest is in
    record {
      before = contents;
      is = found.1;
      again = λ more. ap (λ n. contents_at n (contents ++ 10 ∷ more)) (sym found.0) ∙ contents_read contents more;
      undecided = contents_undecided size contents found.0;
    }

abbrev pub read_entry : Bool → List ℕ → Result (Option (List ℕ × Entry) × List ℕ) InventoryFault
read_entry room bytes = entry_at room (front_line 16384 bytes)

-- what is read after a line
module _ (room : Bool) (bytes : List ℕ) (said : EntryLine) (after : List ℕ) (line : Taken read_line bytes said after) where
  abbrev pub behind : EntryLine → List ℕ → Result (Option (List ℕ × Entry) × List ℕ) InventoryFault
  behind said after = if room then entry_of said after else end_of said after

  pub reads_behind : (more : List ℕ) → read_entry room (line.before ++ 10 ∷ more) ≡ behind said more
  reads_behind more = ap (λ read. read >>= λ found. behind found.0 found.1) (line.again more)

  pub line_undecided : read_entry room line.before ≡ Err Truncated
  line_undecided = ap (λ read. read >>= λ found. behind found.0 found.1) line.undecided

  -- the line was the whole entry
  line_alone : (o : Option (List ℕ × Entry)) (rest : List ℕ) → behind said after ≡ Ok (o, rest) → ((more : List ℕ) → behind said more ≡ Ok (o, more)) → after ≡ rest → Taken (read_entry room) bytes o rest
  line_alone o rest is same left = record {
    before = line.before;
    is = line.is ∙ ap (λ l. line.before ++ 10 ∷ l) left;
    again = λ more. reads_behind more ∙ same more;
    undecided = line_undecided;
  }

file_taken : (bytes path : List ℕ) (size : ℕ) (after : List ℕ) → Taken read_line bytes (lines.File path size) after → (o : Option (List ℕ × Entry)) (rest : List ℕ) → entry_of (lines.File path size) after ≡ Ok (o, rest) → Taken (read_entry true) bytes o rest
file_taken bytes path size after line o rest is = of_contents (contents_at size after) refl is
  where
    of_contents : (r : Result (List ℕ × List ℕ) InventoryFault) → contents_at size after ≡ r → ◌>>=◌ {B = Option (List ℕ × Entry) × List ℕ} r (λ found. Ok (Some (path, File found.0), found.1)) ≡ Ok (o, rest) → Taken (read_entry true) bytes o rest
    of_contents (Err f) r is = no_ok is
    of_contents (Ok found) r is =
        let parts = ok_parts is in
        let taken = contents_taken size after found.0 found.1 r in
        record {
          before = line.before ++ 10 ∷ taken.before;
          is = line.is ∙ ap (λ l. line.before ++ 10 ∷ l) (taken.is ∙ ap (λ l. taken.before ++ 10 ∷ l) parts.1) ∙ sym (append_assoc line.before (10 ∷ taken.before) (10 ∷ rest));
          again = λ more.
              ap (read_entry true) (append_assoc line.before (10 ∷ taken.before) (10 ∷ more))
              ∙ reads_behind true bytes (lines.File path size) after line (taken.before ++ 10 ∷ more)
              ∙ ap (λ read. ◌>>=◌ {B = Option (List ℕ × Entry) × List ℕ} read (λ found. Ok (Some (path, File found.0), found.1))) (taken.again more) ∙ ap (λ x. Ok (x, more)) parts.0;
          undecided =
              reads_behind true bytes (lines.File path size) after line taken.before
              ∙ ap (λ read. ◌>>=◌ {B = Option (List ℕ × Entry) × List ℕ} read (λ found. Ok (Some (path, File found.0), found.1))) taken.undecided;
        }

pub entry_taken : (room : Bool) (bytes : List ℕ) (o : Option (List ℕ × Entry)) (rest : List ℕ) → read_entry room bytes ≡ Ok (o, rest) → Taken (read_entry room) bytes o rest
entry_taken room bytes o rest is = of_line room (read_line bytes) refl is
  where
    of_said : (room : Bool) (said : EntryLine) (after : List ℕ) → Taken read_line bytes said after → (if room then entry_of said after else end_of said after) ≡ Ok (o, rest) → Taken (read_entry room) bytes o rest
    of_said true lines.End after line is = let parts = ok_parts is in line_alone true bytes lines.End after line o rest is (λ more. ap (λ x. Ok (x, more)) parts.0) parts.1
    of_said true (lines.Link path target) after line is = let parts = ok_parts is in line_alone true bytes (lines.Link path target) after line o rest is (λ more. ap (λ x. Ok (x, more)) parts.0) parts.1
    of_said true (lines.File path size) after line is = file_taken bytes path size after line o rest is
    of_said false lines.End after line is = let parts = ok_parts is in line_alone false bytes lines.End after line o rest is (λ more. ap (λ x. Ok (x, more)) parts.0) parts.1
    of_said false (lines.Link path target) after line is = no_ok is
    of_said false (lines.File path size) after line is = no_ok is

    of_line : (room : Bool) (r : Result (EntryLine × List ℕ) InventoryFault) → read_line bytes ≡ r → (r >>= λ found. if room then entry_of found.0 found.1 else end_of found.0 found.1) ≡ Ok (o, rest) → Taken (read_entry room) bytes o rest
    of_line room (Err f) r is = no_ok is
    of_line room (Ok found) r is = of_said room found.0 found.1 (line_taken bytes found.0 found.1 r) is
