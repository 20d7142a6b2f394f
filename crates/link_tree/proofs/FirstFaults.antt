-- The fault that is reported is the first.
use Rattle.std.proofs.Common.{◌≡◌, ◌≢◌, ℕ, zero, suc, ◌+◌, ◌-◌, ◌<◌, ◌≤◌, Bool, true, false, not, ◌&&◌, ◌==◌, cond, nat_lt, nat_le, List, [], ◌∷◌, ◌++◌, length, length-append, take, drop, All, Option, None, Some, Result, Ok, Err, refl, sym, ap, ◌∙◌, inl, inr, arith, subst, append_assoc, append-nil}
use Rattle.std.specs.Prelude.{codes, is_some, if◌then◌else◌}
use Rattle.std.specs.List.{find, flat_map}
use Rattle.std.specs.Option.{option_map}
use Rattle.std.specs.Str.{bytes_eq}
use Rattle.std.specs.Cmp.Lexicographic.{nat_list_cmp_total}
use Rattle.std.specs.FinMap as map
use Rattle.std.specs.FinMap.{from_entries, from_entries_push, get-from_entries}
use Rattle.std.proofs.lemmas.Map.Lookups.{exact_bytes}
use Rattle.std.proofs.lemmas.Bool.{cases_Bool, false≢true}
use Rattle.std.proofs.lemmas.Bool.Decides.{nat_tests}
use Rattle.std.proofs.lemmas.List.{length-drop, drop_all}
use Rattle.std.proofs.lemmas.List.Elements.{All-nil, All-cons, All-head, All-tail}
use Rattle.std.proofs.lemmas.List.Quantifiers.{all_pairs_push}
use Rattle.unit_paths.specs.Paths.{is_path, is_target}
use Rattle.unit_paths.specs.Shape.{is_bad_shape}
use Rattle.byte_streams.specs.Blocks.{after_prefix}
use Rattle.byte_streams.specs.Lines.{Front, Whole, Last, Long, front_line}
use Rattle.byte_streams.proofs.Prefixes.{prefix_is}
use Rattle.link_tree.specs.EntryLines.{fields_of, length_of, file_line, link_line, by_letter, line_of}
use Rattle.link_tree.specs.FirstFaults.{Trouble, table, reported_as, Form, file_form, form_by, form_of, begins_otherwise, is_wrong, is_wrong_by, applies_by, applies, IsFirst, IsFirstFault, FirstFaultIsReported}
use Rattle.link_tree.specs.FirstFaults.Trouble.{LongLine, NoLineEnd, UnknownLine, InvalidPath, LargeFile, NoRoom, CutFile, NoFileEnd, SamePath, UnderAnother, InvalidShape}
use Rattle.link_tree.specs.FirstFaults.Form.{EndForm, FileForm, LinkForm}
use Rattle.link_tree.specs.FirstFaults.IsFirstFault.{InHeader, InEntry}
use Rattle.link_tree.specs.Grammar.{AreDistinct}
use Rattle.link_tree.specs.Inventory.{◌>>=◌, ended, contents_at, entry_of, end_of, entry_at, placed, in_entry, entries_at, header, header_of, inventory_of}
use Rattle.link_tree.specs.Shape.{IsTree, is_crowded}
use Rattle.link_tree.specs.Trees.{Entries, path_cmp, entry_line}
use Rattle.link_tree.specs.declared.entry.Entry.{Entry}
use Rattle.link_tree.specs.declared.entry.Entry.TheVariants.{File, Link}
use Rattle.link_tree.specs.declared.entry_line.EntryLine.{EntryLine}
use Rattle.link_tree.specs.declared.entry_line.EntryLine.TheVariants as lines
use Rattle.link_tree.specs.declared.inventory_fault.InventoryFault.{InventoryFault}
use Rattle.link_tree.specs.declared.inventory_fault.InventoryFault.TheVariants as faults
use Rattle.link_tree.proofs.Again.{header-read, none-alike, entry-fits, found-at, not-crowded, placed-next, next-read}
use Rattle.link_tree.proofs.Entries.{Next, has_room, next_of, entries_at-end, entries_at-bad, entries_at-refused, entries_at-more}
use Rattle.link_tree.proofs.FileBytes.{contents_short, contents_long}
use Rattle.link_tree.proofs.Grammar.{next_is, placed_is, some_room, not_among}
use Rattle.link_tree.proofs.Results.{no_ok, ok_is}
use Rattle.link_tree.proofs.Shapes.{empty_tree, grown_tree, fits_from}

-- the fault of reading an entry and adding it to the tree
abbrev err_of : {X : Type 0} → Result X InventoryFault → Option InventoryFault
err_of (Ok x) = None
err_of (Err fault) = Some fault

abbrev of_entry : Entries → Option Next → Option InventoryFault
of_entry m None = None
of_entry m (Some entry) = err_of (placed m entry)

abbrev of_next : Entries → Result (Option Next × List ℕ) InventoryFault → Option InventoryFault
of_next m (Err fault) = Some fault
of_next m (Ok found) = of_entry m found.0

-- a fault instead of a tree
abbrev refused : InventoryFault → ℕ → Result (Entries × List ℕ) (InventoryFault × ℕ)
refused fault number = Err (fault, number)

abbrev fault_in : InventoryFault × ℕ → Result (Entries × List ℕ) (InventoryFault × ℕ) → InventoryFault × ℕ
fault_in none (Ok read) = none
fault_in none (Err e) = e

same_fault : (one other : InventoryFault) (n k : ℕ) → refused one n ≡ refused other k → (one ≡ other) × (n ≡ k)
same_fault one other n k same = let both = ap (fault_in (one, n)) same in (ap (λ e. e.0) both, ap (λ e. e.1) both)

-- the first in the table that is wrong
abbrev first_of : (Trouble → Bool) → Option InventoryFault
first_of wrong = option_map reported_as (find wrong table)

-- the entry line of these parts, or its fault
abbrev said_by : Option Form → Result EntryLine InventoryFault
said_by None = Err faults.BadLine
said_by (Some EndForm) = Ok lines.End
said_by (Some (FileForm size path)) = file_line (Some size) path
said_by (Some (LinkForm path target)) = link_line path target

by_size : (size : Option ℕ) (path : List ℕ) → file_line size path ≡ said_by (file_form size path)
by_size None path = refl
by_size (Some size) path = refl

by_fields : (file link : Option (List ℕ × List ℕ)) → by_letter file link ≡ said_by (form_by file link)
by_fields (Some file) link = by_size (length_of file.0) file.1
by_fields None (Some link) = refl
by_fields None None = refl

line_form : (line : List ℕ) → line_of line ≡ said_by (form_of line)
unfolding line_of
line_form line = elim (cases_Bool (bytes_eq line (codes "end"))) [
  | inl is ↦ rw is refl
  | inr other ↦ rw other (by_fields (fields_of 70 line) (fields_of 76 line))
]

-- the first of the last three in the table
abbrev last_of : (Trouble → Bool) → Option InventoryFault
last_of wrong = option_map reported_as (find wrong (SamePath ∷ UnderAnother ∷ InvalidShape ∷ []))

module _ (room : Bool) (m : Entries) (rest : List ℕ) where
  abbrev goes_on : EntryLine × List ℕ → Result (Option Next × List ℕ) InventoryFault
  goes_on found = if room then entry_of found.0 found.1 else end_of found.0 found.1

  abbrev read_as : Option Form → Result (Option Next × List ℕ) InventoryFault
  read_as form = (said_by form >>= λ said. Ok (said, rest)) >>= goes_on

place_file : (m : Entries) (rest : List ℕ) (size : ℕ) (path : List ℕ) (entry : Entry) → err_of (placed m (path, entry)) ≡ last_of (is_wrong true m (FileForm size path) rest)
unfolding placed
place_file m rest size path entry = elim (cases_Bool (is_some (map.get m path))) [
  | inl there ↦ rw there refl
  | inr free ↦ elim (cases_Bool (is_crowded m path)) [
    | inl near ↦ rw (free, near) refl
    | inr apart ↦ elim (cases_Bool (is_bad_shape path)) [ inl bad ↦ rw (free, apart, bad) refl | inr fits ↦ rw (free, apart, fits) refl ]
  ]
]

place_link : (m : Entries) (rest : List ℕ) (path target : List ℕ) (entry : Entry) → err_of (placed m (path, entry)) ≡ last_of (is_wrong true m (LinkForm path target) rest)
unfolding placed
place_link m rest path target entry = elim (cases_Bool (is_some (map.get m path))) [
  | inl there ↦ rw there refl
  | inr free ↦ elim (cases_Bool (is_crowded m path)) [
    | inl near ↦ rw (free, near) refl
    | inr apart ↦ elim (cases_Bool (is_bad_shape path)) [ inl bad ↦ rw (free, apart, bad) refl | inr fits ↦ rw (free, apart, fits) refl ]
  ]
]

-- the fault of a file whose bytes were read, or couldn't be
abbrev file_at : Entries → (path : List ℕ) → Result (List ℕ × List ℕ) InventoryFault → Option InventoryFault
file_at m path contents = of_next m (contents >>= λ found. Ok (Some (path, File found.0), found.1))

abbrev bytes_of : (Trouble → Bool) → Option InventoryFault
bytes_of wrong = option_map reported_as (find wrong (CutFile ∷ NoFileEnd ∷ SamePath ∷ UnderAnother ∷ InvalidShape ∷ []))

by_bytes : (m : Entries) (rest : List ℕ) (size : ℕ) (path : List ℕ) → file_at m path (contents_at size rest) ≡ bytes_of (is_wrong true m (FileForm size path) rest)
by_bytes m rest size path = elim (cases_Bool (nat_lt (length rest) size)) [
  | inl short ↦
      let fewer : length rest < size = grind (arith, nat_tests) in
      let cut : nat_le (length rest) size ≡ true = grind (arith, nat_tests) in
      ap (file_at m path) (contents_short size rest fewer) ∙ rw cut refl
  | inr long ↦
      let enough : size ≤ length rest = grind (arith, nat_tests) in
      ap (file_at m path) (contents_long size rest enough) ∙ by_end (drop size rest) refl
]
  where
    by_end : (left : List ℕ) → drop size rest ≡ left → file_at m path (ended (take size rest) (drop size rest)) ≡ bytes_of (is_wrong true m (FileForm size path) rest)
    by_end [] is =
        let all = ap length is ∙ refl in
        let dropped = length-drop size rest in
        let cut : nat_le (length rest) size ≡ true = grind (arith, nat_tests) in
        rw (is, cut) refl
    by_end (b ∷ left) is =
        let some = ap length is in
        let dropped = length-drop size rest in
        let more : nat_le (length rest) size ≡ false = grind (arith, nat_tests) in
        elim (cases_Bool (b == 10)) [
          | inl end ↦ rw (is, more, end) (place_file m rest size path (File (take size rest)))
          | inr other ↦ rw (is, more, other) refl
        ]

by_form : (room : Bool) (m : Entries) (rest : List ℕ) (form : Option Form) → of_next m (read_as room m rest form) ≡ first_of (is_wrong_by room m form rest)
by_form room m rest None = refl
by_form true m rest (Some EndForm) = refl
by_form false m rest (Some EndForm) = refl
by_form room m rest (Some (LinkForm path target)) = elim (cases_Bool (is_path path && is_target target)) [
  | inl good ↦ by_room room good
  | inr bad ↦ rw bad refl
]
  where
    by_room : (room : Bool) → (is_path path && is_target target) ≡ true → of_next m (read_as room m rest (Some (LinkForm path target))) ≡ first_of (is_wrong_by room m (Some (LinkForm path target)) rest)
    by_room true good = rw good (place_link m rest path target (Link target))
    by_room false good = rw good refl
by_form room m rest (Some (FileForm size path)) = elim (cases_Bool (is_path path)) [
  | inr bad ↦ rw bad refl
  | inl good ↦ elim (cases_Bool (nat_lt 1048576 size)) [
    | inl large ↦ rw (good, large) refl
    | inr fits ↦ by_room room good fits
  ]
]
  where
    by_room : (room : Bool) → is_path path ≡ true → nat_lt 1048576 size ≡ false → of_next m (read_as room m rest (Some (FileForm size path))) ≡ first_of (is_wrong_by room m (Some (FileForm size path)) rest)
    by_room true good fits = rw (good, fits) (by_bytes m rest size path)
    by_room false good fits = rw (good, fits) refl

by_front : (room : Bool) (m : Entries) (front : Front) → of_next m (entry_at room front) ≡ first_of (applies_by room m front)
by_front room m Long = refl
by_front room m (Last line) = refl
by_front room m (Whole line rest) = ap (λ said. of_next m ((said >>= λ said. Ok (said, rest)) >>= goes_on room m rest)) (line_form line) ∙ by_form room m rest (form_of line)

-- the fault of the next entry is the first in the table
next_first : (more : ℕ) (m : Entries) (bytes : List ℕ) → of_next m (next_of more bytes) ≡ first_of (applies (has_room more) m bytes)
next_first more m bytes = by_front (has_room more) m (front_line 16384 bytes)

-- no element before the one that is found passes
module _ (wrong : Trouble → Bool) where
  found_first : (troubles : List Trouble) (trouble : Trouble) → find wrong troubles ≡ Some trouble
      → (wrong trouble ≡ true) × (before : List Trouble) × (after : List Trouble) × (troubles ≡ before ++ trouble ∷ after) × All (λ earlier. wrong earlier ≡ false) before
  found_first [] trouble is = cc
  found_first (first ∷ troubles) trouble is = elim (cases_Bool (wrong first)) [
    | inl own ↦
        let same : Some first ≡ Some trouble = rw own at is in
        let at : first ≡ trouble = cc in
        (subst (λ t. wrong t ≡ true) at own, [], troubles, ap (λ t. t ∷ troubles) at, All-nil (λ earlier. wrong earlier ≡ false))
    | inr off ↦
        let rest = found_first troubles trouble (rw off at is) in
        (rest.0, first ∷ rest.1, rest.2, ap (λ ts. first ∷ ts) rest.3, All-cons (λ earlier. wrong earlier ≡ false) first rest.1 off rest.4)
  ]

  first_found : (before after : List Trouble) (trouble : Trouble) → All (λ earlier. wrong earlier ≡ false) before → wrong trouble ≡ true → find wrong (before ++ trouble ∷ after) ≡ Some trouble
  first_found [] after trouble none is = rw is refl
  first_found (first ∷ before) after trouble none is =
      let no : wrong first ≡ false = All-head (λ earlier. wrong earlier ≡ false) first before none in
      rw no (first_found before after trouble (All-tail (λ earlier. wrong earlier ≡ false) first before none) is)

  -- the first in the table, in both directions
  first_is : (fault : InventoryFault) → first_of wrong ≡ Some fault → (trouble : Trouble) × (reported_as trouble ≡ fault) × IsFirst wrong trouble
  first_is fault is = by_found (find wrong table) refl is
    where
      by_found : (found : Option Trouble) → find wrong table ≡ found → option_map reported_as found ≡ Some fault → (trouble : Trouble) × (reported_as trouble ≡ fault) × IsFirst wrong trouble
      by_found None at is = cc
      by_found (Some trouble) at is =
          let first = found_first table trouble at in
          (trouble, cc, record { wrong_is = first.0; before = first.1; after = first.2; place = first.3; none = first.4 })

  is_the_first : (trouble : Trouble) → IsFirst wrong trouble → first_of wrong ≡ Some (reported_as trouble)
  is_the_first trouble first = ap (λ ts. option_map reported_as (find wrong ts)) first.place ∙ ap (option_map reported_as) (first_found first.before first.after trouble first.none first.wrong_is)

-- whether there is room, by the number of entries so far
room_for : (more done : ℕ) → more + done ≡ 65536 → has_room more ≡ nat_lt done 65536
room_for zero done all = grind (arith, nat_tests)
room_for (suc more) done all = grind (arith, nat_tests)

-- Reading stopped in an entry, after those that are done and some more.
record Stopped (done : List Next) (bytes : List ℕ) (fault : InventoryFault) (number : ℕ) : Type 0 where
  todo : List Next
  left : List ℕ
  trouble : Trouble
  text : bytes ≡ flat_map entry_line todo ++ left
  distinct : AreDistinct (done ++ todo)
  tree : IsTree (from_entries (done ++ todo))
  few : length (done ++ todo) ≤ 65536
  first : IsFirst (applies (nat_lt (length (done ++ todo)) 65536) (from_entries (done ++ todo)) left) trouble
  fault_is : reported_as trouble ≡ fault
  number_is : length (done ++ todo) + 1 ≡ number

ok_err : {A E P : Type 0} (x : A) (e : E) → Ok x ≡ Err e → P
ok_err x e is = cc

abbrev Stops : ℕ → Type 0
Stops more = (done : List Next) (bytes : List ℕ) (fault : InventoryFault) (number : ℕ) → more + length done ≡ 65536 → AreDistinct done → IsTree (from_entries done)
    → entries_at more (length done + 1) (from_entries done) bytes ≡ Err (fault, number) → Stopped done bytes fault number

module _ (more : ℕ) (done : List Next) (bytes : List ℕ) (fault : InventoryFault) (number : ℕ) (all : more + length done ≡ 65536) (distinct : AreDistinct done) (tree : IsTree (from_entries done))
    (read : entries_at more (length done + 1) (from_entries done) bytes ≡ Err (fault, number)) where
  -- in the next entry
  stops_here : (reported_here : InventoryFault) → of_next (from_entries done) (next_of more bytes) ≡ Some reported_here → refused reported_here (length done + 1) ≡ Err (fault, number) → Stopped done bytes fault number
  stops_here reported_here is same =
      let first = first_is (applies (has_room more) (from_entries done) bytes) reported_here (sym (next_first more (from_entries done) bytes) ∙ is) in
      let none = append-nil done in
      let said : reported_here ≡ fault = (same_fault reported_here fault (length done + 1) number same).0 in
      let counted : length done + 1 ≡ number = (same_fault reported_here fault (length done + 1) number same).1 in
      record {
        todo = [];
        left = bytes;
        trouble = first.0;
        text = refl;
        distinct = subst AreDistinct (sym none) distinct;
        tree = subst (λ es. IsTree (from_entries es)) (sym none) tree;
        few = subst (λ (es : List Next). length es ≤ 65536) (sym none) (omega (arith, all));
        first = subst (λ es. IsFirst (applies (nat_lt (length es) 65536) (from_entries es) bytes) first.0) (sym none)
            (subst (λ room. IsFirst (applies room (from_entries done) bytes) first.0) (room_for more (length done) all) first.2);
        fault_is = first.1 ∙ said;
        number_is = ap (λ es. length es + 1) none ∙ counted;
      }

  stops_later : (0 < more → Stops (more - 1)) → (entry : Next) (after : List ℕ) → next_of more bytes ≡ Ok (Some entry, after) → (grown : Result Entries InventoryFault) → placed (from_entries done) entry ≡ grown → Stopped done bytes fault number
  stops_later later entry after is (Err other) place =
      let here = next_is (has_room more) bytes (Some entry) after is in
      stops_here other (ap (of_next (from_entries done)) is ∙ ap err_of place)
      (sym (entries_at-refused more (length done + 1) (from_entries done) bytes after entry other (some_room more here.0) is place) ∙ read)
  stops_later later entry after is (Ok grown) place =
      let here = next_is (has_room more) bytes (Some entry) after is in
      let room = some_room more here.0 in
      let at = placed_is (from_entries done) entry.0 entry.1 grown place in
      let none : map.find path_cmp entry.0 done ≡ None = sym (get-from_entries nat_list_cmp_total done entry.0) ∙ at.free in
      let pushed : from_entries (done ++ entry ∷ []) ≡ map.insert (from_entries done) entry.0 entry.1 = from_entries_push nat_list_cmp_total exact_bytes done entry.0 entry.1 none in
      let fits = fits_from entry.0 entry.1 here.2 here.3 at.shape in
      let long = length-append done (entry ∷ []) in
      let count : length done + 1 + 1 ≡ length (done ++ entry ∷ []) + 1 = omega (arith, long) in
      let next = later room (done ++ entry ∷ []) after fault number (omega (arith, long, all, room))
      (all_pairs_push (λ one other. one.0 ≢ other.0) done entry distinct (not_among entry.0 done none))
      (subst IsTree (sym pushed) (grown_tree (from_entries done) entry.0 entry.1 tree fits at.apart))
      (ap (λ n. entries_at (more - 1) n (from_entries (done ++ entry ∷ [])) after) (sym count) ∙ ap (λ t. entries_at (more - 1) (length done + 1 + 1) t after) (pushed ∙ at.grown)
      ∙ sym (entries_at-more more (length done + 1) (from_entries done) grown bytes after entry room is place) ∙ read) in
      let whole : (done ++ entry ∷ []) ++ next.todo ≡ done ++ entry ∷ next.todo = append_assoc done (entry ∷ []) next.todo in
      record {
        todo = entry ∷ next.todo;
        left = next.left;
        trouble = next.trouble;
        text = here.1 ∙ ap (λ l. entry_line entry ++ l) next.text ∙ sym (append_assoc (entry_line entry) (flat_map entry_line next.todo) next.left);
        distinct = subst AreDistinct whole next.distinct;
        tree = subst (λ es. IsTree (from_entries es)) whole next.tree;
        few = subst (λ es. length es ≤ 65536) whole next.few;
        first = subst (λ es. IsFirst (applies (nat_lt (length es) 65536) (from_entries es) next.left) next.trouble) whole next.first;
        fault_is = next.fault_is;
        number_is = subst (λ es. length es + 1 ≡ number) whole next.number_is;
      }

stop_step : (more : ℕ) → (0 < more → Stops (more - 1)) → Stops more
stop_step more later done bytes fault number all distinct tree read = by_next (next_of more bytes) refl
  where
    by_next : (next : Result (Option Next × List ℕ) InventoryFault) → next_of more bytes ≡ next → Stopped done bytes fault number
    by_next (Err other) is =
        stops_here more done bytes fault number all distinct tree read other (ap (of_next (from_entries done)) is) (sym (entries_at-bad more (length done + 1) (from_entries done) bytes other is) ∙ read)
    by_next (Ok (None, after)) is = ok_err (from_entries done, after) (fault, number) (sym (entries_at-end more (length done + 1) (from_entries done) bytes after is) ∙ read)
    by_next (Ok (Some entry, after)) is = stops_later more done bytes fault number all distinct tree read later entry after is (placed (from_entries done) entry) refl

stops : (more : ℕ) → Stops more
stops zero = stop_step zero (λ some. absurd (omega arith))
stops (suc more) =
    let less : more ≡ suc more - 1 = omega arith in
    stop_step (suc more) (λ some. subst Stops less (stops more))

-- The other direction: entries are read up to the first fault after them.
reported_at : (more number : ℕ) (m : Entries) (left : List ℕ) (fault : InventoryFault) → of_next m (next_of more left) ≡ Some fault → entries_at more number m left ≡ Err (fault, number)
reported_at more number m left fault wrong = by_next (next_of more left) refl wrong
  where
    some_fault : (one other : InventoryFault) → Some one ≡ Some other → one ≡ other
    some_fault one other is = cc

    by_placed : (entry : Next) (after : List ℕ) → next_of more left ≡ Ok (Some entry, after) → (grown : Result Entries InventoryFault) → placed m entry ≡ grown → err_of grown ≡ Some fault → entries_at more number m left ≡ Err (fault, number)
    by_placed entry after is (Ok grown) place wrong = cc
    by_placed entry after is (Err other) place wrong =
        let here = next_is (has_room more) left (Some entry) after is in
        entries_at-refused more number m left after entry other (some_room more here.0) is place ∙ ap (λ f. Err (f, number)) (some_fault other fault wrong)

    by_next : (next : Result (Option Next × List ℕ) InventoryFault) → next_of more left ≡ next → of_next m next ≡ Some fault → entries_at more number m left ≡ Err (fault, number)
    by_next (Err other) is wrong = entries_at-bad more number m left other is ∙ ap (λ f. Err (f, number)) (some_fault other fault wrong)
    by_next (Ok (None, after)) is wrong = cc
    by_next (Ok (Some entry, after)) is wrong = by_placed entry after is (placed m entry) refl wrong

again : (more : ℕ) (done todo : List Next) (left : List ℕ) (trouble : Trouble) → more + length done ≡ 65536 → AreDistinct (done ++ todo) → IsTree (from_entries (done ++ todo)) → length (done ++ todo) ≤ 65536
    → IsFirst (applies (nat_lt (length (done ++ todo)) 65536) (from_entries (done ++ todo)) left) trouble
    → entries_at more (length done + 1) (from_entries done) (flat_map entry_line todo ++ left) ≡ Err (reported_as trouble, length (done ++ todo) + 1)
again more done [] left trouble all distinct tree few first =
    let none = append-nil done in
    let here : IsFirst (applies (has_room more) (from_entries done) left) trouble =
    subst (λ room. IsFirst (applies room (from_entries done) left) trouble) (sym (room_for more (length done) all)) (subst (λ es. IsFirst (applies (nat_lt (length es) 65536) (from_entries es) left) trouble) none first) in
    reported_at more (length done + 1) (from_entries done) left (reported_as trouble) (next_first more (from_entries done) left ∙ is_the_first (applies (has_room more) (from_entries done) left) trouble here)
    ∙ ap (λ es. Err (reported_as trouble, length es + 1)) (sym none)
again more done ((p, e) ∷ es) left trouble all distinct tree few first =
    let none = none-alike done (p, e) es distinct in
    let fits = entry-fits p e (tree.fits p e (found-at done (p, e) es none)) in
    let tail : List ℕ = flat_map entry_line es ++ left in
    let grown = from_entries_push nat_list_cmp_total exact_bytes done p e none in
    let place : placed (from_entries done) (p, e) ≡ Ok (from_entries (done ++ (p, e) ∷ [])) =
    placed-next (from_entries done) p e (get-from_entries nat_list_cmp_total done p ∙ none) (not-crowded done (p, e) es none tree) fits.2 ∙ ap (λ (m : Entries). Ok m) (sym grown) in
    let whole : (done ++ (p, e) ∷ []) ++ es ≡ done ++ (p, e) ∷ es = append_assoc done ((p, e) ∷ []) es in
    let long = length-append done ((p, e) ∷ es) in
    let short = length-append done ((p, e) ∷ []) in
    let room : 0 < more = omega (arith, few, all, long) in
    let left_over : more - 1 + length (done ++ (p, e) ∷ []) ≡ 65536 = omega (arith, all, short, room) in
    let count : length done + 1 + 1 ≡ length (done ++ (p, e) ∷ []) + 1 = omega (arith, short) in
    let next = again (more - 1) (done ++ (p, e) ∷ []) es left trouble left_over (subst AreDistinct (sym whole) distinct)
    (subst (λ (l : List Next). IsTree (from_entries l)) (sym whole) tree) (subst (λ (l : List Next). length l ≤ 65536) (sym whole) few)
    (subst (λ (l : List Next). IsFirst (applies (nat_lt (length l) 65536) (from_entries l) left) trouble) (sym whole) first) in
    ap (entries_at more (length done + 1) (from_entries done)) (append_assoc (entry_line (p, e)) (flat_map entry_line es) left)
    ∙ entries_at-more more (length done + 1) (from_entries done) (from_entries (done ++ (p, e) ∷ [])) (entry_line (p, e) ++ tail) tail (p, e) room (next-read more p e tail room fits.0 fits.1) place
    ∙ ap (λ n. entries_at (more - 1) n (from_entries (done ++ (p, e) ∷ [])) tail) count
    ∙ next ∙ ap (λ (l : List Next). Err (reported_as trouble, length l + 1)) whole

header_there : (rest : List ℕ) → after_prefix header (header ++ rest) ≡ Some rest
unfolding after_prefix
header_there rest = refl

-- the header
in_header : (bytes : List ℕ) (fault : InventoryFault) (number : ℕ) → after_prefix header bytes ≡ None → inventory_of bytes ≡ Err (fault, number) → IsFirstFault bytes fault number
in_header bytes fault number none read =
    let same : refused faults.BadHeader 0 ≡ Err (fault, number) = rw none at read in
    let said : faults.BadHeader ≡ fault = (same_fault faults.BadHeader fault 0 number same).0 in
    let first : 0 ≡ number = (same_fault faults.BadHeader fault 0 number same).1 in
    subst (λ f. IsFirstFault bytes f number) said (subst (λ n. IsFirstFault bytes faults.BadHeader n) first (InHeader (λ rest is. absurd (begun rest is))))
  where
    begun : (rest : List ℕ) → bytes ≡ header ++ rest → ⊥
    begun rest is = let found : None ≡ Some rest = sym none ∙ ap (after_prefix header) is ∙ header_there rest in cc

no_header : (bytes : List ℕ) → ((rest : List ℕ) → bytes ≢ header ++ rest) → inventory_of bytes ≡ Err (faults.BadHeader, 0)
no_header bytes off = by_after (after_prefix header bytes) refl
  where
    by_after : (after : Option (List ℕ)) → after_prefix header bytes ≡ after → (in_entry 0 (header_of after) >>= λ found. entries_at 65536 1 map.empty found.1) ≡ Err (faults.BadHeader, 0)
    by_after None is = refl
    by_after (Some rest) is = absurd (off rest (prefix_is header bytes rest is))

first_fault : (bytes : List ℕ) (fault : InventoryFault) (number : ℕ) → inventory_of bytes ≡ Err (fault, number) → IsFirstFault bytes fault number
first_fault bytes fault number read = by_after (after_prefix header bytes) refl
  where
    by_after : (after : Option (List ℕ)) → after_prefix header bytes ≡ after → IsFirstFault bytes fault number
    by_after None is = in_header bytes fault number is read
    by_after (Some rest) is =
        let text = prefix_is header bytes rest is in
        let at = stops 65536 [] rest fault number refl (λ i j d before within. absurd (omega arith)) empty_tree (sym (header-read rest) ∙ ap inventory_of (sym text) ∙ read) in
        subst (λ f. IsFirstFault bytes f number) at.fault_is (subst (λ n. IsFirstFault bytes (reported_as at.trouble) n) at.number_is
        (InEntry at.todo at.left at.trouble (text ∙ ap (λ l. header ++ l) at.text) at.distinct at.tree at.few at.first))

reported_back : (bytes : List ℕ) (fault : InventoryFault) (number : ℕ) → IsFirstFault bytes fault number → inventory_of bytes ≡ Err (fault, number)
reported_back bytes fault number (InHeader off) = no_header bytes off
reported_back bytes fault number (InEntry entries left trouble text distinct tree few first) =
    ap inventory_of text ∙ header-read (flat_map entry_line entries ++ left) ∙ again 65536 [] entries left trouble refl distinct tree few first

pub first_fault_is_reported : FirstFaultIsReported
first_fault_is_reported bytes fault number = (first_fault bytes fault number, reported_back bytes fault number)
