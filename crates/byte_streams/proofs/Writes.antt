-- A text that is written piece by piece through a buffer.
use Rattle.std.proofs.Common.{◌≡◌, ℕ, ◌+◌, ◌^◌, ◌<◌, ◌≤◌, List, [], ◌∷◌, ◌++◌, Option, Result, Ok, Err, sym, ap, subst, ◌∙◌, length, drop, get_or, arith, append_assoc, append-nil, length-drop}
use Rattle.std.proofs.lemmas.List.{take_all, drop_all, drop_more, take-append-le, length-append}
use Rattle.std.proofs.lemmas.List.Concat.{flat_map-cons}
use Rattle.std.specs.List.{flat_map}
use Rattle.std.proofs.Math.Seq.{take-append-add, take-nil, drop-nil}
use Rattle.std.specs.Io.KnownBytes.{Appends, Keeps}
use Rattle.std.specs.Prelude.{IfErr}
use Rattle.byte_streams.proofs.Known.{appends_then_kept}
use Rattle.std.specs.Result.{IsErr, IsErrAnd}
use Rattle.std.proofs.KnownBytes.{Appends-trans, Appends-nil}
use Rattle.byte_streams.specs.declared.buffered_writer.BufferedWriter.{BufferedWriter}
use Rattle.byte_streams.specs.declared.writing.WriteFault.{WriteFault}
use Rattle.byte_streams.specs.Streams.{StopsIn}
use Rattle.byte_streams.specs.Writes.{HasWritten, OrStops, Writes, Counts}

-- a sink that fails while writing some bytes fails at that offset after the bytes written before
pub stops_behind : (before old new : Option (List ℕ)) (text bytes : List ℕ) (n m : ℕ) → Appends before old text → StopsIn old new bytes n → m ≡ length text + n → StopsIn before new (text ++ bytes) m
stops_behind before old new text bytes n m out fault is = subst (StopsIn before new (text ++ bytes)) (sym is) (
  omega (arith, fault.0, length-append text bytes),
  subst (Appends before new) (sym (take-append-add text bytes n)) (Appends-trans _ _ _ _ _ out fault.1),
)

-- a sink that fails within a text fails at the same offset of a longer one
pub stops_longer : (before new : Option (List ℕ)) (text more : List ℕ) (n : ℕ) → StopsIn before new text n → StopsIn before new (text ++ more) n
stops_longer before new text more n stop = (
  omega (arith, stop.0, length-append text more),
  subst (Appends before new) (sym (take-append-le n text more stop.0)) stop.1,
)

module _ (before now : Option (List ℕ)) (out : BufferedWriter) (text : List ℕ) (has_written : HasWritten before now out text) (none : out.buffer ≡ []) where
  all_sent : length text ≤ out.sent
  all_sent =
      let none_left : length (drop out.sent text) ≡ 0 = ap length (sym has_written.1 ∙ none) in
      omega (arith, none_left, length-drop out.sent text)

  -- with an empty buffer, all of it was written
  pub all_went_out : Appends before now text
  all_went_out = subst (Appends before now) (take_all out.sent text all_sent) has_written.2

  pub counted : out.sent ≡ length text
  counted = omega (arith, all_sent, has_written.0)

  -- then a flush completes it
  pub flush_ends : (new : Option (List ℕ)) → Keeps now new → (r : Result (Unit {0}) WriteFault) → IfErr r (λ fault. fault.0 ≡ out.sent) → OrStops (Appends before new text) before new text r
  flush_ends new kept (Ok done) sent = appends_then_kept before now new text all_went_out kept
  flush_ends new kept (Err fault) sent = (
    omega (arith, sent, counted),
    subst (Appends before new) (sym (take_all fault.0 text (omega (arith, sent, counted)))) (appends_then_kept before now new text all_went_out kept),
  )

  pub counts_on : (new : Option (List ℕ)) (sent : ℕ) (r : Result (Unit {0}) WriteFault) (bytes : List ℕ) → Counts now new out.sent sent r bytes → length (text ++ bytes) < 2 ^ 64 → OrStops (HasWritten before new (record { buffer = out.buffer; sent = sent }) (text ++ bytes)) before new (text ++ bytes) r
  counts_on new sent (Ok done) bytes counts small =
      let gone : (sent ≡ length (text ++ bytes)) × Appends before new (text ++ bytes) = counts before text counted all_went_out small in
      let all : length (text ++ bytes) ≤ sent = omega (arith, gone.0) in (
        omega (arith, gone.0),
        none ∙ sym (drop_all sent (text ++ bytes) all),
        subst (Appends before new) (sym (take_all sent (text ++ bytes) all)) gone.1,
      )
  counts_on new sent (Err fault) bytes counts small = counts before text counted all_went_out small

-- Some of the bytes were written, and these remain.
abbrev pub IsWritten : (old now : Option (List ℕ)) → (out_old out : BufferedWriter) → (all left : List ℕ) → Type 0
IsWritten old now out_old out all left = (front : List ℕ) × (front ++ left ≡ all) × Writes old now out_old out (Ok tt) front

pub none_is_written : (old : Option (List ℕ)) (out : BufferedWriter) (all left : List ℕ) → left ≡ all → IsWritten old old out out all left
none_is_written old out all left same = ([], same, λ before text has_written small. subst (HasWritten before old out) (sym (append-nil text)) has_written)

module _ (old now new : Option (List ℕ)) (out_old out out_new : BufferedWriter) (all bytes left : List ℕ) (so_far : IsWritten old now out_old out all (bytes ++ left)) where
  joined : (text : List ℕ) → ((text ++ so_far.0) ++ bytes) ++ left ≡ text ++ all
  joined text = append_assoc (text ++ so_far.0) bytes left ∙ append_assoc text so_far.0 (bytes ++ left) ∙ ap (λ xs. text ++ xs) so_far.1

  fits : (text : List ℕ) → length (text ++ all) < 2 ^ 64 → length ((text ++ so_far.0) ++ bytes) < 2 ^ 64
  fits text small =
      let len : length (((text ++ so_far.0) ++ bytes) ++ left) ≡ length (text ++ all) = ap length (joined text) in
      omega (arith, small, len, length-append ((text ++ so_far.0) ++ bytes) left)

  fits_front : (text : List ℕ) → length ((text ++ so_far.0) ++ bytes) < 2 ^ 64 → length (text ++ so_far.0) < 2 ^ 64
  fits_front text small = omega (arith, small, length-append (text ++ so_far.0) bytes)

  pub more_is_written : Writes now new out out_new (Ok tt) bytes → IsWritten old new out_old out_new all left
  more_is_written writes = (
    so_far.0 ++ bytes,
    append_assoc so_far.0 bytes left ∙ so_far.1,
    λ before text has_written small.
        let same : (text ++ so_far.0) ++ bytes ≡ text ++ (so_far.0 ++ bytes) = append_assoc text so_far.0 bytes in
        let less : length ((text ++ so_far.0) ++ bytes) < 2 ^ 64 = subst (λ xs. length xs < 2 ^ 64) (sym same) small in
        subst (HasWritten before new out_new) same (writes before (text ++ so_far.0) (so_far.2 before text has_written (fits_front text less)) less),
  )

  pub write_stops : (fault : WriteFault) → Writes now new out out_new (Err fault) bytes → Writes old new out_old out_new (Err fault) all
  write_stops fault writes before text has_written small =
      let less = fits text small in
      subst (λ xs. StopsIn before new xs fault.0) (joined text)
      (stops_longer before new ((text ++ so_far.0) ++ bytes) left fault.0 (writes before (text ++ so_far.0) (so_far.2 before text has_written (fits_front text less)) less))

pub all_is_written : (old now : Option (List ℕ)) (out_old out : BufferedWriter) (all : List ℕ) → IsWritten old now out_old out all [] → Writes old now out_old out (Ok tt) all
all_is_written old now out_old out all so_far = subst (Writes old now out_old out (Ok tt)) (sym (append-nil so_far.0) ∙ so_far.1) so_far.2

-- what remains of some pieces begins with the next of them
pub next_piece : {X : Type 0} (f : X → List ℕ) (pieces : List X) (i : ℕ) (piece : X) → i < length pieces → flat_map f (drop i pieces) ≡ f (get_or pieces i piece) ++ flat_map f (drop (i + 1) pieces)
next_piece f pieces i piece within = ap (flat_map f) (drop_more pieces i piece within) ∙ flat_map-cons f (get_or pieces i piece) (drop (i + 1) pieces)

-- what `?` returns
pub is_fault : (r : Result (Unit {0}) WriteFault) (fault : WriteFault) → IsErr r × IsErrAnd r (λ e. e ≡ fault) → Err fault ≡ r
is_fault (Ok done) fault returned = absurd returned.1
is_fault (Err e) fault returned = ap Err (sym returned.1)

-- with an empty buffer and nothing written, the empty text was written
pub nothing_is_written : (old : Option (List ℕ)) (out : BufferedWriter) → out.buffer ≡ [] → out.sent ≡ 0 → HasWritten old old out []
nothing_is_written old out none zero = (omega (arith, zero), none ∙ sym (drop-nil out.sent), subst (Appends old old) (sym (take-nil out.sent)) (Appends-nil old))

module _ (old now new : Option (List ℕ)) (out_old out out_new : BufferedWriter) (all bytes : List ℕ) where
  -- the last of some bytes
  pub last_is_written : IsWritten old now out_old out all bytes → (r : Result (Unit {0}) WriteFault) → Writes now new out out_new r bytes → Writes old new out_old out_new r all
  last_is_written so_far r writes = last r writes
    where
      whole : IsWritten old now out_old out all (bytes ++ [])
      whole = subst (IsWritten old now out_old out all) (sym (append-nil bytes)) so_far

      last : (r : Result (Unit {0}) WriteFault) → Writes now new out out_new r bytes → Writes old new out_old out_new r all
      last (Ok tt) writes = all_is_written old new out_old out_new all (more_is_written old now new out_old out out_new all bytes [] whole writes)
      last (Err fault) writes = write_stops old now new out_old out out_new all bytes [] whole fault writes

  -- `?` returns if the sink fails
  pub fails : (left : List ℕ) → IsWritten old now out_old out all (bytes ++ left) → (fault : WriteFault) → Writes now new out out_new (Err fault) bytes → (r : Result (Unit {0}) WriteFault) → IsErr r × IsErrAnd r (λ e. e ≡ fault) → Writes old new out_old out_new r all
  fails left so_far fault writes r returned =
      subst (λ r. Writes old new out_old out_new r all) (is_fault r fault returned) (write_stops old now new out_old out out_new all bytes left so_far fault writes)

pub next_item : {X : Type 0} (f : X → List ℕ) (items : List X) (item : X) (rest : List X) → items ≡ item ∷ rest → flat_map f items ≡ f item ++ flat_map f rest
next_item f items item rest is = ap (flat_map f) is ∙ flat_map-cons f item rest

-- what `?` returns if the sink fails in the whole text
pub whole_fails : (old new : Option (List ℕ)) (text : List ℕ) (fault : WriteFault) (r : Result (Unit {0}) WriteFault) → IsErr r × IsErrAnd r (λ e. e ≡ fault) → StopsIn old new text fault.0 → OrStops (Appends old new text) old new text r
whole_fails old new text fault r returned stop = subst (OrStops (Appends old new text) old new text) (is_fault r fault returned) stop
