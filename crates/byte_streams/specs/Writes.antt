-- A text that is written piece by piece through a buffer.
use Rattle.std.specs.Prelude.{◌≡◌, ℕ, ◌^◌, ◌<◌, ◌≤◌, List, ◌++◌, length, take, drop, Option, Result, Ok, Err}
use Rattle.std.specs.Io.KnownBytes.{Appends}
use Rattle.byte_streams.specs.Streams.{StopsIn}
use Rattle.byte_streams.specs.declared.buffered_writer.BufferedWriter.{BufferedWriter}
use Rattle.byte_streams.specs.declared.writing.WriteFault.{WriteFault}

-- The first bytes of the text were written to the sink after what it held before, and the others
-- are in the buffer.
abbrev pub HasWritten : Option (List ℕ) → Option (List ℕ) → BufferedWriter → List ℕ → Type 0
HasWritten before now writer text = (writer.sent ≤ length text) × (writer.buffer ≡ drop writer.sent text) × Appends before now (take writer.sent text)

-- P holds, unless the sink failed: then exactly the first bytes of the text were written.
abbrev pub OrStops : Type 0 → Option (List ℕ) → Option (List ℕ) → List ℕ → Result (Unit {0}) WriteFault → Type 0
OrStops P before now text (Ok done) = P
OrStops P before now text (Err fault) = StopsIn before now text fault.0

-- Whatever text was written, these bytes are then written after it, as long as the total number of
-- bytes fits the counter.
abbrev pub Writes : (old new : Option (List ℕ)) → (writer_old writer_new : BufferedWriter) → Result (Unit {0}) WriteFault → List ℕ → Type 0
Writes old new writer_old writer_new result bytes = (before : Option (List ℕ)) (text : List ℕ) → HasWritten before old writer_old text → length (text ++ bytes) < 2 ^ 64 → OrStops (HasWritten before new writer_new (text ++ bytes)) before new (text ++ bytes) result

-- Whatever text was written is unchanged when the buffer is written to the sink.
abbrev pub WritesBuffer : (old new : Option (List ℕ)) → (writer_old writer_new : BufferedWriter) → Result (Unit {0}) WriteFault → Type 0
WritesBuffer old new writer_old writer_new result = (before : Option (List ℕ)) (text : List ℕ) → HasWritten before old writer_old text → length text < 2 ^ 64 → OrStops (HasWritten before new writer_new text) before new text result

-- Bytes are written directly to the sink after a text that was written completely, and are counted.
abbrev pub Counts : (old new : Option (List ℕ)) → (sent_old sent_new : ℕ) → Result (Unit {0}) WriteFault → List ℕ → Type 0
Counts old new sent_old sent_new result bytes = (before : Option (List ℕ)) (text : List ℕ) → sent_old ≡ length text → Appends before old text → length (text ++ bytes) < 2 ^ 64 → OrStops ((sent_new ≡ length (text ++ bytes)) × Appends before new (text ++ bytes)) before new (text ++ bytes) result
