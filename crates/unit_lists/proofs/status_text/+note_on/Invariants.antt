use Rattle.std.proofs.Common.{length}
use Rattle.unit_lists.proofs.status_text.+note_on.Given as goal

abbrev pub decreases-note_on : goal.decreases-note_on
decreases-note_on l = length l.notes.now
