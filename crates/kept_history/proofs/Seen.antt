-- Whatever a run has written, the old entries of its steps were seen before.
use Rattle.std.proofs.Common.{List, Option, Result, Ok, Err}
use Rattle.link_tree.specs.declared.change.Change.{Change}
use Rattle.disk.specs.Applied.{AllStand}
use Rattle.disk.specs.Disks.{Held}
use Rattle.kept_history.specs.Doing.{WereSeen}
use Rattle.kept_history.specs.declared.running.RunError.{RunError}
use Rattle.kept_history.specs.declared.running.RunError.TheVariants.{Refused, NotPromised, Withdrawn, Unfinished, HalfWithdrawn}

pub were_seen : (held : Option Held) (result : Result (Unit {0}) RunError) (steps : List Change) → AllStand held steps → WereSeen held result steps
were_seen held (Ok done) steps all = all
were_seen held (Err (Refused step why)) steps all = tt
were_seen held (Err (NotPromised why)) steps all = tt
were_seen held (Err (Withdrawn step why)) steps all = all
were_seen held (Err (Unfinished why)) steps all = all
were_seen held (Err (HalfWithdrawn step why back)) steps all = all
