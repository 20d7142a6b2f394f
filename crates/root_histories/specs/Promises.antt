-- Whether a run that was cut short goes on where the history ends.
use Rattle.std.specs.Prelude.{◌≡◌, ℕ, Bool, List, length, take, drop, map as list_map}
use Rattle.std.specs.List.{list_all}
use Rattle.kept_texts.specs.declared.runs.Run.{Run}
use Rattle.kept_texts.specs.declared.sums.Sum.{Sum}
use Rattle.kept_texts.specs.declared.reading.Parts.{Parts}

-- what tells a run from others: how many calls it has, the tree that it left, whether it is what
-- others did, its time, and its user
abbrev pub RunSeen : Type 0
RunSeen = ℕ × Sum × Bool × List ℕ × List ℕ

abbrev pub seen_of : Run → RunSeen
seen_of run = (run.calls, run.tree, run.words.outside, run.words.time, run.words.login)

-- The first of the new runs are the old ones.
abbrev pub BeginsWith : (new old : List Run) → Type 0
BeginsWith new old = list_map seen_of (take (length old) new) ≡ list_map seen_of old

-- A history goes on where another one ends: it has the same number, and the same runs first. The
-- path of the root in its text may be another, if the root was moved.
pub record GoesOn (old new : Parts) : Type 0 where
  pub number : new.header.id ≡ old.header.id
  pub runs : BeginsWith new.runs.all old.runs.all

-- the runs that a history has after those of another one
abbrev pub added_runs : (old new : Parts) → List Run
added_runs old new = drop (length old.runs.all) new.runs.all

-- whether all that it adds is what others did
abbrev pub adds_others_alone : (old new : Parts) → Bool
adds_others_alone old new = list_all (λ run. run.words.outside) (added_runs old new)
