-- What a power failure leaves of steps, and of the end of a run.
use Rattle.std.proofs.Common.{◌≡◌, ℕ, zero, suc, true, false, List, [], ◌∷◌, ◌++◌, map as list_map, take, refl, sym, ap, ◌∙◌, inl, inr}
use Rattle.std.specs.Prelude.{◌⊎◌, ◌||◌}
use Rattle.std.specs.List.{list_any}
use Rattle.std.proofs.lemmas.Bool.{false≢true}
use Rattle.link_tree.specs.declared.change.Change.{Change}
use Rattle.link_tree.specs.Trees.{Entries, after_changes}
use Rattle.tree_steps.specs.Steps.{IsOnTheWay}
use Rattle.disk.specs.Events.{Event, SyncHistory, SyncSteps, Make}
use Rattle.kept_history.specs.Roots.{KeptRoot, after, syncs_history, syncs_path, is_synced, MayLeave}
use Rattle.kept_history.specs.Runs.{ending}
use Rattle.kept_history.proofs.Staying.{StayOnTheWay, AreCovered, way_made}

-- the directory of each step is synced
abbrev pub AllSynced : List Change → List Event → Type 0
AllSynced [] later = Unit {0}
AllSynced (c ∷ cs) later = (list_any (syncs_path c.path) later ≡ true) × AllSynced cs later

pub any_makes : (path : List ℕ) (cs : List Change) (later : List Event) → list_any (syncs_path path) (list_map Make cs ++ later) ≡ list_any (syncs_path path) later
any_makes path [] later = refl
any_makes path (c ∷ cs) later = any_makes path cs later

pub covered_synced : (steps cs : List Change) (rest : List Event) → AreCovered steps cs → AllSynced cs (SyncSteps steps ∷ rest)
covered_synced steps [] rest h = tt
covered_synced steps (c ∷ cs) rest h = (ap (λ b. b || list_any (syncs_path c.path) rest) h.0, covered_synced steps cs rest h.1)

module _ (old new : Entries) where
  -- some of the steps were made
  pub record SomeMade (cs : List Change) (w v : KeptRoot) : Type 0 where
    pub history : v.history ≡ w.history
    pub next : v.next ≡ w.next
    pub way : StayOnTheWay old new cs → IsOnTheWay old new w.entries → IsOnTheWay old new v.entries

  -- if a failure comes after the steps, some of them are made, and all if they were synced
  pub makes : (cs : List Change) (later : List Event) (w left : KeptRoot) → MayLeave w (list_map Make cs ++ later) left
      → (v : KeptRoot) × SomeMade cs w v × MayLeave v later left × (AllSynced cs later → v.entries ≡ after_changes cs w.entries)
  makes [] later w left h = (w, record { history = refl; next = refl; way = λ stay way. way }, h, λ synced. refl)
  makes (c ∷ cs) later w left (inl h) =
      let more = makes cs later (after (Make c) w) left h in
      (more.0, record { history = more.1.history; next = more.1.next; way = λ stay way. more.1.way stay.1 (way_made old new c w.entries stay.0 way) }, more.2, λ synced. more.3 synced.1)
  makes (c ∷ cs) later w left (inr h) =
      let more = makes cs later w left h.1 in
      (more.0, record { history = more.1.history; next = more.1.next; way = λ stay way. more.1.way stay.1 way }, more.2, λ synced. absurd (false≢true (sym h.0 ∙ any_makes c.path cs later ∙ synced.0)))

-- up to some moment there are some of the steps, or all and some of what comes later
pub up_to : (n : ℕ) (cs : List Change) (later : List Event)
    → ((k : ℕ) × (take n (list_map Make cs ++ later) ≡ list_map Make (take k cs) ++ [])) ⊎ ((k : ℕ) × (take n (list_map Make cs ++ later) ≡ list_map Make cs ++ take k later))
up_to n [] later = inr (n, refl)
up_to zero (c ∷ cs) later = inl (zero, refl)
up_to (suc n) (c ∷ cs) later = elim (up_to n cs later) [
  | inl some ↦ inl (suc some.0, ap (λ es. Make c ∷ es) some.1)
  | inr all ↦ inr (all.0, ap (λ es. Make c ∷ es) all.1)
]

module _ (e : Event) (of_history : (later : List Event) → is_synced e later ≡ list_any syncs_history later) (steps : List Change) where
  unsynced : {P : Type 0} (later : List Event) → list_any syncs_history later ≡ true → is_synced e later ≡ false → P
  unsynced later synced not = absurd (false≢true (sym not ∙ of_history later ∙ synced))

  idle_end : (k : ℕ) (v left : KeptRoot) → MayLeave v (SyncHistory ∷ take k []) left → left ≡ v
  idle_end zero v left (inl h) = h
  idle_end zero v left (inr h) = h.1
  idle_end (suc k) v left (inl h) = h
  idle_end (suc k) v left (inr h) = h.1

  changed_end : (k : ℕ) (v left : KeptRoot) → MayLeave v (e ∷ SyncHistory ∷ take k []) left → left ≡ after e v
  changed_end k v left (inl h) = idle_end k (after e v) left h
  changed_end k v left (inr h) = unsynced (SyncHistory ∷ take k []) refl h.0

  -- with the steps synced, the history has changed
  abbrev pub IsChanged : List Event → (v left : KeptRoot) → Type 0
  IsChanged events v left = (rest : List Event) × (events ≡ SyncSteps steps ∷ rest) × (left ≡ after e v)

  -- a failure there leaves what was there, or the changed history
  pub ended : (k : ℕ) (v left : KeptRoot) → MayLeave v (take k (ending e steps)) left → (left ≡ v) ⊎ IsChanged (take k (ending e steps)) v left
  ended zero v left h = inl h
  ended (suc zero) v left (inl h) = inl h
  ended (suc zero) v left (inr h) = inl h.1
  ended (suc (suc zero)) v left (inl (inl h)) = inr (e ∷ [], refl, h)
  ended (suc (suc zero)) v left (inl (inr h)) = inl h.1
  ended (suc (suc zero)) v left (inr h) = elim h.1 [ inl changed ↦ inr (e ∷ [], refl, changed) | inr kept ↦ inl kept.1 ]
  ended (suc (suc (suc k))) v left (inl h) = inr (e ∷ SyncHistory ∷ take k [], refl, changed_end k v left h)
  ended (suc (suc (suc k))) v left (inr h) = inr (e ∷ SyncHistory ∷ take k [], refl, changed_end k v left h.1)

  -- behind all of it the history has changed
  pub all_ended : (v left : KeptRoot) → MayLeave v (ending e steps) left → left ≡ after e v
  all_ended v left (inl h) = changed_end zero v left h
  all_ended v left (inr h) = changed_end zero v left h.1
