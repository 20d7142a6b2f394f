-- What was done up to an error: a front of what was to be done.
use Rattle.std.proofs.Common.{◌≡◌, ◌+◌, ℕ, zero, suc, List, [], ◌∷◌, ◌++◌, length, map as list_map, take, drop, Option, Result, Ok, Err, refl, sym, ap, ◌∙◌, subst, append_assoc}
use Rattle.std.specs.Prelude.{IsErr, IsErrAnd}
use Rattle.std.proofs.Math.Seq.{take-append_seam, take-append-add}
use Rattle.std.proofs.lemmas.List.{append-nil}
use Rattle.link_tree.specs.declared.change.Change.{Change}
use Rattle.link_tree.specs.Trees.{taken_back}
use Rattle.disk.specs.Events.{Event, Make, way_back, DoesOne, with_events}
use Rattle.disk.proofs.Doing.{with_none, with_with, makes-append}
use Rattle.kept_history.specs.Doing.{Does}

-- what `?` returns
pub returned : {A E : Type 0} (r : Result A E) (f : E) → IsErr r × IsErrAnd r (λ e. e ≡ f) → r ≡ Err f
returned (Ok x) f both = absurd both.1
returned (Err e) f both = ap (λ x. Err x) both.1

take_front : (n : ℕ) (xs ys : List Event) → (m : ℕ) × (take n xs ≡ take m (xs ++ ys))
take_front zero xs ys = (zero, refl)
take_front (suc n) [] ys = (zero, refl)
take_front (suc n) (x ∷ xs) ys = let rest = take_front n xs ys in (suc rest.0, ap (λ es. x ∷ es) rest.1)

-- a front of a front
pub take_take : {A : Type 0} (n k : ℕ) (xs : List A) → (m : ℕ) × (take n (take k xs) ≡ take m xs)
take_take zero k xs = (zero, refl)
take_take (suc n) zero xs = (zero, refl)
take_take (suc n) (suc k) [] = (zero, refl)
take_take (suc n) (suc k) (x ∷ xs) = let rest = take_take n k xs in (suc rest.0, ap (λ ys. x ∷ ys) rest.1)

-- Some front of these events was done.
abbrev pub DoesFront : (old new : Option (List Event)) → List Event → Type 0
DoesFront old new events = (n : ℕ) × (new ≡ with_events old (take n events))

pub does_none : (old new : Option (List Event)) (events : List Event) → new ≡ old → DoesFront old new events
does_none old new events same = (zero, same ∙ sym (with_none old))

-- it stopped in the first part
pub stops_first : (old new : Option (List Event)) (xs ys : List Event) → DoesFront old new xs → DoesFront old new (xs ++ ys)
stops_first old new xs ys h = let front = take_front h.0 xs ys in (front.0, h.1 ∙ ap (with_events old) front.1)

-- a front of the second part was done behind all of the first
pub later_front : (old mid new : Option (List Event)) (xs ys : List Event) (n : ℕ) → mid ≡ with_events old xs → new ≡ with_events mid (take n ys) → new ≡ with_events old (take (length xs + n) (xs ++ ys))
later_front old mid new xs ys n first h =
    h ∙ ap (λ o. with_events o (take n ys)) first ∙ with_with old xs (take n ys) ∙ ap (with_events old) (sym (take-append-add xs ys n))

-- it stopped in the second
pub stops_later : (old mid new : Option (List Event)) (xs ys : List Event) → mid ≡ with_events old xs → DoesFront mid new ys → DoesFront old new (xs ++ ys)
stops_later old mid new xs ys first h = (length xs + h.0, later_front old mid new xs ys h.0 first h.1)

-- it stopped after the first part
pub stops_between : (old new : Option (List Event)) (xs ys : List Event) → new ≡ with_events old xs → DoesFront old new (xs ++ ys)
stops_between old new xs ys first = (length xs, first ∙ ap (with_events old) (sym (take-append_seam xs ys)))

-- an error came after these events
pub stopped : {T E : Type 0} (old new : Option (List Event)) (r : Result T E) (e : E) (events : List Event) → IsErr r × IsErrAnd r (λ x. x ≡ e) → DoesFront old new events → Does old new r events
stopped old new r e events is h = subst (λ x. Does old new x events) (sym (returned r e is)) h

-- all of the first part was done, and then this
pub does_more : {T E : Type 0} (old mid new : Option (List Event)) (r : Result T E) (xs ys : List Event) → mid ≡ with_events old xs → Does mid new r ys → Does old new r (xs ++ ys)
does_more old mid new (Ok x) xs ys first h = h ∙ ap (λ o. with_events o ys) first ∙ with_with old xs ys
does_more old mid new (Err e) xs ys first h = stops_later old mid new xs ys first h

pub makes-take : (n : ℕ) (steps : List Change) → list_map Make (take n steps) ≡ take n (list_map Make steps)
makes-take zero steps = refl
makes-take (suc n) [] = refl
makes-take (suc n) (step ∷ steps) = ap (λ es. Make step ∷ es) (makes-take n steps)

-- the way back is that of the later steps, and then that of the first
way_back-parts : (k : ℕ) (steps : List Change) → way_back steps ≡ way_back (drop k steps) ++ way_back (take k steps)
way_back-parts zero steps = sym (append-nil (way_back steps))
way_back-parts (suc k) [] = refl
way_back-parts (suc k) (step ∷ steps) =
    ap (λ es. es ++ taken_back step ∷ []) (way_back-parts k steps) ∙ append_assoc (way_back (drop k steps)) (way_back (take k steps)) (taken_back step ∷ [])

-- the way back stopped
pub stops_back : (old new : Option (List Event)) (made : ℕ) (steps : List Change) → new ≡ with_events old (list_map Make (way_back (drop made steps)))
    → DoesFront old new (list_map Make (way_back steps))
stops_back old new made steps h =
    let front : List Event = list_map Make (way_back (drop made steps)) in
    let back : List Event = list_map Make (way_back (take made steps)) in
    let parts : list_map Make (way_back steps) ≡ front ++ back =
    ap (λ cs. list_map Make cs) (way_back-parts made steps) ∙ makes-append (way_back (drop made steps)) (way_back (take made steps)) in
    subst (DoesFront old new) (sym parts) (stops_between old new front back h)

-- these were done, and then one more
pub does_one : {T E : Type 0} (old mid new : Option (List Event)) (r : Result T E) (xs : List Event) (event : Event) → mid ≡ with_events old xs → DoesOne mid new r event → Does old new r (xs ++ event ∷ [])
does_one old mid new (Ok x) xs event first h = h ∙ ap (λ o. with_events o (event ∷ [])) first ∙ with_with old xs (event ∷ [])
does_one old mid new (Err e) xs event first h = stops_between old new xs (event ∷ []) (h ∙ first)
