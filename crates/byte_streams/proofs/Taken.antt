-- Which bytes had been read when reading stopped.
use Rattle.std.proofs.Common.{◌≡◌, ℕ, ◌+◌, ◌<◌, List, [], ◌∷◌, ◌++◌, length, take, drop, get_or, Option, None, Some, Result, Ok, Err, refl, sym, ap, ◌∙◌, subst, inl, inr, append_assoc, take-append-drop}
use Rattle.std.specs.Prelude.{OnErr, IsErr, IsErrAnd}
use Rattle.std.specs.Io.KnownBytes.{Keeps}
use Rattle.std.proofs.lemmas.List.{drop_more, take_more}
use Rattle.byte_streams.specs.Blocks.{IsCutPrefix}
use Rattle.byte_streams.specs.Reads.{StopsInTime}
use Rattle.byte_streams.specs.Streams.{GivesNext, StopsAt, Takes}
use Rattle.byte_streams.specs.declared.read_error.ReadError.{ReadError}
use Rattle.byte_streams.specs.declared.read_error.ReadError.TheVariants as errors
use Rattle.byte_streams.proofs.Blocks.{Reached}
use Rattle.byte_streams.proofs.Given.{gave_byte, gave_end, kept_bytes}

pub on_err : {X E : Type 0} (r : Result X E) (P : Type 0) → P → OnErr r P
on_err (Ok x) P p = tt
on_err (Err e) P p = p

pub stops_weaker : (P Q : List ℕ → Type 0) → ((taken : List ℕ) → P taken → Q taken) → (taken rest : List ℕ) → StopsAt P taken rest → StopsAt Q taken rest
stops_weaker P Q weaker taken rest (inl end) = inl (weaker taken end.0, end.1)
stops_weaker P Q weaker taken rest (inr at) = inr (at.0, at.1, at.2, weaker at.0 at.3)

pub stops_behind : (P Q : List ℕ → Type 0) (front taken rest : List ℕ) → ((c : List ℕ) → P c → Q (front ++ c)) → StopsAt P taken rest → StopsAt Q (front ++ taken) rest
stops_behind P Q front taken rest still (inl end) = inl (still taken end.0, end.1)
stops_behind P Q front taken rest still (inr at) = inr (front ++ at.0, at.1, ap (λ l. front ++ l) at.2 ∙ sym (append_assoc front at.0 (at.1 ∷ [])), still at.0 at.3)

-- the source failed
pub stops_failed : {X F : Type 0} (IsOpen : List ℕ → Type 0) (r : Result X (ReadError F)) (old new : Option (List ℕ)) → IsErr r × IsErrAnd r (λ e. e ≡ errors.ReadFault) → Takes old new (λ taken rest. IsOpen taken) → StopsInTime IsOpen r old new
stops_failed IsOpen (Ok x) old new both takes = absurd both.1
stops_failed IsOpen (Err (errors.Fault f)) old new both takes = absurd (no both.1)
  where
    no : {F : Type 0} {f : F} → errors.Fault f ≡ errors.ReadFault → ⊥
    no is = cc
stops_failed IsOpen (Err errors.ReadFault) old new both takes = takes
stops_failed IsOpen (Err errors.OutOfMemory) old new both takes = tt

-- a reader that failed because one that it calls failed
pub failed_sooner : {X Y F : Type 0} (P Q : List ℕ → Type 0) → ((taken : List ℕ) → P taken → Q taken) → (r : Result X (ReadError F)) (r' : Result Y (ReadError F)) (e : ReadError F) (old new : Option (List ℕ)) → r ≡ Err e → r' ≡ Err e → StopsInTime P r old new → StopsInTime Q r' old new
failed_sooner P Q weaker r r' (errors.Fault fault) old new is is' takes =
    subst (λ x. StopsInTime Q x old new) (sym is') (λ bytes e.
    let at = subst (λ x. StopsInTime P x old new) is takes bytes e in
    (at.0, at.1, at.2, at.3, stops_weaker P Q weaker at.0 at.1 at.4))
failed_sooner P Q weaker r r' errors.ReadFault old new is is' takes =
    subst (λ x. StopsInTime Q x old new) (sym is') (λ bytes e.
    let at = subst (λ x. StopsInTime P x old new) is takes bytes e in
    (at.0, at.1, at.2, at.3, weaker at.0 at.4))
failed_sooner P Q weaker r r' errors.OutOfMemory old new is is' takes = subst (λ x. StopsInTime Q x old new) (sym is') tt

-- the source didn't fail
pub stops_decided : {X F : Type 0} (IsOpen : List ℕ → Type 0) (r : Result X (ReadError F)) (old new : Option (List ℕ)) → (r ≡ Err errors.ReadFault → ⊥) → Takes old new (StopsAt IsOpen) → StopsInTime IsOpen r old new
stops_decided IsOpen (Ok x) old new calm takes = tt
stops_decided IsOpen (Err (errors.Fault f)) old new calm takes = takes
stops_decided IsOpen (Err errors.ReadFault) old new calm takes = absurd (calm refl)
stops_decided IsOpen (Err errors.OutOfMemory) old new calm takes = tt

-- exactly the bytes so far were read
pub reached_kept : (first mid new : Option (List ℕ)) (items : List ℕ) (IsOpen : List ℕ → Type 0) → Reached first mid items → Keeps mid new → IsOpen items → Takes first new (λ taken rest. IsOpen taken)
reached_kept first mid new items IsOpen so_far kept still bytes e =
    let at = so_far bytes e in
    (items, at.0, sym at.2, kept_bytes mid new kept at.0 at.1, still)

-- what was read after some bytes
pub takes_behind : (first mid new : Option (List ℕ)) (P Q : List ℕ → List ℕ → Type 0) → Takes first mid (λ front rest. (taken after : List ℕ) → P taken after → Q (front ++ taken) after) → Takes mid new P → Takes first new Q
takes_behind first mid new P Q before takes bytes e =
    let at = before bytes e in
    let next = takes at.1 at.3 in
    (at.0 ++ next.0, next.1, at.2 ∙ ap (λ l. at.0 ++ l) next.2 ∙ sym (append_assoc at.0 next.0 next.1), next.3, at.4 next.0 next.1 next.4)

-- a reader that failed because one that it calls after some bytes failed
pub failed_later : {X Y F : Type 0} (first mid new : Option (List ℕ)) (P Q : List ℕ → Type 0) → Takes first mid (λ front rest. (taken : List ℕ) → P taken → Q (front ++ taken)) → (r : Result X (ReadError F)) (r' : Result Y (ReadError F)) (e : ReadError F) → r ≡ Err e → r' ≡ Err e → StopsInTime P r mid new → StopsInTime Q r' first new
failed_later first mid new P Q before r r' (errors.Fault fault) is is' takes =
    let took : Takes mid new (StopsAt P) = subst (λ x. StopsInTime P x mid new) is takes in
    subst (λ x. StopsInTime Q x first new) (sym is')
    (takes_behind first mid new (StopsAt P) (StopsAt Q) (λ bytes e. let at = before bytes e in (at.0, at.1, at.2, at.3, λ taken after stops. stops_behind P Q at.0 taken after at.4 stops)) took)
failed_later first mid new P Q before r r' errors.ReadFault is is' takes =
    let took : Takes mid new (λ taken rest. P taken) = subst (λ x. StopsInTime P x mid new) is takes in
    subst (λ x. StopsInTime Q x first new) (sym is')
    (takes_behind first mid new (λ taken rest. P taken) (λ taken rest. Q taken) (λ bytes e. let at = before bytes e in (at.0, at.1, at.2, at.3, λ taken after still. at.4 taken still)) took)
failed_later first mid new P Q before r r' errors.OutOfMemory is is' takes = subst (λ x. StopsInTime Q x first new) (sym is') tt

pub stops_later : {X F : Type 0} (first mid new : Option (List ℕ)) (P Q : List ℕ → Type 0) → Takes first mid (λ front rest. (taken : List ℕ) → P taken → Q (front ++ taken)) → (r : Result X (ReadError F)) → StopsInTime P r mid new → StopsInTime Q r first new
stops_later {X = X} first mid new P Q before (Ok x) stops = tt
stops_later {X = X} first mid new P Q before (Err e) stops = failed_later {X = X} {Y = X} first mid new P Q before (Err e) (Err e) e refl refl stops

module _ (first mid new : Option (List ℕ)) (prefix : List ℕ) (i : ℕ) (so_far : Reached first mid (take i prefix)) (within : i < length prefix) where
  cut : IsCutPrefix prefix (take i prefix)
  cut = (get_or prefix i 0, drop (i + 1) prefix, sym (ap (λ l. take i prefix ++ l) (sym (drop_more prefix i 0 within)) ∙ take-append-drop i prefix))

  pub prefix_kept : Keeps mid new → Takes first new (λ taken rest. IsCutPrefix prefix taken)
  prefix_kept kept = reached_kept first mid new (take i prefix) (IsCutPrefix prefix) so_far kept cut

  module _ (o : Option ℕ) (gives : GivesNext mid new o) where
    pub prefix_ended : o ≡ None → Takes first new (StopsAt (IsCutPrefix prefix))
    prefix_ended none bytes e =
        let at = so_far bytes e in
        let here = subst (GivesNext mid new) none gives in
        let end = gave_end mid new here.0 here.1 at.0 at.1 in
        (take i prefix, [], sym at.2 ∙ ap (λ l. take i prefix ++ l) end.1, end.0, inl (cut, refl))

    pub prefix_differs : (b : ℕ) → o ≡ Some b → Takes first new (StopsAt (IsCutPrefix prefix))
    prefix_differs b some bytes e =
        let at = so_far bytes e in
        let gave = gave_byte mid new b (subst (GivesNext mid new) some gives) at.0 at.1 in
        (take i prefix ++ b ∷ [], gave.0, sym at.2 ∙ ap (λ l. take i prefix ++ l) gave.2 ∙ sym (append_assoc (take i prefix) (b ∷ []) gave.0), gave.1, inr (take i prefix, b, refl, cut))

    pub prefix_goes_on : (b : ℕ) → o ≡ Some b → b ≡ get_or prefix i 0 → Reached first new (take (i + 1) prefix)
    prefix_goes_on b some same bytes e =
        let at = so_far bytes e in
        let gave = gave_byte mid new b (subst (GivesNext mid new) some gives) at.0 at.1 in
        (gave.0, gave.1, ap (λ l. l ++ gave.0) (take_more prefix i 0 within) ∙ append_assoc (take i prefix) (get_or prefix i 0 ∷ []) gave.0 ∙ ap (λ c. take i prefix ++ c ∷ gave.0) (sym same) ∙ ap (λ l. take i prefix ++ l) (sym gave.2) ∙ at.2)
