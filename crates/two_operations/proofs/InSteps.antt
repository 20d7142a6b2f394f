-- The outcome of two operations, one after the other, and of three.
use Rattle.std.proofs.Common.{◌≡◌, Bool, true, false, cond, List, [], ◌++◌, map as list_map, All, refl, sym, ap, subst, ◌∙◌, inl, inr}
use Rattle.std.proofs.lemmas.Bool.{cases_Bool, false≢true}
use Rattle.std.proofs.lemmas.List.{append_assoc, append-nil}
use Rattle.unit_file.proofs.NoticeMaps.{joined-joined}
use Rattle.link_tree.specs.declared.change.Change.{Change}
use Rattle.unit_paths.specs.Slots.{is_slot}
use Rattle.link_tree.specs.Differences.{changes_between}
use Rattle.link_tree.specs.Laws.{Leads}
use Rattle.link_tree.specs.Trees.{Entries, after_changes}
use Rattle.link_tree.proofs.Leads.{leads}
use Rattle.footprint.specs.declared.answer.Answer.{Answer}
use Rattle.footprint.specs.declared.answer.Answer.TheVariants.{Done, State, Name, Names, Refused}
use Rattle.tree_access.specs.declared.key.Key.{Key}
use Rattle.two_operations.specs.declared.then.Then.{Then}
use Rattle.footprint.specs.Inquiry.{Inquiry, over, giving, after}
use Rattle.two_operations.specs.Laws.{ThenLeads, ThenAnswers, ThenInSteps}
use Rattle.footprint.specs.Net.{net}
use Rattle.footprint.specs.Operations.{Effect, AreChanges, OperationLaws, is_refused, is_question, outcome_of}
use Rattle.tree_access.specs.Readings.{in_order, observed, reading_of, keys_of}
use Rattle.footprint.specs.Then.{answer_of_both, effect_of_both, outcome_of_both, continued, followed_by}
use Rattle.two_operations.specs.Then.{then_meaning}
use Rattle.footprint.proofs.ThenLaws.{refused_of_both, changes_between_are, both_at, sound_of}
use Rattle.footprint.proofs.NetLaws.{net_between}
use Rattle.tree_access.proofs.KeySets.{in_order-both}
use Rattle.tree_access.proofs.ReadingKeys.{keys_of_reading, untouched_keys}
use Rattle.tree_access.proofs.Untouched.{agree_on_untouched}

-- nothing follows a refusal
continued_off : (q : Inquiry Effect) (e : Effect) → is_refused e.answer ≡ true → continued q e ≡ over e
continued_off q e refused = ap (λ b. cond b (over e) (giving (after e.changes q) (effect_of_both e))) refused

continued_on : (q : Inquiry Effect) (e : Effect) → is_refused e.answer ≡ false → continued q e ≡ giving (after e.changes q) (effect_of_both e)
continued_on q e accepted = ap (λ b. cond b (over e) (giving (after e.changes q) (effect_of_both e))) accepted

changes_of_both : (a b : Effect) → is_refused b.answer ≡ false → (effect_of_both a b).changes ≡ net a.changes b.changes
changes_of_both a b accepted = ap (λ r. cond r [] (net a.changes b.changes)) accepted

none_of_both : (a b : Effect) → is_refused b.answer ≡ true → (effect_of_both a b).changes ≡ []
none_of_both a b refused = ap (λ r. cond r [] (net a.changes b.changes)) refused

module _ {A B : Type 0} {asks_first : A → Bool} {asks_second : B → Bool} {first : A → Inquiry Effect} {second : B → Inquiry Effect}
    (one : OperationLaws asks_first first) (two : OperationLaws asks_second second) where
  -- if both are accepted, their changes are those from the first tree to the last
  changes_are : (c : Then A B) (t : Entries)
      → let a = (first c.first).conclusion t in
      let u = after_changes a.changes t in
      let b = (second c.second).conclusion u in
      is_refused a.answer ≡ false → is_refused b.answer ≡ false → ((then_meaning first second c).conclusion t).changes ≡ changes_between t (after_changes b.changes u)
  changes_are c t a_accepted b_accepted =
      let a : Effect = (first c.first).conclusion t in
      let u : Entries = after_changes a.changes t in
      let b : Effect = (second c.second).conclusion u in
      ap (λ (q : Inquiry Effect). (q.conclusion t).changes) (continued_on (second c.second) a a_accepted) ∙ changes_of_both a b b_accepted
      ∙ net_between t a.changes b.changes (one.changes c.first t) (two.changes c.second u)

  pub then_leads : ThenLeads first second
  then_leads c t a_accepted b_accepted =
      subst (Leads t (after_changes ((second c.second).conclusion (after_changes ((first c.first).conclusion t).changes t)).changes (after_changes ((first c.first).conclusion t).changes t)))
      (sym (changes_are c t a_accepted b_accepted)) (leads t _)

  pub then_answers : ThenAnswers first second
  then_answers c t a_accepted free =
      let a : Effect = (first c.first).conclusion t in
      let keys : List Key = (second c.second).keys t in
      let agree = agree_on_untouched keys a.changes t (one.changes c.first t).from (untouched_keys a.changes keys t free) in
      let same = ((second c.second).agreement t (after_changes a.changes t) agree).0 in
      ap (λ (q : Inquiry Effect). (q.conclusion t).answer) (continued_on (second c.second) a a_accepted) ∙ ap (λ (b : Effect). answer_of_both a.answer b.answer) (sym same)

  -- the outcome of both, computed from the outcomes of each
  pub then_outcome : (c : Then A B) (t : Entries) → is_refused (outcome_of first c.first t).answer ≡ false
      → outcome_of_both t (outcome_of first c.first t) (outcome_of second c.second (after_changes (outcome_of first c.first t).changes t)) ≡ outcome_of (then_meaning first second) c t
  then_outcome c t accepted =
      let a : Effect = (first c.first).conclusion t in
      let u : Entries = after_changes a.changes t in
      let e : Effect = effect_of_both a ((second c.second).conclusion u) in
      let before : List Key = (first c.first).keys t in
      let later : List Key = (second c.second).keys u in
      let keys : in_order (keys_of (reading_of before t) ++ keys_of (reading_of later u)) ≡ in_order (before ++ later) =
      (λ i. in_order (keys_of_reading before t i ++ keys_of_reading later u i)) ∙ in_order-both before later in
      ap (λ ks. record { answer = e.answer; changes = e.changes; reading = list_map (observed t) ks }) keys
      ∙ sym (ap (λ (q : Inquiry Effect). record { answer = (q.conclusion t).answer; changes = (q.conclusion t).changes; reading = reading_of (before ++ q.keys t) t }) (continued_on (second c.second) a accepted))

  -- it changes only slots, if each does
  pub then_at_slots : (c : Then A B) (t : Entries)
      → All (λ change. is_slot change.path ≡ true) (outcome_of first c.first t).changes
      → All (λ change. is_slot change.path ≡ true) (outcome_of second c.second (after_changes (outcome_of first c.first t).changes t)).changes
      → All (λ change. is_slot change.path ≡ true) (outcome_of_both t (outcome_of first c.first t) (outcome_of second c.second (after_changes (outcome_of first c.first t).changes t))).changes
  then_at_slots c t at_first at_second =
      let u : Entries = after_changes ((first c.first).conclusion t).changes t in
      both_at t ((first c.first).conclusion t) ((second c.second).conclusion u) ((first c.first).keys t) ((second c.second).keys u) (sound_of one c.first t) (sound_of two c.second u)
      (λ path. is_slot path ≡ true) at_first at_second

-- the answers of three, if the second is a command and is accepted
answers_in_steps : (a b c : Answer) → is_question b ≡ false → is_refused b ≡ false → answer_of_both (answer_of_both a b) c ≡ answer_of_both a (answer_of_both b c)
answers_in_steps (Done m) (Done n) (Done k) command accepted = ap Done (joined-joined m n k)
answers_in_steps (Done m) (Done n) (State word) command accepted = refl
answers_in_steps (Done m) (Done n) (Name name) command accepted = refl
answers_in_steps (Done m) (Done n) (Names names) command accepted = refl
answers_in_steps (Done m) (Done n) (Refused refusal) command accepted = refl
answers_in_steps (Done m) (State word) c command accepted = absurd (false≢true (sym command))
answers_in_steps (Done m) (Name name) c command accepted = absurd (false≢true (sym command))
answers_in_steps (Done m) (Names names) c command accepted = absurd (false≢true (sym command))
answers_in_steps (Done m) (Refused refusal) c command accepted = absurd (false≢true (sym accepted))
answers_in_steps (State word) b c command accepted = refl
answers_in_steps (Name name) b c command accepted = refl
answers_in_steps (Names names) b c command accepted = refl
answers_in_steps (Refused refusal) b c command accepted = refl

-- three inquiries, one after another
module _ (qa qb qc : Inquiry Effect) (t : Entries) where
  abbrev ea : Effect
  ea = qa.conclusion t

  abbrev u : Entries
  u = after_changes ea.changes t

  abbrev eb : Effect
  eb = qb.conclusion u

  abbrev v : Entries
  v = after_changes eb.changes u

  abbrev ec : Effect
  ec = qc.conclusion v

  abbrev one : Inquiry Effect
  one = followed_by (followed_by qa qb) qc

  abbrev other : Inquiry Effect
  other = followed_by qa (followed_by qb qc)

  -- the first two together
  abbrev two : Effect
  two = (followed_by qa qb).conclusion t

  abbrev AreOne : Type 0
  AreOne = ((one.conclusion t).changes ≡ (other.conclusion t).changes) × (one.keys t ≡ other.keys t) × (is_question eb.answer ≡ false → (one.conclusion t).answer ≡ (other.conclusion t).answer)

  same_conclusion : one.conclusion t ≡ other.conclusion t → one.keys t ≡ other.keys t → AreOne
  same_conclusion same keys = (ap (λ (e : Effect). e.changes) same, keys, λ h. ap (λ (e : Effect). e.answer) same)

  first_refused : is_refused ea.answer ≡ true → AreOne
  first_refused refused =
      let off_b = continued_off qb ea refused in
      let off_c = ap (continued qc) (ap (λ (q : Inquiry Effect). q.conclusion t) off_b) ∙ continued_off qc ea refused in
      let off_both = continued_off (followed_by qb qc) ea refused in
      same_conclusion
      (ap (λ (q : Inquiry Effect). q.conclusion t) off_c ∙ sym (ap (λ (q : Inquiry Effect). q.conclusion t) off_both))
      ((λ i. (qa.keys t ++ (off_b i).keys t) ++ (off_c i).keys t) ∙ append-nil (qa.keys t ++ []) ∙ sym (ap (λ (q : Inquiry Effect). qa.keys t ++ q.keys t) off_both))

  module _ (accepted : is_refused ea.answer ≡ false) where
    on_b : continued qb ea ≡ giving (after ea.changes qb) (effect_of_both ea)
    on_b = continued_on qb ea accepted

    on_both : continued (followed_by qb qc) ea ≡ giving (after ea.changes (followed_by qb qc)) (effect_of_both ea)
    on_both = continued_on (followed_by qb qc) ea accepted

    two_is : two ≡ effect_of_both ea eb
    two_is = ap (λ (q : Inquiry Effect). q.conclusion t) on_b

    two_refused : is_refused two.answer ≡ is_refused eb.answer
    two_refused = ap (λ (e : Effect). is_refused e.answer) two_is ∙ refused_of_both ea.answer eb.answer

    second_refused : is_refused eb.answer ≡ true → AreOne
    second_refused refused =
        let off_c = continued_off qc two (two_refused ∙ refused) in
        let off_bc = continued_off qc eb refused in
        same_conclusion
        (ap (λ (q : Inquiry Effect). q.conclusion t) off_c ∙ two_is
        ∙ sym (ap (λ (q : Inquiry Effect). q.conclusion t) on_both ∙ ap (λ (q : Inquiry Effect). effect_of_both ea (q.conclusion u)) off_bc))
        ((λ i. (qa.keys t ++ (on_b i).keys t) ++ (off_c i).keys t) ∙ append_assoc (qa.keys t) (qb.keys u) []
        ∙ sym ((λ i. qa.keys t ++ (on_both i).keys t) ∙ ap (λ (q : Inquiry Effect). qa.keys t ++ (qb.keys u ++ q.keys u)) off_bc))

    module _ (both_accepted : is_refused eb.answer ≡ false) (of_a : AreChanges t ea.changes) (of_b : AreChanges u eb.changes) (of_c : AreChanges v ec.changes) where
      two_changes : two.changes ≡ changes_between t v
      two_changes = ap (λ (e : Effect). e.changes) two_is ∙ changes_of_both ea eb both_accepted ∙ net_between t ea.changes eb.changes of_a of_b

      two_tree : after_changes two.changes t ≡ v
      two_tree = ap (λ (cs : List Change). after_changes cs t) two_changes ∙ (leads t v).to

      on_c : continued qc two ≡ giving (after two.changes qc) (effect_of_both two)
      on_c = continued_on qc two (two_refused ∙ both_accepted)

      on_bc : continued qc eb ≡ giving (after eb.changes qc) (effect_of_both eb)
      on_bc = continued_on qc eb both_accepted

      one_is : one.conclusion t ≡ effect_of_both two ec
      one_is = ap (λ (q : Inquiry Effect). q.conclusion t) on_c ∙ ap (λ m. effect_of_both two (qc.conclusion m)) two_tree

      other_is : other.conclusion t ≡ effect_of_both ea (effect_of_both eb ec)
      other_is = ap (λ (q : Inquiry Effect). q.conclusion t) on_both ∙ ap (λ (q : Inquiry Effect). effect_of_both ea (q.conclusion u)) on_bc

      keys_are : one.keys t ≡ other.keys t
      keys_are =
          (λ i. (qa.keys t ++ (on_b i).keys t) ++ (on_c i).keys t) ∙ ap (λ m. (qa.keys t ++ qb.keys u) ++ qc.keys m) two_tree
          ∙ append_assoc (qa.keys t) (qb.keys u) (qc.keys v)
          ∙ sym ((λ i. qa.keys t ++ (on_both i).keys t) ∙ ap (λ (q : Inquiry Effect). qa.keys t ++ (qb.keys u ++ q.keys u)) on_bc)

      last_refused : is_refused ec.answer ≡ true → (effect_of_both two ec).changes ≡ (effect_of_both ea (effect_of_both eb ec)).changes
      last_refused refused = none_of_both two ec refused ∙ sym (none_of_both ea (effect_of_both eb ec) (refused_of_both eb.answer ec.answer ∙ refused))

      all_accepted : is_refused ec.answer ≡ false → (effect_of_both two ec).changes ≡ (effect_of_both ea (effect_of_both eb ec)).changes
      all_accepted c_accepted =
          let w : Entries = after_changes ec.changes v in
          let later : (effect_of_both eb ec).changes ≡ changes_between u w = changes_of_both eb ec c_accepted ∙ net_between u eb.changes ec.changes of_b of_c in
          changes_of_both two ec c_accepted
          ∙ ap (λ cs. net cs ec.changes) two_changes
          ∙ net_between t (changes_between t v) ec.changes (changes_between_are t v) (subst (λ m. AreChanges m ec.changes) (sym (leads t v).to) of_c)
          ∙ ap (λ m. changes_between t (after_changes ec.changes m)) (leads t v).to
          ∙ ap (changes_between t) (sym (leads u w).to)
          ∙ sym (net_between t ea.changes (changes_between u w) of_a (changes_between_are u w))
          ∙ sym (changes_of_both ea (effect_of_both eb ec) (refused_of_both eb.answer ec.answer ∙ c_accepted) ∙ ap (net ea.changes) later)

      both_done : AreOne
      both_done = (
        ap (λ (e : Effect). e.changes) one_is ∙ (elim (cases_Bool (is_refused ec.answer)) [ inl refused ↦ last_refused refused | inr c_accepted ↦ all_accepted c_accepted ])
            ∙ sym (ap (λ (e : Effect). e.changes) other_is),
        keys_are,
        λ command. ap (λ (e : Effect). e.answer) one_is ∙ ap (λ (e : Effect). answer_of_both e.answer ec.answer) two_is ∙ answers_in_steps ea.answer eb.answer ec.answer command both_accepted
            ∙ sym (ap (λ (e : Effect). e.answer) other_is),
      )

  in_steps : AreChanges t ea.changes → AreChanges u eb.changes → AreChanges v ec.changes → AreOne
  in_steps of_a of_b of_c = elim (cases_Bool (is_refused ea.answer)) [
    | inl refused ↦ first_refused refused
    | inr accepted ↦ elim (cases_Bool (is_refused eb.answer)) [
      | inl refused ↦ second_refused accepted refused
      | inr both_accepted ↦ both_done accepted both_accepted of_a of_b of_c
    ]
  ]

module _ {A B C : Type 0} {asks_first : A → Bool} {asks_second : B → Bool} {asks_third : C → Bool}
    {first : A → Inquiry Effect} {second : B → Inquiry Effect} {third : C → Inquiry Effect} where
  pub then_in_steps : OperationLaws asks_first first → OperationLaws asks_second second → OperationLaws asks_third third → ThenInSteps first second third
  then_in_steps one two three a b c t =
      let u : Entries = after_changes ((first a).conclusion t).changes t in
      let v : Entries = after_changes ((second b).conclusion u).changes u in
      let same = in_steps (first a) (second b) (third c) t (one.changes a t) (two.changes b u) (three.changes c v) in
      (same.0, ap (λ keys. reading_of keys t) same.1, same.2)
