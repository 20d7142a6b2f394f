-- What the words of units ask for, as a set.
use Rattle.std.proofs.Common.{◌≡◌, ◌≢◌, ℕ, Bool, true, false, cond, List, [], ◌∷◌, Option, Some, None, Contains, refl, sym, ap, subst, ◌∙◌, inl, inr, ◌⊎◌}
use Rattle.std.specs.FinMap as map
use Rattle.std.specs.Cmp.{tied_itself}
use Rattle.std.specs.Cmp.Lexicographic.{nat_list_eq_equiv, nat_list_cmp_total}
use Rattle.std.specs.Ordering.{is_lt, is_le, ordering_reverse}
use Rattle.std.specs.declared.cmp.Ordering.{Ordering}
use Rattle.std.specs.declared.cmp.Ordering.TheVariants.{Less, Equal, Greater}
use Rattle.std.specs.Str.{bytes_eq}
use Rattle.std.proofs.lemmas.Bool.{cases_Bool, false≢true}
use Rattle.std.proofs.lemmas.Map.Lookups.{exact_bytes}
use Rattle.unit_file.specs.declared.notice.Notice.{Notice}
use Rattle.unit_file.specs.Notices.{line_cmp, notice_line, with_notice}
use Rattle.unit_paths.specs.declared.place.Place.{Place}
use Rattle.link_tree.specs.Trees.{Entries, path_cmp}
use Rattle.link_tree.proofs.Changed.{same_bytes, is_at}
use Rattle.link_tree.proofs.Shapes.{same_key}
use Rattle.install_section.specs.declared.section.Section.{Section}
use Rattle.install_section.specs.declared.wish.LinkKey.{LinkKey}
use Rattle.install_section.specs.declared.wish.LinkKey.TheVariants.{WantedBy, RequiredBy, UpheldBy, Alias}
use Rattle.install_section.specs.declared.wish.Wish.{Wish}
use Rattle.install_section.specs.declared.wish.Wish.TheVariants.{Link, Skip, NoInstance}
use Rattle.install_section.specs.declared.wants.Wants.{Wants}
use Rattle.install_section.specs.Words.{skipped}
use Rattle.install_section.specs.Sections.{section_of, identity_in}
use Rattle.install_section.specs.Wishes.{wish, words_for, notice_key}
use Rattle.install_section.specs.Wanted.{least_with, with_link, with_nameless, with_wish, with_words, with_list, with_section, all_wants, no_wants}
use Rattle.install_section.proofs.Least.{IsTold, some_is, still_told, now_told, is_first, is_later, first_or_later, none_of, own_line}

-- What can be asked for: a link, an instance, or a notice about a word.
pub data Asked : Type 0 where
  AsksLink : (path file : List ℕ) → Asked
  AsksInstance : (unit : List ℕ) → Asked
  AsksNotice : (notice : Notice) → Asked

-- the least text with a property, or none
abbrev pub LeastOf : (P : List ℕ → Type 0) → Option (List ℕ) → Type 0
LeastOf P None = (text : List ℕ) → P text → ⊥
LeastOf P (Some least) = P least × ((text : List ℕ) → P text → is_le (path_cmp least text) ≡ true)

least_as : (P Q : List ℕ → Type 0) (o : Option (List ℕ)) → ((text : List ℕ) → P text → Q text) → ((text : List ℕ) → Q text → P text) → LeastOf P o → LeastOf Q o
least_as P Q None there back h = λ text q. h text (back text q)
least_as P Q (Some least) there back h = (there least h.0, λ text q. h.1 text (back text q))

is_less : (r : Ordering) → is_lt r ≡ true → r ≡ Less
is_less Less h = refl
is_less Equal h = absurd (false≢true h)
is_less Greater h = absurd (false≢true h)

not_less : (r : Ordering) → is_lt r ≡ false → is_le (ordering_reverse r) ≡ true
not_less Less h = absurd (false≢true (sym h))
not_less Equal h = refl
not_less Greater h = refl

le_itself : (text : List ℕ) → is_le (path_cmp text text) ≡ true
le_itself text = by_tied (path_cmp text text) (tied_itself nat_list_cmp_total text)
  where
    by_tied : (r : Ordering) → r ≡ Equal → is_le r ≡ true
    by_tied r is = ap is_le is

le_through : (x y z : List ℕ) → path_cmp x y ≡ Less → is_le (path_cmp y z) ≡ true → is_le (path_cmp x z) ≡ true
le_through x y z less le = by_second (path_cmp y z) refl le
  where
    by_second : (r : Ordering) → path_cmp y z ≡ r → is_le r ≡ true → is_le (path_cmp x z) ≡ true
    by_second Less is le = ap is_le (nat_list_cmp_total.trans x y z less is)
    by_second Equal is le = ap is_le (subst (λ z. path_cmp x z ≡ Less) (exact_bytes y z is) less)
    by_second Greater is le = absurd (false≢true le)

-- one more text
least_more : (P Q : List ℕ → Type 0) (o : Option (List ℕ)) (text : List ℕ) → Q text → ((x : List ℕ) → P x → Q x) → ((x : List ℕ) → Q x → P x ⊎ (x ≡ text)) → LeastOf P o → LeastOf Q (least_with o text)
least_more P Q None text here there back h = (here, λ x q. elim (back x q) [ inl p ↦ absurd (h x p) | inr is ↦ subst (λ x. is_le (path_cmp text x) ≡ true) (sym is) (le_itself text) ])
least_more P Q (Some least) text here there back h =
    elim (is_lt (path_cmp text least)) as (λ b. is_lt (path_cmp text least) ≡ b → LeastOf Q (cond b (Some text) (Some least))) [
      | true ↦ (λ lt. (
        here,
        λ x q. elim (back x q) [
          | inl p ↦ le_through text least x (is_less (path_cmp text least) lt) (h.1 x p)
          | inr is ↦ subst (λ x. is_le (path_cmp text x) ≡ true) (sym is) (le_itself text)
        ],
      ))
      | false ↦ (λ ge. (
        there least h.0,
        λ x q. elim (back x q) [
          | inl p ↦ h.1 x p
          | inr is ↦ subst (λ x. is_le (path_cmp least x) ≡ true) (sym is) (ap is_le (nat_list_cmp_total.antisymm least text) ∙ not_less (path_cmp text least) ge)
        ],
      ))
    ] refl

-- links with two targets are asked for at a path
abbrev pub TwoAt : (P : Asked → Type 0) → List ℕ → Type 0
TwoAt P path = (one other : List ℕ) × (one ≢ other) × P (AsksLink path one) × P (AsksLink path other)

-- What was asked for so far is in the wants.
pub record Stands (P : Asked → Type 0) (w : Wants) : Type 0 where
  pub only : (path file : List ℕ) → map.get w.links path ≡ Some file → P (AsksLink path file)
  pub there : (path file : List ℕ) → P (AsksLink path file) → (other : List ℕ) × (map.get w.links path ≡ Some other)
  pub clash : LeastOf (TwoAt P) w.clash
  pub nameless : LeastOf (λ unit. P (AsksInstance unit)) w.nameless
  pub told : (notice : Notice) → P (AsksNotice notice) → IsTold w.notices (notice_line notice)
  pub only_told : (line : List ℕ) (notice : Notice) → map.get w.notices line ≡ Some notice → P (AsksNotice notice) × (line ≡ notice_line notice)

stands_as : (P Q : Asked → Type 0) (w : Wants) → ((a : Asked) → P a → Q a) → ((a : Asked) → Q a → P a) → Stands P w → Stands Q w
stands_as P Q w there back s = record {
  only = λ path file at. there (AsksLink path file) (s.only path file at);
  there = λ path file q. s.there path file (back (AsksLink path file) q);
  clash = least_as (TwoAt P) (TwoAt Q) w.clash
      (λ path two. (two.0, two.1, two.2, there (AsksLink path two.0) two.3, there (AsksLink path two.1) two.4))
      (λ path two. (two.0, two.1, two.2, back (AsksLink path two.0) two.3, back (AsksLink path two.1) two.4)) s.clash;
  nameless = least_as (λ unit. P (AsksInstance unit)) (λ unit. Q (AsksInstance unit)) w.nameless (λ unit. there (AsksInstance unit)) (λ unit. back (AsksInstance unit)) s.nameless;
  told = λ notice q. s.told notice (back (AsksNotice notice) q);
  only_told = λ line notice at. let known = s.only_told line notice at in (there (AsksNotice notice) known.0, known.1);
}

-- these, or one more
abbrev pub With : (P : Asked → Type 0) → Asked → Asked → Type 0
With P one a = P a ⊎ (a ≡ one)

module _ (P : Asked → Type 0) (w : Wants) (s : Stands P w) where
  -- a link at a path where none was asked for
  new_link : (path file : List ℕ) → map.get w.links path ≡ None → Stands (With P (AsksLink path file)) (record w { links = map.insert w.links path file })
  new_link path file none = record {
    only = λ p f at. elim (cases_Bool (is_at p path)) [
      | inl here ↦
          let is : file ≡ f = some_is file f (sym (got p ∙ ap (λ b. cond b (Some file) (map.get w.links p)) here) ∙ at) in
          inr (λ i. AsksLink (same_key p path here i) (sym is i))
      | inr away ↦ inl (s.only p f (sym (got p ∙ ap (λ b. cond b (Some file) (map.get w.links p)) away) ∙ at))
    ];
    there = λ p f asked. elim (cases_Bool (is_at p path)) [
      | inl here ↦ (file, got p ∙ ap (λ b. cond b (Some file) (map.get w.links p)) here)
      | inr away ↦ (let old = by_asked p f away asked in (old.0, got p ∙ ap (λ b. cond b (Some file) (map.get w.links p)) away ∙ old.1))
    ];
    clash = least_as (TwoAt P) (TwoAt (With P (AsksLink path file))) w.clash (λ p two. (two.0, two.1, two.2, inl two.3, inl two.4)) old_two s.clash;
    nameless = least_as (λ unit. P (AsksInstance unit)) (λ unit. With P (AsksLink path file) (AsksInstance unit)) w.nameless (λ unit p. inl p) (λ unit q. elim q [ inl p ↦ p | inr is ↦ absurd (cc) ]) s.nameless;
    told = λ notice q. elim q [ inl p ↦ s.told notice p | inr is ↦ absurd (cc) ];
    only_told = λ line notice at. let known = s.only_told line notice at in (inl known.0, known.1);
  }
    where
      got : (p : List ℕ) → map.get (map.insert w.links path file) p ≡ cond (is_at p path) (Some file) (map.get w.links p)
      got p = map.get-insert nat_list_cmp_total w.links path file p

      by_asked : (p f : List ℕ) → is_at p path ≡ false → With P (AsksLink path file) (AsksLink p f) → (other : List ℕ) × (map.get w.links p ≡ Some other)
      by_asked p f away (inl asked) = s.there p f asked
      by_asked p f away (inr is) = let same : p ≡ path = cc in absurd (false≢true (sym away ∙ ap (λ p. is_at p path) same ∙ own_line path))

      not_old : (f : List ℕ) → P (AsksLink path f) → ⊥
      not_old f asked = let old = s.there path f asked in let never : None ≡ Some old.0 = sym none ∙ old.1 in cc

      both_old : (p one other : List ℕ) → (one ≢ other) → With P (AsksLink path file) (AsksLink p one) → With P (AsksLink path file) (AsksLink p other) → TwoAt P p
      both_old p one other apart (inl first) (inl second) = (one, other, apart, first, second)
      both_old p one other apart (inl first) (inr is) = let same : p ≡ path = cc in absurd (not_old one (subst (λ p. P (AsksLink p one)) same first))
      both_old p one other apart (inr is) (inl second) = let same : p ≡ path = cc in absurd (not_old other (subst (λ p. P (AsksLink p other)) same second))
      both_old p one other apart (inr is) (inr at) = let same : one ≡ other = cc in absurd (apart same)

      old_two : (p : List ℕ) → TwoAt (With P (AsksLink path file)) p → TwoAt P p
      old_two p two = both_old p two.0 two.1 two.2 two.3 two.4

  -- a link that is wanted already
  same_link : (path file : List ℕ) → map.get w.links path ≡ Some file → Stands (With P (AsksLink path file)) w
  same_link path file at = stands_as P (With P (AsksLink path file)) w (λ a p. inl p) back s
    where
      back : (a : Asked) → With P (AsksLink path file) a → P a
      back a (inl p) = p
      back a (inr is) = subst P (sym is) (s.only path file at)

  -- a link at a path where a link to another file is wanted
  other_link : (path file other : List ℕ) → map.get w.links path ≡ Some other → (other ≢ file) → Stands (With P (AsksLink path file)) (record w { clash = least_with w.clash path })
  other_link path file other at apart = record {
    only = λ p f at. inl (s.only p f at);
    there = λ p f asked. by_asked p f asked;
    clash = least_more (TwoAt P) (TwoAt (With P (AsksLink path file))) w.clash path
        (other, file, apart, inl (s.only path other at), inr refl) (λ p two. (two.0, two.1, two.2, inl two.3, inl two.4)) (λ p two. by_two p two.0 two.1 two.2 two.3 two.4) s.clash;
    nameless = least_as (λ unit. P (AsksInstance unit)) (λ unit. With P (AsksLink path file) (AsksInstance unit)) w.nameless (λ unit p. inl p) (λ unit q. elim q [ inl p ↦ p | inr is ↦ absurd (cc) ]) s.nameless;
    told = λ notice q. elim q [ inl p ↦ s.told notice p | inr is ↦ absurd (cc) ];
    only_told = λ line notice at. let known = s.only_told line notice at in (inl known.0, known.1);
  }
    where
      by_asked : (p f : List ℕ) → With P (AsksLink path file) (AsksLink p f) → (found : List ℕ) × (map.get w.links p ≡ Some found)
      by_asked p f (inl asked) = s.there p f asked
      by_asked p f (inr is) = let same : p ≡ path = cc in (other, ap (λ p. map.get w.links p) same ∙ at)

      by_two : (p one two : List ℕ) → (one ≢ two) → With P (AsksLink path file) (AsksLink p one) → With P (AsksLink path file) (AsksLink p two) → TwoAt P p ⊎ (p ≡ path)
      by_two p one two apart (inl first) (inl second) = inl (one, two, apart, first, second)
      by_two p one two apart (inl first) (inr is) = let same : p ≡ path = cc in inr same
      by_two p one two apart (inr is) second = let same : p ≡ path = cc in inr same

  -- a unit that needs an instance
  instance_needed : (unit : List ℕ) → Stands (With P (AsksInstance unit)) (record w { nameless = least_with w.nameless unit })
  instance_needed unit = record {
    only = λ p f at. inl (s.only p f at);
    there = λ p f q. elim q [ inl asked ↦ s.there p f asked | inr is ↦ absurd (cc) ];
    clash = least_as (TwoAt P) (TwoAt (With P (AsksInstance unit))) w.clash (λ p two. (two.0, two.1, two.2, inl two.3, inl two.4))
        (λ p two. (two.0, two.1, two.2, elim two.3 [ inl asked ↦ asked | inr is ↦ absurd (cc) ], elim two.4 [ inl asked ↦ asked | inr is ↦ absurd (cc) ])) s.clash;
    nameless = least_more (λ u. P (AsksInstance u)) (λ u. With P (AsksInstance unit) (AsksInstance u)) w.nameless unit (inr refl) (λ u p. inl p)
        (λ u q. elim q [ inl p ↦ inl p | inr is ↦ (let same : u ≡ unit = cc in inr same) ]) s.nameless;
    told = λ notice q. elim q [ inl p ↦ s.told notice p | inr is ↦ absurd (cc) ];
    only_told = λ line notice at. let known = s.only_told line notice at in (inl known.0, known.1);
  }

  -- a word is skipped
  notice_added : (notice : Notice) → Stands (With P (AsksNotice notice)) (record w { notices = with_notice w.notices notice })
  notice_added notice = record {
    only = λ p f at. inl (s.only p f at);
    there = λ p f q. elim q [ inl asked ↦ s.there p f asked | inr is ↦ absurd (cc) ];
    clash = least_as (TwoAt P) (TwoAt (With P (AsksNotice notice))) w.clash (λ p two. (two.0, two.1, two.2, inl two.3, inl two.4))
        (λ p two. (two.0, two.1, two.2, elim two.3 [ inl asked ↦ asked | inr is ↦ absurd (cc) ], elim two.4 [ inl asked ↦ asked | inr is ↦ absurd (cc) ])) s.clash;
    nameless = least_as (λ unit. P (AsksInstance unit)) (λ unit. With P (AsksNotice notice) (AsksInstance unit)) w.nameless (λ unit p. inl p) (λ unit q. elim q [ inl p ↦ p | inr is ↦ absurd (cc) ]) s.nameless;
    told = λ other q. elim q [
      | inl p ↦ still_told w.notices notice (notice_line other) (s.told other p)
      | inr is ↦ (let same : other ≡ notice = cc in subst (λ other. IsTold (with_notice w.notices notice) (notice_line other)) (sym same) (now_told w.notices notice))
    ];
    only_told = λ line other at. elim (cases_Bool (is_at line (notice_line notice))) [
      | inl here ↦
          let is : notice ≡ other = some_is notice other (sym (map.get-insert nat_list_cmp_total w.notices (notice_line notice) notice line ∙ ap (λ b. cond b (Some notice) (map.get w.notices line)) here) ∙ at) in
          (inr (ap (λ n. AsksNotice n) (sym is)), same_key line (notice_line notice) here ∙ ap notice_line is)
      | inr away ↦
          let known = s.only_told line other (sym (map.get-insert nat_list_cmp_total w.notices (notice_line notice) notice line ∙ ap (λ b. cond b (Some notice) (map.get w.notices line)) away) ∙ at) in
          (inl known.0, known.1)
    ];
  }

-- what the wish of a word asks for
abbrev pub WishAsks : (skip : Bool) → (unit file : List ℕ) → LinkKey → (word : List ℕ) → Wish → Asked → Type 0
WishAsks skip unit file key word (Link path) a = a ≡ AsksLink path file
WishAsks skip unit file key word (Skip reason) a = a ≡ AsksNotice (skipped unit (notice_key key) word reason)
WishAsks skip unit file key word NoInstance a = (skip ≡ false) × (a ≡ AsksInstance unit)

-- these, or those of another set
abbrev pub Or : (P Q : Asked → Type 0) → Asked → Type 0
Or P Q a = P a ⊎ Q a

other_bytes : (one other : List ℕ) → bytes_eq one other ≡ false → one ≢ other
other_bytes one other never same = false≢true (sym never ∙ subst (λ x. bytes_eq one x ≡ true) same (nat_list_eq_equiv.refl one))

link_stands : (P : Asked → Type 0) (w : Wants) → Stands P w → (path file : List ℕ) (there : Option (List ℕ)) → map.get w.links path ≡ there → Stands (With P (AsksLink path file)) (with_link path file w there)
link_stands P w s path file None is = new_link P w s path file is
link_stands P w s path file (Some other) is =
    elim (bytes_eq other file) as (λ b. bytes_eq other file ≡ b → Stands (With P (AsksLink path file)) (cond b w (record w { clash = least_with w.clash path }))) [
      | true ↦ (λ same. same_link P w s path file (is ∙ ap (λ x. Some x) (same_bytes other file same)))
      | false ↦ (λ apart. other_link P w s path file other is (other_bytes other file apart))
    ] refl

instance_stands : (P : Asked → Type 0) (w : Wants) → Stands P w → (skip : Bool) (unit file : List ℕ) (key : LinkKey) (word : List ℕ)
    → Stands (Or P (WishAsks skip unit file key word NoInstance)) (with_nameless skip unit w)
instance_stands P w s true unit file key word =
    stands_as P (Or P (WishAsks true unit file key word NoInstance)) w (λ a p. inl p) (λ a q. elim q [ inl p ↦ p | inr never ↦ absurd (false≢true (sym never.0)) ]) s
instance_stands P w s false unit file key word =
    stands_as (With P (AsksInstance unit)) (Or P (WishAsks false unit file key word NoInstance)) (record w { nameless = least_with w.nameless unit })
    (λ a q. elim q [ inl p ↦ inl p | inr is ↦ inr (refl, is) ]) (λ a q. elim q [ inl p ↦ inl p | inr is ↦ inr is.1 ]) (instance_needed P w s unit)

wish_stands : (P : Asked → Type 0) (w : Wants) → Stands P w → (skip : Bool) (unit file : List ℕ) (key : LinkKey) (word : List ℕ) (its : Wish)
    → Stands (Or P (WishAsks skip unit file key word its)) (with_wish skip unit file key word w its)
wish_stands P w s skip unit file key word (Link path) = link_stands P w s path file (map.get w.links path) refl
wish_stands P w s skip unit file key word (Skip reason) = notice_added P w s (skipped unit (notice_key key) word reason)
wish_stands P w s skip unit file key word NoInstance = instance_stands P w s skip unit file key word

module _ (place : Place) (skip : Bool) where
  abbrev pub WordsAsk : (unit identity file : List ℕ) → LinkKey → (words : List (List ℕ)) → Asked → Type 0
  WordsAsk unit identity file key words a = (word : List ℕ) × Contains words word × WishAsks skip unit file key word (wish place key unit identity word) a

  words_stand : (P : Asked → Type 0) (unit identity file : List ℕ) (key : LinkKey) (words : List (List ℕ)) (w : Wants) → Stands P w
      → Stands (Or P (WordsAsk unit identity file key words)) (with_words place skip unit identity file key words w)
  words_stand P unit identity file key [] w s =
      stands_as P (Or P (WordsAsk unit identity file key [])) w (λ a p. inl p) (λ a q. elim q [ inl p ↦ p | inr none ↦ absurd (none_of [] none.0 refl none.1) ]) s
  words_stand P unit identity file key (word ∷ words) w s =
      let First : Asked → Type 0 = WishAsks skip unit file key word (wish place key unit identity word) in
      let Rest : Asked → Type 0 = WordsAsk unit identity file key words in
      let All : Asked → Type 0 = WordsAsk unit identity file key (word ∷ words) in
      stands_as (Or (Or P First) Rest) (Or P All) (with_words place skip unit identity file key (word ∷ words) w)
      (λ a q. elim q [
        | inl before ↦ (elim before [ inl p ↦ inl p | inr first ↦ inr (word, is_first word words word refl, first) ])
        | inr rest ↦ inr (rest.0, is_later word words rest.0 rest.1, rest.2)
      ])
      (λ a q. elim q [
        | inl p ↦ inl (inl p)
        | inr all ↦ (elim (first_or_later word words all.0 all.1.0 all.1.1 all.1.2) [
          | inl at ↦ inl (inr (subst (λ word. WishAsks skip unit file key word (wish place key unit identity word) a) at all.2))
          | inr later ↦ inr (all.0, later, all.2)
        ])
      ])
      (words_stand (Or P First) unit identity file key words (with_wish skip unit file key word w (wish place key unit identity word)) (wish_stands P w s skip unit file key word (wish place key unit identity word)))

  abbrev pub SectionAsks : (unit : List ℕ) → Section → Asked → Type 0
  SectionAsks unit section a = (key : LinkKey) × WordsAsk unit (identity_in unit section) section.file key (words_for key section.text) a

  section_stands : (P : Asked → Type 0) (unit : List ℕ) (section : Section) (w : Wants) → Stands P w → Stands (Or P (SectionAsks unit section)) (with_section place skip unit w (Some section))
  section_stands P unit section w s =
      let Of : LinkKey → Asked → Type 0 = λ key. WordsAsk unit (identity_in unit section) section.file key (words_for key section.text) in
      let add : (P : Asked → Type 0) (key : LinkKey) (w : Wants) → Stands P w → Stands (Or P (Of key)) (with_list place skip unit section key w) =
      λ P key w s. words_stand P unit (identity_in unit section) section.file key (words_for key section.text) w s in
      let one = with_list place skip unit section WantedBy w in
      let two = with_list place skip unit section RequiredBy one in
      let three = with_list place skip unit section UpheldBy two in
      let listed = Or (Or (Or P (Of WantedBy)) (Of RequiredBy)) (Of UpheldBy) in
      stands_as (Or listed (Of Alias)) (Or P (SectionAsks unit section)) (with_section place skip unit w (Some section))
      (λ a q. elim q [
        | inl q ↦ (elim q [
          | inl q ↦ (elim q [ inl q ↦ (elim q [ inl p ↦ inl p | inr of ↦ inr (WantedBy, of) ]) | inr of ↦ inr (RequiredBy, of) ])
          | inr of ↦ inr (UpheldBy, of)
        ])
        | inr of ↦ inr (Alias, of)
      ])
      (λ a q. elim q [ inl p ↦ inl (inl (inl (inl p))) | inr of ↦ by_key a of.0 of.1 ])
      (add listed Alias three (add (Or (Or P (Of WantedBy)) (Of RequiredBy)) UpheldBy two (add (Or P (Of WantedBy)) RequiredBy one (add P WantedBy w s))))
    where
      by_key : (a : Asked) (key : LinkKey) → WordsAsk unit (identity_in unit section) section.file key (words_for key section.text) a
          → Or (Or (Or (Or P (WordsAsk unit (identity_in unit section) section.file WantedBy (words_for WantedBy section.text))) (WordsAsk unit (identity_in unit section) section.file RequiredBy (words_for RequiredBy section.text)))
          (WordsAsk unit (identity_in unit section) section.file UpheldBy (words_for UpheldBy section.text))) (WordsAsk unit (identity_in unit section) section.file Alias (words_for Alias section.text)) a
      by_key a WantedBy of = inl (inl (inl (inr of)))
      by_key a RequiredBy of = inl (inl (inr of))
      by_key a UpheldBy of = inl (inr of)
      by_key a Alias of = inr of

  module _ (t : Entries) where
    abbrev pub UnitAsks : (unit : List ℕ) → Asked → Type 0
    UnitAsks unit a = (section : Section) × ((section_of unit).conclusion t ≡ Some section) × SectionAsks unit section a

    unit_stands : (P : Asked → Type 0) (unit : List ℕ) (section : Option Section) (w : Wants) → (section_of unit).conclusion t ≡ section → Stands P w → Stands (Or P (UnitAsks unit)) (with_section place skip unit w section)
    unit_stands P unit None w is s =
        stands_as P (Or P (UnitAsks unit)) w (λ a p. inl p) (λ a q. elim q [ inl p ↦ p | inr asks ↦ (let never : None ≡ Some asks.0 = sym is ∙ asks.1 in absurd (cc)) ]) s
    unit_stands P unit (Some section) w is s =
        stands_as (Or P (SectionAsks unit section)) (Or P (UnitAsks unit)) (with_section place skip unit w (Some section))
        (λ a q. elim q [ inl p ↦ inl p | inr asks ↦ inr (section, is, asks) ])
        (λ a q. elim q [ inl p ↦ inl p | inr asks ↦ inr (subst (λ (section : Section). SectionAsks unit section a) (some_is asks.0 section (sym asks.1 ∙ is)) asks.2) ])
        (section_stands P unit section w s)

    abbrev pub UnitsAsk : (units : List (List ℕ)) → Asked → Type 0
    UnitsAsk units a = (unit : List ℕ) × Contains units unit × UnitAsks unit a

    units_stand : (P : Asked → Type 0) (units : List (List ℕ)) (w : Wants) → Stands P w → Stands (Or P (UnitsAsk units)) ((all_wants place skip units w).conclusion t)
    units_stand P [] w s =
        stands_as P (Or P (UnitsAsk [])) w (λ a p. inl p) (λ a q. elim q [ inl p ↦ p | inr none ↦ absurd (none_of [] none.0 refl none.1) ]) s
    units_stand P (unit ∷ units) w s =
        let section = (section_of unit).conclusion t in
        let next = with_section place skip unit w section in
        stands_as (Or (Or P (UnitAsks unit)) (UnitsAsk units)) (Or P (UnitsAsk (unit ∷ units))) ((all_wants place skip (unit ∷ units) w).conclusion t)
        (λ a q. elim q [
          | inl before ↦ (elim before [ inl p ↦ inl p | inr first ↦ inr (unit, is_first unit units unit refl, first) ])
          | inr rest ↦ inr (rest.0, is_later unit units rest.0 rest.1, rest.2)
        ])
        (λ a q. elim q [
          | inl p ↦ inl (inl p)
          | inr all ↦ (elim (first_or_later unit units all.0 all.1.0 all.1.1 all.1.2) [
            | inl at ↦ inl (inr (subst (λ unit. UnitAsks unit a) at all.2))
            | inr later ↦ inr (all.0, later, all.2)
          ])
        ])
        (units_stand (Or P (UnitAsks unit)) units next (unit_stands P unit section w refl s))

    none_stand : Stands (λ a. ⊥) no_wants
    none_stand = record {
      only = λ path file at. let never : None ≡ Some file = sym (map.get-empty path_cmp path) ∙ at in cc;
      there = λ path file never. absurd never;
      clash = λ path two. two.3;
      nameless = λ unit never. never;
      told = λ notice never. absurd never;
      only_told = λ line notice at. let never : None ≡ Some notice = sym (map.get-empty line_cmp line) ∙ at in absurd (cc);
    }

    -- everything that the units ask for is in what they want
    pub all_stand : (units : List (List ℕ)) → Stands (UnitsAsk units) ((all_wants place skip units no_wants).conclusion t)
    all_stand units = stands_as (Or (λ a. ⊥) (UnitsAsk units)) (UnitsAsk units) ((all_wants place skip units no_wants).conclusion t) (λ a q. elim q [ inl never ↦ absurd never | inr asks ↦ asks ]) (λ a asks. inr asks)
        (units_stand (λ a. ⊥) units no_wants none_stand)
