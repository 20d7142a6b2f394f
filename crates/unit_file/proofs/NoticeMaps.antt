-- Maps of notices by their lines.
use Rattle.std.proofs.Common.{◌≡◌, ℕ, Bool, true, false, cond, T, ◌&&◌, List, [], ◌∷◌, ◌++◌, Option, Some, None, All, refl, ◌≢◌, sym, ap, subst, ◌∙◌, length, inl, inr}
use Rattle.std.specs.Cmp.{eq_by_cmp_equiv}
use Rattle.std.specs.Cmp.Lexicographic.{nat_list_cmp_total}
use Rattle.std.specs.declared.cmp.Ordering.{Ordering}
use Rattle.std.specs.declared.cmp.Ordering.TheVariants.{Less, Equal, Greater}
use Rattle.std.specs.Ordering.{is_lt, is_eq, eq_by_cmp}
use Rattle.std.specs.BTreeMap.{is_at}
use Rattle.std.specs.Map.{lookup, keys_of}
use Rattle.std.specs.List.{AllByRecursion}
use Rattle.std.specs.List.Sorted.{IsStrictlySortedBy}
use Rattle.std.specs.Option.{option_or}
use Rattle.std.specs.FinMap as map
use Rattle.std.specs.FinMap.{find, put, is_sorted}
use Rattle.std.specs.FinMap.Entries.{below_all, by_order}
use Rattle.std.proofs.lemmas.Map.Lookups.{exact_bytes}
use Rattle.std.proofs.lemmas.Bool.{cases_Bool, false≢true}
use Rattle.std.proofs.lemmas.List.Elements.{All-head, All-tail, All-nil, All-cons}
use Rattle.unit_file.specs.declared.notice.Notice.{Notice}
use Rattle.unit_file.specs.Notices.{notice_line, line_cmp, NoticeMap, AreAtTheirLines, with_notice, joined}

abbrev pub Entries : Type 0
Entries = List (List ℕ × Notice)

-- the entry that a test of keys finds
abbrev entry_at : Entries → List ℕ → Option Notice
entry_at es q = lookup (is_at (line_cmp q)) es

find_entry : (es : Entries) (q : List ℕ) → find line_cmp q es ≡ entry_at es q
find_entry [] q = refl
find_entry (e ∷ es) q = ap (cond (is_at (line_cmp q) e.0) (Some e.1)) (find_entry es q)

get_entry : (es : Entries) (q : List ℕ) → map.get (map.from_entries {R = line_cmp} es) q ≡ entry_at es q
get_entry es q = map.get-from_entries nat_list_cmp_total es q ∙ find_entry es q

pub same_notices : (notices others : NoticeMap) → ((q : List ℕ) → map.get notices q ≡ map.get others q) → notices ≡ others
same_notices = map.same_map nat_list_cmp_total exact_bytes

-- entries that differ at one line give maps that differ there
pub one_set : (es fs : Entries) (line : List ℕ) (notice : Notice) → ((q : List ℕ) → entry_at fs q ≡ cond (is_at (line_cmp line) q) (Some notice) (entry_at es q)) → map.from_entries {R = line_cmp} fs ≡ map.insert (map.from_entries es) line notice
one_set es fs line notice h = same_notices _ _ (λ q.
    get_entry fs q ∙ h q ∙ ap (λ b. cond b (Some notice) (entry_at es q)) ((eq_by_cmp_equiv nat_list_cmp_total).symm line q)
    ∙ sym (map.get-insert nat_list_cmp_total (map.from_entries es) line notice q ∙ ap (cond (is_at (line_cmp q) line) (Some notice)) (get_entry es q)))

both : (a b : Bool) → T a → T b → T (a && b)
both true b h k = k
both false b h k = absurd h

first : (a b : Bool) → T (a && b) → T a
first true b h = tt
first false b h = absurd h

second : (a b : Bool) → T (a && b) → T b
second true b h = h
second false b h = absurd h

below : (line : List ℕ) (es : Entries) → AllByRecursion (λ other. line_cmp line other ≡ Less) (keys_of es) → T (below_all line_cmp line es)
below line [] h = tt
below line (e ∷ es) h = both _ _ (subst (λ r. T (is_lt r)) (sym h.0) tt) (below line es h.1)

pub sorted : (es : Entries) → IsStrictlySortedBy line_cmp (keys_of es) → T (is_sorted line_cmp es)
unfolding IsStrictlySortedBy
sorted [] h = tt
sorted (e ∷ es) h = both _ _ (below e.0 es h.0) (sorted es h.1)

-- a map that is built from entries in order has these entries
pub entries_again : (es : Entries) → IsStrictlySortedBy line_cmp (keys_of es) → map.entries (map.from_entries {R = line_cmp} es) ≡ es
entries_again es h =
    ap map.entries (same_notices _ _ (λ q. map.get-from_entries nat_list_cmp_total es q ∙ sym (map.get-from_sorted line_cmp es q (sorted es h))))
    ∙ map.entries-from_sorted line_cmp es (sorted es h)

pub len_again : (es : Entries) → IsStrictlySortedBy line_cmp (keys_of es) → map.len (map.from_entries {R = line_cmp} es) ≡ length es
len_again es h = map.len-entries _ ∙ ap length (entries_again es h)

-- a notice at its own line among others
abbrev pub HasItsLine : List ℕ × Notice → Type 0
HasItsLine e = e.0 ≡ notice_line e.1

all_put : (notice : Notice) (es : Entries) → All HasItsLine es → All HasItsLine (put line_cmp (notice_line notice) notice es)
all_put notice [] all = All-cons HasItsLine _ [] refl all
all_put notice (e ∷ es) all =
    elim (line_cmp (notice_line notice) e.0) as (λ r. line_cmp (notice_line notice) e.0 ≡ r → All HasItsLine (by_order r ((notice_line notice, notice) ∷ e ∷ es) ((e.0, notice) ∷ es) (e ∷ put line_cmp (notice_line notice) notice es))) [
      | Less ↦ λ _. All-cons HasItsLine _ (e ∷ es) refl all
      | Equal ↦ λ same. All-cons HasItsLine (e.0, notice) es (sym (exact_bytes _ _ same)) (All-tail HasItsLine e es all)
      | Greater ↦ λ _. All-cons HasItsLine e _ (All-head HasItsLine e es all) (all_put notice es (All-tail HasItsLine e es all))
    ] refl

-- no notices
entries_none : map.entries {X = Notice} {R = line_cmp} map.empty ≡ []
unfolding IsStrictlySortedBy
entries_none = entries_again [] tt

pub none_at_lines : AreAtTheirLines map.empty
none_at_lines = subst (All HasItsLine) (sym entries_none) (All-nil HasItsLine)

pub one_at_line : (notices : NoticeMap) (notice : Notice) → AreAtTheirLines notices → AreAtTheirLines (map.insert notices (notice_line notice) notice)
one_at_line notices notice all = subst (All HasItsLine) (sym (map.entries-insert nat_list_cmp_total notices (notice_line notice) notice)) (all_put notice (map.entries notices) all)

find-append : (es fs : Entries) (q : List ℕ) → find line_cmp q (es ++ fs) ≡ option_or (find line_cmp q es) (find line_cmp q fs)
find-append [] fs q = refl
find-append (e ∷ es) fs q = elim (eq_by_cmp line_cmp q e.0) as (λ b. cond b (Some e.1) (find line_cmp q (es ++ fs)) ≡ option_or (cond b (Some e.1) (find line_cmp q es)) (find line_cmp q fs)) [
  | true ↦ refl
  | false ↦ find-append es fs q
]

-- the notice of two joined maps at a line
pub get-joined : (notices others : NoticeMap) (q : List ℕ) → map.get (joined notices others) q ≡ option_or (map.get others q) (map.get notices q)
unfolding joined
get-joined notices others q =
    map.get-from_entries nat_list_cmp_total (map.entries others ++ map.entries notices) q
    ∙ find-append (map.entries others) (map.entries notices) q
    ∙ (λ i. option_or (sym (map.get-entries others q) i) (sym (map.get-entries notices q) i))

or_none : (o : Option Notice) → option_or o None ≡ o
or_none None = refl
or_none (Some notice) = refl

pub none-joined : (others : NoticeMap) → joined map.empty others ≡ others
none-joined others = same_notices _ _ (λ q. get-joined map.empty others q ∙ ap (option_or (map.get others q)) (map.get-empty line_cmp q) ∙ or_none (map.get others q))

pub joined-none : (notices : NoticeMap) → joined notices map.empty ≡ notices
joined-none notices = same_notices _ _ (λ q. get-joined notices map.empty q ∙ ap (λ o. option_or o (map.get notices q)) (map.get-empty line_cmp q))

or_or : (a b c : Option Notice) → option_or a (option_or b c) ≡ option_or (option_or a b) c
or_or None b c = refl
or_or (Some a) b c = refl

pub joined-joined : (one two three : NoticeMap) → joined (joined one two) three ≡ joined one (joined two three)
joined-joined one two three = same_notices _ _ (λ q.
    get-joined (joined one two) three q ∙ ap (option_or (map.get three q)) (get-joined one two q)
    ∙ or_or (map.get three q) (map.get two q) (map.get one q)
    ∙ sym (get-joined one (joined two three) q ∙ ap (λ o. option_or o (map.get one q)) (get-joined two three q)))

-- joining one more notice is the same as adding it to the joined notices
pub joined-with_notice : (notices others : NoticeMap) (notice : Notice) → joined notices (with_notice others notice) ≡ with_notice (joined notices others) notice
joined-with_notice notices others notice = same_notices _ _ (λ q.
    get-joined notices (with_notice others notice) q ∙ ap (λ o. option_or o (map.get notices q)) (map.get-insert nat_list_cmp_total others (notice_line notice) notice q)
    ∙ outside (eq_by_cmp line_cmp q (notice_line notice)) (map.get others q) (map.get notices q)
    ∙ sym (map.get-insert nat_list_cmp_total (joined notices others) (notice_line notice) notice q ∙ ap (cond (eq_by_cmp line_cmp q (notice_line notice)) (Some notice)) (get-joined notices others q)))
  where
    outside : (b : Bool) (o p : Option Notice) → option_or (cond b (Some notice) o) p ≡ cond b (Some notice) (option_or o p)
    outside true o p = refl
    outside false o p = refl

less : (r : Ordering) → T (is_lt r) → r ≡ Less
less Less h = refl
less Equal h = absurd h
less Greater h = absurd h

is_equal : (r : Ordering) → is_eq r ≡ true → r ≡ Equal
is_equal Less h = absurd (false≢true h)
is_equal Equal h = refl
is_equal Greater h = absurd (false≢true h)

-- the notice at a line after two more notices are added to a map
get-two : (notices : NoticeMap) (one other : Notice) (q : List ℕ) → map.get (with_notice (with_notice notices one) other) q ≡ cond (eq_by_cmp line_cmp q (notice_line other)) (Some other) (cond (eq_by_cmp line_cmp q (notice_line one)) (Some one) (map.get notices q))
get-two notices one other q =
    map.get-insert nat_list_cmp_total (with_notice notices one) (notice_line other) other q
    ∙ ap (cond (eq_by_cmp line_cmp q (notice_line other)) (Some other)) (map.get-insert nat_list_cmp_total notices (notice_line one) one q)

pub added_in_any_order : (notices : NoticeMap) (one other : Notice) → notice_line one ≢ notice_line other → with_notice (with_notice notices one) other ≡ with_notice (with_notice notices other) one
added_in_any_order notices one other apart = same_notices _ _ (λ q. get-two notices one other q ∙ swapped q ∙ sym (get-two notices other one q))
  where
    here : (q : List ℕ) (notice : Notice) → eq_by_cmp line_cmp q (notice_line notice) ≡ true → q ≡ notice_line notice
    here q notice same = exact_bytes q (notice_line notice) (is_equal (line_cmp q (notice_line notice)) same)

    swapped : (q : List ℕ) → cond (eq_by_cmp line_cmp q (notice_line other)) (Some other) (cond (eq_by_cmp line_cmp q (notice_line one)) (Some one) (map.get notices q)) ≡ cond (eq_by_cmp line_cmp q (notice_line one)) (Some one) (cond (eq_by_cmp line_cmp q (notice_line other)) (Some other) (map.get notices q))
    swapped q = elim (cases_Bool (eq_by_cmp line_cmp q (notice_line one))) [
      | inr away ↦ (λ i. cond (eq_by_cmp line_cmp q (notice_line other)) (Some other) (cond (away i) (Some one) (map.get notices q))) ∙ sym (ap (λ b. cond b (Some one) (cond (eq_by_cmp line_cmp q (notice_line other)) (Some other) (map.get notices q))) away)
      | inl at_one ↦ (elim (cases_Bool (eq_by_cmp line_cmp q (notice_line other))) [
        | inl at_other ↦ absurd (apart (sym (here q one at_one) ∙ here q other at_other))
        | inr away ↦ ap (λ b. cond b (Some other) (cond (eq_by_cmp line_cmp q (notice_line one)) (Some one) (map.get notices q))) away
            ∙ (λ i. cond (eq_by_cmp line_cmp q (notice_line one)) (Some one) (cond (sym away i) (Some other) (map.get notices q)))
      ])
    ]

pub added_once : (notices : NoticeMap) (notice : Notice) → with_notice (with_notice notices notice) notice ≡ with_notice notices notice
added_once notices notice = same_notices _ _ (λ q.
    get-two notices notice notice q ∙ again (eq_by_cmp line_cmp q (notice_line notice)) (map.get notices q) ∙ sym (map.get-insert nat_list_cmp_total notices (notice_line notice) notice q))
  where
    again : (b : Bool) (o : Option Notice) → cond b (Some notice) (cond b (Some notice) o) ≡ cond b (Some notice) o
    again true o = refl
    again false o = refl

-- a line below all of the others isn't one of them
none_below : (q : List ℕ) (es : Entries) → T (below_all line_cmp q es) → find line_cmp q es ≡ None
none_below q [] h = refl
none_below q (e ∷ es) h = ap (λ b. cond b (Some e.1) (find line_cmp q es)) (ap is_eq (less (line_cmp q e.0) (first _ _ h))) ∙ none_below q es (second _ _ h)

-- Adding entries, which are in order, to some notices gives all.
pub record AreToBeAdded (left : Entries) (notices all : NoticeMap) : Type 0 where
  pub lines : All HasItsLine left
  pub order : T (is_sorted line_cmp left)
  pub same : (q : List ℕ) → option_or (find line_cmp q left) (map.get notices q) ≡ map.get all q

pub all_to_be_added : (notices others : NoticeMap) (es : Entries) → AreAtTheirLines others → map.entries others ≡ es → AreToBeAdded es notices (joined notices others)
all_to_be_added notices others es lines same = subst (λ left. AreToBeAdded left notices (joined notices others)) same (record {
  lines = lines;
  order = map.entries_sorted others;
  same = λ q. sym (get-joined notices others q ∙ ap (λ o. option_or o (map.get notices q)) (map.get-entries others q));
})

pub one_added : (e : List ℕ × Notice) (left : Entries) (notices all : NoticeMap) → AreToBeAdded (e ∷ left) notices all → AreToBeAdded left (map.insert notices e.0 e.1) all
one_added e left notices all h = record {
  lines = All-tail HasItsLine e left h.lines;
  order = second _ _ h.order;
  same = λ q. ap (option_or (find line_cmp q left)) (map.get-insert nat_list_cmp_total notices e.0 e.1 q) ∙ either q ∙ h.same q;
}
  where
    at_first : (q : List ℕ) → eq_by_cmp line_cmp q e.0 ≡ true → find line_cmp q left ≡ None
    at_first q here = ap (λ p. find line_cmp p left) (exact_bytes q e.0 (is_equal (line_cmp q e.0) here)) ∙ none_below e.0 left (first _ _ h.order)

    either : (q : List ℕ) → option_or (find line_cmp q left) (cond (eq_by_cmp line_cmp q e.0) (Some e.1) (map.get notices q)) ≡ option_or (cond (eq_by_cmp line_cmp q e.0) (Some e.1) (find line_cmp q left)) (map.get notices q)
    either q = elim (eq_by_cmp line_cmp q e.0) as (λ b. eq_by_cmp line_cmp q e.0 ≡ b → option_or (find line_cmp q left) (cond b (Some e.1) (map.get notices q)) ≡ option_or (cond b (Some e.1) (find line_cmp q left)) (map.get notices q)) [
      | true ↦ λ here. ap (λ o. option_or o (Some e.1)) (at_first q here)
      | false ↦ λ _. refl
    ] refl

pub first_line : (e : List ℕ × Notice) (left : Entries) (notices all : NoticeMap) → AreToBeAdded (e ∷ left) notices all → e.0 ≡ notice_line e.1
first_line e left notices all h = All-head HasItsLine e left h.lines

pub all_added : (notices all : NoticeMap) → AreToBeAdded [] notices all → notices ≡ all
all_added notices all h = same_notices notices all h.same
