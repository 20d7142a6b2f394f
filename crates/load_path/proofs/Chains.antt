-- Chains of links: how they are followed, and how they are in a tree.
use Rattle.std.proofs.Common.{◌≡◌, ℕ, zero, suc, ◌+◌, ◌-◌, ◌<◌, ◌≤◌, true, false, cond, List, [], ◌∷◌, length, Option, Some, None, refl, sym, ap, subst, ◌∙◌, arith}
use Rattle.std.specs.FinMap as map
use Rattle.unit_paths.specs.Canonical.{canonical}
use Rattle.link_tree.specs.Trees.{Entries}
use Rattle.link_tree.specs.declared.entry.Entry.{Entry}
use Rattle.link_tree.specs.declared.entry.Entry.TheVariants as entries
use Rattle.load_path.specs.declared.following.End.{End}
use Rattle.load_path.specs.declared.following.End.TheVariants as ends
use Rattle.load_path.specs.declared.following.ChainEnd.TheVariants.{Null}
use Rattle.load_path.specs.Search.{over, look, ◌>>=◌}
use Rattle.load_path.specs.Follow.{is_null, at_file, by_entry, by_path, chain, end_of, followed, follow}
use Rattle.load_path.specs.Chains.{IsFileAt, LinksTo, Leads, EndsAt, LeadsTo}
use Rattle.load_path.specs.Laws.{FollowIsChain, FileIsLed}
use Rattle.load_path.specs.Chains.Leads.{Here, Onward}
use Rattle.load_path.specs.Chains.EndsAt.{AtNothing, AtFile, AtEmptyFile, AtNullLink, AtBadTarget, BeforeNothing, BeforeNinthLink}

-- where the chain that has reached a link ends
abbrev end_from : Entries → (links : ℕ) (last link target : List ℕ) → End
end_from t links last link target = end_of ((chain links last link target).conclusion t)

abbrev end_by_path : Entries → (links : ℕ) (link : List ℕ) → Option (List ℕ) → End
end_by_path t links link o = end_of ((by_path (chain links link) link o).conclusion t)

abbrev end_by_entry : Entries → (links : ℕ) (link next : List ℕ) → Option Entry → End
end_by_entry t links link next o = end_of ((by_entry (chain links link next) next link o).conclusion t)

-- a chain that ends at this path itself
ends-here : (t : Entries) (most : ℕ) (path : List ℕ) (end : End) → EndsAt t most path end → LeadsTo t most path end
ends-here t most path end ends = (zero, most, path, omega arith, Here path, ends)

-- one more link in front of a chain
ends-on : (t : Entries) (most : ℕ) (path next : List ℕ) (end : End) → LinksTo t path next → LeadsTo t most next end → LeadsTo t (suc most) path end
ends-on t most path next end links led = (suc led.0, led.1, led.2, (let count = led.3 in omega (arith, count)), Onward path next led.2 led.0 links led.4, led.5)

file-led : (t : Entries) (most : ℕ) (path link contents : List ℕ) → map.get t path ≡ Some (entries.File contents) → LeadsTo t most path (end_of (at_file contents path link))
file-led t most path link [] is = ends-here t most path ends.Null (AtEmptyFile is)
file-led t most path link (b ∷ bs) is = ends-here t most path (ends.File path) (AtFile (b ∷ bs, is, omega arith))

entry-led : (t : Entries) (links : ℕ) (link next : List ℕ) → LinksTo t link next
    → ((target : List ℕ) → map.get t next ≡ Some (entries.Link target) → LeadsTo t (suc links) link (end_from t links link next target))
    → (o : Option Entry) → map.get t next ≡ o → LeadsTo t (suc links) link (end_by_entry t links link next o)
entry-led t links link next linked goes None is = ends-here t (suc links) link (ends.Dangling link) (BeforeNothing next (omega arith) linked is)
entry-led t links link next linked goes (Some (entries.File contents)) is = ends-on t links link next (end_of (at_file contents next link)) linked (file-led t links next link contents is)
entry-led t links link next linked goes (Some (entries.Link target)) is = goes target is

path-led : (t : Entries) (links : ℕ) (link target : List ℕ) → map.get t link ≡ Some (entries.Link target)
    → ((next other : List ℕ) → LinksTo t link next → map.get t next ≡ Some (entries.Link other) → LeadsTo t (suc links) link (end_from t links link next other))
    → (o : Option (List ℕ)) → canonical link target ≡ o → LeadsTo t (suc links) link (end_by_path t links link o)
path-led t links link target is goes None leads = ends-here t (suc links) link (ends.Dangling link) (AtBadTarget (omega arith) (target, is, leads))
path-led t links link target is goes (Some next) leads =
    elim (is_null next) as (λ b. is_null next ≡ b → LeadsTo t (suc links) link (end_of ((cond b (over Null) (look next >>= by_entry (chain links link next) next link)).conclusion t))) [
      | true ↦ (λ null. ends-here t (suc links) link ends.Null (AtNullLink (omega arith) (target, next, is, leads, null)))
      | false ↦ (λ other. let linked : LinksTo t link next = (target, is, leads, other) in entry-led t links link next linked (λ other. goes next other linked) (map.get t next) refl)
    ] refl

ninth-led : (t : Entries) (link next target : List ℕ) → LinksTo t link next → map.get t next ≡ Some (entries.Link target) → LeadsTo t 1 link (end_from t 0 link next target)
unfolding chain
ninth-led t link next target linked is = ends-here t 1 link (ends.Dangling link) (BeforeNinthLink next refl linked (target, is))

chain-led : (t : Entries) (links : ℕ) (last link target : List ℕ) → map.get t link ≡ Some (entries.Link target) → LeadsTo t (suc links) link (end_from t (suc links) last link target)
unfolding chain
chain-led t zero last link target is = path-led t zero link target is (λ next other linked there. ninth-led t link next other linked there) (canonical link target) refl
chain-led t (suc links) last link target is =
    path-led t (suc links) link target is (λ next other linked there. ends-on t (suc links) link next (end_from t (suc links) link next other) linked (chain-led t links link next other there)) (canonical link target) refl

followed-led : (t : Entries) (path : List ℕ) (o : Option Entry) → map.get t path ≡ o → LeadsTo t 8 path ((followed path o).conclusion t)
followed-led t path None is = ends-here t 8 path ends.Missing (AtNothing refl is)
followed-led t path (Some (entries.File contents)) is = file-led t 8 path path contents is
followed-led t path (Some (entries.Link target)) is = chain-led t 7 path path target is

follow-led : (t : Entries) (path : List ℕ) → LeadsTo t 8 path ((follow path).conclusion t)
unfolding follow
follow-led t path = followed-led t path (map.get t path) refl

pub same-link : (one other : List ℕ) → Some (entries.Link one) ≡ Some (entries.Link other) → one ≡ other
same-link one other h = cc

same-path : (one other : List ℕ) → Some one ≡ Some other → one ≡ other
same-path one other h = cc

-- the end of a chain, by what is at the path that it has reached
nowhere-end : (t : Entries) (links : ℕ) (last link target : List ℕ) → canonical link target ≡ None → end_from t (suc links) last link target ≡ ends.Dangling link
unfolding chain
nowhere-end t links last link target leads = ap (end_by_path t links link) leads

null-end : (t : Entries) (links : ℕ) (last link target next : List ℕ) → canonical link target ≡ Some next → is_null next ≡ true → end_from t (suc links) last link target ≡ ends.Null
unfolding chain
null-end t links last link target next leads null =
    ap (end_by_path t links link) leads ∙ ap (λ b. end_of ((cond b (over Null) (look next >>= by_entry (chain links link next) next link)).conclusion t)) null

next-end : (t : Entries) (links : ℕ) (last link target next : List ℕ) → canonical link target ≡ Some next → is_null next ≡ false → end_from t (suc links) last link target ≡ end_by_entry t links link next (map.get t next)
unfolding chain
next-end t links last link target next leads other =
    ap (end_by_path t links link) leads ∙ ap (λ b. end_of ((cond b (over Null) (look next >>= by_entry (chain links link next) next link)).conclusion t)) other

-- if the link leads to another path, the chain goes on there
linked-end : (t : Entries) (links : ℕ) (last link target next : List ℕ) → map.get t link ≡ Some (entries.Link target) → LinksTo t link next → end_from t (suc links) last link target ≡ end_by_entry t links link next (map.get t next)
linked-end t links last link target next is linked =
    let same : linked.0 ≡ target = same-link linked.0 target (sym linked.1 ∙ is) in
    next-end t links last link target next (ap (canonical link) (sym same) ∙ linked.2) linked.3

none-left : (t : Entries) (links : ℕ) (last link target : List ℕ) → links ≡ 0 → end_from t links last link target ≡ ends.Dangling last
unfolding chain
none-left t links last link target none = ap (λ links. end_from t links last link target) none

-- a chain can't go on from a path at which nothing is
nothing-end : (t : Entries) (path last : List ℕ) (links more : ℕ) (end : End) → map.get t path ≡ None → Leads t path links last → EndsAt t more last end → (ends.Missing ≡ end) × (more ≡ 8)
nothing-end t path last links more end none (Here here) (AtNothing eight there) = (refl, eight)
nothing-end t path last links more end none (Here here) (AtFile file) = let there = file.1 in absurd (cc)
nothing-end t path last links more end none (Here here) (AtEmptyFile there) = absurd (cc)
nothing-end t path last links more end none (Here here) (AtNullLink some null) = let there = null.2 in absurd (cc)
nothing-end t path last links more end none (Here here) (AtBadTarget some bad) = let there = bad.1 in absurd (cc)
nothing-end t path last links more end none (Here here) (BeforeNothing next some linked away) = let there = linked.1 in absurd (cc)
nothing-end t path last links more end none (Here here) (BeforeNinthLink next one linked link) = let there = linked.1 in absurd (cc)
nothing-end t path last links more end none (Onward here next end_path rest linked leads) ends = let there = linked.1 in absurd (cc)

kept-file : (contents path link : List ℕ) → 0 < length contents → end_of (at_file contents path link) ≡ ends.File path
kept-file [] path link some = absurd (omega (arith, some))
kept-file (b ∷ bs) path link some = refl

same-file : (one other : List ℕ) → Some (entries.File one) ≡ Some (entries.File other) → one ≡ other
same-file one other h = cc

-- the chain ends at a file
file-end : (t : Entries) (path last contents link : List ℕ) (links more : ℕ) (end : End) → map.get t path ≡ Some (entries.File contents) → Leads t path links last → EndsAt t more last end → end_of (at_file contents path link) ≡ end
file-end t path last contents link links more end is (Here here) (AtNothing eight there) = absurd (cc)
file-end t path last contents link links more end is (Here here) (AtFile file) =
    let same : file.0 ≡ contents = same-file file.0 contents (sym file.1 ∙ is) in
    kept-file contents here link (subst (λ bytes. 0 < length bytes) same file.2)
file-end t path last contents link links more end is (Here here) (AtEmptyFile there) =
    let same : contents ≡ [] = same-file contents [] (sym is ∙ there) in
    ap (λ bytes. end_of (at_file bytes here link)) same
file-end t path last contents link links more end is (Here here) (AtNullLink some null) = let there = null.2 in absurd (cc)
file-end t path last contents link links more end is (Here here) (AtBadTarget some bad) = let there = bad.1 in absurd (cc)
file-end t path last contents link links more end is (Here here) (BeforeNothing next some linked away) = let there = linked.1 in absurd (cc)
file-end t path last contents link links more end is (Here here) (BeforeNinthLink next one linked other) = let there = linked.1 in absurd (cc)
file-end t path last contents link links more end is (Onward here next end_path rest linked leads) ends = let there = linked.1 in absurd (cc)

-- a link isn't the end if no more links may be followed
link-left : (t : Entries) (path last target : List ℕ) (links more : ℕ) (end : End) → map.get t path ≡ Some (entries.Link target) → Leads t path links last → EndsAt t more last end → links + more ≡ 0 → ⊥
link-left t path last target links more end is (Here here) (AtNothing eight there) none = absurd (cc)
link-left t path last target links more end is (Here here) (AtFile file) none = let there = file.1 in absurd (cc)
link-left t path last target links more end is (Here here) (AtEmptyFile there) none = absurd (cc)
link-left t path last target links more end is (Here here) (AtNullLink some null) none = omega (arith, some, none)
link-left t path last target links more end is (Here here) (AtBadTarget some bad) none = omega (arith, some, none)
link-left t path last target links more end is (Here here) (BeforeNothing next some linked away) none = omega (arith, some, none)
link-left t path last target links more end is (Here here) (BeforeNinthLink next one linked other) none = omega (arith, one, none)
link-left t path last target links more end is (Onward here next end_path rest linked leads) ends none = omega (arith, none)

-- a chain that ends at a link
link-end : (t : Entries) (links : ℕ) (last link target : List ℕ) (end : End) → map.get t link ≡ Some (entries.Link target) → EndsAt t (suc links) link end → end_from t (suc links) last link target ≡ end
link-end t links last link target end is (AtNothing eight there) = absurd (cc)
link-end t links last link target end is (AtFile file) = let there = file.1 in absurd (cc)
link-end t links last link target end is (AtEmptyFile there) = absurd (cc)
link-end t links last link target end is (AtNullLink some null) =
    let same : null.0 ≡ target = same-link null.0 target (sym null.2 ∙ is) in
    null-end t links last link target null.1 (ap (canonical link) (sym same) ∙ null.3) null.4
link-end t links last link target end is (AtBadTarget some bad) =
    let same : bad.0 ≡ target = same-link bad.0 target (sym bad.1 ∙ is) in
    nowhere-end t links last link target (ap (canonical link) (sym same) ∙ bad.2)
link-end t links last link target end is (BeforeNothing next some linked away) = linked-end t links last link target next is linked ∙ ap (end_by_entry t links link next) away
link-end t links last link target end is (BeforeNinthLink next one linked other) =
    linked-end t links last link target next is linked ∙ ap (end_by_entry t links link next) other.1 ∙ none-left t links link next other.0 (omega (arith, one))

entry-end : (t : Entries) (links : ℕ) (link next last : List ℕ) (done more : ℕ) (end : End) → links ≤ 7 → done + more ≡ links → Leads t next done last → EndsAt t more last end
    → ((target : List ℕ) → map.get t next ≡ Some (entries.Link target) → end_from t links link next target ≡ end)
    → (o : Option Entry) → map.get t next ≡ o → end_by_entry t links link next o ≡ end
entry-end t links link next last done more end few count leads ends goes None is = let none = (nothing-end t next last done more end is leads ends).1 in absurd (omega (arith, none, few, count))
entry-end t links link next last done more end few count leads ends goes (Some (entries.File contents)) is = file-end t next last contents link done more end is leads ends
entry-end t links link next last done more end few count leads ends goes (Some (entries.Link target)) is = goes target is

chain-end : (t : Entries) (links : ℕ) (before link target last : List ℕ) (done more : ℕ) (end : End) → links ≤ 7 → map.get t link ≡ Some (entries.Link target) → done + more ≡ suc links → Leads t link done last → EndsAt t more last end
    → end_from t (suc links) before link target ≡ end
chain-end t links before link target last done more end few is count (Here here) ends =
    let all : more ≡ suc links = omega (arith, count) in
    link-end t links before here target end is (subst (λ more. EndsAt t more here end) all ends)
chain-end t zero before link target last done more end few is count (Onward here next end_path rest linked leads) ends =
    let none : rest + more ≡ 0 = omega (arith, count) in
    linked-end t zero before here target next is linked
    ∙ entry-end t zero here next end_path rest more end few none leads ends (λ other there. absurd (link-left t next end_path other rest more end there leads ends none)) (map.get t next) refl
chain-end t (suc links) before link target last done more end few is count (Onward here next end_path rest linked leads) ends =
    let fewer : rest + more ≡ suc links = omega (arith, count) in
    linked-end t (suc links) before here target next is linked
    ∙ entry-end t (suc links) here next end_path rest more end few fewer leads ends (λ other there. chain-end t links here next other end_path rest more end (omega (arith, few)) there fewer leads ends) (map.get t next) refl

followed-end : (t : Entries) (path last : List ℕ) (links more : ℕ) (end : End) → links + more ≡ 8 → Leads t path links last → EndsAt t more last end → (o : Option Entry) → map.get t path ≡ o → (followed path o).conclusion t ≡ end
followed-end t path last links more end count leads ends None is = (nothing-end t path last links more end is leads ends).0
followed-end t path last links more end count leads ends (Some (entries.File contents)) is = file-end t path last contents path links more end is leads ends
followed-end t path last links more end count leads ends (Some (entries.Link target)) is = chain-end t 7 path path target last links more end (omega arith) is count leads ends

follow-end : (t : Entries) (path : List ℕ) (end : End) → LeadsTo t 8 path end → (follow path).conclusion t ≡ end
unfolding follow
follow-end t path end led = followed-end t path led.2 led.0 led.1 end led.3 led.4 led.5 (map.get t path) refl

pub follow_is_chain : FollowIsChain
follow_is_chain = λ path end t. (λ h. subst (LeadsTo t 8 path) h (follow-led t path), λ led. follow-end t path end led)

ends-file : (t : Entries) (more : ℕ) (last file : List ℕ) (end : End) → EndsAt t more last end → end ≡ ends.File file → (last ≡ file) × IsFileAt t last
ends-file t more last file end (AtNothing eight there) h = absurd (cc)
ends-file t more last file end (AtFile there) h = (cc, there)
ends-file t more last file end (AtEmptyFile there) h = absurd (cc)
ends-file t more last file end (AtNullLink some null) h = absurd (cc)
ends-file t more last file end (AtBadTarget some bad) h = absurd (cc)
ends-file t more last file end (BeforeNothing next some linked away) h = absurd (cc)
ends-file t more last file end (BeforeNinthLink next one linked other) h = absurd (cc)

pub file_is_led : FileIsLed
file_is_led = λ path file t. (
  λ h.
      let led = subst (LeadsTo t 8 path) h (follow-led t path) in
      let there = ends-file t led.1 led.2 file (ends.File file) led.5 refl in
      (led.0, (let count = led.3 in omega (arith, count)), subst (Leads t path led.0) there.0 led.4, subst (IsFileAt t) there.0 there.1),
  λ led. follow-end t path (ends.File file) (led.0, 8 - led.0, file, (let few = led.1 in omega (arith, few)), led.2, AtFile led.3),
)
