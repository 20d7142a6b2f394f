use Rattle.std.proofs.Common.{◌++◌, ◌∷◌, ℕ, List, [], cond, sym, ap, ◌∙◌, Some}
use Rattle.std.specs.Str.{bytes_eq}
use Rattle.name_lists.specs.Lists.{listed}
use Rattle.link_tree.specs.Belonging.{may_belong}
use Rattle.link_tree.proofs.Listings.{none_listed, listed_once, listed_both}
use Rattle.link_tree.proofs.names.list_item.Goals as goal

pub returns-in_default : goal.returns-in_default
returns-in_default c text =
    let l = listed c.args.lists.now text in
    none_listed c.args.scope text c.args.path.now c.args.entry.now (l ++ c.args.path.now ∷ []) l (ap (λ e. may_belong c.args.scope c.args.path.now (Some e)) c.in_default.is)

pub returns-then-not-may_belong : goal.returns-then-not-may_belong
returns-then-not-may_belong c text =
    let l = listed c.args.lists.now text in
    none_listed c.args.scope text c.args.path.now c.args.entry.now (l ++ c.args.path.now ∷ []) l (sym c.may_belong.ensures ∙ c.if-not-may_belong.true)

pub returns-in_default-other_name : goal.returns-in_default-other_name
returns-in_default-other_name c text =
    let l = listed c.args.lists.now text in
    let path = c.args.path.now in
    let more : List (List ℕ) → List (List ℕ) = λ paths. paths ++ path ∷ [] in
    c.in_ok-list_under.ensures text ∙ ap (λ (n : List ℕ). cond (bytes_eq text n) (more l) l) c.file_name.ensures
    ∙ listed_once c.args.scope text path c.in-Link.target c.args.entry.now c.in-Link.is (sym c.may_belong.ensures ∙ c.if-not-may_belong.false) more l (sym c.in_default-other_name.ensures)

pub returns : goal.returns
returns c text =
    let l = listed c.args.lists.now text in
    let path = c.args.path.now in
    let more : List (List ℕ) → List (List ℕ) = λ paths. paths ++ path ∷ [] in
    c.in_ok-list_under-2.ensures text
    ∙ ap (λ k. cond (bytes_eq text c.in-Some.name.now) (more k) k) (c.in_ok-list_under.ensures text ∙ ap (λ (n : List ℕ). cond (bytes_eq text n) (more l) l) c.file_name.ensures)
    ∙ listed_both c.args.scope text path c.in-Link.target c.args.entry.now c.in-Link.is (sym c.may_belong.ensures ∙ c.if-not-may_belong.false) more l c.in-Some.name.now (sym c.in-Some.ensures)
