use Rattle.std.proofs.Common.{ℕ, List, cond, sym, ap, ◌∙◌, subst}
use Rattle.std.specs.Option.{option_copied}
use Rattle.std.specs.Str.{bytes_eq}
use Rattle.unit_paths.specs.Paths.{name_at}
use Rattle.name_lists.specs.Lists.{listed}
use Rattle.link_tree.specs.Trees.{set_entry}
use Rattle.link_tree.specs.Belonging.{belonging, IsListed}
use Rattle.link_tree.proofs.Listings.{nothing_changes, all_relisted}
use Rattle.link_tree.proofs.names.names_after.Goals as goal

pub returns-then-not-may_belong-2 : goal.returns-then-not-may_belong-2
returns-then-not-may_belong-2 c m stood listing =
    subst (IsListed c.args.scope (set_entry m c.args.path.now (option_copied c.args.after))) (sym c.in_ok-next.ensures.cases)
    (nothing_changes c.args.scope c.args.lists.now m c.args.path.now (option_copied c.args.before) (option_copied c.args.after) stood listing
    (sym c.may_belong.ensures ∙ c.if-not-may_belong.true)
    (sym c.may_belong-then-not-may_belong.ensures ∙ c.if-not-may_belong-2.true))

pub returns : goal.returns
returns c m stood listing =
    let scope = c.args.scope in
    let p = c.args.path.now in
    let was = option_copied c.args.before in
    let now = option_copied c.args.after in
    let new : List ℕ → List (List ℕ) = λ t. belonging scope t (set_entry m p now) in
    all_relisted scope m p was now c.args.lists.now c.relist.new.next c.relist_end.new.next c.relist_end-2.new.next stood listing
    (λ t. c.in_ok-relist.ensures m listing t ∙ ap (λ (n : List ℕ). cond (bytes_eq t n) (new t) (listed c.in_ok-next.next t)) c.file_name.ensures ∙ ap (λ lists. cond (bytes_eq t (name_at p)) (new t) (listed lists t)) c.in_ok-next.ensures.cases)
    (λ t. c.in_ok-relist_end.ensures m listing t)
    (λ t. c.in_ok-relist_end-2.ensures m listing t)
