use Rattle.std.proofs.Common.{◌≡◌, ◌≤◌, Bool, true, false, not, [], length, refl, sym, ◌∙◌, arith}
use Rattle.link_tree.proofs.Rows.{index_found}
use Rattle.link_tree.proofs.Ends.{first_from}
use Rattle.link_tree.proofs.pieces.is_first_from.Goals as goal

pub returns-in-Some : goal.returns-in-Some
returns-in-Some c from =
    let pieces = c.args.pieces.now in
    let found = c.in-Some.found.now in
    let is = index_found pieces c.args.piece found [] c.in-Some.ensures.lookup.3.0 (sym (c.in-Some.ensures.lookup.3.1 [])) in
    let upto : c.args.piece ≤ length pieces = search arith in
    first_from c.args.path.now pieces c.requires c.args.piece upto (c.earlier_end_before.ensures c.if-not-earlier_end_before.false) (λ inside. (found, is, sym c.ends_before.ensures ∙ off _ from))
  where
    off : (b : Bool) → not b ≡ true → b ≡ false
    off true is = cc
    off false is = refl
