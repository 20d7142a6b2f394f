use Rattle.std.proofs.Common.{◌+◌, All, drop, sym, subst}
use Rattle.std.proofs.lemmas.List.Elements.{All-cons}
use Rattle.link_tree.proofs.Rows.{drop_read}
use Rattle.tree_access.specs.Seeing.{StandsIn}
use Rattle.tree_access.proofs.seeing.each_stands.Goals as goal

pub loop-path-preserved : goal.loop-path-preserved
loop-path-preserved c rest =
    let S = StandsIn c.args.key.now c.args.tree.now c.args.other.now in
    let paths = c.args.paths.now in
    let i = c.loop-path.path-index in
    c.loop-path.invariant (subst (All S) (sym (drop_read paths i c.path-item.result c.loop-path-test.true c.path-item.is))
    (All-cons S c.path-item.result (drop (i + 1) paths) (c.stands_as_in.ensures.yes (cc (c.if-not-stands_as_in.false))) rest))
