use Rattle.std.proofs.Common.{◌≡◌, ℕ, List, Option, Some, false, ap, sym, ◌∙◌}
use Rattle.std.specs.Str.{bytes_eq}
use Rattle.std.specs.FinMap as map
use Rattle.std.specs.Option.{option_map, option_copied}
use Rattle.std.specs.Ordering.{eq_by_cmp}
use Rattle.link_tree.specs.Trees.{path_cmp}
use Rattle.link_tree.specs.declared.entry.Entry.{Entry}
use Rattle.link_tree.specs.Pieces.{Item, behind, first_of, is_first}
use Rattle.link_tree.proofs.Aboves.{same_test}
use Rattle.link_tree.proofs.Changed.{same_bytes}
use Rattle.link_tree.proofs.Spots.{first_is}
use Rattle.link_tree.proofs.Becoming.{found_there, not_there, not_first}
use Rattle.link_tree.proofs.pieces.Pieces.placed.Goals.{in_default-via-in-Some+else-eq, in_default-via-in_default}
use Rattle.link_tree.proofs.pieces.Pieces.placed.Goals as goal

pub returns-in-Some : goal.returns-in-Some
returns-in-Some c =
    let path = c.args.path.now in
    let pieces = c.pieces-pieces.result.now in
    let spot = c.spot_of-spot.result in
    let items = behind pieces spot.piece spot.at in
    let item = c.in-Some.item.now in
    let first : first_of items ≡ Some item = sym c.in-Some.ensures in
    let taken = sym (first_is path item items first) ∙ ap (eq_by_cmp path_cmp path) (sym c.path.ensures) ∙ same_test path c.path.result.now ∙ sym c.eq.ensures ∙ c.if-eq.true in
    let stands : map.get c.args.self.now path ≡ Some item.1 = map.get-entries c.args.self.now path ∙ sym (ap (map.find path_cmp path) c.pieces-pieces.ensures.entries)
    ∙ found_there pieces c.pieces-pieces.ensures.order path spot.piece spot.at c.spot_of-spot.ensures taken ∙ ap (λ (o : Option Item). option_map (λ (item : Item). item.1) o) first in
    let at : item.0 ≡ path = same_bytes item.0 path (ap (λ p. bytes_eq p path) (sym c.path.ensures) ∙ sym c.eq.ensures ∙ c.if-eq.true) in
    ap (λ (p : List ℕ). Some (p, item.1)) at ∙ sym (ap (option_map (λ entry. (path, entry))) stands)

pub returns-in_default : goal.returns-in_default
returns-in_default c =
    let path = c.args.path.now in
    let pieces = c.pieces-pieces.result.now in
    let spot = c.spot_of-spot.result in
    let items = behind pieces spot.piece spot.at in
    let free : is_first path items ≡ false = elim c.in_default.branch [
      | in_default-via-in-Some+else-eq w ↦ sym (first_is path w.in-Some.item.now items (sym w.in-Some.ensures)) ∙ ap (eq_by_cmp path_cmp path) (sym w.path.ensures) ∙ same_test path w.path.result.now ∙ sym w.eq.ensures ∙ w.if-eq.false
      | in_default-via-in_default w ↦ not_first path items (sym c.item_at.ensures ∙ ap option_copied w.in_default.is)
    ] in
    sym (ap (option_map (λ (entry : Entry). (path, entry))) (map.get-entries c.args.self.now path ∙ sym (ap (map.find path_cmp path) c.pieces-pieces.ensures.entries)
    ∙ not_there pieces c.pieces-pieces.ensures.order path spot.piece spot.at c.spot_of-spot.ensures free))
