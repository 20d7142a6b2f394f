use Rattle.std.proofs.Common.{◌∷◌, ◌++◌, [], sym, ap, ◌∙◌, append_assoc}
use Rattle.std.proofs.lemmas.List.{append-nil}
use Rattle.std.proofs.lemmas.List.Elements.{filter_map-append}
use Rattle.load_path.specs.RealNames.{named}
use Rattle.states.proofs.Ordered.{names_again}
use Rattle.unit_lists.specs.Order.{last_name}
use Rattle.unit_lists.specs.UnitFiles.{names_of}
use Rattle.unit_lists.proofs.listing.names_in.Goals as goal

pub loop-text-preserved : goal.loop-text-preserved
loop-text-preserved c =
    ap (λ names. names ++ names_of c.next.new.self) c.in_ok-push_name.ensures
    ∙ append_assoc c.loop-text.names (names_of (c.in-Some.text ∷ [])) (names_of c.next.new.self)
    ∙ ap (λ names. c.loop-text.names ++ names) (sym (filter_map-append (λ text. named (last_name text)) (c.in-Some.text ∷ []) c.next.new.self))
    ∙ ap (λ texts. c.loop-text.names ++ names_of texts) (sym c.in-Some.ensures.steps)
    ∙ c.loop-text.invariant

pub returns : goal.returns
returns c =
    sym (append-nil c.loop-text.names) ∙ ap (λ texts. c.loop-text.names ++ names_of texts) (sym c.in-None.ensures.steps.0) ∙ c.loop-text.invariant
    ∙ ap names_of (c.into_iter-text-iterator.ensures.into_iter_gives.0 ∙ sym (names_again c.args.texts.keys c.into_iter-text-iterator.ensures.into_iter_gives.4))
