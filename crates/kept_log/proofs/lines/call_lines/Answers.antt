use Rattle.std.proofs.Common.{◌≡◌, ◌-◌, ◌∙◌, ap, sym, map, drop, List, ℕ, Bor, rules}
use Rattle.std.specs.List.{filter}
use Rattle.std.proofs.lemmas.List.{drop-map}
use Rattle.std.proofs.lemmas.Result.{IfOk-weaker}
use Rattle.kept_texts.specs.Readings.{is_call}
use Rattle.kept_log.proofs.lines.call_lines.Goals as goal

now : Bor (List ℕ) → List ℕ
now line = line.now

pub returns : goal.returns
unfolding now
returns c =
    let n = c.args.first - 1 in
    let same : c.lines_after-after.result.now ≡ drop (c.args.first - 1) c.in_ok-lines.lines.items = search rules in
    IfOk-weaker c.calls_in.result _ _
    (λ calls is. is ∙ ap (filter is_call) (ap (map now) same ∙ sym (drop-map now n c.in_ok-lines.lines.items) ∙ ap (drop n) c.in_ok-lines.ensures))
    c.calls_in.ensures
