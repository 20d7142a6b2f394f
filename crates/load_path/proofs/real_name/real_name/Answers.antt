use Rattle.std.proofs.Common.{sym, ◌∙◌}
use Rattle.load_path.proofs.Names.{real_by_kinds}
use Rattle.load_path.proofs.real_name.real_name.Goals as goal

pub returns-then-is_same_type : goal.returns-then-is_same_type
returns-then-is_same_type c =
    let real = real_by_kinds c.args.name.now c.in-Ok.file c.args.file.now c.in-Ok.ensures.0 c.in-Ok.ensures.1 (sym c.is_same_type.ensures ∙ c.if-is_same_type.true) in
    rw (sym real) c.by_kinds.ensures
