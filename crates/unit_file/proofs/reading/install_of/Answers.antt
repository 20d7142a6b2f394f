use Rattle.unit_file.proofs.Sizes.{short_file}
use Rattle.unit_file.proofs.reading.install_of.Goals as goal

pub returns-then-has_long_line-clause-small : goal.returns-then-has_long_line-clause-small
returns-then-has_long_line-clause-small c = short_file c.args.bytes.now
