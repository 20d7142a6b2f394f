use Rattle.kept_history.proofs.Lasting.{withdrawals_are_whole}
use Rattle.kept_history.proofs.laws.withdrawals_are_whole.Goals as goal

pub returns : goal.returns
returns c = withdrawals_are_whole
