-- In whose name calls are made if the command line doesn't say it.
use Rattle.std.specs.Prelude.{ℕ, List, if◌then◌else◌, codes}
use Rattle.history.specs.Operators.{is_operator}

-- a name, if it is an operator's, else another
abbrev pub operator_or : List ℕ → List ℕ → List ℕ
operator_or name other = if is_operator name then name else other

-- the operator who is logged in, by SUDO_USER and LOGNAME
abbrev pub login_operator : (sudo_user : List ℕ) → (logname : List ℕ) → List ℕ
login_operator sudo_user logname = operator_or sudo_user (operator_or logname (codes "root"))
