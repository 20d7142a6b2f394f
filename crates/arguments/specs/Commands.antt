-- The program's command, as clap sees it.
use Rattle.std.specs.Prelude.{Some, true, codes}
use Rattle.clap.specs.Words.{App, Rule, new_app, new_rule, with_rule}
use Rattle.clap.specs.Simple.{on_top}
use Rattle.clap.specs.declared.builder.ArgAction.TheVariants.{SetTrue}

-- the flag `--sessions`
abbrev pub sessions_flag : Rule
sessions_flag = record (new_rule (codes "sessions")) {
  long = Some (codes "sessions");
  action = Some SetTrue;
}

-- a command with only this flag, without help and version
abbrev pub unitadm_app : App
unitadm_app = with_rule (on_top (λ s. record s {
  disable_help_flag = true;
  disable_version_flag = true;
}) (new_app (codes "unitadm"))) sessions_flag
