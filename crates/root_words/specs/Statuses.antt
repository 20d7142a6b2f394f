-- The status with which a program ends if its words aren't read.
use Rattle.std.specs.Prelude.{ℕ}
use Rattle.clap.specs.Values.{kind_of}
use Rattle.clap.specs.declared.error.Error.{Error}
use Rattle.clap.specs.declared.error.kind.ErrorKind.{ErrorKind}
use Rattle.clap.specs.declared.error.kind.ErrorKind.TheVariants as kind
use Rattle.root_words.specs.declared.words_error.WordsError.{WordsError}
use Rattle.root_words.specs.declared.words_error.WordsError.TheVariants.{Clap, Refused, OutOfMemory}

-- clap's errors: help and the version are none, and the rest are bad words
abbrev pub status_of_kind : ErrorKind → ℕ
status_of_kind kind.DisplayHelp = 0
status_of_kind kind.DisplayVersion = 0
status_of_kind kind.OutOfMemory = 1
status_of_kind k = 2

abbrev pub status_of : WordsError → ℕ
status_of (Clap e) = status_of_kind (kind_of e)
status_of (Refused sentence) = 2
status_of OutOfMemory = 1

-- clap's error as one of ours: out of memory has a case of its own
abbrev pub of_kind : ErrorKind → Error → WordsError
of_kind kind.OutOfMemory e = OutOfMemory
of_kind k e = Clap e

abbrev pub of_clap : Error → WordsError
of_clap e = of_kind (kind_of e) e
