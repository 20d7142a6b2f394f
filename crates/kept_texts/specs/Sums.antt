-- Sums: SHA-256, FIPS 180-4.
use Rattle.std.specs.Prelude.{ℕ, List, ◌++◌, codes}
use Rattle.hex.specs.Hex.{encode_lower}
use Rattle.sha2.specs.Sha256.{sha256}
use Rattle.kept_texts.specs.declared.sums.Sum.{Sum}

abbrev pub sum_of : List ℕ → Sum
sum_of bytes = record { bytes = sha256 bytes }

-- the sum of a run with this text, after the sum of what comes before it
abbrev pub next_sum : Sum → List ℕ → Sum
next_sum before text = sum_of (before.bytes ++ text)

-- how a sum is written
unfoldable pub sum_words : Sum → List ℕ
sum_words sum = codes "sha256:" ++ encode_lower sum.bytes
