-- Paths on the host, of what is beneath a root: systemctl(1), --root.
use Rattle.std.specs.Prelude.{ℕ, if◌then◌else◌, List, [], ◌∷◌, ◌++◌}
use Rattle.unit_paths.specs.Paths.{is_slash}
use Rattle.root_runs.specs.Escapes.{shown}

-- one byte before a text, unless it is a slash and the end
abbrev pub before_end : ℕ → List ℕ → List ℕ
before_end b [] = if is_slash b then [] else b ∷ []
before_end b (c ∷ rest) = b ∷ c ∷ rest

-- a text without the slashes at its end
unfoldable pub without_slashes : List ℕ → List ℕ
without_slashes [] = []
without_slashes (b ∷ bs) = before_end b (without_slashes bs)

-- a path beneath a root as it is shown: nothing is put before it if the root is /
abbrev pub rooted : List ℕ → List ℕ → List ℕ
rooted root path = shown (without_slashes root) ++ shown path
