use Rattle.std.proofs.Common.{◌≡◌, ◌≤◌, ℕ, List, length, true, ap, ◌∙◌}
use Rattle.std.proofs.lemmas.Bool.{leb-true}
use Rattle.link_tree.specs.Files.{is_contents}
use Rattle.install_section.proofs.section.bytes_in.Goals as goal

few : (bytes : List ℕ) → is_contents bytes ≡ true → length bytes ≤ 1048576
unfolding is_contents
few bytes is = leb-true (length bytes) 1048576 is

pub returns-in-Some-File-clause-few : goal.returns-in-Some-File-clause-few
returns-in-Some-File-clause-few c = few c.bytes.result.now (ap is_contents c.bytes.ensures.bytes ∙ c.bytes.ensures.contents)
