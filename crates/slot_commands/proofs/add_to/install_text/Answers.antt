use Rattle.std.proofs.Common.{◌≡◌, ◌≤◌, ℕ, List, length, true, Err, sym, ◌∙◌}
use Rattle.std.proofs.lemmas.Bool.{false≢true, leb-true}
use Rattle.unit_file.specs.declared.fault.TheConstants.{MAX_LINE}
use Rattle.unit_file.specs.declared.fault.InstallFault.{InstallFault}
use Rattle.unit_file.specs.declared.fault.InstallFault.TheVariants.{LineTooLong}
use Rattle.unit_file.specs.declared.fault.InstallError.TheVariants.{Bad}
use Rattle.unit_file.specs.Reading.{Reads, has_long_line}
use Rattle.link_tree.specs.Files.{is_contents}
use Rattle.slot_commands.proofs.add_to.install_text.Goals as goal

too_long : (bytes : List ℕ) (fault : InstallFault) → Reads bytes (Err (Bad fault)) → has_long_line bytes ≡ true
too_long bytes LineTooLong reads = reads

-- a file of a tree has no line that is too long
short : (bytes : List ℕ) → is_contents bytes ≡ true → length bytes ≤ MAX_LINE
unfolding is_contents
short bytes is = leb-true (length bytes) MAX_LINE is

pub unreachable-requires : goal.unreachable-requires
unreachable-requires c =
    let reads = rw c.in-Err-Bad-LineTooLong.field-0-is at c.in-Err-Bad-LineTooLong.ensures.read in
    let bytes : is_contents c.bytes.result.now ≡ true = (λ i. is_contents (c.bytes.ensures.bytes i)) ∙ c.bytes.ensures.contents in
    false≢true (sym (c.install_of.ensures.small (short c.bytes.result.now bytes)) ∙ too_long c.bytes.result.now c.in-Err-Bad-LineTooLong.field-0-0 reads)
