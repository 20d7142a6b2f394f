use Rattle.std.proofs.Common.{◌≡◌, ℕ, List, true, Err, sym, ◌∙◌}
use Rattle.std.proofs.lemmas.Bool.{false≢true}
use Rattle.unit_file.specs.declared.fault.InstallFault.{InstallFault}
use Rattle.unit_file.specs.declared.fault.InstallFault.TheVariants.{LineTooLong}
use Rattle.unit_file.specs.declared.fault.InstallError.TheVariants.{Bad}
use Rattle.unit_file.specs.Reading.{Reads, has_long_line}
use Rattle.install_section.proofs.section.text_in.Goals as goal

too_long : (bytes : List ℕ) (fault : InstallFault) → Reads bytes (Err (Bad fault)) → has_long_line bytes ≡ true
too_long bytes LineTooLong reads = reads

pub unreachable-requires : goal.unreachable-requires
unreachable-requires c =
    let reads = rw c.in-Err-Bad-LineTooLong.field-0-is at c.in-Err-Bad-LineTooLong.ensures.read in
    false≢true (sym (c.install_of.ensures.small c.bytes_in.ensures.few) ∙ too_long c.bytes_in.result.now c.in-Err-Bad-LineTooLong.field-0-0 reads)
