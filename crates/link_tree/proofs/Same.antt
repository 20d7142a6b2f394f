-- Equal entries.
use Rattle.std.proofs.Common.{◌≡◌, ap}
use Rattle.std.specs.Bool.{Decides}
use Rattle.std.proofs.lemmas.Bool.{false≢true}
use Rattle.std.proofs.lemmas.Slice.Eq.{bytes_eq-Decides}
use Rattle.link_tree.specs.declared.entry.Entry.{Entry}
use Rattle.link_tree.specs.declared.entry.Entry.TheVariants.{File, Link}
use Rattle.link_tree.specs.Values.{bytes_of, same_entry}

-- the test is true exactly if two entries are equal
pub same_entries : (one other : Entry) → Decides (same_entry one other) (one ≡ other)
same_entries (File one) (File other) = (λ same. ap File ((bytes_eq-Decides one other).0 same), λ equal. (bytes_eq-Decides one other).1 (ap bytes_of equal))
same_entries (Link one) (Link other) = (λ same. ap Link ((bytes_eq-Decides one other).0 same), λ equal. (bytes_eq-Decides one other).1 (ap bytes_of equal))
same_entries (File one) (Link other) = (λ same. absurd (false≢true same), λ equal. absurd (cc))
same_entries (Link one) (File other) = (λ same. absurd (false≢true same), λ equal. absurd (cc))
