use Rattle.std.proofs.Common.{◌≡◌, drop}
use Rattle.install_section.specs.Wishes.{words_for}
use Rattle.install_section.specs.Wanted.{with_words}
use Rattle.install_section.proofs.wants.Wants.add_list.Given as goal

abbrev pub invariant-loop-word : goal.invariant-loop-word
invariant-loop-word l =
    with_words l.place l.skip l.unit l.identity l.section.file l.key (drop l.word-index l.words) l.self
    ≡ with_words l.place l.skip l.unit l.identity l.section.file l.key (words_for l.key l.section.text) l.fn.self
