use Rattle.script_words.proofs.EscapedTexts.{escaped_is_read, escaped_is_word}
use Rattle.script_words.proofs.laws.any_text_is_a_word.Goals as goal

pub returns-clause-read : goal.returns-clause-read
returns-clause-read c = escaped_is_read

pub returns-clause-word : goal.returns-clause-word
returns-clause-word c = escaped_is_word
