-- Texts and objects as JSON.
use Rattle.std.specs.Prelude.{ℕ, List, if◌then◌else◌, codes, map}
use Rattle.std.specs.Str.{is_utf8}
use Rattle.hex.specs.Hex.{encode_lower}
use Rattle.serde_json.specs.Data.{Data, number, unsigned, string, array, object, Members, no_members, put}
use Rattle.serde_json.specs.View.{items_of}

-- the members with this one, instead of any that has its key
unfoldable pub with_member : Members → List ℕ → Data → Members
with_member ms key d = put key d ms

infixl 5 ◌with◌being◌
abbrev pub ◌with◌being◌ : Members → List ℕ → Data → Members
ms with key being d = with_member ms key d

-- a number
abbrev pub count : ℕ → Data
count n = number (unsigned n)

-- bytes that are no UTF-8: an object with their hexadecimal digits, two for each byte
abbrev pub bytes_data : List ℕ → Data
bytes_data bytes = object (no_members with codes "bytes" being string (encode_lower bytes))

-- A text is a string of the very same characters. If it isn't UTF-8, it is the object of its bytes,
-- so that nothing is lost, and no text is written in two ways.
abbrev pub text_data : List ℕ → Data
text_data text = if is_utf8 text then string text else bytes_data text

-- texts, in their order
abbrev pub texts_data : List (List ℕ) → Data
texts_data texts = array (items_of (map text_data texts))
