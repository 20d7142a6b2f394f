-- The line of a notice, cut at its spaces.
use Rattle.std.proofs.Common.{◌≡◌, ℕ, false, ◌==◌, if◌then◌else◌, List, [], ◌∷◌, ◌++◌, codes, drop, get_or, refl, sym, ap, ◌∙◌}
use Rattle.std.proofs.lemmas.Bool.{true≢false, or_parts, or_from}
use Rattle.std.proofs.lemmas.List.{append_assoc, append_cancel_right}
use Prim.Native.Char.{code}
use Rattle.unit_file.specs.declared.notice.Notice.{Notice}
use Rattle.unit_file.specs.declared.notice.NoticeKey.{NoticeKey}
use Rattle.unit_file.specs.declared.notice.NoticeKey.TheVariants as keys
use Rattle.unit_file.specs.declared.notice.Reason.{Reason}
use Rattle.unit_file.specs.declared.notice.Reason.TheVariants as reasons
use Rattle.unit_file.specs.Notices.{key_text, reason_text, notice_line}
use Rattle.notice_laws.specs.Lines.{has_space, NoTwoHaveOneLine}

-- what is before the first space, and what follows it
cut : (xs ys rest others : List ℕ) → has_space xs ≡ false → has_space ys ≡ false → xs ++ code " " ∷ rest ≡ ys ++ code " " ∷ others → (xs ≡ ys) × (rest ≡ others)
cut [] [] rest others one other is = (refl, cc)
cut [] (y ∷ ys) rest others one other is = let same : code " " ≡ y = cc in absurd (true≢false (ap (λ byte. byte == code " ") same ∙ (or_parts (y == code " ") (has_space ys) other).0))
cut (x ∷ xs) [] rest others one other is = let same : code " " ≡ x = cc in absurd (true≢false (ap (λ byte. byte == code " ") same ∙ (or_parts (x == code " ") (has_space xs) one).0))
cut (x ∷ xs) (y ∷ ys) rest others one other is =
    let first : x ≡ y = cc in
    let later : xs ++ code " " ∷ rest ≡ ys ++ code " " ∷ others = cc in
    let both = cut xs ys rest others (or_parts (x == code " ") (has_space xs) one).1 (or_parts (y == code " ") (has_space ys) other).1 later in
    (λ i. first i ∷ both.0 i, both.1)

with_colon : (xs : List ℕ) → has_space xs ≡ false → has_space (xs ++ codes ":") ≡ false
with_colon [] none = refl
with_colon (x ∷ xs) none = let parts = or_parts (x == code " ") (has_space xs) none in or_from (x == code " ") (has_space (xs ++ codes ":")) parts.0 (with_colon xs parts.1)

seam : (xs rest : List ℕ) → (xs ++ codes ":") ++ code " " ∷ rest ≡ xs ++ codes ": " ++ rest
seam xs rest = append_assoc xs (codes ":") (code " " ∷ rest) ∙ sym (append_assoc xs (codes ": ") rest)

-- a text, a colon and a space
cut_after_colon : (xs ys rest others : List ℕ) → has_space xs ≡ false → has_space ys ≡ false → xs ++ codes ": " ++ rest ≡ ys ++ codes ": " ++ others → (xs ≡ ys) × (rest ≡ others)
cut_after_colon xs ys rest others one other is =
    let both = cut (xs ++ codes ":") (ys ++ codes ":") rest others (with_colon xs one) (with_colon ys other)
    (seam xs rest ∙ is ∙ sym (seam ys others)) in
    (append_cancel_right xs ys (codes ":") both.0, both.1)

-- keys by their third letters
key_at : ℕ → NoticeKey
key_at letter =
    if letter == code "s" then keys.Also
    else if letter == code "n" then keys.WantedBy
    else if letter == code "q" then keys.RequiredBy
    else if letter == code "h" then keys.UpheldBy
    else if letter == code "i" then keys.Alias
    else keys.Preset

key_again : (key : NoticeKey) → key_at (get_or (key_text key) 2 0) ≡ key
unfolding key_at
key_again keys.Also = refl
key_again keys.WantedBy = refl
key_again keys.RequiredBy = refl
key_again keys.UpheldBy = refl
key_again keys.Alias = refl
key_again keys.Preset = refl

key_spaceless : (key : NoticeKey) → has_space (key_text key) ≡ false
key_spaceless keys.Also = refl
key_spaceless keys.WantedBy = refl
key_spaceless keys.RequiredBy = refl
key_spaceless keys.UpheldBy = refl
key_spaceless keys.Alias = refl
key_spaceless keys.Preset = refl

-- reasons by their sixth letters
reason_at : ℕ → Reason
reason_at letter =
    if letter == code "p" then reasons.BadSpecifier
    else if letter == code "a" then reasons.BadName
    else if letter == code "l" then reasons.BadAlias
    else if letter == code "o" then reasons.NotFound
    else if letter == code "d" then reasons.Masked
    else if letter == code "i" then reasons.Dangling
    else reasons.IsAlias

reason_again : (reason : Reason) → reason_at (get_or (reason_text reason) 5 0) ≡ reason
unfolding reason_at
reason_again reasons.BadSpecifier = refl
reason_again reasons.BadName = refl
reason_again reasons.BadAlias = refl
reason_again reasons.NotFound = refl
reason_again reasons.Masked = refl
reason_again reasons.Dangling = refl
reason_again reasons.IsAlias = refl

-- what follows the word, the key and the unit
abbrev after_word : Notice → List ℕ
after_word notice = reason_text notice.reason ++ codes "\n"

abbrev after_key : Notice → List ℕ
after_key notice = notice.word ++ codes ": " ++ after_word notice

abbrev after_unit : Notice → List ℕ
after_unit notice = key_text notice.key ++ codes " " ++ after_key notice

abbrev after_mark : Notice → List ℕ
after_mark notice = notice.unit ++ codes ": " ++ after_unit notice

two : (a b c d : List ℕ) → ((a ++ b) ++ c) ++ d ≡ a ++ ((b ++ c) ++ d)
two a b c d = ap (λ text. text ++ d) (append_assoc a b c) ∙ append_assoc a (b ++ c) d

line_is : (notice : Notice) → notice_line notice ≡ codes "  ! " ++ after_mark notice
line_is notice =
    let to_unit : List ℕ = codes "  ! " ++ notice.unit ++ codes ": " in
    let to_key : List ℕ = to_unit ++ key_text notice.key ++ codes " " in
    append_assoc (to_key ++ notice.word ++ codes ": ") (reason_text notice.reason) (codes "\n")
    ∙ two to_key notice.word (codes ": ") (after_word notice)
    ∙ two to_unit (key_text notice.key) (codes " ") (after_key notice)
    ∙ two (codes "  ! ") notice.unit (codes ": ") (after_unit notice)

pub no_two : NoTwoHaveOneLine
no_two one other first second is =
    let units = cut_after_colon one.unit other.unit (after_unit one) (after_unit other) first.unit second.unit (ap (drop 4) (sym (line_is one) ∙ is ∙ line_is other)) in
    let texts = cut (key_text one.key) (key_text other.key) (after_key one) (after_key other) (key_spaceless one.key) (key_spaceless other.key)
    (sym (append_assoc (key_text one.key) (codes " ") (after_key one)) ∙ units.1 ∙ append_assoc (key_text other.key) (codes " ") (after_key other)) in
    let words = cut_after_colon one.word other.word (after_word one) (after_word other) first.word second.word texts.1 in
    let key : one.key ≡ other.key = sym (key_again one.key) ∙ ap (λ text. key_at (get_or text 2 0)) texts.0 ∙ key_again other.key in
    let said : reason_text one.reason ≡ reason_text other.reason = append_cancel_right (reason_text one.reason) (reason_text other.reason) (codes "\n") words.1 in
    let reason : one.reason ≡ other.reason = sym (reason_again one.reason) ∙ ap (λ text. reason_at (get_or text 5 0)) said ∙ reason_again other.reason in
    λ i. record { unit = units.0 i; key = key i; word = words.0 i; reason = reason i }
