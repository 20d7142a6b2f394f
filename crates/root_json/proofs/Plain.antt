-- Data without floats that nest so deep at most: each has one text, and reads back.
use Rattle.std.proofs.Common.{◌≡◌, ℕ, ◌+◌, ◌≤◌, Bool, true, false, ◌||◌, List, [], ◌∷◌, ◌++◌, map, codes, Result, OnOk, sym, ap, subst, ◌∙◌, refl, arith, Ordering, Less, Equal, Greater, nat_cmp}
use Rattle.std.proofs.lemmas.Result.{IfOk-weaker}
use Rattle.std.specs.Cmp.Lexicographic.{slice_cmp}
use Rattle.std.specs.Ordering.{match_ordering}
use Rattle.std.specs.Str.{is_utf8}
use Rattle.hex.specs.Hex.{encode_lower}
use Rattle.serde_json.specs.Data.{Data, null, boolean, string, array, object, Members, no_members, member, put, depth, items_depth, members_depth}
use Rattle.serde_json.specs.Read.{read}
use Rattle.serde_json.specs.Written.{compact_text, has_float, items_have_float, members_have_float}
use Rattle.serde_json.specs.View.{items_of}
use Rattle.root_json.specs.Lines.{AddsLine, AddsTextOf}
use Rattle.root_json.specs.Objects.{with_member, count, bytes_data, text_data, texts_data}

pub record IsPlain (n : ℕ) (d : Data) : Type 0 where
  pub no_float : has_float d ≡ false
  pub shallow : depth d ≤ n

pub record ArePlain (n : ℕ) (ms : Members) : Type 0 where
  pub no_float : members_have_float ms ≡ false
  pub shallow : members_depth ms ≤ n

neither : (a b : Bool) → a ≡ false → b ≡ false → (a || b) ≡ false
neither true b h i = h
neither false b h i = i

plain_at : (n : ℕ) (o : Ordering) (k l : List ℕ) (d e : Data) (ms more : Members) → IsPlain n d → IsPlain n e → ArePlain n ms → ArePlain n more
    → ArePlain n (match_ordering o (member k d (member l e ms)) (member l d ms) (member l e more))
plain_at n Less k l d e ms more one other those these = record {
  no_float = neither _ _ one.no_float (neither _ _ other.no_float those.no_float);
  shallow = omega (arith, one.shallow, other.shallow, those.shallow);
}
plain_at n Equal k l d e ms more one other those these = record {
  no_float = neither _ _ one.no_float those.no_float;
  shallow = omega (arith, one.shallow, those.shallow);
}
plain_at n Greater k l d e ms more one other those these = record {
  no_float = neither _ _ other.no_float these.no_float;
  shallow = omega (arith, other.shallow, these.shallow);
}

left_of : (a b : Bool) → (a || b) ≡ false → a ≡ false
left_of true b h = h
left_of false b h = refl

right_of : (a b : Bool) → (a || b) ≡ false → b ≡ false
right_of true b h = absurd (cc)
right_of false b h = h

first_of_members : (n : ℕ) (l : List ℕ) (e : Data) (ms : Members) → ArePlain n (member l e ms) → IsPlain n e
first_of_members n l e ms h = record { no_float = left_of _ _ h.no_float; shallow = omega (arith, h.shallow) }

rest_of_members : (n : ℕ) (l : List ℕ) (e : Data) (ms : Members) → ArePlain n (member l e ms) → ArePlain n ms
rest_of_members n l e ms h = record { no_float = right_of (has_float e) _ h.no_float; shallow = omega (arith, h.shallow) }

pub none_plain : (n : ℕ) → ArePlain n no_members
none_plain n = record { no_float = refl; shallow = omega arith }

put_plain : (n : ℕ) (k : List ℕ) (d : Data) (ms : Members) → IsPlain n d → ArePlain n ms → ArePlain n (put k d ms)
put_plain n k d no_members one those = record { no_float = neither _ _ one.no_float refl; shallow = omega (arith, one.shallow) }
put_plain n k d (member l e ms) one those =
    let rest = rest_of_members n l e ms those in
    plain_at n (slice_cmp nat_cmp k l) k l d e ms (put k d ms) one (first_of_members n l e ms those) rest (put_plain n k d ms one rest)

pub member_plain : (n : ℕ) (ms : Members) (k : List ℕ) (d : Data) → ArePlain n ms → IsPlain n d → ArePlain n (with_member ms k d)
unfolding with_member
member_plain n ms k d those one = put_plain n k d ms one those

pub object_plain : (n m : ℕ) (ms : Members) → n + 1 ≤ m → ArePlain n ms → IsPlain m (object ms)
object_plain n m ms fits those = record { no_float = those.no_float; shallow = omega (arith, fits, those.shallow) }

pub deeper : (n m : ℕ) (d : Data) → n ≤ m → IsPlain n d → IsPlain m d
deeper n m d fits one = record { no_float = one.no_float; shallow = omega (arith, fits, one.shallow) }

pub null_plain : (n : ℕ) → IsPlain n null
null_plain n = record { no_float = refl; shallow = omega arith }

pub boolean_plain : (n : ℕ) (b : Bool) → IsPlain n (boolean b)
boolean_plain n b = record { no_float = refl; shallow = omega arith }

pub count_plain : (n k : ℕ) → IsPlain n (count k)
count_plain n k = record { no_float = refl; shallow = omega arith }

pub string_plain : (n : ℕ) (s : List ℕ) → IsPlain n (string s)
string_plain n s = record { no_float = refl; shallow = omega arith }

bytes_plain : (n : ℕ) (s : List ℕ) → IsPlain (n + 1) (bytes_data s)
bytes_plain n s = object_plain n (n + 1) _ (omega arith) (member_plain n _ _ _ (none_plain n) (string_plain n (encode_lower s)))

pub text_plain : (n : ℕ) (s : List ℕ) → IsPlain (n + 1) (text_data s)
text_plain n s =
    elim (is_utf8 s) as (λ b. is_utf8 s ≡ b → IsPlain (n + 1) (text_data s)) [
      | true ↦ λ valid. rw valid (string_plain (n + 1) s)
      | false ↦ λ invalid. rw invalid (bytes_plain n s)
    ] refl

-- a list of data, each made of an element
items_no_float : {A : Type 0} (n : ℕ) (f : A → Data) (xs : List A) → ((x : A) → IsPlain n (f x)) → items_have_float (items_of (map f xs)) ≡ false
items_no_float n f [] each = refl
items_no_float n f (x ∷ xs) each = neither _ _ (each x).no_float (items_no_float n f xs each)

items_shallow : {A : Type 0} (n : ℕ) (f : A → Data) (xs : List A) → ((x : A) → IsPlain n (f x)) → items_depth (items_of (map f xs)) ≤ n
items_shallow n f [] each = omega arith
items_shallow n f (x ∷ xs) each =
    let here = (each x).shallow in
    let rest = items_shallow n f xs each in
    omega (arith, here, rest)

pub array_plain : {A : Type 0} (n m : ℕ) (f : A → Data) (xs : List A) → n + 1 ≤ m → ((x : A) → IsPlain n (f x)) → IsPlain m (array (items_of (map f xs)))
array_plain n m f xs fits each = record {
  no_float = items_no_float n f xs each;
  shallow = let rest = items_shallow n f xs each in omega (arith, fits, rest);
}

pub texts_plain : (n : ℕ) (texts : List (List ℕ)) → IsPlain (n + 2) (texts_data texts)
texts_plain n texts = array_plain (n + 1) (n + 2) text_data texts (omega arith) (text_plain n)

-- a line of plain data has their one text, and reads back
plain_line : (d : Data) (old new : List ℕ) → IsPlain 5 d → AddsTextOf d old new → AddsLine d old new
plain_line d old new plain added =
    let same : added.0 ≡ compact_text d = added.2 plain.no_float in
    let shallow = plain.shallow in
    (added.1 ∙ ap (λ text. old ++ (text ++ codes "\n")) same, ap read (sym same) ∙ added.3 (omega (arith, shallow)))

pub adds_line : {T E : Type 0} (r : Result T E) (v d : Data) (old new : List ℕ) → v ≡ d → IsPlain 5 d → OnOk r (AddsTextOf v old new) → OnOk r (AddsLine d old new)
adds_line r v d old new is plain = IfOk-weaker r _ _ (λ _ added. plain_line d old new plain (subst (λ e. AddsTextOf e old new) is added))
