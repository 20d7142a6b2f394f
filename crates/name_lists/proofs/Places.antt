-- The list of a name in its place, after the list of one name was changed.
use Rattle.std.proofs.Common.{◌≡◌, ◌<◌, ℕ, Bool, true, false, cond, ◌&&◌, List, [], length, refl, sym, ap, ◌∙◌, inl, inr}
use Rattle.std.specs.Prelude.{◌==◌, slice_index_or, slice_set}
use Rattle.std.specs.Str.{bytes_eq}
use Rattle.std.proofs.lemmas.Bool.{cases_Bool, eq-eqb}
use Rattle.std.proofs.lemmas.Slice.Eq.{bytes_eq-Decides}
use Rattle.name_lists.specs.Lists.{Bucketful, Shelves, list_in, list_on, list_at, listed, shelf_of, bucket_of}
use Rattle.name_lists.proofs.Rows.{written_as, own_place}

and_is : (a b : Bool) → cond a b false ≡ (a && b)
and_is true b = refl
and_is false b = refl

-- A bucket was changed, on a shelf that begins as before.
pub on_shelf : (old grown : List Bucketful) (i : ℕ) (new : Bucketful) (name : List ℕ) (h : List (List ℕ) → List (List ℕ)) → i < length grown → ((k : ℕ) → slice_index_or grown k [] ≡ slice_index_or old k []) → ((text : List ℕ) → list_in new text ≡ cond (bytes_eq text name) (h (list_in (slice_index_or grown i []) text)) (list_in (slice_index_or grown i []) text)) → (k : ℕ) (text : List ℕ) → list_on (slice_set grown i new) k text ≡ cond (k == i && bytes_eq text name) (h (list_on old k text)) (list_on old k text)
on_shelf old grown i new name h within same is k text =
    written_as (λ bucket. list_in bucket text) grown i new [] within k
    ∙ ap (λ l. cond (k == i) l (list_on grown k text)) (is text)
    ∙ own_place (λ bucket. list_in bucket text) h (bytes_eq text name) grown [] i k
    ∙ ap (λ b. cond b (h (list_on grown k text)) (list_on grown k text)) (and_is (k == i) (bytes_eq text name))
    ∙ ap (λ bucket. cond (k == i && bytes_eq text name) (h (list_in bucket text)) (list_in bucket text)) (same k)

-- A shelf was changed.
pub among_shelves : (old grown : Shelves) (i bucket : ℕ) (new : List Bucketful) (name : List ℕ) (h : List (List ℕ) → List (List ℕ)) → i < length grown → ((j : ℕ) → slice_index_or grown j [] ≡ slice_index_or old j []) → ((k : ℕ) (text : List ℕ) → list_on new k text ≡ cond (k == bucket && bytes_eq text name) (h (list_on (slice_index_or grown i []) k text)) (list_on (slice_index_or grown i []) k text)) → (j k : ℕ) (text : List ℕ) → list_at (slice_set grown i new) j k text ≡ cond (j == i && (k == bucket && bytes_eq text name)) (h (list_at old j k text)) (list_at old j k text)
among_shelves old grown i bucket new name h within same is j k text =
    written_as (λ shelf. list_on shelf k text) grown i new [] within j
    ∙ ap (λ l. cond (j == i) l (list_at grown j k text)) (is k text)
    ∙ own_place (λ shelf. list_on shelf k text) h (k == bucket && bytes_eq text name) grown [] i j
    ∙ ap (λ b. cond b (h (list_at grown j k text)) (list_at grown j k text)) (and_is (j == i) (k == bucket && bytes_eq text name))
    ∙ ap (λ shelf. cond (j == i && (k == bucket && bytes_eq text name)) (h (list_on shelf k text)) (list_on shelf k text)) (same j)

no_more : (b : Bool) → (b && false) ≡ false
no_more true = refl
no_more false = refl

-- a name is stored at its own place
at_home : (text name : List ℕ) → (shelf_of text == shelf_of name && (bucket_of text == bucket_of name && bytes_eq text name)) ≡ bytes_eq text name
at_home text name = elim (cases_Bool (bytes_eq text name)) [
  | inl here ↦ ap (λ (t : List ℕ). shelf_of t == shelf_of name && (bucket_of t == bucket_of name && bytes_eq text name)) ((bytes_eq-Decides text name).0 here)
      ∙ ap (λ b. b && (bucket_of name == bucket_of name && bytes_eq text name)) (eq-eqb (shelf_of name) (shelf_of name) refl)
      ∙ ap (λ b. b && bytes_eq text name) (eq-eqb (bucket_of name) (bucket_of name) refl)
  | inr away ↦ ap (λ b. shelf_of text == shelf_of name && (bucket_of text == bucket_of name && b)) away
      ∙ ap (λ b. shelf_of text == shelf_of name && b) (no_more (bucket_of text == bucket_of name))
      ∙ no_more (shelf_of text == shelf_of name)
      ∙ sym away
]

pub at_its_place : (old new : Shelves) (name : List ℕ) (h : List (List ℕ) → List (List ℕ)) → ((j k : ℕ) (text : List ℕ) → list_at new j k text ≡ cond (j == shelf_of name && (k == bucket_of name && bytes_eq text name)) (h (list_at old j k text)) (list_at old j k text)) → (text : List ℕ) → listed new text ≡ cond (bytes_eq text name) (h (listed old text)) (listed old text)
unfolding listed
at_its_place old new name h is text =
    is (shelf_of text) (bucket_of text) text
    ∙ ap (λ b. cond b (h (list_at old (shelf_of text) (bucket_of text) text)) (list_at old (shelf_of text) (bucket_of text) text)) (at_home text name)
