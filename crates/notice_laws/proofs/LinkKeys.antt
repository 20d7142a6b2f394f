-- The lists whose words ask for links, by the keys of their notices: `install_section` keeps the enum
-- of these lists to itself.
use Rattle.std.proofs.Common.{◌≡◌, ℕ, Bool, false, List, [], Some, refl}
use native.Mathlib.Omega.{arith}
use Rattle.unit_file.specs.declared.install.InstallText.{InstallText}
use Rattle.unit_file.specs.declared.notice.NoticeKey.TheVariants as keys
use Rattle.unit_paths.specs.declared.place.Place.{Place}
use Rattle.unit_paths.specs.declared.place.Place.TheVariants.{Etc}
use Rattle.unit_paths.specs.declared.slot.Dependency.TheVariants.{Wants, Requires, Upholds}
use Rattle.install_section.specs.declared.section.Section.{Section}
use Rattle.install_section.specs.Wanted.{no_wants, settled, with_list, with_section}
use Rattle.install_section.specs.Wishes.{aliasing, listing, notice_key, wish, words_for}
use Rattle.install_section.specs.Words.{named_by}
use Rattle.notice_laws.proofs.Private.{Given}

abbrev pub LinkKey : Type 0
LinkKey = Given words_for

pub not_also : (key : LinkKey) → notice_key key ≡ keys.Also → ⊥
not_also key is = grind arith

pub not_preset : (key : LinkKey) → notice_key key ≡ keys.Preset → ⊥
not_preset key is = grind arith

pub wanted_words : (key : LinkKey) (text : InstallText) → notice_key key ≡ keys.WantedBy → words_for key text ≡ text.wanted_by
wanted_words key text is = grind arith

pub wanted_wish : (key : LinkKey) (place : Place) (unit identity word : List ℕ) → notice_key key ≡ keys.WantedBy → wish place key unit identity word ≡ listing place Wants unit identity (named_by identity word)
wanted_wish key place unit identity word is = grind arith

pub required_words : (key : LinkKey) (text : InstallText) → notice_key key ≡ keys.RequiredBy → words_for key text ≡ text.required_by
required_words key text is = grind arith

pub required_wish : (key : LinkKey) (place : Place) (unit identity word : List ℕ) → notice_key key ≡ keys.RequiredBy → wish place key unit identity word ≡ listing place Requires unit identity (named_by identity word)
required_wish key place unit identity word is = grind arith

pub upheld_words : (key : LinkKey) (text : InstallText) → notice_key key ≡ keys.UpheldBy → words_for key text ≡ text.upheld_by
upheld_words key text is = grind arith

pub upheld_wish : (key : LinkKey) (place : Place) (unit identity word : List ℕ) → notice_key key ≡ keys.UpheldBy → wish place key unit identity word ≡ listing place Upholds unit identity (named_by identity word)
upheld_wish key place unit identity word is = grind arith

pub alias_words : (key : LinkKey) (text : InstallText) → notice_key key ≡ keys.Alias → words_for key text ≡ text.alias
alias_words key text is = grind arith

pub alias_wish : (key : LinkKey) (place : Place) (unit identity word : List ℕ) → notice_key key ≡ keys.Alias → wish place key unit identity word ≡ aliasing place unit (named_by identity word)
alias_wish key place unit identity word is = grind arith

-- The key of `Alias=` can't be named here. It is that of the last list of a section.
abbrev AllWants : Type 0
AllWants = Given settled

module _ (place : Place) (skip : Bool) (unit : List ℕ) (section : Section) where
  by_last : (P : AllWants → Type 0) → ((key : LinkKey) (wants : AllWants) → P (with_list place skip unit section key wants)) → (wants : AllWants) → P (with_section place skip unit wants (Some section))
  by_last P by wants = search (by)

pub alias_key : Section → (key : LinkKey) × (notice_key key ≡ keys.Alias)
unfolding by_last
alias_key section = (by_last Etc false [] section (λ wants. LinkKey) (λ key wants. key) no_wants, refl)
