-- If several steps, one after another, gave a value, each of them did.
use Rattle.std.proofs.Common.{◌≡◌, Bool, true, false, Result, Ok, Err, refl, sym, ap, subst}
use Rattle.std.specs.Prelude.{if◌then◌else◌, OnOk, OnErr}
use Rattle.link_tree.specs.Inventory.{◌>>=◌}

pub ok_is : {A E : Type 0} {x y : A} → ◌≡◌ {A = Result A E} (Ok x) (Ok y) → x ≡ y
ok_is h = cc

pub no_ok : {A E P : Type 0} {e : E} {x : A} → ◌≡◌ {A = Result A E} (Err e) (Ok x) → P
no_ok h = cc

-- a result that passed a test
pub else_ok : {A E : Type 0} (test : Bool) (e : E) (r : Result A E) (x : A) → (if test then Err e else r) ≡ Ok x → (test ≡ false) × (r ≡ Ok x)
else_ok true e r x h = no_ok h
else_ok false e r x h = (refl, h)

pub then_ok : {A E : Type 0} (test : Bool) (e : E) (r : Result A E) (x : A) → (if test then r else Err e) ≡ Ok x → (test ≡ true) × (r ≡ Ok x)
then_ok true e r x h = (refl, h)
then_ok false e r x h = no_ok h

pub ok_parts : {X Y F : Type 0} {x x' : X} {y y' : Y} → ◌≡◌ {A = Result (X × Y) F} (Ok (x, y)) (Ok (x', y')) → (x ≡ x') × (y ≡ y')
ok_parts is = (ap (λ p. p.0) (ok_is is), ap (λ p. p.1) (ok_is is))

pub both_ok : {A B E : Type 0} (r : Result A E) (f : A → Result B E) (y : B) → (r >>= f) ≡ Ok y → (x : A) × (r ≡ Ok x) × (f x ≡ Ok y)
both_ok (Ok x) f y h = (x, refl, h)
both_ok (Err e) f y h = no_ok h

-- what is true of the new state of a value, whether the call succeeded or not
pub either_way : {A E M : Type 0} (r : Result A E) (P : M → Type 0) (old new wanted : M) → OnOk r (new ≡ wanted) → OnErr r (new ≡ old) → P wanted → P old → P new
either_way (Ok x) P old new wanted ok err is was = subst P (sym ok) is
either_way (Err e) P old new wanted ok err is was = subst P (sym err) was
