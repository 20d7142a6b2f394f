-- Types that lower crates keep to themselves, by functions that are public.

-- what a function takes
abbrev pub Given : {A B : Type 0} → (A → B) → Type 0
Given {A} f = A

-- what it returns
abbrev pub Made : {A B : Type 0} → (A → B) → Type 0
Made {B = B} f = B
