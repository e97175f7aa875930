-- What holds of each element of a list with one more, and of each element of two lists. Assumes nothing.
use mathlib.Core.Path.{sym, subst}
use mathlib.Core.List.Memᴰ
use mathlib.Core.List.{List, ◌∷◌, ◌++◌, Memᴰ}
use mathlib.Core.Logic.{inl, inr}

pub first_or : {E : Type 0} (P : E → Type 0) (y : E) (ys : List E) → P y → ((x : E) → Memᴰ x ys → P x) → (x : E) → Memᴰ x (y ∷ ys) → P x
first_or P y ys p f x m = elim (Memᴰ.cases_cons m) [ inl e ↦ subst P (sym e) p | inr k ↦ f x k ]

pub in_both : {E : Type 0} (P : E → Type 0) (xs ys : List E) → ((x : E) → Memᴰ x xs → P x) → ((x : E) → Memᴰ x ys → P x)
    → (x : E) → Memᴰ x (xs ++ ys) → P x
in_both P xs ys f g x m = elim (Memᴰ.append_cases xs m) [ inl k ↦ f x k | inr k ↦ g x k ]
