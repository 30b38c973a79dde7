-- The proofs for the elements of a list, one after another. Assumes nothing.

infixr 20 ◌then◌
pub ◌then◌ : {A B : Type 0} → A → B → A × B
a then b = (a, b)
