-- Proofs of a list of claims, one after another. Assumes nothing.
infixr 20 ◌and◌
pub ◌and◌ : {A B : Type 0} → A → B → A × B
◌and◌ a b = (a, b)
