-- Moments, compared as the doubles that they are. Assumes nothing.
use mathlib.Core.Path.{◌≡◌, refl}
use mathlib.Core.Bool.{Bool, true, false}
use Rattle.std.proofs.Common.{Some, None, ◌⊎◌, ⊎_elim, Less, Equal, Greater, is_le, cond}
use Rattle.std.proofs.lemmas.Float.{le_of_lt, le_of_eq, lt-or-eq}
use Rattle.std.specs.Ordering.{float_partial_cmp, partial_le, is_some_and}
use lib.Dec.{T}
use lib.Ieee.{Float, lt, le, eq}

told : (less same more upto : Bool) → (T less → T upto) → (T same → T upto) → (T upto → T less ⊎ T same)
    → is_some_and is_le (cond less (Some Less) (cond same (Some Equal) (cond more (Some Greater) None))) ≡ upto
told true same more true f g h = refl
told true same more false f g h = absurd (f tt)
told false true more true f g h = refl
told false true more false f g h = absurd (g tt)
told false false more true f g h = ⊎_elim absurd absurd (h tt)
told false false true false f g h = refl
told false false false false f g h = refl

-- std's `<=` by the answer of `partial_cmp`
pub no_later : (x y : Float) → partial_le float_partial_cmp x y ≡ le x y
no_later x y = told (lt x y) (eq x y) (lt y x) (le x y) (le_of_lt x y) (le_of_eq x y) (lt-or-eq x y)
