-- The space that a function has of its own, and what it calls: the arrays that its locals and its constants hold, and the calls in its body, as MIR has them. Definitions only.
use Rattle.std.specs.Prelude.{ℕ, zero, suc, Bool, true, false, List, [], ◌∷◌, ◌++◌, ◌≡◌, eqb}
use Rattle.std.proofs.Math.Bool as B
use mir.Syntax.{Ty, ty_int, ty_bool, ty_float, ty_ptr, ty_ref, ty_array, ty_unit, ty_struct, ty_enum, ty_param, ty_const, ty_array_p, ty_named, Tys, tnil, tcons, Tyss, ttnil, ttcons, Symbol, Dict, impl, given, Callee, fn, method, forked, awaited, prim, Body, skip, seq, assign, block, loop, cond, switch, exit, return, unreachable, call, call_v, lend_static, Arms, arm, default, no_default, Local, local, Fn}
use mir.Val.{bits}

-- the lengths of the arrays that a value of a type holds, of elements that are counted. What a reference is to lies elsewhere, and a type by its name alone is held nowhere: in a function's code each type that is held is spelled out. A type parameter may be a type with any array, so it counts as an array; its length, and that of an array whose length is a parameter, is not known and stands as 0
abbrev mutual
  pub arrays_in : (Ty → Bool) → Ty → List ℕ
  arrays_in counted (ty_array τ n) = B.cond (counted τ) (n ∷ []) (arrays_in counted τ)
  arrays_in counted (ty_struct name τs) = arrays_in_all counted τs
  arrays_in counted (ty_enum name τss) = arrays_in_each counted τss
  arrays_in counted (ty_int w) = []
  arrays_in counted ty_bool = []
  arrays_in counted (ty_float f) = []
  arrays_in counted ty_ptr = []
  arrays_in counted (ty_ref κ μ τ) = []
  arrays_in counted ty_unit = []
  arrays_in counted (ty_param i) = B.cond (counted (ty_param i)) (0 ∷ []) []
  arrays_in counted (ty_const n) = []
  arrays_in counted (ty_array_p τ i) = B.cond (counted τ) (0 ∷ []) (arrays_in counted τ)
  arrays_in counted (ty_named name τs) = []

  pub arrays_in_all : (Ty → Bool) → Tys → List ℕ
  arrays_in_all counted tnil = []
  arrays_in_all counted (tcons τ τs) = arrays_in counted τ ++ arrays_in_all counted τs

  pub arrays_in_each : (Ty → Bool) → Tyss → List ℕ
  arrays_in_each counted ttnil = []
  arrays_in_each counted (ttcons τs τss) = arrays_in_all counted τs ++ arrays_in_each counted τss

abbrev pub arrays_among : (Ty → Bool) → List Local → List ℕ
arrays_among counted [] = []
arrays_among counted (local τ home ∷ ls) = arrays_in counted τ ++ arrays_among counted ls

-- the same of the constants that a body has in memory of their own
abbrev mutual
  pub arrays_made : (Ty → Bool) → Body → List ℕ
  arrays_made counted skip = []
  arrays_made counted (seq a b) = arrays_made counted a ++ arrays_made counted b
  arrays_made counted (assign at value) = []
  arrays_made counted (block a) = arrays_made counted a
  arrays_made counted (loop a) = arrays_made counted a
  arrays_made counted (cond test a b) = arrays_made counted a ++ arrays_made counted b
  arrays_made counted (switch key arms) = arrays_made_arms counted arms
  arrays_made counted (exit n) = []
  arrays_made counted return = []
  arrays_made counted unreachable = []
  arrays_made counted (call callee values result) = []
  arrays_made counted (call_v address signature values result) = []
  arrays_made counted (lend_static at τ value) = arrays_in counted τ

  arrays_made_arms : (Ty → Bool) → Arms → List ℕ
  arrays_made_arms counted (arm keys a arms) = arrays_made counted a ++ arrays_made_arms counted arms
  arrays_made_arms counted (default a) = arrays_made counted a
  arrays_made_arms counted no_default = []

-- all arrays, and those of bytes
abbrev pub arrays_of : Fn → List ℕ
arrays_of f = arrays_among (λ τ. true) f.locals ++ arrays_made (λ τ. true) f.body

-- a type parameter may be a byte
abbrev pub a_byte : Ty → Bool
a_byte (ty_int w) = eqb (bits w) 8
a_byte ty_bool = false
a_byte (ty_float f) = false
a_byte ty_ptr = false
a_byte (ty_ref κ μ τ) = false
a_byte (ty_array τ n) = false
a_byte ty_unit = false
a_byte (ty_struct name τs) = false
a_byte (ty_enum name τss) = false
a_byte (ty_param i) = true
a_byte (ty_const n) = false
a_byte (ty_array_p τ i) = false
a_byte (ty_named name τs) = false

abbrev pub byte_arrays_of : Fn → List ℕ
byte_arrays_of f = arrays_among a_byte f.locals ++ arrays_made a_byte f.body

-- a function with no array of its own
abbrev pub InPlace : Fn → Type 0
InPlace f = arrays_of f ≡ []

-- a function with no array of bytes of its own
abbrev pub NoBytes : Fn → Type 0
NoBytes f = byte_arrays_of f ≡ []

-- the name of the function that a call goes to. Where the code alone does not tell it, as at a method of a bound, and where a call goes to no function, it stands as the empty text, which is no function's name
abbrev nth_name : List Symbol → ℕ → Symbol
nth_name [] j = ""
nth_name (name ∷ names) zero = name
nth_name (name ∷ names) (suc j) = nth_name names j

abbrev method_name : Dict → ℕ → Symbol
method_name (impl names τs ds) j = nth_name names j
method_name (given i) j = ""

abbrev name_of : Callee → Symbol
name_of (fn name args) = name
name_of (method d j args) = method_name d j
name_of (forked τs callee) = name_of callee
name_of (awaited τs) = ""
name_of (prim act) = ""

-- the functions that a function calls, in the order of its text
abbrev mutual
  pub calls_in : Body → List Symbol
  calls_in skip = []
  calls_in (seq a b) = calls_in a ++ calls_in b
  calls_in (assign at value) = []
  calls_in (block a) = calls_in a
  calls_in (loop a) = calls_in a
  calls_in (cond test a b) = calls_in a ++ calls_in b
  calls_in (switch key arms) = calls_in_arms arms
  calls_in (exit n) = []
  calls_in return = []
  calls_in unreachable = []
  calls_in (call callee values result) = name_of callee ∷ []
  calls_in (call_v address signature values result) = "" ∷ []
  calls_in (lend_static at τ value) = []

  calls_in_arms : Arms → List Symbol
  calls_in_arms (arm keys a arms) = calls_in a ++ calls_in_arms arms
  calls_in_arms (default a) = calls_in a
  calls_in_arms no_default = []

abbrev pub calls_of : Fn → List Symbol
calls_of f = calls_in f.body
