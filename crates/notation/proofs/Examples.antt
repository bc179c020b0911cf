-- What `InPlace` counts: an array wherever a value holds it, and a call wherever it stands. Assumes nothing.
use mathlib.Core.Bool.{true}
use mathlib.Core.List.{[], ◌∷◌}
use mathlib.Core.Path.{◌≡◌, refl}
use mir.Syntax.{w8, w64, erased, imm, Ty, ty_int, ty_bool, ty_ref, ty_array, ty_struct, ty_enum, tnil, tcons, ttnil, ttcons, place, opd_true, Symbol, fn₀, impl, given, dnil, no_args, method, awaited, c_int, c_ints, rattle_abi, ty_param, ty_array_p, Body, skip, seq, block, loop, cond, switch, call, call_v, lend_static, arm, default, local, value_local, memory_slot}
use Rattle.notation.specs.InPlace.{a_byte, arrays_in, arrays_among, arrays_made, calls_in}

-- arrays of 3 bytes, of 4 times 5 numbers in an enum's second case, and of 7 bytes behind a reference
abbrev held : Ty
held =
    ty_struct []
    (tcons (ty_array (ty_int w8) 3)
    (tcons (ty_enum [] (ttcons tnil (ttcons (tcons (ty_array (ty_array (ty_int w64) 5) 4) tnil) ttnil)))
    (tcons (ty_ref erased imm (ty_array (ty_int w8) 7)) tnil)))

arrays : arrays_in (λ τ. true) held ≡ 3 ∷ 4 ∷ []
arrays = refl

bytes : arrays_in a_byte held ≡ 3 ∷ []
bytes = refl

bytes_within : arrays_in a_byte (ty_array (ty_array (ty_int w8) 5) 4) ≡ 5 ∷ []
bytes_within = refl

every_local : arrays_among a_byte (local ty_bool value_local ∷ local held memory_slot ∷ local held value_local ∷ []) ≡ 3 ∷ 3 ∷ []
every_local = refl

-- a type that is a parameter, an array of bytes and one of numbers whose length is a parameter
params : arrays_in a_byte (ty_struct [] (tcons (ty_param 0) (tcons (ty_array_p (ty_int w8) 1) (tcons (ty_array_p (ty_int w64) 1) tnil)))) ≡ 0 ∷ 0 ∷ []
params = refl

-- a constant of 2 bytes in a loop, and one that is a number
constants : arrays_made a_byte (seq (loop (lend_static (place 0 []) (ty_array (ty_int w8) 2) (c_ints w8 (1 ∷ 2 ∷ [])))) (lend_static (place 0 []) (ty_int w8) (c_int w8 1))) ≡ 2 ∷ []
constants = refl

-- a call in a loop's block, in each branch of a test, in an arm and in the default
abbrev body : Body
body =
    let to : Symbol → Body = λ name. call (fn₀ name) [] (place 0 []) in
    seq (block (loop (cond opd_true (to "a") (to "b")))) (switch opd_true (arm (0 ∷ []) (to "c") (default (seq skip (to "d")))))

calls : calls_in body ≡ "a" ∷ "b" ∷ "c" ∷ "d" ∷ []
calls = refl

-- a method of an impl, of a bound, and past an impl's methods; a join; a call by an address
abbrev others : Body
others =
    seq (call (method (impl ("a" ∷ "b" ∷ []) tnil dnil) 1 no_args) [] (place 0 []))
    (seq (call (method (given 0) 0 no_args) [] (place 0 []))
    (seq (call (method (impl ("a" ∷ []) tnil dnil) 1 no_args) [] (place 0 []))
    (seq (call (awaited tnil) [] (place 0 [])) (call_v opd_true (rattle_abi, tnil) [] (place 0 [])))))

other_calls : calls_in others ≡ "b" ∷ "" ∷ "" ∷ "" ∷ "" ∷ []
other_calls = refl
