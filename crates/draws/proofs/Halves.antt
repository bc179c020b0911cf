-- A product of two 64-bit words modulo 2 ^ 64, from their halves of 32 bits. Assumes nothing.
use Rattle.std.proofs.Common.{◌≡◌, ℕ, ◌+◌, ◌*◌, ◌/◌, ◌%◌, ◌^◌, ◌<◌, ◌≤◌, sym, ap, ◌∙◌, mul_assoc, add-mul, mul-le-mul, div-add-mod', mul-add, mul_right_comm, arith}
use native.Mathlib.Nat.{mul-mul-mul_comm, add-mod, add-mul-mod_self_right, le-pred_of_lt}

-- two halves have a product that fits a word
pub fits : (x y : ℕ) → x < 4294967296 → y < 4294967296 → x * y < 18446744073709551616
fits x y hx hy =
    let most : x * y ≤ 4294967295 * 4294967295 = mul-le-mul (le-pred_of_lt hx) (le-pred_of_lt hy) in
    omega arith

-- the four partial products
expand : (a₁ a₀ b₁ b₀ : ℕ)
    → (a₁ * 4294967296 + a₀) * (b₁ * 4294967296 + b₀) ≡ a₁ * b₁ * 18446744073709551616 + (a₁ * b₀ + a₀ * b₁) * 4294967296 + a₀ * b₀
expand a₁ a₀ b₁ b₀ =
    let high : a₁ * 4294967296 * (b₁ * 4294967296) ≡ a₁ * b₁ * 18446744073709551616 = mul-mul-mul_comm a₁ 4294967296 b₁ 4294967296 in
    let left : a₁ * 4294967296 * b₀ ≡ a₁ * b₀ * 4294967296 = mul_right_comm a₁ 4294967296 b₀ in
    let right : a₀ * (b₁ * 4294967296) ≡ a₀ * b₁ * 4294967296 = sym (mul_assoc a₀ b₁ 4294967296) in
    let first : a₁ * 4294967296 * (b₁ * 4294967296 + b₀) ≡ a₁ * 4294967296 * (b₁ * 4294967296) + a₁ * 4294967296 * b₀ = mul-add (a₁ * 4294967296) (b₁ * 4294967296) b₀ in
    let second : a₀ * (b₁ * 4294967296 + b₀) ≡ a₀ * (b₁ * 4294967296) + a₀ * b₀ = mul-add a₀ (b₁ * 4294967296) b₀ in
    add-mul (a₁ * 4294967296) a₀ (b₁ * 4294967296 + b₀) ∙ (omega arith)

-- of the cross products only the low 32 bits count, and the product of the high halves not at all
pub product : (a b : ℕ)
    → (a % 4294967296 * (b % 4294967296)
    + (a / 4294967296 * (b % 4294967296) % 4294967296 + a % 4294967296 * (b / 4294967296) % 4294967296) % 4294967296 * 4294967296)
    % 2 ^ 64
    ≡ a * b % 2 ^ 64
product a b =
    let a₁ = a / 4294967296 in
    let a₀ = a % 4294967296 in
    let b₁ = b / 4294967296 in
    let b₀ = b % 4294967296 in
    let cross = a₁ * b₀ + a₀ * b₁ in
    let low : (a₁ * b₀ % 4294967296 + a₀ * b₁ % 4294967296) % 4294967296 ≡ cross % 4294967296 = sym (add-mod (a₁ * b₀) (a₀ * b₁) 4294967296) in
    let whole : a * b ≡ (a₁ * 4294967296 + a₀) * (b₁ * 4294967296 + b₀) = ap (λ (x : ℕ). x * b) (sym (div-add-mod' a 4294967296)) ∙ ap (λ (x : ℕ). (a₁ * 4294967296 + a₀) * x) (sym (div-add-mod' b 4294967296)) in
    let parts : a * b ≡ a₀ * b₀ + cross % 4294967296 * 4294967296 + (a₁ * b₁ + cross / 4294967296) * 18446744073709551616 = whole ∙ expand a₁ a₀ b₁ b₀ ∙ (omega arith) in
    ap (λ (x : ℕ). (a₀ * b₀ + x * 4294967296) % 2 ^ 64) low
    ∙ sym (add-mul-mod_self_right (a₀ * b₀ + cross % 4294967296 * 4294967296) (a₁ * b₁ + cross / 4294967296) 18446744073709551616)
    ∙ ap (λ (x : ℕ). x % 2 ^ 64) (sym parts)
