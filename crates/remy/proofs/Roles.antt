-- A part's role, and a role's part. Assumes nothing.
use mathlib.Core.Path.{◌≡◌, refl, sym, subst}
use mathlib.Core.Bool.{Bool, true, false, ◌&&◌, cond}
use Prim.Native.Nat.{ℕ, zero, suc, ◌+◌, ◌-◌, ◌*◌, ◌/◌, ◌%◌, ◌≤◌, ◌<◌}
use native.Mathlib.Omega.{arith}
use borrow.Author.Tests.{lt-ltb, eq-eqb, ne_eqb, le-ltb, ltb-true, eqb-true, eqb-false}
use lib.Dec.{ltb, eqb}
use Rattle.toggler.specs.Queue.{queue_places}
use Rattle.remy.specs.declared.network.RemyNetwork.{RemyNetwork}
use Rattle.remy.specs.State.{has_back, Role, link, bouncer, sender, toggler, nobody, sender_part, toggler_part, role_of, role_in, part_count}
use Rattle.remy.specs.Queue.{part_of}
use Rattle.remy.proofs.Facts.{both_l, both_r, first-there, second_there, at_second}
use Rattle.remy.proofs.Steps.{cond_elim}

-- a role that is there among n senders, with a return line or without
abbrev There : ℕ → Bool → Role → Type 0
There n back (link l) = l < cond back 2 1
There n back bouncer = back ≡ true
There n back (sender i) = i < n
There n back (toggler i) = i < n
There n back nobody = ⊥

-- a role that is there in a network
abbrev pub Real : RemyNetwork → Role → Type 0
Real n role = There n.senders (has_back n.back) role

-- ---- the role of part k

-- what holds of each role that is there, and of nobody, holds of part k's role
at_part : (P : Role → Type 0) (n : ℕ) (back : Bool) (k : ℕ) → ((role : Role) → There n back role → k ≡ part_of n role → P role) → P nobody → P (role_of n back k)
unfolding role_of
at_part P n back k a b =
    let i = (k - 1) / 2 in
    let pair = cond (eqb (k % 2) 1) (sender i) (toggler i) in
    let last = cond (eqb (k % 2) 1) bouncer (link 1) in
    let rest = cond (back && eqb i n) last nobody in
    cond_elim P (eqb k 0) (link 0) (cond (ltb i n) pair rest)
    (λ z. a (link 0) (first-there back) (eqb-true k 0 z))
    (λ z.
    let some : k ≡ 0 → ⊥ = eqb-false k 0 z in
    cond_elim P (ltb i n) pair rest
    (λ l.
    cond_elim P (eqb (k % 2) 1) (sender i) (toggler i)
    (λ o.
    let odd : k % 2 ≡ 1 = eqb-true (k % 2) 1 o in
    let e : k ≡ sender_part i = omega arith in
    a (sender i) (ltb-true i n l) e)
    (λ o.
    let even : k % 2 ≡ 1 → ⊥ = eqb-false (k % 2) 1 o in
    let e : k ≡ toggler_part i = omega arith in
    a (toggler i) (ltb-true i n l) e))
    (λ l.
    cond_elim P (back && eqb i n) last nobody
    (λ t.
    let there : back ≡ true = both_l back (eqb i n) t in
    let end : i ≡ n = eqb-true i n (both_r back (eqb i n) t) in
    cond_elim P (eqb (k % 2) 1) bouncer (link 1)
    (λ o.
    let odd : k % 2 ≡ 1 = eqb-true (k % 2) 1 o in
    let e : k ≡ 1 + 2 * n = omega arith in
    a bouncer there e)
    (λ o.
    let even : k % 2 ≡ 1 → ⊥ = eqb-false (k % 2) 1 o in
    let e : k ≡ 2 + 2 * n = omega arith in
    a (link 1) (second_there back there) e))
    (λ t. b)))

pub role_at : (P : Role → Type 0) (n : RemyNetwork) (k : ℕ) → ((role : Role) → Real n role → k ≡ part_of n.senders role → P role) → P nobody → P (role_in n k)
role_at P n k = at_part P n.senders (has_back n.back) k

-- the same, role by role
pub role_elim : (P : Role → Type 0) (n : ℕ) (back : Bool) (k : ℕ) → P (link 0) → ((i : ℕ) → i < n → P (sender i)) → ((i : ℕ) → i < n → P (toggler i))
    → (back ≡ true → P bouncer) → (back ≡ true → P (link 1)) → P nobody → P (role_of n back k)
role_elim P n back k a b c d e z = at_part P n back k at z
  where
    at : (role : Role) → There n back role → k ≡ part_of n role → P role
    at (link zero) r q = a
    at (link (suc l)) r q = let second = at_second back l r in subst (λ (m : ℕ). P (link (suc m))) (sym second.0) (e second.1)
    at bouncer r q = d r
    at (sender i) r q = b i r
    at (toggler i) r q = c i r
    at nobody r q = absurd r

-- ---- the part of a role

-- a role that is there is the role of its part
role_there : (n : ℕ) (back : Bool) (role : Role) → There n back role → role_of n back (part_of n role) ≡ role
unfolding role_of
role_there n back (link zero) r = refl
role_there n back (link (suc l)) r =
    let second = at_second back l r in
    let one : (2 + 2 * n - 1) / 2 ≡ n = omega arith in
    let even : (2 + 2 * n) % 2 ≡ 1 → ⊥ = omega arith in
    rw (ne_eqb (2 + 2 * n) 0 (omega arith), one, le-ltb n n (omega arith), second.1, eq-eqb n n refl, ne_eqb ((2 + 2 * n) % 2) 1 even, second.0)
role_there n back bouncer r =
    let one : (1 + 2 * n - 1) / 2 ≡ n = omega arith in
    let odd : (1 + 2 * n) % 2 ≡ 1 = omega arith in
    rw (ne_eqb (1 + 2 * n) 0 (omega arith), one, le-ltb n n (omega arith), r, eq-eqb n n refl, eq-eqb ((1 + 2 * n) % 2) 1 odd)
role_there n back (sender i) r =
    let one : (sender_part i - 1) / 2 ≡ i = omega arith in
    let odd : sender_part i % 2 ≡ 1 = omega arith in
    rw (ne_eqb (sender_part i) 0 (omega arith), one, lt-ltb i n r, eq-eqb (sender_part i % 2) 1 odd)
role_there n back (toggler i) r =
    let one : (toggler_part i - 1) / 2 ≡ i = omega arith in
    let even : toggler_part i % 2 ≡ 1 → ⊥ = omega arith in
    rw (ne_eqb (toggler_part i) 0 (omega arith), one, lt-ltb i n r, ne_eqb (toggler_part i % 2) 1 even)
role_there n back nobody r = absurd r

pub role_of_lem : (n : RemyNetwork) (role : Role) → Real n role → role_in n (part_of n.senders role) ≡ role
role_of_lem n = role_there n.senders (has_back n.back)

-- ---- how many parts there are

-- beside the senders and togglers
more : (back : Bool) → (1 ≤ cond back 3 1) × (cond back 3 1 ≤ 3)
more true = (omega arith, omega arith)
more false = (omega arith, omega arith)

-- each has a place in the queue
pub parts_few : (n : ℕ) (back : Bool) → n ≤ 16 → part_count n back ≤ queue_places
parts_few n back few = let most = (more back).1 in omega (arith, most)

-- the part of a role that is there is one of them
below : (n : ℕ) (back : Bool) (role : Role) → There n back role → part_of n role < part_count n back
below n back (link zero) r = let some = (more back).0 in omega (arith, some)
below n back (link (suc l)) r = rw (at_second back l r).1 (omega arith)
below n back bouncer r = rw r (omega arith)
below n back (sender i) r = let some = (more back).0 in omega (arith, some)
below n back (toggler i) r = let some = (more back).0 in omega (arith, some)
below n back nobody r = absurd r

pub part_below : (n : RemyNetwork) (role : Role) → Real n role → part_of n.senders role < part_count n.senders (has_back n.back)
part_below n = below n.senders (has_back n.back)

-- so it has a place in the queue
pub part_inside : (n : RemyNetwork) (role : Role) → n.senders ≤ 16 → Real n role → part_of n.senders role < queue_places
part_inside n role few r =
    let one = part_below n role r in
    let all = parts_few n.senders (has_back n.back) few in
    omega (arith, one, all)

-- a part past them is nobody's
pub role_none : (n : RemyNetwork) (k : ℕ) → part_count n.senders (has_back n.back) ≤ k → role_in n k ≡ nobody
role_none n k past =
    role_at (λ (role : Role). role ≡ nobody) n k
    (λ role r e.
    let one = part_below n role r in
    let no : ⊥ = omega (arith, past, e, one) in
    absurd no)
    refl
