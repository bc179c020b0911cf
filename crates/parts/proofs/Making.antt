-- One turn of the making of the parts: it goes on, or stops where a draw is spent; and its end. Assumes nothing.
use Prim.Native.Nat.{ℕ, suc, ◌+◌, ◌-◌, ◌≤◌, ◌<◌}
use mathlib.Core.Path.{◌≡◌, ap}
use native.Mathlib.Omega.{arith}
use lib.ListN.{set}
use borrow.Author.Tests.{ne_eqb}
use Rattle.draws.specs.declared.generator.Rng.{Rng}
use Rattle.draws.specs.declared.generator.Child.{Child}
use Rattle.draws.specs.declared.distribution.ContinuousDistribution.{ContinuousDistribution}
use Rattle.draws.specs.Generator.{child_of}
use Rattle.sender.specs.declared.lossy.LossySender.{LossySender}
use Rattle.toggler.specs.declared.toggler.Toggled.{Toggled}
use Rattle.toggler.specs.Toggler.{new_toggler}
use Rattle.remy.specs.Build.{Parts, new_sender, no_parts, populate}
use Rattle.parts.specs.declared.Made.{Made}
use Rattle.parts.specs.Parts.{told_parts}

module _ (n i : ℕ) (off : ContinuousDistribution) (m : Made) where
  -- nothing is left to make
  pub all_made : n ≤ i → told_parts m ≡ populate (n - i) i off (told_parts m)
  unfolding populate
  all_made h = let e : n - i ≡ 0 = omega arith in rw e

  module _ (c d : Child) (t : Toggled) (x : LossySender) (h : i < n) (first : c ≡ child_of m.root) (second : d ≡ child_of c.parent) (third : t ≡ new_toggler d.child off)
      (off-sender : x ≡ new_sender c.child) where
    -- the places with one part more
    abbrev pub more : Parts
    more = record { number = t.number; root = d.parent; senders = set m.senders i x; togglers = set m.togglers i t.toggler }

    pub goes_on : t.number ≡ 0 → populate (n - (i + 1)) (i + 1) off more ≡ populate (n - i) i off (told_parts m)
    unfolding populate
    goes_on z = let e : n - i ≡ suc (n - (i + 1)) = omega arith in rw (e, off-sender, ← first, ← second, ← third, z)

    pub stops : (t.number ≡ 0 → ⊥) → more ≡ populate (n - i) i off (told_parts m)
    unfolding populate
    stops z = let e : n - i ≡ suc (n - (i + 1)) = omega arith in rw (e, off-sender, ← first, ← second, ← third, ne_eqb _ _ z)

-- the places before any part is made
module _ (m : Made) (root : Rng) (e : told_parts m ≡ no_parts root) where
  pub none-senders : m.senders ≡ (no_parts root).senders
  none-senders = ap (λ (p : Parts). p.senders) e

  pub none-togglers : m.togglers ≡ (no_parts root).togglers
  none-togglers = ap (λ (p : Parts). p.togglers) e
