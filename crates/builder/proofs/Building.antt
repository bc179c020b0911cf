-- The build by its cases: refused by the network, refused by a spent draw, or finished. Assumes nothing.
use Prim.Native.Nat.{ℕ, ◌≤◌}
use mathlib.Core.Path.{◌≡◌, sym, ◌∙◌}
use borrow.Author.Tests.{ne_eqb}
use Rattle.draws.specs.declared.generator.Rng.{Rng}
use Rattle.draws.specs.declared.generator.Child.{Child}
use Rattle.draws.specs.Generator.{from_seed, child_of}
use Rattle.remy.specs.declared.network.RemyNetwork.{RemyNetwork}
use Rattle.remy.specs.Network.{network_stop}
use Rattle.remy.specs.Build.{no_parts, populate, not_built, build_from, build_of}
use Rattle.remy.proofs.Networks.{fit-network, few_senders}
use Rattle.parts.specs.declared.Made.{Made}
use Rattle.parts.specs.Parts.{told_parts}

module _ (n : RemyNetwork) (seed k : ℕ) (stop : k ≡ network_stop n) where
  pub refused : (k ≡ 0 → ⊥) → not_built k ≡ build_of n seed
  unfolding build_of
  refused some = rw (← stop, ne_eqb _ _ some)

  module _ (none : k ≡ 0) where
    -- a network that is not refused has at most 16 senders
    pub few : n.senders ≤ 16
    few = few_senders (fit-network n (sym stop ∙ none))

    module _ (g : Rng) (c : Child) (m : Made) (seeded : g ≡ from_seed seed) (first : c ≡ child_of g)
        (made : told_parts m ≡ populate n.senders 0 n.off (no_parts c.parent)) where
      pub spent : (m.number ≡ 0 → ⊥) → not_built m.number ≡ build_of n seed
      unfolding build_of
      spent some = rw (← stop, none, ← seeded, ← first, ← made, ne_eqb _ _ some)

      pub finished : m.number ≡ 0 → build_from n c.child (told_parts m) ≡ build_of n seed
      unfolding build_of
      finished all = rw (← stop, none, ← seeded, ← first, ← made, all)
