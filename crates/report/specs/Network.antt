-- The network of a description (document 01, "The text program"): each double is the one that its bits stand for. Definitions only.
use Rattle.std.specs.Prelude.{ℕ, Float, None}
use Rattle.std.specs.Float.{binary64}
use Rattle.std.specs.Float.Ieee.{of_bits}
use Rattle.draws.specs.declared.distribution.ContinuousDistribution.{ContinuousDistribution}
use Rattle.draws.specs.declared.distribution.ContinuousDistribution.TheVariants as Distribution
use Rattle.sender.specs.declared.lossy.Policy.{Policy}
use Rattle.remy.specs.declared.network.RemyNetwork.{RemyNetwork}
use Rattle.description.specs.declared.Description.{Description}
use Rattle.description.specs.declared.Distribution as D
use Rattle.description.specs.declared.Distribution.TheVariants as GivenDistribution
use Rattle.description.specs.declared.Policy as P
use Rattle.description.specs.declared.Policy.TheVariants as GivenPolicy

-- the double of 64 bits; every pattern of a NaN is the one NaN
abbrev pub double_of : ℕ → Float
double_of bits = of_bits binary64 bits

abbrev pub distribution_of : D.Distribution → ContinuousDistribution
distribution_of (GivenDistribution.Always v) = Distribution.Always (double_of v)
distribution_of (GivenDistribution.Uniform a b) = Distribution.Uniform (double_of a) (double_of b)

abbrev pub policy_of : P.Policy → Policy
policy_of (GivenPolicy.Held w) = Policy.Held w
policy_of (GivenPolicy.Grown f m) = Policy.Grown f m
policy_of (GivenPolicy.Timed m gap) = Policy.Timed m (double_of gap)

-- a description has no return line
abbrev pub network_of : Description → RemyNetwork
network_of d =
    record {
      line = record { delay = double_of d.delay; rate = double_of d.rate; loss = double_of d.loss; limit = d.limit };
      back = None;
      bits = d.bits;
      senders = d.senders;
      on = distribution_of d.on;
      off = distribution_of d.off;
      policy = policy_of d.policy;
    }
