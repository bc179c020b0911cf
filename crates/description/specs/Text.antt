-- The text of a description (document 01, "The text program"). Definitions only.
-- A text is the list of its bytes.
use Rattle.std.specs.Prelude.{ℕ, ◌^◌, ◌≤◌, ◌<◌, List, [], ◌∷◌, ◌++◌, Option, Some, None, Result, Ok, Err, ◌⊎◌, ◌≡◌, length, take, replicate}
use Rattle.notation.specs.Notation.{lf, colon, hex_of, decimal_of}
use Rattle.description.specs.Words.{delay_key, rate_key, loss_key, limit_key, bits_key, senders_key, on_key, off_key, policy_key, seed_key, ticks_key, none_line, always_key, uniform_key, held_key, grown_key, timed_key}
use Rattle.description.specs.declared.Distribution.{Distribution}
use Rattle.description.specs.declared.Distribution.TheVariants.{Always, Uniform}
use Rattle.description.specs.declared.Policy.{Policy}
use Rattle.description.specs.declared.Policy.TheVariants.{Held, Grown, Timed}
use Rattle.description.specs.declared.Description.{Description}
use Rattle.description.specs.declared.Malformed.{Malformed}

-- what a text says: the values of its lines, one or more in `bits`
pub record Written : Type 0 where
  pub delay : ℕ
  pub rate : ℕ
  pub loss : ℕ
  pub limit : Option ℕ
  pub bits : List ℕ
  pub senders : ℕ
  pub on : Distribution
  pub off : Distribution
  pub policy : Policy
  pub seed : ℕ
  pub ticks : ℕ

-- a line's text from its key: the key, the double or whole number, and what ends it
abbrev pub double_text : List ℕ → ℕ → ℕ → List ℕ
double_text key v end = key ++ (hex_of v ++ (end ∷ []))

abbrev pub whole_text : List ℕ → ℕ → ℕ → List ℕ
whole_text key v end = key ++ (decimal_of v ++ (end ∷ []))

-- limit: `none` or bits
abbrev pub limit_text : Option ℕ → List ℕ
limit_text None = none_line
limit_text (Some n) = decimal_of n ++ (lf ∷ [])

-- bits: values joined by commas (document 02, K1)
abbrev pub comma : ℕ
comma = 44

abbrev pub joined : List ℕ → List ℕ
joined [] = []
joined (v ∷ []) = decimal_of v
joined (v ∷ (w ∷ vs)) = decimal_of v ++ (comma ∷ joined (w ∷ vs))

-- the line without its LF
abbrev pub bits_text : List ℕ → List ℕ
bits_text vs = bits_key ++ joined vs

-- on and off: `always:h`, `uniform:h:h`
abbrev pub distribution_text : Distribution → List ℕ
distribution_text (Always v) = double_text always_key v lf
distribution_text (Uniform a b) = double_text uniform_key a colon ++ (hex_of b ++ (lf ∷ []))

-- policy: `held:w`, `grown:f:m`, `timed:m:h`
abbrev pub policy_text : Policy → List ℕ
policy_text (Held w) = whole_text held_key w lf
policy_text (Grown f m) = whole_text grown_key f colon ++ (decimal_of m ++ (lf ∷ []))
policy_text (Timed m h) = whole_text timed_key m colon ++ (hex_of h ++ (lf ∷ []))

-- the eleven lines, in this order
unfoldable pub text_of : Written → List ℕ
text_of w =
    double_text delay_key w.delay lf
    ++ double_text rate_key w.rate lf
    ++ double_text loss_key w.loss lf
    ++ (limit_key ++ limit_text w.limit)
    ++ (bits_text w.bits ++ (lf ∷ []))
    ++ whole_text senders_key w.senders lf
    ++ (on_key ++ distribution_text w.on)
    ++ (off_key ++ distribution_text w.off)
    ++ (policy_key ++ policy_text w.policy)
    ++ whole_text seed_key w.seed lf
    ++ whole_text ticks_key w.ticks lf

-- doubles, limit, bits and seed have 64 bits, other whole numbers 32; ticks are at most 65,536
abbrev pub LimitInWidth : Option ℕ → Type 0
LimitInWidth None = Unit
LimitInWidth (Some n) = n < 2 ^ 64

abbrev pub BitsInWidth : List ℕ → Type 0
BitsInWidth [] = Unit
BitsInWidth (v ∷ vs) = (v < 2 ^ 64) × BitsInWidth vs

abbrev pub DistributionInWidth : Distribution → Type 0
DistributionInWidth (Always v) = v < 2 ^ 64
DistributionInWidth (Uniform a b) = (a < 2 ^ 64) × (b < 2 ^ 64)

abbrev pub PolicyInWidth : Policy → Type 0
PolicyInWidth (Held w) = w < 2 ^ 32
PolicyInWidth (Grown f m) = (f < 2 ^ 32) × (m < 2 ^ 32)
PolicyInWidth (Timed m h) = (m < 2 ^ 32) × (h < 2 ^ 64)

-- the values of `bits` are one, or one for each sender
abbrev pub Counted : ℕ → ℕ → Type 0
Counted count senders = (count ≡ 1) ⊎ ((1 ≤ count) × (count ≡ senders))

-- the `bits` line has at most 512 bytes without its LF
pub record InWidth (w : Written) : Type 0 where
  pub delay : w.delay < 2 ^ 64
  pub rate : w.rate < 2 ^ 64
  pub loss : w.loss < 2 ^ 64
  pub limit : LimitInWidth w.limit
  pub bits : BitsInWidth w.bits
  pub count : Counted (length w.bits) w.senders
  pub line : length (bits_text w.bits) ≤ 512
  pub senders : w.senders < 2 ^ 32
  pub on : DistributionInWidth w.on
  pub off : DistributionInWidth w.off
  pub policy : PolicyInWidth w.policy
  pub seed : w.seed < 2 ^ 64
  pub ticks : w.ticks ≤ 65536

-- the first 16 values, and 0 after them
abbrev pub kept_of : List ℕ → List ℕ
kept_of vs = take 16 (vs ++ replicate 16 0)

-- the packet bits of the 16 places for senders: one value is that of each place
abbrev pub places_of : List ℕ → List ℕ
places_of [] = kept_of []
places_of (v ∷ []) = replicate 16 v
places_of (v ∷ (w ∷ vs)) = kept_of (v ∷ (w ∷ vs))

abbrev pub description_of : Written → Description
description_of w = record {
  delay = w.delay;
  rate = w.rate;
  loss = w.loss;
  limit = w.limit;
  bits = places_of w.bits;
  senders = w.senders;
  on = w.on;
  off = w.off;
  policy = w.policy;
  seed = w.seed;
  ticks = w.ticks;
}

-- what a text is read as
pub data ReadAs : Type 0 where
  given : Written → ReadAs
  malformed : ReadAs

-- the answer for each
unfoldable pub answer_of : ReadAs → Result Description Malformed
answer_of (given w) = Ok (description_of w)
answer_of malformed = Err (record {})

-- what is given is what the text says, every text of values in their widths is given, and anything else is malformed
pub record ReadIs (text : List ℕ) (r : Result Description Malformed) : Type 0 where
  pub sound : (d : Description) → r ≡ Ok d → (w : Written) × (text ≡ text_of w) × InWidth w × (r ≡ answer_of (given w))
  pub complete : (w : Written) → text ≡ text_of w → InWidth w → r ≡ answer_of (given w)
  pub other : ((w : Written) → text ≡ text_of w → InWidth w → ⊥) → r ≡ answer_of malformed
