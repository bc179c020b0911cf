-- The words of a description (document 01), each as the list of its bytes, with the word beside it. Definitions only.
use Rattle.std.specs.Prelude.{ℕ, List, [], ◌∷◌}

-- of a description
abbrev pub delay_key : List ℕ
delay_key = 100 ∷ 101 ∷ 108 ∷ 97 ∷ 121 ∷ 61 ∷ []  -- delay=

abbrev pub rate_key : List ℕ
rate_key = 114 ∷ 97 ∷ 116 ∷ 101 ∷ 61 ∷ []  -- rate=

abbrev pub loss_key : List ℕ
loss_key = 108 ∷ 111 ∷ 115 ∷ 115 ∷ 61 ∷ []  -- loss=

abbrev pub limit_key : List ℕ
limit_key = 108 ∷ 105 ∷ 109 ∷ 105 ∷ 116 ∷ 61 ∷ []  -- limit=

abbrev pub bits_key : List ℕ
bits_key = 98 ∷ 105 ∷ 116 ∷ 115 ∷ 61 ∷ []  -- bits=

abbrev pub senders_key : List ℕ
senders_key = 115 ∷ 101 ∷ 110 ∷ 100 ∷ 101 ∷ 114 ∷ 115 ∷ 61 ∷ []  -- senders=

abbrev pub on_key : List ℕ
on_key = 111 ∷ 110 ∷ 61 ∷ []  -- on=

abbrev pub off_key : List ℕ
off_key = 111 ∷ 102 ∷ 102 ∷ 61 ∷ []  -- off=

abbrev pub policy_key : List ℕ
policy_key = 112 ∷ 111 ∷ 108 ∷ 105 ∷ 99 ∷ 121 ∷ 61 ∷ []  -- policy=

abbrev pub seed_key : List ℕ
seed_key = 115 ∷ 101 ∷ 101 ∷ 100 ∷ 61 ∷ []  -- seed=

abbrev pub ticks_key : List ℕ
ticks_key = 116 ∷ 105 ∷ 99 ∷ 107 ∷ 115 ∷ 61 ∷ []  -- ticks=

abbrev pub none_line : List ℕ
none_line = 110 ∷ 111 ∷ 110 ∷ 101 ∷ 10 ∷ []  -- none LF

abbrev pub always_key : List ℕ
always_key = 97 ∷ 108 ∷ 119 ∷ 97 ∷ 121 ∷ 115 ∷ 58 ∷ []  -- always:

abbrev pub uniform_key : List ℕ
uniform_key = 117 ∷ 110 ∷ 105 ∷ 102 ∷ 111 ∷ 114 ∷ 109 ∷ 58 ∷ []  -- uniform:

abbrev pub held_key : List ℕ
held_key = 104 ∷ 101 ∷ 108 ∷ 100 ∷ 58 ∷ []  -- held:

abbrev pub grown_key : List ℕ
grown_key = 103 ∷ 114 ∷ 111 ∷ 119 ∷ 110 ∷ 58 ∷ []  -- grown:

abbrev pub timed_key : List ℕ
timed_key = 116 ∷ 105 ∷ 109 ∷ 101 ∷ 100 ∷ 58 ∷ []  -- timed:
