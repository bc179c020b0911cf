-- The words of the printed lines (document 01), each as the list of its bytes, with the word beside it. Definitions only.
use Rattle.std.specs.Prelude.{ℕ, List, [], ◌∷◌}

-- an absent value
abbrev pub dash : ℕ
dash = 45

abbrev pub time_word : List ℕ
time_word = 116 ∷ 105 ∷ 109 ∷ 101 ∷ 61 ∷ []  -- time=

abbrev pub part_word : List ℕ
part_word = 32 ∷ 112 ∷ 97 ∷ 114 ∷ 116 ∷ 61 ∷ []  -- ` part=`

abbrev pub mark_word : List ℕ
mark_word = 32 ∷ 109 ∷ 97 ∷ 114 ∷ 107 ∷ 61 ∷ []  -- ` mark=`

abbrev pub packet_word : List ℕ
packet_word = 32 ∷ 112 ∷ 97 ∷ 99 ∷ 107 ∷ 101 ∷ 116 ∷ 61 ∷ []  -- ` packet=`

abbrev pub line_word : List ℕ
line_word = 32 ∷ 108 ∷ 105 ∷ 110 ∷ 101 ∷ 61 ∷ []  -- ` line=`

abbrev pub stop_word : List ℕ
stop_word = 115 ∷ 116 ∷ 111 ∷ 112 ∷ 61 ∷ []  -- stop=

abbrev pub clock_word : List ℕ
clock_word = 32 ∷ 99 ∷ 108 ∷ 111 ∷ 99 ∷ 107 ∷ 61 ∷ []  -- ` clock=`

abbrev pub flow_word : List ℕ
flow_word = 102 ∷ 108 ∷ 111 ∷ 119 ∷ 61 ∷ []  -- flow=

abbrev pub sent_word : List ℕ
sent_word = 32 ∷ 115 ∷ 101 ∷ 110 ∷ 116 ∷ 61 ∷ []  -- ` sent=`

abbrev pub counted_word : List ℕ
counted_word = 32 ∷ 99 ∷ 111 ∷ 117 ∷ 110 ∷ 116 ∷ 101 ∷ 100 ∷ 61 ∷ []  -- ` counted=`

abbrev pub rate_word : List ℕ
rate_word = 32 ∷ 114 ∷ 97 ∷ 116 ∷ 101 ∷ 61 ∷ []  -- ` rate=`

abbrev pub rtt_word : List ℕ
rtt_word = 32 ∷ 114 ∷ 116 ∷ 116 ∷ 61 ∷ []  -- ` rtt=`
