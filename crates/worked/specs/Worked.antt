-- Document 01, "The text program": the worked example, from the bytes of its description to the bytes of its nine lines.
use Rattle.std.specs.Prelude.{ℕ, List, [], ◌∷◌, ◌++◌}
use Prim.Native.Char.{code}
use Prim.Native.String.{String}
use Rattle.report.specs.Report.{left_of, report_of, ForText}

-- a line: the bytes of its letters, then LF
abbrev pub line : String → List ℕ
line String.[] = 10 ∷ []
line (String.◌∷◌ c s) = code c ∷ line s

abbrev pub description : List ℕ
description =
    line "delay=3ff0000000000000"
    ++ line "rate=4020000000000000"
    ++ line "loss=0000000000000000"
    ++ line "limit=8"
    ++ line "bits=8"
    ++ line "senders=1"
    ++ line "on=always:4059000000000000"
    ++ line "off=always:3ff0000000000000"
    ++ line "policy=held:3"
    ++ line "seed=1"
    ++ line "ticks=7"

abbrev pub printed : List (List ℕ)
printed =
    line "time=3ff0000000000000 part=2 mark=E packet=- line=-"
    ∷ line "time=3ff0000000000000 part=1 mark=S packet=0:1 line=-"
    ∷ line "time=3ff0000000000000 part=0 mark=- packet=- line=0:1"
    ∷ line "time=3ff0000000000000 part=1 mark=S packet=0:2 line=-"
    ∷ line "time=3ff0000000000000 part=1 mark=F packet=0:3 line=-"
    ∷ line "time=4000000000000000 part=0 mark=C packet=0:1 line=0:2"
    ∷ line "time=4000000000000000 part=1 mark=S packet=0:4 line=-"
    ∷ line "stop=0 clock=4008000000000000"
    ∷ line "flow=0 sent=4 counted=1 rate=4010000000000000 rtt=3ff0000000000000"
    ∷ []

-- whatever a contract says of the lines of the description's report, it says of these
abbrev pub Worked : Type 1
Worked = (P : List (List ℕ) → Type 0) → ForText description (λ d. P (left_of (report_of d))) → P printed
