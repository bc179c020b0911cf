-- The lines of document 01's example, as the definitions write them. Assumes nothing.
use mathlib.Core.List.{[], ◌∷◌}
use mathlib.Core.Path.{◌≡◌, refl}
use Rattle.notation.specs.Notation.{digit_byte, digits_of, hex_of, decimal_within, decimal_of}
use Rattle.printer.specs.Printing.{record_text, stop_text, refused_text, flow_text}
use Rattle.std.specs.Prelude.{Some, None}

-- time=3ff0000000000000 part=2 mark=E packet=- line=-
toggle-line : record_text 0x3ff0_0000_0000_0000 2 69 None None ≡ 116 ∷ 105 ∷ 109 ∷ 101 ∷ 61 ∷ 51 ∷ 102 ∷ 102 ∷ 48 ∷ 48 ∷ 48 ∷ 48 ∷ 48 ∷ 48 ∷ 48 ∷ 48 ∷ 48 ∷ 48 ∷ 48 ∷ 48 ∷ 48 ∷ 32 ∷ 112 ∷ 97 ∷ 114 ∷ 116 ∷ 61 ∷ 50 ∷ 32 ∷ 109 ∷ 97 ∷ 114 ∷ 107 ∷ 61 ∷ 69 ∷ 32 ∷ 112 ∷ 97 ∷ 99 ∷ 107 ∷ 101 ∷ 116 ∷ 61 ∷ 45 ∷ 32 ∷ 108 ∷ 105 ∷ 110 ∷ 101 ∷ 61 ∷ 45 ∷ 10 ∷ []
unfolding record_text hex_of digits_of digit_byte decimal_of decimal_within
toggle-line = refl

-- time=4000000000000000 part=0 mark=C packet=0:1 line=0:2
count-line : record_text 0x4000_0000_0000_0000 0 67 (Some (0, 1)) (Some (0, 2)) ≡ 116 ∷ 105 ∷ 109 ∷ 101 ∷ 61 ∷ 52 ∷ 48 ∷ 48 ∷ 48 ∷ 48 ∷ 48 ∷ 48 ∷ 48 ∷ 48 ∷ 48 ∷ 48 ∷ 48 ∷ 48 ∷ 48 ∷ 48 ∷ 48 ∷ 32 ∷ 112 ∷ 97 ∷ 114 ∷ 116 ∷ 61 ∷ 48 ∷ 32 ∷ 109 ∷ 97 ∷ 114 ∷ 107 ∷ 61 ∷ 67 ∷ 32 ∷ 112 ∷ 97 ∷ 99 ∷ 107 ∷ 101 ∷ 116 ∷ 61 ∷ 48 ∷ 58 ∷ 49 ∷ 32 ∷ 108 ∷ 105 ∷ 110 ∷ 101 ∷ 61 ∷ 48 ∷ 58 ∷ 50 ∷ 10 ∷ []
unfolding record_text hex_of digits_of digit_byte decimal_of decimal_within
count-line = refl

-- stop=0 clock=4008000000000000
end_line : stop_text 0 0x4008_0000_0000_0000 ≡ 115 ∷ 116 ∷ 111 ∷ 112 ∷ 61 ∷ 48 ∷ 32 ∷ 99 ∷ 108 ∷ 111 ∷ 99 ∷ 107 ∷ 61 ∷ 52 ∷ 48 ∷ 48 ∷ 56 ∷ 48 ∷ 48 ∷ 48 ∷ 48 ∷ 48 ∷ 48 ∷ 48 ∷ 48 ∷ 48 ∷ 48 ∷ 48 ∷ 48 ∷ 10 ∷ []
unfolding stop_text hex_of digits_of digit_byte decimal_of decimal_within
end_line = refl

-- flow=0 sent=4 counted=1 rate=4010000000000000 rtt=3ff0000000000000
flow-line : flow_text 0 4 1 (Some 0x4010_0000_0000_0000) (Some 0x3ff0_0000_0000_0000) ≡ 102 ∷ 108 ∷ 111 ∷ 119 ∷ 61 ∷ 48 ∷ 32 ∷ 115 ∷ 101 ∷ 110 ∷ 116 ∷ 61 ∷ 52 ∷ 32 ∷ 99 ∷ 111 ∷ 117 ∷ 110 ∷ 116 ∷ 101 ∷ 100 ∷ 61 ∷ 49 ∷ 32 ∷ 114 ∷ 97 ∷ 116 ∷ 101 ∷ 61 ∷ 52 ∷ 48 ∷ 49 ∷ 48 ∷ 48 ∷ 48 ∷ 48 ∷ 48 ∷ 48 ∷ 48 ∷ 48 ∷ 48 ∷ 48 ∷ 48 ∷ 48 ∷ 48 ∷ 32 ∷ 114 ∷ 116 ∷ 116 ∷ 61 ∷ 51 ∷ 102 ∷ 102 ∷ 48 ∷ 48 ∷ 48 ∷ 48 ∷ 48 ∷ 48 ∷ 48 ∷ 48 ∷ 48 ∷ 48 ∷ 48 ∷ 48 ∷ 48 ∷ 10 ∷ []
unfolding flow_text hex_of digits_of digit_byte decimal_of decimal_within
flow-line = refl

-- flow=1 sent=0 counted=0 rate=- rtt=-
quiet_line : flow_text 1 0 0 None None ≡ 102 ∷ 108 ∷ 111 ∷ 119 ∷ 61 ∷ 49 ∷ 32 ∷ 115 ∷ 101 ∷ 110 ∷ 116 ∷ 61 ∷ 48 ∷ 32 ∷ 99 ∷ 111 ∷ 117 ∷ 110 ∷ 116 ∷ 101 ∷ 100 ∷ 61 ∷ 48 ∷ 32 ∷ 114 ∷ 97 ∷ 116 ∷ 101 ∷ 61 ∷ 45 ∷ 32 ∷ 114 ∷ 116 ∷ 116 ∷ 61 ∷ 45 ∷ 10 ∷ []
unfolding flow_text hex_of digits_of digit_byte decimal_of decimal_within
quiet_line = refl

-- stop=15
malformed_line : refused_text 15 ≡ 115 ∷ 116 ∷ 111 ∷ 112 ∷ 61 ∷ 49 ∷ 53 ∷ 10 ∷ []
unfolding refused_text hex_of digits_of digit_byte decimal_of decimal_within
malformed_line = refl
