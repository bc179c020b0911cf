-- The printed lines (document 01, "The text program"). Definitions only.
-- Doubles and whole numbers are written as in a description.
use Rattle.std.specs.Prelude.{ℕ, ◌+◌, ◌≤◌, cond, List, [], ◌∷◌, ◌++◌, ◌≡◌, Option, Some, None, leb, length, take, drop}
use Rattle.notation.specs.Notation.{lf, colon, hex_of, decimal_of}
use Rattle.printer.specs.Words.{dash, time_word, part_word, mark_word, packet_word, line_word, stop_word, clock_word, flow_word, sent_word, counted_word, rate_word, rtt_word}

-- a packet is sender:sequence, or absent
abbrev pub packet_text : Option (ℕ × ℕ) → List ℕ
packet_text None = dash ∷ []
packet_text (Some (sender, sequence)) = decimal_of sender ++ ((colon ∷ []) ++ decimal_of sequence)

-- a rate or an RTT is a double, or absent
abbrev pub measured_text : Option ℕ → List ℕ
measured_text None = dash ∷ []
measured_text (Some v) = hex_of v

-- a tick's record: `time=H part=P mark=M packet=S:Q line=S:Q`
unfoldable pub record_text : ℕ → ℕ → ℕ → Option (ℕ × ℕ) → Option (ℕ × ℕ) → List ℕ
record_text time part mark packet line =
    (time_word ++ hex_of time)
    ++ (part_word ++ decimal_of part)
    ++ (mark_word ++ (mark ∷ []))
    ++ (packet_word ++ packet_text packet)
    ++ (line_word ++ packet_text line)
    ++ (lf ∷ [])

-- the end of a run: `stop=N clock=H`
unfoldable pub stop_text : ℕ → ℕ → List ℕ
stop_text number clock = (stop_word ++ decimal_of number) ++ (clock_word ++ hex_of clock) ++ (lf ∷ [])

-- a refused build, or a malformed description: `stop=N`
unfoldable pub refused_text : ℕ → List ℕ
refused_text number = (stop_word ++ decimal_of number) ++ (lf ∷ [])

-- a flow: `flow=I sent=N counted=N rate=H rtt=H`
unfoldable pub flow_text : ℕ → ℕ → ℕ → Option ℕ → Option ℕ → List ℕ
flow_text flow sent counted rate rtt =
    (flow_word ++ decimal_of flow)
    ++ (sent_word ++ decimal_of sent)
    ++ (counted_word ++ decimal_of counted)
    ++ (rate_word ++ measured_text rate)
    ++ (rtt_word ++ measured_text rtt)
    ++ (lf ∷ [])

-- out with the bytes s in it from the position at
unfoldable pub written : List ℕ → ℕ → List ℕ → List ℕ
written out at s = take at out ++ s ++ drop (at + length s) out

-- a line is put where room for 128 bytes is left, which it does not exceed; else out is left as it was
pub record PutIs (line out : List ℕ) (at : ℕ) (r : Option ℕ) (after : List ℕ) : Type 0 where
  pub answer : r ≡ cond (leb (at + 128) (length out)) (Some (at + length line)) None
  pub bytes : after ≡ cond (leb (at + 128) (length out)) (written out at line) out
  pub short : at + 128 ≤ length out → length line ≤ 128

-- the bytes s, no more than most, were put from the position at, and next is the position after them
pub record Wrote (most : ℕ) (s out : List ℕ) (at next : ℕ) (after : List ℕ) : Type 0 where
  pub small : length s ≤ most
  pub place : next ≡ at + length s
  pub bytes : after ≡ written out at s
