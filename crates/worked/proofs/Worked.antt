-- The worked example, computed. Assumes nothing.
use Rattle.std.proofs.Common.{Some}
use mathlib.Core.List.{[], ◌∷◌}
use mathlib.Core.Logic.{inl}
use mathlib.Core.Path.{◌≡◌, refl, subst}
use lib.Dec.{lit<, lit≤}
use lib.Ieee.{to_bits}
use Rattle.description.specs.declared.Distribution.TheVariants.{Always}
use Rattle.description.specs.declared.Policy.TheVariants.{Held}
use Rattle.notation.specs.Notation.{digit_byte, digits_of, hex_of, decimal_within, decimal_of}
use Rattle.description.specs.Text.{Written, text_of, InWidth, given, answer_of}
use Rattle.printer.specs.Printing.{record_text, stop_text, flow_text}
use Rattle.remy.proofs.Opened.{ticking}
use Rattle.lines.specs.Lines.{record_line, stop_line, flow_at, flow_lines, flow_count, record_lines, end_lines, run_lines}
use Rattle.report.specs.Report.{left_of, begun_of, answered_of, report_of}
use Rattle.worked.specs.Worked.{description, printed, Worked}

abbrev read : Written
read =
    record {
      delay = 0x3ff0_0000_0000_0000;
      rate = 0x4020_0000_0000_0000;
      loss = 0;
      limit = Some 8;
      bits = 8 ∷ [];
      senders = 1;
      on = Always 0x4059_0000_0000_0000;
      off = Always 0x3ff0_0000_0000_0000;
      policy = Held 3;
      seed = 1;
      ticks = 7;
    }

text : description ≡ text_of read
unfolding text_of hex_of digits_of digit_byte decimal_of decimal_within
text = refl

in_width : InWidth read
unfolding decimal_of decimal_within
in_width =
    record {
      delay = lit< tt;
      rate = lit< tt;
      loss = lit< tt;
      limit = lit< tt;
      bits = (lit< tt, tt);
      count = inl refl;
      line = lit≤ tt;
      senders = lit< tt;
      on = lit< tt;
      off = lit< tt;
      policy = lit< tt;
      seed = lit< tt;
      ticks = lit≤ tt;
    }

lines : left_of (report_of (given read)) ≡ printed
unfolding ticking left_of report_of answered_of begun_of answer_of run_lines record_lines record_line end_lines stop_line flow_lines flow_count flow_at record_text stop_text flow_text hex_of digits_of digit_byte decimal_of decimal_within to_bits
lines = refl

pub worked : Worked
worked P w = subst P lines (w.given read text in_width)
