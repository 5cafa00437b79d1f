-- The lines and the text so far are those of the lines of the course so far.
use Rattle.std.proofs.Common.{◌≡◌, take, string_bytes}
use Rattle.hikebox_c.specs.Courses.{outputs_text, lines_told}
use Rattle.hikebox_c.proofs.courses.lines_told.Given as goal

abbrev pub invariant-loop-line : goal.invariant-loop-line
invariant-loop-line l = record {
  lines : l.lines.items ≡ lines_told 0 (take l.line-index l.line-items);
  text : string_bytes l.text ≡ outputs_text (take l.line-index l.line-items);
}
