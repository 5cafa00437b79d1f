-- All lines of a course are told, and the text is that of all their outputs.
use Rattle.std.proofs.Common.{◌≡◌, ◌∷◌, [], ◌++◌, length, take, string_bytes, sym, ◌∙◌, ap}
use Rattle.std_alloc.proofs.Concat.{String-len_is}
use Rattle.hikebox_c.specs.Courses.{outputs_text, lines_told}
use Rattle.hikebox_c.proofs.Lines.{one_more, outputs_more, told_more}
use Rattle.hikebox_c.proofs.courses.lines_told.Goals as goal

pub loop-line-preserved : goal.loop-line-preserved
loop-line-preserved c =
    let item = c.line-item.result in
    let was = take c.loop-line.line-index c.deref-line-items.result.now in
    let all = c.deref-line-items.result.now in
    let grown = one_more all c.loop-line.line-index item c.loop-line-test.true c.line-item.is in
    let text : string_bytes c.push_str.new.self ≡ outputs_text (was ++ item ∷ []) =
    c.in_ok-push_str.ensures.bytes ∙ ap (λ t. t ++ c.as_str.result.now) c.loop-line.invariant.text
    ∙ ap (λ o. outputs_text was ++ o) (c.as_str.ensures.value ∙ c.in_ok-output.ensures) ∙ sym (outputs_more was item) in
    let to_is : c.len-in-loop-line.result ≡ length (outputs_text (was ++ item ∷ [])) =
    c.len-in-loop-line.ensures ∙ String-len_is c.push_str.new.self ∙ ap length text in
    record {
      lines =
          c.in_ok-push.ensures.items ∙ ap (λ ls. ls ++ c.of.result ∷ []) c.loop-line.invariant.lines
          ∙ ap (λ l. lines_told 0 was ++ l ∷ []) c.of.ensures ∙ sym (told_more was item c.len-in-loop-line.result to_is)
          ∙ ap (lines_told 0) (sym grown);
      text = text ∙ ap outputs_text (sym grown);
    }
