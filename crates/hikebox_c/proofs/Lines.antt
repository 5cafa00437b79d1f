-- One line more, as it is told.
use Rattle.std.proofs.Common.{◌≡◌, ℕ, ◌+◌, ◌<◌, List, [], ◌∷◌, ◌++◌, length, take, get_or, ◌∙◌, ap, arith, add-one}
use Rattle.std.proofs.Common.{length-append, refl}
use Rattle.std.proofs.Math.Seq.{take-suc}
use Rattle.std.proofs.lemmas.List.{append-nil}
use Rattle.std.proofs.lemmas.List.Concat.{flat_map-append}
use Rattle.sched_plan_course.specs.declared.lines.Line.{Line}
use Rattle.hikebox_c.specs.Courses.{output_text, outputs_text, told_by, lines_told}

pub one_more : (all : List Line) (at : ℕ) (l : Line) → at < length all → l ≡ get_or all at l
    → take (at + 1) all ≡ take at all ++ l ∷ []
one_more all at l within item = rw (add-one, take-suc all at l, ← item) refl

pub outputs_more : (ls : List Line) (l : Line) → outputs_text (ls ++ l ∷ []) ≡ outputs_text ls ++ output_text l
outputs_more ls l = flat_map-append output_text ls (l ∷ [])
    ∙ ap (λ t. outputs_text ls ++ t) (append-nil (output_text l))

told_more_at : (before : ℕ) (ls : List Line) (l : Line) → lines_told before (ls ++ l ∷ []) ≡
    lines_told before ls ++ told_by l.decision l.moment
    (before + length (outputs_text ls) + length (output_text l)) ∷ []
told_more_at before [] l =
    let same : before + length (output_text l) ≡ before + 0 + length (output_text l) = omega arith in
    ap (λ to. told_by l.decision l.moment to ∷ []) same
told_more_at before (first ∷ ls) l =
    let there = before + length (output_text first) in
    let count : length (outputs_text (first ∷ ls)) ≡ length (output_text first) + length (outputs_text ls) =
    length-append (output_text first) (outputs_text ls) in
    let same : there + length (outputs_text ls) + length (output_text l) ≡
    before + length (outputs_text (first ∷ ls)) + length (output_text l) = omega arith in
    ap (λ told. told_by first.decision first.moment there ∷ told)
    (told_more_at there ls l ∙ ap (λ to. lines_told there ls ++ told_by l.decision l.moment to ∷ []) same)

-- the line whose output ends at the end of the text so far with its own
pub told_more : (ls : List Line) (l : Line) (to : ℕ) → to ≡ length (outputs_text (ls ++ l ∷ [])) →
    lines_told 0 (ls ++ l ∷ []) ≡ lines_told 0 ls ++ told_by l.decision l.moment to ∷ []
told_more ls l to is =
    let count : length (outputs_text (ls ++ l ∷ [])) ≡ length (outputs_text ls) + length (output_text l) =
    ap length (outputs_more ls l) ∙ length-append (outputs_text ls) (output_text l) in
    let same : 0 + length (outputs_text ls) + length (output_text l) ≡ to = omega arith in
    told_more_at 0 ls l ∙ ap (λ to. lines_told 0 ls ++ told_by l.decision l.moment to ∷ []) same
