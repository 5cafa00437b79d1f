-- What was written when `write_lines` stops is a front of the pool's lines.
use Rattle.std.proofs.Common.{◌≡◌, ◌∷◌, ◌+◌, ◌++◌, ap, sym, drop, ◌∙◌, string_bytes, arith}
use Rattle.std.proofs.lemmas.List.{drop_more, drop_all}
use Rattle.std.proofs.lemmas.Result.{err_from_is_err_and}
use Rattle.sched_task_law.specs.Past.{Past}
use Rattle.sched_cli_pool.specs.PoolText.{line_text, job_text}
use Rattle.sched_cli_plan.proofs.Written.{closes}
use Rattle.sched_cli_pool.proofs.PoolLines.{pool_stopped, pool_goes_on, pool_stopped_in_line, pool_ends}
use Rattle.sched_cli_pool.proofs.ended.write_lines.Goals as goal

pub returns-in_err-push_line-clause-text : goal.returns-in_err-push_line-clause-text
returns-in_err-push_line-clause-text g c =
    let p = err_from_is_err_and c.from_residual.result c.from_residual.ensures.1 in
    rw (p.1, p.2)
    (pool_stopped c.args.ends.now c.args.last.now c.loop-number.number _ _ _ c.loop-number.invariant.printed)

pub returns-in_err-put_long-clause-text : goal.returns-in_err-put_long-clause-text
returns-in_err-put_long-clause-text g c =
    let p = err_from_is_err_and c.from_residual-in_err-put_long.result c.from_residual-in_err-put_long.ensures.1 in
    let v = c.index-ends-number.result in
    let n = c.loop-number.number in
    let line : line_text n c.how.result c.runs.result.now c.granted.result ≡ job_text n v =
    (λ i. line_text n (c.how.ensures.how i) ((c.runs.ensures ∙ c.effect.ensures) i) (c.granted.ensures.granted i)) in
    let at : drop n c.args.ends.now ≡ v ∷ drop (n + 1) c.args.ends.now = drop_more c.args.ends.now n v (omega arith)
    ∙ ap (λ (x : Past). x ∷ drop (n + 1) c.args.ends.now) (sym c.index-ends-number.is) in
    rw (p.1, p.2)
    (pool_stopped_in_line c.args.ends.now c.args.last.now n _ _ _ c.loop-number.invariant.printed v at _
    (c.in_ok-push_line.ensures ∙ ap (λ l. string_bytes c.loop-number.lines ++ l) line)
    _ c.in_err-put_long.field-0.0 c.in_err-put_long.ensures.bytes)

pub loop-number-preserved : goal.loop-number-preserved
loop-number-preserved g c =
    let v = c.index-ends-number.result in
    let n = c.loop-number.number in
    let line : line_text n c.how.result c.runs.result.now c.granted.result ≡ job_text n v =
    (λ i. line_text n (c.how.ensures.how i) ((c.runs.ensures ∙ c.effect.ensures) i) (c.granted.ensures.granted i)) in
    let at : drop n c.args.ends.now ≡ v ∷ drop (n + 1) c.args.ends.now = drop_more c.args.ends.now n v (omega arith)
    ∙ ap (λ (x : Past). x ∷ drop (n + 1) c.args.ends.now) (sym c.index-ends-number.is) in
    record {
      printed =
          pool_goes_on c.args.ends.now c.args.last.now n _ _ _ c.loop-number.invariant.printed v at _
          (c.in_ok-push_line.ensures ∙ ap (λ l. string_bytes c.loop-number.lines ++ l) line)
          _ _ c.in_ok-put_long.ensures.bytes;
      counts = c.in_ok-put_long.ensures.counts ∙ c.loop-number.invariant.counts;
    }

pub returns-in_err-push_str-clause-text : goal.returns-in_err-push_str-clause-text
returns-in_err-push_str-clause-text g c =
    let p = err_from_is_err_and c.from_residual-in_err-push_str.result c.from_residual-in_err-push_str.ensures.1 in
    rw (p.1, p.2)
    (pool_stopped c.args.ends.now c.args.last.now c.loop-number.number _ _ _ c.loop-number.invariant.printed)

pub returns-clause-text : goal.returns-clause-text
returns-clause-text g c =
    closes _ _ _ c.as_bytes.result.now
    (pool_ends c.args.ends.now c.args.last.now c.loop-number.number _ _ _ c.loop-number.invariant.printed
    (drop_all c.loop-number.number c.args.ends.now (omega arith))
    _ (c.as_bytes.ensures.value ∙ c.in_ok-push_str.ensures.bytes))
    _ c.put_all.result c.put_all.ensures.bytes
