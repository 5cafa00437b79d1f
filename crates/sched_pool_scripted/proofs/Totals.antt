-- What the close of a budget says of the jobs that drew on it.
use Rattle.std.proofs.Common.{◌≡◌, ℕ, false, List, length, ap, ◌∙◌, arith}
use Rattle.sched_ticket.specs.View.{terms}
use Rattle.sched_ticket.specs.Held.{Name, Held}
use Rattle.sched_ticket.specs.Whole.{IsWhole}
use Rattle.sched_ticket.specs.declared.view.Terms.{Terms}
use Rattle.sched_task_law.specs.Past.{Past}
use Rattle.sched_pool.specs.Ends.{TotalsAgree}
use Rattle.sched_pool_json.specs.Job.{Job}
use Rattle.sched_pool_scripted.specs.Ends.{AreEndsOf}
use Rattle.sched_pool_scripted.specs.Batch.{AreRun, IsNewEnd}

-- what the jobs were granted is what a budget of this limit gave out
pub are_run : TotalsAgree
    → (jobs : List Job) (limit : ℕ) (budget : Name) (n : ℕ) (ends : List Past) (pass : Held) (granted total : ℕ)
    → budget.terms ≡ terms limit false → IsNewEnd budget n ends pass granted → IsWhole budget.terms pass.has
    → total ≡ length pass.has.tickets → AreEndsOf jobs ends → AreRun jobs limit ends total
are_run agree jobs limit budget n ends pass granted total made end whole count each =
    let agrees = agree budget n end.0 ends pass granted end.2 whole in
    let same : whole.limit ≡ budget.terms.limit = whole.fixed (ap (λ (k : Terms). k.rises) made) in
    let is_limit : whole.limit ≡ limit = same ∙ ap (λ (k : Terms). k.limit) made in
    let none : length end.0.has.tickets ≡ 0 = ap length end.1 in
    let drawn = agrees.count in
    let all : length pass.has.tickets ≡ granted = omega (arith, drawn, none) in
    let few = whole.few in
    record {
      each = each;
      laws = end.2.laws;
      sum = count ∙ all ∙ end.2.sum;
      within = omega (arith, count, few, is_limit);
      full = λ refused. count ∙ agrees.full refused same ∙ is_limit;
    }
