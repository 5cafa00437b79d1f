-- Each turn adds the generator's next four words.
use Rattle.std.proofs.Common.{◌≡◌, ℕ, ◌+◌, ◌-◌, List, [], ◌∷◌, ◌++◌, rules, sym, subst, arith}
use Rattle.rand_core.specs.Stream.{Stream}
use Rattle.rand_core.specs.Steps.{stream_of, steps_u32}
use Rattle.rand_xoshiro.specs.Xoshiro128.{plus_plus}
use Rattle.sched_cli_words.specs.Seeded.{fours, seeded}
use Rattle.sched_cli_words.proofs.Fours.{with_next}
use Rattle.sched_cli_words.proofs.seeded.seeded_words.Goals as goal

pub loop-preserved : goal.loop-preserved
loop-preserved c =
    let front = c.loop.words.items in
    let all = fours c.args.events (seeded c.args.seed) in
    let items : c.push.new.self.items ≡ front ++ c.four_words.result ∷ [] = search rules in
    rw items
    (subst (λ (p : List ℕ × Stream). (front ++ p.0 ∷ []) ++ fours (c.args.events - (c.loop.counter + 1)) p.1 ≡ all)
    (sym c.four_words.ensures)
    (with_next front all c.args.events c.loop.counter (stream_of (steps_u32 plus_plus) c.loop.generator)
    (omega arith) c.loop.invariant))
