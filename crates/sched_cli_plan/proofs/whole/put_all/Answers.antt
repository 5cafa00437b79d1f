-- Each write moves the bytes that it took from the rest to those written.
use Rattle.std.proofs.Common.{◌≡◌, ℕ, ◌-◌, List, ◌++◌, rules, length, take, drop, sym, ap, ◌∙◌, append_assoc}
use Rattle.std.proofs.Common.{take-append-drop}
use Rattle.std.proofs.lemmas.List.{take_rest}
use Rattle.std.proofs.KnownBytes.{Appends-trans}
use Rattle.sched_cli_plan.proofs.whole.put_all.Goals as goal

-- the bytes that a write took go over from the rest to the front
moves_front : (text front rest : List ℕ) (n : ℕ) → text ≡ front ++ rest
    → text ≡ (front ++ take n rest) ++ take (length rest - n) (drop n rest)
moves_front text front rest n split =
    split ∙ ap (λ l. front ++ l) (sym (take-append-drop n rest)) ∙ sym (append_assoc front (take n rest) (drop n rest))
    ∙ ap (λ l. (front ++ take n rest) ++ l) (sym (take_rest rest n))

pub loop-rest-preserved : goal.loop-rest-preserved
loop-rest-preserved g c =
    let (front, split, written) = c.loop-rest.invariant.written in
    let rest = c.loop-rest.rest.now in
    record {
      written = (
        front ++ take c.in-Ok.taken rest,
        moves_front _ front rest _ split,
        Appends-trans _ _ _ _ _ written c.in-Ok.ensures.bytes,
      );
      counts = search rules;
    }
