-- Each read adds the bytes that it gave, until the stream ends or fails.
use Rattle.std.proofs.Common.{rules, ◌≡◌, ℕ, ◌+◌, min, true, length, List, ◌++◌, take, drop, subst, sym, ap, ◌∙◌, arith}
use Rattle.std.proofs.Common.{length-append}
use Rattle.std.specs.Result.{is_ok}
use Rattle.std.proofs.lemmas.List.{length-take, take-append-le}
use Rattle.std.proofs.KnownBytes.{Consumes-trans}
use Rattle.std.specs.Io.KnownBytes.{Consumes}
use Rattle.sched_cli_plan.proofs.whole.read_all.Goals as goal

-- a read of n bytes into room for no more makes the bytes longer by n
length_more : (bytes buf : List ℕ) (n : ℕ) → n ≡ length (take n buf) → length (bytes ++ take n buf) ≡ length bytes + n
length_more bytes buf n count = length-append bytes (take n buf) ∙ ap (λ m. length bytes + m) (sym count)

pub returns-then-is_err-clause-bytes : goal.returns-then-is_err-clause-bytes
returns-then-is_err-clause-bytes g c =
    let buf = c.read.new.buf in
    let n = c.in-Ok.taken in
    let longer = length_more c.loop.bytes.items buf n c.in-Ok.ensures.bound.1 in
    let room : length buf ≡ min c.min-room.result (length c.loop.chunk) = rw length-take at c.read.auto.buf in (
      c.loop.bytes.items ++ take n buf,
      Consumes-trans _ _ _ _ _ c.loop.invariant.reads c.in-Ok.ensures.bytes.0,
      rw longer (omega (arith, c.in-Ok.ensures.bound.0, c.loop.bytes.ok.0)),
    )

pub loop-preserved : goal.loop-preserved
loop-preserved g c =
    let buf = c.read.new.buf in
    let n = c.in-Ok.taken in
    let grew : is_ok c.extend_from_slice.result ≡ true = rw c.if-is_err.false at c.is_err.ensures.negation in
    let front : take n (buf ++ drop c.min-room.result c.loop.chunk) ≡ take n buf =
    take-append-le _ _ _ c.in-Ok.ensures.bound.0 in
    let items : c.extend_from_slice.new.self.items ≡ c.loop.bytes.items ++ take n buf =
    rw (grew, front) at c.extend_from_slice.ensures.items in
    let longer = length_more c.loop.bytes.items buf n c.in-Ok.ensures.bound.1 in
    record {
      reads =
          subst (Consumes _ _) (sym items) (Consumes-trans _ _ _ _ _ c.loop.invariant.reads c.in-Ok.ensures.bytes.0);
      fits = search rules;
      grows = rw (items, longer) (omega (arith, c.in-Ok.taken-test));
      counts = search rules;
    }
