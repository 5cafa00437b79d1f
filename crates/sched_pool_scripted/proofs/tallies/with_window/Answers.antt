-- The windows have one more, or are lost where memory was refused.
use Rattle.std.proofs.Common.{rules, ◌≡◌, [], ◌∷◌, ◌++◌, Some}
use Rattle.sched_pool_scripted.proofs.Noted.{pushed_same}
use Rattle.sched_pool_scripted.proofs.tallies.with_window.Goals as goal

pub returns : goal.returns
returns c =
    let was : c.args.windows ≡ Some c.in_ok-windows.windows = c.in_ok-windows.was in
    let items : c.push.new.self.items ≡ c.in_ok-windows.windows.items ++ c.args.window ∷ [] = search rules in
    rw (was, items) (pushed_same c.in_ok-windows.windows.items c.args.window)
