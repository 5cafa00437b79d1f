-- What one moment more adds to the counts of a list of moments, and which moments add nothing.
use Rattle.std.proofs.Common.{◌≡◌, ℕ, ◌+◌, Bool, true, false, cond, if◌then◌else◌, ◌&&◌, List, [], ◌∷◌, ◌++◌, All}
use Rattle.std.proofs.Common.{count_by, refl, ap, ◌∙◌, add-zero, arith}
use Rattle.std.proofs.lemmas.List.Elements.{All-head, All-tail, All-weaker}
use Rattle.std.proofs.lemmas.List.Sums.{sum_by_push, sum_by-cons}
use Rattle.sched_storm_report.specs.Counts.{no_counts, with_request, with_retry, with_won, with_success, with_failure}
use Rattle.sched_storm_report.specs.Counts.{with_happening, score_after}
use Rattle.sched_storm_report.specs.Moments.{is_request, is_retry, is_call, is_success, is_refused, is_shed, is_late}
use Rattle.sched_storm_report.specs.Moments.{is_lost, is_denied, is_granted, is_ticket, is_won_from, counts_where}
use Rattle.sched_storm_report.specs.Moments.{always, score_of}
use Rattle.sched_storm_report.specs.Told.{credited}
use Rattle.sched_storm_report.specs.declared.moments.Failure.TheVariants as failed
use Rattle.sched_storm_report.specs.declared.moments.Then.TheVariants.{Lost, Denied, Waits}
use Rattle.sched_storm_report.specs.declared.moments.Happening.{Happening}
use Rattle.sched_storm_report.specs.declared.moments.Happening.TheVariants.{Request, Retry, Won, Failed, Refused}
use Rattle.sched_storm_report.specs.declared.moments.Moment.{Moment}
use Rattle.sched_storm_report.specs.declared.peer.Busy.{Busy}
use Rattle.sched_storm_report.specs.declared.counts.Counts.{Counts}
use Rattle.sched_storm_report.specs.declared.counts.Score.{Score}

-- counts are the same where each of them is
pub same_counts : (a b : Counts) → a.requests ≡ b.requests → a.won ≡ b.won → a.retries ≡ b.retries →
    a.succeeded ≡ b.succeeded → a.refused ≡ b.refused → a.shed ≡ b.shed → a.late ≡ b.late → a ≡ b
same_counts a b requests won retries succeeded refused shed late = λ i. record {
  requests = requests i;
  won = won i;
  retries = retries i;
  succeeded = succeeded i;
  refused = refused i;
  shed = shed i;
  late = late i;
}

same_score : (a b : Score) → a.all ≡ b.all → a.calls ≡ b.calls → a.lost ≡ b.lost → a.denied ≡ b.denied →
    a.granted ≡ b.granted → a.tickets ≡ b.tickets → a ≡ b
same_score a b all calls lost denied granted tickets = λ i. record {
  all = all i;
  calls = calls i;
  lost = lost i;
  denied = denied i;
  granted = granted i;
  tickets = tickets i;
}

module _ (here : ℕ → Bool) (told : List Moment) (m : Moment) where
  -- a moment that passes the test counts where it is of this kind
  counts_in : (test : Happening → Bool) → here m.at ≡ true →
      count_by (λ m. here m.at && test m.what) (told ++ m ∷ []) ≡
      count_by (λ m. here m.at && test m.what) told + cond (test m.what) 1 0
  counts_in test passes = let p : Moment → Bool = λ m. here m.at && test m.what in
      sum_by_push (λ m. cond (p m) 1 0) told m ∙ ap (λ b. count_by p told + cond (b && test m.what) 1 0) passes

  -- one that does not pass it counts nothing
  counts_out : (test : Happening → Bool) → here m.at ≡ false →
      count_by (λ m. here m.at && test m.what) (told ++ m ∷ []) ≡ count_by (λ m. here m.at && test m.what) told
  counts_out test fails = let p : Moment → Bool = λ m. here m.at && test m.what in
      sum_by_push (λ m. cond (p m) 1 0) told m ∙ (ap (λ b. count_by p told + cond (b && test m.what) 1 0) fails
      ∙ add-zero (count_by p told))

  -- a request that is won counts where it began
  counts_won : count_by (λ m. is_won_from here m.what) (told ++ m ∷ []) ≡
      count_by (λ m. is_won_from here m.what) told + cond (is_won_from here m.what) 1 0
  counts_won = sum_by_push (λ m. cond (is_won_from here m.what) 1 0) told m

-- where a request is won, and its counts have grown by these
won_shown : (b : Bool) (c d : Counts) → d.requests ≡ c.requests + 0 → d.won ≡ c.won + cond b 1 0 →
    d.retries ≡ c.retries + 0 →
    d.succeeded ≡ c.succeeded + 1 → d.refused ≡ c.refused + 0 → d.shed ≡ c.shed + 0 → d.late ≡ c.late + 0 →
    d ≡ with_success (if b then with_won c else c)
won_shown true c d requests won retries succeeded refused shed late =
    same_counts d (with_success (with_won c)) (omega arith) won (omega arith) succeeded (omega arith) (omega arith)
    (omega arith)
won_shown false c d requests won retries succeeded refused shed late =
    same_counts d (with_success c) (omega arith) (omega arith) (omega arith) succeeded (omega arith) (omega arith)
    (omega arith)

-- counts that have grown by what one moment is
shown : (here : ℕ → Bool) (c d : Counts) (what : Happening) → d.requests ≡ c.requests + cond (is_request what) 1 0 →
    d.won ≡ c.won + cond (is_won_from here what) 1 0 → d.retries ≡ c.retries + cond (is_retry what) 1 0 →
    d.succeeded ≡ c.succeeded + cond (is_success what) 1 0 → d.refused ≡ c.refused + cond (is_refused what) 1 0 →
    d.shed ≡ c.shed + cond (is_shed what) 1 0 → d.late ≡ c.late + cond (is_late what) 1 0 →
    d ≡ with_happening what (credited here what c)
shown here c d Request requests won retries succeeded refused shed late =
    same_counts d (with_request c) requests (omega arith) (omega arith) (omega arith) (omega arith) (omega arith)
    (omega arith)
shown here c d Retry requests won retries succeeded refused shed late =
    same_counts d (with_retry c) (omega arith) (omega arith) retries (omega arith) (omega arith) (omega arith)
    (omega arith)
shown here c d (Won began) requests won retries succeeded refused shed late =
    won_shown (here began) c d requests won retries succeeded refused shed late
shown here c d (Failed failed.Refused next) requests won retries succeeded refused shed late =
    same_counts d (with_failure failed.Refused c) (omega arith) (omega arith) (omega arith) (omega arith) refused
    (omega arith) (omega arith)
shown here c d (Failed failed.Shed next) requests won retries succeeded refused shed late =
    same_counts d (with_failure failed.Shed c) (omega arith) (omega arith) (omega arith) (omega arith)
    (omega arith) shed (omega arith)
shown here c d (Failed failed.Late next) requests won retries succeeded refused shed late =
    same_counts d (with_failure failed.Late c) (omega arith) (omega arith) (omega arith) (omega arith) (omega arith)
    (omega arith) late
shown here c d Refused requests won retries succeeded refused shed late =
    same_counts d (with_request c) requests (omega arith) (omega arith) (omega arith) (omega arith) (omega arith)
    (omega arith)

-- A moment that passes the test counts as what it is, and a request that is won counts where it began.
pub counts_here : (here : ℕ → Bool) (told : List Moment) (at : ℕ) (what : Happening) (busy : Busy) → here at ≡ true →
    counts_where here (told ++ record { at = at; what = what; busy = busy } ∷ []) ≡
    with_happening what (credited here what (counts_where here told))
counts_here here told at what busy passes = let m : Moment = record { at = at; what = what; busy = busy } in
    shown here (counts_where here told) (counts_where here (told ++ m ∷ [])) what
    (counts_in here told m is_request passes)
    (counts_won here told m) (counts_in here told m is_retry passes) (counts_in here told m is_success passes)
    (counts_in here told m is_refused passes) (counts_in here told m is_shed passes)
    (counts_in here told m is_late passes)

-- Where it does not pass the test, only a request that is won counts, where it began.
out_shown : (here : ℕ → Bool) (c d : Counts) (what : Happening) → d.requests ≡ c.requests →
    d.won ≡ c.won + cond (is_won_from here what) 1 0 → d.retries ≡ c.retries → d.succeeded ≡ c.succeeded →
    d.refused ≡ c.refused → d.shed ≡ c.shed → d.late ≡ c.late → d ≡ credited here what c
out_shown here c d Request requests won retries succeeded refused shed late =
    same_counts d c requests (omega arith) retries succeeded refused shed late
out_shown here c d Retry requests won retries succeeded refused shed late =
    same_counts d c requests (omega arith) retries succeeded refused shed late
out_shown here c d (Won began) requests won retries succeeded refused shed late =
    let shown : (b : Bool) → d.won ≡ c.won + cond b 1 0 → d ≡ (if b then with_won c else c) = λ b.
    elim b as (λ b. d.won ≡ c.won + cond b 1 0 → d ≡ (if b then with_won c else c)) [
      | true ↦ λ e. same_counts d (with_won c) requests e retries succeeded refused shed late
      | false ↦ λ e. same_counts d c requests (e ∙ add-zero c.won) retries succeeded refused shed late
    ] in
    shown (here began) won
out_shown here c d (Failed failure next) requests won retries succeeded refused shed late =
    same_counts d c requests (omega arith) retries succeeded refused shed late
out_shown here c d Refused requests won retries succeeded refused shed late =
    same_counts d c requests (omega arith) retries succeeded refused shed late

pub counts_elsewhere : (here : ℕ → Bool) (told : List Moment) (at : ℕ) (what : Happening) (busy : Busy) →
    here at ≡ false →
    counts_where here (told ++ record {
      at = at;
      what = what;
      busy =
          busy;
    } ∷ []) ≡ credited here what (counts_where here told)
counts_elsewhere here told at what busy fails = let m : Moment = record { at = at; what = what; busy = busy } in
    out_shown here (counts_where here told) (counts_where here (told ++ m ∷ [])) what
    (counts_out here told m is_request fails)
    (counts_won here told m) (counts_out here told m is_retry fails) (counts_out here told m is_success fails)
    (counts_out here told m is_refused fails) (counts_out here told m is_shed fails)
    (counts_out here told m is_late fails)

-- one moment more in the score of all
grown : (what : Happening) (s t : Score) → t.all ≡ with_happening what (credited always what s.all) →
    t.calls ≡ s.calls + cond (is_call what) 1 0 → t.lost ≡ s.lost + cond (is_lost what) 1 0 →
    t.denied ≡ s.denied + cond (is_denied what) 1 0 → t.granted ≡ s.granted + cond (is_granted what) 1 0 →
    t.tickets ≡ s.tickets + cond (is_ticket what) 1 0 →
    t ≡ score_after what (record s { all = credited always what s.all })
grown Request s t all calls lost denied granted tickets =
    same_score t (score_after Request s) all calls (omega arith) (omega arith) (omega arith) (omega arith)
grown Retry s t all calls lost denied granted tickets =
    same_score t (score_after Retry s) all calls (omega arith) (omega arith) (omega arith) (omega arith)
grown (Won began) s t all calls lost denied granted tickets =
    same_score t (score_after (Won began) (record s { all = with_won s.all })) all (omega arith) (omega arith)
    (omega arith) (omega arith) (omega arith)
grown (Failed failure Lost) s t all calls lost denied granted tickets =
    same_score t (score_after (Failed failure Lost) s) all (omega arith) lost (omega arith) (omega arith) (omega arith)
grown (Failed failure Denied) s t all calls lost denied granted tickets =
    same_score t (score_after (Failed failure Denied) s) all (omega arith) (omega arith) denied (omega arith)
    (omega arith)
grown (Failed failure (Waits true)) s t all calls lost denied granted tickets =
    same_score t (score_after (Failed failure (Waits true)) s) all (omega arith) (omega arith) (omega arith)
    granted tickets
grown (Failed failure (Waits false)) s t all calls lost denied granted tickets =
    same_score t (score_after (Failed failure (Waits false)) s) all (omega arith) (omega arith) (omega arith)
    granted (omega arith)
grown Refused s t all calls lost denied granted tickets =
    same_score t (score_after Refused s) all (omega arith) (omega arith) denied (omega arith) (omega arith)

pub score_more : (told : List Moment) (at : ℕ) (what : Happening) (busy : Busy) →
    score_of (told ++ record { at = at; what = what; busy = busy } ∷ []) ≡
    score_after what (record (score_of told) { all = credited always what (counts_where always told) })
score_more told at what busy = let m : Moment = record { at = at; what = what; busy = busy } in
    let count : (test : Happening → Bool) → count_by (λ m. test m.what) (told ++ m ∷ []) ≡
    count_by (λ m. test m.what) told + cond (test what) 1 0 = λ test.
    sum_by_push (λ m. cond (test m.what) 1 0) told m in
    grown what (score_of told) (score_of (told ++ m ∷ [])) (counts_here always told at what busy refl)
    (count is_call) (count is_lost) (count is_denied) (count is_granted) (count is_ticket)

-- No moment of the list passes the test, and no request began at one that does.
pub record IsOutside (here : ℕ → Bool) (m : Moment) : Type 0 where
  pub at : here m.at ≡ false
  pub won : is_won_from here m.what ≡ false

none : (p : Moment → Bool) (told : List Moment) → All (λ m. p m ≡ false) told → count_by p told ≡ 0
none p [] fails = refl
none p (m ∷ ms) fails =
    let first : p m ≡ false = All-head (λ m. p m ≡ false) m ms fails in
    let rest : count_by p ms ≡ 0 = none p ms (All-tail (λ m. p m ≡ false) m ms fails) in
    sum_by-cons (λ m. cond (p m) 1 0) m ms ∙ (ap (λ b. cond b 1 0 + count_by p ms) first ∙ (ap (λ n. 0 + n) rest))

pub counts_none : (here : ℕ → Bool) (told : List Moment) → All (IsOutside here) told →
    counts_where here told ≡ no_counts
counts_none here told out =
    let no : (test : Happening → Bool) → count_by (λ m. here m.at && test m.what) told ≡ 0 = λ test.
    none (λ m. here m.at && test m.what) told
    (All-weaker (IsOutside here) (λ m. (here m.at && test m.what)
    ≡ false) (λ m o. ap (λ b. b && test m.what) o.at) told out) in
    same_counts (counts_where here told) no_counts (no is_request)
    (none (λ m. is_won_from here m.what) told
    (All-weaker (IsOutside here) (λ m. is_won_from here m.what ≡ false) (λ m o. o.won) told out))
    (no is_retry) (no is_success) (no is_refused) (no is_shed) (no is_late)
