-- What contracts see of a limit that retries draw on, and what each call does.
use Rattle.std.specs.Prelude.{◌≡◌, ℕ, ◌+◌, ◌<◌, ◌⊎◌, Bool, true, false, ⊤, Option, Some, None, is_some, Ok, Err, refl}
use Rattle.std.proofs.Common.{inl, inr, ap}
use Rattle.rand_core.specs.Stream.{Stream, next_u32}
use Rattle.sched_limit.specs.Step.{Answer}
use Rattle.sched_limit.specs.declared.refusal.Refusal.{Refusal}
use Rattle.sched_limit.specs.declared.request.Told.{Told}
use Rattle.sched_limit.specs.declared.request.Told.TheVariants as told
use Rattle.sched_limit_request.specs.Asks.{Asked, Hears}
use Rattle.sched_ticket_draws.specs.Counted.{count_after}
use Rattle.sched_ticket_draws.specs.Grants.{Grants, Lawful, IsSame, IsTold}
use Rattle.sched_limit_draws.specs.Costs.{cost_of}
use Rattle.sched_limit_draws.specs.declared.costs.Costs.{Costs}

-- A limit of L, a generator of G, and what is kept of the calls on the limit.
pub record OfAsks (L G : Type 0) : Type 0 where
  pub limit : L
  -- what gives the random words to come
  pub words : G
  pub costs : Costs
  -- what the next draw costs
  pub cost : ℕ
  -- how many draws were granted
  pub granted : ℕ
  -- why it refused last, if it has
  pub refusal : Option Refusal

-- a limit on which no retry has drawn, and which has refused none
abbrev pub fresh_on : {L G : Type 0} → L → G → Costs → OfAsks L G
fresh_on limit words costs =
    record { limit = limit; words = words; costs = costs; cost = costs.each; granted = 0; refusal = None }

-- where the run was not begun that was to be made next, its draw is cancelled first
abbrev pub Cancelled : {L : Type 0} → Asked L → Bool → L → L → Type 0
Cancelled asked true l m = Hears asked told.Cancelled l m
Cancelled asked false l m = m ≡ l

module _ {L G : Type 0} (asked : Asked L) (stream : G → Stream) where
  -- the limit is asked with the next word of the generator
  pub record AsksNext (d : OfAsks L G) (told : Told) (answer : Answer) (e : OfAsks L G) : Type 0 where
    pub tells : asked.tells d.limit told (next_u32 (stream d.words)).0 answer e.limit
    pub words : stream e.words ≡ (next_u32 (stream d.words)).1

  abbrev with_next : OfAsks L G → OfAsks L G → OfAsks L G
  with_next d e = record d { limit = e.limit; words = e.words }

  -- a request is admitted, or refused for a reason, which is kept
  abbrev pub AsksAdmitted : OfAsks L G → ℕ → Bool → OfAsks L G → Type 0
  AsksAdmitted d now true e = AsksNext d (told.Admit now) (Ok tt) e × (e ≡ with_next d e)
  AsksAdmitted d now false e = (why : Refusal) × AsksNext d (told.Admit now) (Err why) e
      × (e ≡ record (with_next d e) { refusal = Some why })

  -- A draw is granted at the cost of the failure told last, or refused for a reason, which is kept. Where 2^64 - 1 were
  -- granted it is refused, and the limit is not asked.
  abbrev pub AsksDrew : OfAsks L G → ℕ → Bool → OfAsks L G → Type 0
  AsksDrew d now true e = (d.granted < 18446744073709551615)
      × AsksNext d (told.Draw now d.cost) (Ok tt) e
      × (e ≡ record (with_next d e) { granted = d.granted + 1 })
  AsksDrew d now false e = ((d.granted ≡ 18446744073709551615) × (e ≡ d))
      ⊎ ((why : Refusal) × AsksNext d (told.Draw now d.cost) (Err why) e
      × (e ≡ record (with_next d e) { refusal = Some why }))

  abbrev pub AsksSucceeded : OfAsks L G → ℕ → OfAsks L G → Type 0
  AsksSucceeded d now e = Hears asked (told.Succeeded now) d.limit e.limit × (e ≡ record d { limit = e.limit })

  -- the code of a failure says what the next draw costs
  abbrev pub AsksFailed : OfAsks L G → ℕ → ℕ → OfAsks L G → Type 0
  AsksFailed d now code e = Hears asked (told.Failed now) d.limit e.limit
      × (e ≡ record d { limit = e.limit; cost = cost_of d.costs code })

  abbrev pub AsksEnded : OfAsks L G → Bool → OfAsks L G → Type 0
  AsksEnded d unused e = (l : L) × Cancelled asked unused d.limit l × Hears asked told.Ended l e.limit
      × (e ≡ record d { limit = e.limit })

  abbrev pub asks_grants : Grants (OfAsks L G)
  asks_grants = record {
    Name = ⊤;
    name = λ _. tt;
    granted = λ d. d.granted;
    admitted = AsksAdmitted;
    drew = AsksDrew;
    succeeded = AsksSucceeded;
    failed = AsksFailed;
    ended = AsksEnded;
    refused = λ d. (d.granted ≡ 18446744073709551615) ⊎ (is_some d.refusal ≡ true);
    stands = λ _. ⊤;
  }

  AsksDrew-counts : (d : OfAsks L G) (now : ℕ) (got : Bool) (e : OfAsks L G) → AsksDrew d now got e →
      e.granted ≡ count_after got d.granted
  AsksDrew-counts d now true e drew = ap (λ (d : OfAsks L G). d.granted) drew.2
  AsksDrew-counts d now false e drew = elim drew [
    | inl out ↦ ap (λ (d : OfAsks L G). d.granted) out.1
    | inr refused ↦ ap (λ (d : OfAsks L G). d.granted) refused.2
  ]

  AsksDrew-denies : (d : OfAsks L G) (now : ℕ) (e : OfAsks L G) → AsksDrew d now false e →
      (e.granted ≡ 18446744073709551615) ⊎ (is_some e.refusal ≡ true)
  AsksDrew-denies d now e drew = elim drew [
    | inl out ↦ inl (rw out.1 out.0)
    | inr refused ↦ inr (ap (λ (d : OfAsks L G). is_some d.refusal) refused.2)
  ]

  AsksAdmitted-same : (d : OfAsks L G) (now : ℕ) (got : Bool) (e : OfAsks L G) → AsksAdmitted d now got e →
      IsSame asks_grants d e
  AsksAdmitted-same d now true e admitted =
      record { name = refl; granted = ap (λ (d : OfAsks L G). d.granted) admitted.1; stands = λ _. tt }
  AsksAdmitted-same d now false e admitted =
      record { name = refl; granted = ap (λ (d : OfAsks L G). d.granted) admitted.2; stands = λ _. tt }

  -- what is told keeps what was granted and why it refused
  told_so : (d e : OfAsks L G) → e.granted ≡ d.granted → e.refusal ≡ d.refusal → IsTold asks_grants d e
  told_so d e granted refusal = record {
    same = record { name = refl; granted = granted; stands = λ _. tt };
    refused = λ was. elim was [
      | inl out ↦ inl (rw granted out)
      | inr some ↦ inr (rw refusal some)
    ];
  }

  told_limit : (d e : OfAsks L G) → e ≡ record d { limit = e.limit } → IsTold asks_grants d e
  told_limit d e same =
      told_so d e (ap (λ (d : OfAsks L G). d.granted) same) (ap (λ (d : OfAsks L G). d.refusal) same)

  pub asks_lawful : Lawful asks_grants
  asks_lawful = record {
    keeps = λ _ _ _ _ _. refl;
    counts = AsksDrew-counts;
    denies = AsksDrew-denies;
    admits = AsksAdmitted-same;
    succeeds = λ d now e told. told_limit d e told.1;
    fails = λ d now code e told.
        told_so d e (ap (λ (d : OfAsks L G). d.granted) told.1) (ap (λ (d : OfAsks L G). d.refusal) told.1);
    ends = λ d unused e told. told_limit d e told.3;
  }
