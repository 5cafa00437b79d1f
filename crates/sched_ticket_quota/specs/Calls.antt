-- What each call does to a pass, and when each refusal comes.
use Rattle.std.specs.Prelude.{◌≡◌, ℕ, true, ◌+◌, ◌-◌, ◌<◌, ◌≤◌, ◌⊎◌, ◌%◌, max, List, ◌∷◌, Option, None, Some}
use Rattle.sched_ticket_quota.specs.Windows.{window_of, first_of, window_at, end_of, terms_of, back_in, floor_of}
use Rattle.sched_ticket_quota.specs.View.{with_reading, note_for, with_note, with_opening, with_requests, with_ticket}
use Rattle.sched_ticket_quota.specs.View.{next_ticket}
use Rattle.sched_ticket_quota.specs.View.{joined_view}
use Rattle.sched_ticket_quota.specs.Steps.{IsNoLater, IsLater}
use Rattle.sched_ticket_quota.specs.Held.{Name, Held, AreTerms}
use Rattle.sched_ticket_quota.specs.declared.view.Terms.{Terms}
use Rattle.sched_ticket_quota.specs.declared.view.View.{View}
use Rattle.sched_ticket_quota.specs.declared.fault.QuotaFault.{QuotaFault}
use Rattle.sched_ticket_quota.specs.declared.fault.QuotaFault.TheVariants.{ReserveTooLarge, ShareTooLarge}
use Rattle.sched_ticket_quota.specs.declared.fault.QuotaFault.TheVariants.{PeriodTooShort, NoMemory, TooManyPasses}
use Rattle.sched_ticket_quota.specs.declared.pass.Usage.{Usage}
use Rattle.sched_ticket_quota.specs.declared.fault.Refusal.{Refusal}
use Rattle.sched_ticket_quota.specs.declared.fault.Refusal.TheVariants.{WindowOut, RacesLost}
use Rattle.sched_ticket_quota.specs.declared.fault.NotBack.{NotBack}
use Rattle.sched_ticket_quota.specs.declared.fault.NotBack.TheVariants.{NoTicket, RacesLost as RacesWereLost}

-- a quota of these terms is not made for this reason
abbrev pub RefusesTerms : Terms → QuotaFault → Type 0
RefusesTerms k ReserveTooLarge = 4294967296 < k.reserve
RefusesTerms k ShareTooLarge = (k.reserve ≤ 4294967296) × (1000000 < k.share)
RefusesTerms k PeriodTooShort = (k.reserve ≤ 4294967296) × (k.share ≤ 1000000) × (k.period < 100)
RefusesTerms k NoMemory = AreTerms k
RefusesTerms k TooManyPasses = ⊥

-- the pass read that the moment's window was opened
abbrev pub Meets : ℕ → View → View → Type 0
Meets at v u = (q : ℕ) × (v.seen ≤ q) × (at ≤ window_of q) × (u ≡ with_reading v q)

-- the pass read that it was not, and opened it. Of a quota that carries it has noted before, for all draws there, how
-- many requests the window before had, where it was the latest.
abbrev pub Opens : ℕ → View → View → Type 0
Opens at v u = (q found : ℕ) × (v.seen ≤ q) × (q ≤ found) × (window_of q < at)
    × (u ≡ with_opening (with_note (with_reading v q) (note_for at (with_reading v q)))
    (first_of at) (max found (first_of at)))

-- the pass comes to the window of this moment, or to a later one that is the latest: it was there, another pass opened
-- it, or this one opens it
abbrev pub Turned : Name → ℕ → View → View → Type 0
Turned b now v u = let at = window_at b.terms b.start now in
    ((at ≤ window_of v.seen) × (u ≡ v)) ⊎ (Meets at v u ⊎ Opens at v u)

-- the pass has gained the numbers of n requests, from q on, which is of the window that it came to or of a later one.
-- They are none where the requests are past the last window.
abbrev pub Counted : ℕ → View → View → Type 0
Counted n u w =
    ((12884901888000000000 ≤ u.told) × (w ≡ u))
    ⊎ ((u.told < 12884901888000000000) × (q : ℕ) × (u.seen ≤ q) × (w ≡ with_requests u q n))

-- a deposit of n requests
abbrev pub DepositedOf : Name → ℕ → ℕ → View → View → Type 0
DepositedOf b now n v w = (u : View) × Turned b now v u × Counted n u w

-- a deposit
abbrev pub Deposited : Name → ℕ → View → View → Type 0
Deposited b now v w = DepositedOf b now 1 v w

-- terms of this reserve and share are not set for this reason
abbrev pub RefusesChange : ℕ → ℕ → QuotaFault → Type 0
RefusesChange reserve share ReserveTooLarge = 4294967296 < reserve
RefusesChange reserve share ShareTooLarge = (reserve ≤ 4294967296) × (1000000 < share)
RefusesChange reserve share _ = ⊥

-- a pass that has tried to draw: it has read the terms and the requests and looked at the draws, it may have read how
-- many tickets were handed back and how many requests the window before had, and has gained nothing
pub record Tried (v u : View) : Type 0 where
  pub same : u ≡ record v {
    current = u.current;
    seen = u.seen;
    found = u.found;
    back = u.back;
    past = u.past;
    readings = u.readings;
    glances = u.glances;
    recalls = u.recalls;
    reviews = u.reviews;
    looks = u.looks;
    losses = u.losses;
  }
  pub later : v.seen ≤ u.seen
  pub came_back : v.back ≤ u.back
  pub read : v.readings < u.readings
  pub glanced : v.glances < u.glances
  pub recalled : v.recalls ≤ u.recalls
  pub reviewed : v.reviews ≤ u.reviews
  pub looked : v.looks < u.looks

-- So many tickets were found dealt in the latest window as the terms that were read allow for its requests, and for
-- those that were handed back. So none is left that was carried to it.
abbrev pub HasNoRoom : Terms → View → Type 0
HasNoRoom k w = (floor_of w.carries (terms_of k w.current) w.seen w.back ≤ next_ticket w)
    × IsNoLater w.carries w.found w.seen

-- where draws had not come to the latest window of a quota that carries, a pass has read since how many requests the
-- one before had
abbrev pub HasReviewed : View → View → Type 0
HasReviewed v u = u.carries ≡ true → 2147483648 ≤ first_of (window_of u.seen) - u.found → v.reviews < u.reviews

-- A pass won the ticket t, the next of those carried to the window, or else of its own: it is below what the terms
-- allow for the requests, as both were read for it, and for the tickets handed back, and after all tickets of the pass.
pub record Won (k : Terms) (v : View) (t : ℕ) (w : View) : Type 0 where
  pub tried : View
  pub tries : Tried v tried
  pub reviewed : HasReviewed v tried
  pub ticket : t ≡ next_ticket tried
  pub room : t < floor_of tried.carries (terms_of k tried.current) tried.seen tried.back
  pub later : IsLater v t
  pub gained : w ≡ with_ticket tried t

-- Why the last draw was refused: it has found no room in the latest window, which ends at that moment, or it has lost
-- 64 races with other draws since it looked.
abbrev pub IsWhy : Name → View → Refusal → Type 0
IsWhy b w (WindowOut next) = HasNoRoom b.terms w × (next ≡ end_of b.terms b.start (window_of w.seen))
IsWhy b w RacesLost = w.losses ≡ 64

-- a pass that found no room has read how many tickets were handed back, and how many requests the window before had
abbrev pub HasRecalled : View → View → Refusal → Type 0
HasRecalled v w (WindowOut next) = (v.recalls < w.recalls) × HasReviewed v w
HasRecalled v w RacesLost = Unit {0}

-- a pass won none, for this reason
pub record WonNone (b : Name) (v : View) (why : Refusal) (w : View) : Type 0 where
  pub tries : Tried v w
  pub recalls : HasRecalled v w why
  pub reason : IsWhy b w why

-- a draw that gave the ticket t, of the window that the pass came to or of a later one
abbrev pub Drew : Name → ℕ → View → ℕ → View → Type 0
Drew b now v t w = (u : View) × Turned b now v u × Won b.terms u t w

-- a draw that was refused, for this reason
abbrev pub DrawRefused : Name → ℕ → View → Refusal → View → Type 0
DrawRefused b now v why w = (u : View) × Turned b now v u × WonNone b u why w

-- what is known of the latest window: the requests as they were read, its tickets as they were found, but for those
-- that were handed back, what is left of them and of those carried to it, and when the next begins
pub record Told (b : Name) (now : ℕ) (v w : View) (told : Usage) : Type 0 where
  pub turned : View
  pub turns : Turned b now v turned
  pub tries : Tried turned w
  pub recalls : turned.recalls < w.recalls
  pub reviewed : HasReviewed turned w
  pub no_later : IsNoLater w.carries w.found w.seen
  pub window : told.window ≡ window_of w.seen
  pub asked : told.asked ≡ w.seen % 4294967296
  pub given : told.given ≡ next_ticket w - first_of (window_of w.seen) - back_in w.back (window_of w.seen)
  pub left : told.left ≡ floor_of w.carries (terms_of b.terms w.current) w.seen w.back - next_ticket w
  pub next : told.next ≡ end_of b.terms b.start told.window

-- The pass has handed back its latest ticket. In its window there is one more for all passes, as they read it from then
-- on; where one of a later window was handed back before, it is none there.
pub record HandedBack (v w : View) : Type 0 where
  pub ticket : ℕ
  pub others : List ℕ
  pub had : v.tickets ≡ ticket ∷ others
  pub same : w ≡ record v {
    tickets = others;
    returned = ticket ∷ v.returned;
    back = w.back;
    recalls = w.recalls;
    losses = w.losses;
  }
  pub before : ℕ
  pub found : v.back ≤ before
  pub here : window_of before ≤ window_of ticket → w.back ≡ max before (first_of (window_of ticket)) + 1
  pub over : window_of ticket < window_of before → before ≤ w.back

-- the pass has kept its tickets, since 64 others were handed back before its own
abbrev pub KeptTicket : View → View → Type 0
KeptTicket v w =
    (w ≡ record v { back = w.back; recalls = w.recalls; losses = w.losses }) × (v.recalls < w.recalls) × (w.losses ≡ 64)

-- the ticket is handed back that the pass may hand back, and it has none to hand back now
abbrev pub Hands : Held → Held → Type 0
Hands p q = (back : HandedBack p.has q.has) × (p.latest ≡ Some back.ticket) × (q.latest ≡ None)

-- none is handed back, for this reason: there is none, or races were lost, and it may be handed back as before
abbrev pub NotHanded : Held → NotBack → Held → Type 0
NotHanded p NoTicket q = (p.latest ≡ None) × (q ≡ p)
NotHanded p RacesWereLost q = (t : ℕ) × (p.latest ≡ Some t) × KeptTicket p.has q.has × (q.latest ≡ p.latest)

-- Two passes joined have what both have. The ticket that may be handed back then is that of the other one, where it has
-- such a ticket, whose tickets come first then; otherwise it is that of the first.
abbrev pub joined_by : Option ℕ → View → View → View
joined_by None v w = joined_view v w
joined_by (Some t) v w = joined_view w v

abbrev pub joined_latest : Option ℕ → Option ℕ → Option ℕ
joined_latest latest None = latest
joined_latest latest (Some t) = Some t

pub record Joined (p q r : Held) : Type 0 where
  pub has : r.has ≡ joined_by q.latest p.has q.has
  pub latest : r.latest ≡ joined_latest p.latest q.latest
