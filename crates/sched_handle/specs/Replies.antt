-- What calls answer.
use Rattle.std.specs.Prelude.{Result, Ok, Err}
use Rattle.sched_ticket_quota.specs.declared.pass.Usage.{Usage as Seen}
use Rattle.sched_handle.specs.declared.replies.Place.{Place}
use Rattle.sched_handle.specs.declared.replies.Usage.{Usage}
use Rattle.sched_handle.specs.declared.status.Status.{Status}

-- what is known of a window, as C sees it
abbrev pub usage_of : Seen → Usage
usage_of x = record { window = x.window; asked = x.asked; given = x.given; left = x.left; next = x.next }

-- no place
abbrev pub nowhere : Place
nowhere = record { line = 0; column = 0 }

-- the answer of a call that writes it into a place, or says why there is none
abbrev pub answer_in : {A : Type 0} → Result (Unit {0}) Status → A → Result A Status
answer_in (Ok x) place = Ok place
answer_in (Err s) place = Err s
