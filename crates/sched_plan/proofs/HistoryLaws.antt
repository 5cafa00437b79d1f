-- What one more event does to a history.
use Rattle.std.proofs.Common.{◌≡◌, ℕ, ◌≤◌, List, [], ◌∷◌, ◌++◌, map, get_or, refl, ap, ◌∙◌}
use Rattle.std.proofs.lemmas.List.{map-append}
use Rattle.sched_plan.specs.History.{last_moment, last_input, last_words, words_in, IsHistory, prefixes}
use Rattle.sched_plan.specs.declared.history.Event.{Event}

-- the last moment is that of the event that came last
pub last_moment-push : (h : List Event) (e : Event) → last_moment (h ++ e ∷ []) ≡ e.now
last_moment-push [] e = refl
last_moment-push (d ∷ []) e = refl
last_moment-push (d ∷ c ∷ h) e = last_moment-push (c ∷ h) e

-- the last input is that of the event that came last
pub last_input-push : (h : List Event) (e : Event) → last_input (h ++ e ∷ []) ≡ e.input
last_input-push [] e = refl
last_input-push (d ∷ []) e = refl
last_input-push (d ∷ c ∷ h) e = last_input-push (c ∷ h) e

-- the last words are those of the event that came last
pub last_words-push : (h : List Event) (e : Event) → last_words (h ++ e ∷ []) ≡ e.words
last_words-push [] e = refl
last_words-push (d ∷ []) e = refl
last_words-push (d ∷ c ∷ h) e = last_words-push (c ∷ h) e

-- the words of a lane go on with that of the event that came last
pub words_in-push : (lane : ℕ) (h : List Event) (e : Event) →
    words_in lane (h ++ e ∷ []) ≡ words_in lane h ++ get_or e.words lane 0 ∷ []
words_in-push lane h e = map-append (λ c. get_or c.words lane 0) h (e ∷ [])

-- a history goes on with an event that is not before its last
pub IsHistory-push : (h : List Event) (e : Event) → IsHistory h → last_moment h ≤ e.now → IsHistory (h ++ e ∷ [])
IsHistory-push [] e ordered later = tt
IsHistory-push (d ∷ []) e ordered later = (later, tt)
IsHistory-push (d ∷ c ∷ h) e ordered later = (ordered.0, IsHistory-push (c ∷ h) e ordered.1 later)

-- its prefixes are those before, and then the whole of it
pub prefixes-push : (h : List Event) (e : Event) → prefixes (h ++ e ∷ []) ≡ prefixes h ++ (h ++ e ∷ []) ∷ []
prefixes-push [] e = refl
prefixes-push (d ∷ h) e =
    ap (λ ps. (d ∷ []) ∷ map (λ p. d ∷ p) ps) (prefixes-push h e)
    ∙ ap (λ ps. (d ∷ []) ∷ ps) (map-append (λ p. d ∷ p) (prefixes h) ((h ++ e ∷ []) ∷ []))
