-- Due ticks, and where a turn stands, in range.
use Rattle.std.proofs.Common.{arith, ◌≡◌, ◌≤◌, ◌<◌, ◌+◌, ℕ, zero, suc, List, [], ◌∷◌, ◌++◌, All, length, map, take, Bool, true, false, Option, Some, None, slice_get, get_or, refl, sym, ap, ◌∙◌, subst}
use Rattle.std.proofs.lemmas.List.{take_all}
use Rattle.std.proofs.lemmas.Option.{slice_get-get_or}
use Rattle.std.proofs.lemmas.List.Elements.{All-nil, All-cons, All-head, All-tail, All-weaker}
use Rattle.wa_model.specs.Outside.{Event, called, answered, paused, parked, returned, ended, shown}
use Rattle.event_order.specs.declared.turns.Turn.{Turn}
use Rattle.many_host.specs.Turns.{unless}
use Rattle.many_host.specs.Standing.{IsDueBy, PlaceFits, TurnIsDue, latest, most_ticks, stage_behind}
use Rattle.many_host.specs.Hosts.{dues_left}
use Rattle.many_host.specs.declared.turn_taking.Stage.{Stage}

later : (most more : ℕ) (due : Option ℕ) → most ≤ more → IsDueBy most due → IsDueBy more due
later most more None le h = tt
later most more (Some due) le h = omega arith

pub dues_later : (most more : ℕ) (dues : List (Option ℕ)) → most ≤ more → All (IsDueBy most) dues → All (IsDueBy more) dues
dues_later most more dues le h = All-weaker (IsDueBy most) (IsDueBy more) (λ due. later most more due le) dues h

pub due_at : (most : ℕ) (dues : List (Option ℕ)) (i due : ℕ) → slice_get dues i ≡ Some (Some due) → All (IsDueBy most) dues → due ≤ most
due_at most [] i due e h = cc
due_at most (d ∷ dues) zero due e h = let same : d ≡ Some due = cc in subst (IsDueBy most) same (All-head (IsDueBy most) d dues h)
due_at most (d ∷ dues) (suc i) due e h = due_at most dues i due e (All-tail (IsDueBy most) d dues h)

-- at first all are due at tick 0
pub first_due : {X : Type 0} (most : ℕ) (xs : List X) → All (IsDueBy most) (map (λ x. Some 0) xs)
first_due most [] = All-nil (IsDueBy most)
first_due {X} most (x ∷ xs) = All-cons (IsDueBy most) (Some 0) (map (λ (x : X). Some 0) xs) (omega arith) (first_due most xs)

-- those that haven't ended are due as early as all
pub left_early : (most : ℕ) (dues : List ℕ) (marks : List Bool) → All (λ due. due < most) dues → All (IsDueBy most) (dues_left dues marks)
left_early most [] marks h = All-nil (IsDueBy most)
left_early most (due ∷ dues) [] h = All-nil (IsDueBy most)
left_early most (due ∷ dues) (true ∷ marks) h = All-cons (IsDueBy most) None (dues_left dues marks) tt (left_early most dues marks (All-tail (λ d. d < most) due dues h))
left_early most (due ∷ dues) (false ∷ marks) h =
    let first : due < most = All-head (λ d. d < most) due dues h in
    All-cons (IsDueBy most) (Some due) (dues_left dues marks) (omega (arith, first)) (left_early most dues marks (All-tail (λ d. d < most) due dues h))

pub left_many : (dues : List ℕ) (marks : List Bool) → length marks ≡ length dues → length (dues_left dues marks) ≡ length dues
left_many [] marks e = refl
left_many (due ∷ dues) [] e = let never : ⊥ = omega (arith, e) in absurd never
left_many (due ∷ dues) (marked ∷ marks) e = ap suc (left_many dues marks (omega (arith, e)))

-- one more of them
pub left_more : (i : ℕ) (dues : List ℕ) (marks : List Bool) (due : ℕ) (marked : Bool) → slice_get dues i ≡ Some due → slice_get marks i ≡ Some marked
    → dues_left (take (suc i) dues) (take (suc i) marks) ≡ dues_left (take i dues) (take i marks) ++ unless marked due ∷ []
left_more i [] marks due marked d e = cc
left_more i (x ∷ dues) [] due marked d e = cc
left_more zero (x ∷ dues) (y ∷ marks) due marked d e = let one : x ≡ due = cc in let two : y ≡ marked = cc in (λ k. unless (two k) (one k) ∷ [])
left_more (suc i) (x ∷ dues) (y ∷ marks) due marked d e = ap (λ l. unless y x ∷ l) (left_more i dues marks due marked d e)

pub left_next : (i : ℕ) (dues : List ℕ) (marks : List Bool) (items new : List (Option ℕ)) (x : Option ℕ) (d : Bool) → i < length dues → length marks ≡ length dues
    → items ≡ dues_left (take i dues) (take i marks) → x ≡ unless (get_or marks i d) (get_or dues i 0) → new ≡ items ++ x ∷ [] → new ≡ dues_left (take (i + 1) dues) (take (i + 1) marks)
left_next i dues marks items new x d lt many so is more =
    let step = left_more i dues marks (get_or dues i 0) (get_or marks i d) (slice_get-get_or dues i 0 lt) (slice_get-get_or marks i d (omega (arith, lt, many))) in
    let next : suc i ≡ i + 1 = omega arith in
    more ∙ (λ k. so k ++ is k ∷ []) ∙ sym step ∙ ap (λ n. dues_left (take n dues) (take n marks)) next

-- all of them
pub left_all : (i : ℕ) (dues : List ℕ) (marks : List Bool) → length dues ≤ i → length marks ≡ length dues → dues_left (take i dues) (take i marks) ≡ dues_left dues marks
left_all i dues marks le many = λ k. dues_left (take_all i dues le k) (take_all i marks (omega (arith, le, many)) k)

-- what an event puts off
pub due_next : (most : ℕ) (due : Option ℕ) → ((d : ℕ) → due ≡ Some d → d ≤ most) → IsDueBy most due
due_next most None h = tt
due_next most (Some d) h = h d refl

pub place_behind : (count : ℕ) (turn : Turn) (e : Event) → turn.program < count → PlaceFits count (stage_behind turn e)
place_behind count turn (paused ticks used) h = tt
place_behind count turn (ended how) h = h
place_behind count turn (called c) h = h
place_behind count turn (answered v) h = h
place_behind count turn (returned entry v) h = h
place_behind count turn (parked used) h = h
place_behind count turn (shown at bytes) h = h

pub due_behind_it : (earlier begun : ℕ) (turn : Turn) (e : Event) → turn.due + most_ticks ≤ latest earlier begun → TurnIsDue earlier begun (stage_behind turn e)
due_behind_it earlier begun turn (paused ticks used) h = tt
due_behind_it earlier begun turn (ended how) h = tt
due_behind_it earlier begun turn (called c) h = h
due_behind_it earlier begun turn (answered v) h = h
due_behind_it earlier begun turn (returned entry v) h = h
due_behind_it earlier begun turn (parked used) h = h
due_behind_it earlier begun turn (shown at bytes) h = h

-- the same of the stage where a host stands
pub turn_is : (earlier begun : ℕ) (stage stage' : Stage) → stage ≡ stage' → TurnIsDue earlier begun stage → TurnIsDue earlier begun stage'
turn_is earlier begun stage stage' e h = subst (TurnIsDue earlier begun) e h
