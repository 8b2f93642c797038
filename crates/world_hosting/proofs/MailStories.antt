-- Stories that are cut at a pause tell no end.
use Rattle.std.proofs.Common.{arith, ◌≡◌, ◌+◌, ℕ, zero, suc, List, [], ◌∷◌, ◌++◌, length, length-append, Option, Some, None, Bool, true, false, All, refl, sym, ap, ◌∙◌}
use Rattle.std.specs.Prelude.{nat_lt, if◌then◌else◌, slice_get, ◌||◌}
use Rattle.std.proofs.lemmas.List.Elements.{All-head, All-tail}
use Rattle.std.proofs.lemmas.Option.{same_Some, slice_get_within}
use Rattle.wa_types.specs.Frames.{Fit, Room, Suspended}
use Rattle.wa_model.specs.Outside.{Event}
use Rattle.wa_model.specs.Plan.{Outcome, OutcomeFits}
use Rattle.wa_model.specs.Blocking.{Blocking, Note}
use Rattle.wa_model.specs.Expected.{pause_note, trap_note}
use Rattle.wa_model.specs.Behaves.{expected_notes}
use Rattle.run_theory.specs.Shown.{shown_within as expected_of, shown_within_at as shown_at}
use Rattle.run_laws.proofs.Ending.{expected_end_last}
use Rattle.run_laws.proofs.OwnEnds.{Own}
use Rattle.world_model.specs.World.{Original, is_end}
use Rattle.mail_laws.specs.MailWorld.{pauses}
use Rattle.mail_laws.proofs.TurnsTold.{pause_ends}
use Rattle.world_hosting.proofs.StoryEnds.{HostsAlone, any_note, own}

first_note : (x y : Note) (xs ys : List Note) → x ∷ xs ≡ y ∷ ys → x ≡ y
first_note x y xs ys e = cc

rest_notes : (x y : Note) (xs ys : List Note) → x ∷ xs ≡ y ∷ ys → xs ≡ ys
rest_notes x y xs ys e = cc

none_left : (xs ys : List Note) → [] ≡ xs ++ ys → xs ≡ []
none_left [] ys e = refl
none_left (x ∷ xs) ys e = cc

not_true : false ≡ true → ⊥
not_true e = cc

module _ (room fit : List Suspended → ℕ) (len : ℕ) (test : Event → Bool) (alone : HostsAlone test) where
  -- of expected notes, those up to a pause
  abbrev Calm : List Note → Type 0
  Calm es = (ns rest : List Note) → expected_of room fit len es ≡ ns ++ rest → pauses ns ≡ true → any_note test ns ≡ false

  -- behind a note that tells none
  behind : (x : Note) (ns : List Note) → test x.event ≡ false → (pauses ns ≡ true → any_note test ns ≡ false) → pauses (x ∷ ns) ≡ true → any_note test (x ∷ ns) ≡ false
  behind x [] h on p = ap (λ (b : Bool). b || false) h
  behind x (y ∷ ys) h on p = ap (λ (b : Bool). b || any_note test (y ∷ ys)) h ∙ on p

  pub cut_none : (es : List Note) → All Own es → Calm es
  cut_none es h [] rest e p = absurd (not_true p)
  cut_none [] h (n ∷ ns) rest e p = let no_way : [] ≡ n ∷ (ns ++ rest) = e in cc
  cut_none (x ∷ es) h (n ∷ ns) rest e p = by x.pause e (cut_none es (All-tail Own x es h))
    where
      told : x ≡ n → test n.event ≡ false
      told is = ap (λ (y : Note). test y.event) (sym is) ∙ alone.own x.event (All-head Own x es h)

      by_room : (ticks : ℕ) (b : Bool) (ms : List Note) → (if b then trap_note (fit x.stack) len x.store ∷ [] else pause_note ticks (room x.stack) x.store x.stack ∷ expected_of room fit len es) ≡ ms ++ rest
          → Calm es → pauses ms ≡ true → any_note test ms ≡ false
      by_room ticks b [] f on q = absurd (not_true q)
      by_room ticks true (m ∷ ms) f on q =
          let one : m ∷ ms ≡ trap_note (fit x.stack) len x.store ∷ [] =
          ap (λ (y : Note). y ∷ ms) (sym (first_note (trap_note (fit x.stack) len x.store) m [] (ms ++ rest) f))
          ∙ ap (λ (ys : List Note). trap_note (fit x.stack) len x.store ∷ ys) (none_left ms rest (rest_notes (trap_note (fit x.stack) len x.store) m [] (ms ++ rest) f)) in
          absurd (not_true (sym (ap pauses one) ∙ q))
      by_room ticks false (m ∷ ms) f on q =
          let is : pause_note ticks (room x.stack) x.store x.stack ≡ m = first_note (pause_note ticks (room x.stack) x.store x.stack) m (expected_of room fit len es) (ms ++ rest) f in
          behind m ms (ap (λ (y : Note). test y.event) (sym is) ∙ alone.pause ticks (room x.stack))
          (on ms rest (rest_notes (pause_note ticks (room x.stack) x.store x.stack) m (expected_of room fit len es) (ms ++ rest) f)) q

      by : (o : Option ℕ) → shown_at room fit len x o (expected_of room fit len es) ≡ n ∷ (ns ++ rest) → Calm es → any_note test (n ∷ ns) ≡ false
      by None f on =
          behind n ns (told (first_note x n (expected_of room fit len es) (ns ++ rest) f)) (on ns rest (rest_notes x n (expected_of room fit len es) (ns ++ rest) f)) p
      by (Some ticks) f on =
          let more : List Note = if nat_lt len (room x.stack) then trap_note (fit x.stack) len x.store ∷ [] else pause_note ticks (room x.stack) x.store x.stack ∷ expected_of room fit len es in
          behind n ns (told (first_note x n more (ns ++ rest) f)) (by_room ticks (nat_lt len (room x.stack)) ns (rest_notes x n more (ns ++ rest) f) on) p

-- what is expected of an original up to a pause tells no such event
pub cut_calm : (o : Original) (os : List Outcome) → All OutcomeFits os → (test : Event → Bool) → HostsAlone test → (cost : ℕ) (notes rest : List Note)
    → expected_notes o.program.source o.settings o.program.plan os cost ≡ notes ++ rest → pauses notes ≡ true → any_note test notes ≡ false
cut_calm o os fits test alone cost notes rest e p =
    cut_none (λ stack. Room o.program.source o.settings.policy stack) (λ stack. Fit o.program.source o.settings.policy stack o.program.plan.area.len) o.program.plan.area.len test alone
    (Blocking o.program.source o.program.plan os cost).events (own o os fits cost) notes rest e p

-- it tells no end at all
module _ (o : Original) (os : List Outcome) (cost : ℕ) where
  abbrev expected : List Note
  expected = expected_notes o.program.source o.settings o.program.plan os cost

  ends_at : (ns : List Note) → any_note is_end ns ≡ true → (i : ℕ) × (x : Note) × (slice_get ns i ≡ Some x) × (is_end x.event ≡ true)
  ends_at [] e = absurd (not_true e)
  ends_at (x ∷ ns) e = by (is_end x.event) refl e (ends_at ns)
    where
      by : (b : Bool) → is_end x.event ≡ b → (b || any_note is_end ns) ≡ true → (any_note is_end ns ≡ true → (i : ℕ) × (y : Note) × (slice_get ns i ≡ Some y) × (is_end y.event ≡ true))
          → (i : ℕ) × (y : Note) × (slice_get (x ∷ ns) i ≡ Some y) × (is_end y.event ≡ true)
      by true f g on = (0, x, refl, f)
      by false f g on = let r = on g in (suc r.0, r.1, r.2, r.3)

  in_front : (ns rest : List Note) (i : ℕ) (x : Note) → slice_get ns i ≡ Some x → slice_get (ns ++ rest) i ≡ Some x
  in_front [] rest i x e = absurd cc
  in_front (n ∷ ns) rest zero x e = e
  in_front (n ∷ ns) rest (suc i) x e = in_front ns rest i x e

  -- the last note is one that pauses, which is no end
  last_goes : (ns : List Note) (i : ℕ) (x : Note) → pauses ns ≡ true → slice_get ns i ≡ Some x → is_end x.event ≡ true → length ns ≡ suc i → ⊥
  last_goes [] i x p at e long = not_true p
  last_goes (n ∷ []) zero x p at e long =
      let is : n ≡ x = same_Some n x at in
      let goes = pause_ends n.event p in
      not_true (sym goes.2 ∙ ap (λ (y : Note). is_end y.event) is ∙ e)
  last_goes (n ∷ []) (suc i) x p at e long = omega (arith, long)
  last_goes (n ∷ m ∷ ns) zero x p at e long = omega (arith, long)
  last_goes (n ∷ m ∷ ns) (suc i) x p at e long = last_goes (m ∷ ns) i x p at e (omega (arith, long))

  pub cut_unended : (notes rest : List Note) → expected ≡ notes ++ rest → pauses notes ≡ true → any_note is_end notes ≡ false
  cut_unended notes rest e p = by (any_note is_end notes) refl
    where
      by : (b : Bool) → any_note is_end notes ≡ b → any_note is_end notes ≡ false
      by false f = f
      by true f =
          let r = ends_at notes f in
          let last = expected_end_last o.program.source o.settings o.program.plan os cost r.0 r.1 (ap (λ (ns : List Note). slice_get ns r.0) e ∙ in_front notes rest r.0 r.1 r.2) r.3 in
          let all : length expected ≡ length notes + length rest = ap length e ∙ length-append notes rest in
          let inside = slice_get_within notes r.0 r.1 r.2 in
          absurd (last_goes notes r.0 r.1 p r.2 r.3 (omega (arith, last, all, inside)))
