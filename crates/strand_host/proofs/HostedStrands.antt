-- A program with strands, as its host meets it.
use Rattle.std.proofs.Common.{arith, ◌≡◌, ◌<◌, ◌≤◌, ◌⊎◌, inl, inr, ℕ, zero, suc, List, [], ◌∷◌, Option, Some, None, Bool, true, false, slice_get, refl, sym, ap}
use Rattle.std.specs.Prelude.{nat_lt, if◌then◌else◌}
use Rattle.std.proofs.lemmas.Bool.{cases_lt, lt-ltb, ltb-true}
use Rattle.wa_model.specs.Outside.{Event}
use Rattle.world_model.specs.World.{Device}
use Rattle.event_order.specs.declared.shows.Show.{Show}
use Rattle.event_order.specs.Dues.{IsLeast}
use Rattle.strand_laws.specs.StrandWorld.{StrandsInWorld}
use Rattle.strand_laws.specs.ToldStrands.{ProgramTeller, starting}
use Rattle.strand_host.specs.declared.program.State.{State}
use Rattle.strand_host.specs.declared.program.State.TheVariants.{Between, Failed, Fresh, Lost, Over, Runs}
use Rattle.strand_host.specs.declared.program.StrandProgram.{StrandProgram}
use Rattle.strand_host.specs.StrandHosts.{AreSetUpStrands, due_by, due_in, follows, least_due, sooner_due}
use Rattle.strand_host.specs.StrandPrograms.{FollowsStrands, GoesOnStrands, IsDueThen, IsFirstDue}
use Rattle.strand_host.specs.StrandStanding.{AllStrandsStart}
use Rattle.strand_host.specs.StrandTelling.{TellsStrandNote}
use Rattle.strand_host.proofs.FollowsTold.{follows_told_so}

-- ---- the least tick

same_due : (a b : ℕ) → Some (Some a) ≡ Some (Some b) → a ≡ b
same_due a b e = cc

none_some : {A : Type 0} (a : ℕ) → Some None ≡ Some (Some a) → A
none_some a e = let no_way : ⊥ = cc in absurd no_way

-- with one in front that has ended
behind_none : (dues : List (Option ℕ)) (o : Option ℕ) → IsFirstDue dues o → IsFirstDue (None ∷ dues) o
behind_none dues None f = λ i due e. by i due e
  where
    by : (i due : ℕ) → slice_get (None ∷ dues) i ≡ Some (Some due) → ⊥
    by zero due e = none_some due e
    by (suc i) due e = f i due e
behind_none dues (Some d) f = (suc f.0, record { there = f.1.there; least = least })
  where
    least : (i due : ℕ) → slice_get (None ∷ dues) i ≡ Some (Some due) → (d < due) ⊎ ((d ≡ due) × (suc f.0 ≤ i))
    least zero due e = none_some due e
    least (suc i) due e = elim (f.1.least i due e) [ inl lt ↦ inl lt | inr q ↦ inr (q.0, (let le = q.1 in omega (arith, le))) ]

-- with one in front that is due
in_front : (x : ℕ) (dues : List (Option ℕ)) (o : Option ℕ) → IsFirstDue dues o → IsFirstDue (Some x ∷ dues) (Some (sooner_due x o))
in_front x dues None f = (0, record { there = refl; least = least })
  where
    least : (i due : ℕ) → slice_get (Some x ∷ dues) i ≡ Some (Some due) → (x < due) ⊎ ((x ≡ due) × (0 ≤ i))
    least zero due e = inr (same_due x due e, omega arith)
    least (suc i) due e = absurd (f i due e)
in_front x dues (Some d) f = by (cases_lt d x)
  where
    later : d < x → (i due : ℕ) → slice_get (Some x ∷ dues) i ≡ Some (Some due) → (d < due) ⊎ ((d ≡ due) × (suc f.0 ≤ i))
    later lt zero due e = let is = same_due x due e in inl (omega (arith, lt, is))
    later lt (suc i) due e = elim (f.1.least i due e) [ inl more ↦ inl more | inr q ↦ inr (q.0, (let le = q.1 in omega (arith, le))) ]

    first : x ≤ d → (i due : ℕ) → slice_get (Some x ∷ dues) i ≡ Some (Some due) → (x < due) ⊎ ((x ≡ due) × (0 ≤ i))
    first le zero due e = inr (same_due x due e, omega arith)
    first le (suc i) due e = by_it (f.1.least i due e)
      where
        by_it : (d < due) ⊎ ((d ≡ due) × (f.0 ≤ i)) → (x < due) ⊎ ((x ≡ due) × (0 ≤ suc i))
        by_it (inl lt) = inl (omega (arith, le, lt))
        by_it (inr q) = elim (cases_lt x due) [ inl lt ↦ inl lt | inr ge ↦ inr ((let is = q.0 in omega (arith, le, ge, is)), omega arith) ]

    sooner : (b : Bool) → nat_lt d x ≡ b → (d < x) ⊎ (x ≤ d) → (k : ℕ) × IsLeast (Some x ∷ dues) k (if b then d else x)
    sooner true e (inl lt) = (suc f.0, record { there = f.1.there; least = later lt })
    sooner true e (inr le) = let lt = ltb-true d x e in let no_way : ⊥ = omega (arith, lt, le) in absurd no_way
    sooner false e (inl lt) = let is = lt-ltb d x lt in let no_way : ⊥ = cc in absurd no_way
    sooner false e (inr le) = (0, record { there = refl; least = first le })

    by : (d < x) ⊎ (x ≤ d) → (k : ℕ) × IsLeast (Some x ∷ dues) k (if nat_lt d x then d else x)
    by o = sooner (nat_lt d x) refl o

least_first : (dues : List (Option ℕ)) → IsFirstDue dues (least_due dues)
least_first [] = λ i due e. absurd cc
least_first (None ∷ dues) = behind_none dues (least_due dues) (least_first dues)
least_first (Some x ∷ dues) = in_front x dues (least_due dues) (least_first dues)

-- there is one least tick
one_least : (dues : List (Option ℕ)) (o p : Option ℕ) → IsFirstDue dues o → IsFirstDue dues p → o ≡ p
one_least dues None None f g = refl
one_least dues None (Some b) f g = absurd (f g.0 b g.1.there)
one_least dues (Some a) None f g = absurd (g f.0 a f.1.there)
one_least dues (Some a) (Some b) f g = ap (λ (n : ℕ). Some n) (by (f.1.least g.0 b g.1.there) (g.1.least f.0 a f.1.there))
  where
    by : (a < b) ⊎ ((a ≡ b) × (f.0 ≤ g.0)) → (b < a) ⊎ ((b ≡ a) × (g.0 ≤ f.0)) → a ≡ b
    by (inl lt) (inl gt) = omega (arith, lt, gt)
    by (inl lt) (inr q) = sym q.0
    by (inr q) o = q.0

pub is_due_by : (dues : List (Option ℕ)) (state : State) → IsDueThen dues state (due_by dues state)
is_due_by dues Fresh = least_first dues
is_due_by dues (Runs instance going) = refl
is_due_by dues (Between instance) = least_first dues
is_due_by dues (Over instance) = refl
is_due_by dues Failed = refl
is_due_by dues Lost = least_first dues

pub due_then : (dues : List (Option ℕ)) (state : State) (due : Option ℕ) → IsDueThen dues state due → due ≡ due_by dues state
due_then dues Fresh due d = one_least dues due (least_due dues) d (least_first dues)
due_then dues (Runs instance going) due d = d
due_then dues (Between instance) due d = one_least dues due (least_due dues) d (least_first dues)
due_then dues (Over instance) due d = d
due_then dues Failed due d = d
due_then dues Lost due d = one_least dues due (least_due dues) d (least_first dues)

-- ---- what it tells

follows_so : (g : StrandsInWorld) (t : ProgramTeller) (x : StrandProgram) → FollowsStrands g t x → follows x g t
follows_so g t x f = (f, follows_told_so g t x (due_in x) f (is_due_by x.dues.items x.state))

pub note_so : (g : StrandsInWorld) (t : ProgramTeller) (x : StrandProgram) (memory : List ℕ) (k : ℕ) (e : Event) (ds : List Device) (faults : List ℕ) (ds' : List Device) (faults' : List ℕ)
    → TellsStrandNote (λ t. FollowsStrands g t x) memory g t k e ds faults ds' faults' → TellsStrandNote (follows x g) memory g t k e ds faults ds' faults'
note_so g t x memory k e ds faults ds' faults' n = record {
  s = n.s;
  there = n.there;
  unfinished = n.unfinished;
  turn = n.turn;
  note = n.note;
  event_is = n.event_is;
  memory_is = n.memory_is;
  met = n.met;
  answers = n.answers;
  takes = n.takes;
  is_last = n.is_last;
  follow = follows_so g _ x n.follow;
}

pub goes_so : (x : StrandProgram) → (g : StrandsInWorld) × (t : ProgramTeller) × follows x g t × (t.has_ended ≡ false) → GoesOnStrands x
goes_so x h = record { g = h.0; t = h.1; follows = h.2.0; unfinished = h.3 }

-- at their start
pub all_start : (gs : List StrandsInWorld) (shows : List Show) (xs : List StrandProgram) → AreSetUpStrands gs shows xs → AllStrandsStart follows shows gs xs
all_start gs shows xs s = record {
  wide = s.wide;
  each = λ i g x eg ex. let h = s.each i g x eg ex in record { follow = follows_so g (starting g) x h.follow; looks = h.looks };
}
