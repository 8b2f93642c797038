-- What strands tell is told with the outcomes that their calls meet.
use Rattle.std.proofs.Common.{arith, ◌≡◌, ◌≤◌, ◌<◌, ◌+◌, inl, inr, ℕ, zero, suc, List, [], ◌∷◌, ◌++◌, length, take, drop, Option, Some, None, refl, sym, ap, ◌∙◌, subst}
use Rattle.std.proofs.Common.{append_assoc, length-append, length-take, take-append-drop}
use Rattle.std.specs.Prelude.{map}
use Rattle.wa_model.specs.Machine.{Ran}
use Rattle.wa_model.specs.declared.events.End.TheVariants.{StepsSpent}
use Rattle.wa_model.specs.Outside.{Event, ended}
use Rattle.wa_model.specs.Store.{Store}
use Rattle.wa_model.specs.Plan.{Outcome}
use Rattle.wa_model.specs.Blocking.{Note, note}
use Rattle.wa_model.specs.Protocol.{Held}
use Rattle.world_model.specs.World.{call_in}
use Rattle.world_laws.specs.Originals.{met, new_calls, one_if}
use Rattle.world_laws.proofs.Meeting.{EachMet}
use Rattle.strand_laws.proofs.AllByTurns.{held_go}
use Rattle.strand_laws.proofs.StrandForks.{GoesOn, StrandForks, count_at, longer_each, strands_fork}
use Rattle.strand_laws.proofs.StrandTails.{calls_both, calls_by, notes_same, standing_tailed, store_tailed, tail_standing}
use Rattle.strand_laws.proofs.TurnsTold.{told_ready}
use Rattle.strand_laws.proofs.WorldTurns.{ready_lt}
use Rattle.strand_laws.specs.StrandWorld.{HeldStrands, StrandsInWorld, notes_of, strand_actors, strand_unless_over}
use Rattle.strand_laws.specs.StrandsMet.{HaveOutcomes, StrandStoriesOfMet, met_of}
use Rattle.strand_laws.specs.Strands.{ProtocolStrands, outcomes_at}
use Rattle.strand_laws.specs.Weaving.{all_due}
use Rattle.strand_laws.specs.Woven.{Ready, Told, Woven, standing_now}

all_due_long : (n : ℕ) → length (all_due n) ≡ n
all_due_long zero = refl
all_due_long (suc n) = ap suc (all_due_long n)

-- what is taken, with the rest behind
whole_again : (ts : List Told) (tails : ℕ → List Outcome) (i : ℕ) (oss : List (List Outcome)) → ((k j : ℕ) → j ≡ i + k → tails j ≡ drop (calls_by j ts) (outcomes_at oss k))
    → longer_each tails i (met_of ts i oss) ≡ oss
whole_again ts tails i [] h = refl
whole_again ts tails i (os ∷ oss) h =
    ap (λ (xs : List Outcome). (take (calls_by i ts) os ++ xs) ∷ longer_each tails (suc i) (met_of ts (suc i) oss)) (h 0 i (let z : i ≡ i + 0 = omega arith in z))
    ∙ ap (λ (xs : List Outcome). xs ∷ longer_each tails (suc i) (met_of ts (suc i) oss)) (take-append-drop (calls_by i ts) os)
    ∙ ap (λ (xss : List (List Outcome)). os ∷ xss) (whole_again ts tails (suc i) oss (λ k j e. h (suc k) j (omega (arith, e))))

taken_count : (ts : List Told) (i : ℕ) (oss : List (List Outcome)) → HaveOutcomes ts i oss → (k j : ℕ) → j ≡ i + k → k < length oss → count_at (met_of ts i oss) k ≡ calls_by j ts
taken_count ts i [] h k j e lt = let no_way : ⊥ = omega (arith, lt) in absurd no_way
taken_count ts i (os ∷ oss) h zero j e lt =
    let z : i ≡ j = omega (arith, e) in
    let le = h.0 in
    let n : length (take (calls_by i ts) os) ≡ calls_by i ts = omega (arith, length-take (calls_by i ts) os, le) in
    n ∙ ap (λ m. calls_by m ts) z
taken_count ts i (os ∷ oss) h (suc k) j e lt = taken_count ts (suc i) oss h.1 k j (omega (arith, e)) (omega (arith, lt))

-- behind what strands tell, wherever one stands
pub same_behind : (g : StrandsInWorld) (tails : ℕ → List Outcome) (steps i : ℕ) (o : Option (Ready Held)) → strand_unless_over steps (tail_standing g.program tails i o) ≡ strand_unless_over steps o
same_behind g tails steps i None = refl
same_behind g tails steps i (Some r) = ap (λ (s : Store). record { strand = r.strand; note = note (ended (StepsSpent steps)) s } ∷ []) (store_tailed g.program tails (tails i) r.at)

pub stories_of_met : StrandStoriesOfMet
stories_of_met g [] ts wide e have = e
stories_of_met g (os ∷ oss) ts wide e have = by (strands_fork g.program tails (take (calls_by 0 ts) os) (met_of ts 1 oss) g.steps)
  where
    tails : ℕ → List Outcome
    tails j = drop (calls_by j ts) (outcomes_at (os ∷ oss) j)

    used : List (List Outcome)
    used = met_of ts 0 (os ∷ oss)

    whole : longer_each tails 0 used ≡ os ∷ oss
    whole = whole_again ts tails 0 (os ∷ oss) (λ k j z. let y : j ≡ k = omega (arith, z) in ap (λ n. drop (calls_by j ts) (outcomes_at (os ∷ oss) n)) y)

    short : Ran (Woven Held) Told
    short = ProtocolStrands g.program used g.steps

    long : Ran (Woven Held) Told
    long = ProtocolStrands g.program (longer_each tails 0 used) g.steps

    is : HeldStrands g (longer_each tails 0 used) ts
    is = subst (λ (xss : List (List Outcome)). HeldStrands g xss ts) (sym whole) e

    no_fork : StrandForks g.program tails (count_at used) [] long short → ⊥
    no_fork f =
        let k : ℕ = f.strand in
        let c = f.same.2 in
        let all : ts ≡ f.before ++ record { strand = k; note = f.there } ∷ (f.more ++ strand_unless_over g.steps (standing_now long.last)) =
        is ∙ ap (λ (xs : List Told). xs ++ strand_unless_over g.steps (standing_now long.last)) f.second
        ∙ append_assoc f.before (record { strand = k; note = f.there } ∷ f.more) (strand_unless_over g.steps (standing_now long.last)) in
        let rest : List Told = f.more ++ strand_unless_over g.steps (standing_now long.last) in
        let both = ap (calls_by k) all ∙ calls_both k f.before (record { strand = k; note = f.there } ∷ rest) in
        let one : calls_by k (record { strand = k; note = f.there } ∷ rest) ≡ 1 + calls_by k rest =
        ap new_calls (notes_same k (record { strand = k; note = f.there }) rest refl) ∙ ap (λ (v : Event). one_if (call_in v) + calls_by k rest) (f.same.0 ∙ f.same.3) in
        let some : 0 < length (notes_of k ts) = has_some (notes_of k ts) (omega (arith, both, one)) in
        let ready = told_ready None (all_due (length g.program.strands)) ts k tt (held_go g (os ∷ oss) ts (omega (arith, wide)) wide e) some in
        let lt = ready_lt (all_due (length g.program.strands)) k ready in
        let size = all_due_long (length g.program.strands) in
        let count = taken_count ts 0 (os ∷ oss) have k k (omega arith) (omega (arith, lt, size, wide)) in
        let stands = f.count in
        omega (arith, both, one, count, stands)
      where
        has_some : (ns : List Note) → 0 < new_calls ns → 0 < length ns
        has_some [] lt = lt
        has_some (n ∷ ns) lt = omega arith

    by : GoesOn g.program tails (count_at used) [] long short → HeldStrands g used ts
    by (inl same) =
        is
        ∙ ap (λ (r : Ran (Woven Held) Told). r.events ++ strand_unless_over g.steps (standing_now r.last)) same
        ∙ ap (λ (o : Option (Ready Held)). short.events ++ strand_unless_over g.steps o) (standing_tailed g.program tails 0 short.last.now short.last.now short.last.threads (let z : short.last.now ≡ 0 + short.last.now = omega arith in z))
        ∙ ap (λ (xs : List Told). short.events ++ xs) (same_behind g tails g.steps short.last.now (standing_now short.last))
    by (inr f) = absurd (no_fork f)

-- ---- in a world

pub actors_have : (g : StrandsInWorld) (ts : List Told) (i : ℕ) (oss : List (List Outcome)) → EachMet (strand_actors g ts i oss) → HaveOutcomes ts i oss
actors_have g ts i [] h = tt
actors_have g ts i (os ∷ oss) h =
    let t = h.0.2 in
    let n : length os ≡ length (t.0 ++ h.0.0) = ap length t.1 in
    (enough t.0 h.0.0 (calls_by i ts) n t.2, actors_have g ts (suc i) oss h.1)
  where
    enough : (xs ys : List Outcome) (n : ℕ) → length os ≡ length (xs ++ ys) → length xs ≡ n → n ≤ length os
    enough xs ys n e z = let l = length-append xs ys in omega (arith, e, z, l)

pub actors_met : (g : StrandsInWorld) (ts : List Told) (i : ℕ) (oss : List (List Outcome)) → map met (strand_actors g ts i oss) ≡ met_of ts i oss
actors_met g ts i [] = refl
actors_met g ts i (os ∷ oss) = ap (λ (xss : List (List Outcome)). take (calls_by i ts) os ∷ xss) (actors_met g ts (suc i) oss)

pub met_wide : (ts : List Told) (i : ℕ) (oss : List (List Outcome)) → length (met_of ts i oss) ≡ length oss
met_wide ts i [] = refl
met_wide ts i (os ∷ oss) = ap suc (met_wide ts (suc i) oss)
