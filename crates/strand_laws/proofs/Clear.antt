-- Answers that leave the areas of all strands alone, and moves that keep off them.
use Rattle.std.proofs.Common.{◌≡◌, ℕ, zero, suc, ◌<◌, List, [], ◌∷◌, length, map, Option, None, false, All, Contains, refl, sym, ap, subst, arith}
use Rattle.std.specs.Option.{option_to_list}
use Rattle.std.proofs.lemmas.List.Elements.{All-contains, All-contains_itself, All-head, All-tail, Contains-append_right}
use Rattle.wa_types.specs.declared.values.Value.{Value}
use Rattle.wa_model.specs.declared.answers.Area.{Area}
use Rattle.wa_model.specs.Outside.{Answer, Poke}
use Rattle.wa_model.specs.Blocking.{Left, State, Task, bad_poke, begins, between, halts, overlap, poked, resumed, runs}
use Rattle.wa_model.specs.Configuration.{Configuration}
use Rattle.wa_model.specs.Plan.{Plan}
use Rattle.run_theory.proofs.TestedPokes.{passes_each}
use Rattle.wa_model.specs.Store.{Store}
use Rattle.wa_model.specs.Untouched.{IsCalm}
use Rattle.strand_laws.proofs.Apart.{Gap}
use Rattle.strand_laws.proofs.Between.{AreGaps, Chain, area_at}
use Rattle.strand_laws.proofs.Middle.{AllOff, EveryOff, Guards, Middle, answer_off, calm_apart, pokes_apart, s_begins, s_between, s_halts, s_runs, size_apart}
use Rattle.strand_laws.specs.Strands.{Strand, StrandProgram, areas_of, plan_of}

abbrev pub gap_of : Strand → Gap
gap_of s = record { area = s.area; held = []; held' = [] }

-- the answers of a plan leave the areas of these strands alone
abbrev pub GuardsAll : Plan → List Strand → Type 0
GuardsAll plan [] = Unit {0}
GuardsAll plan (s ∷ ss) = Guards plan s.area × GuardsAll plan ss

abbrev pub CalmAll : List Strand → State → Type 0
CalmAll [] a = Unit {0}
CalmAll (s ∷ ss) a = IsCalm s.area a × CalmAll ss a

-- these pokes keep off all areas
abbrev pub ClearPokes : List Strand → List Poke → Type 0
ClearPokes [] qs = Unit {0}
ClearPokes (s ∷ ss) qs = EveryOff (gap_of s) qs × ClearPokes ss qs

-- those of an answer that passes the tests
pub clear_pokes : (plan : Plan) (ss : List Strand) (size : ℕ) (a : Answer) → GuardsAll plan ss → bad_poke size (plan.area ∷ plan.others) a.pokes ≡ None → ClearPokes ss a.pokes
clear_pokes plan [] size a h e = tt
clear_pokes plan (s ∷ ss) size a h e = (answer_off (gap_of s) size a.pokes (h.0 size a.pokes e), clear_pokes plan ss size a h.1 e)

-- a strand's plan has the areas of all
pub plan_guards : (g : StrandProgram) (s : Strand) → GuardsAll (plan_of g s) g.strands
plan_guards g s = each g.strands (All-contains_itself (areas_of g))
  where
    one : (x : Strand) → Contains (areas_of g) x.area → Guards (plan_of g s) x.area
    one x there = λ size qs e.
        All-contains (λ (y : Area). bad_poke size (y ∷ []) qs ≡ None) (s.area ∷ areas_of g) x.area (passes_each size (s.area ∷ areas_of g) qs e)
        (Contains-append_right (s.area ∷ []) (areas_of g) x.area there)

    each : (xs : List Strand) → All (Contains (areas_of g)) (map (λ (x : Strand). x.area) xs) → GuardsAll (plan_of g s) xs
    each [] h = tt
    each (x ∷ xs) h =
        (one x (All-head (Contains (areas_of g)) x.area (map (λ (y : Strand). y.area) xs) h), each xs (All-tail (Contains (areas_of g)) x.area (map (λ (y : Strand). y.area) xs) h))

pub all_off : (plan : Plan) (ss : List Strand) (ps : List Gap) (a : State) → AreGaps ss ps → CalmAll ss a → GuardsAll plan ss → AllOff plan ps a
all_off plan [] [] a g c o = tt
all_off plan [] (p ∷ ps) a g c o = absurd g
all_off plan (s ∷ ss) [] a g c o = absurd g
all_off plan (s ∷ ss) (p ∷ ps) a g c o = ((subst (λ z. IsCalm z a) (sym g.0) c.0, subst (Guards plan) (sym g.0) o.0), all_off plan ss ps a g.1 c.1 o.1)

-- at one area
pub calm_at : (ss : List Strand) (i : ℕ) (a : State) → i < length ss → CalmAll ss a → IsCalm (area_at ss i) a
calm_at [] i a lt h = let no_way : ⊥ = omega arith in absurd no_way
calm_at (s ∷ ss) zero a lt h = h.0
calm_at (s ∷ ss) (suc i) a lt h = calm_at ss i a (omega arith) h.1

pub calm_over : (area : Area) (ps : List Gap) (a a' : State) → Middle ps a a' → IsCalm area a → IsCalm area a'
calm_over area [] a a' h c = subst (IsCalm area) h c
calm_over area (p ∷ ps) a a' h c = calm_over area ps h.0 a' h.2 (calm_apart area p a h.0 h.1 c)

-- ---- an answer is poked into both, and given

pub chain_resumed : (ss : List Strand) (ps : List Gap) (s t : Store) (task : Task) (d : Configuration) (area : Area) (a : Answer) (v : Option Value) (l : Left) → AreGaps ss ps → Chain ps s t
    → bad_poke (length s.memory) (area ∷ []) a.pokes ≡ None
    → ClearPokes ss a.pokes → Middle ps (runs task (resumed d (poked s a.pokes) (option_to_list v)) l) (runs task (resumed d (poked t a.pokes) (option_to_list v)) l)
chain_resumed [] [] s t task d area a v l g h b c = ap (λ (z : Store). runs task (resumed d (poked z a.pokes) (option_to_list v)) l) h
chain_resumed [] (p ∷ ps) s t task d area a v l g h b c = absurd g
chain_resumed (x ∷ ss) [] s t task d area a v l g h b c = absurd g
chain_resumed (x ∷ ss) (p ∷ ps) s t task d area a v l g h b c =
    let u = h.0 in
    let off_ : EveryOff p a.pokes = every p (gap_of x) g.0 a.pokes c.0 in
    let sz : length s.memory ≡ length u.memory = sym (size_apart p s u h.1) in (
      runs task (resumed d (poked u a.pokes) (option_to_list v)) l,
      s_runs (record { store = pokes_apart p s u (area ∷ []) a.pokes b off_ h.1; here = refl; under = refl }),
      chain_resumed ss ps u t task d area a v l g.1 h.2 (subst (λ n. bad_poke n (area ∷ []) a.pokes ≡ None) sz b) c.1,
    )
  where
    every : (p q : Gap) → p.area ≡ q.area → (qs : List Poke) → EveryOff q qs → EveryOff p qs
    every p q e [] k = tt
    every p q e (z ∷ qs) k = (subst (λ (y : Area). overlap z.at (length z.bytes) y.at y.len ≡ false) (sym e) k.0, every p q e qs k.1)

pub chain_between : (ps : List Gap) (s t : Store) (l : Left) → Chain ps s t → Middle ps (between s l) (between t l)
chain_between [] s t l h = ap (λ (z : Store). between z l) h
chain_between (p ∷ ps) s t l h = (between h.0 l, s_between h.1, chain_between ps h.0 t l h.2)

pub chain_halts : (ps : List Gap) (s t : Store) → Chain ps s t → Middle ps (halts s) (halts t)
chain_halts [] s t h = ap halts h
chain_halts (p ∷ ps) s t h = (halts h.0, s_halts h.1, chain_halts ps h.0 t h.2)

pub chain_begins : (ps : List Gap) (s t : Store) (x : ℕ) (l : Left) → Chain ps s t → Middle ps (begins x s l) (begins x t l)
chain_begins [] s t x l h = ap (λ (z : Store). begins x z l) h
chain_begins (p ∷ ps) s t x l h = (begins x h.0 l, s_begins h.1, chain_begins ps h.0 t x l h.2)
