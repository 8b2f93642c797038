-- Worlds that are saved by modules that are emitted, and gone on with by others, are those of their originals.
use Rattle.std.proofs.Common.{arith, ◌≡◌, ◌≤◌, ℕ, suc, List, [], ◌∷◌, ◌++◌, length, map, Some, Bool, true, false, All, refl, sym, ap, ◌∙◌, subst}
use Rattle.std.specs.Prelude.{slice_get}
use Rattle.std.specs.List.{AllZip}
use Rattle.std.proofs.lemmas.List.Elements.{All-head, All-tail}
use Rattle.wa_types.specs.Modules.{all_globals, func_sorts, imported, imported_func}
use Rattle.wa_types.specs.Pausing.{Settings, TellsMayPause}
use Rattle.wa_types.specs.Syntax.{done, Func, Module}
use Rattle.wa_model.specs.Behaves.{Compared, PausesNumbered}
use Rattle.wa_model.specs.Blocking.{Blocking}
use Rattle.wa_model.specs.Instantiation.{opening}
use Rattle.wa_model.specs.Plan.{Outcome, OutcomeFits, Plan}
use Rattle.wa_model.specs.Store.{Store}
use Rattle.world_model.specs.World.{Actor, Original, Program, StartsHeld, protocol_story}
use Rattle.run_theory.specs.Fitting.{StoreFits, global_types}
use Rattle.run_theory.specs.Growth.{Each, EntryNamed}
use Rattle.run_laws.proofs.Growing.{compared_lower, pauses_lower}
use Rattle.run_laws.proofs.OwnEnds.{blocking_own}
use Rattle.snapshot_store.specs.Snapshots.{ProgramRecord}
use Rattle.world_laws.specs.Originals.{MayRun, Orderly, new_calls}
use Rattle.world_laws.specs.Snapshots.{IsRecordOf, StandsSo, from_record, from_records, table_made}
use Rattle.world_laws.proofs.Replaying.{Since, played_since}
use Rattle.world_laws.proofs.Stories.{IsStory}
use Rattle.image_laws.specs.HeldPauses.{ImageGoesOn, PausesHold, RunCompared, WholeBound}
use Rattle.emitted_form.specs.PolicyLaws.{EmittedDifferInCode, without_code}
use Rattle.joined_worlds.specs.JoinedOriginals.{AllGoOver, AreOrderly, GoesOver, JoinedWorldsOfOriginals}
use Rattle.joined_worlds.proofs.JoinedRows.{Heres, a_program, joined_world, no_program}
use Rattle.joined_worlds.proofs.JoinedStories.{RunsKnown}
use Rattle.joined_worlds.proofs.RecordStories.{Ordered, record_joined}

-- ---- one list tells which functions may pause

one_which : (xs ys : List Bool) → length xs ≡ length ys → ((i : ℕ) → slice_get xs i ≡ Some true → slice_get ys i ≡ Some true) → ((i : ℕ) → slice_get ys i ≡ Some true → slice_get xs i ≡ Some true)
    → xs ≡ ys
one_which [] [] l f g = refl
one_which [] (y ∷ ys) l f g = let no_way : ⊥ = omega arith in absurd no_way
one_which (x ∷ xs) [] l f g = let no_way : ⊥ = omega arith in absurd no_way
one_which (x ∷ xs) (y ∷ ys) l f g =
    ap (λ (z : Bool). z ∷ xs) (same x y (λ h. f 0 (ap Some h)) (λ h. g 0 (ap Some h))) ∙ ap (λ (zs : List Bool). y ∷ zs) (one_which xs ys (omega arith) (λ i. f (suc i)) (λ i. g (suc i)))
  where
    same : (x y : Bool) → (x ≡ true → Some y ≡ Some true) → (y ≡ true → Some x ≡ Some true) → x ≡ y
    same true true a b = refl
    same false false a b = refl
    same true false a b = let e = a refl in cc
    same false true a b = let e = b refl in cc

which_same : (m : Module) (s : Settings) (xs ys : List Bool) → TellsMayPause m s xs → TellsMayPause m s ys → xs ≡ ys
which_same m s xs ys a b = one_which xs ys (a.len ∙ sym b.len) (λ i h. (b.each i).1 ((a.each i).0 h)) (λ i h. (a.each i).1 ((b.each i).0 h))

-- ---- a store that fits one module fits the other

sorts_alone : (fs : List Func) → map (λ (f : Func). f.sort) (map (λ (f : Func). record f { body = done }) fs) ≡ map (λ (f : Func). f.sort) fs
sorts_alone [] = refl
sorts_alone (f ∷ fs) = ap (λ (ks : List ℕ). f.sort ∷ ks) (sorts_alone fs)

same_sorts : (p q : Module) → without_code p ≡ without_code q → func_sorts p ≡ func_sorts q
same_sorts p q e =
    ap (λ (ks : List ℕ). imported imported_func p ++ ks) (sym (sorts_alone p.funcs)) ∙ ap func_sorts e ∙ ap (λ (ks : List ℕ). imported imported_func q ++ ks) (sorts_alone q.funcs)

fits_other : (p q : Module) (t : Store) → without_code p ≡ without_code q → StoreFits p t → StoreFits q t
fits_other p q t e h = record {
  globals = h.globals ∙ ap (λ (z : Module). global_types (all_globals z)) e;
  table = subst (λ ss. Each (EntryNamed (length ss)) t.table) (same_sorts p q e) h.table;
}

module _ (image_goes_on : ImageGoesOn) (pauses_hold : PausesHold) (whole_bound : WholeBound) (code_alone : EmittedDifferInCode) where
  -- ---- one original

  module _ (o : Original) (w v : Program) (h : GoesOver o w v) (may : MayRun o) where
    abbrev m : Module
    m = o.program.source

    abbrev plan : Plan
    plan = o.program.plan

    alone : without_code w.source ≡ without_code v.source
    alone = code_alone m o.settings h.which w.source v.source h.saved h.continued

    tables : table_made (opening w.source plan.globals) ≡ table_made (opening v.source plan.globals)
    tables = ap (λ (z : Module). table_made (opening z o.program.plan.globals)) alone

    tells : TellsMayPause m o.settings h.which
    tells = let c = h.can in c.tells

    ordered : (os : List Outcome) → Orderly o os → Ordered o h.which os
    ordered os calm = record {
      untouched = calm.untouched;
      numbered = subst (λ (which : List Bool). PausesNumbered o.program.source o.settings which (Blocking o.program.source o.program.plan os o.program.steps).events)
          (which_same o.program.source o.settings calm.which h.which calm.tells tells) calm.numbered;
    }

    known : (os : List Outcome) → All OutcomeFits os → Ordered o h.which os → RunsKnown o w.source v.source h.which os
    known os fits calm =
        let compared : Compared m o.settings plan os o.program.steps = record { fits = may.fits; listed = may.listed; outcomes = fits; untouched = calm.untouched } in
        let lower : (n : ℕ) → n ≤ o.program.steps → RunCompared o.program.source o.settings h.which o.program.plan os n = λ n le. record {
          can = h.can;
          free = h.free;
          formed = may.well_formed;
          compared = compared_lower o.program.source o.settings o.program.plan os o.program.steps n le compared;
          numbered = pauses_lower o.program.source o.settings h.which o.program.plan os o.program.steps n le calm.numbered;
        } in
        let first = h.first in
        let rw_of = first.rewrites in
        record {
          behaves = λ n le.
              rw_of.behaves may.well_formed h.which tells o.program.plan os n (compared_lower o.program.source o.settings o.program.plan os o.program.steps n le compared)
              (pauses_lower o.program.source o.settings h.which o.program.plan os o.program.steps n le calm.numbered);
          own = λ n. blocking_own o.program.source o.program.plan os n fits;
          comes = λ n le x there within. pauses_hold o.program.source o.settings h.which w.source o.program.plan os n (lower n le) h.saved x (record { there = there; within = within });
          goes_on = λ n le x there within t holds.
              image_goes_on o.program.source o.settings h.which v.source o.program.plan os n (lower n le) h.continued x (record { there = there; within = within }) t
              (record {
                fits = fits_other w.source v.source t alone holds.fits;
                ranges = holds.ranges;
                state = holds.state;
                same = holds.same;
                table = holds.table;
                image = holds.image;
              });
          bounds = λ n le x there within. whole_bound o.program.source o.settings o.program.plan os n x (record { there = there; within = within });
        }

    joined : (a b : Actor) (r : ProgramRecord) → StartsHeld w a → (s : Since a b) → StandsSo w s.made s.used b r → (rest : List Outcome) → All OutcomeFits (s.used ++ rest)
        → Orderly o (s.used ++ rest) → new_calls (s.made ++ protocol_story (from_record v r) rest) ≤ length (s.used ++ rest)
        → IsStory o (s.used ++ rest) (s.made ++ protocol_story (from_record v r) rest)
    joined a b r held s k rest fits calm few =
        record_joined o w v h.first h.second h.which tells may known tables a b r held s k rest fits (ordered (s.used ++ rest) calm) few

  abbrev Hereby : List Original → List Program → List Program → List Actor → List Actor → List ProgramRecord → List Actor → Type 0
  Hereby = Heres GoesOver (λ o w v h. h.first) (λ o w v h. h.second) joined

  -- ---- all of them

  heres : (os : List Original) (ws vs : List Program) (was now : List Actor) (rs : List ProgramRecord) (next : List Actor) → AllGoOver os ws vs → All MayRun os → AllZip StartsHeld ws was
      → AllZip Since was now → length rs ≡ length ws
      → ((i : ℕ) (w : Program) (a b : Actor) (r : ProgramRecord) → slice_get ws i ≡ Some w → slice_get was i ≡ Some a → slice_get now i ≡ Some b → slice_get rs i ≡ Some r → IsRecordOf w a b r)
      → AllZip StartsHeld (from_records vs rs) next → AreOrderly os was now next → Hereby os ws vs was now rs next
  heres [] [] [] [] [] [] [] over may st si count each begins calm = no_program
  heres (o ∷ os) (w ∷ ws) (v ∷ vs) (a ∷ was) (b ∷ now) (r ∷ rs) (c ∷ next) over may st si count each begins calm =
      a_program
      (record {
        over_it = over.0;
        may = All-head MayRun o os may;
        held = st.0;
        since = si.0;
        is = each 0 w a b r refl refl refl refl;
        begins = begins.0;
        calm = calm 0 o a b c refl refl refl refl;
      })
      (heres os ws vs was now rs next over.1 (All-tail MayRun o os may) st.1 si.1 (omega arith) (λ i w a b r. each (suc i) w a b r) begins.1 (λ i o a b c. calm (suc i) o a b c))
  heres [] [] [] (a ∷ was) now rs next over may st si count each begins calm = absurd st
  heres [] [] [] [] (b ∷ now) rs next over may st si count each begins calm = absurd si
  heres [] [] [] [] [] (r ∷ rs) next over may st si count each begins calm = let no_way : ⊥ = omega arith in absurd no_way
  heres [] [] [] [] [] [] (c ∷ next) over may st si count each begins calm = absurd begins
  heres (o ∷ os) (w ∷ ws) (v ∷ vs) [] now rs next over may st si count each begins calm = absurd st
  heres (o ∷ os) (w ∷ ws) (v ∷ vs) (a ∷ was) [] rs next over may st si count each begins calm = absurd si
  heres (o ∷ os) (w ∷ ws) (v ∷ vs) (a ∷ was) (b ∷ now) [] next over may st si count each begins calm = let no_way : ⊥ = omega arith in absurd no_way
  heres (o ∷ os) (w ∷ ws) (v ∷ vs) (a ∷ was) (b ∷ now) (r ∷ rs) [] over may st si count each begins calm = absurd begins
  heres _ _ _ was now rs next over may st si count each begins calm = absurd over

  pub joined_worlds_of_originals : JoinedWorldsOfOriginals
  joined_worlds_of_originals os ws vs detaches ds ds' last number lines more s over may world snap next calm =
      let si = played_since ws detaches world.count 1 world.actors world.now ds ds' lines world.played in
      joined_world GoesOver (λ o w v h. h.first) (λ o w v h. h.second) joined os ws vs detaches ds ds' last number lines more s world snap next
      (heres os ws vs world.actors world.now s.programs next.actors over may world.starts si snap.count snap.each next.starts calm)
