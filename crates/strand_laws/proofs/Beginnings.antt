-- The strands of both modules begin together.
use Rattle.run_theory.proofs.QuietRuns.{FailsOutside, opening_fails}
use Rattle.headline.specs.World.{World}
use Rattle.headline.specs.WrittenRuns.{WrittenLaw}
use Rattle.headline.proofs.FromOpenings.{OpensTogether, StartFits}
use Rattle.headline.proofs.Reductions.{LeftFits, r_begins, r_between}
use Rattle.std.proofs.Common.{All, Bool, List, None, Option, Some, [], ap, arith, false, length, refl, subst, suc, sym, true, ℕ, ◌+◌, ◌++◌, ◌<◌, ◌∙◌, ◌∷◌, ◌≡◌, ◌≤◌, append-nil}
use Rattle.std.specs.Prelude.{map, slice_get, drop}
use Rattle.run_theory.proofs.Follow.{Alike as AllAlike}
use Rattle.run_theory.proofs.Runs.{leads_nowhere}
use Rattle.wa_model.specs.Behaves.{AtCalls}
use Rattle.wa_model.specs.Blocking.{Left, Note, State, all_left, begins, begun, between, done_notes, halts, no_store, note, on_to, started}
use Rattle.wa_model.specs.Instantiation.{Opening, fails_as, opening, opens}
use Rattle.wa_model.specs.Machine.{Leads, Ran, moves, stays}
use Rattle.wa_model.specs.Outside.{ended}
use Rattle.wa_model.specs.Plan.{Entry, EntryFits, Outcome, OutcomeFits}
use Rattle.wa_model.specs.Protocol.{Held, free, held_begun, held_on, held_started, over, starting, store_held}
use Rattle.wa_model.specs.Store.{Store, with_memory}
use Rattle.wa_model.specs.declared.events.End.{End}
use Rattle.wa_model.specs.declared.events.End.TheVariants.{Done}
use Rattle.wa_types.specs.Base.{Base}
use Rattle.wa_types.specs.Pausing.{Settings}
use Rattle.wa_types.specs.Runtime.{global_space}
use Rattle.wa_types.specs.Syntax.{Module}
use Rattle.wa_types.specs.declared.values.Value.TheVariants as V
use Rattle.strand_laws.proofs.Between.{InsideAll, chain_to}
use Rattle.strand_laws.proofs.Clear.{chain_begins, chain_between}
use Rattle.strand_laws.proofs.InStep as I
use Rattle.strand_laws.proofs.Switch.{wake_all}
use Rattle.strand_laws.proofs.Threads.{AllHang, hang_lengths, unfinished, unfinished_few}
use Rattle.strand_laws.specs.Strands.{Strand, StrandProgram, StrandsBehaveOn, StrandsNumbered, StrandsUntouched, Strung, beginnings, first_outcomes, held_loom, no_strand, on, plan_of, strand_at, strung_loom, with_source}
use Rattle.strand_laws.specs.Woven.{Loom, Thread, Told as ToldBy, Woven, ends_strand, put, told_by, weave, weave_on, woven}
use Rattle.strand_laws.proofs.EachWorld.{Calm, Family, FamilyLaws, Go, Hang, Kept, Near, Ok, Q, Sm, both_stores, dear, fresh, going_on, near_behind, state_zero, to_both, world_at}
use Rattle.strand_laws.proofs.Waking.{nothing_allowed}
use Rattle.strand_laws.proofs.Pausing.{strand_law}
use Rattle.strand_laws.proofs.WholeRuns.{QTNow, behave_together}

module _ (family : Family) (laws : FamilyLaws family) where
  abbrev wd : ℕ → World
  wd = world_at family

  abbrev m : Module
  m = family.original

  abbrev st : Settings
  st = family.settings

  abbrev which : List Bool
  which = family.which

  abbrev written : Module
  written = family.written

  abbrev g : StrandProgram
  g = family.program

  abbrev count : ℕ
  count = length family.program.strands

  abbrev G : Store → Type 0
  G = family.good

  abbrev Known : ℕ → Held → Type 0
  Known = family.known

  abbrev StoreKnown : Store → Type 0
  StoreKnown = family.store_known

  abbrev A : Loom Strung
  A = strung_loom family.settings (with_source family.program family.original)

  abbrev B : Loom Held
  B = held_loom (with_source family.program family.written)

  abbrev wl : (i : ℕ) → i < length family.program.strands → WrittenLaw (world_at family i) (family.known i)
  wl = laws.runs

  -- ---- both begin

  abbrev pub EachFit : List Strand → Type 0
  EachFit [] = Unit {0}
  EachFit (s ∷ ss) = All (EntryFits m) s.entries × EachFit ss

  -- of the strands from this number on
  abbrev pub EachOut : (strand : ℕ) → List (List Outcome) → Type 0
  EachOut i [] = Unit {0}
  EachOut i (os ∷ oss) = All OutcomeFits os × EachOut (suc i) oss

  none_fit : {X : Type 0} (P : X → Type 0) → All P []
  none_fit P = λ k d lt. let no_way : ⊥ = omega arith in absurd no_way

  fits_first : (ss : List Strand) → EachFit ss → All (EntryFits m) (Rattle.std.specs.Option.unwrap_or (slice_get ss 0) no_strand).entries
  fits_first [] h = none_fit (EntryFits m)
  fits_first (s ∷ ss) h = h.0

  outs_first : (oss : List (List Outcome)) → EachOut 0 oss → All OutcomeFits (first_outcomes oss)
  outs_first [] h = none_fit OutcomeFits
  outs_first (os ∷ oss) h = h.0

  abbrev thread_a : Strung → Thread Strung
  thread_a s = record { due = 0; at = Some s }

  abbrev thread_b : Held → Thread Held
  thread_b s = record { due = 0; at = Some s }

  hang_others : (s' : Store) (i : ℕ) (ss : List Strand) (oss : List (List Outcome)) → i + length ss ≤ count → EachFit ss → EachOut i oss
      → AllHang (Hang family laws) s' i 0 (map thread_a (beginnings (λ l. on (between no_store l)) (with_source g m) ss oss))
      (map thread_b (beginnings (free no_store) (with_source g written) ss oss))
  hang_others s' i [] [] le fs os = tt
  hang_others s' i [] (o ∷ oss) le fs os = tt
  hang_others s' i (s ∷ ss) [] le fs os = tt
  hang_others s' i (s ∷ ss) (o ∷ oss) le fs os = (
    refl,
    0,
    0,
    omega arith,
    fresh no_store no_store s' (all_left (plan_of g s) o) (omega arith) (record { entries = fs.0; outcomes = os.0 }),
    hang_others s' (suc i) ss oss
        (omega arith) fs.1 os.1,
  )

  others_fit : (ss : List Strand) → EachFit ss → EachFit (drop 1 ss)
  others_fit [] h = tt
  others_fit (s ∷ ss) h = h.1

  others_out : (oss : List (List Outcome)) → EachOut 0 oss → EachOut 1 (drop 1 oss)
  others_out [] h = tt
  others_out (os ∷ oss) h = h.1

  others_few : (ss : List Strand) → 0 < length ss → 1 + length (drop 1 ss) ≤ length ss
  others_few [] lt = omega arith
  others_few (s ∷ ss) lt = omega arith

  none_made : (a b : Woven Held) (n : ℕ) (es : List ToldBy) → Leads (weave B) a n es b → n ≡ 0 → es ≡ []
  none_made a b n es stays e = refl
  none_made a b n es (moves e1 rest c q) e = let no_way : ⊥ = omega arith in absurd no_way

  none_alike : (es fs : List ToldBy) → AllAlike (QTNow family laws) es fs → fs ≡ [] → es ≡ []
  none_alike [] fs al e = refl
  none_alike (x ∷ es) [] al e = absurd al
  none_alike (x ∷ es) (y ∷ fs) al e = cc

  abbrev PreNow : ℕ → Woven Strung → Woven Held → Type 0
  PreNow = I.Pre A B (Go family laws) (Hang family laws) (Near family laws) (Sm family laws) (Kept family laws) (Q family laws) (Calm family laws) (Ok family laws) (dear family laws)

  module _ (some : 0 < count) (sf : StartFits (wd 0) G) (fails : (how : End) → opening (Base m) g.globals ≡ fails_as how → ends_strand true how ≡ false)
      (inside_start : (s : Store) → opening (Base m) g.globals ≡ opens s → InsideAll g.strands (length s.memory)) (entries_fit : EachFit g.strands) (oss : List (List Outcome))
      (outs_fit : EachOut 0 oss) where
    abbrev left0 : Left
    left0 = all_left (plan_of g (strand_at g 0)) (first_outcomes oss)

    abbrev others_a : List Strung
    others_a = beginnings (λ l. on (between no_store l)) (with_source g m) (drop 1 g.strands) (drop 1 oss)

    abbrev others_b : List Held
    others_b = beginnings (free no_store) (with_source g written) (drop 1 g.strands) (drop 1 oss)

    abbrev from_a : Ran State Note → Ran (Woven Strung) ToldBy
    from_a r = woven A true 0 0 r.events (on r.last) (map thread_a (on r.last ∷ others_a))

    abbrev from_b : Ran Held Note → Ran (Woven Held) ToldBy
    from_b r = woven B true 0 0 r.events r.last (map thread_b (r.last ∷ others_b))

    abbrev TogetherOf : Ran State Note → Ran Held Note → Type 0
    TogetherOf r r' = AllAlike (QTNow family laws) (from_a r).events (from_b r').events × PreNow 0 (from_a r).last (from_b r').last

    lf0 : LeftFits (wd 0) left0
    lf0 = record { entries = fits_first g.strands entries_fit; outcomes = outs_first oss outs_fit }

    hung0 : (s' : Store) → AllHang (Hang family laws) s' 1 0 (map thread_a others_a) (map thread_b others_b)
    hung0 s' = hang_others s' 1 (drop 1 g.strands) (drop 1 oss) (others_few g.strands some) (others_fit g.strands entries_fit) (others_out oss outs_fit)

    lengths0 : length (map thread_a others_a) ≡ length (map thread_b others_b)
    lengths0 = hang_lengths (Hang family laws) no_store 1 0 (map thread_a others_a) (map thread_b others_b) (hung0 no_store)

    same_self : (Sm family laws) no_store no_store
    same_self = record { globals_same = λ x lt. refl; size = refl; outside = λ x o. refl }

    -- instantiation fails
    failed : (how : End) → ends_strand true how ≡ false → AtCalls (ended how) (slice_get no_store.globals (global_space m) ≡ Some (V.I32 0))
        → TogetherOf (record { events = note (ended how) no_store ∷ []; last = halts no_store }) (record { events = note (ended how) no_store ∷ []; last = over no_store })
    failed how e outside = by_end (ends_strand true how) e
      where
        by_end : (t : Bool) → t ≡ false
            → AllAlike (QTNow family laws) (told_by 0 (note (ended how) no_store ∷ []) ++
            (I.chain (weave_on A (suc (length (map thread_a (on (halts no_store) ∷ others_a))))) t no_store (put 0 0 None (map thread_a (on (halts no_store) ∷ others_a)))).events)
            (told_by 0 (note (ended how) no_store ∷ []) ++ (I.chain (weave_on B (suc (length (map thread_b (over no_store ∷ others_b))))) t no_store
            (put 0 0 None (map thread_b (over no_store ∷ others_b)))).events)
            × PreNow 0 (I.chain (weave_on A (suc (length (map thread_a (on (halts no_store) ∷ others_a))))) t no_store (put 0 0 None (map thread_a (on (halts no_store) ∷ others_a)))).last
            (I.chain (weave_on B (suc (length (map thread_b (over no_store ∷ others_b))))) t no_store (put 0 0 None (map thread_b (over no_store ∷ others_b)))).last
        by_end true q = cc
        by_end false q = (((refl, record { event = refl; ends = same_self; image = tt; kept = λ at z. cc; state = outside }), tt), I.pre_over _ _)

    -- the first strand ends at once
    done_first : (s s' : Store) → (Near family laws) s s' → TogetherOf (record { events = note (ended Done) s ∷ []; last = halts s }) (record { events = note (ended Done) s' ∷ []; last = over s' })
    done_first s s' nr =
        let ts = put 0 0 None (map thread_a (on (halts s) ∷ others_a)) in
        let us = put 0 0 None (map thread_b (over s' ∷ others_b)) in
        let same : length ts ≡ length us = ap suc lengths0 in
        let h : AllHang (Hang family laws) s' 0 0 ts us = (refl, 0, 0, omega arith, tt, hung0 s') in
        let few_a : unfinished ts ≤ suc (length ts) = let q = unfinished_few ts in omega arith in
        let few_b : unfinished us ≤ suc (length ts) = let q = unfinished_few us in omega arith in
        let wk0 =
        wake_all A B (Go family laws) (Hang family laws) (Near family laws) (Sm family laws) (Kept family laws) (Q family laws) (Calm family laws) (Ok family laws) (dear family laws)
        (strand_law family laws) (suc (length ts)) (suc (length ts)) s s' 0 ts us nr same h few_a few_b in
        let wk =
        subst (λ n. I.Woke A B (Go family laws) (Hang family laws) (Near family laws) (Sm family laws) (Kept family laws) (Q family laws) (Calm family laws) (Ok family laws) (dear family laws) s 0
        (weave_on A (suc (length ts)) s ts) (weave_on B (suc n) s' us)) same wk0 in
        let bd = wk.bound in
        let zero_cost : wk.cost ≡ 0 = omega arith in
        let no_fs = none_made _ wk.to wk.cost wk.fs wk.leads zero_cost in
        let no_es = none_alike wk.es1 wk.fs wk.alike no_fs in
        let at_to = leads_nowhere (Woven Held) ToldBy (weave B) _ wk.to wk.cost wk.fs wk.leads zero_cost in
        let left0_ : wk.left ≡ 0 = omega arith in
        let all_first = wk.events_are ∙ ap (λ (z : List ToldBy). wk.es0 ++ z) no_es ∙ append-nil wk.es0 in (
          (
            (refl, record { event = refl; ends = nr.same; image = tt; kept = λ at z. cc; state = (state_zero family laws) 0 some s s' nr }),
            subst (λ z. AllAlike (QTNow family laws) z (weave_on B (suc (length us)) s' us).events) (sym all_first) wk.at_once,
          ),
          subst (λ z. PreNow z (weave_on A (suc (length ts)) s ts).last (weave_on B (suc (length us)) s' us).last) left0_
              (subst (λ z. PreNow wk.left (weave_on A (suc (length ts)) s ts).last z) (sym at_to) wk.rel),
        )

    -- it goes on
    goes_first : (s s' : Store) (a : State) (b : Held) → store_held b ≡ s' → (Go family laws) 0 0 (on a) b → TogetherOf (record { events = []; last = a }) (record { events = []; last = b })
    goes_first s s' a b eb go = (
      tt,
      I.pre_goes 0 0 0 0 (on a) b (map thread_a (on a ∷ others_a)) (map thread_b (b ∷ others_b)) (omega arith) (ap suc lengths0) (omega arith) go
          (refl, 0, 0, omega arith, tt, hung0 (store_held b)),
    )

    abbrev BeganNow : Ran State Note
    BeganNow = begun (Base m).start left0 (opening (Base m) g.globals)

    abbrev HeldNow : Ran Held Note
    HeldNow = held_begun written.start left0 (opening written g.globals)

    known0 : Known 0 HeldNow.last
    known0 = (wl 0 some).begins (first_outcomes oss) (outs_first oss outs_fit)

    together : TogetherOf BeganNow HeldNow
    together = by_opening (opening (Base m) g.globals) refl (opening written g.globals) refl sf.opened
      where
        both : (r : Ran State Note) (r' : Ran Held Note) → BeganNow ≡ r → HeldNow ≡ r' → TogetherOf r r' → TogetherOf BeganNow HeldNow
        both r r' e e' h = subst (λ z. TogetherOf z HeldNow) (sym e) (subst (TogetherOf r) (sym e') h)

        by_opening : (o : Opening) → opening (Base m) g.globals ≡ o → (o' : Opening) → opening written g.globals ≡ o' → OpensTogether (wd 0) G o o' → TogetherOf BeganNow HeldNow
        by_opening (fails_as how) q o' q' h =
            both _ _ (ap (begun (Base m).start left0) q) (ap (held_begun written.start left0) (q' ∙ h.0))
            (failed how (fails how q) (subst FailsOutside q (opening_fails (Base m) g.globals) (slice_get no_store.globals (global_space m) ≡ Some (V.I32 0))))
        by_opening (opens s) q o' q' h = by_start (Base m).start refl (strand_at g 0).entries refl
          where
            was : BeganNow ≡ started s left0 (Base m).start
            was = ap (begun (Base m).start left0) q

            now : HeldNow ≡ held_started h.0 left0 (Base m).start
            now = ap (held_begun written.start left0) (q' ∙ h.1) ∙ ap (λ z. held_started h.0 left0 z) sf.start

            ins : InsideAll g.strands (length s.memory)
            ins = inside_start s q

            near_by : StoreKnown h.0 → (Near family laws) s h.0
            near_by known =
                let ch = chain_to g.strands s s.memory refl ins (λ x o. refl) in
                (near_behind family laws) 0 some 0 ch.gaps s s h.0 ch.are ch.chain h.3 h.2 known ins

            known_of : (r' : Ran Held Note) → HeldNow ≡ r' → Known 0 r'.last
            known_of r' e = subst (λ (z : Ran Held Note). Known 0 z.last) e known0

            by_start : (o : Option ℕ) → (Base m).start ≡ o → (es : List Entry) → (strand_at g 0).entries ≡ es → TogetherOf BeganNow HeldNow
            by_start (Some x) e es ee =
                let now2 = now ∙ ap (λ z. held_started h.0 left0 z) e in
                let kn = known_of _ now2 in
                let nr = near_by (laws.opened_known h.0 (q' ∙ h.1)) in
                let ch = (to_both family laws) s h.0 nr in
                let t : Store = with_memory s h.0.memory in
                both (record { events = []; last = begins x s left0 }) (record { events = []; last = starting x h.0 left0 }) (was ∙ ap (λ z. started s left0 z) e) now2
                (goes_first s h.0 (begins x s left0) (starting x h.0 left0) refl
                (going_on (begins x s left0) (begins x t left0) (starting x h.0 left0) ch.gaps some ch.are (chain_begins ch.gaps s t x left0 ch.chain)
                (r_begins nr.good ((both_stores family laws) 0 some 0 s h.0 nr) lf0 (sf.lawful x e) ((nothing_allowed family laws) 0 (begins x t left0))) kn ins))
            by_start None e [] ee =
                let now2 = now ∙ ap (λ z. held_started h.0 left0 z) e ∙ ap (λ z. record { events = done_notes h.0 z; last = held_on h.0 left0 z }) ee in
                let kn = known_of _ now2 in
                both (record { events = note (ended Done) s ∷ []; last = halts s }) (record { events = note (ended Done) h.0 ∷ []; last = over h.0 })
                (was ∙ ap (λ z. started s left0 z) e ∙ ap (λ z. record { events = done_notes s z; last = on_to s left0 z }) ee) now2 (done_first s h.0 (near_by (laws.opened_known h.0 (q' ∙ h.1))))
            by_start None e (e1 ∷ es) ee =
                let now2 = now ∙ ap (λ z. held_started h.0 left0 z) e ∙ ap (λ z. record { events = done_notes h.0 z; last = held_on h.0 left0 z }) ee in
                let kn = known_of _ now2 in
                let nr = near_by (laws.opened_known h.0 (q' ∙ h.1)) in
                let ch = (to_both family laws) s h.0 nr in
                let t : Store = with_memory s h.0.memory in
                both (record { events = []; last = between s left0 }) (record { events = []; last = free h.0 left0 })
                (was ∙ ap (λ z. started s left0 z) e ∙ ap (λ z. record { events = done_notes s z; last = on_to s left0 z }) ee) now2
                (goes_first s h.0 (between s left0) (free h.0 left0) refl
                (going_on (between s left0) (between t left0) (free h.0 left0) ch.gaps some ch.are (chain_between ch.gaps s t left0 ch.chain)
                (r_between nr.good ((both_stores family laws) 0 some 0 s h.0 nr) lf0 ((nothing_allowed family laws) 0 (between t left0))) kn ins))

    -- they behave, from where both begin together
    pub strands_behave_on : (n : ℕ) → StrandsUntouched st (with_source g m) oss n → StrandsNumbered st which (with_source g m) oss n → StrandsBehaveOn st which (with_source g m) written oss n
    strands_behave_on n untouched nums = (behave_together family laws) oss n (record { alike = together.0; pre = together.1 }) untouched nums
