-- Whole runs of strands, from a joint simulation that begins.
use Rattle.headline.proofs.ToldMoves.{dear_of}
use Rattle.std.proofs.Common.{All, Bool, List, length, None, Option, Some, [], ap, arith, refl, subst, suc, sym, true, zero, ℕ, ◌⊎◌, ◌+◌, ◌++◌, ◌-◌, ◌<◌, ◌∙◌, ◌∷◌, ◌≡◌, ◌≤◌, append-nil, append_assoc, length-append}
use Rattle.std.specs.Prelude.{map, slice_get, drop}
use Rattle.run_theory.proofs.Moments.{Moment, at_event, at_state, moment}
use Rattle.run_theory.proofs.Follow.{Alike as AllAlike, Begins, alike_on, back, begins_on, forth}
use Rattle.run_theory.proofs.Runs.{leads_run}
use Rattle.wa_model.specs.Behaves.{IsPrefix, PauseNumbered}
use Rattle.wa_model.specs.Blocking.{State, all_left, begun, between, no_store}
use Rattle.wa_model.specs.Instantiation.{opening}
use Rattle.wa_model.specs.Machine.{Ran, run}
use Rattle.wa_model.specs.Plan.{Outcome}
use Rattle.wa_model.specs.Protocol.{Held, free, held_begun}
use Rattle.wa_model.specs.Store.{Store}
use Rattle.wa_model.specs.Untouched.{IsCalm}
use Rattle.wa_types.specs.Base.{Base}
use Rattle.wa_types.specs.Bounds.{Bound}
use Rattle.wa_types.specs.Pausing.{Settings}
use Rattle.wa_types.specs.Syntax.{Module}
use Rattle.strand_laws.proofs.Between.{OutAll}
use Rattle.strand_laws.proofs.Clear.{CalmAll}
use Rattle.strand_laws.proofs.EndTogether.{alike_long, over_back, over_forth}
use Rattle.strand_laws.proofs.InStep as I
use Rattle.strand_laws.proofs.WovenEnds.{ends_are_told, goes_now, none_now}
use Rattle.strand_laws.proofs.WovenRuns.{stands, stands_none}
use Rattle.strand_laws.specs.Weaving.{is_there}
use Rattle.strand_laws.specs.Strands.{AgreesNow, BlockingStrands, IsCalmNow, ProtocolStrands, SameTold, Strand, StrandEvent, StrandMoment, at_cost, at_note, store_woven, strung_store, StrandProgram, StrandsBehaveOn, StrandsNumbered, StrandsUntouched, Strung, beginnings, events_told, first_outcomes, held_loom, on, plan_of, strand_at, strung_from, strung_loom, waits, with_source, told_on}
use Rattle.strand_laws.specs.Woven.{Loom, Ready, Told as ToldBy, Woven, notes_told, standing_now, weave, woven}
use Rattle.strand_laws.proofs.EachWorld.{Calm, Family, FamilyLaws, Go, Hang, Kept, Near, Ok, Q, Sm, dear}
use Rattle.strand_laws.proofs.Pausing.{strands_in_step}

module _ (family : Family) (laws : FamilyLaws family) where
  abbrev m : Module
  m = family.original

  abbrev st : Settings
  st = family.settings

  abbrev which : List Bool
  which = family.which

  abbrev written : Module
  written = family.written

  abbrev g : StrandProgram
  g = family.program

  abbrev A : Loom Strung
  A = strung_loom family.settings (with_source family.program family.original)

  abbrev B : Loom Held
  B = held_loom (with_source family.program family.written)

  -- ---- whole runs

  abbrev pub start_a : List (List Outcome) → Ran (Woven Strung) ToldBy
  start_a oss =
      let r = strung_from (begun (Base m).start (all_left (plan_of g (strand_at g 0)) (first_outcomes oss)) (opening (Base m) g.globals)) in
      woven A true 0 0 r.events r.last (map (λ (s : Strung). record { due = 0; at = Some s }) (r.last ∷ beginnings (λ l. on (between no_store l)) (with_source g m) (drop 1 g.strands) (drop 1 oss)))

  abbrev pub start_b : List (List Outcome) → Ran (Woven Held) ToldBy
  start_b oss =
      let r = held_begun written.start (all_left (plan_of g (strand_at g 0)) (first_outcomes oss)) (opening written g.globals) in
      woven B true 0 0 r.events r.last (map (λ (s : Held). record { due = 0; at = Some s }) (r.last ∷ beginnings (free no_store) (with_source g written) (drop 1 g.strands) (drop 1 oss)))

  abbrev pub QTNow : ToldBy → ToldBy → Type 0
  QTNow = I.QT A B (Go family laws) (Hang family laws) (Near family laws) (Sm family laws) (Kept family laws) (Q family laws) (Calm family laws) (Ok family laws) (dear family laws)

  abbrev pub Joined : (n spare : ℕ) → Woven Strung → Woven Held → Type 0
  Joined = I.Joint A B (Go family laws) (Hang family laws) (Near family laws) (Sm family laws) (Kept family laws) (Q family laws) (Calm family laws) (Ok family laws) (dear family laws)

  -- both begin together
  pub record BeginsTogether (oss : List (List Outcome)) : Type 0 where
    pub alike : AllAlike QTNow (start_a oss).events (start_b oss).events
    pub pre : I.Pre A B (Go family laws) (Hang family laws) (Near family laws) (Sm family laws) (Kept family laws) (Q family laws) (Calm family laws) (Ok family laws) (dear family laws) 0
        (start_a oss).last (start_b oss).last

  -- ---- what the original's run is allowed

  outs : (ss : List Strand) (x : ℕ) → All (λ (a : Rattle.wa_model.specs.declared.answers.Area.Area). (x < a.at) ⊎ (a.at + a.len ≤ x)) (map (λ (s : Strand). s.area) ss) → OutAll ss x
  outs [] x h = tt
  outs (s ∷ ss) x h = (h 0 s.area (omega arith), outs ss x (λ k d lt. h (suc k) d (let z = lt in omega arith)))

  calms : (ss : List Strand) (t : State) → All (λ (s : Strand). IsCalm s.area t) ss → CalmAll ss t
  calms [] t h = tt
  calms (s ∷ ss) t h = (h 0 s (omega arith), calms ss t (λ k d lt. h (suc k) d (let z = lt in omega arith)))

  calm_ready : (o : Option (Ready Strung)) → IsCalmNow g.strands o
      → I.CalmNow A B (Go family laws) (Hang family laws) (Near family laws) (Sm family laws) (Kept family laws) (Q family laws) (Calm family laws) (Ok family laws) (dear family laws) o
  calm_ready None h = tt
  calm_ready (Some r) h = by_at r.at h
    where
      by_at : (s : Strung) → Rattle.strand_laws.specs.Strands.IsCalmAt g.strands s → (Calm family laws) r.strand s
      by_at (on t) h = calms g.strands t h
      by_at (waits task c a l) h = tt

  abbrev EveryNow : List ToldBy → Type 0
  EveryNow = I.Every A B (Go family laws) (Hang family laws) (Near family laws) (Sm family laws) (Kept family laws) (Q family laws) (Calm family laws) (Ok family laws) (dear family laws)

  everys : (ts : List ToldBy) → All (λ (t : ToldBy). PauseNumbered m st which t.note.stack t.note.pause) ts → EveryNow ts
  everys [] h = tt
  everys (t ∷ ts) h = (h 0 t (omega arith), everys ts (λ k d lt. h (suc k) d (let z = lt in omega arith)))

  every_right : (ts us : List ToldBy) → EveryNow (ts ++ us) → EveryNow us
  every_right [] us h = h
  every_right (t ∷ ts) us h = every_right ts us h.1

  every_first : (ts us : List ToldBy) → EveryNow (ts ++ us) → EveryNow ts
  every_first [] us h = tt
  every_first (t ∷ ts) us h = (h.0, every_first ts us h.1)

  allowed_start : (oss : List (List Outcome)) (n : ℕ) → StrandsUntouched st (with_source g m) oss n → StrandsNumbered st which (with_source g m) oss n
      → I.Allowed A B (Go family laws) (Hang family laws) (Near family laws) (Sm family laws) (Kept family laws) (Q family laws) (Calm family laws) (Ok family laws) (dear family laws) n
      (start_a oss).last
  allowed_start oss n untouched nums = record {
    calm = λ j es t l lt.
        let z : j ≡ j + 0 = omega arith in
        let r : run (weave A) j (start_a oss).last ≡ Rattle.wa_model.specs.Machine.after es (run (weave A) 0 t) =
        ap (λ q. run (weave A) q (start_a oss).last) z ∙ leads_run (Woven Strung) ToldBy (weave A) (start_a oss).last t j 0 es l in
        calm_ready (standing_now t) (subst (λ (q : Ran (Woven Strung) ToldBy). IsCalmNow g.strands (standing_now q.last)) r (untouched j lt));
    ok = λ j k es fs t u l e le.
        let z : n ≡ j + (suc (k + (n - j - suc k))) = omega arith in
        let r : run (weave A) n (start_a oss).last ≡ Rattle.wa_model.specs.Machine.after es (Rattle.wa_model.specs.Machine.after fs (run (weave A) (n - j - suc k) u)) =
        ap (λ q. run (weave A) q (start_a oss).last) z ∙ leads_run (Woven Strung) ToldBy (weave A) (start_a oss).last t j (suc (k + (n - j - suc k))) es l
        ∙ ap (Rattle.wa_model.specs.Machine.after es) (Rattle.run_theory.proofs.Runs.one_move (Woven Strung) ToldBy (weave A) k (n - j - suc k) fs t u e) in
        every_first fs (run (weave A) (n - j - suc k) u).events (every_right es (fs ++ (run (weave A) (n - j - suc k) u).events)
        (subst (λ (q : Ran (Woven Strung) ToldBy). EveryNow q.events) r (every_right (start_a oss).events (run (weave A) n (start_a oss).last).events (everys _ nums))));
  }

  -- ---- the law

  same_told : (x y : ToldBy) → QTNow x y → SameTold st which (with_source g m) x y
  same_told x y q =
      let h = q.1 in
      let e = h.ends in
      record {
        strand = q.0;
        event = h.event;
        ends = record { globals_same = e.globals_same; size = e.size; outside = λ x o. e.outside x (outs g.strands x o) };
        image = h.image;
        kept = h.kept;
        state = h.state;
      }

  same_events : (xs ys : List ToldBy) → AllAlike QTNow xs ys → events_told xs ≡ events_told ys
  same_events [] [] h = refl
  same_events [] (y ∷ ys) h = absurd h
  same_events (x ∷ xs) [] h = absurd h
  same_events (x ∷ xs) (y ∷ ys) h =
      let q = h.0.1 in
      ap (λ z. record { strand = z; event = x.note.event } ∷ events_told xs) h.0.0 ∙ ap (λ z. record { strand = y.strand; event = z } ∷ events_told xs) q.event
      ∙ ap (λ (z : List StrandEvent). record { strand = y.strand; event = y.note.event } ∷ z) (same_events xs ys h.1)

  events_on : (xs ys : List ToldBy) → events_told (xs ++ ys) ≡ events_told xs ++ events_told ys
  events_on [] ys = refl
  events_on (x ∷ xs) ys = ap (λ (z : List StrandEvent). record { strand = x.strand; event = x.note.event } ∷ z) (events_on xs ys)

  right_of : (xs ys : List ToldBy) → Begins QTNow xs ys → (k : ℕ) (y : ToldBy) → slice_get ys k ≡ Some y → (x : ToldBy) × (slice_get xs k ≡ Some x) × QTNow x y
  right_of xs [] h k y e = cc
  right_of [] (z ∷ ys) h k y e = absurd h
  right_of (x ∷ xs) (z ∷ ys) h zero y e = let same : z ≡ y = cc in (x, refl, subst (QTNow x) same h.0)
  right_of (x ∷ xs) (z ∷ ys) h (suc k) y e = right_of xs ys h.1 k y e

  pub strands_behave : (oss : List (List Outcome)) (n : ℕ) → BeginsTogether oss → StrandsUntouched st (with_source g m) oss n → StrandsNumbered st which (with_source g m) oss n
      → StrandsBehaveOn st which (with_source g m) written oss n
  strands_behave oss n bg untouched nums =
      record {
        moments = moments;
        over = over;
        over_too = over_too;
        reaches = reaches;
        notes = λ i y e. by_right i y (BlockingStrands st (with_source g m) oss n).events
            (right_of (BlockingStrands st (with_source g m) oss n).events (ProtocolStrands (with_source g written) oss n).events begun_so i y e);
      }
    where
      joint : Joined n 0 (start_a oss).last (start_b oss).last
      joint = (bg.pre, allowed_start oss n untouched nums)

      by_right : (i : ℕ) (y : ToldBy) (xs : List ToldBy) → (x : ToldBy) × (slice_get xs i ≡ Some x) × QTNow x y → (x : ToldBy) × (slice_get xs i ≡ Some x) × SameTold st which (with_source g m) x y
      by_right i y xs r = (r.0, r.1, same_told r.0 y r.2)

      no_cost : dear_of m [] ≡ 0
      no_cost = refl

      dear_on2 : (es fs : List ToldBy)
          → I.dear_told A B (Go family laws) (Hang family laws) (Near family laws) (Sm family laws) (Kept family laws) (Q family laws) (Calm family laws) (Ok family laws) (dear family laws)
          (es ++ fs) ≡ I.dear_told A B (Go family laws) (Hang family laws) (Near family laws) (Sm family laws) (Kept family laws) (Q family laws) (Calm family laws) (Ok family laws)
          (dear family laws) es + I.dear_told A B (Go family laws) (Hang family laws) (Near family laws) (Sm family laws) (Kept family laws) (Q family laws) (Calm family laws) (Ok family laws)
          (dear family laws) fs
      dear_on2 es fs =
          ap (dear_of m) (I.notes_on A B (Go family laws) (Hang family laws) (Near family laws) (Sm family laws) (Kept family laws) (Q family laws) (Calm family laws) (Ok family laws)
          (dear family laws) es fs) ∙ Rattle.headline.proofs.FromSimulation.dear_on m (notes_told es) (notes_told fs)

      seen_off : (s : Store) (o : Option (Ready Held))
          → I.SeenBy A B (Go family laws) (Hang family laws) (Near family laws) (Sm family laws) (Kept family laws) (Q family laws) (Calm family laws) (Ok family laws) (dear family laws) s o
          → AgreesNow (with_source g m) s o
      seen_off s None h = tt
      seen_off s (Some r) h = record { globals_same = h.globals_same; size = h.size; outside = λ x o. h.outside x (outs g.strands x o) }

      moments : (ts : List ToldBy) × (at : Store) × StrandMoment st (with_source g m) oss n ts at × (events_told ts ≡ events_told (ProtocolStrands (with_source g written) oss n).events)
          × AgreesNow (with_source g m) at (standing_now (ProtocolStrands (with_source g written) oss n).last)
      moments =
          by_moment (moment (Woven Strung) (Woven Held) ToldBy ToldBy (weave A) (weave B) Joined QTNow
          (I.dear_told A B (Go family laws) (Hang family laws) (Near family laws) (Sm family laws) (Kept family laws) (Q family laws) (Calm family laws) (Ok family laws) (dear family laws))
          (I.SeesW A B (Go family laws) (Hang family laws) (Near family laws) (Sm family laws) (Kept family laws) (Q family laws) (Calm family laws) (Ok family laws) (dear family laws))
          (I.SeesAt A B (Go family laws) (Hang family laws) (Near family laws) (Sm family laws) (Kept family laws) (Q family laws) (Calm family laws) (Ok family laws) (dear family laws))
          (strands_in_step family laws) n n 0 (start_a oss).last (start_b oss).last joint (omega arith))
        where
          same_so : (es : List ToldBy) → AllAlike QTNow es (run (weave B) n (start_b oss).last).events
              → events_told ((start_a oss).events ++ es) ≡ events_told ((start_b oss).events ++ (run (weave B) n (start_b oss).last).events)
          same_so es al = same_events ((start_a oss).events ++ es) ((start_b oss).events ++ (run (weave B) n (start_b oss).last).events)
              (alike_on QTNow (start_a oss).events es (start_b oss).events (run (weave B) n (start_b oss).last).events bg.alike al)

          by_moment : Moment (Woven Strung) (Woven Held) ToldBy ToldBy (weave A) (weave B) Joined QTNow
              (I.dear_told A B (Go family laws) (Hang family laws) (Near family laws) (Sm family laws) (Kept family laws) (Q family laws) (Calm family laws) (Ok family laws) (dear family laws))
              (I.SeesW A B (Go family laws) (Hang family laws) (Near family laws) (Sm family laws) (Kept family laws) (Q family laws) (Calm family laws) (Ok family laws) (dear family laws))
              (I.SeesAt A B (Go family laws) (Hang family laws) (Near family laws) (Sm family laws) (Kept family laws) (Q family laws) (Calm family laws) (Ok family laws) (dear family laws)) n
              (start_a oss).last (run (weave B) n (start_b oss).last)
              → (ts : List ToldBy) × (at : Store) × StrandMoment st (with_source g m) oss n ts at × (events_told ts ≡ events_told (ProtocolStrands (with_source g written) oss n).events)
              × AgreesNow (with_source g m) at (standing_now (ProtocolStrands (with_source g written) oss n).last)
          by_moment (at_state cost es at l le al sees) =
              let z : cost ≡ cost + 0 = omega arith in
              let r : run (weave A) cost (start_a oss).last ≡ Rattle.wa_model.specs.Machine.after es (run (weave A) 0 at) =
              ap (λ q. run (weave A) q (start_a oss).last) z ∙ leads_run (Woven Strung) ToldBy (weave A) (start_a oss).last at cost 0 es l in (
                (start_a oss).events ++ (es ++ []),
                store_woven strung_store (standing_now at),
                subst (λ (q : Ran (Woven Strung) ToldBy). StrandMoment st (with_source g m) oss n ((start_a oss).events ++ q.events) (store_woven strung_store (standing_now q.last))) r
                    (at_cost cost le),
                same_so (es ++ []) (subst (λ q. AllAlike QTNow q (run (weave B) n (start_b oss).last).events) (sym (append-nil es)) al),
                seen_off _ (standing_now (run (weave B) n (start_b oss).last).last) sees,
              )
          by_moment (at_event cost k es es1 es2 x at a' l e le al sees) =
              let z : n ≡ cost + (suc (k + (n - cost - suc k))) = omega arith in
              let rest : List ToldBy = (run (weave A) (n - cost - suc k) a').events in
              let r : (run (weave A) n (start_a oss).last).events ≡ es ++ ((es1 ++ x ∷ es2) ++ rest) =
              ap (λ (q : Ran (Woven Strung) ToldBy). q.events)
              (ap (λ q. run (weave A) q (start_a oss).last) z ∙ leads_run (Woven Strung) ToldBy (weave A) (start_a oss).last at cost (suc (k + (n - cost - suc k))) es l
              ∙ ap (Rattle.wa_model.specs.Machine.after es) (Rattle.run_theory.proofs.Runs.one_move (Woven Strung) ToldBy (weave A) k (n - cost - suc k) (es1 ++ x ∷ es2) at a' e)) in
              let before : List ToldBy = (start_a oss).events ++ (es ++ es1) in
              let split : (start_a oss).events ++ (run (weave A) n (start_a oss).last).events ≡ before ++ x ∷ (es2 ++ rest) =
              ap (λ (q : List ToldBy). (start_a oss).events ++ q) (r ∙ ap (λ (q : List ToldBy). es ++ q) (append_assoc es1 (x ∷ es2) rest) ∙ sym (append_assoc es es1 (x ∷ (es2 ++ rest))))
              ∙ sym (append_assoc (start_a oss).events (es ++ es1) (x ∷ (es2 ++ rest))) in
              let again : before ++ x ∷ [] ≡ (start_a oss).events ++ (es ++ (es1 ++ x ∷ [])) =
              append_assoc (start_a oss).events (es ++ es1) (x ∷ []) ∙ ap (λ (q : List ToldBy). (start_a oss).events ++ q) (append_assoc es es1 (x ∷ [])) in (
                before ++ x ∷ [],
                x.note.store,
                at_note before (es2 ++ rest) x split,
                ap events_told again ∙ same_so (es ++ (es1 ++ x ∷ [])) al,
                seen_off x.note.store (standing_now (run (weave B) n (start_b oss).last).last) sees,
              )

      begun_so : Begins QTNow ((start_a oss).events ++ (run (weave A) n (start_a oss).last).events) ((start_b oss).events ++ (run (weave B) n (start_b oss).last).events)
      begun_so = begins_on QTNow (start_a oss).events (run (weave A) n (start_a oss).last).events (start_b oss).events (run (weave B) n (start_b oss).last).events bg.alike
          (back (Woven Strung) (Woven Held) ToldBy ToldBy (weave A) (weave B) Joined QTNow
          (I.dear_told A B (Go family laws) (Hang family laws) (Near family laws) (Sm family laws) (Kept family laws) (Q family laws) (Calm family laws) (Ok family laws) (dear family laws))
          (I.SeesW A B (Go family laws) (Hang family laws) (Near family laws) (Sm family laws) (Kept family laws) (Q family laws) (Calm family laws) (Ok family laws) (dear family laws))
          (I.SeesAt A B (Go family laws) (Hang family laws) (Near family laws) (Sm family laws) (Kept family laws) (Q family laws) (Calm family laws) (Ok family laws) (dear family laws))
          (strands_in_step family laws) dear_on2 no_cost n n n 0 (start_a oss).last (start_b oss).last joint (omega arith) (omega arith))

      agree : (k spare : ℕ) (v : Woven Strung) (w : Woven Held) → Joined k spare v w → goes_now v ≡ goes_now w
      agree k spare v w r = by_pre v w r.0
        where
          by_pre : (v : Woven Strung) (w : Woven Held) → I.Pre A B (Go family laws) (Hang family laws) (Near family laws) (Sm family laws) (Kept family laws) (Q family laws) (Calm family laws) (Ok family laws) (dear family laws) spare v w → goes_now v ≡ goes_now w
          by_pre _ _ (I.pre_goes i due c g a b ts us lt same few go hung) =
              ap is_there (stands A i due a ts lt) ∙ sym (ap is_there (stands B i due b us (let z : i < length us = omega (arith, lt, same) in z)))
          by_pre _ _ (I.pre_over ts us) = ap is_there (stands_none A ts) ∙ sym (ap is_there (stands_none B us))

      over : standing_now (ProtocolStrands (with_source g written) oss n).last ≡ None → standing_now (BlockingStrands st (with_source g m) oss n).last ≡ None
      over h =
          none_now (standing_now (run (weave A) n (start_a oss).last).last)
          (over_back (Woven Strung) (Woven Held) ToldBy ToldBy (weave A) (weave B) Joined QTNow (I.dear_told A B (Go family laws) (Hang family laws) (Near family laws) (Sm family laws) (Kept family laws) (Q family laws) (Calm family laws) (Ok family laws) (dear family laws)) (I.SeesW A B (Go family laws) (Hang family laws) (Near family laws) (Sm family laws) (Kept family laws) (Q family laws) (Calm family laws) (Ok family laws) (dear family laws)) (I.SeesAt A B (Go family laws) (Hang family laws) (Near family laws) (Sm family laws) (Kept family laws) (Q family laws) (Calm family laws) (Ok family laws) (dear family laws)) (strands_in_step family laws)
          goes_now goes_now (ends_are_told A) (ends_are_told B) agree n n n 0 (start_a oss).last (start_b oss).last joint (omega arith) (omega arith) (ap is_there h))

      over_too : standing_now (BlockingStrands st (with_source g m) oss n).last ≡ None
          → length (BlockingStrands st (with_source g m) oss n).events ≡ length (ProtocolStrands (with_source g written) oss n).events
          → standing_now (ProtocolStrands (with_source g written) oss n).last ≡ None
      over_too h same =
          let first : length (start_a oss).events ≡ length (start_b oss).events = alike_long QTNow (start_a oss).events (start_b oss).events bg.alike in
          let la = length-append (start_a oss).events (run (weave A) n (start_a oss).last).events in
          let lb = length-append (start_b oss).events (run (weave B) n (start_b oss).last).events in
          let rest : length (run (weave A) n (start_a oss).last).events ≡ length (run (weave B) n (start_b oss).last).events = omega (arith, first, la, lb, same) in
          none_now (standing_now (run (weave B) n (start_b oss).last).last)
          (over_forth (Woven Strung) (Woven Held) ToldBy ToldBy (weave A) (weave B) Joined QTNow (I.dear_told A B (Go family laws) (Hang family laws) (Near family laws) (Sm family laws) (Kept family laws) (Q family laws) (Calm family laws) (Ok family laws) (dear family laws)) (I.SeesW A B (Go family laws) (Hang family laws) (Near family laws) (Sm family laws) (Kept family laws) (Q family laws) (Calm family laws) (Ok family laws) (dear family laws)) (I.SeesAt A B (Go family laws) (Hang family laws) (Near family laws) (Sm family laws) (Kept family laws) (Q family laws) (Calm family laws) (Ok family laws) (dear family laws)) (strands_in_step family laws)
          goes_now goes_now (ends_are_told A) (ends_are_told B) agree n n n 0 (start_a oss).last (start_b oss).last joint (omega arith) (ap is_there h) rest)

      reaches : IsPrefix (events_told (BlockingStrands st (with_source g m) oss n).events)
          (events_told (ProtocolStrands (with_source g written) oss (Bound m n (Rattle.wa_model.specs.Behaves.pause_stacks (notes_told (BlockingStrands st (with_source g m) oss n).events)))).events)
      reaches =
          let f =
          forth (Woven Strung) (Woven Held) ToldBy ToldBy (weave A) (weave B) Joined QTNow
          (I.dear_told A B (Go family laws) (Hang family laws) (Near family laws) (Sm family laws) (Kept family laws) (Q family laws) (Calm family laws) (Ok family laws) (dear family laws))
          (I.SeesW A B (Go family laws) (Hang family laws) (Near family laws) (Sm family laws) (Kept family laws) (Q family laws) (Calm family laws) (Ok family laws) (dear family laws))
          (I.SeesAt A B (Go family laws) (Hang family laws) (Near family laws) (Sm family laws) (Kept family laws) (Q family laws) (Calm family laws) (Ok family laws) (dear family laws))
          (strands_in_step family laws) dear_on2 no_cost n n 0 (start_a oss).last (start_b oss).last joint (omega arith) in
          let made : List ToldBy = (run (weave A) n (start_a oss).last).events in
          let bound : ℕ = Bound m n (Rattle.wa_model.specs.Behaves.pause_stacks (notes_told ((start_a oss).events ++ made))) in
          let d = dear_on2 (start_a oss).events made in
          let enough : f.0 ≤ bound = omega (arith, f.4) in
          let z : bound ≡ f.0 + (bound - f.0) = omega arith in
          let r : run (weave B) bound (start_b oss).last ≡ Rattle.wa_model.specs.Machine.after f.1 (run (weave B) (bound - f.0) f.2) =
          ap (λ q. run (weave B) q (start_b oss).last) z ∙ leads_run (Woven Held) ToldBy (weave B) (start_b oss).last f.2 f.0 (bound - f.0) f.1 f.3 in (
            events_told (run (weave B) (bound - f.0) f.2).events,
            ap (λ (q : Ran (Woven Held) ToldBy). events_told ((start_b oss).events ++ q.events)) r
                ∙ events_on (start_b oss).events (f.1 ++ (run (weave B) (bound - f.0) f.2).events)
                ∙ ap (λ (q : List StrandEvent). events_told (start_b oss).events ++ q) (events_on f.1 (run (weave B) (bound - f.0) f.2).events)
                ∙ sym (append_assoc (events_told (start_b oss).events) (events_told f.1) (events_told (run (weave B) (bound - f.0) f.2).events))
                ∙ ap (λ (q : List StrandEvent). q ++ events_told (run (weave B) (bound - f.0) f.2).events)
                (ap (λ (q : List StrandEvent). q ++ events_told f.1) (sym (same_events (start_a oss).events (start_b oss).events bg.alike))
                ∙ ap (λ (q : List StrandEvent). events_told (start_a oss).events ++ q) (sym (same_events made f.1 f.5)) ∙ sym (events_on (start_a oss).events made)),
          )

  -- THE LAW, from the laws of each strand, where both begin together
  pub behave_together : (oss : List (List Outcome)) (n : ℕ) → BeginsTogether oss → StrandsUntouched st (with_source g m) oss n → StrandsNumbered st which (with_source g m) oss n
      → StrandsBehaveOn st which (with_source g m) written oss n
  behave_together oss n bg untouched nums = strands_behave oss n bg untouched nums
