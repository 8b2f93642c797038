-- Moves of a strand over another store, and those without a pause matched by the written module.
use Rattle.headline.specs.FlatLaw.{FlatLaw}
use Rattle.world_model.specs.World.{ends_turn}
use Rattle.headline.specs.World.{World, WorldFits, setting}
use Rattle.headline.specs.WrittenRuns.{WrittenLaw}
use Rattle.headline.proofs.FlatStretches.{pr}
use Rattle.headline.proofs.Reductions.{Allowed, nb, nn, r_begins, r_between, r_halts, r_runs}
use Rattle.headline.proofs.Simulation.{Both, simulates, known_along}
use Rattle.headline.proofs.StoresTogether.{store_laws}
use Rattle.headline.proofs.ToldMoves.{dear_of}
use Rattle.guard_runs.specs.Alike.{Alike}
use Rattle.std.proofs.Common.{Bool, List, Some, [], ap, arith, false, length, refl, subst, suc, sym, true, zero, ℕ, ⊎_elim, inl, inr, ◌⊎◌, ◌+◌, ◌++◌, ◌-◌, ◌<◌, ◌∙◌, ◌∷◌, ◌≡◌, ◌≤◌}
use Rattle.run_theory.proofs.Follow.{Alike as AllAlike, Match, On_way, all_made, not_yet, up_to}
use Rattle.wa_model.specs.Behaves.{PauseNumbered, PausesNumbered, SameNote}
use Rattle.wa_model.specs.Blocking.{Note, State, store_of}
use Rattle.wa_model.specs.Configuration.{Configuration}
use Rattle.wa_model.specs.Machine.{Leads, Ran, Turn, goes, moves, run, stays, stops}
use Rattle.wa_model.specs.Outside.{Event, ended}
use Rattle.wa_model.specs.Protocol.{Held, exports_of, store_held}
use Rattle.wa_model.specs.Store.{Store}
use Rattle.wa_model.specs.Untouched.{IsCalm}
use Rattle.wa_model.specs.declared.events.End.{End}
use Rattle.wa_types.specs.Pausing.{Settings}
use Rattle.wa_types.specs.Syntax.{Module}
use Rattle.strand_laws.proofs.Apart.{Gap}
use Rattle.strand_laws.proofs.Between.{AreGaps, InsideAll, middle_chain}
use Rattle.strand_laws.proofs.InStep as I
use Rattle.strand_laws.proofs.Middle.{Middle, MiddleNotes}
use Rattle.strand_laws.proofs.MoveKinds.{FirstPlain}
use Rattle.strand_laws.proofs.Endings.{end_split}
use Rattle.strand_laws.proofs.EndsThere.{CaseTurn, EndsThere, Stays, end_cases, one_end}
use Rattle.strand_laws.proofs.WovenRuns.{NoEnds, last_of}
use Rattle.strand_laws.specs.Strands.{StrandProgram, Strung, held_loom, held_starts, on, plan_of, strand_at, strung_loom, strung_starts, with_source}
use Rattle.strand_laws.specs.Woven.{Loom, ends_strand, last_event}
use Rattle.strand_laws.proofs.EachWorld.{Calm, Family, FamilyLaws, Go, Hang, Kept, Near, NoteUp, Ok, Q, Rel, Sm, alike_up, dear, going_on, halt_law, inside_more, join_up, keeps_others, near_behind, see_up, split_up, world_at}
use Rattle.strand_laws.proofs.Waking.{sees_rel}

module _ (family : Family) (laws : FamilyLaws family) where
  abbrev wd : ℕ → World
  wd = world_at family

  abbrev m : Module
  m = family.original

  abbrev st : Settings
  st = family.settings

  abbrev which : List Bool
  which = family.which

  abbrev written : Module
  written = family.written

  abbrev g : StrandProgram
  g = family.program

  abbrev count : ℕ
  count = length family.program.strands

  abbrev L : ℕ → (top spare : ℕ) → Configuration → Configuration → Type 0
  L = family.links

  abbrev W : ℕ → ℕ → ℕ → Configuration → Configuration → Type 0
  W = family.waiting

  abbrev G : Store → Type 0
  G = family.good

  abbrev Known : ℕ → Held → Type 0
  Known = family.known

  abbrev A : Loom Strung
  A = strung_loom family.settings (with_source family.program family.original)

  abbrev B : Loom Held
  B = held_loom (with_source family.program family.written)

  abbrev ft : (i : ℕ) → i < length family.program.strands → WorldFits (world_at family i)
  ft = laws.fits

  abbrev law : (i : ℕ) → i < length family.program.strands → FlatLaw (world_at family i) (λ c d. c ≡ d) (family.links i) (family.waiting i) family.good
  law = laws.flat

  abbrev wl : (i : ℕ) → i < length family.program.strands → WrittenLaw (world_at family i) (family.known i)
  wl = laws.runs

  -- ---- moves

  -- what is allowed for one move
  pub raise : (i : ℕ) (li : i < count) (n spare : ℕ) (a : State) (b : Held) → (Rel family laws) i li 0 spare a b → Allowed (wd i) n a → (Rel family laws) i li n spare a b
  raise i li n spare _ _ (r_between good like lf old) al = r_between good like lf al
  raise i li n spare _ _ (r_begins good like lf lw old) al = r_begins good like lf lw al
  raise i li n spare _ _ (r_runs top x within is_top lk lf old) al = r_runs top x within is_top lk lf al
  raise i li n spare _ _ (r_halts h) al = r_halts h

  cost_is : (k k2 : ℕ) (es es2 : List Note) (t t2 : State) → ◌≡◌ {A = Turn State Note} (goes k es t) (goes k2 es2 t2) → k ≡ k2
  cost_is k k2 es es2 t t2 e = cc

  notes_are : (k k2 : ℕ) (es es2 : List Note) (t t2 : State) → ◌≡◌ {A = Turn State Note} (goes k es t) (goes k2 es2 t2) → es ≡ es2
  notes_are k k2 es es2 t t2 e = cc

  pub allowed_once : (i n k : ℕ) (a t : State) (es : List Note) → nb (wd i) a ≡ goes k es t → IsCalm (strand_at g i).area a → n ≤ suc k → (suc k ≤ n → PausesNumbered m st which es)
      → Allowed (wd i) n a
  allowed_once i n k a t es e calm le nums = record { calm = λ j xs u l lt. by_calm j xs u l lt; numbered = λ j k2 xs fs u v l e2 le2. by_nums j k2 xs fs u v l e2 le2 }
    where
      by_calm : (j : ℕ) (xs : List Note) (u : State) → Leads (nb (wd i)) a j xs u → j < n → IsCalm (strand_at g i).area u
      by_calm j xs u stays lt = calm
      by_calm j xs u (moves {t = t1} {k = k1} {es = es1} e1 rest em eg) lt =
          let same : k ≡ k1 = cost_is k k1 es es1 t t1 (sym e ∙ e1) in
          let no_way : ⊥ = omega arith in absurd no_way

      by_nums : (j k2 : ℕ) (xs fs : List Note) (u v : State) → Leads (nb (wd i)) a j xs u → nb (wd i) u ≡ goes k2 fs v → j + suc k2 ≤ n → PausesNumbered m st which fs
      by_nums j k2 xs fs u v stays e2 le2 =
          let same : k ≡ k2 = cost_is k k2 es fs t v (sym e ∙ e2) in
          subst (PausesNumbered m st which) (notes_are k k2 es fs t v (sym e ∙ e2)) (nums (omega arith))
      by_nums j k2 xs fs u v (moves {t = t1} {k = k1} {es = es1} e1 rest em eg) e2 le2 =
          let same : k ≡ k1 = cost_is k k1 es es1 t t1 (sym e ∙ e1) in
          let no_way : ⊥ = omega arith in absurd no_way

  pub allowed_stop : (i n : ℕ) (a : State) → nb (wd i) a ≡ stops → IsCalm (strand_at g i).area a → Allowed (wd i) n a
  allowed_stop i n a e calm = record { calm = λ j xs u l lt. by_calm j xs u l; numbered = λ j k2 xs fs u v l e2 le2. by_nums j k2 xs fs u v l e2 }
    where
      never : (k : ℕ) (es : List Note) (t : State) → ◌≡◌ {A = Turn State Note} stops (goes k es t) → ⊥
      never k es t q = cc

      by_calm : (j : ℕ) (xs : List Note) (u : State) → Leads (nb (wd i)) a j xs u → IsCalm (strand_at g i).area u
      by_calm j xs u stays = calm
      by_calm j xs u (moves {t = t1} {k = k1} {es = es1} e1 rest em eg) = absurd (never k1 es1 t1 (sym e ∙ e1))

      by_nums : (j k2 : ℕ) (xs fs : List Note) (u v : State) → Leads (nb (wd i)) a j xs u → nb (wd i) u ≡ goes k2 fs v → PausesNumbered m st which fs
      by_nums j k2 xs fs u v stays e2 = absurd (never k2 fs v (sym e ∙ e2))
      by_nums j k2 xs fs u v (moves {t = t1} {k = k1} {es = es1} e1 rest em eg) e2 = absurd (never k1 es1 t1 (sym e ∙ e1))

  pub notes_up : (ps : List Gap) (es es' : List Note) → MiddleNotes ps es es' → AllAlike ((NoteUp family laws) ps) es es'
  notes_up [] es es' h = subst (AllAlike ((NoteUp family laws) []) es) h (self es)
    where
      self : (xs : List Note) → AllAlike ((NoteUp family laws) []) xs xs
      self [] = tt
      self (x ∷ xs) = (record { event = refl; stack = refl; pause = refl; chain = refl }, self xs)
  notes_up (p ∷ ps) es es' h = on_top es h.0 es' h.1 (notes_up ps h.0 es' h.2)
    where
      on_top : (xs us xs' : List Note) → Rattle.strand_laws.proofs.Middle.NotesApart p xs us → AllAlike ((NoteUp family laws) ps) us xs' → AllAlike ((NoteUp family laws) (p ∷ ps)) xs xs'
      on_top [] [] [] a u = tt
      on_top [] [] (y ∷ ys) a u = absurd u
      on_top [] (z ∷ us) xs' a u = absurd a
      on_top (x ∷ xs) [] xs' a u = absurd a
      on_top (x ∷ xs) (z ∷ us) [] a u = absurd u
      on_top (x ∷ xs) (z ∷ us) (y ∷ ys) a u =
          let one = a.0 in
          let two = u.0 in
          (record { event = two.event ∙ one.event; stack = two.stack ∙ one.stack; pause = two.pause ∙ one.pause; chain = (z.store, one.store, two.chain) }, on_top xs us ys a.1 u.1)

  pub numbered_up : (ps : List Gap) (i : ℕ) (es es' : List Note) → AllAlike ((NoteUp family laws) ps) es es'
      → I.Every A B (Go family laws) (Hang family laws) (Near family laws) (Sm family laws) (Kept family laws) (Q family laws) (Calm family laws) (Ok family laws) (dear family laws)
      (Rattle.strand_laws.specs.Woven.told_by i es) → PausesNumbered m st which es'
  numbered_up ps i [] [] u h = λ k d lt. let no_way : ⊥ = omega arith in absurd no_way
  numbered_up ps i [] (x' ∷ es') u h = absurd u
  numbered_up ps i (x ∷ es) [] u h = absurd u
  numbered_up ps i (x ∷ es) (x' ∷ es') u h = λ k d lt. by_place k d lt (numbered_up ps i es es' u.1 h.1)
    where
      one : PauseNumbered m st which x'.stack x'.pause
      one = let v = u.0 in subst (λ z. PauseNumbered m st which z x'.pause) (sym v.stack) (subst (λ z. PauseNumbered m st which x.stack z) (sym v.pause) h.0)

      by_place : (k : ℕ) (d : Note) → k < length (x' ∷ es') → PausesNumbered m st which es'
          → (λ (q : Note). PauseNumbered m st which q.stack q.pause) (Rattle.std.specs.Prelude.get_or (x' ∷ es') k d)
      by_place zero d lt ih = one
      by_place (suc k) d lt ih = ih k d (omega arith)

  pub dear_up : (ps : List Gap) (es es' : List Note) → AllAlike ((NoteUp family laws) ps) es es' → Rattle.wa_model.specs.Behaves.pause_stacks es' ≡ Rattle.wa_model.specs.Behaves.pause_stacks es
  dear_up ps [] [] u = refl
  dear_up ps [] (x' ∷ es') u = absurd u
  dear_up ps (x ∷ es) [] u = absurd u
  dear_up ps (x ∷ es) (x' ∷ es') u =
      let v = u.0 in
      ap (λ z. Rattle.std.specs.List.cons_option (Rattle.wa_model.specs.Behaves.stack_if z x'.pause) (Rattle.wa_model.specs.Behaves.pause_stacks es')) v.stack
      ∙ ap (λ z. Rattle.std.specs.List.cons_option (Rattle.wa_model.specs.Behaves.stack_if x.stack z) (Rattle.wa_model.specs.Behaves.pause_stacks es')) v.pause
      ∙ ap (λ z. Rattle.std.specs.List.cons_option (Rattle.wa_model.specs.Behaves.stack_if x.stack x.pause) z) (dear_up ps es es' u.1)

  quiet_alike : (i : ℕ) (es fs : List Note) → AllAlike ((Q family laws) i) es fs → NoEnds es → NoEnds fs
  quiet_alike i [] [] al h = tt
  quiet_alike i [] (y ∷ fs) al h = absurd al
  quiet_alike i (x ∷ es) [] al h = absurd al
  quiet_alike i (x ∷ es) (y ∷ fs) al h = (let q = al.0 in ap ends_turn (sym q.event) ∙ h.0, quiet_alike i es fs al.1 h.1)

  record LastTwo (i : ℕ) (es1 : List Note) (x : Note) (fs : List Note) : Type 0 where
    gs : List Note
    y : Note
    fs_are : fs ≡ gs ++ y ∷ []
    first : AllAlike ((Q family laws) i) es1 gs
    both : (Q family laws) i x y

  last_two : (i : ℕ) (es1 : List Note) (x : Note) (fs : List Note) → AllAlike ((Q family laws) i) (es1 ++ x ∷ []) fs → LastTwo i es1 x fs
  last_two i [] x [] al = absurd al
  last_two i [] x (y ∷ []) al = record { gs = []; y = y; fs_are = refl; first = tt; both = al.0 }
  last_two i [] x (y ∷ z ∷ fs) al = absurd al.1
  last_two i (z ∷ es1) x [] al = absurd al
  last_two i (z ∷ es1) x (y ∷ fs) al =
      let r = last_two i es1 x fs al.1 in
      record { gs = y ∷ r.gs; y = r.y; fs_are = ap (λ q. y ∷ q) r.fs_are; first = (al.0, r.first); both = r.both }

  last_up : (ps : List Gap) (es es' : List Note) → AllAlike ((NoteUp family laws) ps) es es' → last_event es' ≡ last_event es
  last_up ps [] [] u = refl
  last_up ps [] (x' ∷ es') u = absurd u
  last_up ps (x ∷ es) [] u = absurd u
  last_up ps (x ∷ []) (x' ∷ []) u = let v = u.0 in ap (λ (z : Event). Some z) v.event
  last_up ps (x ∷ []) (x' ∷ y' ∷ es') u = absurd u.1
  last_up ps (x ∷ y ∷ es) (x' ∷ []) u = absurd u.1
  last_up ps (x ∷ y ∷ es) (x' ∷ y' ∷ es') u = last_up ps (y ∷ es) (y' ∷ es') u.1

  starts_over : (ps : List Gap) (a a' : State) → Middle ps a a' → strung_starts (on a) ≡ strung_starts (on a')
  starts_over [] a a' h = ap (λ z. strung_starts (on z)) h
  starts_over (p ∷ ps) a a' h = once a h.0 h.1 ∙ starts_over ps h.0 a' h.2
    where
      once : (u v : State) → Rattle.strand_laws.proofs.Middle.StateApart p u v → strung_starts (on u) ≡ strung_starts (on v)
      once _ _ (Rattle.strand_laws.proofs.Middle.s_between q) = refl
      once _ _ (Rattle.strand_laws.proofs.Middle.s_begins q) = refl
      once _ _ (Rattle.strand_laws.proofs.Middle.s_runs q) = refl
      once _ _ (Rattle.strand_laws.proofs.Middle.s_halts q) = refl

  -- an end of the whole program
  abbrev pub StaysEnd : End → Type 0
  StaysEnd how = (start : Bool) → ends_strand start how ≡ false

  -- WHAT IS OWED BESIDE: where a strand alone ends, the written module's last move is in the start function as the original's is; and
  -- where the other strands go on behind that end, the stores still belong together.
  pub record EndsWell (i : ℕ) (li : i < count) : Type 0 where
    pub starts : (spare k : ℕ) (a t : State) (b b1 to : Held) (es gs1 gs2 : List Note) (c1 k1 : ℕ) (how : End) → (Rel family laws) i li (suc k) spare a b → Known i b → nn (wd i) a ≡ goes k es t
        → FirstPlain es ⊎ StaysEnd how → last_event es ≡ Some (ended how) → Leads (B.next i) b c1 gs1 b1 → NoEnds gs1 → B.next i b1 ≡ goes k1 gs2 to → last_event gs2 ≡ Some (ended how)
        → ends_strand (held_starts b1) how ≡ ends_strand (strung_starts (on a)) how
    pub alike : (spare k : ℕ) (a t : State) (b b1 to : Held) (es gs1 gs2 : List Note) (c1 k1 : ℕ) (how : End) → (Rel family laws) i li (suc k) spare a b → Known i b → nn (wd i) a ≡ goes k es t
        → FirstPlain es ⊎ StaysEnd how → last_event es ≡ Some (ended how) → Leads (B.next i) b c1 gs1 b1 → NoEnds gs1 → B.next i b1 ≡ goes k1 gs2 to → last_event gs2 ≡ Some (ended how)
        → ends_strand (strung_starts (on a)) how ≡ true → Alike (setting (wd i) 0) (store_of t) (store_held to) × G (store_of t)

  -- IT IS PAID
  pub ends_well_so : (i : ℕ) (li : i < count) → EndsWell i li
  ends_well_so i li = record {
    starts = λ spare k a t b b1 to es gs1 gs2 c1 k1 how rel kn e plain tells lds q last tells2.
        ⊎_elim
        (λ stays_on. stays_on (held_starts b1) ∙ sym (stays_on (strung_starts (on a))))
        (λ et. let one = one_end (wd i) (ft i li) (store_laws (wd i)) (L i) (W i) G
        (law i li) b b1 et.b1 to et.to c1 et.c1 k1 et.k1 gs1 et.gs1 gs2 et.gs2 how how lds q last tells2 et.before et.quiet et.last et.tells in
        ap (λ z. ends_strand (held_starts z) how) one.0 ∙ ap (λ z. ends_strand z how) et.starts)
        (case_of spare k a t b es how rel e plain tells);
    alike = λ spare k a t b b1 to es gs1 gs2 c1 k1 how rel kn e plain tells lds q last tells2 leaves.
        ⊎_elim
        (λ stays_on. let z : true ≡ false = sym leaves ∙ stays_on (strung_starts (on a)) in absurd (true_not_false z))
        (λ et. let one = one_end (wd i) (ft i li) (store_laws (wd i)) (L i) (W i) G
        (law i li) b b1 et.b1 to et.to c1 et.c1 k1 et.k1 gs1 et.gs1 gs2 et.gs2 how how lds q last tells2 et.before et.quiet et.last et.tells in
        (subst (λ z. Alike (setting (wd i) 0) (store_of t) (store_held z)) (sym one.1) et.alike, et.good))
        (case_of spare k a t b es how rel e plain tells);
  }
    where
      true_not_false : true ≡ false → ⊥
      true_not_false z = cc

      case_of : (spare k : ℕ) (a t : State) (b : Held) (es : List Note) (how : End) → (Rel family laws) i li (suc k) spare a b → nn (wd i) a ≡ goes k es t → FirstPlain es ⊎ StaysEnd how
          → last_event es ≡ Some (ended how)
          → Stays (wd i) (ft i li) (store_laws (wd i)) (L i) (W i) G (law i li) how
          ⊎ EndsThere (wd i) (ft i li) (store_laws (wd i)) (L i) (W i) G (law i li) b how (strung_starts (on a)) (store_of t)
      case_of spare k a t b es how rel e (inr stays_on) tells = inl stays_on
      case_of spare k a t b es how rel e (inl plain) tells =
          subst (CaseTurn (wd i) (ft i li) (store_laws (wd i)) (L i) (W i) G (law i li) b (strung_starts (on a))) e
          (end_cases (wd i) (ft i li) (store_laws (wd i)) (L i) (W i) G (law i li) (suc k) spare a b (omega arith) rel) plain how tells

  abbrev pub MoveNow : (i spare k : ℕ) → List Note → Strung → Strung → Held → Type 0
  MoveNow = I.Move A B (Go family laws) (Hang family laws) (Near family laws) (Sm family laws) (Kept family laws) (Q family laws) (Calm family laws) (Ok family laws) (dear family laws)

  -- the last note of a move ends the strand, or none does
  pub data Ending (es : List Note) (t : State) : Type 0 where
    no_end : NoEnds es → Ending es t
    an_end : (es1 : List Note) → (x : Note) → (how : End) → es ≡ es1 ++ x ∷ [] → NoEnds es1 → x.event ≡ ended how → store_of t ≡ x.store → Ending es t

  module _ (i : ℕ) (li : i < count) (spare k : ℕ) (a a' t t' : State) (b : Held) (ps : List Gap) (es es' : List Note) (are : AreGaps g.strands ps) (mid : Middle ps a a')
      (rel : (Rel family laws) i li 0 spare a' b)
      (kn : Known i b) (ins : InsideAll g.strands (length (store_of a).memory)) (allowed : Allowed (wd i) (suc k) a') (moves_so : nn (wd i) a' ≡ goes k es' t')
      (up : AllAlike ((NoteUp family laws) ps) es es')
      (on_to : Middle ps t t') (grown : length (store_of a).memory ≤ length (store_of t).memory)
      (plain : FirstPlain es' ⊎ ((how : End) → last_event es' ≡ Some (ended how) → StaysEnd how)) where
    mt : Match State Held Note Note (nn (wd i)) (pr (wd i)) (Both (wd i) (ft i li) (store_laws (wd i)) (L i) (W i) G (law i li) (Known i) (wl i li) ((halt_law family laws) i li))
        (SameNote m st which (strand_at g i).area) (dear_of m)
        (Rattle.headline.proofs.ToldMoves.Sees m st which written (exports_of written) (plan_of g (strand_at g i)))
        (Rattle.headline.proofs.ToldMoves.Sees_at m st which written (exports_of written) (plan_of g (strand_at g i)))
        (suc k) spare k es' a' t' b
    mt =
        (simulates (wd i) (ft i li) (store_laws (wd i)) (L i) (W i) G (law i li) (Known i) (wl i li) ((halt_law family laws) i li)).move (suc k) spare a' b k es' t'
        (raise i li (suc k) spare a' b rel allowed, kn) moves_so (omega arith)

    rel_to : (Rel family laws) i li 0 mt.left t' mt.to
    rel_to =
        ((simulates (wd i) (ft i li) (store_laws (wd i)) (L i) (W i) G (law i li) (Known i) (wl i li) ((halt_law family laws) i li)).less (suc k - suc k) 0 mt.left t' mt.to mt.rel (omega arith)).0

    known_to : Known i mt.to
    known_to = let r = mt.rel in r.1

    up_alike : AllAlike ((Q family laws) i) es mt.events
    up_alike = (alike_up family laws) i li ps es es' mt.events are up mt.alike

    ins_to : InsideAll g.strands (length (store_of t).memory)
    ins_to = inside_more g.strands (length (store_of a).memory) (length (store_of t).memory) grown ins

    way_up : (j : ℕ) (r : Ran Held Note)
        → On_way State Held Note Note (nn (wd i)) (pr (wd i)) (Both (wd i) (ft i li) (store_laws (wd i)) (L i) (W i) G (law i li) (Known i) (wl i li) ((halt_law family laws) i li))
        (SameNote m st which (strand_at g i).area) (dear_of m)
        (Rattle.headline.proofs.ToldMoves.Sees m st which written (exports_of written) (plan_of g (strand_at g i)))
        (Rattle.headline.proofs.ToldMoves.Sees_at m st which written (exports_of written) (plan_of g (strand_at g i)))
        k es' a' t' j r
        → I.WayS A B (Go family laws) (Hang family laws) (Near family laws) (Sm family laws) (Kept family laws) (Q family laws) (Calm family laws) (Ok family laws) (dear family laws) i k es (on a)
        (on t) j r
    way_up j r (not_yet none h) = not_yet none ((see_up family laws) i li ps (store_of a) (store_of a') (store_held r.last) are (middle_chain ps a a' mid) h.0)
    way_up j r (all_made ge al h) =
        all_made ge ((alike_up family laws) i li ps es es' r.events are up al) ((see_up family laws) i li ps (store_of t) (store_of t') (store_held r.last) are (middle_chain ps t t' on_to) h.0)
    way_up j r (up_to e1 e2 z ge split al h) =
        let q = (split_up family laws) ps es e1 z e2 (subst (AllAlike ((NoteUp family laws) ps) es) split up) in
        let v = q.here in
        up_to q.es1 q.es2 q.x ge q.es_are ((alike_up family laws) i li ps (q.es1 ++ q.x ∷ []) (e1 ++ z ∷ []) r.events are ((join_up family laws) ps q.es1 e1 q.x z q.first q.here) al)
        ((see_up family laws) i li ps q.x.store z.store (store_held r.last) are v.chain h.0)

    abbrev BehindNow : Type 0
    BehindNow =
        I.After A B (Go family laws) (Hang family laws) (Near family laws) (Sm family laws) (Kept family laws) (Q family laws) (Calm family laws) (Ok family laws) (dear family laws) i mt.left
        (on a) (on t) b mt.to es mt.events mt.cost

    ended_is : (x : Note) (how how2 : End) → x.event ≡ ended how → x.event ≡ ended how2 → how ≡ how2
    ended_is x how how2 e f = let z : ended how ≡ ended how2 = sym e ∙ f in cc

    behind : Ending es t → BehindNow
    behind (no_end none) = I.goes_on none (going_on t t' mt.to ps li are on_to rel_to known_to ins_to)
    behind (an_end es1 x how ee none ex at) =
        let two = last_two i es1 x mt.events (subst (λ z. AllAlike ((Q family laws) i) z mt.events) ee up_alike) in
        let q = two.both in
        let sp =
        end_split written (exports_of written) (plan_of g (strand_at g i)) b mt.to mt.cost mt.events two.gs two.y how mt.leads two.fs_are (quiet_alike i es1 two.gs two.first none)
        (sym q.event ∙ ex) in
        let tells : last_event es' ≡ Some (ended how) = last_up ps es es' up ∙ ap last_event ee ∙ last_of es1 x ∙ ap (λ (z : Event). Some z) ex in
        let rl = raise i li (suc k) spare a' b rel allowed in
        let plain_or : FirstPlain es' ⊎ StaysEnd how = ⊎_elim (λ p. inl p) (λ p. inr (p how tells)) plain in
        let st_is : ends_strand (held_starts sp.b1) how ≡ ends_strand (strung_starts (on a)) how =
        (ends_well_so i li).starts spare k a' t' b sp.b1 mt.to es' sp.gs1 sp.gs2 sp.c1 sp.k1 how rl kn moves_so plain_or tells sp.before sp.quiet sp.last sp.tells
        ∙ ap (λ z. ends_strand z how) (sym (starts_over ps a a' mid)) in
        I.ends x how (record {
          es1 = es1;
          es_are = ee;
          at_end = at;
          c1 = sp.c1;
          k1 = sp.k1;
          gs1 = sp.gs1;
          gs2 = sp.gs2;
          b1 = sp.b1;
          before = sp.before;
          quiet = sp.quiet;
          last = sp.last;
          tells = sp.tells ∙ ap (λ (z : Event). Some z) (sym ex);
          cost_is = sp.cost_is;
          fs_are = sp.fs_are;
          starts = λ how2 e2. subst (λ z. ends_strand (held_starts sp.b1) z ≡ ends_strand (strung_starts (on a)) z) (ended_is x how how2 ex e2) st_is;
        }) ex
        (λ leaves. let lk = (ends_well_so i li).alike spare k a' t' b sp.b1 mt.to es' sp.gs1 sp.gs2 sp.c1 sp.k1 how rl kn moves_so plain_or tells sp.before sp.quiet sp.last sp.tells
        (subst (λ z. ends_strand z how ≡ true) (starts_over ps a a' mid) leaves) in
        (near_behind family laws) i li 0 ps (store_of t) (store_of t') (store_held mt.to) are (middle_chain ps t t' on_to) lk.0 lk.1
        (laws.known_ends i li sp.b1 mt.to sp.k1 sp.gs2 how (known_along (wd i) (Known i) (wl i li) b sp.b1 sp.c1 sp.gs1 kn sp.before) sp.last sp.tells) ins_to)

    -- A MOVE WITHOUT A PAUSE
    pub simple_move : Ending es t → MoveNow i spare k es (on a) (on t) b
    simple_move en =
        let bd = mt.bound in
        let d : dear_of m es' ≡ dear_of m es =
        ap (Rattle.std.specs.List.sum_by (λ stack. 256 + Rattle.std.specs.List.sum_by (Rattle.wa_types.specs.Bounds.activation_bound m) stack)) (dear_up ps es es' up) in
        record {
          cost = mt.cost;
          left = mt.left;
          events = mt.events;
          to = mt.to;
          leads = mt.leads;
          no_less = mt.no_less;
          bound = omega arith;
          alike = up_alike;
          on_way = λ j lt. way_up j (run (B.next i) j b) (mt.on_way j lt);
          keeps =
              λ j ne. (keeps_others family laws) i li ps (store_of a) (store_of a') (store_of t) (store_of t') (store_held b) (store_held mt.to) are (middle_chain ps a a' mid)
              (middle_chain ps t t' on_to)
              ((sees_rel family laws) i li 0 spare a' b rel) ((sees_rel family laws) i li 0 mt.left t' mt.to rel_to) grown j ne;
          behind = behind en;
        }
