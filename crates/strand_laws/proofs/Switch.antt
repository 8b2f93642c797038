-- The switch: over stores that belong together the same strands begin their turns in both woven machines.
use Rattle.std.proofs.Common.{arith, ◌≡◌, ◌<◌, ◌≤◌, ℕ, zero, suc, ◌+◌, List, [], ◌∷◌, ◌++◌, length, Option, Some, None, Bool, true, false, refl, sym, ap, ◌∙◌, subst, append-nil, inl}
use Rattle.run_theory.proofs.Runs.{leads_run}
use Rattle.wa_model.specs.Machine.{goes, Ran, after, still, run}
use Rattle.wa_model.specs.Outside.{Event, ended}
use Rattle.wa_model.specs.Blocking.{Note}
use Rattle.wa_model.specs.Store.{Store}
use Rattle.strand_laws.proofs.InStep as I
use Rattle.strand_laws.proofs.InStep.{chain, pre_goes, wakes_end, wakes_on, wakes_up}
use Rattle.strand_laws.proofs.Threads.{AllHang, First, first_alike, hang_more, none_first, one_first, others_over, unfinished, unfinished_few}
use Rattle.strand_laws.proofs.Weaving.{stays_on, twice}
use Rattle.strand_laws.proofs.WovenRuns.{NoEnds, end_woven, last_of, length_put, no_ends_last, no_ends_within, woven_at, woven_leads, woven_run_at}
use Rattle.strand_laws.specs.Woven.{Thread, Woven, Told, Loom, told_by, Ready, awake, ends_strand, finished, first_ready, going, last_event, moved, put, weave, weave_on, woven_by}

module _ {SA SB : Type 0} (A : Loom SA) (B : Loom SB) (Go : (strand spare : ℕ) → SA → SB → Type 0) (Hang : (strand credit : ℕ) → SA → SB → Store → Type 0) (Near Sm : Store → Store → Type 0)
    (Kept : (strand : ℕ) → Store → Store → Type 0) (Q : (strand : ℕ) → Note → Note → Type 0) (Calm : (strand : ℕ) → SA → Type 0) (Ok : Told → Type 0) (dear : List Note → ℕ)
    (law : I.StrandLaw A B Go Hang Near Sm Kept Q Calm Ok dear) where
  abbrev Wakes : (i c : ℕ) (s s' : Store) (ra : Ran SA Note) (rb : Ran SB Note) → Type 0
  Wakes = I.Wakes A B Go Hang Near Sm Kept Q Calm Ok dear

  abbrev Woke : (s : Store) (c : ℕ) (ra : Ran (Woven SA) Told) (rb : Ran (Woven SB) Told) → Type 0
  Woke = I.Woke A B Go Hang Near Sm Kept Q Calm Ok dear

  abbrev PartW : (seen : Store) (es : List Told) (r : Ran (Woven SB) Told) → Type 0
  PartW = I.PartW A B Go Hang Near Sm Kept Q Calm Ok dear

  -- by what the first that is ready makes as it wakes
  wake_one : (most most' : ℕ)
      → ((most2 : ℕ) (s s' : Store) (c : ℕ) (ts : List (Thread SA)) (us : List (Thread SB)) → Near s s' → length ts ≡ length us → AllHang Hang s' 0 c ts us → unfinished ts ≤ most
      → unfinished us ≤ most2 → Woke s c (weave_on A most s ts) (weave_on B most2 s' us))
      → (s s' : Store) (c c1 c2 i due : ℕ) (ra : Ran SA Note) (rb : Ran SB Note) (ts : List (Thread SA)) (us : List (Thread SB)) → length ts ≡ length us → i < length ts → c1 + c2 ≤ c
      → AllHang Hang s' 0 c2 (put i due None ts) (put i due None us) → unfinished (put i due None ts) ≤ most → unfinished (put i due None us) ≤ most' → Wakes i c1 s s' ra rb
      → Woke s c (woven_by A (weave_on A most) false i due ra.events ra.last ts (last_event ra.events)) (woven_by B (weave_on B most') false i due rb.events rb.last us (last_event rb.events))
  wake_one most most' ih s s' c c1 c2 i due ra rb ts us same lt few rest less_a less_b (wakes_on none eb n left fs to leads quiet al bound go each keeps) =
      subst (λ z. Woke s c z (woven_by B (weave_on B most') false i due rb.events rb.last us (last_event rb.events)))
      (sym (stays_on A (weave_on A most) false i due ra.events ra.last ts (last_event ra.events) (no_ends_last ra.events none)))
      (subst (λ z. Woke s c (record { events = told_by i ra.events; last = going i due ra.last ts }) z) (sym mb) (record {
        es0 = [];
        es1 = told_by i ra.events;
        seen = s;
        events_are = refl;
        at_once = tt;
        last_seen = inl (refl, refl);
        cost = n;
        fs = told_by i fs;
        to = going i due to us;
        leads = woven_leads B i due rb.last to us n fs lt' leads quiet;
        alike = I.told_alike A B Go Hang Near Sm Kept Q Calm Ok dear i ra.events fs al;
        left = left + c2;
        bound = omega arith;
        rel = pre_goes i due c2 left ra.last to ts us lt same (omega arith) go
            (others_over Hang Kept law.hang_on s' (B.store to) 0 i c2 due ts us same rest (λ m ne. keeps m (λ e. ne (let z : m ≡ 0 + i = omega arith in z))));
        each = λ m le. subst (PartW s (told_by i ra.events)) (sym (woven_run_at B i due rb.last us m lt' (calm_run m le)))
            (I.part_woven A B Go Hang Near Sm Kept Q Calm Ok dear i due s ra.events (run (B.next i) m rb.last) us lt' (each m le));
      }))
    where
      lt' : i < length us
      lt' = omega arith

      mb : woven_by B (weave_on B most') false i due rb.events rb.last us (last_event rb.events) ≡ record { events = []; last = going i due rb.last us }
      mb = ap (λ (z : List Note). woven_by B (weave_on B most') false i due z rb.last us (last_event z)) eb

      whole : NoEnds (run (B.next i) n rb.last).events
      whole =
          let z : n ≡ n + 0 = omega arith in
          let r : run (B.next i) n rb.last ≡ after fs (run (B.next i) 0 to) = ap (λ j. run (B.next i) j rb.last) z ∙ leads_run SB Note (B.next i) rb.last to n 0 fs leads in
          subst NoEnds (sym (ap (λ (q : Ran SB Note). q.events) r ∙ append-nil fs)) quiet

      calm_run : (m : ℕ) → m ≤ n → NoEnds (run (B.next i) m rb.last).events
      calm_run m le = no_ends_within B i m n rb.last le whole
  wake_one most most' ih s s' c c1 c2 i due ra rb ts us same lt few rest less_a less_b (wakes_up x y how ea eb ex q at near keeps) =
      subst (λ z. Woke s c z (woven_by B (weave_on B most') false i due rb.events rb.last us (last_event rb.events))) (sym ma)
      (subst (λ z. Woke s c (after (record { strand = i; note = x } ∷ []) (chain (weave_on A most) (ends_strand false how) (A.store ra.last) (put i due None ts))) z) (sym mb)
      (I.woke_behind A B Go Hang Near Sm Kept Q Calm Ok dear i x y s (A.store ra.last) c (chain (weave_on A most) (ends_strand false how) (A.store ra.last) (put i due None ts))
      (chain (weave_on B most') (ends_strand false how) (B.store rb.last) (put i due None us)) q at on))
    where
      ey : y.event ≡ ended how
      ey = sym (law.same_event i x y q) ∙ ex

      ma : woven_by A (weave_on A most) false i due ra.events ra.last ts (last_event ra.events) ≡ after (record { strand = i; note = x } ∷ [])
          (chain (weave_on A most) (ends_strand false how) (A.store ra.last) (put i due None ts))
      ma =
          ap (λ (z : List Note). woven_by A (weave_on A most) false i due z ra.last ts (last_event z)) ea
          ∙ ap (λ (z : Event). woven_by A (weave_on A most) false i due (x ∷ []) ra.last ts (Some z)) ex

      mb : woven_by B (weave_on B most') false i due rb.events rb.last us (last_event rb.events) ≡ after (record { strand = i; note = y } ∷ [])
          (chain (weave_on B most') (ends_strand false how) (B.store rb.last) (put i due None us))
      mb =
          ap (λ (z : List Note). woven_by B (weave_on B most') false i due z rb.last us (last_event z)) eb
          ∙ ap (λ (z : Event). woven_by B (weave_on B most') false i due (y ∷ []) rb.last us (Some z)) ey

      hung : AllHang Hang (B.store rb.last) 0 c2 (put i due None ts) (put i due None us)
      hung = others_over Hang Kept law.hang_on s' (B.store rb.last) 0 i c2 due ts us same rest (λ m ne. keeps m (λ e. ne (let z : m ≡ 0 + i = omega arith in z)))

      on : Woke (A.store ra.last) c (chain (weave_on A most) (ends_strand false how) (A.store ra.last) (put i due None ts))
          (chain (weave_on B most') (ends_strand false how) (B.store rb.last) (put i due None us))
      on = by_end (ends_strand false how)
        where
          by_end : (t : Bool) → Woke (A.store ra.last) c (chain (weave_on A most) t (A.store ra.last) (put i due None ts)) (chain (weave_on B most') t (B.store rb.last) (put i due None us))
          by_end true = ih most' (A.store ra.last) (B.store rb.last) c (put i due None ts) (put i due None us) near (length_put A i due None ts ∙ same ∙ sym (length_put B i due None us))
              (hang_more Hang (B.store rb.last) 0 c2 c _ _ (omega arith) hung) less_a less_b
          by_end false = I.woke_over A B Go Hang Near Sm Kept Q Calm Ok dear (A.store ra.last) c (put i due None ts) (put i due None us)
  wake_one most most' ih s s' c c1 c2 i due ra rb ts us same lt few rest less_a less_b (wakes_end x how es1 ea ex at eb n k gs b1 to lds last tells st al enough rests near keeps) =
      subst (λ z. Woke s c z (woven_by B (weave_on B most') false i due rb.events rb.last us (last_event rb.events))) (sym ma)
      (subst (λ z. Woke s c (after (told_by i ra.events) (chain (weave_on A most) (ends_strand false how) (A.store ra.last) (put i due None ts))) z) (sym mb)
      (I.woke_ended A B Go Hang Near Sm Kept Q Calm Ok dear i due x es1 ra.events gs rb.last b1 us n k s (A.store ra.last) c c2
      (chain (weave_on A most) (ends_strand false how) (A.store ra.last) (put i due None ts)) (behind_it (ends_strand false how))
      lt' ea at lds last_b al (omega arith) rests (by_end (ends_strand false how) near)))
    where
      lt' : i < length us
      lt' = omega arith

      us1 : List (Thread SB)
      us1 = put i due (Some b1) us

      behind_it : Bool → Ran (Woven SB) Told
      behind_it t = chain (weave_on B (suc (length us1))) t (B.store to) (put i due None us1)

      ma : woven_by A (weave_on A most) false i due ra.events ra.last ts (last_event ra.events)
          ≡ after (told_by i ra.events) (chain (weave_on A most) (ends_strand false how) (A.store ra.last) (put i due None ts))
      ma = ap (woven_by A (weave_on A most) false i due ra.events ra.last ts) (ap last_event ea ∙ last_of es1 x ∙ ap (λ (z : Event). Some z) ex)

      mb : woven_by B (weave_on B most') false i due rb.events rb.last us (last_event rb.events) ≡ record { events = []; last = going i due rb.last us }
      mb = ap (λ (z : List Note). woven_by B (weave_on B most') false i due z rb.last us (last_event z)) eb

      last_b : weave B (going i due b1 us) ≡ goes k (told_by i gs ++ (behind_it (ends_strand false how)).events) (behind_it (ends_strand false how)).last
      last_b =
          woven_at B i due b1 us lt' ∙ ap (moved B (B.starts b1) i due us1) last
          ∙ ap (λ (r : Ran (Woven SB) Told). goes k r.events r.last) (end_woven B (B.starts b1) i due gs to us1 how tells ∙ ap (λ (t : Bool). after (told_by i gs) (behind_it t)) st)

      once : put i due None us1 ≡ put i due None us
      once = twice B i us (record { due = due; at = Some b1 }) (record { due = due; at = None })

      hung : AllHang Hang (B.store to) 0 c2 (put i due None ts) (put i due None us1)
      hung =
          subst (AllHang Hang (B.store to) 0 c2 (put i due None ts)) (sym once)
          (others_over Hang Kept law.hang_on s' (B.store to) 0 i c2 due ts us same rest (λ m ne. keeps m (λ e. ne (let z : m ≡ 0 + i = omega arith in z))))

      lengths : length (put i due None ts) ≡ length (put i due None us1)
      lengths = length_put A i due None ts ∙ same ∙ sym (length_put B i due None us) ∙ ap length (sym once)

      few_b : unfinished (put i due None us1) ≤ suc (length us1)
      few_b = let h = unfinished_few (put i due None us1) in let q = length_put B i due None us1 in omega arith

      by_end : (t : Bool) → (t ≡ true → Near (A.store ra.last) (B.store to)) → Woke (A.store ra.last) c2 (chain (weave_on A most) t (A.store ra.last) (put i due None ts)) (behind_it t)
      by_end true nr = ih (suc (length us1)) (A.store ra.last) (B.store to) c2 (put i due None ts) (put i due None us1) (nr refl) lengths hung less_a few_b
      by_end false nr = I.woke_over A B Go Hang Near Sm Kept Q Calm Ok dear (A.store ra.last) c2 (put i due None ts) (put i due None us1)

  -- THE SWITCH: over stores that belong together the same strands wake in both
  pub wake_all : (most most' : ℕ) (s s' : Store) (c : ℕ) (ts : List (Thread SA)) (us : List (Thread SB)) → Near s s' → length ts ≡ length us → AllHang Hang s' 0 c ts us
      → unfinished ts ≤ most → unfinished us ≤ most' → Woke s c (weave_on A most s ts) (weave_on B most' s' us)
  wake_all zero zero s s' c ts us near same h few_a few_b = I.woke_over A B Go Hang Near Sm Kept Q Calm Ok dear s c ts us
  wake_all zero (suc most') s s' c ts us near same h few_a few_b = by_first (first_ready 0 ts) (first_ready 0 us) (first_alike Hang s' 0 c ts us h)
    where
      by_first : (o : Option (Ready SA)) (p : Option (Ready SB)) → First Hang s' 0 c ts us o p → Woke s c (still (finished ts)) (awake B (weave_on B most') s' us p)
      by_first _ _ none_first = I.woke_over A B Go Hang Near Sm Kept Q Calm Ok dear s c ts us
      by_first _ _ (one_first x y j c1 c2 ex ey ed lt few hg rest less_a less_b) = let no_way : ⊥ = omega arith in absurd no_way
  wake_all (suc most) zero s s' c ts us near same h few_a few_b = by_first (first_ready 0 ts) (first_ready 0 us) (first_alike Hang s' 0 c ts us h)
    where
      by_first : (o : Option (Ready SA)) (p : Option (Ready SB)) → First Hang s' 0 c ts us o p → Woke s c (awake A (weave_on A most) s ts o) (still (finished us))
      by_first _ _ none_first = I.woke_over A B Go Hang Near Sm Kept Q Calm Ok dear s c ts us
      by_first _ _ (one_first x y j c1 c2 ex ey ed lt few hg rest less_a less_b) = let no_way : ⊥ = omega arith in absurd no_way
  wake_all (suc most) (suc most') s s' c ts us near same h few_a few_b =
      by_first (λ most2 t t' d vs ws n e g u v. wake_all most most2 t t' d vs ws n e g u v) (first_ready 0 ts) (first_ready 0 us) (first_alike Hang s' 0 c ts us h)
    where
      by_first : ((most2 : ℕ) (t t' : Store) (d : ℕ) (vs : List (Thread SA)) (ws : List (Thread SB)) → Near t t' → length vs ≡ length ws → AllHang Hang t' 0 d vs ws → unfinished vs ≤ most
          → unfinished ws ≤ most2 → Woke t d (weave_on A most t vs) (weave_on B most2 t' ws))
          → (o : Option (Ready SA)) (p : Option (Ready SB)) → First Hang s' 0 c ts us o p → Woke s c (awake A (weave_on A most) s ts o) (awake B (weave_on B most') s' us p)
      by_first ih _ _ none_first = I.woke_over A B Go Hang Near Sm Kept Q Calm Ok dear s c ts us
      by_first ih _ _ (one_first x y j c1 c2 ex ey ed lt few hg rest less_a less_b) =
          let e1 : x.strand ≡ j = omega arith in
          let e2 : y.strand ≡ x.strand = omega arith in
          let z : 0 + j ≡ x.strand = omega arith in
          let lt1 : x.strand < length ts = omega arith in
          subst (λ i. Woke s c (awake A (weave_on A most) s ts (Some x))
          (woven_by B (weave_on B most') false i.0 i.1 (B.wakes s' y.at).events (B.wakes s' y.at).last us (last_event (B.wakes s' y.at).events)))
          (pair_is x.strand y.strand x.due y.due (sym e2) ed)
          (wake_one most most' ih s s' c c1 c2 x.strand x.due (A.wakes s x.at) (B.wakes s' y.at) ts us same lt1 few
          (subst (λ i. AllHang Hang s' 0 c2 (put i x.due None ts) (put i x.due None us)) (sym e1) rest)
          (subst (λ i. unfinished (put i x.due None ts) ≤ most) (sym e1) (omega arith))
          (subst (λ i. unfinished (put i x.due None us) ≤ most') (sym e1) (omega arith))
          (law.wake x.strand c1 x.at y.at s s' (subst (λ i. Hang i c1 x.at y.at s') z hg) near))
        where
          pair_is : (a b c d : ℕ) → a ≡ b → c ≡ d → ◌≡◌ {A = ℕ × ℕ} (a, c) (b, d)
          pair_is a b c d e f = ap (λ (q : ℕ). (q, c)) e ∙ ap (λ (q : ℕ). (b, q)) f
