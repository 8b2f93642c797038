-- Strands in step: two woven machines, of which one follows the other where each strand of it follows the other's, and keeps what the
-- strands that wait stand on.
use Rattle.std.proofs.Common.{arith, ◌≡◌, ◌<◌, ◌≤◌, ℕ, suc, ◌+◌, ◌-◌, ◌*◌, ◌⊎◌, inl, inr, List, [], ◌∷◌, ◌++◌, length, Option, Some, None, Bool, true, false, refl, sym, ap, ◌∙◌, subst}
use Rattle.std.proofs.Common.{append-nil, append_assoc, ⊎_elim}
use Rattle.std.proofs.lemmas.Bool.{cases_lt}
use Rattle.std.specs.Prelude.{if◌then◌else◌}
use Rattle.run_theory.proofs.Follow.{Alike, Follows, Match, On_way, all_made, alike_on, not_yet, up_to}
use Rattle.run_theory.proofs.Runs.{leads_on, leads_run, no_move, one_move, too_dear}
use Rattle.wa_model.specs.Machine.{Turn, stops, goes, Ran, after, still, run, Leads, stays, moves}
use Rattle.wa_model.specs.Outside.{Event, answered, called, ended, parked, paused, returned, shown}
use Rattle.wa_model.specs.Blocking.{Note, no_store}
use Rattle.wa_model.specs.Store.{Store}
use Rattle.wa_model.specs.declared.events.End.{End}
use Rattle.strand_laws.proofs.Threads.{AllHang, hang_put, others_over, unfinished, unfinished_few}
use Rattle.strand_laws.proofs.Weaving.{stays_on, told_both, twice}
use Rattle.strand_laws.proofs.WovenRuns.{NoEnds, end_woven, finished_stops, last_of, length_put, no_ends_last, no_ends_within, pause_woven, stands, stands_none, woven_at, woven_leads, woven_run_at}
use Rattle.strand_laws.specs.Woven.{Thread, Woven, Told, Loom, told_by, Ready, ends_strand, finished, going, last_event, moved, notes_told, put, standing_now, weave, weave_on, woven, woven_by}

-- the next turn, where an end leaves the other strands
abbrev pub chain : {S : Type 0} → (again : Store → List (Thread S) → Ran (Woven S) Told) → Bool → Store → List (Thread S) → Ran (Woven S) Told
chain again t s ts = if t then again s ts else still (finished ts)

module _ {SA SB : Type 0} (A : Loom SA) (B : Loom SB) (Go : (strand spare : ℕ) → SA → SB → Type 0) (Hang : (strand credit : ℕ) → SA → SB → Store → Type 0) (Near Sm : Store → Store → Type 0)
    (Kept : (strand : ℕ) → Store → Store → Type 0) (Q : (strand : ℕ) → Note → Note → Type 0) (Calm : (strand : ℕ) → SA → Type 0) (Ok : Told → Type 0) (dear : List Note → ℕ) where
  -- ---- one strand

  abbrev pub Every : List Told → Type 0
  Every [] = Unit {0}
  Every (t ∷ ts) = Ok t × Every ts

  abbrev pub RestsS : (seen : Store) → Ran SB Note → Type 0
  RestsS s r = (r.events ≡ []) × Sm s (B.store r.last)

  -- where a strand stands within a match
  abbrev pub WayS : (strand k : ℕ) → List Note → SA → SA → ℕ → Ran SB Note → Type 0
  WayS i = On_way SA SB Note Note (A.next i) (B.next i) (λ n s a b. Unit {0}) (Q i) dear (λ a b. Sm (A.store a) (B.store b)) (λ es x b. Sm x.store (B.store b))

  -- The last move of the second strand ends its turn, as the first one's does, and both stand at stores that belong together.
  pub record Final (i : ℕ) (a a' : SA) (b to : SB) (es fs : List Note) (cost : ℕ) (x : Note) : Type 0 where
    pub es1 : List Note
    pub es_are : es ≡ es1 ++ x ∷ []
    pub at_end : A.store a' ≡ x.store
    pub c1 : ℕ
    pub k1 : ℕ
    pub gs1 : List Note
    pub gs2 : List Note
    pub b1 : SB
    pub before : Leads (B.next i) b c1 gs1 b1
    pub quiet : NoEnds gs1
    pub last : B.next i b1 ≡ goes k1 gs2 to
    pub tells : last_event gs2 ≡ Some x.event
    pub cost_is : cost ≡ c1 + suc k1
    pub fs_are : fs ≡ gs1 ++ gs2
    pub starts : (how : End) → x.event ≡ ended how → ends_strand (B.starts b1) how ≡ ends_strand (A.starts a) how

  -- How a move of a strand leaves it.
  pub data After (i left : ℕ) (a a' : SA) (b to : SB) (es fs : List Note) (cost : ℕ) : Type 0 where
    goes_on : NoEnds es → Go i left a' to → After i left a a' b to es fs cost
    pauses : (x : Note) (ticks used : ℕ) → Final i a a' b to es fs cost x → x.event ≡ paused ticks used → Near (A.store a') (B.store to) → Hang i left a' to (B.store to)
        → After i left a a' b to es fs cost
    ends : (x : Note) (how : End) → Final i a a' b to es fs cost x → x.event ≡ ended how → (ends_strand (A.starts a) how ≡ true → Near (A.store a') (B.store to)) → After i left a a' b to es fs cost

  -- A move of a strand is matched; what the others stand on is kept.
  pub record Move (i spare k : ℕ) (es : List Note) (a a' : SA) (b : SB) : Type 0 where
    pub cost : ℕ
    pub left : ℕ
    pub events : List Note
    pub to : SB
    pub leads : Leads (B.next i) b cost events to
    pub no_less : suc k ≤ cost
    pub bound : cost + left ≤ 256 * suc k + dear es + spare
    pub alike : Alike (Q i) es events
    pub on_way : (m : ℕ) → m < cost → WayS i k es a a' m (run (B.next i) m b)
    pub keeps : (j : ℕ) → (j ≡ i → ⊥) → Kept j (B.store b) (B.store to)
    pub behind : After i left a a' b to es events cost

  -- where a strand stands within a stretch that tells these notes
  pub data PartS (i : ℕ) (seen : Store) (es : List Note) (r : Ran SB Note) : Type 0 where
    nothing_s : r.events ≡ [] → Sm seen (B.store r.last) → PartS i seen es r
    so_far_s : (es1 es2 : List Note) (x : Note) → es ≡ es1 ++ x ∷ es2 → Alike (Q i) (es1 ++ x ∷ []) r.events → Sm x.store (B.store r.last) → PartS i seen es r

  -- A strand's turn begins over these stores: what the first makes at once the second makes on a stretch; or both end at once; or the
  -- first ends at once, and the second in the one move behind a stretch.
  pub data Wakes (i c : ℕ) (s s' : Store) (ra : Ran SA Note) (rb : Ran SB Note) : Type 0 where
    wakes_on : NoEnds ra.events → rb.events ≡ [] → (n left : ℕ) (fs : List Note) (to : SB) → Leads (B.next i) rb.last n fs to → NoEnds fs → Alike (Q i) ra.events fs → n + left ≤ c
        → Go i left ra.last to
        → ((m : ℕ) → m ≤ n → PartS i s ra.events (run (B.next i) m rb.last)) → ((j : ℕ) → (j ≡ i → ⊥) → Kept j s' (B.store to)) → Wakes i c s s' ra rb
    wakes_up : (x y : Note) (how : End) → ra.events ≡ x ∷ [] → rb.events ≡ y ∷ [] → x.event ≡ ended how → Q i x y → A.store ra.last ≡ x.store → Near (A.store ra.last) (B.store rb.last)
        → ((j : ℕ) → (j ≡ i → ⊥) → Kept j s' (B.store rb.last)) → Wakes i c s s' ra rb
    wakes_end : (x : Note) (how : End) (es1 : List Note) → ra.events ≡ es1 ++ x ∷ [] → x.event ≡ ended how → A.store ra.last ≡ x.store → rb.events ≡ [] → (n k : ℕ) (gs : List Note) (b1 to : SB)
        → Leads (B.next i) rb.last n [] b1 → B.next i b1 ≡ goes k gs to → last_event gs ≡ Some (ended how) → ends_strand (B.starts b1) how ≡ ends_strand false how → Alike (Q i) ra.events gs
        → n + suc k ≤ c → ((m : ℕ) → m ≤ n + k → RestsS s (run (B.next i) m rb.last)) → (ends_strand false how ≡ true → Near (A.store ra.last) (B.store to))
        → ((j : ℕ) → (j ≡ i → ⊥) → Kept j s' (B.store to)) → Wakes i c s s' ra rb

  -- WHAT EACH STRAND OWES.
  pub record StrandLaw : Type 0 where
    pub same_event : (i : ℕ) (x y : Note) → Q i x y → x.event ≡ y.event
    pub sees : (i g : ℕ) (a : SA) (b : SB) → Go i g a b → Sm (A.store a) (B.store b)
    pub stop : (i g : ℕ) (a : SA) (b : SB) → Go i g a b → Calm i a → A.next i a ≡ stops → (m : ℕ) → RestsS (A.store a) (run (B.next i) m b)
    pub slow : (i g k : ℕ) (es : List Note) (a a' : SA) (b : SB) → Go i g a b → Calm i a → A.next i a ≡ goes k es a' → (m : ℕ) → m ≤ k → RestsS (A.store a) (run (B.next i) m b)
    pub move : (i g k : ℕ) (es : List Note) (a a' : SA) (b : SB) → Go i g a b → Calm i a → A.next i a ≡ goes k es a' → Every (told_by i es) → Move i g k es a a' b
    pub wake : (i c : ℕ) (a : SA) (b : SB) (s s' : Store) → Hang i c a b s' → Near s s' → Wakes i c s s' (A.wakes s a) (B.wakes s' b)
    pub hang_on : (i c : ℕ) (a : SA) (b : SB) (s s' : Store) → Hang i c a b s → Kept i s s' → Hang i c a b s'
    pub dear_on : (es fs : List Note) → dear (es ++ fs) ≡ dear es + dear fs

  -- ---- all together

  abbrev pub SeenBy : Store → Option (Ready SB) → Type 0
  SeenBy s None = Unit {0}
  SeenBy s (Some r) = Sm s (B.store r.at)

  -- the strand that goes on stands at such a store, if one does
  abbrev pub SeenW : Store → Woven SB → Type 0
  SeenW s w = SeenBy s (standing_now w)

  abbrev pub store_in : Option (Ready SA) → Store
  store_in None = no_store
  store_in (Some r) = A.store r.at

  abbrev pub SeesW : Woven SA → Woven SB → Type 0
  SeesW v w = SeenW (store_in (standing_now v)) w

  abbrev pub SeesAt : List Told → Told → Woven SB → Type 0
  SeesAt ts t w = SeenW t.note.store w

  -- notes of one strand that belong together
  abbrev pub QT : Told → Told → Type 0
  QT x y = (x.strand ≡ y.strand) × Q x.strand x.note y.note

  abbrev pub dear_told : List Told → ℕ
  dear_told ts = dear (notes_told ts)

  -- THE RELATION: the same strand goes on in both, and the others hang over the store of the moment; or no strand goes on.
  pub data Pre (spare : ℕ) : Woven SA → Woven SB → Type 0 where
    pre_goes : (i due c g : ℕ) (a : SA) (b : SB) (ts : List (Thread SA)) (us : List (Thread SB)) → i < length ts → length ts ≡ length us → g + c ≤ spare → Go i g a b
        → AllHang Hang (B.store b) 0 c (put i due None ts) (put i due None us) → Pre spare (going i due a ts) (going i due b us)
    pre_over : (ts : List (Thread SA)) (us : List (Thread SB)) → Pre spare (finished ts) (finished us)

  abbrev pub CalmNow : Option (Ready SA) → Type 0
  CalmNow None = Unit {0}
  CalmNow (Some r) = Calm r.strand r.at

  -- up to a cost of n the run from here is calm, and its notes are as they have to be
  pub record Allowed (n : ℕ) (w : Woven SA) : Type 0 where
    pub calm : (j : ℕ) (es : List Told) (t : Woven SA) → Leads (weave A) w j es t → j < n → CalmNow (standing_now t)
    pub ok : (j k : ℕ) (es fs : List Told) (t u : Woven SA) → Leads (weave A) w j es t → weave A t ≡ goes k fs u → j + suc k ≤ n → Every fs

  pub allowed_less : (n k : ℕ) (w : Woven SA) → Allowed n w → k ≤ n → Allowed k w
  allowed_less n k w h le = record { calm = λ j es t l lt. h.calm j es t l (omega arith); ok = λ j i es fs t u l e lt. h.ok j i es fs t u l e (omega arith) }

  pub allowed_on : (n k : ℕ) (es : List Told) (w t : Woven SA) → weave A w ≡ goes k es t → Allowed n w → Allowed (n - suc k) t
  allowed_on n k es w t e h = record {
    calm = λ j fs u l lt. h.calm (suc k + j) (es ++ fs) u (moves e l refl refl) (omega arith);
    ok = λ j i fs gs u v l e2 le. h.ok (suc k + j) i (es ++ fs) gs u v (moves e l refl refl) e2 (omega arith);
  }

  abbrev pub Joint : (n spare : ℕ) → Woven SA → Woven SB → Type 0
  Joint n spare v w = Pre spare v w × Allowed n v

  abbrev pub MatchW : (n spare k : ℕ) → List Told → Woven SA → Woven SA → Woven SB → Type 0
  MatchW = Match (Woven SA) (Woven SB) Told Told (weave A) (weave B) Joint QT dear_told SeesW SeesAt

  abbrev pub WayW : (k : ℕ) → List Told → Woven SA → Woven SA → ℕ → Ran (Woven SB) Told → Type 0
  WayW = On_way (Woven SA) (Woven SB) Told Told (weave A) (weave B) Joint QT dear_told SeesW SeesAt

  -- ---- notes

  pub told_alike : (i : ℕ) (es fs : List Note) → Alike (Q i) es fs → Alike QT (told_by i es) (told_by i fs)
  told_alike i [] [] h = tt
  told_alike i [] (y ∷ fs) h = absurd h
  told_alike i (x ∷ es) [] h = absurd h
  told_alike i (x ∷ es) (y ∷ fs) h = ((refl, h.0), told_alike i es fs h.1)

  notes_of_told : (i : ℕ) (es : List Note) (ts : List Told) → notes_told (told_by i es ++ ts) ≡ es ++ notes_told ts
  notes_of_told i [] ts = refl
  notes_of_told i (x ∷ es) ts = ap (λ (z : List Note). x ∷ z) (notes_of_told i es ts)

  pub notes_on : (ts us : List Told) → notes_told (ts ++ us) ≡ notes_told ts ++ notes_told us
  notes_on [] us = refl
  notes_on (t ∷ ts) us = ap (λ (z : List Note). t.note ∷ z) (notes_on ts us)

  every_left : (ts us : List Told) → Every (ts ++ us) → Every ts
  every_left [] us h = tt
  every_left (t ∷ ts) us h = (h.0, every_left ts us h.1)

  -- told of one strand up to a note, and more
  told_up_to : (i : ℕ) (es es1 es2 : List Note) (x : Note) (more : List Told) → es ≡ es1 ++ x ∷ es2
      → told_by i es ++ more ≡ told_by i es1 ++ record { strand = i; note = x } ∷ (told_by i es2 ++ more)
  told_up_to i es es1 es2 x more e =
      ap (λ (z : List Note). told_by i z ++ more) e ∙ ap (λ (z : List Told). z ++ more) (told_both A i es1 (x ∷ es2))
      ∙ append_assoc (told_by i es1) (record { strand = i; note = x } ∷ told_by i es2) more

  seen_going : (i due : ℕ) (s : Store) (b : SB) (us : List (Thread SB)) → i < length us → Sm s (B.store b) → SeenW s (going i due b us)
  seen_going i due s b us lt h = subst (SeenBy s) (sym (stands B i due b us lt)) h

  seen_over : (s : Store) (us : List (Thread SB)) → SeenW s (finished us)
  seen_over s us = subst (SeenBy s) (sym (stands_none B us)) tt

  sees_going : (i due : ℕ) (a : SA) (b : SB) (ts : List (Thread SA)) (us : List (Thread SB)) → i < length ts → i < length us → Sm (A.store a) (B.store b)
      → SeesW (going i due a ts) (going i due b us)
  sees_going i due a b ts us lt lt' h = subst (λ o. SeenW (store_in o) (going i due b us)) (sym (stands A i due a ts lt)) (seen_going i due (A.store a) b us lt' h)

  -- ---- parts

  -- where the woven machine stands within a stretch that tells these notes
  pub data PartW (seen : Store) (es : List Told) (r : Ran (Woven SB) Told) : Type 0 where
    nothing_w : r.events ≡ [] → SeenW seen r.last → PartW seen es r
    so_far_w : (es1 es2 : List Told) (x : Told) → es ≡ es1 ++ x ∷ es2 → Alike QT (es1 ++ x ∷ []) r.events → SeenW x.note.store r.last → PartW seen es r

  pub part_woven : (i due : ℕ) (seen : Store) (es : List Note) (r : Ran SB Note) (us : List (Thread SB)) → i < length us → PartS i seen es r
      → PartW seen (told_by i es) (record { events = told_by i r.events; last = going i due r.last us })
  part_woven i due seen es r us lt (nothing_s none h) = nothing_w (ap (told_by i) none) (seen_going i due seen r.last us lt h)
  part_woven i due seen es r us lt (so_far_s es1 es2 x e al h) =
      so_far_w (told_by i es1) (told_by i es2) (record { strand = i; note = x }) (ap (told_by i) e ∙ told_both A i es1 (x ∷ es2))
      (subst (λ z. Alike QT z (told_by i r.events)) (told_both A i es1 (x ∷ [])) (told_alike i (es1 ++ x ∷ []) r.events al)) (seen_going i due x.store r.last us lt h)

  -- the store of the last of these notes, else this one
  abbrev pub LastSeen : Store → List Told → Store → Type 0
  LastSeen s es seen = ((es ≡ []) × (seen ≡ s)) ⊎ ((es1 : List Told) × (x : Told) × (es ≡ es1 ++ x ∷ []) × (seen ≡ x.note.store))

  -- The next turns: notes that both make at once, and notes that the second makes on a stretch.
  pub record Woke (s : Store) (c : ℕ) (ra : Ran (Woven SA) Told) (rb : Ran (Woven SB) Told) : Type 0 where
    pub es0 : List Told
    pub es1 : List Told
    pub seen : Store
    pub events_are : ra.events ≡ es0 ++ es1
    pub at_once : Alike QT es0 rb.events
    pub last_seen : LastSeen s es0 seen
    pub cost : ℕ
    pub fs : List Told
    pub to : Woven SB
    pub leads : Leads (weave B) rb.last cost fs to
    pub alike : Alike QT es1 fs
    pub left : ℕ
    pub bound : cost + left ≤ c
    pub rel : Pre left ra.last to
    pub each : (m : ℕ) → m ≤ cost → PartW seen es1 (run (weave B) m rb.last)

  pub woke_over : (s : Store) (c : ℕ) (ts : List (Thread SA)) (us : List (Thread SB)) → Woke s c (still (finished ts)) (still (finished us))
  woke_over s c ts us = record {
    es0 = [];
    es1 = [];
    seen = s;
    events_are = refl;
    at_once = tt;
    last_seen = inl (refl, refl);
    cost = 0;
    fs = [];
    to = finished us;
    leads = stays;
    alike = tt;
    left = c;
    bound = omega arith;
    rel = pre_over ts us;
    each = λ m le. let z : m ≡ 0 = omega arith in subst (λ j. PartW s [] (run (weave B) j (finished us))) (sym z) (nothing_w refl (seen_over s us));
  }

  -- what is told up to there
  record SoFar (es : List Told) (r : Ran (Woven SB) Told) : Type 0 where
    es1 : List Told
    es2 : List Told
    x : Told
    split : es ≡ es1 ++ x ∷ es2
    told : Alike QT (es1 ++ x ∷ []) r.events
    sees : SeenW x.note.store r.last

  whole_told : (fa : List Told) (s : Store) (c : ℕ) (ra : Ran (Woven SA) Told) (rb : Ran (Woven SB) Told) (wk : Woke s c ra rb) → fa ++ ra.events ≡ (fa ++ wk.es0) ++ wk.es1
  whole_told fa s c ra rb wk = ap (λ (z : List Told). fa ++ z) wk.events_are ∙ sym (append_assoc fa wk.es0 wk.es1)

  -- behind notes that both have told the next turns begin
  part_behind : (fa la : List Told) (x : Told) (fb : List Told) (s : Store) (c : ℕ) (ra : Ran (Woven SA) Told) (rb : Ran (Woven SB) Told) (wk : Woke s c ra rb) (r : Ran (Woven SB) Told)
      → fa ≡ la ++ x ∷ [] → s ≡ x.note.store → Alike QT fa fb → PartW wk.seen wk.es1 r → SoFar (fa ++ ra.events) (after (fb ++ rb.events) r)
  part_behind fa la x fb s c ra rb wk r fa_is s_is al (nothing_w none h) = by_seen wk.last_seen
    where
      none_added : (fb ++ rb.events) ++ r.events ≡ fb ++ rb.events
      none_added = ap (λ (q : List Told). (fb ++ rb.events) ++ q) none ∙ append-nil (fb ++ rb.events)

      both : Alike QT (fa ++ wk.es0) ((fb ++ rb.events) ++ r.events)
      both = subst (Alike QT (fa ++ wk.es0)) (sym none_added) (alike_on QT fa wk.es0 fb rb.events al wk.at_once)

      by_seen : LastSeen s wk.es0 wk.seen → SoFar (fa ++ ra.events) (after (fb ++ rb.events) r)
      by_seen (inl e) = record {
        es1 = la;
        es2 = ra.events;
        x = x;
        split = ap (λ (q : List Told). q ++ ra.events) fa_is ∙ append_assoc la (x ∷ []) ra.events;
        told = subst (λ q. Alike QT q ((fb ++ rb.events) ++ r.events)) (ap (λ (q : List Told). fa ++ q) e.0 ∙ append-nil fa ∙ fa_is) both;
        sees = subst (λ z. SeenW z r.last) (e.1 ∙ s_is) h;
      }
      by_seen (inr e) =
          let cut : fa ++ wk.es0 ≡ (fa ++ e.0) ++ e.1 ∷ [] = ap (λ (q : List Told). fa ++ q) e.2 ∙ sym (append_assoc fa e.0 (e.1 ∷ [])) in
          record {
            es1 = fa ++ e.0;
            es2 = wk.es1;
            x = e.1;
            split = whole_told fa s c ra rb wk ∙ ap (λ (q : List Told). q ++ wk.es1) cut ∙ append_assoc (fa ++ e.0) (e.1 ∷ []) wk.es1;
            told = subst (λ q. Alike QT q ((fb ++ rb.events) ++ r.events)) cut both;
            sees = subst (λ z. SeenW z r.last) e.3 h;
          }
  part_behind fa la x fb s c ra rb wk r fa_is s_is al (so_far_w e1 e2 z split al2 h) = record {
    es1 = (fa ++ wk.es0) ++ e1;
    es2 = e2;
    x = z;
    split = whole_told fa s c ra rb wk ∙ ap (λ (q : List Told). (fa ++ wk.es0) ++ q) split ∙ sym (append_assoc (fa ++ wk.es0) e1 (z ∷ e2));
    told = subst (λ q. Alike QT q ((fb ++ rb.events) ++ r.events)) (sym (append_assoc (fa ++ wk.es0) e1 (z ∷ [])))
        (alike_on QT (fa ++ wk.es0) (e1 ++ z ∷ []) (fb ++ rb.events) r.events (alike_on QT fa wk.es0 fb rb.events al wk.at_once) al2);
    sees = h;
  }

  -- the first ends a strand as its turn begins, and the second in the one move behind a stretch
  pub woke_ended : (i due : ℕ) (x : Note) (es1 es gs : List Note) (b0 b1 : SB) (us : List (Thread SB)) (n k : ℕ) (s s1 : Store) (c c2 : ℕ) (ra : Ran (Woven SA) Told) (rb : Ran (Woven SB) Told)
      → i < length us → es ≡ es1 ++ x ∷ [] → s1 ≡ x.store → Leads (B.next i) b0 n [] b1 → weave B (going i due b1 us) ≡ goes k (told_by i gs ++ rb.events) rb.last → Alike (Q i) es gs
      → n + suc k + c2 ≤ c → ((m : ℕ) → m ≤ n + k → RestsS s (run (B.next i) m b0)) → Woke s1 c2 ra rb → Woke s c (after (told_by i es) ra) (record { events = []; last = going i due b0 us })
  woke_ended i due x es1 es gs b0 b1 us n k s s1 c c2 ra rb lt es_are at lds last_b al enough rests wk =
      let bd = wk.bound in
      record {
        es0 = [];
        es1 = all_a;
        seen = s;
        events_are = refl;
        at_once = tt;
        last_seen = inl (refl, refl);
        cost = n + (suc k + wk.cost);
        fs = front_b ++ wk.fs;
        to = wk.to;
        leads = leads_on (Woven SB) Told (weave B) w0 w1 wk.to n (suc k + wk.cost) [] (front_b ++ wk.fs) first (moves last_b wk.leads refl refl);
        alike = subst (λ z. Alike QT z (front_b ++ wk.fs)) (sym (whole_told (told_by i es) s1 c2 ra rb wk))
            (alike_on QT (told_by i es ++ wk.es0) wk.es1 front_b wk.fs (alike_on QT (told_by i es) wk.es0 (told_by i gs) rb.events told wk.at_once) wk.alike);
        left = wk.left;
        bound = omega arith;
        rel = wk.rel;
        each = λ m le. ⊎_elim (λ early. at_rest m (omega arith)) (λ late. behind m late le) (cases_lt m (n + suc k));
      }
    where
      w0 : Woven SB
      w0 = going i due b0 us

      w1 : Woven SB
      w1 = going i due b1 us

      all_a : List Told
      all_a = told_by i es ++ ra.events

      front_b : List Told
      front_b = told_by i gs ++ rb.events

      told : Alike QT (told_by i es) (told_by i gs)
      told = told_alike i es gs al

      first : Leads (weave B) w0 n [] w1
      first = woven_leads B i due b0 b1 us n [] lt lds tt

      at_rest : (m : ℕ) → m ≤ n + k → PartW s all_a (run (weave B) m w0)
      at_rest m le =
          let q = rests m le in
          subst (PartW s all_a) (sym (woven_run_at B i due b0 us m lt (subst NoEnds (sym q.0) tt)))
          (nothing_w (ap (told_by i) q.0) (seen_going i due s (run (B.next i) m b0).last us lt q.1))

      behind : (m : ℕ) → n + suc k ≤ m → m ≤ n + (suc k + wk.cost) → PartW s all_a (run (weave B) m w0)
      behind m late le =
          let j = m - (n + suc k) in
          let z : m ≡ n + suc (k + j) = omega arith in
          let r : run (weave B) m w0 ≡ after front_b (run (weave B) j rb.last) =
          ap (λ p. run (weave B) p w0) z ∙ leads_run (Woven SB) Told (weave B) w0 w1 n (suc (k + j)) [] first ∙ one_move (Woven SB) Told (weave B) k j front_b w1 rb.last last_b in
          let q = part_behind (told_by i es) (told_by i es1) (record { strand = i; note = x }) (told_by i gs) s1 c2 ra rb wk (run (weave B) j rb.last)
          (ap (told_by i) es_are ∙ told_both A i es1 (x ∷ [])) at told (wk.each j (omega arith)) in
          subst (PartW s all_a) (sym r) (so_far_w q.es1 q.es2 q.x q.split q.told q.sees)

  -- a note that both told at once stands before
  pub woke_behind : (i : ℕ) (x y : Note) (s0 s1 : Store) (c : ℕ) (ra : Ran (Woven SA) Told) (rb : Ran (Woven SB) Told) → Q i x y → s1 ≡ x.store → Woke s1 c ra rb
      → Woke s0 c (after (record { strand = i; note = x } ∷ []) ra) (after (record { strand = i; note = y } ∷ []) rb)
  woke_behind i x y s0 s1 c ra rb q e wk = record {
    es0 = record { strand = i; note = x } ∷ wk.es0;
    es1 = wk.es1;
    seen = wk.seen;
    events_are = ap (λ (z : List Told). record { strand = i; note = x } ∷ z) wk.events_are;
    at_once = ((refl, q), wk.at_once);
    last_seen = by_seen wk.last_seen;
    cost = wk.cost;
    fs = wk.fs;
    to = wk.to;
    leads = wk.leads;
    alike = wk.alike;
    left = wk.left;
    bound = wk.bound;
    rel = wk.rel;
    each = wk.each;
  }
    where
      by_seen : LastSeen s1 wk.es0 wk.seen → LastSeen s0 (record { strand = i; note = x } ∷ wk.es0) wk.seen
      by_seen (inl h) = inr ([], record { strand = i; note = x }, ap (λ (z : List Told). record { strand = i; note = x } ∷ z) h.0, h.1 ∙ e)
      by_seen (inr h) = inr (record { strand = i; note = x } ∷ h.0, h.1, ap (λ (z : List Told). record { strand = i; note = x } ∷ z) h.2, h.3)

  -- over stores that belong together the same strands wake in both
  abbrev pub Switches : Type 0
  Switches =
      (most most' : ℕ) (s s' : Store) (c : ℕ) (ts : List (Thread SA)) (us : List (Thread SB)) → Near s s' → length ts ≡ length us → AllHang Hang s' 0 c ts us → unfinished ts ≤ most
      → unfinished us ≤ most' → Woke s c (weave_on A most s ts) (weave_on B most' s' us)

  module _ (law : StrandLaw) (wake_all : Switches) where
    -- a strand put into a list leaves at most so many
    few_of : {S : Type 0} (loom : Loom S) (i d : ℕ) (at : Option S) (xs : List (Thread S)) (n : ℕ) → length xs ≤ n → unfinished (put i d at xs) ≤ suc n
    few_of loom i d at xs n le = let h = unfinished_few (put i d at xs) in let q = length_put loom i d at xs in omega arith

    -- ---- a move that ends a turn, and what wakes behind it

    module _ (n spare k g c c' i due : ℕ) (es : List Note) (a a' : SA) (b : SB) (ts : List (Thread SA)) (us : List (Thread SB)) (x : Note) (lt : i < length ts) (same : length ts ≡ length us)
        (mv : Move i g k es a a' b) (f : Final i a a' b mv.to es mv.events mv.cost x) (ra : Ran (Woven SA) Told) (rb : Ran (Woven SB) Told)
        (last_b : weave B (going i due f.b1 us) ≡ goes f.k1 (told_by i f.gs2 ++ rb.events) rb.last) (wk : Woke (A.store a') c' ra rb) where
      abbrev v0 : Woven SA
      v0 = going i due a ts

      abbrev w0 : Woven SB
      w0 = going i due b us

      abbrev all_a : List Told
      all_a = told_by i es ++ ra.events

      -- what both have told where the next turn begins
      abbrev front_a : List Told
      front_a = told_by i es ++ wk.es0

      abbrev front_b : List Told
      front_b = told_by i mv.events ++ rb.events

      abbrev x_told : Told
      x_told = record { strand = i; note = x }

      lt_b : i < length us
      lt_b = omega arith

      front : Alike QT front_a front_b
      front = alike_on QT (told_by i es) wk.es0 (told_by i mv.events) rb.events (told_alike i es mv.events mv.alike) wk.at_once

      front_is : all_a ≡ front_a ++ wk.es1
      front_is = ap (λ (z : List Told). told_by i es ++ z) wk.events_are ∙ sym (append_assoc (told_by i es) wk.es0 wk.es1)

      in_front : (zs : List Told) → told_by i f.gs1 ++ ((told_by i f.gs2 ++ rb.events) ++ zs) ≡ front_b ++ zs
      in_front zs =
          sym (append_assoc (told_by i f.gs1) (told_by i f.gs2 ++ rb.events) zs)
          ∙ ap (λ (q : List Told). q ++ zs) (sym (append_assoc (told_by i f.gs1) (told_by i f.gs2) rb.events)
          ∙ ap (λ (q : List Told). q ++ rb.events) (sym (ap (told_by i) f.fs_are ∙ told_both A i f.gs1 f.gs2)))

      es_x : told_by i es ≡ told_by i f.es1 ++ x_told ∷ []
      es_x = ap (told_by i) f.es_are ∙ told_both A i f.es1 (x ∷ [])

      first : Leads (weave B) w0 f.c1 (told_by i f.gs1) (going i due f.b1 us)
      first = woven_leads B i due b f.b1 us f.c1 f.gs1 lt_b f.before f.quiet

      whole : Leads (weave B) w0 (f.c1 + (suc f.k1 + wk.cost)) (front_b ++ wk.fs) wk.to
      whole = subst (λ zs. Leads (weave B) w0 (f.c1 + (suc f.k1 + wk.cost)) zs wk.to) (in_front wk.fs)
          (leads_on (Woven SB) Told (weave B) w0 (going i due f.b1 us) wk.to f.c1 (suc f.k1 + wk.cost) (told_by i f.gs1) ((told_by i f.gs2 ++ rb.events) ++ wk.fs) first
          (moves last_b wk.leads refl refl))

      -- before the last move
      quiet_to : (m : ℕ) → m < mv.cost → NoEnds (run (B.next i) m b).events
      quiet_to m less =
          let z = f.cost_is in
          let r : run (B.next i) (f.c1 + f.k1) b ≡ after f.gs1 (still f.b1) =
          leads_run SB Note (B.next i) b f.b1 f.c1 f.k1 f.gs1 f.before ∙ ap (after f.gs1) (too_dear SB Note (B.next i) f.k1 f.k1 f.gs2 f.b1 mv.to f.last (omega arith)) in
          no_ends_within B i m (f.c1 + f.k1) b (omega arith) (subst NoEnds (sym (ap (λ (q : Ran SB Note). q.events) r ∙ append-nil f.gs1)) f.quiet)

      way_before : (m : ℕ) → WayS i k es a a' m (run (B.next i) m b)
          → WayW k all_a v0 ra.last m (record { events = told_by i (run (B.next i) m b).events; last = going i due (run (B.next i) m b).last us })
      way_before m (not_yet none h) = not_yet (ap (told_by i) none) (sees_going i due a (run (B.next i) m b).last ts us lt lt_b h)
      way_before m (all_made ge al h) =
          up_to (told_by i f.es1) ra.events x_told ge (told_up_to i es f.es1 [] x ra.events f.es_are)
          (subst (λ z. Alike QT z (told_by i (run (B.next i) m b).events)) es_x (told_alike i es (run (B.next i) m b).events al))
          (seen_going i due x.store (run (B.next i) m b).last us lt_b (subst (λ s. Sm s (B.store (run (B.next i) m b).last)) f.at_end h))
      way_before m (up_to e1 e2 z ge split al h) =
          up_to (told_by i e1) (told_by i e2 ++ ra.events) (record { strand = i; note = z }) ge (told_up_to i es e1 e2 z ra.events split)
          (subst (λ q. Alike QT q (told_by i (run (B.next i) m b).events)) (told_both A i e1 (z ∷ [])) (told_alike i (e1 ++ z ∷ []) (run (B.next i) m b).events al))
          (seen_going i due z.store (run (B.next i) m b).last us lt_b h)

      -- behind it
      way_behind : (m : ℕ) (r : Ran (Woven SB) Told) → suc k ≤ m → PartW wk.seen wk.es1 r → WayW k all_a v0 ra.last m (after front_b r)
      way_behind m r ge p =
          let q = part_behind (told_by i es) (told_by i f.es1) x_told (told_by i mv.events) (A.store a') c' ra rb wk r es_x f.at_end (told_alike i es mv.events mv.alike) p in
          up_to q.es1 q.es2 q.x ge q.split q.told q.sees

      ending_way : (m : ℕ) → m < f.c1 + (suc f.k1 + wk.cost) → WayW k all_a v0 ra.last m (run (weave B) m w0)
      ending_way m less =
          ⊎_elim
          (λ early. subst (WayW k all_a v0 ra.last m) (sym (woven_run_at B i due b us m lt_b (quiet_to m early))) (way_before m (mv.on_way m early)))
          (λ late.
          let q = f.cost_is in
          let nl = mv.no_less in
          let z : m ≡ f.c1 + suc (f.k1 + (m - mv.cost)) = omega arith in
          let r : run (weave B) m w0 ≡ after (told_by i f.gs1) (after (told_by i f.gs2 ++ rb.events) (run (weave B) (m - mv.cost) rb.last)) =
          ap (λ j. run (weave B) j w0) z ∙ leads_run (Woven SB) Told (weave B) w0 (going i due f.b1 us) f.c1 (suc (f.k1 + (m - mv.cost))) (told_by i f.gs1) first
          ∙ ap (after (told_by i f.gs1)) (one_move (Woven SB) Told (weave B) f.k1 (m - mv.cost) (told_by i f.gs2 ++ rb.events) (going i due f.b1 us) rb.last last_b) in
          let r2 : run (weave B) m w0 ≡ after front_b (run (weave B) (m - mv.cost) rb.last) =
          r ∙ ap (λ (es : List Told). record { events = es; last = (run (weave B) (m - mv.cost) rb.last).last }) (in_front (run (weave B) (m - mv.cost) rb.last).events) in
          subst (WayW k all_a v0 ra.last m) (sym r2) (way_behind m (run (weave B) (m - mv.cost) rb.last) (omega arith) (wk.each (m - mv.cost) (omega arith))))
          (cases_lt m mv.cost)

      ending : c' ≤ mv.left + c → g + c ≤ spare → Allowed (n - suc k) ra.last → MatchW n spare k all_a v0 ra.last w0
      ending few within al =
          let q = f.cost_is in
          let nl = mv.no_less in
          let b1 = mv.bound in
          let b2 = wk.bound in
          let d : dear_told all_a ≡ dear es + dear (notes_told ra.events) = ap dear (notes_of_told i es ra.events) ∙ law.dear_on es (notes_told ra.events) in
          record {
            cost = f.c1 + (suc f.k1 + wk.cost);
            left = wk.left;
            events = front_b ++ wk.fs;
            to = wk.to;
            leads = whole;
            no_less = omega arith;
            bound = omega arith;
            alike = subst (λ z. Alike QT z (front_b ++ wk.fs)) (sym front_is) (alike_on QT front_a wk.es1 front_b wk.fs front wk.alike);
            rel = (wk.rel, al);
            on_way = ending_way;
          }

    -- ---- a move that doesn't

    quiet_alike : (i : ℕ) (es fs : List Note) → Alike (Q i) es fs → NoEnds es → NoEnds fs
    quiet_alike i [] [] al h = tt
    quiet_alike i [] (y ∷ fs) al h = absurd al
    quiet_alike i (x ∷ es) [] al h = absurd al
    quiet_alike i (x ∷ es) (y ∷ fs) al h = (ap Rattle.world_model.specs.World.ends_turn (sym (law.same_event i x y al.0)) ∙ h.0, quiet_alike i es fs al.1 h.1)

    module _ (n spare k g c i due : ℕ) (es : List Note) (a a' : SA) (b : SB) (ts : List (Thread SA)) (us : List (Thread SB)) (lt : i < length ts) (same : length ts ≡ length us)
        (mv : Move i g k es a a' b) (none : NoEnds es) where
      abbrev v1 : Woven SA
      v1 = going i due a ts

      abbrev v2 : Woven SA
      v2 = going i due a' ts

      abbrev w1 : Woven SB
      w1 = going i due b us

      lt_us : i < length us
      lt_us = omega arith

      quiet_b : NoEnds mv.events
      quiet_b = quiet_alike i es mv.events mv.alike none

      quiet_run : (m : ℕ) → m < mv.cost → NoEnds (run (B.next i) m b).events
      quiet_run m less =
          let z : mv.cost ≡ mv.cost + 0 = omega arith in
          let r : run (B.next i) mv.cost b ≡ after mv.events (run (B.next i) 0 mv.to) = ap (λ j. run (B.next i) j b) z ∙ leads_run SB Note (B.next i) b mv.to mv.cost 0 mv.events mv.leads in
          no_ends_within B i m mv.cost b (omega arith) (subst NoEnds (sym (ap (λ (q : Ran SB Note). q.events) r ∙ append-nil mv.events)) quiet_b)

      way_on : (m : ℕ) → WayS i k es a a' m (run (B.next i) m b)
          → WayW k (told_by i es) v1 v2 m (record { events = told_by i (run (B.next i) m b).events; last = going i due (run (B.next i) m b).last us })
      way_on m (not_yet no_more h) = not_yet (ap (told_by i) no_more) (sees_going i due a (run (B.next i) m b).last ts us lt lt_us h)
      way_on m (all_made ge al h) = all_made ge (told_alike i es (run (B.next i) m b).events al) (sees_going i due a' (run (B.next i) m b).last ts us lt lt_us h)
      way_on m (up_to e1 e2 z ge split al h) =
          up_to (told_by i e1) (told_by i e2) (record { strand = i; note = z }) ge (ap (told_by i) split ∙ told_both A i e1 (z ∷ e2))
          (subst (λ q. Alike QT q (told_by i (run (B.next i) m b).events)) (told_both A i e1 (z ∷ [])) (told_alike i (e1 ++ z ∷ []) (run (B.next i) m b).events al))
          (seen_going i due z.store (run (B.next i) m b).last us lt_us h)

      going_match : g + c ≤ spare → Go i mv.left a' mv.to → AllHang Hang (B.store mv.to) 0 c (put i due None ts) (put i due None us) → Allowed (n - suc k) v2
          → MatchW n spare k (told_by i es) v1 v2 w1
      going_match within go hung al =
          let bd = mv.bound in
          let d : dear_told (told_by i es) ≡ dear es = ap dear (sym (ap notes_told (append-nil (told_by i es))) ∙ notes_of_told i es [] ∙ append-nil es) in
          record {
            cost = mv.cost;
            left = mv.left + c;
            events = told_by i mv.events;
            to = going i due mv.to us;
            leads = woven_leads B i due b mv.to us mv.cost mv.events lt_us mv.leads quiet_b;
            no_less = mv.no_less;
            bound = omega arith;
            alike = told_alike i es mv.events mv.alike;
            rel = (pre_goes i due c mv.left a' mv.to ts us lt same (omega arith) go hung, al);
            on_way = λ m less. subst (WayW k (told_by i es) v1 v2 m) (sym (woven_run_at B i due b us m lt_us (quiet_run m less))) (way_on m (mv.on_way m less));
          }

    -- ---- every move

    abbrev pub RestsW : Woven SA → Ran (Woven SB) Told → Type 0
    RestsW v r = (r.events ≡ []) × SeesW v r.last

    abbrev pub OwesW : (n spare : ℕ) → Woven SA → Woven SB → Turn (Woven SA) Told → Type 0
    OwesW n spare v w stops = (m : ℕ) → RestsW v (run (weave B) m w)
    OwesW n spare v w (goes k es t) = ((m : ℕ) → m ≤ k → RestsW v (run (weave B) m w)) × (suc k ≤ n → MatchW n spare k es v t w)

    rests_going : (i due : ℕ) (a : SA) (b : SB) (ts : List (Thread SA)) (us : List (Thread SB)) (m : ℕ) → i < length ts → i < length us → RestsS (A.store a) (run (B.next i) m b)
        → RestsW (going i due a ts) (run (weave B) m (going i due b us))
    rests_going i due a b ts us m lt lt' h =
        subst (RestsW (going i due a ts)) (sym (woven_run_at B i due b us m lt' (subst NoEnds (sym h.0) tt)))
        (ap (told_by i) h.0, sees_going i due a (run (B.next i) m b).last ts us lt lt' h.1)

    -- what a strand made is told first
    told_first : (again : Store → List (Thread SA) → Ran (Woven SA) Told) (st : Bool) (i due : ℕ) (es : List Note) (s : SA) (ts : List (Thread SA)) (e : Option Event)
        → (rest : List Told) × ((woven_by A again st i due es s ts e).events ≡ told_by i es ++ rest)
    told_first again st i due es s ts None = ([], sym (append-nil (told_by i es)))
    told_first again st i due es s ts (Some (called c)) = ([], sym (append-nil (told_by i es)))
    told_first again st i due es s ts (Some (answered said)) = ([], sym (append-nil (told_by i es)))
    told_first again st i due es s ts (Some (parked used)) = ([], sym (append-nil (told_by i es)))
    told_first again st i due es s ts (Some (returned j v)) = ([], sym (append-nil (told_by i es)))
    told_first again st i due es s ts (Some (shown j v)) = ([], sym (append-nil (told_by i es)))
    told_first again st i due es s ts (Some (paused ticks used)) = ((again (A.store s) (put i (due + ticks) (Some s) ts)).events, refl)
    told_first again st i due es s ts (Some (ended how)) = ((chain again (ends_strand st how) (A.store s) (put i due None ts)).events, refl)

    abbrev MatchRan : (n spare k : ℕ) → Woven SA → Woven SB → Ran (Woven SA) Told → Type 0
    MatchRan n spare k v w r = MatchW n spare k r.events v r.last w

    module _ (n spare i due c g : ℕ) (a : SA) (b : SB) (ts : List (Thread SA)) (us : List (Thread SB)) (pos : 0 < n) (lt : i < length ts) (same : length ts ≡ length us) (within : g + c ≤ spare)
        (go : Go i g a b) (hung : AllHang Hang (B.store b) 0 c (put i due None ts) (put i due None us)) (al : Allowed n (going i due a ts)) where
      abbrev v : Woven SA
      v = going i due a ts

      abbrev w : Woven SB
      w = going i due b us

      abbrev ts1 : List (Thread SA)
      ts1 = put i due (Some a) ts

      lt_u : i < length us
      lt_u = omega arith

      calm : Calm i a
      calm = subst CalmNow (stands A i due a ts lt) (al.calm 0 [] v stays pos)

      hung_on : (k : ℕ) (es : List Note) (a' : SA) (mv : Move i g k es a a' b) → AllHang Hang (B.store mv.to) 0 c (put i due None ts) (put i due None us)
      hung_on k es a' mv = others_over Hang Kept law.hang_on (B.store b) (B.store mv.to) 0 i c due ts us same hung (λ m ne. mv.keeps m (λ e. ne (let z : m ≡ 0 + i = omega arith in z)))

      same_put : {S : Type 0} → (loom : Loom S) (d e d' : ℕ) (x y z : Option S) (xs : List (Thread S)) → put i d x (put i e y xs) ≡ put i d x (put i d' z xs)
      same_put loom d e d' x y z xs = twice loom i xs _ _ ∙ sym (twice loom i xs _ _)

      moved_on : (k : ℕ) (es : List Note) (a' : SA) → A.next i a ≡ goes k es a' → suc k ≤ n → MatchRan n spare k v w (woven A (A.starts a) i due es a' ts1)
      moved_on k es a' e enough = by_after mv.behind
        where
          mva : weave A v ≡ goes k (woven A (A.starts a) i due es a' ts1).events (woven A (A.starts a) i due es a' ts1).last
          mva = woven_at A i due a ts lt ∙ ap (moved A (A.starts a) i due ts1) e

          al2 : Allowed (n - suc k) (woven A (A.starts a) i due es a' ts1).last
          al2 = allowed_on n k _ v _ mva al

          oks : Every (told_by i es)
          oks =
              let f = told_first (weave_on A (suc (length ts1))) (A.starts a) i due es a' ts1 (last_event es) in
              every_left (told_by i es) f.0 (subst Every f.1 (al.ok 0 k [] _ v _ stays mva (omega arith)))

          mv : Move i g k es a a' b
          mv = law.move i g k es a a' b go calm e oks

          more : AllHang Hang (B.store mv.to) 0 c (put i due None ts) (put i due None us)
          more = hung_on k es a' mv

          by_final : (x : Note) (f : Final i a a' b mv.to es mv.events mv.cost x) (c' : ℕ) (ra : Ran (Woven SA) Told) (rb : Ran (Woven SB) Told)
              → woven A (A.starts a) i due es a' ts1 ≡ after (told_by i es) ra
              → woven B (B.starts f.b1) i due f.gs2 mv.to (put i due (Some f.b1) us) ≡ after (told_by i f.gs2) rb → Woke (A.store a') c' ra rb → c' ≤ mv.left + c
              → MatchRan n spare k v w (woven A (A.starts a) i due es a' ts1)
          by_final x f c' ra rb ea eb wk few =
              subst (MatchRan n spare k v w) (sym ea)
              (ending n spare k g c c' i due es a a' b ts us x lt same mv f ra rb
              (woven_at B i due f.b1 us lt_u ∙ ap (moved B (B.starts f.b1) i due (put i due (Some f.b1) us)) f.last ∙ ap (λ (r : Ran (Woven SB) Told). goes f.k1 r.events r.last) eb)
              wk few within (subst (λ (r : Ran (Woven SA) Told). Allowed (n - suc k) r.last) ea al2))

          lengths : (s : SB) → length (put i due (Some s) us) ≡ length ts1
          lengths s = length_put B i due (Some s) us ∙ sym same ∙ sym (length_put A i due (Some a) ts)

          by_after : After i mv.left a a' b mv.to es mv.events mv.cost → MatchRan n spare k v w (woven A (A.starts a) i due es a' ts1)
          by_after (goes_on none go2) =
              let e1 : woven A (A.starts a) i due es a' ts1 ≡ record { events = told_by i es; last = going i due a' ts } =
              stays_on A (weave_on A (suc (length ts1))) (A.starts a) i due es a' ts1 (last_event es) (no_ends_last es none)
              ∙ ap (λ (xs : List (Thread SA)). record { events = told_by i es; last = record { now = i; threads = xs } })
              (twice A i ts (record { due = due; at = Some a }) (record { due = due; at = Some a' })) in
              subst (MatchRan n spare k v w) (sym e1)
              (going_match n spare k g c i due es a a' b ts us lt same mv none within go2 more (subst (λ (r : Ran (Woven SA) Told). Allowed (n - suc k) r.last) e1 al2))
          by_after (pauses x ticks used f ex near hg) =
              let us1 : List (Thread SB) = put i due (Some f.b1) us in
              let d : ℕ = due + ticks in
              let tell_a : last_event es ≡ Some (paused ticks used) = ap last_event f.es_are ∙ last_of f.es1 x ∙ ap (λ (z : Event). Some z) ex in
              let tell_b : last_event f.gs2 ≡ Some (paused ticks used) = f.tells ∙ ap (λ (z : Event). Some z) ex in
              let z : i ≡ 0 + i = omega arith in
              let h1 : AllHang Hang (B.store mv.to) 0 (mv.left + c) (put i d (Some a') (put i due None ts)) (put i d (Some mv.to) (put i due None us)) =
              hang_put Hang (B.store mv.to) 0 i c mv.left d a' mv.to (put i due None ts) (put i due None us) more (subst (λ q. Hang q mv.left a' mv.to (B.store mv.to)) z hg) in
              let h2 : AllHang Hang (B.store mv.to) 0 (mv.left + c) (put i d (Some a') ts1) (put i d (Some mv.to) us1) =
              subst (λ q. AllHang Hang (B.store mv.to) 0 (mv.left + c) (put i d (Some a') ts1) q) (same_put B d due due (Some mv.to) None (Some f.b1) us)
              (subst (λ q. AllHang Hang (B.store mv.to) 0 (mv.left + c) q (put i d (Some mv.to) (put i due None us))) (same_put A d due due (Some a') None (Some a) ts) h1) in
              by_final x f (mv.left + c) _ _ (pause_woven A (A.starts a) i due es a' ts1 ticks used tell_a) (pause_woven B (B.starts f.b1) i due f.gs2 mv.to us1 ticks used tell_b)
              (subst (λ q. Woke (A.store a') (mv.left + c) (weave_on A (suc (length ts1)) (A.store a') (put i d (Some a') ts1)) (weave_on B (suc q) (B.store mv.to) (put i d (Some mv.to) us1)))
              (sym (lengths f.b1))
              (wake_all (suc (length ts1)) (suc (length ts1)) (A.store a') (B.store mv.to) (mv.left + c) (put i d (Some a') ts1) (put i d (Some mv.to) us1) near
              (length_put A i d (Some a') ts1 ∙ sym (lengths f.b1) ∙ sym (length_put B i d (Some mv.to) us1)) h2 (few_of A i d (Some a') ts1 (length ts1) (omega arith))
              (few_of B i d (Some mv.to) us1 (length ts1) (let q = lengths f.b1 in omega arith))))
              (omega arith)
          by_after (ends x how f ex near) =
              let us1 : List (Thread SB) = put i due (Some f.b1) us in
              let tell_a : last_event es ≡ Some (ended how) = ap last_event f.es_are ∙ last_of f.es1 x ∙ ap (λ (z : Event). Some z) ex in
              let tell_b : last_event f.gs2 ≡ Some (ended how) = f.tells ∙ ap (λ (z : Event). Some z) ex in
              let h2 : AllHang Hang (B.store mv.to) 0 c (put i due None ts1) (put i due None us1) =
              subst (λ q. AllHang Hang (B.store mv.to) 0 c (put i due None ts1) q) (sym (twice B i us (record { due = due; at = Some f.b1 }) (record { due = due; at = None })))
              (subst (λ q. AllHang Hang (B.store mv.to) 0 c q (put i due None us)) (sym (twice A i ts (record { due = due; at = Some a }) (record { due = due; at = None }))) more) in
              by_final x f c _ _ (end_woven A (A.starts a) i due es a' ts1 how tell_a) (end_woven B (B.starts f.b1) i due f.gs2 mv.to us1 how tell_b)
              (subst (λ q. Woke (A.store a') c (chain (weave_on A (suc (length ts1))) (ends_strand (A.starts a) how) (A.store a') (put i due None ts1))
              (chain (weave_on B (suc (length us1))) q (B.store mv.to) (put i due None us1)))
              (sym (f.starts how ex))
              (subst (λ q. Woke (A.store a') c (chain (weave_on A (suc (length ts1))) (ends_strand (A.starts a) how) (A.store a') (put i due None ts1))
              (chain (weave_on B (suc q)) (ends_strand (A.starts a) how) (B.store mv.to) (put i due None us1))) (sym (lengths f.b1))
              (by_end (ends_strand (A.starts a) how) us1 near (length_put A i due None ts1 ∙ sym (lengths f.b1) ∙ sym (length_put B i due None us1)) h2)))
              (omega arith)
            where
              by_end : (t : Bool) (xs : List (Thread SB)) → (t ≡ true → Near (A.store a') (B.store mv.to)) → length (put i due None ts1) ≡ length (put i due None xs)
                  → AllHang Hang (B.store mv.to) 0 c (put i due None ts1) (put i due None xs)
                  → Woke (A.store a') c (chain (weave_on A (suc (length ts1))) t (A.store a') (put i due None ts1)) (chain (weave_on B (suc (length ts1))) t (B.store mv.to) (put i due None xs))
              by_end true xs near ls h =
                  wake_all (suc (length ts1)) (suc (length ts1)) (A.store a') (B.store mv.to) c (put i due None ts1) (put i due None xs) (near refl) ls h
                  (few_of A i due None ts1 (length ts1) (omega arith))
                  (few_of B i due None xs (length ts1) (let p = length_put A i due None ts1 in let q = length_put B i due None xs in omega arith))
              by_end false xs near ls h = woke_over (A.store a') c (put i due None ts1) (put i due None xs)

      owes_going : OwesW n spare v w (weave A v)
      owes_going = subst (OwesW n spare v w) (sym (woven_at A i due a ts lt)) (by_next (A.next i a) refl)
        where
          by_next : (o : Turn SA Note) → A.next i a ≡ o → OwesW n spare v w (moved A (A.starts a) i due ts1 o)
          by_next stops e = λ m. rests_going i due a b ts us m lt lt_u (law.stop i g a b go calm e m)
          by_next (goes k es a') e = (λ m le. rests_going i due a b ts us m lt lt_u (law.slow i g k es a a' b go calm e m le), λ enough. moved_on k es a' e enough)

    still_over : (us : List (Thread SB)) (m : ℕ) → run (weave B) m (finished us) ≡ still (finished us)
    still_over us m = no_move (Woven SB) Told (weave B) m (finished us) (finished_stops B us)

    pub sees_pre : (spare : ℕ) (v : Woven SA) (w : Woven SB) → Pre spare v w → SeesW v w
    sees_pre spare _ _ (pre_goes i due c g a b ts us lt same few go hung) = sees_going i due a b ts us lt (omega arith) (law.sees i g a b go)
    sees_pre spare _ _ (pre_over ts us) = seen_over (store_in (standing_now (finished ts))) us

    owes : (n spare : ℕ) (v : Woven SA) (w : Woven SB) → 0 < n → Pre spare v w → Allowed n v → OwesW n spare v w (weave A v)
    owes n spare _ _ pos (pre_goes i due c g a b ts us lt same few go hung) al = owes_going n spare i due c g a b ts us pos lt same few go hung al
    owes n spare _ _ pos (pre_over ts us) al =
        subst (OwesW n spare (finished ts) (finished us)) (sym (finished_stops A ts))
        (λ m. subst (RestsW (finished ts)) (sym (still_over us m)) (refl, seen_over (store_in (standing_now (finished ts))) us))

    at_once : (v : Woven SA) (w : Woven SB) → SeesW v w → (m : ℕ) → m ≤ 0 → RestsW v (run (weave B) m w)
    at_once v w h m le = let z : m ≡ 0 = omega arith in subst (λ j. RestsW v (run (weave B) j w)) (sym z) (refl, h)

    owed : (n spare : ℕ) (v : Woven SA) (w : Woven SB) (o : Turn (Woven SA) Told) → weave A v ≡ o → 0 < n → Joint n spare v w → OwesW n spare v w o
    owed n spare v w o e pos r = subst (OwesW n spare v w) e (owes n spare v w pos r.0 r.1)

    -- STRANDS IN STEP
    pub in_step : Follows (Woven SA) (Woven SB) Told Told (weave A) (weave B) Joint QT dear_told SeesW SeesAt
    in_step = record {
      less = λ n k spare v w r le. (r.0, allowed_less n k v r.1 le);
      stop = λ n spare v w r e m le. ⊎_elim (λ pos. owed n spare v w stops e pos r m) (λ no_cost. at_once v w (sees_pre spare v w r.0) m (omega arith)) (cases_lt 0 n);
      slow = λ n spare k es v' v w r e few m le. ⊎_elim (λ pos. (owed n spare v w (goes k es v') e pos r).0 m (omega arith)) (λ no_cost. at_once v w (sees_pre spare v w r.0) m (omega arith))
          (cases_lt 0 n);
      move = λ n spare v w k es v' r e enough. (owed n spare v w (goes k es v') e (omega arith) r).1 enough;
    }
