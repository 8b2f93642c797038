-- Traces of a machine go with its moves.
use Rattle.std.proofs.Common.{arith, ◌≡◌, ◌≤◌, ◌<◌, ℕ, zero, suc, ◌+◌, ◌-◌, List, [], ◌∷◌, ◌++◌, map, Bool, true, false, refl, sym, ap, ◌∙◌, append_assoc, subst}
use Rattle.std.specs.Prelude.{nat_lt, if◌then◌else◌}
use Rattle.std.specs.List.{filter_map}
use Rattle.std.proofs.lemmas.List.{map-append}
use Rattle.std.proofs.lemmas.List.Elements.{filter_map-append}
use Rattle.wa_types.specs.Base.{Base}
use Rattle.wa_types.specs.Syntax.{Module}
use Rattle.wa_model.specs.Machine.{Turn, stops, goes, after, still, pay, run_with, CostsMore}
use Rattle.wa_model.specs.Plan.{Plan}
use Rattle.run_theory.specs.DeterminedRuns.{start_of}
use Rattle.wa_model.specs.Blocking.{Note, State, events_of, blocking}
use Rattle.wa_model.specs.Behaves.{IsPrefix}
use Rattle.run_theory.specs.Touches.{trace_turn, trace_with, trace, Touch, touched, touch_of, seen_at, seen_note}
use Rattle.run_theory.proofs.Runs.{lt_true, lt_false}
use Rattle.run_laws.specs.Seeing.{made_event, SeenByMoves, SeenNoFurther, SeenEvents, SeenGrows}

module _ {S E X : Type 0} (next : S → Turn S E) (see : S → List X) (shows : E → X) where
  none_seen : (on : ℕ → S → List X) (here : List X) (t : Turn S E) → trace_turn shows on 0 here t ≡ []
  none_seen on here stops = refl
  none_seen on here (goes k es t) = ap (λ b. if b then here ++ (map shows es ++ on (0 - suc k) t) else []) (lt_false k 0 (omega arith))

  same_turn : (f g : ℕ → S → List X) (n : ℕ) (here : List X) (o : Turn S E) → ((m : ℕ) (t : S) → m < n → f m t ≡ g m t) → trace_turn shows f n here o ≡ trace_turn shows g n here o
  same_turn f g n here stops h = refl
  same_turn f g n here (goes k es t) h = by_cost (nat_lt k n) refl
    where
      by_cost : (b : Bool) → nat_lt k n ≡ b → (if b then here ++ (map shows es ++ f (n - suc k) t) else []) ≡ (if b then here ++ (map shows es ++ g (n - suc k) t) else [])
      by_cost true e = let lt : k < n = grind arith in ap (λ xs. here ++ (map shows es ++ xs)) (h (n - suc k) t (omega arith))
      by_cost false e = refl

  -- the number of moves that may be made doesn't matter where it is at least the cost
  same_moves : (a b n : ℕ) (s : S) → n ≤ a → n ≤ b → trace_with next see shows a n s ≡ trace_with next see shows b n s
  same_moves zero zero n s ha hb = refl
  same_moves zero (suc b) n s ha hb =
      let z : 0 ≡ n = omega arith in
      subst (λ m. [] ≡ trace_turn shows (trace_with next see shows b) m (see s) (next s)) z (sym (none_seen (trace_with next see shows b) (see s) (next s)))
  same_moves (suc a) zero n s ha hb =
      let z : 0 ≡ n = omega arith in
      subst (λ m. trace_turn shows (trace_with next see shows a) m (see s) (next s) ≡ []) z (none_seen (trace_with next see shows a) (see s) (next s))
  same_moves (suc a) (suc b) n s ha hb = same_turn (trace_with next see shows a) (trace_with next see shows b) n (see s) (next s) (λ m t h. same_moves a b m t (omega arith) (omega arith))

  pub one_seen : (s t : S) (k n : ℕ) (es : List E) → next s ≡ goes k es t → trace next see shows (suc k + n) s ≡ see s ++ (map shows es ++ trace next see shows n t)
  one_seen s t k n es e =
      let z : suc k + n ≡ suc (k + n) = omega arith in
      let left : suc (k + n) - suc k ≡ n = omega arith in
      ap (λ i. trace next see shows i s) z
      ∙ ap (trace_turn shows (trace_with next see shows (k + n)) (suc (k + n)) (see s)) e
      ∙ ap (λ b. if b then see s ++ (map shows es ++ trace_with next see shows (k + n) (suc (k + n) - suc k) t) else []) (lt_true k (suc (k + n)) (omega arith))
      ∙ ap (λ i. see s ++ (map shows es ++ trace_with next see shows (k + n) i t)) left
      ∙ ap (λ xs. see s ++ (map shows es ++ xs)) (same_moves (k + n) n n t (omega arith) (omega arith))

  pub no_further : (s : S) (n : ℕ) → CostsMore n (next s) → trace next see shows n s ≡ []
  no_further s zero h = refl
  no_further s (suc n) h = by_turn (next s) h
    where
      by_turn : (t : Turn S E) → CostsMore (suc n) t → trace_turn shows (trace_with next see shows n) (suc n) (see s) t ≡ []
      by_turn stops h = refl
      by_turn (goes k es t) h = ap (λ b. if b then see s ++ (map shows es ++ trace_with next see shows n (suc n - suc k) t) else []) (lt_false k (suc n) h)

  -- ---- more cost, more seen

  longer : (xs ys zs : List X) → IsPrefix ys zs → IsPrefix (xs ++ ys) (xs ++ zs)
  longer xs ys zs h = (h.0, ap (λ l. xs ++ l) h.1 ∙ sym (append_assoc xs ys h.0))

  turn_grows : (on : ℕ → S → List X) (n more : ℕ) (here : List X) (o : Turn S E) → ((n : ℕ) (t : S) → IsPrefix (on n t) (on (n + more) t))
      → IsPrefix (trace_turn shows on n here o) (trace_turn shows on (n + more) here o)
  turn_grows on n more here stops h = ([], refl)
  turn_grows on n more here (goes k es t) h = by_cost (nat_lt k n) refl
    where
      by_cost : (b : Bool) → nat_lt k n ≡ b
          → IsPrefix (if b then here ++ (map shows es ++ on (n - suc k) t) else []) (if nat_lt k (n + more) then here ++ (map shows es ++ on (n + more - suc k) t) else [])
      by_cost true e =
          let lt : k < n = grind arith in
          let left : n - suc k + more ≡ n + more - suc k = omega arith in
          let all = longer here (map shows es ++ on (n - suc k) t) (map shows es ++ on (n - suc k + more) t) (longer (map shows es) (on (n - suc k) t) (on (n - suc k + more) t) (h (n - suc k) t)) in (
            all.0,
            ap (λ b. if b then here ++ (map shows es ++ on (n + more - suc k) t) else []) (lt_true k (n + more) (omega arith))
                ∙ ap (λ i. here ++ (map shows es ++ on i t)) (sym left)
                ∙ all.1,
          )
      by_cost false e = (_, refl)

  with_grows : (count n more : ℕ) (s : S) → IsPrefix (trace_with next see shows count n s) (trace_with next see shows count (n + more) s)
  with_grows zero n more s = ([], refl)
  with_grows (suc count) n more s = turn_grows (trace_with next see shows count) n more (see s) (next s) (λ n t. with_grows count n more t)

  pub seen_more : (n more : ℕ) (s : S) → IsPrefix (trace next see shows n s) (trace next see shows (n + more) s)
  seen_more n more s =
      subst (λ xs. IsPrefix xs (trace next see shows (n + more) s)) (same_moves (n + more) n n s (omega arith) (omega arith)) (with_grows (n + more) n more s)

-- ---- runs with blocking imports

pub seen_by_moves : SeenByMoves
seen_by_moves m plan s t k n es e = one_seen (blocking m plan) seen_at seen_note s t k n es e

pub seen_no_further : SeenNoFurther
seen_no_further m plan s n h = no_further (blocking m plan) seen_at seen_note s n h

no_events : (ts : List Touch) → filter_map made_event (map touched ts) ≡ []
no_events [] = refl
no_events (t ∷ ts) = no_events ts

all_events : (xs : List Note) → filter_map made_event (map seen_note xs) ≡ events_of xs
all_events [] = refl
all_events (x ∷ xs) = ap (λ es. x.event ∷ es) (all_events xs)

events_seen : (m : Module) (plan : Plan) (count n : ℕ) (s : State)
    → filter_map made_event (trace_with (blocking m plan) seen_at seen_note count n s) ≡ events_of (run_with (blocking m plan) count n s).events
events_seen m plan zero n s = refl
events_seen m plan (suc count) n s = by_turn (blocking m plan s) (events_seen m plan count)
  where
    by_turn : (t : Turn State Note) → ((n : ℕ) (s : State) → filter_map made_event (trace_with (blocking m plan) seen_at seen_note count n s) ≡ events_of (run_with (blocking m plan) count n s).events)
        → filter_map made_event (trace_turn seen_note (trace_with (blocking m plan) seen_at seen_note count) n (seen_at s) t) ≡ events_of (pay (run_with (blocking m plan) count) n s t).events
    by_turn stops more = refl
    by_turn (goes k es t) more = by_cost (nat_lt k n)
      where
        by_cost : (b : Bool) → filter_map made_event (if b then seen_at s ++ (map seen_note es ++ trace_with (blocking m plan) seen_at seen_note count (n - suc k) t) else [])
            ≡ events_of (if b then after es (run_with (blocking m plan) count (n - suc k) t) else still s).events
        by_cost true =
            filter_map-append made_event (seen_at s) (map seen_note es ++ trace_with (blocking m plan) seen_at seen_note count (n - suc k) t)
            ∙ ap (λ es'. es' ++ filter_map made_event (map seen_note es ++ trace_with (blocking m plan) seen_at seen_note count (n - suc k) t)) (no_events (touch_of s))
            ∙ filter_map-append made_event (map seen_note es) (trace_with (blocking m plan) seen_at seen_note count (n - suc k) t)
            ∙ ap (λ es'. es' ++ filter_map made_event (trace_with (blocking m plan) seen_at seen_note count (n - suc k) t)) (all_events es)
            ∙ ap (λ es'. events_of es ++ es') (more (n - suc k) t)
            ∙ sym (map-append (λ (x : Note). x.event) es (run_with (blocking m plan) count (n - suc k) t).events)
        by_cost false = refl

pub seen_events : SeenEvents
seen_events m plan os n =
    let r = start_of m plan os in
    filter_map-append made_event (map seen_note r.events) (trace (blocking (Base m) plan) seen_at seen_note n r.last)
    ∙ ap (λ es. es ++ filter_map made_event (trace (blocking (Base m) plan) seen_at seen_note n r.last)) (all_events r.events)
    ∙ ap (λ es. events_of r.events ++ es) (events_seen (Base m) plan n n r.last)
    ∙ sym (map-append (λ (x : Note). x.event) r.events (run_with (blocking (Base m) plan) n n r.last).events)

pub seen_grows : SeenGrows
seen_grows m plan os n more =
    let r = start_of m plan os in
    let h = seen_more (blocking (Base m) plan) seen_at seen_note n more r.last in
    (h.0, ap (λ xs. map seen_note r.events ++ xs) h.1 ∙ sym (append_assoc (map seen_note r.events) (trace (blocking (Base m) plan) seen_at seen_note n r.last) h.0))
