-- What programs' calls have met begins what they meet later, with some answer where they wait.
use Rattle.std.proofs.Common.{arith, ◌≡◌, ◌<◌, ◌^◌, ◌⊎◌, inl, inr, ℕ, suc, List, [], ◌∷◌, ◌++◌, length, Option, Some, None, Bool, true, false, slice_get, slice_set, refl, sym, ap, ◌∙◌, subst, append_assoc, append-nil, length-set}
use Rattle.std.specs.Option.{unwrap_or}
use Rattle.std.proofs.lemmas.Bool.{cases_eq}
use Rattle.std.proofs.lemmas.Option.{slice_get_within, same_Some}
use Rattle.wa_model.specs.declared.answers.Detach.{Detach}
use Rattle.wa_model.specs.Outside.{Line}
use Rattle.wa_model.specs.Plan.{Outcome}
use Rattle.wa_model.specs.Behaves.{IsPrefix}
use Rattle.world_model.specs.World.{Program}
use Rattle.world_laws.proofs.Places.{item, of_map, set_here, set_there}
use Rattle.mailbox_device.specs.declared.mailbox.Settled.{Settled}
use Rattle.mail_laws.specs.Told.{AreSent, Await, Common, NotAmong, Teller, TellsEvent, due_of, having_got, having_told, if_going, no_teller, pending, settle_all, tells_stall, tells_turn, unless_waiting}
use Rattle.mail_laws.proofs.Promises.{not_sent, still_sent}

-- ---- who is sent a value

-- who is sent nothing stays
pub settle_out : (due : ℕ) (ss : List Settled) (tellers : List Teller) (j : ℕ) → NotAmong j ss → slice_get (settle_all due ss tellers) j ≡ slice_get tellers j
settle_out due [] tellers j out = refl
settle_out due (s ∷ ss) tellers j out =
    settle_out due ss (slice_set tellers s.program (having_got due s.value (unwrap_or (slice_get tellers s.program) no_teller))) j out.1
    ∙ set_there tellers s.program j (having_got due s.value (unwrap_or (slice_get tellers s.program) no_teller)) out.0

pub settled_long : (due : ℕ) (ss : List Settled) (tellers : List Teller) → length (settle_all due ss tellers) ≡ length tellers
settled_long due [] tellers = refl
settled_long due (s ∷ ss) tellers =
    settled_long due ss (slice_set tellers s.program (having_got due s.value (unwrap_or (slice_get tellers s.program) no_teller)))
    ∙ length-set tellers s.program (having_got due s.value (unwrap_or (slice_get tellers s.program) no_teller))

-- A program that waited has got a value.
pub record HasGot (due : ℕ) (t t' : Teller) : Type 0 where
  pub r : Await
  pub value : ℕ
  pub small : value < 2 ^ 32
  pub unfinished : t.has_ended ≡ false
  pub receive : t.receive ≡ Some r
  pub is : t' ≡ having_got due value t

-- what each program is told as, once those that were sent a value have got it
pub got_at : (due : ℕ) (ss : List Settled) (tellers : List Teller) (j : ℕ) (t t' : Teller) → AreSent tellers ss → slice_get tellers j ≡ Some t → slice_get (settle_all due ss tellers) j ≡ Some t'
    → (t' ≡ t) ⊎ HasGot due t t'
got_at due [] tellers j t t' sent e e' = inl (same_Some t' t (sym e' ∙ e))
got_at due (s ∷ ss) tellers j t t' sent e e' =
    by (cases_eq j s.program) (λ there. got_at due ss (slice_set tellers s.program got) j t t' (still_sent tellers ss s.program got sent.2 sent.3) there e')
  where
    got : Teller
    got = having_got due s.value (unwrap_or (slice_get tellers s.program) no_teller)

    by : (j ≡ s.program) ⊎ (j ≡ s.program → ⊥) → (slice_get (slice_set tellers s.program got) j ≡ Some t → (t' ≡ t) ⊎ HasGot due t t') → (t' ≡ t) ⊎ HasGot due t t'
    by (inr other) on = on (set_there tellers s.program j got other ∙ e)
    by (inl same) on =
        let here : slice_get (settle_all due ss (slice_set tellers s.program got)) s.program ≡ Some got =
        settle_out due ss (slice_set tellers s.program got) s.program sent.2 ∙ set_here tellers s.program got sent.0.t sent.0.there in
        let is : t' ≡ got = same_Some t' got (sym e' ∙ ap (slice_get (settle_all due ss (slice_set tellers s.program got))) same ∙ here) in
        let was : sent.0.t ≡ t = same_Some sent.0.t t (sym sent.0.there ∙ ap (slice_get tellers) (sym same) ∙ e) in
        inr (record {
          r = sent.0.r;
          value = s.value;
          small = sent.1;
          unfinished = ap (λ (x : Teller). x.has_ended) (sym was) ∙ sent.0.unfinished;
          receive = ap (λ (x : Teller). x.receive) (sym was) ∙ sent.0.waits;
          is = is ∙ ap (λ (o : Option Teller). having_got due s.value (unwrap_or o no_teller)) (ap (slice_get tellers) (sym same) ∙ e);
        })

-- ---- one program

-- What its calls have met begins what they met later, with some answer where it waits, whatever answer comes where it waits then; one that has ended stays.
pub record GrownOne (t t' : Teller) : Type 0 where
  pub later : (u : ℕ) → u < 2 ^ 32 → (v : ℕ) × (v < 2 ^ 32) × IsPrefix (t.met ++ pending v t.receive) (t'.met ++ pending u t'.receive)
  pub over : t.has_ended ≡ true → t' ≡ t

same_one : (t t' : Teller) → t' ≡ t → GrownOne t t'
same_one t t' e = record {
  later = λ u small. (u, small, ([], ap (λ (x : Teller). x.met ++ pending u x.receive) e ∙ sym (append-nil (t.met ++ pending u t.receive))));
  over = λ o. e;
}

pub prefix_on : (xs ys zs : List Outcome) → IsPrefix xs ys → IsPrefix ys zs → IsPrefix xs zs
prefix_on xs ys zs h k = (h.0 ++ k.0, k.1 ∙ ap (λ (l : List Outcome). l ++ k.0) h.1 ∙ append_assoc xs h.0 k.0)

-- ---- all of them

pub record Grown (first tellers : List Teller) : Type 0 where
  pub long : length tellers ≡ length first
  pub each : (i : ℕ) (t t' : Teller) → slice_get first i ≡ Some t → slice_get tellers i ≡ Some t' → GrownOne t t'

pub grown_same : (tellers : List Teller) → Grown tellers tellers
grown_same tellers = record { long = refl; each = λ i t t' e e'. same_one t t' (same_Some t' t (sym e' ∙ e)) }

pub grown_on : (first mid tellers : List Teller) → Grown first mid → Grown mid tellers → Grown first tellers
grown_on first mid tellers g h = record {
  long = h.long ∙ g.long;
  each = λ i t t'' e e''.
      let u = item mid i (omega (arith, slice_get_within first i t e, g.long)) in
      let a = g.each i t u.0 e u.1 in
      let b = h.each i u.0 t'' u.1 e'' in
      record {
        later = λ v small.
            let k = b.later v small in
            let j = a.later k.0 k.1 in
            (j.0, j.1, prefix_on (t.met ++ pending j.0 t.receive) (u.0.met ++ pending k.0 u.0.receive) (t''.met ++ pending v t''.receive) j.2 k.2);
        over = λ o. let same = a.over o in b.over (ap (λ (x : Teller). x.has_ended) same ∙ o) ∙ same;
      };
}

due_says : (b : Bool) (o : Option Await) (d e : ℕ) → if_going b (unless_waiting o d) ≡ Some e → (b ≡ false) × (o ≡ None)
due_says true o d e is = absurd cc
due_says false None d e is = (refl, refl)
due_says false (Some r) d e is = absurd cc

going_says : (b : Bool) (o : Option Await) (r : Await) → if_going b o ≡ Some r → b ≡ false
going_says true o r is = absurd cc
going_says false o r is = refl

true_false : true ≡ false → ⊥
true_false e = cc

-- with each event
pub event_grows : (programs : List Program) (detaches : List Detach) (number : ℕ) (tellers : List Teller) (c : Common) (lines : List Line) (tellers' : List Teller) (c' : Common)
    → TellsEvent programs detaches number tellers c lines tellers' c' → Grown tellers tellers'
event_grows programs detaches number tellers c lines tellers' c' (tells_turn x) = record {
  long = ap length x.after ∙ settled_long (suc x.t.due) x.behind.settled base ∙ length-set tellers x.i now;
  each = λ j t t' e e'. each j t t' e (ap (λ (l : List Teller). slice_get l j) (sym x.after) ∙ e') (cases_eq j x.i);
}
  where
    now : Teller
    now = having_told x.t x.turn x.met x.answers x.behind.receive

    base : List Teller
    base = slice_set tellers x.i now

    awake : (x.t.has_ended ≡ false) × (x.t.receive ≡ None)
    awake =
        let u = of_map due_of tellers x.i (Some x.t.due) x.next.there in
        let same : u.0 ≡ x.t = same_Some u.0 x.t (sym u.1 ∙ x.there) in
        due_says x.t.has_ended x.t.receive x.t.due x.t.due (ap due_of (sym same) ∙ u.2)

    out : NotAmong x.i x.behind.settled
    out = not_sent tellers x.behind.settled x.i x.t x.there awake.1 x.sent

    each : (j : ℕ) (t t' : Teller) → slice_get tellers j ≡ Some t → slice_get (settle_all (suc x.t.due) x.behind.settled base) j ≡ Some t' → (j ≡ x.i) ⊎ (j ≡ x.i → ⊥) → GrownOne t t'
    each j t t' e e' (inl same) =
        let was : x.t ≡ t = same_Some x.t t (sym x.there ∙ ap (slice_get tellers) (sym same) ∙ e) in
        let is : now ≡ t' =
        same_Some now t' (sym (settle_out (suc x.t.due) x.behind.settled base x.i out ∙ set_here tellers x.i now x.t x.there) ∙ ap (slice_get (settle_all (suc x.t.due) x.behind.settled base)) (sym same) ∙ e') in
        subst (λ (y : Teller). GrownOne y t') was
        (subst (λ (y : Teller). GrownOne x.t y) is
        (record {
          later = λ u small. (
            0,
            omega arith,
            (
              x.met ++ pending u x.behind.receive,
              append_assoc x.t.met x.met (pending u x.behind.receive)
                  ∙ ap (λ (l : List Outcome). l ++ (x.met ++ pending u x.behind.receive)) (sym (append-nil x.t.met))
                  ∙ ap (λ (o : Option Await). (x.t.met ++ pending 0 o) ++ (x.met ++ pending u x.behind.receive)) (sym awake.1),
            ),
          );
          over = λ o. absurd (true_false (sym o ∙ awake.0));
        }))
    each j t t' e e' (inr other) =
        by (got_at (suc x.t.due) x.behind.settled base j t t' (still_sent tellers x.behind.settled x.i now out x.sent) (set_there tellers x.i j now other ∙ e) e')
      where
        by : (t' ≡ t) ⊎ HasGot (suc x.t.due) t t' → GrownOne t t'
        by (inl same) = same_one t t' same
        by (inr g) = record {
          later = λ u small. (
            g.value,
            g.small,
            (
              [],
              ap (λ (y : Teller). y.met ++ pending u y.receive) g.is ∙ ap (λ (o : Option Await). (t.met ++ pending g.value o) ++ []) (sym g.receive),
            ),
          );
          over = λ o. absurd (true_false (sym o ∙ g.unfinished));
        }
event_grows programs detaches number tellers c lines tellers' c' (tells_stall x) = record {
  long = ap length x.after ∙ length-set tellers x.i now;
  each = λ j t t' e e'. each j t t' e (ap (λ (l : List Teller). slice_get l j) (sym x.after) ∙ e') (cases_eq j x.i);
}
  where
    now : Teller
    now = record x.t { has_ended = true }

    each : (j : ℕ) (t t' : Teller) → slice_get tellers j ≡ Some t → slice_get (slice_set tellers x.i now) j ≡ Some t' → (j ≡ x.i) ⊎ (j ≡ x.i → ⊥) → GrownOne t t'
    each j t t' e e' (inr other) = same_one t t' (same_Some t' t (sym e' ∙ set_there tellers x.i j now other ∙ e))
    each j t t' e e' (inl same) =
        let was : x.t ≡ t = same_Some x.t t (sym x.there ∙ ap (slice_get tellers) (sym same) ∙ e) in
        let is : now ≡ t' = same_Some now t' (sym (set_here tellers x.i now x.t x.there) ∙ ap (slice_get (slice_set tellers x.i now)) (sym same) ∙ e') in
        subst (λ (y : Teller). GrownOne y t') was
        (subst (λ (y : Teller). GrownOne x.t y) is
        (record {
          later = λ u small. (u, small, ([], sym (append-nil (x.t.met ++ pending u x.t.receive))));
          over = λ o. absurd (true_false (sym o ∙ going_says x.t.has_ended x.t.receive x.r x.waits));
        }))
